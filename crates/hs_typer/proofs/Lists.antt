-- Lists that are gone through from the end, and what an end of them gives.
use Rattle.std.proofs.Common.{◌≡◌, List, [], ◌∷◌, ◌++◌, Result, Err, refl, ap}
use Rattle.hs_typer.specs.Declarators.{with_first, listed_onto, derived_from, formed_onto}
use Rattle.hs_typer.specs.declared.declarators.Derivation.{Derivation}
use Rattle.hs_typer.specs.declared.type_error.TypeError.{TypeError}
use Rattle.hs_tokens.specs.declared.place.Place.{Place}
use Rattle.hs_types.specs.TypeTables.{TypeTable}
use Rattle.hs_types.specs.declared.row.ListId.{ListId}
use Rattle.hs_types.specs.declared.row.TypeId.{TypeId}

-- the last one comes first
pub listed_last : (ids : List TypeId) (id : TypeId) (p : ListId × TypeTable) → listed_onto (ids ++ id ∷ []) p ≡ listed_onto ids (with_first id p)
listed_last [] id p = refl
listed_last (first ∷ ids) id p = ap (with_first first) (listed_last ids id p)

pub formed_last : (at : Place) (parts : List Derivation) (its : Derivation) (given : Result (TypeId × TypeTable) TypeError)
    → formed_onto at (parts ++ its ∷ []) given ≡ formed_onto at parts (derived_from at its given)
formed_last at [] its given = refl
formed_last at (first ∷ parts) its given = ap (derived_from at first) (formed_last at parts its given)

-- a refusal stays
pub formed_refused : (at : Place) (parts : List Derivation) (why : TypeError) → formed_onto at parts (Err why) ≡ Err why
formed_refused at [] why = refl
formed_refused at (first ∷ parts) why = ap (derived_from at first) (formed_refused at parts why)
