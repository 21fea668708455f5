-- What is asked of the outermost aggregate, if it is the last of a list.
use Rattle.std.proofs.Common.{◌≡◌, List, [], ◌∷◌, ◌++◌, refl, ap, ◌∙◌}
use Rattle.std.specs.Prelude.{reverse}
use Rattle.std.proofs.lemmas.List.{reverse-append}
use Rattle.hs_aggregates.specs.Aggregates.{count_begun, is_growing}
use Rattle.hs_aggregates.specs.declared.aggregates.Aggregate.{Aggregate}
use Rattle.hs_operand_types.specs.Types.{is_open}
use Rattle.hs_types.specs.TypeTables.{TypeTable}

-- by induction on those inside
count-last : (inner : List Aggregate) (it : Aggregate) → count_begun (inner ++ it ∷ []) ≡ it.begun
count-last [] it = refl
count-last (first ∷ []) it = refl
count-last (first ∷ next ∷ inner) it = count-last (next ∷ inner) it

-- of the list in the other order
pub count_reversed : (it : Aggregate) (others : List Aggregate) → count_begun (reverse (it ∷ others)) ≡ it.begun
count_reversed it others = ap count_begun (reverse-append (it ∷ []) others) ∙ count-last (reverse others) it

-- whether it is an array of unknown length, likewise
growing-last : (types : TypeTable) (inner : List Aggregate) (it : Aggregate) → is_growing types (inner ++ it ∷ []) ≡ is_open types it.type_id
growing-last types [] it = refl
growing-last types (first ∷ []) it = refl
growing-last types (first ∷ next ∷ inner) it = growing-last types (next ∷ inner) it

pub growing_reversed : (types : TypeTable) (it : Aggregate) (others : List Aggregate)
    → is_growing types (reverse (it ∷ others)) ≡ is_open types it.type_id
growing_reversed types it others =
    ap (is_growing types) (reverse-append (it ∷ []) others) ∙ growing-last types (reverse others) it
