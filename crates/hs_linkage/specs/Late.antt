-- What is refused at the end of a unit, when its tags have their bodies (own; X3.159-1989 3.1.2.6 and 3.7.2). Of several refusals the first in the
-- text is answered.
--     is_before a b                 the first place of a unit is before the second one
--     earlier a b                   the earlier of two refusals
--     late_clash it                 a declaration that does not fit another one
--     unlike types o place its      a body that is no longer one with the first one at its brace
--     late_object types its         an object of file scope whose struct has no body
use Rattle.std.specs.Prelude.{ℕ, suc, ◌==◌, Bool, nat_lt, ◌&&◌, ◌||◌, List, [], ◌∷◌, slice_get, Option, Some, None, if◌then◌else◌}
use Rattle.hs_linkage.specs.declared.externals.External.{External}
use Rattle.hs_linkage.specs.declared.late.Late.{Late}
use Rattle.hs_tokens.specs.declared.place.Place.{Place}
use Rattle.hs_tokens.specs.declared.token.Origin.TheVariants as origin
use Rattle.hs_typer.specs.Origins.{fits_first, first_name, struct_brace}
use Rattle.hs_typer.specs.declared.marks.Mark.{Mark}
use Rattle.hs_typer.specs.declared.marks.Tentative.{Tentative}
use Rattle.hs_typer.specs.declared.origins.Brace.{Brace}
use Rattle.hs_typer.specs.declared.origins.Origins.{Origins}
use Rattle.hs_typer.specs.declared.type_error.TypeError.TheVariants.{Untyped, Clash}
use Rattle.hs_typer.specs.declared.typer.Tag.TheVariants as tag
use Rattle.hs_types.specs.TypeTables.{TypeTable, is_complete}

-- Fewer bodies of structs had begun, or as many, and fewer declarations were kept.
abbrev pub is_before : Mark → Mark → Bool
is_before a b = nat_lt a.bodies b.bodies || ((a.bodies == b.bodies) && nat_lt a.declarations b.declarations)

-- the first one, unless the second one is before it
abbrev pub earlier : Option Late → Option Late → Option Late
earlier None other = other
earlier (Some a) None = Some a
earlier (Some a) (Some b) = if is_before b.mark a.mark then Some b else Some a

-- a declaration that does not fit another one
abbrev pub late_clash : Option External → Option Late
late_clash None = None
late_clash (Some it) = Some (record { mark = it.mark; why = Clash it.at it.name })

-- The first of these structs whose body is no longer one with the first one at its brace, and its place among them.
abbrev pub unlike : TypeTable → Origins → ℕ → List ℕ → Option (ℕ × ℕ)
unlike types o place [] = None
unlike types o place (number ∷ rest) = if fits_first types o number then unlike types o (suc place) rest else Some (place, number)

-- the place of a brace
abbrev pub place_of : Brace → Place
place_of brace = record { pos = record { file = brace.file; line = brace.line; col = brace.col }; origin = origin.Plain }

-- A body is at its brace; of the declarations of the unit, so many in all, those for which fewer bodies had begun are before it.
abbrev pub late_at : TypeTable → ℕ → ℕ × ℕ → Option Brace → Option Late
late_at types all it None = None
late_at types all it (Some brace) =
    Some (record {
      mark = record { bodies = it.0; declarations = all };
      why = Clash (place_of brace) (first_name types (tag.Struct it.1));
    })

-- if there is one
abbrev pub late_body : TypeTable → Origins → ℕ → Option (ℕ × ℕ) → Option Late
late_body types o all None = None
late_body types o all (Some it) = late_at types all it (struct_brace (slice_get o.structs it.1))

-- the first object of file scope whose type is not complete
abbrev pub late_object : TypeTable → List Tentative → Option Late
late_object types [] = None
late_object types (it ∷ rest) =
    if is_complete types it.type_id then late_object types rest else Some (record { mark = it.mark; why = Untyped it.at })
