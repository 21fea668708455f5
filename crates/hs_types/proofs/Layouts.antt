-- Layouts: what is laid out is the body of the struct, and what is too large is refused.
use Rattle.std.proofs.Common.{◌≡◌, ◌≤◌, ◌<◌, ◌+◌, ℕ, zero, suc, Bool, true, false, List, [], ◌∷◌, map, Option, Some, None, refl, ap, sym, if◌then◌else◌, arith}
use Rattle.std.proofs.lemmas.Bool.Decides.{nat_tests}
use Rattle.std.specs.Prelude.{slice_get, nat_le}
use Rattle.hs_types.specs.Layouts.{most_bytes, placed, offsets_from, end_from, struct_size, struct_layout}
use Rattle.hs_types.specs.TypeTables.{TypeTable, IsBody, HaveLayouts, fields_from, layouts_of, layout_of, body_from, laid, measured, measured_first}
use Rattle.std.specs.Prelude.{Ok, Err}
use Rattle.hs_types.specs.declared.body.Measured.{Measured}
use Rattle.hs_types.specs.declared.body.Member.{Member}
use Rattle.hs_types.specs.declared.types.TypeEnd.TheVariants as end
use Rattle.hs_types.specs.declared.body.Body.{Body}
use Rattle.hs_types.specs.declared.body.Field.{Field}
use Rattle.hs_types.specs.declared.layout.Layout.{Layout}
use Rattle.hs_types.specs.LayoutLaws.{end_after, end_size}

-- What is laid out so far, and what is left, are the fields of the struct.
fields_from-laid : (free : ℕ) (members : List Measured)
    → map (λ field. field.offset) (fields_from free members) ≡ offsets_from free (map (λ field. field.layout) (fields_from free members))
fields_from-laid free [] = refl
fields_from-laid free (member ∷ members) =
    ap (λ its. placed free member.layout ∷ its) (fields_from-laid (placed free member.layout + member.layout.size) members)

layouts-fields_from : (free : ℕ) (members : List Measured) → map (λ field. field.layout) (fields_from free members) ≡ layouts_of members
layouts-fields_from free [] = refl
layouts-fields_from free (member ∷ members) =
    ap (λ its. member.layout ∷ its) (layouts-fields_from (placed free member.layout + member.layout.size) members)

abbrev first_of_fields : ℕ → Measured → Field
first_of_fields free member = record { name = member.name; type_id = member.type_id; layout = member.layout; offset = placed free member.layout }

fields_from-types : (types : TypeTable) (free : ℕ) (members : List Measured) → HaveLayouts types members → (place : ℕ) (field : Field)
    → slice_get (fields_from free members) place ≡ Some field → layout_of types field.type_id ≡ Some field.layout
fields_from-types types free [] have place field at = absurd cc
fields_from-types types free (member ∷ members) have zero field at =
    let same : first_of_fields free member ≡ field = cc in
    rw (← same) have.0
fields_from-types types free (member ∷ members) have (suc place) field at =
    fields_from-types types (placed free member.layout + member.layout.size) members have.1 place field at

is-body : (types : TypeTable) (members : List Measured) → HaveLayouts types members → struct_size (layouts_of members) ≤ most_bytes
    → IsBody types (body_from members)
is-body types members have small =
    record {
      fields = fields_from-types types 0 members have;
      offsets = fields_from-laid 0 members;
      layout = ap struct_layout (sym (layouts-fields_from 0 members));
      size = small;
    }

laid-if : (types : TypeTable) (members : List Measured) (body : Body) (b : Bool) → HaveLayouts types members
    → nat_le (struct_size (layouts_of members)) most_bytes ≡ b → (if b then Ok (body_from members) else Err end.TooLarge) ≡ Ok body
    → IsBody types body
laid-if types members body true have small given =
    let same : body_from members ≡ body = cc in rw (← same) (is-body types members have (grind (arith, nat_tests, small)))
laid-if types members body false have small given = absurd cc

-- the body of these members is right
pub laid-is_body : (types : TypeTable) (members : List Measured) (body : Body) → HaveLayouts types members → laid members ≡ Ok body → IsBody types body
laid-is_body types members body have given =
    laid-if types members body (nat_le (struct_size (layouts_of members)) most_bytes) have refl given

too-large-if : (members : List Measured) (b : Bool) → nat_le (struct_size (layouts_of members)) most_bytes ≡ b → most_bytes < struct_size (layouts_of members)
    → (if b then Ok (body_from members) else Err end.TooLarge) ≡ Err end.TooLarge
too-large-if members true small large = absurd (grind (arith, nat_tests, small, large))
too-large-if members false small large = refl

-- Members that end past the largest size are refused, whatever comes after them.
pub laid_too_large : (free : ℕ) (member : Measured) (members all : List Measured)
    → end_from free (layouts_of (member ∷ members)) ≡ end_from 0 (layouts_of all)
    → most_bytes < placed free member.layout + member.layout.size → laid all ≡ Err end.TooLarge
laid_too_large free member members all same past =
    too-large-if all (nat_le (struct_size (layouts_of all)) most_bytes) refl
    (omega
    (arith, past, same, end_after (placed free member.layout + member.layout.size) (layouts_of members), end_size (layouts_of all)))

abbrev first_measured : Member → Layout → Measured
first_measured member layout = record { name = member.name; type_id = member.type_id; layout = layout }

-- the members that are measured have the layouts of their types
have-first : (types : TypeTable) (member : Member) (members : List Measured) (layout : Option Layout) (rest : Option (List Measured))
    → layout_of types member.type_id ≡ layout → ((its : List Measured) → rest ≡ Some its → HaveLayouts types its)
    → measured_first member layout rest ≡ Some members → HaveLayouts types members
have-first types member members None rest is have given = absurd cc
have-first types member members (Some layout) None is have given = absurd cc
have-first types member members (Some layout) (Some rest) is have given =
    let same : first_measured member layout ∷ rest ≡ members = cc in rw (← same) (is, have rest refl)

pub measured_have : (types : TypeTable) (members : List Member) (its : List Measured) → measured types members ≡ Some its → HaveLayouts types its
measured_have types [] its given = let none : [] ≡ its = cc in rw (← none) tt
measured_have types (member ∷ members) its given =
    have-first types member its (layout_of types member.type_id) (measured types members) refl (measured_have types members) given
