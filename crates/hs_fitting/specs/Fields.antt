-- What is known of a field that is found in a table of types.
use Rattle.std.proofs.Common.{◌≡◌, ℕ, Option, Some, None, refl}
use Rattle.std.specs.Prelude.{slice_get}
use Rattle.hs_tree.specs.Objects.{field_in, field_of}
use Rattle.hs_types.specs.TypeTables.{TypeTable, body_of, IsRight, IsBody}
use Rattle.hs_types.specs.declared.body.Body.{Body}
use Rattle.hs_types.specs.declared.body.Field.{Field}
use Rattle.hs_types.specs.declared.row.FieldId.{FieldId}
use Rattle.hs_types.specs.TableLaws.{body_before}

-- ---- a field that is found

-- the struct has its body, and the field is in it
field_known : (o : Option Body) (place : ℕ) (its : Field) → field_in o place ≡ Some its
    → (body : Body) × (o ≡ Some body) × (slice_get body.fields place ≡ Some its)
field_known None place its given = absurd cc
field_known (Some body) place its given = (body, refl, given)

-- what is known of it
pub record FieldThere (types : TypeTable) (number place : ℕ) (its : Field) : Type 0 where
  pub body : Body
  pub is : body_of types number ≡ Some body
  pub right : IsBody types body
  pub at : slice_get body.fields place ≡ Some its

pub field_there : (types : TypeTable) (id : FieldId) (its : Field) → IsRight types → field_of types id ≡ Some its → FieldThere types id.of id.place its
field_there types id its right given =
    let had = field_known (body_of types id.of) id.place its given in
    record {
      body = had.0;
      is = had.1;
      right = right.bodies id.of had.0 (body_before (slice_get types.structs id.of) had.0 had.1);
      at = had.2;
    }
