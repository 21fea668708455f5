-- What initialisers see of a type that is complete stays as it is when the table grows.
--     row_stays, size_stays           the type, and what its objects take
--     next_stays, takes_stays         the next member or element, and whether an expression initialises it
--     scalar_size                     a scalar takes a byte or more
use Rattle.std.proofs.Common.{◌≡◌, ◌≤◌, Bool, true, false, ◌||◌, Option, Some, None, refl, ap, sym, subst, ◌∙◌, if◌then◌else◌, arith}
use Rattle.std.specs.Prelude.{is_some, option_map}
use Rattle.hs_base.specs.Options.{some_there, some_same}
use Rattle.hs_fitting.specs.Answers.{false_true}
use Rattle.hs_fitting.specs.Moves.{IsWhole}
use Rattle.hs_fitting.specs.Scalars.{Aggregate, Subobject, IsSolidRow, IsSolid, whole_solid}
use Rattle.hs_aggregates.specs.Aggregates.{member_at, next_by, next_in, takes, character_row, character_of, text_kind}
use Rattle.hs_tree.specs.Kinds.{kind_of_row, pointed_of_row, element_of_row, length_of_row, element, is_scalar, array_length}
use Rattle.hs_tree.specs.Objects.{field_in, field_of}
use Rattle.hs_types.specs.Growing.{layout_stays}
use Rattle.hs_types.specs.Layouts.{integer_layout, word_layout}
use Rattle.hs_types.specs.TypeTables.{TypeTable, row_of, body_of, constants_of, layout_in, layout_of, size_in, size_of, IsRight, Grows}
use Rattle.hs_types.specs.declared.body.Body.{Body}
use Rattle.hs_types.specs.declared.integer.Integer.{Integer}
use Rattle.hs_types.specs.declared.integer.Integer.TheVariants as kind
use Rattle.hs_types.specs.declared.row.FieldId.{FieldId}
use Rattle.hs_types.specs.declared.row.Row.{Row}
use Rattle.hs_types.specs.declared.row.Row.TheVariants as row
use Rattle.hs_types.specs.declared.row.TypeId.{TypeId}

-- what is complete has a body if it is a struct
mapped_there : (o : Option Body) → is_some (option_map (λ body. body.layout) o) ≡ true → (body : Body) × (o ≡ Some body)
mapped_there None is = absurd cc
mapped_there (Some body) is = (body, refl)

-- the row of a type that is solid
solid_row : (types : TypeTable) (id : TypeId) (o : Option Row) → row_of types id ≡ o → IsSolidRow types id o → (it : Row) × (o ≡ Some it)
solid_row types id None same solid = absurd (false_true (sym (rw same refl) ∙ solid))
solid_row types id (Some it) same solid = (it, refl)

module _ (types : TypeTable) (right : IsRight types) (later : TypeTable) (grows : Grows types later) where
  pub row_stays : (id : TypeId) → IsSolid types id → row_of later id ≡ row_of types id
  row_stays id solid =
      let had = solid_row types id (row_of types id) refl solid in
      grows.rows id.number had.0 had.1 ∙ sym had.1

  pub size_stays : (id : TypeId) → IsWhole types id → size_of later id ≡ size_of types id
  size_stays id whole =
      let had = some_there (layout_of types id) whole in
      ap size_in (layout_stays types later id had.0 grows had.1 ∙ sym had.1)

  -- elements of a type that is solid are complete
  elements_whole : (id of : TypeId) (o : Option Row) → row_of types id ≡ o → IsSolidRow types id o → element_of_row o ≡ Some of → IsWhole types of
  elements_whole id of None same solid is = absurd cc
  elements_whole id of (Some row.Void) same solid is = absurd cc
  elements_whole id of (Some (row.Integer its)) same solid is = absurd cc
  elements_whole id of (Some (row.Pointer other)) same solid is = absurd cc
  elements_whole id of (Some (row.Enumeration number)) same solid is = absurd cc
  elements_whole id of (Some (row.Struct number)) same solid is = absurd cc
  elements_whole id of (Some (row.Array other length layout)) same solid is =
      let its : other ≡ of = some_same other of is in
      let fits = right.rows id.number (row.Array other length layout) same in
      rw (← its, fits.1) refl
  elements_whole id of (Some (row.OpenArray other)) same solid is =
      let its : other ≡ of = some_same other of is in
      rw (← its) solid
  elements_whole id of (Some (row.Function result list)) same solid is = absurd cc

  pub element_whole : (id of : TypeId) → IsSolid types id → element types id ≡ Some of → IsWhole types of
  element_whole id of solid is = elements_whole id of (row_of types id) refl solid is

  -- ---- the next member or element

  -- a field of a struct that has its body
  pub field_stays : (id : FieldId) → is_some (option_map (λ body. body.layout) (body_of types id.of)) ≡ true → field_of later id ≡ field_of types id
  field_stays id is =
      let had = mapped_there (body_of types id.of) is in
      ap (λ o. field_in o id.place) (grows.bodies id.of had.0 had.1 ∙ sym had.1)

  next_by_stays : (it : Aggregate) (o : Option Row) → row_of types it.type_id ≡ o → IsSolidRow types it.type_id o
      → next_by later it o ≡ next_by types it o
  next_by_stays it None same solid = refl
  next_by_stays it (Some row.Void) same solid = refl
  next_by_stays it (Some (row.Integer its)) same solid = refl
  next_by_stays it (Some (row.Pointer of)) same solid = refl
  next_by_stays it (Some (row.Enumeration number)) same solid = refl
  next_by_stays it (Some (row.Struct number)) same solid =
      let id : FieldId = record { of = number; place = it.begun } in
      let whole : is_some (option_map (λ body. body.layout) (body_of types number)) ≡ true =
      subst (λ o. is_some (layout_in types o) ≡ true) same solid in
      ap (member_at it id) (field_stays id whole)
  next_by_stays it (Some (row.Array of length layout)) same solid =
      let size : size_of later of ≡ size_of types of = size_stays of (elements_whole it.type_id of (Some (row.Array of length layout)) same solid refl) in
      rw size refl
  next_by_stays it (Some (row.OpenArray of)) same solid =
      let size : size_of later of ≡ size_of types of = size_stays of solid in
      rw size refl
  next_by_stays it (Some (row.Function result list)) same solid = refl

  pub next_stays : (it : Aggregate) → IsSolid types it.type_id → next_in later it ≡ next_in types it
  next_stays it solid =
      ap (next_by later it) (row_stays it.type_id solid) ∙ next_by_stays it (row_of types it.type_id) refl solid

  -- ---- whether an expression initialises it

  pub scalar_stays : (id : TypeId) → IsSolid types id → is_scalar later id ≡ is_scalar types id
  scalar_stays id solid = ap (λ o. is_some (kind_of_row o) || is_some (pointed_of_row o)) (row_stays id solid)

  character_stays : (o : Option TypeId) → ((of : TypeId) → o ≡ Some of → IsWhole types of) → character_of later o ≡ character_of types o
  character_stays None whole = refl
  character_stays (Some of) whole = ap character_row (row_stays of (whole_solid types of (whole of refl)))

  pub text_kind_stays : (id : TypeId) → IsSolid types id → text_kind later id ≡ text_kind types id
  text_kind_stays id solid =
      ap (λ o. character_of later (element_of_row o)) (row_stays id solid) ∙
      character_stays (element types id) (λ of is. element_whole id of solid is)

  pub element_stays : (id : TypeId) → IsSolid types id → element later id ≡ element types id
  element_stays id solid = ap element_of_row (row_stays id solid)

  pub length_stays : (id : TypeId) → IsSolid types id → array_length later id ≡ array_length types id
  length_stays id solid = ap length_of_row (row_stays id solid)

  pub takes_stays : (text : Bool) (sub : Subobject) → IsSolid types sub.type_id → takes later text sub ≡ takes types text sub
  takes_stays text sub solid =
      rw (scalar_stays sub.type_id solid, text_kind_stays sub.type_id solid) refl

-- a scalar takes a byte or more
kind_size : (its : Integer) → 1 ≤ size_in (Some (integer_layout its))
kind_size kind.Char = omega arith
kind_size kind.SignedChar = omega arith
kind_size kind.UnsignedChar = omega arith
kind_size kind.Short = omega arith
kind_size kind.UnsignedShort = omega arith
kind_size kind.Int = omega arith
kind_size kind.UnsignedInt = omega arith
kind_size kind.Long = omega arith
kind_size kind.UnsignedLong = omega arith

enumeration_size : (b : Bool) → is_some (if b then Some word_layout else None) ≡ true → 1 ≤ size_in (if b then Some word_layout else None)
enumeration_size true is = omega arith
enumeration_size false is = absurd cc

row_size : (types : TypeTable) (o : Option Row) → (is_some (kind_of_row o) || is_some (pointed_of_row o)) ≡ true → is_some (layout_in types o) ≡ true
    → 1 ≤ size_in (layout_in types o)
row_size types None is whole = absurd cc
row_size types (Some row.Void) is whole = absurd cc
row_size types (Some (row.Integer its)) is whole = kind_size its
row_size types (Some (row.Pointer of)) is whole = omega arith
row_size types (Some (row.Enumeration number)) is whole = enumeration_size (is_some (constants_of types number)) whole
row_size types (Some (row.Struct number)) is whole = absurd cc
row_size types (Some (row.Array of length layout)) is whole = absurd cc
row_size types (Some (row.OpenArray of)) is whole = absurd cc
row_size types (Some (row.Function result list)) is whole = absurd cc

pub scalar_size : (types : TypeTable) (id : TypeId) → is_scalar types id ≡ true → IsWhole types id → 1 ≤ size_of types id
scalar_size types id is whole = row_size types (row_of types id) is whole
