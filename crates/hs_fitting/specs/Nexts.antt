-- The next member or element of an aggregate, as a list of initialisers goes through it, by the type of the aggregate.
--     next_known                      what is known of it
use Rattle.std.proofs.Common.{◌≡◌, ◌≤◌, ◌<◌, ◌+◌, ◌*◌, ◌==◌, ◌||◌, ℕ, suc, Bool, true, false, Option, Some, None, refl, ap, sym, subst, ◌∙◌, if◌then◌else◌, arith}
use Rattle.std.proofs.lemmas.Bool.Decides.{nat_tests}
use Rattle.std.proofs.lemmas.Nat.{mul-le}
use Rattle.std.specs.Prelude.{nat_lt, nat_le, slice_get}
use Rattle.hs_base.specs.Options.{some_same}
use Rattle.hs_fitting.specs.Answers.{none_some, false_true}
use Rattle.hs_fitting.specs.Fields.{FieldThere, field_there}
use Rattle.hs_fitting.specs.Moves.{IsWhole}
use Rattle.hs_fitting.specs.Scalars.{Aggregate, Subobject, Scalars, Within, IsAt, IsSolidRow, IsSolid, room, Beyond, Next}
use Rattle.hs_aggregates.specs.Aggregates.{element_at, member_at, itself, next_by, next_in, advanced}
use Rattle.hs_tree.specs.Kinds.{is_scalar}
use Rattle.hs_tree.specs.Objects as object
use Rattle.hs_tree.specs.Objects.{field_of, IsField}
use Rattle.hs_types.specs.Layouts.{array_layout, most_bytes}
use Rattle.hs_types.specs.TypeTables.{TypeTable, row_of, body_of, layout_of, size_in, size_of, IsRight, IsArrayOf}
use Rattle.hs_types.specs.declared.body.Body.{Body}
use Rattle.hs_types.specs.declared.body.Field.{Field}
use Rattle.hs_types.specs.declared.layout.Layout.{Layout}
use Rattle.hs_types.specs.declared.row.FieldId.{FieldId}
use Rattle.hs_types.specs.declared.row.Row.{Row}
use Rattle.hs_types.specs.declared.row.Row.TheVariants as row
use Rattle.hs_types.specs.declared.row.TypeId.{TypeId}
use Rattle.hs_types.specs.LayoutLaws.{body_apart, body_inside}

-- what a test lets through
pub if_some : {A : Type 0} → (b : Bool) (x y : A) → (if b then Some x else None) ≡ Some y → (b ≡ true) × (x ≡ y)
if_some true x y given = (refl, some_same x y given)
if_some false x y given = absurd (none_some y given)

below : (n m : ℕ) → nat_lt n m ≡ true → n < m
below n m is = grind (arith, nat_tests, is)

pub at_most : (n m : ℕ) → nat_le n m ≡ true → n ≤ m
at_most n m is = grind (arith, nat_tests, is)

-- elements that have begun, and one more
one_more : (begun size length : ℕ) → begun < length → begun * size + size ≤ size * length
one_more begun size length under = omega (arith, mul-le (suc begun) size length size (omega (arith, under)) (omega arith))

module _ (types : TypeTable) (right : IsRight types) where
  -- by the row of the type
  beyond_by : (from : ℕ) (it : Aggregate) (o : Option Row) → row_of types it.type_id ≡ o
      → ((sub : Subobject) → next_by types it o ≡ Some sub → from ≤ sub.offset)
      → ((of : TypeId) → o ≡ Some (row.OpenArray of) → from ≤ it.offset + it.begun * size_of types of) → Beyond types from it
  beyond_by from it o same next opens =
      (λ sub given. next sub (ap (next_by types it) (sym same) ∙ given), λ of is. opens of (sym same ∙ is))

  -- ---- a scalar in braces

  -- comes once
  not_zero : (n : ℕ) → (suc n == 0) ≡ true → ⊥
  not_zero n is = grind (arith, nat_tests, is)

  once : (it : Aggregate) (sub : Subobject) → itself (advanced it) ≡ Some sub → ⊥
  once it sub given =
      not_zero it.begun (if_some (suc it.begun == 0) (record { offset = it.offset; type_id = it.type_id; field = it.field }) sub given).0

  scalar_next : (it : Aggregate) (o : Option Row) → row_of types it.type_id ≡ o → IsWhole types it.type_id
      → room types it.type_id ≡ size_of types it.type_id → ((sub : Subobject) → next_by types (advanced it) o ≡ Some sub → ⊥)
      → ((of : TypeId) → o ≡ Some (row.OpenArray of) → ⊥) → (sub : Subobject) → itself it ≡ Some sub → Next types it sub
  scalar_next it o same whole size ends closed sub given =
      subst (Next types it) (if_some (it.begun == 0) (record { offset = it.offset; type_id = it.type_id; field = it.field }) sub given).1
      (record {
        at = λ holds is. is.0;
        whole = whole;
        from = omega arith;
        until = rw size (omega arith);
        beyond = beyond_by (it.offset + size_of types it.type_id) (advanced it) o same (λ sub given'. absurd (ends sub given'))
            (λ of is. absurd (closed of is));
      })

  -- ---- an element

  pub element_within : (it : Aggregate) (of : TypeId) (length : ℕ) (layout : Layout) → row_of types it.type_id ≡ Some (row.Array of length layout)
      → it.begun < length → (holds : Scalars) → IsAt types holds it.offset it.type_id it.field
      → Within types holds (it.offset + it.begun * size_of types of) of None
  element_within it of length layout same under holds is =
      let other : is_scalar types it.type_id ≡ false = rw same refl in
      let first : it.offset + (it.begun * size_of types of + 0) ≡ it.offset + it.begun * size_of types of = omega arith in (
        λ scalar.
            subst (λ n. holds n of None) first
            (is.0.1 (it.begun * size_of types of + 0) of None other
            (object.in_array it.type_id of of length it.begun 0 layout None same under (object.itself of scalar))),
        λ offset scalar inner fails there.
            let later : it.offset + (it.begun * size_of types of + offset) ≡ it.offset + it.begun * size_of types of + offset = omega arith in
            subst (λ n. holds n scalar inner) later
            (is.0.1 (it.begun * size_of types of + offset) scalar inner other
            (object.in_array it.type_id of scalar length it.begun offset layout inner same under there)),
      )

  -- what an array takes
  pub array_size : (length : ℕ) (element layout : Layout) → array_layout length element ≡ Some layout → element.size * length ≡ layout.size
  array_size length element layout given =
      let its : Layout =
      record {
        size = element.size * length;
        even = element.even || nat_le 2 (element.size * length);
        characters = element.characters;
      } in
      ap (λ it. it.size) (if_some (nat_le (element.size * length) most_bytes) its layout given).1

  array_next : (it : Aggregate) (of : TypeId) (length : ℕ) (layout : Layout) → row_of types it.type_id ≡ Some (row.Array of length layout)
      → IsArrayOf types of length layout → (sub : Subobject) → (if nat_lt it.begun length then Some (element_at types it of) else None) ≡ Some sub
      → Next types it sub
  array_next it of length layout same fits sub given =
      let met = if_some (nat_lt it.begun length) (element_at types it of) sub given in
      let under : it.begun < length = below it.begun length met.0 in
      let each : size_of types of ≡ fits.0.size = ap size_in fits.1 in
      let all : fits.0.size * length ≡ layout.size = array_size length fits.0 layout fits.2 in
      let whole : room types it.type_id ≡ layout.size = rw same refl in
      let ends : it.begun * size_of types of + size_of types of ≤ size_of types of * length = one_more it.begun (size_of types of) length under in
      let total : size_of types of * length ≡ layout.size = ap (λ n. n * length) each ∙ all in
      subst (Next types it) met.1
      (record {
        at = element_within it of length layout same under;
        whole = rw fits.1 refl;
        from = omega arith;
        until = omega (arith, whole, ends, total);
        beyond = beyond_by (it.offset + it.begun * size_of types of + size_of types of) (advanced it) (Some (row.Array of length layout)) same
            (λ sub given'.
            let next = if_some (nat_lt (suc it.begun) length) (element_at types (advanced it) of) sub given' in
            let later : it.offset + it.begun * size_of types of + size_of types of ≤ (element_at types (advanced it) of).offset = omega arith in
            subst (λ its. it.offset + it.begun * size_of types of + size_of types of ≤ its.offset) next.1 later)
            (λ of is. absurd cc);
      })

  -- of an array whose length is not known
  open_next : (it : Aggregate) (of : TypeId) → row_of types it.type_id ≡ Some (row.OpenArray of) → IsWhole types of → (sub : Subobject)
      → (if nat_le (suc it.begun * size_of types of) most_bytes then Some (element_at types it of) else None) ≡ Some sub → Next types it sub
  open_next it of same whole sub given =
      let met = if_some (nat_le (suc it.begun * size_of types of) most_bytes) (element_at types it of) sub given in
      let under : suc it.begun * size_of types of ≤ most_bytes = at_most (suc it.begun * size_of types of) most_bytes met.0 in
      let all : room types it.type_id ≡ most_bytes = rw same refl in
      subst (Next types it) met.1
      (record {
        at = λ holds is. is.1 of it.begun same;
        whole = whole;
        from = omega arith;
        until = omega (arith, under, all);
        beyond = beyond_by (it.offset + it.begun * size_of types of + size_of types of) (advanced it) (Some (row.OpenArray of)) same
            (λ sub given'.
            let next = if_some (nat_le (suc (suc it.begun) * size_of types of) most_bytes) (element_at types (advanced it) of) sub given' in
            let later : it.offset + it.begun * size_of types of + size_of types of ≤ (element_at types (advanced it) of).offset = omega arith in
            subst (λ its. it.offset + it.begun * size_of types of + size_of types of ≤ its.offset) next.1 later)
            (λ other is.
            let its : of ≡ other = cc in
            subst (λ id. it.offset + it.begun * size_of types of + size_of types of ≤ it.offset + suc it.begun * size_of types id) its (omega arith));
      })

  -- ---- a member

  -- what is found is at its byte
  member_known : (it : Aggregate) (id : FieldId) (o : Option Field) (sub : Subobject) → member_at it id o ≡ Some sub
      → (its : Field) × (o ≡ Some its)
      × ◌≡◌ {A = Subobject} (record { offset = it.offset + its.offset; type_id = its.type_id; field = Some id }) sub
  member_known it id None sub given = absurd (none_some sub given)
  member_known it id (Some its) sub given = (its, refl, some_same _ sub given)

  -- the body of a struct is one
  same_body : (number : ℕ) (one other : Body) → body_of types number ≡ Some one → body_of types number ≡ Some other → one ≡ other
  same_body number one other is is' = some_same one other (sym is ∙ is')

  member_within : (it : Aggregate) (number : ℕ) (its : Field) → row_of types it.type_id ≡ Some (row.Struct number)
      → field_of types (record { of = number; place = it.begun }) ≡ Some its → (holds : Scalars) → IsAt types holds it.offset it.type_id it.field
      → Within types holds (it.offset + its.offset) its.type_id (Some (record { of = number; place = it.begun }))
  member_within it number its same found holds is =
      let id : FieldId = record { of = number; place = it.begun } in
      let other : is_scalar types it.type_id ≡ false = rw same refl in
      let named : IsField types id its.offset its.type_id = rw found (refl, refl) in (
        λ scalar.
            is.0.1 its.offset its.type_id (Some id) other
            (object.is_field it.type_id its.type_id id its.offset same named scalar),
        λ offset scalar inner fails there.
            let later : it.offset + (its.offset + offset) ≡ it.offset + its.offset + offset = omega arith in
            subst (λ n. holds n scalar inner) later
            (is.0.1 (its.offset + offset) scalar inner other
            (object.in_field it.type_id its.type_id scalar id its.offset offset inner same named (λ scalar'. false_true (sym fails ∙ scalar')) there)),
      )

  -- the next one comes after it
  member_after : (it : Aggregate) (number : ℕ) (its : Field) → FieldThere types number it.begun its → (sub : Subobject)
      → member_at (advanced it) (record { of = number; place = suc it.begun }) (field_of types (record { of = number; place = suc it.begun })) ≡ Some sub
      → it.offset + its.offset + size_of types its.type_id ≤ sub.offset
  member_after it number its there sub given =
      let id : FieldId = record { of = number; place = suc it.begun } in
      let had = member_known (advanced it) id (field_of types id) sub given in
      let next : FieldThere types number (suc it.begun) had.0 = field_there types id had.0 right had.1 in
      let same : next.body ≡ there.body = same_body number next.body there.body next.is there.is in
      let at : slice_get there.body.fields (suc it.begun) ≡ Some had.0 = subst (λ body. slice_get body.fields (suc it.begun) ≡ Some had.0) same next.at in
      let size : size_of types its.type_id ≡ its.layout.size = ap size_in (there.right.fields it.begun its there.at) in
      let apart : its.offset + its.layout.size ≤ had.0.offset =
      body_apart types there.body there.right it.begun (suc it.begun) its had.0 (omega arith) there.at at in
      subst (λ it'. it.offset + its.offset + size_of types its.type_id ≤ it'.offset) had.2 (omega (arith, size, apart))

  -- what a struct takes
  struct_room : (id : TypeId) (number : ℕ) (body : Body) → row_of types id ≡ Some (row.Struct number) → body_of types number ≡ Some body
      → room types id ≡ body.layout.size
  struct_room id number body same is = rw (same, is) refl

  member_next : (it : Aggregate) (number : ℕ) → row_of types it.type_id ≡ Some (row.Struct number) → (sub : Subobject)
      → member_at it (record { of = number; place = it.begun }) (field_of types (record { of = number; place = it.begun })) ≡ Some sub
      → Next types it sub
  member_next it number same sub given =
      let id : FieldId = record { of = number; place = it.begun } in
      let had = member_known it id (field_of types id) sub given in
      let there : FieldThere types number it.begun had.0 = field_there types id had.0 right had.1 in
      let layout : layout_of types had.0.type_id ≡ Some had.0.layout = there.right.fields it.begun had.0 there.at in
      let size : size_of types had.0.type_id ≡ had.0.layout.size = ap size_in layout in
      let all : room types it.type_id ≡ there.body.layout.size = struct_room it.type_id number there.body same there.is in
      let inside : had.0.offset + had.0.layout.size ≤ there.body.layout.size = body_inside types there.body there.right it.begun had.0 there.at in
      subst (Next types it) had.2
      (record {
        at = member_within it number had.0 same had.1;
        whole = rw layout refl;
        from = omega arith;
        until = omega (arith, size, all, inside);
        beyond = beyond_by (it.offset + had.0.offset + size_of types had.0.type_id) (advanced it) (Some (row.Struct number)) same
            (λ sub given'. member_after it number had.0 there sub given') (λ of is. absurd cc);
      })

  -- ---- by its type

  next_by_known : (it : Aggregate) (o : Option Row) → row_of types it.type_id ≡ o → IsSolidRow types it.type_id o → (sub : Subobject)
      → next_by types it o ≡ Some sub → Next types it sub
  next_by_known it None same solid sub given = absurd (none_some sub given)
  next_by_known it (Some row.Void) same solid sub given = absurd (none_some sub given)
  next_by_known it (Some (row.Integer its)) same solid sub given =
      scalar_next it (Some (row.Integer its)) same solid (rw same refl) (λ sub' given'. once it sub' given') (λ of is. cc) sub given
  next_by_known it (Some (row.Pointer of)) same solid sub given =
      scalar_next it (Some (row.Pointer of)) same solid (rw same refl) (λ sub' given'. once it sub' given') (λ of is. cc) sub given
  next_by_known it (Some (row.Enumeration number)) same solid sub given =
      scalar_next it (Some (row.Enumeration number)) same solid (rw same refl) (λ sub' given'. once it sub' given') (λ of is. cc) sub given
  next_by_known it (Some (row.Struct number)) same solid sub given = member_next it number same sub given
  next_by_known it (Some (row.Array of length layout)) same solid sub given =
      array_next it of length layout same (right.rows it.type_id.number (row.Array of length layout) same) sub given
  next_by_known it (Some (row.OpenArray of)) same solid sub given = open_next it of same solid sub given
  next_by_known it (Some (row.Function result list)) same solid sub given = absurd (none_some sub given)

  -- what is known of the next member or element of an aggregate
  pub next_known : (it : Aggregate) (sub : Subobject) → IsSolid types it.type_id → next_in types it ≡ Some sub → Next types it sub
  next_known it sub solid given = next_by_known it (row_of types it.type_id) refl solid sub given
