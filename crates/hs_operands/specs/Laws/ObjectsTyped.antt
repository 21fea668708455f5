-- The objects that operators designate are well typed, and so are their values, their addresses and their sizes.
use Rattle.std.proofs.Common.{◌≡◌, ℕ, true, List, Option, Some, None, Ok, Err, refl, ap, sym, subst, ◌∙◌}
use Rattle.std.specs.Prelude.{slice_get, is_some}
use Rattle.hs_tokens.specs.declared.place.Place.{Place}
use Rattle.hs_operand_types.specs.Conversions.{head_at}
use Rattle.hs_operands.specs.Laws.{IsTyped, IsTypedObject, IsTypedOperand, MakesTyped, MakesObject}
use Rattle.hs_operands.specs.Objects.{loaded_as, loaded, target_at, target_of, spacing, element_by, element_of, found_field, found_place, found_in, found_of_row, found_at, member_by, member_of, found_behind, arrow_by, arrow_of, address_of, size_by, size_number}
use Rattle.hs_operand_types.specs.Operands as operand
use Rattle.hs_operand_types.specs.Operands.{TypedOperand}
use Rattle.hs_operand_types.specs.Types.{designates, is_accessible}
use Rattle.hs_operands.specs.declared.objects.Found.{Found}
use Rattle.hs_operand_types.specs.declared.operand_end.OperandEnd.TheVariants.{Untyped}
use Rattle.hs_operands.specs.declared.spacing.Spacing.{Spacing}
use Rattle.hs_operands.specs.Laws.Added.{row_found}
use Rattle.hs_operands.specs.Laws.AssignedTyped.{first-of}
use Rattle.hs_operands.specs.Laws.Made.{Makes, gives, refuses, either_way}
use Rattle.hs_operands.specs.Laws.Numbers.{integer_number}
use Rattle.hs_operands.specs.Laws.PointersTyped.{Steps, AreSpaced, spaced}
use Rattle.hs_operands.specs.Laws.Stays.{pointed-stays, element-stays, is_readable-stays}
use Rattle.hs_tree.specs.Fitting.{struct_at}
use Rattle.hs_tree.specs.Kinds.{pointed, pointed_of_row, element, is_readable, IsPointerTo}
use Rattle.hs_tree.specs.Objects.{field_in, field_of, number_in, IsField, IsFieldOf}
use Rattle.hs_tree.specs.Trees as tree
use Rattle.hs_tree.specs.Trees.{RightValue, LeftValue, TypedFunction, TypedProgram, type_of, type_of_left, head_of_left}
use Rattle.hs_types.specs.Members.{field_place}
use Rattle.hs_types.specs.Rows.{integer_id}
use Rattle.hs_types.specs.TypeTables.{TypeTable, row_of, layout_of, is_complete, body_of, with_row, id_of, IsRight, Grows}
use Rattle.hs_types.specs.declared.body.Body.{Body}
use Rattle.hs_types.specs.declared.body.Field.{Field}
use Rattle.hs_types.specs.declared.integer.Integer.TheVariants as kind
use Rattle.hs_types.specs.declared.layout.Layout.{Layout}
use Rattle.hs_types.specs.declared.row.FieldId.{FieldId}
use Rattle.hs_types.specs.declared.row.Row.{Row}
use Rattle.hs_types.specs.declared.row.Row.TheVariants as row
use Rattle.hs_types.specs.declared.row.TypeId.{TypeId}

-- the field of a struct, by its place
abbrev field_at : TypeTable → ℕ → ℕ → Option Field
field_at types number place = let field : FieldId = record { of = number; place = place } in field_of types field

-- a field of the struct of that number, in that table
abbrev IsFound : TypeTable → ℕ → Found → Type 0
IsFound types number found = (number ≡ found.field.of) × IsField types found.field found.offset found.type_id

-- what is found in a struct is a field of it
found_field-is : (types : TypeTable) (number place : ℕ) (o : Option Field) (found : Found)
    → ((field : Field) → o ≡ Some field → field_at types number place ≡ Some field) → found_field number place o ≡ Some found
    → IsFound types number found
found_field-is types number place None found known given = absurd cc
found_field-is types number place (Some field) found known given =
    let made : Found = record { field = record { of = number; place = place }; type_id = field.type_id; offset = field.offset } in
    let same : made ≡ found = cc in
    subst (IsFound types number) same (refl, subst (λ its. IsFieldOf its field.offset field.type_id) (sym (known field refl)) (refl, refl))

found_place-is : (types : TypeTable) (number : ℕ) (fields : List Field) (o : Option ℕ) (found : Found)
    → ((place : ℕ) (field : Field) → slice_get fields place ≡ Some field → field_at types number place ≡ Some field)
    → found_place number fields o ≡ Some found → IsFound types number found
found_place-is types number fields None found known given = absurd cc
found_place-is types number fields (Some place) found known given =
    found_field-is types number place (slice_get fields place) found (known place) given

found_in-is : (types : TypeTable) (number : ℕ) (name : List ℕ) (o : Option Body) (found : Found)
    → ((body : Body) → o ≡ Some body → body_of types number ≡ Some body) → found_in number name o ≡ Some found → IsFound types number found
found_in-is types number name None found known given = absurd cc
found_in-is types number name (Some body) found known given =
    found_place-is types number body.fields (field_place name body.fields) found
    (λ place field at. ap (λ its. field_in its place) (known body refl) ∙ at) given

module _ (program : TypedProgram) (function : TypedFunction) (types : TypeTable) (sound : IsRight program.types) (grows : Grows types program.types) where
  -- what a pointer points to
  target_at-typed : (o : Option TypeId) (at : Place) (e : RightValue) → IsTyped program function e
      → ((of : TypeId) → o ≡ Some of → IsPointerTo program.types of (type_of e)) → MakesObject program function (target_at types at e o)
  target_at-typed None at e typed known = refuses (IsTypedObject program function) at
  target_at-typed (Some of) at e typed known =
      either_way (MakesObject program function) (designates types of) (Ok (tree.target (head_at at of) e)) (Err (Untyped at))
      (λ object. gives (IsTypedObject program function) (tree.target (head_at at of) e) ((ap is_some (known of refl), known of refl, tt), typed))
      (λ other. refuses (IsTypedObject program function) at)

  -- `*e`
  pub target-typed : (at : Place) (e : RightValue) → IsTyped program function e → MakesObject program function (target_of types at e)
  target-typed at e typed = target_at-typed (pointed types (type_of e)) at e typed (pointed-stays types program.types grows (type_of e))

  -- what a step leads to
  element_by-typed : (o : Option Spacing) (at : Place) (a b : RightValue) → IsTyped program function a → IsTyped program function b
      → AreSpaced program function types sound grows (type_of a) (type_of b) o → MakesObject program function (element_by at a b o)
  element_by-typed None at a b typed typed' known = refuses (IsTypedObject program function) at
  element_by-typed (Some it) at a b typed typed' known =
      let is : Steps program function types sound grows (type_of a) (type_of b) it = (known it refl).0 in
      gives (IsTypedObject program function) (tree.element (head_at at it.of) it.size it.pointer_first a b) ((is.0, is.1, tt), typed, typed')

  -- `a[b]`
  pub element-typed : (at : Place) (a b : RightValue) → IsTyped program function a → IsTyped program function b
      → MakesObject program function (element_of types at a b)
  element-typed at a b typed typed' =
      element_by-typed (spacing types (type_of a) (type_of b)) at a b typed typed' (spaced program function types sound grows (type_of a) (type_of b))

  -- the type is a struct, and the field one of it
  abbrev AreFound : Option Row → Option Found → Type 0
  AreFound o p = (found : Found) → p ≡ Some found
      → (o ≡ Some (row.Struct found.field.of)) × IsField program.types found.field found.offset found.type_id

  found_of_row-is : (name : List ℕ) (o : Option Row) → AreFound o (found_of_row types name o)
  found_of_row-is name None found given = absurd cc
  found_of_row-is name (Some row.Void) found given = absurd cc
  found_of_row-is name (Some (row.Integer kind)) found given = absurd cc
  found_of_row-is name (Some (row.Pointer of)) found given = absurd cc
  found_of_row-is name (Some (row.Enumeration its)) found given = absurd cc
  found_of_row-is name (Some (row.Struct its)) found given =
      let is : IsFound program.types its found = found_in-is program.types its name (body_of types its) found (grows.bodies its) given in
      (ap (λ its. Some (row.Struct its)) is.0, is.1)
  found_of_row-is name (Some (row.Array of length layout)) found given = absurd cc
  found_of_row-is name (Some (row.OpenArray of)) found given = absurd cc
  found_of_row-is name (Some (row.Function result parameters)) found given = absurd cc

  -- a field of an object
  member_by-typed : (o : Option Found) (at : Place) (it : LeftValue) → IsTypedObject program function it → AreFound (row_of types (type_of_left it)) o
      → MakesObject program function (member_by at it o)
  member_by-typed None at it typed known = refuses (IsTypedObject program function) at
  member_by-typed (Some found) at it typed known =
      let is : (row_of types (type_of_left it) ≡ Some (row.Struct found.field.of)) × IsField program.types found.field found.offset found.type_id
      = known found refl in
      gives (IsTypedObject program function) (tree.member (head_at at found.type_id) found.field found.offset it)
      ((grows.rows (type_of_left it).number (row.Struct found.field.of) is.0, tt, is.1), typed)

  -- `e.f`
  pub member-typed : (at : Place) (name : List ℕ) (it : LeftValue) → IsTypedObject program function it
      → MakesObject program function (member_of types at name it)
  member-typed at name it typed =
      member_by-typed (found_at types name (type_of_left it)) at it typed (found_of_row-is name (row_of types (type_of_left it)))

  -- what a pointer points to is a struct, and the field one of it
  found_behind-is : (name : List ℕ) (o : Option TypeId) → AreFound (struct_at types o) (found_behind types name o)
  found_behind-is name None found given = absurd cc
  found_behind-is name (Some of) found given = found_of_row-is name (row_of types of) found given

  -- it is that struct in the whole program
  struct-stays : (o p : Option TypeId) (its : Row) → ((of : TypeId) → o ≡ Some of → p ≡ Some of) → struct_at types o ≡ Some its
      → struct_at program.types p ≡ Some its
  struct-stays None p its keeps known = absurd cc
  struct-stays (Some of) p its keeps known = ap (struct_at program.types) (keeps of refl) ∙ grows.rows of.number its known

  -- a field of what a pointer points to
  arrow_by-typed : (o : Option Found) (at : Place) (e : RightValue) → IsTyped program function e → AreFound (struct_at types (pointed types (type_of e))) o
      → MakesObject program function (arrow_by at e o)
  arrow_by-typed None at e typed known = refuses (IsTypedObject program function) at
  arrow_by-typed (Some found) at e typed known =
      let is : (struct_at types (pointed types (type_of e)) ≡ Some (row.Struct found.field.of))
      × IsField program.types found.field found.offset found.type_id
      = known found refl in
      gives (IsTypedObject program function) (tree.arrow (head_at at found.type_id) found.field found.offset e) (
        (
          struct-stays (pointed types (type_of e)) (pointed program.types (type_of e)) (row.Struct found.field.of)
              (pointed-stays types program.types grows (type_of e)) is.0,
          tt,
          is.1,
        ),
        typed,
      )

  -- `e->f`
  pub arrow-typed : (at : Place) (name : List ℕ) (e : RightValue) → IsTyped program function e
      → MakesObject program function (arrow_of types at name e)
  arrow-typed at name e typed =
      arrow_by-typed (found_behind types name (pointed types (type_of e))) at e typed (found_behind-is name (pointed types (type_of e)))

  -- An unsigned long has all bits of a size.
  size_by-typed : (o : Option Layout) (at : Place) → MakesTyped program function (size_by at o)
  size_by-typed None at = refuses (IsTyped program function) at
  size_by-typed (Some layout) at =
      gives (IsTyped program function) (tree.number (head_at at (integer_id kind.UnsignedLong)) layout.size)
      (tt, ap (number_in layout.size) (integer_number program.types kind.UnsignedLong sound), tt)

  -- `sizeof`
  pub size-typed : (at : Place) (id : TypeId) → MakesTyped program function (size_number types at id)
  size-typed at id = size_by-typed (layout_of types id) at

  -- The type of pointers that was added to the table points to what it says.
  pointer_added : (of : TypeId) → Grows (with_row (row.Pointer of) types) program.types
      → IsPointerTo program.types of (id_of (row.Pointer of) types)
  pointer_added of added =
      ap pointed_of_row (added.rows (id_of (row.Pointer of) types).number (row.Pointer of) (row_found (row.Pointer of) types))

  -- the value is well typed, if the program's table has grown from the one that it comes with
  abbrev IsLoaded : RightValue × TypeTable → Type 0
  IsLoaded its = Grows its.1 program.types → IsTyped program function its.0

  -- an array, and any other object
  loaded_as-typed : (o : Option TypeId) (it : LeftValue) → IsTypedObject program function it → element types (type_of_left it) ≡ o
      → Makes IsLoaded (loaded_as types it o)
  loaded_as-typed (Some of) it typed known =
      let stays : element program.types (type_of_left it) ≡ Some of = element-stays types program.types grows (type_of_left it) of known in
      gives IsLoaded (tree.decay (head_at (head_of_left it).at (id_of (row.Pointer of) types)) it, with_row (row.Pointer of) types)
      (λ added. ((ap is_some stays, pointer_added of added ∙ sym stays, tt), typed))
  loaded_as-typed None it typed known =
      either_way (Makes IsLoaded) (is_accessible types (type_of_left it)) (Ok (tree.load (head_of_left it) it, types))
      (Err (Untyped (head_of_left it).at))
      (λ accessible. gives IsLoaded (tree.load (head_of_left it) it, types)
      (λ same.
      let readable : is_readable types (type_of_left it) ≡ true
      = first-of (is_readable types (type_of_left it)) (is_complete types (type_of_left it)) accessible in
      ((is_readable-stays types program.types grows (type_of_left it) readable, refl, tt), typed)))
      (λ other. refuses IsLoaded (head_of_left it).at)

  loaded_or_not : (it : TypedOperand) → IsTypedOperand program function it → Makes IsLoaded (loaded types it)
  loaded_or_not (operand.value e) typed = gives IsLoaded (e, types) (λ same. typed)
  loaded_or_not (operand.object it) typed = loaded_as-typed (element types (type_of_left it)) it typed refl
  loaded_or_not (operand.function it) typed = refuses IsLoaded it.head.at

  -- by the value and the table
  pub loaded-typed : (it : TypedOperand) (made : RightValue) (new : TypeTable) → IsTypedOperand program function it
      → loaded types it ≡ Ok (made, new) → Grows new program.types → IsTyped program function made
  loaded-typed it made new typed = loaded_or_not it typed (made, new)

  -- `&e`
  pub address-typed : (at : Place) (it : LeftValue) (made : RightValue) (new : TypeTable) → IsTypedObject program function it
      → address_of types at it ≡ (made, new) → Grows new program.types → IsTyped program function made
  address-typed at it made new typed given = subst IsLoaded given (λ added. ((tt, pointer_added (type_of_left it) added, tt), typed))
