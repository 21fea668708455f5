-- First values leave nothing on the stack (own).
--     AreScalars types its                the scalars are numbers and pointers
--     scalars_are, only_scalar            so are those of each object, and a scalar is its only one
--     FitsConstant program id found       the constant of a scalar, if it has one, is of its type
--     Rest count at                       control that comes there with nothing on the stack finds the operands of that many operations
--     Passes its                          so does control that comes to these operations, if control after them does
--     declarations_pass                   the law: the declarations of a block
use Rattle.std.proofs.Common.{◌≡◌, ℕ, zero, suc, ◌+◌, ◌==◌, Bool, true, false, ◌&&◌, ◌||◌, List, [], ◌∷◌, length, slice_get, Option, Some, None, IsTrue, is_some, if◌then◌else◌, refl, sym, ap, ◌∙◌, subst}
use Rattle.std.specs.List.{AllByRecursion}
use Rattle.hs_base.specs.Tests.{second_test, same_number}
use Rattle.hs_code.specs.Codes.{scope_of}
use Rattle.hs_code.specs.Stacks.{Scope, Kind, kind_of, kind_in, slot_kind}
use Rattle.hs_code.specs.Stacks as stacks
use Rattle.hs_code.specs.declared.function_code.FunctionCode.{FunctionCode}
use Rattle.hs_code.specs.declared.op.Access.{Access}
use Rattle.hs_code.specs.declared.op.Object.TheVariants as object
use Rattle.hs_code.specs.declared.op.Op.TheVariants as op
use Rattle.hs_lowering.specs.Laws.Kinds.{number_kinds, pointer_kinds, read_kind, read_value}
use Rattle.hs_lowering.specs.Laws.Leaving.{Is, Goes, Leaves, weaker, operand_goes, only_goes, only_leaves, one_leaves, two_leaves}
use Rattle.hs_lowering.specs.Laws.Stacks.{KindsFit, SlotFits, store_operands, set_operands, number_there, right_leaves}
use Rattle.hs_lowering.specs.Laws.Starts.{as_head}
use Rattle.hs_lowering.specs.Lowering.{Lowered, after, access_in, slot_by, only, on_one, on_two, right_code}
use Rattle.hs_lowering.specs.Performing.{Holds, holds_front, holds_back, after_append}
use Rattle.hs_lowering.specs.Stacked.{Stacked}
use Rattle.hs_lowering.specs.Statements as code
use Rattle.hs_lowering.specs.Statements.{Part, ◌then◌, nothing, Counts, one_piece, given_dropped}
use Rattle.hs_meaning.specs.Classes.{is_slot_declared, class_of_type, class_of_scalar}
use Rattle.hs_meaning.specs.Laws.Unmoved.Lists.{all_append}
use Rattle.hs_meaning.specs.Scalars.{Scalar, Finding, of_elements, of_fields, of_body, of_row, found_within, scalars_of}
use Rattle.hs_meaning.specs.Settings.{Setting, setting_of, access_of_type}
use Rattle.hs_meaning.specs.Statements.{part_for, or_later, is_for, type_in}
use Rattle.hs_tokens.specs.declared.place.Place.{Place}
use Rattle.hs_tree.specs.Classes.{is_slot}
use Rattle.hs_tree.specs.Fitting.{FitsVariable, FitsItem}
use Rattle.hs_tree.specs.Inside.{EachRight, InStart}
use Rattle.hs_tree.specs.Kinds.{kind_of_row, pointed_of_row, is_struct_row, is_scalar, is_number, is_pointer, is_void, IsScalar, IsReadable}
use Rattle.hs_tree.specs.Objects.{IsConstant, FitsPart, FitsStart}
use Rattle.hs_tree.specs.Trees as tree
use Rattle.hs_tree.specs.Trees.{Starting, TypedItem, TypedDeclaration, TypedFunction, TypedProgram}
use Rattle.hs_tree.specs.declared.constant.Constant.{Constant}
use Rattle.hs_tree.specs.declared.constant.Constant.TheVariants as constant
use Rattle.hs_tree.specs.declared.constant.Part as constant_part
use Rattle.hs_tree.specs.declared.head.Variable.{Variable}
use Rattle.hs_tree.specs.declared.head.Variable.TheVariants as name
use Rattle.hs_tree.specs.declared.head.VariableDecl.{VariableDecl}
use Rattle.hs_types.specs.TypeTables.{TypeTable, IsRight, row_of, body_of, size_of}
use Rattle.hs_types.specs.declared.body.Body.{Body}
use Rattle.hs_types.specs.declared.body.Field.{Field}
use Rattle.hs_types.specs.declared.row.FieldId.{FieldId}
use Rattle.hs_types.specs.declared.row.Row.{Row}
use Rattle.hs_types.specs.declared.row.Row.TheVariants as row
use Rattle.hs_types.specs.declared.row.TypeId.{TypeId}

-- ---- scalars

-- numbers and pointers
abbrev pub AreScalars : TypeTable → List Scalar → Type 0
AreScalars types its = AllByRecursion (λ one. IsScalar types one.type_id) its

-- by its row
scalar_row : (types : TypeTable) (id : TypeId) (its : Option Row) → row_of types id ≡ its
    → IsTrue (is_some (kind_of_row its) || is_some (pointed_of_row its)) → IsScalar types id
scalar_row types id its is so = subst (λ found. IsTrue (is_some (kind_of_row found) || is_some (pointed_of_row found))) (sym is) so

-- `found` finds scalars
module _ (types : TypeTable) (found : Finding) (are : (at : ℕ) (id : TypeId) (field : Option FieldId) → AreScalars types (found at id field)) where
  -- the elements of an array
  elements_are : (of : TypeId) (size at count : ℕ) → AreScalars types (of_elements found of size at count)
  elements_are of size at zero = tt
  elements_are of size at (suc more) =
      all_append (λ one. IsScalar types one.type_id) (found at of None) (of_elements found of size (at + size) more) (are at of None)
      (elements_are of size (at + size) more)

  -- the fields of a struct
  fields_are : (at number place : ℕ) (its : List Field) → AreScalars types (of_fields found at number place its)
  fields_are at number place [] = tt
  fields_are at number place (its ∷ rest) =
      all_append (λ one. IsScalar types one.type_id) (found (at + its.offset) its.type_id (Some (record { of = number; place = place })))
      (of_fields found at number (suc place) rest) (are (at + its.offset) its.type_id (Some (record { of = number; place = place })))
      (fields_are at number (suc place) rest)

  -- of a struct whose body has come, or has not
  body_are : (at number : ℕ) (its : Option Body) → AreScalars types (of_body found at number its)
  body_are at number None = tt
  body_are at number (Some body) = fields_are at number 0 body.fields

  -- by the type
  row_are : (at : ℕ) (id : TypeId) (field : Option FieldId) (its : Option Row) → row_of types id ≡ its → AreScalars types (of_row found types at id field its)
  row_are at id field None is = tt
  row_are at id field (Some row.Void) is = tt
  row_are at id field (Some (row.Integer kind)) is = (scalar_row types id (Some (row.Integer kind)) is refl, tt)
  row_are at id field (Some (row.Pointer of)) is = (scalar_row types id (Some (row.Pointer of)) is refl, tt)
  row_are at id field (Some (row.Enumeration number)) is = (scalar_row types id (Some (row.Enumeration number)) is refl, tt)
  row_are at id field (Some (row.Struct number)) is = body_are at number (body_of types number)
  row_are at id field (Some (row.Array of count layout)) is = elements_are of (size_of types of) at count
  row_are at id field (Some (row.OpenArray of)) is = tt
  row_are at id field (Some (row.Function result parameters)) is = tt

-- down to so many types inside one another
found_are : (types : TypeTable) (more at : ℕ) (id : TypeId) (field : Option FieldId) → AreScalars types (found_within more types at id field)
found_are types zero at id field = tt
found_are types (suc more) at id field = row_are types (found_within more types) (found_are types more) at id field (row_of types id) refl

-- of an object of any type
pub scalars_are : (types : TypeTable) (id : TypeId) → AreScalars types (scalars_of types id)
scalars_are types id = found_are types (suc (length types.rows)) 0 id None

-- by its row
row_only : (types : TypeTable) (found : Finding) (id : TypeId) (its : Option Row) → IsTrue (is_some (kind_of_row its) || is_some (pointed_of_row its))
    → of_row found types 0 id None its ≡ record { offset = 0; type_id = id; field = None } ∷ []
row_only types found id None is = absurd cc
row_only types found id (Some row.Void) is = absurd cc
row_only types found id (Some (row.Integer kind)) is = refl
row_only types found id (Some (row.Pointer of)) is = refl
row_only types found id (Some (row.Enumeration number)) is = refl
row_only types found id (Some (row.Struct number)) is = absurd cc
row_only types found id (Some (row.Array of count layout)) is = absurd cc
row_only types found id (Some (row.OpenArray of)) is = absurd cc
row_only types found id (Some (row.Function result parameters)) is = absurd cc

-- a scalar is its only one
pub only_scalar : (types : TypeTable) (id : TypeId) → IsScalar types id → scalars_of types id ≡ record { offset = 0; type_id = id; field = None } ∷ []
only_scalar types id is = row_only types (found_within (length types.rows) types) id (row_of types id) is

-- ---- constants of scalars

-- the same number is the same type
same_type : (one other : TypeId) → (one.number == other.number) ≡ true → one ≡ other
same_type one other is = ap (λ n. record { number = n }) (same_number one.number other.number is)

-- if there is one, it is of that type
abbrev pub FitsConstant : TypedProgram → TypeId → Option constant_part.Part → Type 0
FitsConstant program id None = Unit {0}
FitsConstant program id (Some part) = IsConstant program id part.value

-- the constant that is for a scalar is of its type
constant_fits : (program : TypedProgram) (id : TypeId) (its : Scalar) (parts : List constant_part.Part) → AllByRecursion (FitsPart program id) parts
    → FitsConstant program its.type_id (part_for its parts)
constant_fits program id its [] fits = tt
constant_fits program id its (part ∷ parts) fits = by (is_for its part) refl (constant_fits program id its parts fits.1)
  where
    by : (b : Bool) → is_for its part ≡ b → FitsConstant program its.type_id (part_for its parts)
        → FitsConstant program its.type_id (or_later b part (part_for its parts))
    by true so later =
        subst (λ id. IsConstant program id part.value)
        (same_type part.type_id its.type_id (second_test (part.offset == its.offset) (part.type_id.number == its.type_id.number) so)) fits.0.1
    by false so later = later

-- ---- values

-- one of two holds
first_holds : (a b : Bool) → IsTrue a → IsTrue (a || b)
first_holds true b is = refl
first_holds false b is = absurd cc

module _ (program : TypedProgram) (function : TypedFunction) (its_code : FunctionCode) where
  -- what kinds depend on in the function
  abbrev scope : Scope
  scope = scope_of program function

  -- what a run needs of the program
  abbrev setting : Setting
  setting = setting_of program

  -- nothing is on the stack
  abbrev pub Rest : ℕ → ℕ → Type 0
  Rest count at = Stacked scope its_code count at []

  -- operations after which control goes on
  pub record Passes (its : Part) : Type 0 where
    pub go : (count start : ℕ) → Holds its_code start (its start).ops → Rest count (after start (its start).ops) → Rest count start

  -- a value of that type, which is not void, is left
  abbrev LeavesOf : Lowered → TypeId → List Kind → Type 0
  LeavesOf its id kinds = Leaves scope its_code its (Is (kind_of program.types id)) kinds

  -- a value of that kind
  as_leaves : (its : Lowered) (kind : Kind) (id : TypeId) (kinds : List Kind) → kind_of program.types id ≡ kind
      → Leaves scope its_code its (Is kind) kinds → LeavesOf its id kinds
  as_leaves its kind id kinds same leaves = weaker scope its_code (λ found is. is ∙ sym same) leaves

  -- no operations
  pub passes_nothing : Passes nothing
  passes_nothing = record { go = λ count start holds more. more }

  -- one after the other
  passes_then : {f g : Part} → Passes f → Passes g → Passes (f then g)
  passes_then {f = f} {g = g} before behind =
      record {
        go = λ count start holds more.
            before.go count start (holds_front its_code start (f start).ops (g (after start (f start).ops)).ops holds)
            (behind.go count (after start (f start).ops) (holds_back its_code start (f start).ops (g (after start (f start).ops)).ops holds)
            (subst (λ n. Rest count n) (after_append start (f start).ops (g (after start (f start).ops)).ops) more));
      }

  -- what can be read is of the kind of its type
  access_reads : (id : TypeId) (class : _) → IsReadable program.types id → kind_in (access_in (access_of_type setting id class)) ≡ kind_of program.types id
  access_reads id class is = (read_kind setting id class is).0

  module _ (piece : ℕ) (at : Place) where
    -- a value that is dropped
    pub dropped_passes : (value : Lowered) (fact : Kind → Type 0) → Leaves scope its_code value fact [] → Passes (given_dropped piece at.pos value)
    dropped_passes value fact leaves = record { go = λ count start holds more. goes.go count start 0 refl holds (λ a is. more) }
      where
        goes : Goes scope its_code (on_one piece (as_head at) op.Drop value) (λ (a : Unit {0}). Unit {0}) [] (λ a. [])
        goes =
            operand_goes scope its_code value (only piece (as_head at) op.Drop) (λ a. refl) leaves
            (λ a is. only_goes scope its_code piece (as_head at) op.Drop (a ∷ []) (λ (b : Unit {0}). []) tt tt (λ cases at next follows. follows) refl)

    -- ---- constants

    -- a constant of that type
    constant_leaves : (its : Constant) (id : TypeId) (kinds : List Kind) → IsConstant program id its
        → LeavesOf (code.constant_code setting function piece at.pos its) id kinds
    constant_leaves (constant.Number bits) id kinds is =
        as_leaves _ stacks.number id kinds (number_kinds program.types id (number_there program.types bits id is)).0
        (only_leaves scope its_code piece (as_head at) (op.Num bits) kinds stacks.number (λ cases at next follows. follows) refl)
    constant_leaves constant.Nil id kinds is =
        as_leaves _ stacks.pointer id kinds (pointer_kinds program.types id is).0
        (only_leaves scope its_code piece (as_head at) op.Nil kinds stacks.pointer (λ cases at next follows. follows) refl)
    constant_leaves (constant.Address its offset) id kinds is =
        as_leaves _ stacks.pointer id kinds (pointer_kinds program.types id is.0).0
        (two_leaves scope its_code piece (as_head at) (op.Step (record { size = 1; backward = false }) true)
        (only piece (as_head at) (op.Address (code.object_of setting function its))) (only piece (as_head at) (op.Num _)) kinds
        stacks.pointer stacks.number stacks.pointer (λ cases at next follows. follows) refl
        (only_leaves scope its_code piece (as_head at) (op.Address (code.object_of setting function its)) kinds stacks.pointer
        (λ cases at next follows. follows) refl)
        (only_leaves scope its_code piece (as_head at) (op.Num _) (stacks.pointer ∷ kinds) stacks.number (λ cases at next follows. follows) refl))

    -- 0 or NIL
    zero_leaves : (b : Bool) (id : TypeId) (kinds : List Kind) → is_pointer program.types id ≡ b → IsTrue (is_number program.types id || b)
        → LeavesOf (code.zero_code setting function piece at.pos b) id kinds
    zero_leaves true id kinds is so =
        as_leaves _ stacks.pointer id kinds (pointer_kinds program.types id is).0
        (only_leaves scope its_code piece (as_head at) op.Nil kinds stacks.pointer (λ cases at next follows. follows) refl)
    zero_leaves false id kinds is so =
        as_leaves _ stacks.number id kinds (number_kinds program.types id (either (is_number program.types id) so)).0
        (only_leaves scope its_code piece (as_head at) (op.Num 0) kinds stacks.number (λ cases at next follows. follows) refl)
      where
        either : (a : Bool) → IsTrue (a || false) → IsTrue a
        either true is = refl
        either false is = absurd cc

    -- the constant of a scalar, or 0 or NIL
    scalar_leaves : (id : TypeId) (found : Option constant_part.Part) (kinds : List Kind) → FitsConstant program id found → IsScalar program.types id
        → LeavesOf (code.scalar_code setting function piece at.pos id found) id kinds
    scalar_leaves id None kinds fits is = zero_leaves (is_pointer program.types id) id kinds refl is
    scalar_leaves id (Some part) kinds fits is = constant_leaves part.value id kinds fits

    -- ---- variables

    module _ (variable : Variable) where
      -- Set
      slot_leaves : (id : TypeId) (value : Lowered) → SlotFits scope (Some variable) (kind_of program.types id) → LeavesOf value id []
          → LeavesOf (code.slot_started setting function piece at.pos variable value) id []
      slot_leaves id value fits leaves =
          one_leaves scope its_code piece (as_head at) (op.Set variable) value [] (kind_of program.types id) (kind_of program.types id)
          (λ cases at next follows. follows)
          (set_operands scope its_code piece (as_head at) variable (kind_of program.types id) [] fits) leaves

      -- the address of the variable
      address_leaves : Leaves scope its_code (only piece (as_head at) (op.Address (object.Variable variable))) (Is stacks.pointer) []
      address_leaves =
          only_leaves scope its_code piece (as_head at) (op.Address (object.Variable variable)) [] stacks.pointer (λ cases at next follows. follows) refl

      -- a value is stored at an address
      stored_leaves : (id : TypeId) (access : Access) (address value : Lowered) → kind_in access ≡ kind_of program.types id
          → Leaves scope its_code address (Is stacks.pointer) [] → ((kinds : List Kind) → LeavesOf value id kinds)
          → LeavesOf (on_two piece (as_head at) (op.Store access) address value) id []
      stored_leaves id access address value same leaves also =
          two_leaves scope its_code piece (as_head at) (op.Store access) address value [] stacks.pointer (kind_of program.types id)
          (kind_of program.types id) (λ cases at next follows. follows)
          (store_operands scope its_code piece (as_head at) access (kind_of program.types id) [] same) leaves (also (stacks.pointer ∷ []))

      -- at a byte of the object
      object_leaves : (id : TypeId) (offset : ℕ) (access : Access) (value : Lowered) → kind_in access ≡ kind_of program.types id
          → ((kinds : List Kind) → LeavesOf value id kinds)
          → LeavesOf (code.object_started setting function piece at.pos variable offset access value) id []
      object_leaves id offset access value same also =
          stored_leaves id access (on_one piece (as_head at) (op.Offset offset) (only piece (as_head at) (op.Address (object.Variable variable)))) value
          same
          (one_leaves scope its_code piece (as_head at) (op.Offset offset) (only piece (as_head at) (op.Address (object.Variable variable))) []
          stacks.pointer stacks.pointer (λ cases at next follows. follows) refl address_leaves)
          also

      -- one value
      value_leaves : (b is_struct : Bool) (id : TypeId) (value : Lowered) → SlotFits scope (slot_by b variable) (kind_of program.types id)
          → IsReadable program.types id → ((kinds : List Kind) → LeavesOf value id kinds)
          → LeavesOf (code.value_started setting function piece at.pos b is_struct variable id value) id []
      value_leaves true is_struct id value fits is also = slot_leaves id value fits (also [])
      value_leaves false true id value fits is also =
          stored_leaves id (access_in (access_of_type setting id (class_of_type setting.same id)))
          (only piece (as_head at) (op.Address (object.Variable variable))) value (access_reads id (class_of_type setting.same id) is) address_leaves also
      value_leaves false false id value fits is also =
          object_leaves id 0 (access_in (access_of_type setting id (class_of_type setting.same id))) value
          (access_reads id (class_of_type setting.same id) is) also

      -- a scalar in an object
      inside_leaves : (its : Scalar) (parts : List constant_part.Part) → FitsConstant program its.type_id (part_for its parts)
          → IsScalar program.types its.type_id
          → LeavesOf (code.scalar_started setting function piece at.pos false variable parts its) its.type_id []
      inside_leaves its parts fits is =
          object_leaves its.type_id its.offset (code.access_of_scalar setting function piece at.pos its)
          (code.scalar_code setting function piece at.pos its.type_id (part_for its parts))
          (access_reads its.type_id (class_of_scalar setting.same setting.taken its.type_id its.field)
          (first_holds (is_scalar program.types its.type_id) _ is))
          (λ kinds. scalar_leaves its.type_id (part_for its parts) kinds fits is)

      -- the scalars in an object
      inside_pass : (id : TypeId) (parts : List constant_part.Part) (its : List Scalar) → AllByRecursion (FitsPart program id) parts
          → AreScalars program.types its → Passes (code.scalars_started setting function piece at.pos false variable parts its)
      inside_pass id parts [] fit are = passes_nothing
      inside_pass id parts (its ∷ rest) fit are =
          passes_then
          (dropped_passes (code.scalar_started setting function piece at.pos false variable parts its) (Is (kind_of program.types its.type_id))
          (inside_leaves its parts (constant_fits program id its parts fit) are.0))
          (inside_pass id parts rest fit are.1)

      -- the variable itself
      itself_passes : (id : TypeId) (parts : List constant_part.Part) → AllByRecursion (FitsPart program id) parts → IsScalar program.types id
          → SlotFits scope (Some variable) (kind_of program.types id)
          → Passes (code.scalars_started setting function piece at.pos true variable parts (record { offset = 0; type_id = id; field = None } ∷ []))
      itself_passes id parts fit is fits =
          passes_then
          (dropped_passes (code.scalar_started setting function piece at.pos true variable parts itself) (Is (kind_of program.types id))
          (slot_leaves id (code.scalar_code setting function piece at.pos id (part_for itself parts)) fits
          (scalar_leaves id (part_for itself parts) [] (constant_fits program id itself parts fit) is)))
          passes_nothing
        where
          itself : Scalar
          itself = record { offset = 0; type_id = id; field = None }

      -- a slot is a number or a pointer
      start_passes : IsRight program.types → (b : Bool) (id : TypeId) (start : Starting) → SlotFits scope (slot_by b variable) (kind_of program.types id)
          → (b ≡ true → IsScalar program.types id) → FitsStart program id start → InStart (EachRight (KindsFit program function)) start
          → Passes (code.start_code setting function piece at.pos b variable id start)
      start_passes table b id (tree.value e) fits is start kinds =
          dropped_passes _ (Is (kind_of program.types id))
          (value_leaves b (is_struct_row (row_of setting.types id)) id (right_code setting function.variables piece e) fits start.0
          (λ below. weaker scope its_code
          (λ kind of. of (subst (λ id. is_void program.types id ≡ false) (sym start.1) (read_value setting id start.0)) ∙ ap (kind_of program.types) start.1)
          (right_leaves program function its_code piece table e kinds below)))
      start_passes table true id (tree.parts its) fits is start kinds =
          subst (λ scalars. Passes (code.scalars_started setting function piece at.pos true variable its scalars))
          (sym (only_scalar program.types id (is refl))) (itself_passes id its start.0 (is refl) fits)
      start_passes table false id (tree.parts its) fits is start kinds =
          inside_pass id its (scalars_of program.types id) start.0 (scalars_are program.types id)

  -- ---- declarations

  module _ (table : IsRight program.types) where
    -- a variable of the function
    item_passes : (piece place : ℕ) (at : Place) (its : Option VariableDecl) (start : Starting) → slice_get function.variables place ≡ its
        → FitsVariable program its start → InStart (EachRight (KindsFit program function)) start
        → Passes (code.start_code setting function piece at.pos (is_slot_declared program.types its) (name.Local place) (type_in its) start)
    item_passes piece place at None start so fits kinds = absurd fits
    item_passes piece place at (Some its) start so fits kinds = by (is_slot program.types its) refl
      where
        scalar : (a b : Bool) → (a && b) ≡ true → IsTrue a
        scalar true b is = refl
        scalar false b is = absurd cc

        by : (b : Bool) → is_slot program.types its ≡ b
            → Passes (code.start_code setting function piece at.pos b (name.Local place) its.type_id start)
        by true is =
            start_passes piece at (name.Local place) table true its.type_id start
            (ap (slot_kind program.types) so ∙ ap (λ b. if b then Some (kind_of program.types its.type_id) else None) is)
            (λ same. scalar (is_scalar program.types its.type_id) _ is) fits kinds
        by false is = start_passes piece at (name.Local place) table false its.type_id start tt (λ same. absurd cc) fits kinds

    -- the variables of a declaration
    items_pass : (piece : ℕ) (items : List TypedItem) → AllByRecursion (FitsItem program function) items
        → AllByRecursion (λ item. InStart (EachRight (KindsFit program function)) item.start) items
        → Passes (code.items_code setting function piece items)
    items_pass piece [] fits kinds = passes_nothing
    items_pass piece (item ∷ items) fits kinds =
        passes_then
        (item_passes piece item.variable item.at (slice_get function.variables item.variable) item.start refl fits.0 kinds.0)
        (items_pass piece items fits.1 kinds.1)

    -- the declarations of a block
    pub declarations_pass : (counts : Counts) (all : List TypedDeclaration) → AllByRecursion (λ it. AllByRecursion (FitsItem program function) it.items) all
        → AllByRecursion (λ it. AllByRecursion (λ item. InStart (EachRight (KindsFit program function)) item.start) it.items) all
        → Passes (code.declarations_code setting function counts all)
    declarations_pass counts [] fits kinds = passes_nothing
    declarations_pass counts (it ∷ rest) fits kinds =
        passes_then (items_pass counts.pieces it.items fits.0 kinds.0) (declarations_pass (one_piece counts) rest fits.1 kinds.1)
