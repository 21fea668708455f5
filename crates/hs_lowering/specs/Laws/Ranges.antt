-- What the operations of an expression name is there (own).
--     IsThere program classes function its     what an operation names is there, apart from the operations to which it goes
--     ClassIn classes access                   the class of a pointer is one of those
--     NamesFit                                 the facts of an expression from which that follows
--     Named its                                what all of these operations name is there, wherever they stand
--     right_named, left_named                  the law: of a value, and of the address of an lvalue that is no slot
--     in_range                                 then operations that jump inside the code are in range
use Rattle.std.proofs.Common.{◌≡◌, ◌<◌, ℕ, suc, Bool, true, false, not, ◌&&◌, ◌||◌, List, [], ◌∷◌, ◌++◌, length, slice_get, Option, Some, None, IsTrue, is_some, refl, sym, ap, ◌∙◌, arith}
use Rattle.std.specs.List.{AllByRecursion}
use Rattle.hs_base.specs.Entries.{all_appended}
use Rattle.hs_code.specs.Codes.{scope_of, is_object, is_slot_in, IsInRange}
use Rattle.hs_code.specs.Stacks.{variable_in}
use Rattle.hs_code.specs.declared.function_code.FunctionCode.{FunctionCode}
use Rattle.hs_code.specs.declared.function_code.Placed.{Placed}
use Rattle.hs_code.specs.declared.op.Access.{Access}
use Rattle.hs_code.specs.declared.op.Access.TheVariants as reach
use Rattle.hs_code.specs.declared.op.Binary.TheVariants as binary
use Rattle.hs_code.specs.declared.op.Object.TheVariants as object
use Rattle.hs_code.specs.declared.op.Op.{Op}
use Rattle.hs_code.specs.declared.op.Op.TheVariants as op
use Rattle.hs_code.specs.declared.op.Unary.TheVariants as unary
use Rattle.hs_lowering.specs.Laws.Jumps.{JumpsWithin, AllWithin}
use Rattle.hs_lowering.specs.Laws.Stacks.{LikeIf, like_declared, declared_same, left_fact}
use Rattle.hs_lowering.specs.Lowering.{Lowered, after, operand, sequence, only, on_one, on_two, branches, chosen, answered, conjoined, declared_in, slot_by, slot_of, access_in, read_code, written_code, fetched, updated_code, stepped_code, numbers_changed, takes_decision, decided_if, bound_code, right_code, address_code, all_code, dropped_code}
use Rattle.hs_meaning.specs.Classes.{is_slot_declared}
use Rattle.hs_meaning.specs.Settings.{Setting, setting_of, access_of}
use Rattle.hs_tree.specs.Fitting.{InRange, HasOperands, HasResult, IsMarked, is_taken_variable, declared}
use Rattle.hs_tree.specs.Inside.{Node, right, left, EachRight, EachLeft, EachOf}
use Rattle.hs_tree.specs.Kinds.{kind_of_row, pointed_of_row, element_of_row, category_of_row, Category, of_void, of_number, of_pointer, of_struct, of_array, of_function, is_scalar, AreAlike}
use Rattle.hs_tree.specs.Trees as tree
use Rattle.hs_tree.specs.Trees.{RightValue, LeftValue, RightValues, TypedFunction, TypedProgram, type_of_left}
use Rattle.hs_tree.specs.declared.class.Class.{Class}
use Rattle.hs_tree.specs.declared.head.Head.{Head}
use Rattle.hs_tree.specs.declared.head.Variable.{Variable}
use Rattle.hs_tree.specs.declared.head.Variable.TheVariants as name
use Rattle.hs_tree.specs.declared.head.VariableDecl.{VariableDecl}
use Rattle.hs_types.specs.TypeTables.{TypeTable, row_of}
use Rattle.hs_types.specs.declared.row.Row.{Row}
use Rattle.hs_types.specs.declared.row.Row.TheVariants as row
use Rattle.hs_types.specs.declared.row.TypeId.{TypeId}

-- ---- what is named

-- the class of a pointer is one of those
abbrev pub ClassIn : List Class → Access → Type 0
ClassIn classes (reach.Number kind) = Unit {0}
ClassIn classes (reach.Pointer class) = class < length classes
ClassIn classes (reach.Struct size) = Unit {0}

-- the operations to which it goes are left out
abbrev pub IsThere : TypedProgram → List Class → TypedFunction → Op → Type 0
IsThere program classes function (op.Address (object.Variable its)) = is_object program.types (variable_in (scope_of program function) its) ≡ true
IsThere program classes function (op.Address (object.Literal place)) = place < length program.literals
IsThere program classes function (op.Get its) = is_slot_in program.types (variable_in (scope_of program function) its) ≡ true
IsThere program classes function (op.Set its) = is_slot_in program.types (variable_in (scope_of program function) its) ≡ true
IsThere program classes function (op.Load its) = ClassIn classes its
IsThere program classes function (op.Store its) = ClassIn classes its
IsThere program classes function (op.Shift place) = place < length program.routines
IsThere program classes function (op.Routine place) = place < length program.routines
IsThere program classes function (op.Call place) = place < length program.functions
IsThere program classes function _ = Unit {0}

-- what an object in memory reaches
abbrev pub Reaches : TypedProgram → List Class → TypedFunction → LeftValue → Type 0
Reaches program classes function e =
    slot_of (setting_of program) function.variables e ≡ None → ClassIn classes (access_in (access_of (setting_of program) e))

-- the class that an expression names itself
abbrev pub NamesClass : TypedProgram → List Class → TypedFunction → Node → Type 0
NamesClass program classes function (right (tree.load head e)) = Reaches program classes function e
NamesClass program classes function (right (tree.assign head into from)) = Reaches program classes function into
NamesClass program classes function (right (tree.update head operator kind to into from)) = Reaches program classes function into
NamesClass program classes function (right (tree.advance head stride into from)) = Reaches program classes function into
NamesClass program classes function (right (tree.post_update head operator kind to into)) = Reaches program classes function into
NamesClass program classes function (right (tree.post_advance head stride into)) = Reaches program classes function into
NamesClass program classes function _ = Unit {0}

-- what it names is there, and what has its address taken is marked
pub record NamesFit (program : TypedProgram) (classes : List Class) (function : TypedFunction) (node : Node) : Type 0 where
  pub range : InRange program function node
  pub operands : HasOperands program.types node
  pub result : HasResult program function node
  pub marked : IsMarked program function node
  pub class_there : NamesClass program classes function node

-- ---- operations in range

module _ (program : TypedProgram) (classes : List Class) (function : TypedFunction) (code : FunctionCode) where
  -- a load, or a store, of a class that is there
  pub class_range : (its : Access) → ClassIn classes its → IsInRange program classes function code (op.Load its)
  class_range (reach.Number kind) is = tt
  class_range (reach.Pointer class) is = is
  class_range (reach.Struct size) is = tt

  pub class_range_too : (its : Access) → ClassIn classes its → IsInRange program classes function code (op.Store its)
  class_range_too (reach.Number kind) is = tt
  class_range_too (reach.Pointer class) is = is
  class_range_too (reach.Struct size) is = tt

  -- one that jumps inside the code of the function
  pub in_range : (low high : ℕ) (its : Op) → IsThere program classes function its → JumpsWithin low high its → high < length code.ops
      → IsInRange program classes function code its
  in_range low high (op.Address (object.Variable its)) is jumps few = is
  in_range low high (op.Address (object.Literal place)) is jumps few = is
  in_range low high (op.Get its) is jumps few = is
  in_range low high (op.Set its) is jumps few = is
  in_range low high (op.Load its) is jumps few = class_range its is
  in_range low high (op.Store its) is jumps few = class_range_too its is
  in_range low high (op.Shift place) is jumps few = is
  in_range low high (op.Routine place) is jumps few = is
  in_range low high (op.Call place) is jumps few = is
  in_range low high (op.Jump target) is jumps few = omega (arith, jumps.1, few)
  in_range low high (op.Zero target) is jumps few = omega (arith, jumps.1, few)
  in_range low high (op.Pick target) is jumps few = omega (arith, jumps.1, few)
  in_range low high (op.Choose goal) is jumps few = absurd jumps
  in_range low high its is jumps few = tt

-- ---- slots

-- numbers and pointers
abbrev scalar_category : Option Category → Bool
scalar_category None = false
scalar_category (Some of_void) = false
scalar_category (Some (of_number kind)) = true
scalar_category (Some of_pointer) = true
scalar_category (Some of_struct) = false
scalar_category (Some of_array) = false
scalar_category (Some of_function) = false

by_category : (its : Option Row) → (is_some (kind_of_row its) || is_some (pointed_of_row its)) ≡ scalar_category (category_of_row its)
by_category None = refl
by_category (Some row.Void) = refl
by_category (Some (row.Integer kind)) = refl
by_category (Some (row.Pointer of)) = refl
by_category (Some (row.Enumeration number)) = refl
by_category (Some (row.Struct number)) = refl
by_category (Some (row.Array of length layout)) = refl
by_category (Some (row.OpenArray of)) = refl
by_category (Some (row.Function result parameters)) = refl

-- an array is no scalar
array_row : (its : Option Row) → IsTrue (is_some (element_of_row its)) → (is_some (kind_of_row its) || is_some (pointed_of_row its)) ≡ false
array_row None is = absurd cc
array_row (Some row.Void) is = absurd cc
array_row (Some (row.Integer kind)) is = absurd cc
array_row (Some (row.Pointer of)) is = absurd cc
array_row (Some (row.Enumeration number)) is = absurd cc
array_row (Some (row.Struct number)) is = absurd cc
array_row (Some (row.Array of length layout)) is = refl
array_row (Some (row.OpenArray of)) is = refl
array_row (Some (row.Function result parameters)) is = absurd cc

alike_scalar : (types : TypeTable) (one other : TypeId) → AreAlike types one other → is_scalar types one ≡ is_scalar types other
alike_scalar types one other alike =
    by_category (row_of types one) ∙ ap scalar_category alike ∙ sym (by_category (row_of types other))

not_taken : (b taken : Bool) → IsTrue taken → (b && not taken) ≡ false
not_taken true true is = refl
not_taken true false is = absurd cc
not_taken false taken is = refl

module _ (types : TypeTable) where
  -- what is taken, or is of no scalar type, is no slot
  taken_none : (its : Option VariableDecl) → IsTrue (is_taken_variable its) → is_slot_declared types its ≡ false
  taken_none None is = absurd cc
  taken_none (Some its) is = not_taken (is_scalar types its.type_id) its.taken is

  shaped_none : (its : Option VariableDecl) (id : TypeId) → LikeIf types its id → is_scalar types id ≡ false → is_slot_declared types its ≡ false
  shaped_none None id like is = absurd like
  shaped_none (Some its) id like is = ap (λ b. b && not its.taken) (alike_scalar types its.type_id id like ∙ is)

  -- a variable that is there is a slot or an object
  pub slot_is : (its : Option VariableDecl) → is_slot_declared types its ≡ true → is_slot_in types its ≡ true
  slot_is None is = absurd cc
  slot_is (Some its) is = is

  pub object_is : (its : Option VariableDecl) → IsTrue (is_some its) → is_slot_declared types its ≡ false → is_object types its ≡ true
  object_is None there is = absurd cc
  object_is (Some its) there is = ap not is

no_slot : (b : Bool) (its : Variable) → b ≡ false → slot_by b its ≡ None
no_slot true its is = absurd cc
no_slot false its is = refl

pub slot_false : (b : Bool) (its : Variable) → slot_by b its ≡ None → b ≡ false
slot_false true its is = absurd cc
slot_false false its is = refl

-- ---- lists

module _ (program : TypedProgram) (classes : List Class) (function : TypedFunction) where
  -- what a run needs of the program
  abbrev setting : Setting
  setting = setting_of program

  -- what an operation names is there
  abbrev There : Op → Type 0
  There its = IsThere program classes function its

  -- of each of them
  abbrev pub AllThere : List Placed → Type 0
  AllThere its = AllByRecursion (λ one. There one.op) its

  -- wherever they stand
  pub record Named (its : Lowered) : Type 0 where
    pub at : (start depth : ℕ) → AllThere (its start depth)

  pub both_there : (first second : List Placed) → AllThere first → AllThere second → AllThere (first ++ second)
  both_there first second is also = all_appended (λ one. There one.op) first second is also

  pub operand_named : {first second : Lowered} → Named first → Named second → Named (operand first second)
  operand_named {first = first} {second = second} is also =
      record {
        at = λ start depth.
            both_there (first start depth) (second (after start (first start depth)) (suc depth)) (is.at start depth)
            (also.at (after start (first start depth)) (suc depth));
      }

  sequence_named : {first second : Lowered} → Named first → Named second → Named (sequence first second)
  sequence_named {first = first} {second = second} is also =
      record {
        at = λ start depth.
            both_there (first start depth) (second (after start (first start depth)) depth) (is.at start depth)
            (also.at (after start (first start depth)) depth);
      }

  nothing_named : Named (λ start depth. [])
  nothing_named = record { at = λ start depth. tt }

  -- a slot that is there, or the class of what is in memory
  abbrev SlotThere : Option Variable → Access → Type 0
  SlotThere None access = ClassIn classes access
  SlotThere (Some its) access = is_slot_in program.types (variable_in (scope_of program function) its) ≡ true

  module _ (piece : ℕ) (head : Head) where
    only_named : (its : Op) → There its → Named (only piece head its)
    only_named its is = record { at = λ start depth. (is, tt) }

    one_named : (its : Op) {first : Lowered} → There its → Named first → Named (on_one piece head its first)
    one_named its is named = operand_named named (only_named its is)

    two_named : (its : Op) {first second : Lowered} → There its → Named first → Named second → Named (on_two piece head its first second)
    two_named its is named also = operand_named named (operand_named also (only_named its is))

    -- ---- branches

    branched : (at depth : ℕ) (first : List Placed) (second : Lowered) → AllThere first → Named second → AllThere (branches piece head at depth first second)
    branched at depth first second is also = (tt, both_there first _ is (tt, also.at (suc (after (suc at) first)) depth))

    chosen_named : {test first second : Lowered} → Named test → Named first → Named second → Named (chosen piece head test first second)
    chosen_named {test = test} {first = first} {second = second} is one other =
        record {
          at = λ start depth.
              both_there (test start depth) _ (is.at start depth)
              (branched (after start (test start depth)) depth (first (suc (after start (test start depth))) depth) second
              (one.at (suc (after start (test start depth))) depth) other);
        }

    answered_named : {test : Lowered} → Named test → Named (answered piece head test)
    answered_named is = chosen_named is (only_named (op.Num 1) tt) (only_named (op.Num 0) tt)

    conjoined_named : {first second : Lowered} → Named first → Named second → Named (conjoined piece head first second)
    conjoined_named {first = first} {second = second} is also =
        record {
          at = λ start depth.
              both_there (first start depth) _ (is.at start depth) (
                tt,
                both_there (second (suc (after start (first start depth))) depth) _ (also.at (suc (after start (first start depth))) depth)
                    (tt, (tt, (tt, (tt, tt)))),
              );
        }

    -- ---- objects

    read_named : (slot : Option Variable) (access : Access) {address : Lowered} → SlotThere slot access → (slot ≡ None → Named address)
        → Named (read_code piece head slot access address)
    read_named (Some its) access there is = only_named (op.Get its) there
    read_named None access there is = one_named (op.Load access) there (is refl)

    written_named : (slot : Option Variable) (access : Access) {address from : Lowered} → SlotThere slot access → (slot ≡ None → Named address) → Named from
        → Named (written_code piece head slot access address from)
    written_named (Some its) access there is also = one_named (op.Set its) there also
    written_named None access there is also = two_named (op.Store access) there (is refl) also

    fetched_named : (access : Access) → ClassIn classes access → Named (fetched piece head access)
    fetched_named access there = operand_named (only_named op.Dup tt) (only_named (op.Load access) there)

    -- what makes a new value of two
    record Changing (changes : Lowered → Lowered → Lowered) : Type 0 where
      pub go : (first second : Lowered) → Named first → Named second → Named (changes first second)

    numbers_changing : (its to : Op) → There its → There to → Changing (numbers_changed piece head its to)
    numbers_changing its to is also = record { go = λ first second one other. one_named to also (two_named its is one other) }

    pointers_changing : (its : Op) → There its → Changing (on_two piece head its)
    pointers_changing its is = record { go = λ first second one other. two_named its is one other }

    updated_named : (slot : Option Variable) (access : Access) (changes : Lowered → Lowered → Lowered) → Changing changes → (address from : Lowered)
        → SlotThere slot access → (slot ≡ None → Named address) → Named from → Named (updated_code piece head slot access changes address from)
    updated_named (Some its) access changes changing address from there is also =
        one_named (op.Set its) there (changing.go (only piece head (op.Get its)) from (only_named (op.Get its) there) also)
    updated_named None access changes changing address from there is also =
        two_named (op.Store access) there (is refl) (changing.go (fetched piece head access) from (fetched_named access there) also)

    stepped_named : (slot : Option Variable) (access : Access) (changes : Lowered → Lowered → Lowered) → Changing changes → (address : Lowered)
        → SlotThere slot access → (slot ≡ None → Named address) → Named (stepped_code piece head slot access changes address)
    stepped_named (Some its) access changes changing address there is =
        two_named op.Drop tt (only_named (op.Get its) there)
        (one_named (op.Set its) there
        (changing.go (only piece head op.Dup) (only piece head (op.Num 1)) (only_named op.Dup tt) (only_named (op.Num 1) tt)))
    stepped_named None access changes changing address there is =
        operand_named (is refl) (operand_named (fetched_named access there)
        (sequence_named (one_named (op.Store access) there
        (changing.go (only piece head op.Tuck) (only piece head (op.Num 1)) (only_named op.Tuck tt) (only_named (op.Num 1) tt))) (only_named op.Drop tt)))

    -- ---- calls

    decided_named : (b : Bool) (place : ℕ) → place < length program.routines → Named (decided_if piece b head place)
    decided_named true place there = only_named (op.Shift place) there
    decided_named false place there = nothing_named

-- ---- expressions

module _ (program : TypedProgram) (classes : List Class) (function : TypedFunction) (piece : ℕ) where
  -- what a run needs of the program
  abbrev names : Setting
  names = setting_of program

  -- the facts of a value
  abbrev pub RightNames : RightValue → Type 0
  RightNames e = EachRight (NamesFit program classes function) e

  -- of an lvalue
  abbrev pub LeftNames : LeftValue → Type 0
  LeftNames e = EachLeft (NamesFit program classes function) e

  -- the lvalue is no slot
  abbrev pub IsNoSlot : LeftValue → Type 0
  IsNoSlot e = slot_of names function.variables e ≡ None

  there_as : (its : Variable) → IsTrue (is_some (declared program function its)) → IsTrue (is_some (declared_in names function.variables its))
  there_as (name.Global place) is = is
  there_as (name.Local place) is = is

  taken_as : (its : Variable) → IsTrue (is_taken_variable (declared program function its))
      → IsTrue (is_taken_variable (declared_in names function.variables its))
  taken_as (name.Global place) is = is
  taken_as (name.Local place) is = is

  -- what has its address taken
  taken_no_slot : (head : Head) (e : LeftValue) → IsMarked program function (right (tree.address head e)) → IsNoSlot e
  taken_no_slot head (tree.variable its variable) is =
      no_slot (is_slot_declared program.types (declared_in names function.variables variable)) variable
      (taken_none program.types (declared_in names function.variables variable) (taken_as variable is))
  taken_no_slot head (tree.literal its place) is = refl
  taken_no_slot head (tree.target its pointer) is = refl
  taken_no_slot head (tree.element its size pointer_first a b) is = refl
  taken_no_slot head (tree.member its field bytes e) is = refl
  taken_no_slot head (tree.arrow its field bytes e) is = refl

  -- what is of no scalar type
  shaped_no_slot : (e : LeftValue) → HasResult program function (left e) → is_scalar program.types (type_of_left e) ≡ false → IsNoSlot e
  shaped_no_slot (tree.variable head variable) result is =
      no_slot (is_slot_declared program.types (declared_in names function.variables variable)) variable
      (shaped_none program.types (declared_in names function.variables variable) head.type_id (like_declared program function variable head.type_id result) is)
  shaped_no_slot (tree.literal head place) result is = refl
  shaped_no_slot (tree.target head pointer) result is = refl
  shaped_no_slot (tree.element head size pointer_first a b) result is = refl
  shaped_no_slot (tree.member head field bytes e) result is = refl
  shaped_no_slot (tree.arrow head field bytes e) result is = refl

  -- a slot is there, or the class of what is in memory
  slot_by_there : (b : Bool) (its : Variable) (access : Access) → is_slot_declared program.types (declared_in names function.variables its) ≡ b
      → (slot_by b its ≡ None → ClassIn classes access) → SlotThere program classes function (slot_by b its) access
  slot_by_there true its access so there =
      ap (is_slot_in program.types) (declared_same program function its) ∙ slot_is program.types (declared_in names function.variables its) so
  slot_by_there false its access so there = there refl

  slot_there : (e : LeftValue) → Reaches program classes function e
      → SlotThere program classes function (slot_of names function.variables e) (access_in (access_of names e))
  slot_there (tree.variable head its) there =
      slot_by_there (is_slot_declared program.types (declared_in names function.variables its)) its
      (access_in (access_of names (tree.variable head its))) refl there
  slot_there (tree.literal head place) there = there refl
  slot_there (tree.target head pointer) there = there refl
  slot_there (tree.element head size pointer_first a b) there = there refl
  slot_there (tree.member head field bytes e) there = there refl
  slot_there (tree.arrow head field bytes e) there = there refl

  bound_named : (head : Head) (number : ℕ) (routine : Option ℕ) (arguments : RightValues)
      → InRange program function (right (tree.call head number routine arguments))
      → Named program classes function (bound_code names function.variables piece head routine)
  bound_named head number None arguments is = nothing_named program classes function
  bound_named head number (Some place) arguments is =
      decided_named program classes function piece head (takes_decision (slice_get program.routines place)) place is.1

  -- the called function
  function_there : (head : Head) (number : ℕ) (routine : Option ℕ) (arguments : RightValues)
      → InRange program function (right (tree.call head number routine arguments)) → number < length program.functions
  function_there head number None arguments is = is
  function_there head number (Some place) arguments is = is.0

  mutual
    -- of a value
    pub right_named : (e : RightValue) → RightNames e → Named program classes function (right_code names function.variables piece e)
    right_named (tree.number head bits) is = only_named program classes function piece head (op.Num bits) tt
    right_named (tree.nil head) is = only_named program classes function piece head op.Nil tt
    right_named (tree.load head e) is =
        read_named program classes function piece head (slot_of names function.variables e) (access_in (access_of names e)) (slot_there e is.0.class_there)
        (λ no_. left_named e is.1 no_)
    right_named (tree.decay head e) is =
        left_named e is.1
        (shaped_no_slot e (left_fact (NamesFit program classes function) e is.1).result (array_row (row_of program.types (type_of_left e)) is.0.operands))
    right_named (tree.address head e) is = left_named e is.1 (taken_no_slot head e is.0.marked)
    right_named (tree.cast head e) is = right_named e is.1
    right_named (tree.convert_number head its e) is = one_named program classes function piece head (op.Conv its) tt (right_named e is.1)
    right_named (tree.convert_pointer head e) is = right_named e is.1
    right_named (tree.unary head its kind e) is = one_named program classes function piece head (op.Unary (unary.Sign its)) tt (right_named e is.1)
    right_named (tree.not head e) is = one_named program classes function piece head (op.Unary unary.Not) tt (right_named e is.1)
    right_named (tree.arithmetic head its kind a b) is =
        two_named program classes function piece head (op.Binary (binary.Arithmetic its) kind) tt (right_named a is.1) (right_named b is.2)
    right_named (tree.comparison head its kind a b) is =
        two_named program classes function piece head (op.Binary (binary.Comparison its) kind) tt (right_named a is.1) (right_named b is.2)
    right_named (tree.compare_pointers head its a b) is =
        two_named program classes function piece head (op.Compare its) tt (right_named a is.1) (right_named b is.2)
    right_named (tree.is_nil head true e) is = one_named program classes function piece head op.IsNil tt (right_named e is.1)
    right_named (tree.is_nil head false e) is =
        one_named program classes function piece head (op.Unary unary.Not) tt (one_named program classes function piece head op.IsNil tt (right_named e is.1))
    right_named (tree.step head stride pointer_first a b) is =
        two_named program classes function piece head (op.Step stride pointer_first) tt (right_named a is.1) (right_named b is.2)
    right_named (tree.difference head size a b) is =
        two_named program classes function piece head (op.Difference size) tt (right_named a is.1) (right_named b is.2)
    right_named (tree.and head a b) is = conjoined_named program classes function piece head (right_named a is.1) (right_named b is.2)
    right_named (tree.or head a b) is =
        chosen_named program classes function piece head (right_named a is.1) (only_named program classes function piece head (op.Num 1) tt)
        (answered_named program classes function piece head (right_named b is.2))
    right_named (tree.conditional head test a b) is =
        chosen_named program classes function piece head (right_named test is.1) (right_named a is.2) (right_named b is.3)
    right_named (tree.comma head lefts last) is = dropped_named head lefts is.1 (right_code names function.variables piece last) (right_named last is.2)
    right_named (tree.assign head into from) is =
        written_named program classes function piece head (slot_of names function.variables into) (access_in (access_of names into))
        (slot_there into is.0.class_there) (λ no_. left_named into is.1 no_) (right_named from is.2)
    right_named (tree.update head its kind to into from) is =
        updated_named program classes function piece head (slot_of names function.variables into) (access_in (access_of names into)) _
        (numbers_changing program classes function piece head (op.Binary (binary.Arithmetic its) kind) (op.Conv to) tt tt) _ _
        (slot_there into is.0.class_there) (λ no_. left_named into is.1 no_) (right_named from is.2)
    right_named (tree.advance head stride into from) is =
        updated_named program classes function piece head (slot_of names function.variables into) (access_in (access_of names into)) _
        (pointers_changing program classes function piece head (op.Step stride true) tt) _ _
        (slot_there into is.0.class_there) (λ no_. left_named into is.1 no_) (right_named from is.2)
    right_named (tree.post_update head its kind to into) is =
        stepped_named program classes function piece head (slot_of names function.variables into) (access_in (access_of names into)) _
        (numbers_changing program classes function piece head (op.Binary (binary.Arithmetic its) kind) (op.Conv to) tt tt) _
        (slot_there into is.0.class_there) (λ no_. left_named into is.1 no_)
    right_named (tree.post_advance head stride into) is =
        stepped_named program classes function piece head (slot_of names function.variables into) (access_in (access_of names into)) _
        (pointers_changing program classes function piece head (op.Step stride true) tt) _
        (slot_there into is.0.class_there) (λ no_. left_named into is.1 no_)
    right_named (tree.call head place routine arguments) is =
        all_named arguments is.1 _
        (sequence_named program classes function (bound_named head place routine arguments is.0.range)
        (only_named program classes function piece head (op.Call place) (function_there head place routine arguments is.0.range)))
    right_named (tree.call_routine head place arguments) is =
        all_named arguments is.1 _
        (sequence_named program classes function
        (decided_named program classes function piece head (takes_decision (slice_get program.routines place)) place is.0.range)
        (only_named program classes function piece head (op.Routine place) is.0.range))

    -- of an address
    pub left_named : (e : LeftValue) → LeftNames e → IsNoSlot e → Named program classes function (address_code names function.variables piece e)
    left_named (tree.variable head its) is no_ =
        only_named program classes function piece head (op.Address (object.Variable its))
        (ap (is_object program.types) (declared_same program function its)
        ∙ object_is program.types (declared_in names function.variables its) (there_as its is.range)
        (slot_false (is_slot_declared program.types (declared_in names function.variables its)) its no_))
    left_named (tree.literal head place) is no_ = only_named program classes function piece head (op.Address (object.Literal place)) is.range
    left_named (tree.target head e) is no_ = right_named e is.1
    left_named (tree.element head size pointer_first a b) is no_ =
        two_named program classes function piece head (op.Step (record { size = size; backward = false }) pointer_first) tt (right_named a is.1)
        (right_named b is.2)
    left_named (tree.member head field bytes e) is no_ =
        one_named program classes function piece head (op.Offset bytes) tt
        (left_named e is.1
        (shaped_no_slot e (left_fact (NamesFit program classes function) e is.1).result
        (ap (λ found. is_some (kind_of_row found) || is_some (pointed_of_row found)) is.0.operands)))
    left_named (tree.arrow head field bytes e) is no_ = one_named program classes function piece head (op.Offset bytes) tt (right_named e is.1)

    all_named : (arguments : RightValues) → EachOf (NamesFit program classes function) arguments → (last : Lowered) → Named program classes function last
        → Named program classes function (all_code names function.variables piece arguments last)
    all_named tree.no_values is last named = named
    all_named (tree.more_values e rest) is last named = operand_named program classes function (right_named e is.0) (all_named rest is.1 last named)

    dropped_named : (head : Head) (lefts : RightValues) → EachOf (NamesFit program classes function) lefts → (last : Lowered)
        → Named program classes function last → Named program classes function (dropped_code names function.variables piece head lefts last)
    dropped_named head tree.no_values is last named = named
    dropped_named head (tree.more_values e rest) is last named =
        sequence_named program classes function (one_named program classes function piece head op.Drop tt (right_named e is.0))
        (dropped_named head rest is.1 last named)

-- ---- in range

-- a list that jumps inside the code of the function
pub all_in_range : (program : TypedProgram) (classes : List Class) (function : TypedFunction) (code : FunctionCode) (low high : ℕ) (its : List Placed)
    → AllByRecursion (λ one. IsThere program classes function one.op) its → AllWithin low high its → high < length code.ops
    → AllByRecursion (λ one. IsInRange program classes function code one.op) its
all_in_range program classes function code low high [] is within few = tt
all_in_range program classes function code low high (one ∷ rest) is within few =
    (in_range program classes function code low high one.op is.0 within.0 few, all_in_range program classes function code low high rest is.1 within.1 few)
