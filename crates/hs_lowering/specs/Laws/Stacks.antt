-- An expression leaves one value more, of the kind of its type (own).
--     KindsFit program function node     the facts of an expression from which that follows
--     pushed its kinds                   kinds on the stack, the first of `its` lowest
--     SlotFits                           a slot that is there is of a kind
--     read_leaves, written_leaves, ..    the ways to use an object; `Changing` of what makes a new value of two
--     right_leaves, left_leaves          the law: of a value, and of an address, which is a pointer
use Rattle.std.proofs.Common.{◌≡◌, ℕ, zero, suc, Bool, true, false, List, [], ◌∷◌, ◌++◌, map, length, reverse, slice_get, Option, Some, None, IsTrue, is_some, option_map, ◌||◌, if◌then◌else◌, refl, sym, ap, ◌∙◌, subst}
use Rattle.std.proofs.lemmas.List.{append_assoc, reverse-append}
use Rattle.hs_code.specs.Codes.{scope_of, signature_of}
use Rattle.hs_code.specs.Stacks.{Scope, Kind, Signature, kind_of, kind_in, kinds_after, slot_kind, variable_in, routine_signature, same_kind, if_same, without, turned, above, after_call, after_get, after_set}
use Rattle.hs_code.specs.Stacks as stacks
use Rattle.hs_code.specs.declared.function_code.FunctionCode.{FunctionCode}
use Rattle.hs_code.specs.declared.op.Access.{Access}
use Rattle.hs_code.specs.declared.op.Binary.TheVariants as binary
use Rattle.hs_code.specs.declared.op.Object.TheVariants as object
use Rattle.hs_code.specs.declared.op.Op.{Op}
use Rattle.hs_code.specs.declared.op.Op.TheVariants as op
use Rattle.hs_code.specs.declared.op.Unary.TheVariants as unary
use Rattle.hs_lowering.specs.Laws.Kinds.{IsOf, number_kinds, pointer_kinds, any_number, a_pointer, sized_pointer, like_kinds, access_kind, read_value}
use Rattle.hs_lowering.specs.Laws.Leaving.{Is, IsPlain, Goes, Leaves, weaker, nothing_goes, operand_goes, sequence_goes, only_goes, only_leaves, one_leaves, one_goes, two_leaves, two_goes, chosen_goes, answered_leaves, conjoined_leaves}
use Rattle.hs_lowering.specs.Lowering.{Lowered, operand, sequence, only, on_one, on_two, answered, declared_in, slot_by, slot_of, access_in, read_code, written_code, fetched, updated_code, stepped_code, numbers_changed, takes_decision, decided_if, bound_code, right_code, address_code, all_code, dropped_code}
use Rattle.hs_meaning.specs.Classes.{is_slot_declared}
use Rattle.hs_meaning.specs.Settings.{Setting, setting_of, access_of}
use Rattle.hs_tree.specs.Fitting.{HasOperands, HasResult, AreReadable, FitsFunction, FitsRoutine, FitParameters, FitsCalled, FitsPrototype, prototype_in, IsSecondOperand, AreSteps, struct_at, stepping, IsOfType, IsObjectOf, IsVariableOf, variable_of_global}
use Rattle.hs_tree.specs.Inside.{Node, right, left, EachRight, EachLeft, EachOf}
use Rattle.hs_tree.specs.Kinds.{kind_of_row, number_kind, pointed, is_void, IsAnyNumber, IsPointer, AreAlike}
use Rattle.hs_tree.specs.Objects.{number_in}
use Rattle.hs_tree.specs.Sameness.{AreOne}
use Rattle.hs_tree.specs.Trees as tree
use Rattle.hs_tree.specs.Trees.{RightValue, LeftValue, RightValues, TypedFunction, TypedProgram, type_of, type_of_left}
use Rattle.hs_tree.specs.declared.function.BoundRoutine.{BoundRoutine}
use Rattle.hs_tree.specs.declared.function.Prototype.{Prototype}
use Rattle.hs_tree.specs.declared.globals.Global.{Global}
use Rattle.hs_tree.specs.declared.head.Head.{Head}
use Rattle.hs_tree.specs.declared.head.Variable.{Variable}
use Rattle.hs_tree.specs.declared.head.Variable.TheVariants as name
use Rattle.hs_tree.specs.declared.head.VariableDecl.{VariableDecl}
use Rattle.hs_tree.specs.declared.operators.Arithmetic.{Arithmetic}
use Rattle.hs_tree.specs.declared.operators.Arithmetic.TheVariants as operator
use Rattle.hs_tree.specs.declared.operators.Stride.{Stride}
use Rattle.hs_types.specs.Rows.{integer_id}
use Rattle.hs_types.specs.TypeTables.{TypeTable, IsRight, row_of}
use Rattle.hs_types.specs.declared.integer.Integer.{Integer}
use Rattle.hs_types.specs.declared.integer.Integer.TheVariants as integer
use Rattle.hs_types.specs.declared.row.Row.{Row}
use Rattle.hs_types.specs.declared.row.Row.TheVariants as row
use Rattle.hs_types.specs.declared.row.TypeId.{TypeId}

-- ---- facts of an expression

-- its operands and its result are of the right types
pub record KindsFit (program : TypedProgram) (function : TypedFunction) (node : Node) : Type 0 where
  pub operands : HasOperands program.types node
  pub result : HasResult program function node
  pub called : FitsFunction program node
  pub routine : FitsRoutine program node

-- ---- kinds on a stack

-- the first one lowest
abbrev pub pushed : List Kind → List Kind → List Kind
pushed [] kinds = kinds
pushed (its ∷ rest) kinds = pushed rest (its ∷ kinds)

pushed_is : (its kinds : List Kind) → pushed its kinds ≡ reverse its ++ kinds
pushed_is [] kinds = refl
pushed_is (kind ∷ its) kinds =
    pushed_is its (kind ∷ kinds) ∙ sym (append_assoc (reverse its) (kind ∷ []) kinds)
    ∙ ap (λ list. list ++ kinds) (sym (reverse-append (kind ∷ []) its))

self : (kind : Kind) → same_kind kind kind ≡ true
self stacks.number = refl
self stacks.pointer = refl
self stacks.structure = refl

pub without_all : (its kinds : List Kind) → without its (its ++ kinds) ≡ Some kinds
without_all [] kinds = refl
without_all (kind ∷ its) kinds = ap (λ is. if_same is (without its (its ++ kinds))) (self kind) ∙ without_all its kinds

-- the arguments of a call are taken
taken_all : (its kinds : List Kind) (kind : Kind) → turned (reverse its) kind (pushed its kinds) ≡ Some (kind ∷ kinds)
taken_all its kinds kind = ap (turned (reverse its) kind) (pushed_is its kinds) ∙ ap (above kind) (without_all (reverse its) kinds)

set_again : (kind : Kind) (kinds : List Kind) → turned (kind ∷ []) kind (kind ∷ kinds) ≡ Some (kind ∷ kinds)
set_again stacks.number kinds = refl
set_again stacks.pointer kinds = refl
set_again stacks.structure kinds = refl

store_again : (kind : Kind) (kinds : List Kind) → turned (kind ∷ stacks.pointer ∷ []) kind (kind ∷ stacks.pointer ∷ kinds) ≡ Some (kind ∷ kinds)
store_again stacks.number kinds = refl
store_again stacks.pointer kinds = refl
store_again stacks.structure kinds = refl

-- ---- slots

-- a slot that is there is of that kind
abbrev pub SlotFits : Scope → Option Variable → Kind → Type 0
SlotFits scope None kind = Unit {0}
SlotFits scope (Some its) kind = slot_kind scope.types (variable_in scope its) ≡ Some kind

-- a variable that is there is of a type like that one
abbrev pub LikeIf : TypeTable → Option VariableDecl → TypeId → Type 0
LikeIf types None id = ⊥
LikeIf types (Some its) id = AreAlike types its.type_id id

global_same : (its : Option Global) → stacks.variable_of_global its ≡ variable_of_global its
global_same None = refl
global_same (Some its) = refl

like_global : (types : TypeTable) (its : Option Global) (id : TypeId) → IsObjectOf types its id → LikeIf types (variable_of_global its) id
like_global types None id is = absurd is
like_global types (Some its) id is = is

module _ (program : TypedProgram) (function : TypedFunction) where
  like_local : (its : Option VariableDecl) (id : TypeId) → IsVariableOf program.same program.types its id → LikeIf program.types its id
  like_local None id is = absurd is
  like_local (Some its) id is = is.0.0

  pub like_declared : (its : Variable) (id : TypeId) → IsOfType program function its id
      → LikeIf program.types (declared_in (setting_of program) function.variables its) id
  like_declared (name.Global place) id is = like_global program.types (slice_get program.globals place) id is
  like_declared (name.Local place) id is = like_local (slice_get function.variables place) id is

  pub declared_same : (its : Variable) → variable_in (scope_of program function) its ≡ declared_in (setting_of program) function.variables its
  declared_same (name.Global place) = global_same (slice_get program.globals place)
  declared_same (name.Local place) = refl

  kind_there : (its : Option VariableDecl) (id : TypeId) → is_slot_declared program.types its ≡ true → LikeIf program.types its id
      → slot_kind program.types its ≡ Some (kind_of program.types id)
  kind_there None id is like = absurd cc
  kind_there (Some its) id is like =
      ap (λ b. if b then Some (kind_of program.types its.type_id) else None) is ∙ ap Some (like_kinds program.types its.type_id id like).0

  slot_there : (b : Bool) (its : Variable) (id : TypeId) → is_slot_declared program.types (declared_in (setting_of program) function.variables its) ≡ b
      → IsOfType program function its id → SlotFits (scope_of program function) (slot_by b its) (kind_of program.types id)
  slot_there false its id so is = tt
  slot_there true its id so is =
      ap (slot_kind program.types) (declared_same its)
      ∙ kind_there (declared_in (setting_of program) function.variables its) id so (like_declared its id is)

  -- of an lvalue
  pub slot_fits : (e : LeftValue) → HasResult program function (left e)
      → SlotFits (scope_of program function) (slot_of (setting_of program) function.variables e) (kind_of program.types (type_of_left e))
  slot_fits (tree.variable head its) is =
      slot_there (is_slot_declared program.types (declared_in (setting_of program) function.variables its)) its head.type_id refl is
  slot_fits (tree.literal head place) is = tt
  slot_fits (tree.target head pointer) is = tt
  slot_fits (tree.element head size pointer_first a b) is = tt
  slot_fits (tree.member head field bytes object) is = tt
  slot_fits (tree.arrow head field bytes pointer) is = tt

-- ---- objects

module _ (scope : Scope) (code : FunctionCode) (piece : ℕ) (head : Head) where
  -- a load, a store, and a slot that is given a value
  load_operands : (access : Access) (kind : Kind) (kinds : List Kind) → kind_in access ≡ kind
      → kinds_after scope (op.Load access) (stacks.pointer ∷ kinds) ≡ Some (kind ∷ kinds)
  load_operands access kind kinds same = ap (λ its. Some (its ∷ kinds)) same

  pub store_operands : (access : Access) (kind : Kind) (kinds : List Kind) → kind_in access ≡ kind
      → kinds_after scope (op.Store access) (kind ∷ stacks.pointer ∷ kinds) ≡ Some (kind ∷ kinds)
  store_operands access kind kinds same =
      ap (λ its. turned (its ∷ stacks.pointer ∷ []) its (kind ∷ stacks.pointer ∷ kinds)) same ∙ store_again kind kinds

  pub set_operands : (its : Variable) (kind : Kind) (kinds : List Kind) → SlotFits scope (Some its) kind
      → kinds_after scope (op.Set its) (kind ∷ kinds) ≡ Some (kind ∷ kinds)
  set_operands its kind kinds fits = ap (λ found. after_set found (kind ∷ kinds)) fits ∙ set_again kind kinds

  get_leaves : (its : Variable) (kind : Kind) (kinds : List Kind) → SlotFits scope (Some its) kind
      → Leaves scope code (only piece head (op.Get its)) (Is kind) kinds
  get_leaves its kind kinds fits =
      only_leaves scope code piece head (op.Get its) kinds kind (λ cases at next follows. follows) (ap (λ found. after_get found kinds) fits)

  pub read_leaves : (slot : Option Variable) (access : Access) (address : Lowered) (kinds : List Kind) (kind : Kind) → SlotFits scope slot kind
      → kind_in access ≡ kind → Leaves scope code address (Is stacks.pointer) kinds
      → Leaves scope code (read_code piece head slot access address) (Is kind) kinds
  read_leaves (Some its) access address kinds kind fits same leaves = get_leaves its kind kinds fits
  read_leaves None access address kinds kind fits same leaves =
      one_leaves scope code piece head (op.Load access) address kinds stacks.pointer kind (λ cases at next follows. follows)
      (load_operands access kind kinds same) leaves

  pub written_leaves : (slot : Option Variable) (access : Access) (address from : Lowered) (kinds : List Kind) (kind : Kind)
      → SlotFits scope slot kind → kind_in access ≡ kind → Leaves scope code address (Is stacks.pointer) kinds
      → ((kinds : List Kind) → Leaves scope code from (Is kind) kinds) → Leaves scope code (written_code piece head slot access address from) (Is kind) kinds
  written_leaves (Some its) access address from kinds kind fits same leaves also =
      one_leaves scope code piece head (op.Set its) from kinds kind kind (λ cases at next follows. follows) (set_operands its kind kinds fits) (also kinds)
  written_leaves None access address from kinds kind fits same leaves also =
      two_leaves scope code piece head (op.Store access) address from kinds stacks.pointer kind kind (λ cases at next follows. follows)
      (store_operands access kind kinds same) leaves (also (stacks.pointer ∷ kinds))

  fetched_leaves : (access : Access) (kind : Kind) (kinds : List Kind) → kind_in access ≡ kind
      → Leaves scope code (fetched piece head access) (Is kind) (stacks.pointer ∷ kinds)
  fetched_leaves access kind kinds same =
      one_leaves scope code piece head (op.Load access) (only piece head op.Dup) (stacks.pointer ∷ kinds) stacks.pointer kind
      (λ cases at next follows. follows) (load_operands access kind (stacks.pointer ∷ kinds) same)
      (only_leaves scope code piece head op.Dup (stacks.pointer ∷ kinds) stacks.pointer (λ cases at next follows. follows) refl)

  -- what makes a new value of two, of which the second is a number
  pub record Changing (changes : Lowered → Lowered → Lowered) (kind : Kind) : Type 0 where
    pub go : (first second : Lowered) (kinds base : List Kind) → length base ≡ length kinds → Goes scope code first (Is kind) kinds (λ a. a ∷ base)
        → Leaves scope code second (Is stacks.number) (kind ∷ base) → Goes scope code (changes first second) (Is kind) kinds (λ a. a ∷ base)

  pub numbers_changing : (operator : Arithmetic) (its to : Integer)
      → Changing (numbers_changed piece head (op.Binary (binary.Arithmetic operator) its) (op.Conv to)) stacks.number
  numbers_changing operator its to =
      record {
        go = λ first second kinds base same goes leaves.
            one_goes scope code piece head (op.Conv to) (on_two piece head (op.Binary (binary.Arithmetic operator) its) first second) kinds base
            stacks.number stacks.number same (λ cases at next follows. follows) refl
            (two_goes scope code piece head (op.Binary (binary.Arithmetic operator) its) first second kinds base stacks.number stacks.number
            stacks.number same (λ cases at next follows. follows) refl goes leaves);
      }

  pub pointers_changing : (stride : Stride) → Changing (on_two piece head (op.Step stride true)) stacks.pointer
  pointers_changing stride =
      record {
        go = λ first second kinds base same goes leaves.
            two_goes scope code piece head (op.Step stride true) first second kinds base stacks.pointer stacks.number stacks.pointer same
            (λ cases at next follows. follows) refl goes leaves;
      }

  pub updated_leaves : (slot : Option Variable) (access : Access) (changes : Lowered → Lowered → Lowered) (address from : Lowered) (kinds : List Kind)
      (kind : Kind) → Changing changes kind → SlotFits scope slot kind → kind_in access ≡ kind → Leaves scope code address (Is stacks.pointer) kinds
      → ((kinds : List Kind) → Leaves scope code from (Is stacks.number) kinds)
      → Leaves scope code (updated_code piece head slot access changes address from) (Is kind) kinds
  updated_leaves (Some its) access changes address from kinds kind changing fits same leaves also =
      one_leaves scope code piece head (op.Set its) (changes (only piece head (op.Get its)) from) kinds kind kind (λ cases at next follows. follows)
      (set_operands its kind kinds fits)
      (changing.go (only piece head (op.Get its)) from kinds kinds refl (get_leaves its kind kinds fits) (also (kind ∷ kinds)))
  updated_leaves None access changes address from kinds kind changing fits same leaves also =
      two_leaves scope code piece head (op.Store access) address (changes (fetched piece head access) from) kinds stacks.pointer kind kind
      (λ cases at next follows. follows) (store_operands access kind kinds same) leaves
      (changing.go (fetched piece head access) from (stacks.pointer ∷ kinds) (stacks.pointer ∷ kinds) refl (fetched_leaves access kind kinds same)
      (also (kind ∷ stacks.pointer ∷ kinds)))

  pub stepped_leaves : (slot : Option Variable) (access : Access) (changes : Lowered → Lowered → Lowered) (address : Lowered) (kinds : List Kind)
      (kind : Kind) → Changing changes kind → SlotFits scope slot kind → kind_in access ≡ kind → Leaves scope code address (Is stacks.pointer) kinds
      → Leaves scope code (stepped_code piece head slot access changes address) (Is kind) kinds
  stepped_leaves (Some its) access changes address kinds kind changing fits same leaves =
      two_leaves scope code piece head op.Drop (only piece head (op.Get its))
      (on_one piece head (op.Set its) (changes (only piece head op.Dup) (only piece head (op.Num 1)))) kinds kind kind kind
      (λ cases at next follows. follows) refl (get_leaves its kind kinds fits)
      (one_leaves scope code piece head (op.Set its) (changes (only piece head op.Dup) (only piece head (op.Num 1))) (kind ∷ kinds) kind kind
      (λ cases at next follows. follows) (set_operands its kind (kind ∷ kinds) fits)
      (changing.go (only piece head op.Dup) (only piece head (op.Num 1)) (kind ∷ kinds) (kind ∷ kinds) refl
      (only_leaves scope code piece head op.Dup (kind ∷ kinds) kind (λ cases at next follows. follows) refl)
      (only_leaves scope code piece head (op.Num 1) (kind ∷ kind ∷ kinds) stacks.number (λ cases at next follows. follows) refl)))
  stepped_leaves None access changes address kinds kind changing fits same leaves =
      operand_goes scope code address (operand (fetched piece head access) last) (λ a. refl) leaves
      (λ a is. subst (λ a. Goes scope code (operand (fetched piece head access) last) (Is kind) (a ∷ kinds) (λ left. left ∷ kinds)) (sym is)
      (operand_goes scope code (fetched piece head access) last (λ a. refl) (fetched_leaves access kind kinds same)
      (λ a so. subst (λ a. Goes scope code last (Is kind) (a ∷ stacks.pointer ∷ kinds) (λ left. left ∷ kinds)) (sym so) ends)))
    where
      fresh : Lowered
      fresh = changes (only piece head op.Tuck) (only piece head (op.Num 1))

      last : Lowered
      last = sequence (on_one piece head (op.Store access) fresh) (only piece head op.Drop)

      made : Goes scope code fresh (Is kind) (kind ∷ stacks.pointer ∷ kinds) (λ a. a ∷ stacks.pointer ∷ kind ∷ kinds)
      made =
          changing.go (only piece head op.Tuck) (only piece head (op.Num 1)) (kind ∷ stacks.pointer ∷ kinds) (stacks.pointer ∷ kind ∷ kinds) refl
          (only_goes scope code piece head op.Tuck (kind ∷ stacks.pointer ∷ kinds) (λ a. a ∷ stacks.pointer ∷ kind ∷ kinds) kind refl
          (λ cases at next follows. follows) refl)
          (only_leaves scope code piece head (op.Num 1) (kind ∷ stacks.pointer ∷ kind ∷ kinds) stacks.number (λ cases at next follows. follows) refl)

      stored : Goes scope code (on_one piece head (op.Store access) fresh) (Is kind) (kind ∷ stacks.pointer ∷ kinds) (λ a. a ∷ kind ∷ kinds)
      stored =
          operand_goes scope code fresh (only piece head (op.Store access)) (λ a. refl) made
          (λ a so. subst (λ a. Goes scope code (only piece head (op.Store access)) (Is kind) (a ∷ stacks.pointer ∷ kind ∷ kinds) (λ left. left ∷ kind ∷ kinds))
          (sym so)
          (only_goes scope code piece head (op.Store access) (kind ∷ stacks.pointer ∷ kind ∷ kinds) (λ left. left ∷ kind ∷ kinds) kind refl
          (λ cases at next follows. follows) (store_operands access kind (kind ∷ kinds) same)))

      ends : Goes scope code last (Is kind) (kind ∷ stacks.pointer ∷ kinds) (λ left. left ∷ kinds)
      ends =
          sequence_goes scope code (on_one piece head (op.Store access) fresh) (only piece head op.Drop) (λ a. refl) stored
          (λ a so. only_goes scope code piece head op.Drop (a ∷ kind ∷ kinds) (λ left. left ∷ kinds) kind refl (λ cases at next follows. follows) refl)

  -- ---- calls

  pub decided_goes : (moves : Bool) (place : ℕ) (kinds : List Kind)
      → Goes scope code (decided_if piece moves head place) (λ (a : Unit {0}). Unit {0}) kinds (λ a. kinds)
  decided_goes true place kinds =
      only_goes scope code piece head (op.Shift place) kinds (λ (a : Unit {0}). kinds) tt tt (λ cases at next follows. follows) refl
  decided_goes false place kinds = nothing_goes scope code tt tt refl

-- ---- types

second_number : (types : TypeTable) (its : Arithmetic) (kind : Integer) (id : TypeId) → IsSecondOperand types its kind id → IsAnyNumber types id
second_number types operator.ShiftLeft kind id is = is
second_number types operator.ShiftRight kind id is = is
second_number types operator.Multiply kind id is = any_number types kind id is
second_number types operator.Divide kind id is = any_number types kind id is
second_number types operator.Remainder kind id is = any_number types kind id is
second_number types operator.Add kind id is = any_number types kind id is
second_number types operator.Subtract kind id is = any_number types kind id is
second_number types operator.BitAnd kind id is = any_number types kind id is
second_number types operator.BitXor kind id is = any_number types kind id is
second_number types operator.BitOr kind id is = any_number types kind id is

-- a number or a pointer can be read
readable_number : (a b c : Bool) → IsTrue a → IsTrue ((a || b) || c)
readable_number true b c is = refl
readable_number false b c is = absurd cc

readable_pointer : (a b c : Bool) → IsTrue b → IsTrue ((a || b) || c)
readable_pointer true b c is = refl
readable_pointer false true c is = refl
readable_pointer false false c is = absurd cc

-- the representation of a number is there
pub number_there : (types : TypeTable) (bits : ℕ) (id : TypeId) → number_in bits (number_kind types id) ≡ Some bits → IsAnyNumber types id
number_there types bits id is = by (number_kind types id) is
  where
    by : (its : Option Integer) → number_in bits its ≡ Some bits → IsTrue (is_some its)
    by None so = absurd cc
    by (Some its) so = refl

-- an integer type is one
integer_number_is : (types : TypeTable) → IsRight types → (its : Integer) (id : TypeId) → id ≡ integer_id its → IsAnyNumber types id
integer_number_is types table its id is =
    subst (λ id. IsAnyNumber types id) (sym is) (subst (λ found. IsTrue (is_some (kind_of_row found))) (sym (found its)) (number its))
  where
    found : (its : Integer) → row_of types (integer_id its) ≡ Some (row.Integer its)
    found integer.Char = table.basic 1 (row.Integer integer.Char) refl
    found integer.SignedChar = table.basic 2 (row.Integer integer.SignedChar) refl
    found integer.UnsignedChar = table.basic 3 (row.Integer integer.UnsignedChar) refl
    found integer.Short = table.basic 4 (row.Integer integer.Short) refl
    found integer.UnsignedShort = table.basic 5 (row.Integer integer.UnsignedShort) refl
    found integer.Int = table.basic 6 (row.Integer integer.Int) refl
    found integer.UnsignedInt = table.basic 7 (row.Integer integer.UnsignedInt) refl
    found integer.Long = table.basic 8 (row.Integer integer.Long) refl
    found integer.UnsignedLong = table.basic 9 (row.Integer integer.UnsignedLong) refl

    number : (its : Integer) → IsTrue (is_some (kind_of_row (Some (row.Integer its))))
    number its = refl

-- the fact of an lvalue itself
pub left_fact : (holds : Node → Type 0) (e : LeftValue) → EachLeft holds e → holds (left e)
left_fact holds (tree.variable head its) is = is
left_fact holds (tree.literal head place) is = is
left_fact holds (tree.target head pointer) is = is.0
left_fact holds (tree.element head size pointer_first a b) is = is.0
left_fact holds (tree.member head field bytes object) is = is.0
left_fact holds (tree.arrow head field bytes pointer) is = is.0

-- what points to a struct is a pointer
arrow_pointer : (types : TypeTable) (its : Option TypeId) (wanted : Option Row) → struct_at types its ≡ wanted → IsTrue (is_some wanted)
    → IsTrue (is_some its)
arrow_pointer types None wanted is some = absurd cc
arrow_pointer types (Some of) wanted is some = refl

-- a function or a routine that is there
mapped : (its : List TypedFunction) (place : ℕ) (found : TypedFunction) → slice_get its place ≡ Some found
    → slice_get (map signature_of its) place ≡ Some (signature_of found)
mapped [] place found is = absurd cc
mapped (first ∷ rest) zero found is = ap (option_map signature_of) is
mapped (first ∷ rest) (suc place) found is = mapped rest place found is

-- ---- expressions

module _ (program : TypedProgram) (function : TypedFunction) (code : FunctionCode) (piece : ℕ) (table : IsRight program.types) where
  -- what kinds depend on in the function
  abbrev scope : Scope
  scope = scope_of program function

  -- what a run needs of the program
  abbrev setting : Setting
  setting = setting_of program

  -- the facts of a value
  abbrev pub RightFits : RightValue → Type 0
  RightFits e = EachRight (KindsFit program function) e

  -- of an lvalue
  abbrev pub LeftFits : LeftValue → Type 0
  LeftFits e = EachLeft (KindsFit program function) e

  -- a value of that type is left
  abbrev LeavesOf : Lowered → TypeId → List Kind → Type 0
  LeavesOf its id kinds = Leaves scope code its (IsOf program.types id) kinds

  -- one of that kind
  abbrev LeavesKind : Lowered → Kind → List Kind → Type 0
  LeavesKind its kind kinds = Leaves scope code its (Is kind) kinds

  as_kind : (its : Lowered) (id : TypeId) (kinds : List Kind) → is_void program.types id ≡ false → LeavesOf its id kinds
      → LeavesKind its (kind_of program.types id) kinds
  as_kind its id kinds some leaves = weaker scope code (λ kind is. is some) leaves

  as_number : (its : Lowered) (id : TypeId) (kinds : List Kind) → IsAnyNumber program.types id → LeavesOf its id kinds → LeavesKind its stacks.number kinds
  as_number its id kinds any leaves =
      weaker scope code (λ kind is. is (number_kinds program.types id any).1 ∙ (number_kinds program.types id any).0) leaves

  as_pointer : (its : Lowered) (id : TypeId) (kinds : List Kind) → IsPointer program.types id → LeavesOf its id kinds → LeavesKind its stacks.pointer kinds
  as_pointer its id kinds any leaves =
      weaker scope code (λ kind is. is (pointer_kinds program.types id any).1 ∙ (pointer_kinds program.types id any).0) leaves

  of_kind : (its : Lowered) (kind : Kind) (id : TypeId) (kinds : List Kind) → kind ≡ kind_of program.types id → LeavesKind its kind kinds
      → LeavesOf its id kinds
  of_kind its kind id kinds same leaves = weaker scope code (λ found is some. is ∙ same) leaves

  of_number : (its : Lowered) (id : TypeId) (kinds : List Kind) → IsAnyNumber program.types id → LeavesKind its stacks.number kinds → LeavesOf its id kinds
  of_number its id kinds any leaves = of_kind its stacks.number id kinds (sym (number_kinds program.types id any).0) leaves

  of_pointer : (its : Lowered) (id : TypeId) (kinds : List Kind) → IsPointer program.types id → LeavesKind its stacks.pointer kinds → LeavesOf its id kinds
  of_pointer its id kinds any leaves = of_kind its stacks.pointer id kinds (sym (pointer_kinds program.types id any).0) leaves

  -- of an integer type
  of_integer : (its : Lowered) (kind : Integer) (id : TypeId) (kinds : List Kind) → id ≡ integer_id kind → LeavesKind its stacks.number kinds
      → LeavesOf its id kinds
  of_integer its kind id kinds is leaves = of_number its id kinds (integer_number_is program.types table kind id is) leaves

  -- of another name of the type
  of_same : (its : Lowered) (id other : TypeId) (kinds : List Kind) → id ≡ other → LeavesOf its id kinds → LeavesOf its other kinds
  of_same its id other kinds same leaves = subst (λ id. LeavesOf its id kinds) same leaves

  -- a pointer and a number
  stepped : (head : Head) (pointer_first : Bool) (stride : Stride) (size : ℕ) (first second : Lowered) (a b : TypeId) (kinds : List Kind)
      → AreSteps program.types pointer_first size a b → LeavesOf first a kinds → ((kinds : List Kind) → LeavesOf second b kinds)
      → LeavesKind (on_two piece head (op.Step stride pointer_first) first second) stacks.pointer kinds
  stepped head true stride size first second a b kinds is leaves also =
      two_leaves scope code piece head (op.Step stride true) first second kinds stacks.pointer stacks.number stacks.pointer
      (λ cases at next follows. follows) refl (as_pointer first a kinds (sized_pointer program.types size a is.0) leaves)
      (as_number second b (stacks.pointer ∷ kinds) is.1 (also (stacks.pointer ∷ kinds)))
  stepped head false stride size first second a b kinds is leaves also =
      two_leaves scope code piece head (op.Step stride false) first second kinds stacks.number stacks.pointer stacks.pointer
      (λ cases at next follows. follows) refl (as_number first a kinds is.0 leaves)
      (as_pointer second b (stacks.number ∷ kinds) (sized_pointer program.types size b is.1) (also (stacks.number ∷ kinds)))

  -- the type of its pointer
  stepping_pointer : (pointer_first : Bool) (size : ℕ) (a b : TypeId) → AreSteps program.types pointer_first size a b
      → IsPointer program.types (stepping pointer_first a b)
  stepping_pointer true size a b is = sized_pointer program.types size a is.0
  stepping_pointer false size a b is = sized_pointer program.types size b is.1

  -- what an lvalue of a kind reaches
  slot_of_kind : (e : LeftValue) (kind : Kind) → kind_of program.types (type_of_left e) ≡ kind → LeftFits e
      → SlotFits scope (slot_of setting function.variables e) kind
  slot_of_kind e kind same fits =
      subst (λ kind. SlotFits scope (slot_of setting function.variables e) kind) same
      (slot_fits program function e (left_fact (KindsFit program function) e fits).result)

  number_access : (e : LeftValue) → IsAnyNumber program.types (type_of_left e) → kind_in (access_in (access_of setting e)) ≡ stacks.number
  number_access e is = (access_kind setting e (readable_number _ _ _ is)).0 ∙ (number_kinds program.types (type_of_left e) is).0

  pointer_access : (e : LeftValue) → IsPointer program.types (type_of_left e) → kind_in (access_in (access_of setting e)) ≡ stacks.pointer
  pointer_access e is =
      (access_kind setting e (readable_pointer (is_some (number_kind program.types (type_of_left e))) _ _ is)).0
      ∙ (pointer_kinds program.types (type_of_left e) is).0

  -- the operand of a comma is dropped
  dropped_goes : (head : Head) (first : Lowered) (id : TypeId) (kinds : List Kind) → LeavesOf first id kinds
      → Goes scope code (on_one piece head op.Drop first) (λ (a : Unit {0}). Unit {0}) kinds (λ a. kinds)
  dropped_goes head first id kinds leaves =
      operand_goes scope code first (only piece head op.Drop) (λ a. refl) leaves
      (λ a is. only_goes scope code piece head op.Drop (a ∷ kinds) (λ (b : Unit {0}). kinds) tt tt (λ cases at next follows. follows) refl)

  bound_goes : (head : Head) (routine : Option ℕ) (kinds : List Kind)
      → Goes scope code (bound_code setting function.variables piece head routine) (λ (a : Unit {0}). Unit {0}) kinds (λ a. kinds)
  bound_goes head None kinds = nothing_goes scope code tt tt refl
  bound_goes head (Some place) kinds = decided_goes scope code piece head (takes_decision (slice_get setting.routines place)) place kinds

  -- a call, after its arguments, of what has that signature
  ended_call : (head : Head) (before : Lowered) (its : Op) (signature : Signature) (kinds : List Kind) → IsPlain its
      → ((kinds : List Kind) → kinds_after scope its kinds ≡ after_call program.types (Some signature) kinds)
      → AreOne program.same program.types head.type_id signature.result
      → ((kinds : List Kind) → Goes scope code before (λ (a : Unit {0}). Unit {0}) kinds (λ a. kinds))
      → Goes scope code (sequence before (only piece head its)) (IsOf program.types head.type_id)
      (pushed (map (kind_of program.types) signature.parameters) kinds) (λ kind. kind ∷ kinds)
  ended_call head before its signature kinds plain operands one goes =
      sequence_goes scope code before (only piece head its) (λ a. refl) (goes (pushed (map (kind_of program.types) signature.parameters) kinds))
      (λ a is. only_goes scope code piece head its (pushed (map (kind_of program.types) signature.parameters) kinds) (λ kind. kind ∷ kinds)
      (kind_of program.types signature.result) (λ some. sym (like_kinds program.types head.type_id signature.result one.0).0) plain
      (operands (pushed (map (kind_of program.types) signature.parameters) kinds)
      ∙ taken_all (map (kind_of program.types) signature.parameters) kinds (kind_of program.types signature.result)))

  -- the called function and the called routine are there
  module _ (head : Head) (arguments : RightValues) (kinds : List Kind)
      (all_leave : (parameters : List TypeId) → FitParameters (AreOne program.same program.types) parameters arguments → (last : Lowered)
      → Goes scope code last (IsOf program.types head.type_id) (pushed (map (kind_of program.types) parameters) kinds) (λ kind. kind ∷ kinds)
      → LeavesOf (all_code setting function.variables piece arguments last) head.type_id kinds) where
    call_leaves : (place : ℕ) (routine : Option ℕ) (its : Option TypedFunction) → slice_get program.functions place ≡ its
        → FitsCalled program.same program.types its arguments head.type_id
        → LeavesOf (all_code setting function.variables piece arguments
        (sequence (bound_code setting function.variables piece head routine) (only piece head (op.Call place)))) head.type_id kinds
    call_leaves place routine None so fits = absurd fits
    call_leaves place routine (Some called) so fits =
        all_leave (signature_of called).parameters fits.0
        (sequence (bound_code setting function.variables piece head routine) (only piece head (op.Call place)))
        (ended_call head (bound_code setting function.variables piece head routine) (op.Call place) (signature_of called) kinds
        (λ cases at next follows. follows)
        (λ kinds. ap (λ found. after_call program.types found kinds) (mapped program.functions place called so)) fits.1
        (bound_goes head routine))

    routine_leaves : (place : ℕ) (its : Option BoundRoutine) → slice_get program.routines place ≡ its
        → FitsPrototype program.same program.types (prototype_in its) arguments head.type_id
        → LeavesOf (all_code setting function.variables piece arguments
        (sequence (decided_if piece (takes_decision (slice_get setting.routines place)) head place) (only piece head (op.Routine place)))) head.type_id kinds
    routine_leaves place None so fits = absurd fits
    routine_leaves place (Some its) so fits = by its.prototype refl fits
      where
        by : (prototype : Option Prototype) → its.prototype ≡ prototype → FitsPrototype program.same program.types prototype arguments head.type_id
            → LeavesOf (all_code setting function.variables piece arguments
            (sequence (decided_if piece (takes_decision (slice_get setting.routines place)) head place) (only piece head (op.Routine place)))) head.type_id
            kinds
        by None same fits' = absurd fits'
        by (Some prototype) same fits' =
            all_leave prototype.parameters fits'.0
            (sequence (decided_if piece (takes_decision (slice_get setting.routines place)) head place) (only piece head (op.Routine place)))
            (ended_call head (decided_if piece (takes_decision (slice_get setting.routines place)) head place) (op.Routine place)
            (record { parameters = prototype.parameters; result = prototype.result }) kinds (λ cases at next follows. follows)
            (λ kinds. ap (λ found. after_call program.types (routine_signature found) kinds) so
            ∙ ap (λ found. after_call program.types (stacks.signature_of found) kinds) same)
            fits'.1 (decided_goes scope code piece head (takes_decision (slice_get setting.routines place)) place))

  -- a test of a pointer
  nil_leaves : (head : Head) (its : Lowered) (id : TypeId) (kinds : List Kind) → IsPointer program.types id → LeavesOf its id kinds
      → LeavesKind (on_one piece head op.IsNil its) stacks.number kinds
  nil_leaves head its id kinds pointer leaves =
      one_leaves scope code piece head op.IsNil its kinds stacks.pointer stacks.number (λ cases at next follows. follows) refl
      (as_pointer its id kinds pointer leaves)

  mutual
    -- of a value
    pub right_leaves : (e : RightValue) → RightFits e → (kinds : List Kind)
        → Leaves scope code (right_code setting function.variables piece e) (IsOf program.types (type_of e)) kinds
    right_leaves (tree.number head bits) is kinds =
        of_number (only piece head (op.Num bits)) head.type_id kinds (number_there program.types bits head.type_id is.result)
        (only_leaves scope code piece head (op.Num bits) kinds stacks.number (λ cases at next follows. follows) refl)
    right_leaves (tree.nil head) is kinds =
        of_pointer (only piece head op.Nil) head.type_id kinds is.result
        (only_leaves scope code piece head op.Nil kinds stacks.pointer (λ cases at next follows. follows) refl)
    right_leaves (tree.load head e) is kinds =
        of_kind (right_code setting function.variables piece (tree.load head e)) (kind_of program.types (type_of_left e)) head.type_id kinds
        (ap (kind_of program.types) (sym is.0.result))
        (read_leaves scope code piece head (slot_of setting function.variables e) (access_in (access_of setting e))
        (address_code setting function.variables piece e)
        kinds (kind_of program.types (type_of_left e)) (slot_of_kind e (kind_of program.types (type_of_left e)) refl is.1)
        (access_kind setting e is.0.operands).0 (left_leaves e is.1 kinds))
    right_leaves (tree.decay head e) is kinds =
        of_pointer (address_code setting function.variables piece e) head.type_id kinds
        (subst (λ found. IsTrue (is_some found)) (sym is.0.result) is.0.operands) (left_leaves e is.1 kinds)
    right_leaves (tree.address head e) is kinds =
        of_pointer (address_code setting function.variables piece e) head.type_id kinds
        (a_pointer program.types (type_of_left e) head.type_id is.0.result) (left_leaves e is.1 kinds)
    right_leaves (tree.cast head e) is kinds =
        weaker scope code
        (λ kind of some. of (subst (λ id. is_void program.types id ≡ false) (is.0.result some) some) ∙ ap (kind_of program.types) (sym (is.0.result some)))
        (right_leaves e is.1 kinds)
    right_leaves (tree.convert_number head its e) is kinds =
        of_number (on_one piece head (op.Conv its) (right_code setting function.variables piece e)) head.type_id kinds
        (any_number program.types its head.type_id is.0.result)
        (one_leaves scope code piece head (op.Conv its) (right_code setting function.variables piece e) kinds stacks.number stacks.number
        (λ cases at next follows. follows) refl
        (as_number (right_code setting function.variables piece e) (type_of e) kinds is.0.operands (right_leaves e is.1 kinds)))
    right_leaves (tree.convert_pointer head e) is kinds =
        of_pointer (right_code setting function.variables piece e) head.type_id kinds is.0.result
        (as_pointer (right_code setting function.variables piece e) (type_of e) kinds is.0.operands (right_leaves e is.1 kinds))
    right_leaves (tree.unary head its kind e) is kinds =
        of_integer (on_one piece head (op.Unary (unary.Sign its)) (right_code setting function.variables piece e)) kind head.type_id kinds is.0.result
        (one_leaves scope code piece head (op.Unary (unary.Sign its)) (right_code setting function.variables piece e) kinds stacks.number stacks.number
        (λ cases at next follows. follows) refl
        (as_number (right_code setting function.variables piece e) (type_of e) kinds (any_number program.types kind (type_of e) is.0.operands)
        (right_leaves e is.1 kinds)))
    right_leaves (tree.not head e) is kinds =
        of_integer (on_one piece head (op.Unary unary.Not) (right_code setting function.variables piece e)) integer.Int head.type_id kinds is.0.result
        (one_leaves scope code piece head (op.Unary unary.Not) (right_code setting function.variables piece e) kinds stacks.number stacks.number
        (λ cases at next follows. follows) refl
        (as_number (right_code setting function.variables piece e) (type_of e) kinds is.0.operands (right_leaves e is.1 kinds)))
    right_leaves (tree.arithmetic head its kind a b) is kinds =
        of_integer (right_code setting function.variables piece (tree.arithmetic head its kind a b)) kind head.type_id kinds is.0.result
        (two_leaves scope code piece head (op.Binary (binary.Arithmetic its) kind) (right_code setting function.variables piece a)
        (right_code setting function.variables piece b) kinds stacks.number stacks.number stacks.number (λ cases at next follows. follows) refl
        (as_number (right_code setting function.variables piece a) (type_of a) kinds (any_number program.types kind (type_of a) is.0.operands.0)
        (right_leaves a is.1 kinds))
        (as_number (right_code setting function.variables piece b) (type_of b) (stacks.number ∷ kinds)
        (second_number program.types its kind (type_of b) is.0.operands.1) (right_leaves b is.2 (stacks.number ∷ kinds))))
    right_leaves (tree.comparison head its kind a b) is kinds =
        of_integer (right_code setting function.variables piece (tree.comparison head its kind a b)) integer.Int head.type_id kinds is.0.result
        (two_leaves scope code piece head (op.Binary (binary.Comparison its) kind) (right_code setting function.variables piece a)
        (right_code setting function.variables piece b) kinds stacks.number stacks.number stacks.number (λ cases at next follows. follows) refl
        (as_number (right_code setting function.variables piece a) (type_of a) kinds (any_number program.types kind (type_of a) is.0.operands.0)
        (right_leaves a is.1 kinds))
        (as_number (right_code setting function.variables piece b) (type_of b) (stacks.number ∷ kinds)
        (any_number program.types kind (type_of b) is.0.operands.1) (right_leaves b is.2 (stacks.number ∷ kinds))))
    right_leaves (tree.compare_pointers head its a b) is kinds =
        of_integer (right_code setting function.variables piece (tree.compare_pointers head its a b)) integer.Int head.type_id kinds is.0.result
        (two_leaves scope code piece head (op.Compare its) (right_code setting function.variables piece a)
        (right_code setting function.variables piece b) kinds stacks.pointer stacks.pointer stacks.number (λ cases at next follows. follows) refl
        (as_pointer (right_code setting function.variables piece a) (type_of a) kinds is.0.operands.0 (right_leaves a is.1 kinds))
        (as_pointer (right_code setting function.variables piece b) (type_of b) (stacks.pointer ∷ kinds) is.0.operands.1
        (right_leaves b is.2 (stacks.pointer ∷ kinds))))
    right_leaves (tree.is_nil head true e) is kinds =
        of_integer (on_one piece head op.IsNil (right_code setting function.variables piece e)) integer.Int head.type_id kinds is.0.result
        (nil_leaves head (right_code setting function.variables piece e) (type_of e) kinds is.0.operands (right_leaves e is.1 kinds))
    right_leaves (tree.is_nil head false e) is kinds =
        of_integer (right_code setting function.variables piece (tree.is_nil head false e)) integer.Int head.type_id kinds is.0.result
        (one_leaves scope code piece head (op.Unary unary.Not) (on_one piece head op.IsNil (right_code setting function.variables piece e)) kinds stacks.number
        stacks.number (λ cases at next follows. follows) refl
        (nil_leaves head (right_code setting function.variables piece e) (type_of e) kinds is.0.operands (right_leaves e is.1 kinds)))
    right_leaves (tree.step head stride pointer_first a b) is kinds =
        of_pointer (right_code setting function.variables piece (tree.step head stride pointer_first a b)) head.type_id kinds
        (subst (λ id. IsPointer program.types id) (sym is.0.result) (stepping_pointer pointer_first stride.size (type_of a) (type_of b) is.0.operands.0))
        (stepped head pointer_first stride stride.size (right_code setting function.variables piece a) (right_code setting function.variables piece b)
        (type_of a) (type_of b) kinds is.0.operands.0 (right_leaves a is.1 kinds) (right_leaves b is.2))
    right_leaves (tree.difference head size a b) is kinds =
        of_integer (right_code setting function.variables piece (tree.difference head size a b)) integer.Long head.type_id kinds is.0.result
        (two_leaves scope code piece head (op.Difference size) (right_code setting function.variables piece a)
        (right_code setting function.variables piece b) kinds stacks.pointer stacks.pointer stacks.number (λ cases at next follows. follows) refl
        (as_pointer (right_code setting function.variables piece a) (type_of a) kinds (sized_pointer program.types size (type_of a) is.0.operands.0)
        (right_leaves a is.1 kinds))
        (as_pointer (right_code setting function.variables piece b) (type_of b) (stacks.pointer ∷ kinds)
        (sized_pointer program.types size (type_of b) is.0.operands.1) (right_leaves b is.2 (stacks.pointer ∷ kinds))))
    right_leaves (tree.and head a b) is kinds =
        of_integer (right_code setting function.variables piece (tree.and head a b)) integer.Int head.type_id kinds is.0.result
        (conjoined_leaves scope code piece head (right_code setting function.variables piece a) (right_code setting function.variables piece b) kinds
        (as_number (right_code setting function.variables piece a) (type_of a) kinds is.0.operands.0 (right_leaves a is.1 kinds))
        (as_number (right_code setting function.variables piece b) (type_of b) kinds is.0.operands.1 (right_leaves b is.2 kinds)))
    right_leaves (tree.or head a b) is kinds =
        of_integer (right_code setting function.variables piece (tree.or head a b)) integer.Int head.type_id kinds is.0.result
        (chosen_goes scope code piece head (right_code setting function.variables piece a) (only piece head (op.Num 1))
        (answered piece head (right_code setting function.variables piece b)) (λ kind. refl)
        (as_number (right_code setting function.variables piece a) (type_of a) kinds is.0.operands.0 (right_leaves a is.1 kinds))
        (only_leaves scope code piece head (op.Num 1) kinds stacks.number (λ cases at next follows. follows) refl)
        (answered_leaves scope code piece head (right_code setting function.variables piece b) kinds
        (as_number (right_code setting function.variables piece b) (type_of b) kinds is.0.operands.1 (right_leaves b is.2 kinds))))
    right_leaves (tree.conditional head test a b) is kinds =
        chosen_goes scope code piece head (right_code setting function.variables piece test) (right_code setting function.variables piece a)
        (right_code setting function.variables piece b) (λ kind. refl)
        (as_number (right_code setting function.variables piece test) (type_of test) kinds is.0.operands (right_leaves test is.1 kinds))
        (of_same (right_code setting function.variables piece a) (type_of a) head.type_id kinds is.0.result.0 (right_leaves a is.2 kinds))
        (of_same (right_code setting function.variables piece b) (type_of b) head.type_id kinds is.0.result.1 (right_leaves b is.3 kinds))
    right_leaves (tree.comma head lefts last) is kinds =
        dropped_leaves head lefts is.1 (right_code setting function.variables piece last) head.type_id kinds
        (of_same (right_code setting function.variables piece last) (type_of last) head.type_id kinds (sym is.0.result) (right_leaves last is.2 kinds))
    right_leaves (tree.assign head into from) is kinds =
        of_kind (right_code setting function.variables piece (tree.assign head into from)) (kind_of program.types (type_of_left into)) head.type_id kinds
        (ap (kind_of program.types) (sym is.0.result))
        (written_leaves scope code piece head (slot_of setting function.variables into) (access_in (access_of setting into))
        (address_code setting function.variables piece into) (right_code setting function.variables piece from) kinds
        (kind_of program.types (type_of_left into)) (slot_of_kind into (kind_of program.types (type_of_left into)) refl is.1)
        (access_kind setting into is.0.operands.0).0 (left_leaves into is.1 kinds)
        (λ kinds. as_kind (right_code setting function.variables piece from) (type_of_left into) kinds (access_kind setting into is.0.operands.0).1
        (of_same (right_code setting function.variables piece from) (type_of from) (type_of_left into) kinds is.0.operands.1 (right_leaves from is.2 kinds))))
    right_leaves (tree.update head its kind to into from) is kinds =
        of_number (right_code setting function.variables piece (tree.update head its kind to into from)) head.type_id kinds
        (subst (λ id. IsAnyNumber program.types id) (sym is.0.result) (any_number program.types to (type_of_left into) is.0.operands.0))
        (updated_leaves scope code piece head (slot_of setting function.variables into) (access_in (access_of setting into))
        (numbers_changed piece head (op.Binary (binary.Arithmetic its) kind) (op.Conv to)) (address_code setting function.variables piece into)
        (right_code setting function.variables piece from) kinds stacks.number (numbers_changing scope code piece head its kind to)
        (slot_of_kind into stacks.number
        (number_kinds program.types (type_of_left into) (any_number program.types to (type_of_left into) is.0.operands.0)).0 is.1)
        (number_access into (any_number program.types to (type_of_left into) is.0.operands.0)) (left_leaves into is.1 kinds)
        (λ kinds. as_number (right_code setting function.variables piece from) (type_of from) kinds
        (second_number program.types its kind (type_of from) is.0.operands.1) (right_leaves from is.2 kinds)))
    right_leaves (tree.advance head stride into from) is kinds =
        of_pointer (right_code setting function.variables piece (tree.advance head stride into from)) head.type_id kinds
        (subst (λ id. IsPointer program.types id) (sym is.0.result) (sized_pointer program.types stride.size (type_of_left into) is.0.operands.0))
        (updated_leaves scope code piece head (slot_of setting function.variables into) (access_in (access_of setting into))
        (on_two piece head (op.Step stride true)) (address_code setting function.variables piece into)
        (right_code setting function.variables piece from) kinds stacks.pointer (pointers_changing scope code piece head stride)
        (slot_of_kind into stacks.pointer
        (pointer_kinds program.types (type_of_left into) (sized_pointer program.types stride.size (type_of_left into) is.0.operands.0)).0 is.1)
        (pointer_access into (sized_pointer program.types stride.size (type_of_left into) is.0.operands.0)) (left_leaves into is.1 kinds)
        (λ kinds. as_number (right_code setting function.variables piece from) (type_of from) kinds is.0.operands.1 (right_leaves from is.2 kinds)))
    right_leaves (tree.post_update head its kind to into) is kinds =
        of_number (right_code setting function.variables piece (tree.post_update head its kind to into)) head.type_id kinds
        (subst (λ id. IsAnyNumber program.types id) (sym is.0.result) (any_number program.types to (type_of_left into) is.0.operands))
        (stepped_leaves scope code piece head (slot_of setting function.variables into) (access_in (access_of setting into))
        (numbers_changed piece head (op.Binary (binary.Arithmetic its) kind) (op.Conv to)) (address_code setting function.variables piece into)
        kinds stacks.number (numbers_changing scope code piece head its kind to)
        (slot_of_kind into stacks.number
        (number_kinds program.types (type_of_left into) (any_number program.types to (type_of_left into) is.0.operands)).0 is.1)
        (number_access into (any_number program.types to (type_of_left into) is.0.operands)) (left_leaves into is.1 kinds))
    right_leaves (tree.post_advance head stride into) is kinds =
        of_pointer (right_code setting function.variables piece (tree.post_advance head stride into)) head.type_id kinds
        (subst (λ id. IsPointer program.types id) (sym is.0.result) (sized_pointer program.types stride.size (type_of_left into) is.0.operands))
        (stepped_leaves scope code piece head (slot_of setting function.variables into) (access_in (access_of setting into))
        (on_two piece head (op.Step stride true)) (address_code setting function.variables piece into)
        kinds stacks.pointer (pointers_changing scope code piece head stride)
        (slot_of_kind into stacks.pointer
        (pointer_kinds program.types (type_of_left into) (sized_pointer program.types stride.size (type_of_left into) is.0.operands)).0 is.1)
        (pointer_access into (sized_pointer program.types stride.size (type_of_left into) is.0.operands)) (left_leaves into is.1 kinds))
    right_leaves (tree.call head place routine arguments) is kinds =
        call_leaves head arguments kinds
        (λ parameters fits last goes. all_leave arguments is.1 parameters fits is.0.operands last head.type_id kinds kinds goes)
        place routine (slice_get program.functions place) refl is.0.called
    right_leaves (tree.call_routine head place arguments) is kinds =
        routine_leaves head arguments kinds
        (λ parameters fits last goes. all_leave arguments is.1 parameters fits is.0.operands last head.type_id kinds kinds goes)
        place (slice_get program.routines place) refl is.0.routine

    -- of an address
    pub left_leaves : (e : LeftValue) → LeftFits e → (kinds : List Kind)
        → Leaves scope code (address_code setting function.variables piece e) (Is stacks.pointer) kinds
    left_leaves (tree.variable head its) is kinds =
        only_leaves scope code piece head (op.Address (object.Variable its)) kinds stacks.pointer (λ cases at next follows. follows) refl
    left_leaves (tree.literal head place) is kinds =
        only_leaves scope code piece head (op.Address (object.Literal place)) kinds stacks.pointer (λ cases at next follows. follows) refl
    left_leaves (tree.target head e) is kinds =
        as_pointer (right_code setting function.variables piece e) (type_of e) kinds is.0.operands (right_leaves e is.1 kinds)
    left_leaves (tree.element head size pointer_first a b) is kinds =
        stepped head pointer_first (record { size = size; backward = false }) size (right_code setting function.variables piece a)
        (right_code setting function.variables piece b) (type_of a) (type_of b) kinds is.0.operands (right_leaves a is.1 kinds) (right_leaves b is.2)
    left_leaves (tree.member head field bytes e) is kinds =
        one_leaves scope code piece head (op.Offset bytes) (address_code setting function.variables piece e) kinds stacks.pointer stacks.pointer
        (λ cases at next follows. follows) refl (left_leaves e is.1 kinds)
    left_leaves (tree.arrow head field bytes e) is kinds =
        one_leaves scope code piece head (op.Offset bytes) (right_code setting function.variables piece e) kinds stacks.pointer stacks.pointer
        (λ cases at next follows. follows) refl
        (as_pointer (right_code setting function.variables piece e) (type_of e) kinds
        (arrow_pointer program.types (pointed program.types (type_of e)) (Some (row.Struct field.of)) is.0.operands refl) (right_leaves e is.1 kinds))

    -- of the arguments of a call, and then that
    all_leave : (arguments : RightValues) → EachOf (KindsFit program function) arguments → (parameters : List TypeId)
        → FitParameters (AreOne program.same program.types) parameters arguments → AreReadable program.types arguments → (last : Lowered) (result : TypeId)
        (base kinds : List Kind)
        → Goes scope code last (IsOf program.types result) (pushed (map (kind_of program.types) parameters) kinds) (λ kind. kind ∷ base)
        → Goes scope code (all_code setting function.variables piece arguments last) (IsOf program.types result) kinds (λ kind. kind ∷ base)
    all_leave tree.no_values is [] fits readable last result base kinds goes = goes
    all_leave tree.no_values is (id ∷ ids) fits readable last result base kinds goes = absurd fits
    all_leave (tree.more_values e rest) is [] fits readable last result base kinds goes = absurd fits
    all_leave (tree.more_values e rest) is (id ∷ ids) fits readable last result base kinds goes =
        operand_goes scope code (right_code setting function.variables piece e) (all_code setting function.variables piece rest last) (λ a. refl)
        (right_leaves e is.0 kinds)
        (λ kind of. subst
        (λ kind. Goes scope code (all_code setting function.variables piece rest last) (IsOf program.types result) (kind ∷ kinds) (λ kind. kind ∷ base))
        (sym (of (read_value setting (type_of e) readable.0) ∙ (like_kinds program.types (type_of e) id fits.0.0).0))
        (all_leave rest is.1 ids fits.1 readable.1 last result base (kind_of program.types id ∷ kinds) goes))

    -- of the left operands of a comma, each dropped, and then that
    dropped_leaves : (head : Head) (lefts : RightValues) → EachOf (KindsFit program function) lefts → (last : Lowered) (id : TypeId) (kinds : List Kind)
        → LeavesOf last id kinds → LeavesOf (dropped_code setting function.variables piece head lefts last) id kinds
    dropped_leaves head tree.no_values is last id kinds leaves = leaves
    dropped_leaves head (tree.more_values e rest) is last id kinds leaves =
        sequence_goes scope code (on_one piece head op.Drop (right_code setting function.variables piece e))
        (dropped_code setting function.variables piece head rest last) (λ a. refl)
        (dropped_goes head (right_code setting function.variables piece e) (type_of e) kinds (right_leaves e is.0 kinds))
        (λ a so. dropped_leaves head rest is.1 last id kinds leaves)
