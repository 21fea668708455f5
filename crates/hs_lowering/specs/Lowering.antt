-- The code of expressions (own): what each form of a typed expression becomes, as the table "Expressions" of docs/CODE.md lists it.
--     Lowered                          operations, by the number of the first one and by how many values are on the stack before it
--     after start its                  the number of the operation that follows these
--     right_code e, address_code e     what gives the value of an expression, or the address of the object that an lvalue designates
--     all_code list last               the values of all arguments, and then that
--     dropped_code head list last      the left operands of a comma, each dropped, and then that
-- An expression leaves one value more than there was before it. Its operations have its position, and its operands have theirs.
use Rattle.std.specs.Prelude.{ℕ, suc, Bool, true, false, ◌||◌, List, [], ◌∷◌, ◌++◌, slice_get, Option, Some, None}
use Rattle.hs_code.specs.declared.function_code.Placed.{Placed}
use Rattle.hs_code.specs.declared.op.Access as code
use Rattle.hs_code.specs.declared.op.Access.TheVariants.{Number, Pointer, Struct}
use Rattle.hs_code.specs.declared.op.Binary.TheVariants as binary
use Rattle.hs_code.specs.declared.op.Object.TheVariants as object
use Rattle.hs_code.specs.declared.op.Op.{Op}
use Rattle.hs_code.specs.declared.op.Op.TheVariants as op
use Rattle.hs_code.specs.declared.op.Unary.TheVariants as unary
use Rattle.hs_meaning.specs.Classes.{is_slot_declared}
use Rattle.hs_meaning.specs.Settings.{Setting, access_of}
use Rattle.hs_meaning.specs.Values.{Access, of_number, of_pointer, of_struct}
use Rattle.hs_tree.specs.Fitting.{variable_of_global}
use Rattle.hs_tree.specs.Trees as tree
use Rattle.hs_tree.specs.Trees.{RightValue, LeftValue, RightValues}
use Rattle.hs_tree.specs.declared.function.BoundRoutine.{BoundRoutine}
use Rattle.hs_tree.specs.declared.head.Head.{Head}
use Rattle.hs_tree.specs.declared.head.Variable.{Variable}
use Rattle.hs_tree.specs.declared.head.Variable.TheVariants as name
use Rattle.hs_tree.specs.declared.head.VariableDecl.{VariableDecl}

-- ---- lists of operations

-- from that number on, with so many values on the stack
abbrev pub Lowered : Type 0
Lowered = ℕ → ℕ → List Placed

-- the number of the operation that follows them, if the first one has that number
abbrev pub after : ℕ → List Placed → ℕ
after start [] = start
after start (its ∷ rest) = after (suc start) rest

-- an operand, and then operations that find its value on the stack
abbrev pub operand : Lowered → Lowered → Lowered
operand first second start depth = first start depth ++ second (after start (first start depth)) (suc depth)

-- operations after one another with the same number of values before each
abbrev pub sequence : Lowered → Lowered → Lowered
sequence first second start depth = first start depth ++ second (after start (first start depth)) depth

-- ---- what operations name

-- what a load or a store of the machine reaches, as an operation names it
abbrev pub access_in : Access → code.Access
access_in (of_number kind) = Number kind
access_in (of_pointer class) = Pointer class
access_in (of_struct size) = Struct size

-- the routine that is there moves or purges, so a call of it takes a decision
abbrev pub takes_decision : Option BoundRoutine → Bool
takes_decision None = false
takes_decision (Some it) = it.routine.moves || it.routine.purges

-- the variable, if it is a slot
abbrev pub slot_by : Bool → Variable → Option Variable
slot_by true its = Some its
slot_by false its = None

-- `variables` are those of the function
module _ (setting : Setting) (variables : List VariableDecl) where
  -- a variable of the program or of the function
  abbrev pub declared_in : Variable → Option VariableDecl
  declared_in (name.Global place) = variable_of_global (slice_get setting.globals place)
  declared_in (name.Local place) = slice_get variables place

  -- the slot that the lvalue is, if it is one
  abbrev pub slot_of : LeftValue → Option Variable
  slot_of (tree.variable head its) = slot_by (is_slot_declared setting.types (declared_in its)) its
  slot_of (tree.literal head place) = None
  slot_of (tree.target head pointer) = None
  slot_of (tree.element head size pointer_first a b) = None
  slot_of (tree.member head field bytes object) = None
  slot_of (tree.arrow head field bytes pointer) = None

-- `piece` is the piece of text in which the expression stands
module _ (piece : ℕ) where
  -- ---- operations and operands

  -- an operation at that place
  abbrev pub placed : Head → Op → ℕ → Placed
  placed head its places = record { op = its; at = head.at.pos; piece = piece; places = places }

  -- alone
  abbrev pub only : Head → Op → Lowered
  only head its start depth = placed head its depth ∷ []

  -- an operation on one operand
  abbrev pub on_one : Head → Op → Lowered → Lowered
  on_one head its first = operand first (only head its)

  -- an operation on two operands
  abbrev pub on_two : Head → Op → Lowered → Lowered → Lowered
  on_two head its first second = operand first (operand second (only head its))

  -- ---- branches

  -- `test, Zero(L), first, Jump(E), L: second, E:`, without the test
  abbrev pub branches : Head → ℕ → ℕ → List Placed → Lowered → List Placed
  branches head zero_at depth first second =
      placed head (op.Zero (suc (after (suc zero_at) first))) (suc depth)
      ∷ first
      ++ placed head (op.Jump (after (suc (after (suc zero_at) first)) (second (suc (after (suc zero_at) first)) depth))) (suc depth)
      ∷ second (suc (after (suc zero_at) first)) depth

  -- one of two, by a test
  abbrev pub chosen : Head → Lowered → Lowered → Lowered → Lowered
  chosen head test first second start depth =
      test start depth ++ branches head (after start (test start depth)) depth (first (suc (after start (test start depth))) depth) second

  -- 1 or 0, by a test
  abbrev pub answered : Head → Lowered → Lowered
  answered head test = chosen head test (only head (op.Num 1)) (only head (op.Num 0))

  -- `Zero(F), second, Zero(F), Num 1, Jump(E), F: Num 0, E:`
  abbrev pub both_hold : Head → ℕ → ℕ → List Placed → List Placed
  both_hold head zero_at depth second =
      placed head (op.Zero (suc (suc (suc (after (suc zero_at) second))))) (suc depth)
      ∷ second
      ++ placed head (op.Zero (suc (suc (suc (after (suc zero_at) second))))) (suc depth)
      ∷ placed head (op.Num 1) depth
      ∷ placed head (op.Jump (suc (suc (suc (suc (after (suc zero_at) second)))))) (suc depth)
      ∷ placed head (op.Num 0) depth
      ∷ []

  -- `first`, and then that
  abbrev pub conjoined : Head → Lowered → Lowered → Lowered
  conjoined head first second start depth =
      first start depth ++ both_hold head (after start (first start depth)) depth (second (suc (after start (first start depth))) depth)

  -- ---- objects

  -- the value of an object: of a slot, or of what is at an address
  abbrev pub read_code : Head → Option Variable → code.Access → Lowered → Lowered
  read_code head (Some its) access address = only head (op.Get its)
  read_code head None access address = on_one head (op.Load access) address

  -- an object is given a value
  abbrev pub written_code : Head → Option Variable → code.Access → Lowered → Lowered → Lowered
  written_code head (Some its) access address from = on_one head (op.Set its) from
  written_code head None access address from = on_two head (op.Store access) address from

  -- a pointer stays on the stack, and what it reaches is above it
  abbrev pub fetched : Head → code.Access → Lowered
  fetched head access = operand (only head op.Dup) (only head (op.Load access))

  -- `changes` makes the new value of what the object held and of another operand
  abbrev pub updated_code : Head → Option Variable → code.Access → (Lowered → Lowered → Lowered) → Lowered → Lowered → Lowered
  updated_code head (Some its) access changes address from = on_one head (op.Set its) (changes (only head (op.Get its)) from)
  updated_code head None access changes address from = on_two head (op.Store access) address (changes (fetched head access) from)

  -- the same with 1, where the value from before is left
  abbrev pub stepped_code : Head → Option Variable → code.Access → (Lowered → Lowered → Lowered) → Lowered → Lowered
  stepped_code head (Some its) access changes address =
      on_two head op.Drop (only head (op.Get its)) (on_one head (op.Set its) (changes (only head op.Dup) (only head (op.Num 1))))
  stepped_code head None access changes address =
      operand address (operand (fetched head access)
      (sequence (on_one head (op.Store access) (changes (only head op.Tuck) (only head (op.Num 1)))) (only head op.Drop)))

  -- an operation on numbers, and a conversion of its result
  abbrev pub numbers_changed : Head → Op → Op → Lowered → Lowered → Lowered
  numbers_changed head its to first second = on_one head to (on_two head its first second)

  -- ---- calls

  -- a routine that moves or purges takes a decision
  abbrev pub decided_if : Bool → Head → ℕ → Lowered
  decided_if true head place = only head (op.Shift place)
  decided_if false head place = λ start depth. []

-- ---- expressions

module _ (setting : Setting) (variables : List VariableDecl) (piece : ℕ) where
  -- of a routine
  abbrev pub decided_code : Head → ℕ → Lowered
  decided_code head place = decided_if piece (takes_decision (slice_get setting.routines place)) head place

  -- of the routine to which a call of a function is bound, if it is
  abbrev pub bound_code : Head → Option ℕ → Lowered
  bound_code head None = λ start depth. []
  bound_code head (Some place) = decided_code head place

  abbrev mutual
    -- the value of an expression
    pub right_code : RightValue → Lowered
    right_code (tree.number head bits) = only piece head (op.Num bits)
    right_code (tree.nil head) = only piece head op.Nil
    -- of a variable that is a slot, Get; else its address, Load
    right_code (tree.load head object) =
        read_code piece head (slot_of setting variables object) (access_in (access_of setting object)) (address_code object)
    -- of an array or a string, its address
    right_code (tree.decay head array) = address_code array
    right_code (tree.address head object) = address_code object
    -- conversions stand in the tree
    right_code (tree.cast head operand) = right_code operand
    right_code (tree.convert_number head kind operand) = on_one piece head (op.Conv kind) (right_code operand)
    right_code (tree.convert_pointer head operand) = right_code operand
    right_code (tree.unary head operator kind operand) = on_one piece head (op.Unary (unary.Sign operator)) (right_code operand)
    right_code (tree.not head operand) = on_one piece head (op.Unary unary.Not) (right_code operand)
    right_code (tree.arithmetic head operator kind a b) =
        on_two piece head (op.Binary (binary.Arithmetic operator) kind) (right_code a) (right_code b)
    right_code (tree.comparison head operator kind a b) =
        on_two piece head (op.Binary (binary.Comparison operator) kind) (right_code a) (right_code b)
    right_code (tree.compare_pointers head operator a b) = on_two piece head (op.Compare operator) (right_code a) (right_code b)
    right_code (tree.is_nil head true pointer) = on_one piece head op.IsNil (right_code pointer)
    right_code (tree.is_nil head false pointer) = on_one piece head (op.Unary unary.Not) (on_one piece head op.IsNil (right_code pointer))
    right_code (tree.step head stride pointer_first a b) = on_two piece head (op.Step stride pointer_first) (right_code a) (right_code b)
    right_code (tree.difference head size a b) = on_two piece head (op.Difference size) (right_code a) (right_code b)
    right_code (tree.and head a b) = conjoined piece head (right_code a) (right_code b)
    right_code (tree.or head a b) = chosen piece head (right_code a) (only piece head (op.Num 1)) (answered piece head (right_code b))
    right_code (tree.conditional head test first second) = chosen piece head (right_code test) (right_code first) (right_code second)
    right_code (tree.comma head lefts last) = dropped_code head lefts (right_code last)
    -- a slot: the value, Set; memory: the address, the value, Store
    right_code (tree.assign head into from) =
        written_code piece head (slot_of setting variables into) (access_in (access_of setting into)) (address_code into) (right_code from)
    -- a slot: Get, the operand, the operation, Conv, Set; memory: the address, Dup, Load, the operand, the operation, Conv, Store
    right_code (tree.update head operator kind to into from) =
        updated_code piece head (slot_of setting variables into) (access_in (access_of setting into))
        (numbers_changed piece head (op.Binary (binary.Arithmetic operator) kind) (op.Conv to)) (address_code into) (right_code from)
    right_code (tree.advance head stride into from) =
        updated_code piece head (slot_of setting variables into) (access_in (access_of setting into)) (on_two piece head (op.Step stride true))
        (address_code into) (right_code from)
    -- a slot: Get, Dup, Num 1, the operation, Conv, Set, Drop; memory: the address, Dup, Load, Tuck, Num 1, the operation, Conv, Store, Drop
    right_code (tree.post_update head operator kind to into) =
        stepped_code piece head (slot_of setting variables into) (access_in (access_of setting into))
        (numbers_changed piece head (op.Binary (binary.Arithmetic operator) kind) (op.Conv to)) (address_code into)
    right_code (tree.post_advance head stride into) =
        stepped_code piece head (slot_of setting variables into) (access_in (access_of setting into)) (on_two piece head (op.Step stride true))
        (address_code into)
    -- the arguments in order, the decision of its routine, Call
    right_code (tree.call head place routine arguments) =
        all_code arguments (sequence (bound_code head routine) (only piece head (op.Call place)))
    -- the arguments in order, the decision, Routine
    right_code (tree.call_routine head place arguments) =
        all_code arguments (sequence (decided_code head place) (only piece head (op.Routine place)))

    -- the address of the object that an lvalue designates
    pub address_code : LeftValue → Lowered
    address_code (tree.variable head its) = only piece head (op.Address (object.Variable its))
    address_code (tree.literal head place) = only piece head (op.Address (object.Literal place))
    address_code (tree.target head pointer) = right_code pointer
    address_code (tree.element head size pointer_first a b) =
        on_two piece head (op.Step (record { size = size; backward = false }) pointer_first) (right_code a) (right_code b)
    address_code (tree.member head field bytes object) = on_one piece head (op.Offset bytes) (address_code object)
    address_code (tree.arrow head field bytes pointer) = on_one piece head (op.Offset bytes) (right_code pointer)

    -- the values of all of them, and then that
    pub all_code : RightValues → Lowered → Lowered
    all_code tree.no_values last = last
    all_code (tree.more_values e rest) last = operand (right_code e) (all_code rest last)

    -- each is dropped, and then that
    pub dropped_code : Head → RightValues → Lowered → Lowered
    dropped_code head tree.no_values last = last
    dropped_code head (tree.more_values e rest) last = sequence (on_one piece head op.Drop (right_code e)) (dropped_code head rest last)
