-- What expressions mean (X3.159-1989 3.3): the steps that give the value of one, or designate an object.
--     Flow                           how a statement goes on
--     Job                            what costs a turn: one more turn of a loop, and a call of a function
--     Location                       where an object is: in a slot, or at an address
--     value_of setting again e       the value of an expression
--     addressed setting again e      the address of the object that an lvalue designates
--     location_of e address          that object: a variable may be a slot
--     values_of setting again list   the values of arguments
-- `again` does a job. It takes the turn, so the recursion on trees is structural; `Runs.antt` says what jobs are.
use Rattle.std.specs.Prelude.{ℕ, pos, Bool, true, false, List, [], ◌∷◌, slice_get, Option, Some, None}
use Rattle.hs_base.specs.declared.pos.Pos.{Pos}
use Rattle.hs_heap.specs.Shift.{Powers}
use Rattle.hs_heap.specs.declared.cell.Pointer.TheVariants.{Nil, Fixed}
use Rattle.hs_meaning.specs.Machine.{Machine, Done, done, stopped, Binding, slot, object_at, binding_of}
use Rattle.hs_meaning.specs.Numbers.{truth}
use Rattle.hs_meaning.specs.Objects.{object_of_base}
use Rattle.hs_meaning.specs.Operations as operation
use Rattle.hs_meaning.specs.Operations.{Operation}
use Rattle.hs_meaning.specs.Settings.{Setting, access_of}
use Rattle.hs_meaning.specs.Steps.{Step, ◌>>=◌, ◌>>◌, give, either, acts, perform, condition, operands, shifted_by}
use Rattle.hs_meaning.specs.Values.{Value, number, pointer, Access}
use Rattle.hs_meaning.specs.declared.outcome.Stop.TheVariants as stop
use Rattle.hs_tree.specs.Trees as tree
use Rattle.hs_tree.specs.Trees.{RightValue, LeftValue, RightValues, TypedFunction, TypedStatement}
use Rattle.hs_tree.specs.declared.constant.Base.TheVariants as base
use Rattle.hs_tree.specs.declared.function.BoundRoutine.{BoundRoutine}
use Rattle.hs_tree.specs.declared.head.Head.{Head}
use Rattle.hs_tree.specs.declared.head.Variable.{Variable}
use Rattle.hs_tree.specs.declared.operators.Stride.{Stride}

-- A statement goes on to the next one, leaves a loop or a switch, goes to the next turn of a loop, or returns a value at a place.
pub data Flow : Type 0 where
  onward : Flow
  breaks : Flow
  continues : Flow
  returned : Value → Pos → Flow

-- The call of a function of that number, at a place.
pub data Job : Type 0 where
  turn_of : TypedFunction → TypedStatement → Job
  call_of : ℕ → List Value → Pos → Job

-- where an object is: in a slot, or at an address, which is a pointer
pub data Location : Type 0 where
  in_slot : Variable → Location
  at_address : Value → Location

-- ---- objects

-- where a variable is
abbrev pub located : Variable → Option Binding → Machine → Done Location
located name None machine = stopped stop.BadPointer machine
located name (Some (slot value)) machine = done (in_slot name) machine
located name (Some (object_at place)) machine = done (at_address (pointer (Fixed place (pos 0)))) machine

-- of a variable that is there
abbrev pub variable_at : Variable → Machine → Done Location
variable_at name machine = located name (binding_of name machine) machine

-- the value of an object
abbrev pub read : Setting → Pos → Access → Location → Step Value
read setting at access (in_slot name) = perform setting at (operation.get name) []
read setting at access (at_address its) = perform setting at (operation.load access) (its ∷ [])

-- an object is given a value, which is the value of the assignment
abbrev pub written : Setting → Pos → Access → Location → Value → Step Value
written setting at access (in_slot name) value = perform setting at (operation.set name) (value ∷ [])
written setting at access (at_address its) value = perform setting at (operation.store access) (its ∷ value ∷ [])

-- its address; a slot has none
abbrev pub address_of : Location → Machine → Done Value
address_of (in_slot name) machine = stopped stop.BadPointer machine
address_of (at_address its) machine = done its machine

-- the object that an lvalue designates (3.2.2.1): a variable, or what is at the address of any other
abbrev pub location_of : LeftValue → Step Value → Step Location
location_of (tree.variable head name) address = acts head.at.pos (variable_at name)
location_of (tree.literal head place) address = address >>= (λ its. give (at_address its))
location_of (tree.target head its) address = address >>= (λ its. give (at_address its))
location_of (tree.element head size pointer_first a b) address = address >>= (λ its. give (at_address its))
location_of (tree.member head field bytes object) address = address >>= (λ its. give (at_address its))
location_of (tree.arrow head field bytes its) address = address >>= (λ its. give (at_address its))

-- the object and its value
abbrev pub read_with : Setting → Pos → Access → Location → Step (Location × Value)
read_with setting at access place = read setting at access place >>= (λ value. give (place, value))

-- ---- calls

-- what the table says of a routine
abbrev pub powers_of : BoundRoutine → Powers
powers_of it = record { moves = it.routine.moves; purges = it.routine.purges }

-- a routine takes its decision before it uses its arguments
abbrev pub decided_by : Option BoundRoutine → Step (Unit {0})
decided_by None = give tt
decided_by (Some it) = shifted_by (powers_of it)

-- the routine to which a call of a function is bound, if it is
abbrev pub bound_to : Setting → Option ℕ → Option BoundRoutine
bound_to setting None = None
bound_to setting (Some place) = slice_get setting.routines place

-- the value that a function returned
abbrev pub returned_value : Flow → Machine → Done Value
returned_value (returned value at) machine = done value machine
returned_value onward machine = stopped stop.BadPointer machine
returned_value breaks machine = stopped stop.BadPointer machine
returned_value continues machine = stopped stop.BadPointer machine

-- 1 or 0, as an int
abbrev pub truth_value : Bool → Value
truth_value answer = number (truth answer)

-- ---- expressions

module _ (setting : Setting) (again : Job → Step Flow) where
  -- the step of an operation on one value, or on two
  abbrev pub on_one : Head → Operation → Step Value → Step Value
  on_one head its first = first >>= (λ a. perform setting head.at.pos its (a ∷ []))

  -- of two operands
  abbrev pub on_two : Head → Operation → Step Value → Step Value → Step Value
  on_two head its first second = operands first second >>= (λ both. perform setting head.at.pos its (both.0 ∷ both.1 ∷ []))

  -- what was read is given to an operation with another operand, and the result to the object
  abbrev pub updated : Head → Access → Operation → Operation → Location → Value → Value → Step Value
  updated head access its to place before by =
      perform setting head.at.pos its (before ∷ by ∷ []) >>= (λ sum. perform setting head.at.pos to (sum ∷ [])
      >>= (λ value. written setting head.at.pos access place value))

  -- the same of a pointer, which is not converted
  abbrev pub advanced : Head → Access → Stride → Location → Value → Value → Step Value
  advanced head access stride place before by =
      perform setting head.at.pos (operation.step stride true) (before ∷ by ∷ []) >>= (λ value. written setting head.at.pos access place value)

  abbrev mutual
    -- the value of an expression (3.3)
    pub value_of : RightValue → Step Value
    value_of (tree.number head bits) = give (number bits)
    value_of (tree.nil head) = give (pointer Nil)
    value_of (tree.load head object) = location_of object (addressed object) >>= read setting head.at.pos (access_of setting object)
    value_of (tree.decay head array) = addressed array
    value_of (tree.address head object) = addressed object
    value_of (tree.cast head operand) = value_of operand
    value_of (tree.convert_number head kind operand) = on_one head (operation.convert kind) (value_of operand)
    value_of (tree.convert_pointer head operand) = value_of operand
    value_of (tree.unary head operator kind operand) = on_one head (operation.sign operator) (value_of operand)
    value_of (tree.not head operand) = on_one head operation.not_ (value_of operand)
    value_of (tree.arithmetic head operator kind a b) = on_two head (operation.arithmetic operator kind) (value_of a) (value_of b)
    value_of (tree.comparison head operator kind a b) = on_two head (operation.comparison operator kind) (value_of a) (value_of b)
    value_of (tree.compare_pointers head operator a b) = on_two head (operation.compare operator) (value_of a) (value_of b)
    value_of (tree.is_nil head true its) = on_one head operation.is_nil (value_of its)
    value_of (tree.is_nil head false its) = on_one head operation.not_ (on_one head operation.is_nil (value_of its))
    value_of (tree.step head stride pointer_first a b) = on_two head (operation.step stride pointer_first) (value_of a) (value_of b)
    value_of (tree.difference head size a b) = on_two head (operation.difference size) (value_of a) (value_of b)
    value_of (tree.and head a b) =
        value_of a >>= condition head.at.pos >>= (λ is. either is
        (value_of b >>= condition head.at.pos >>= (λ is. give (truth_value is)))
        (give (truth_value false)))
    value_of (tree.or head a b) =
        value_of a >>= condition head.at.pos >>= (λ is. either is
        (give (truth_value true))
        (value_of b >>= condition head.at.pos >>= (λ is. give (truth_value is))))
    value_of (tree.conditional head test first second) =
        value_of test >>= condition head.at.pos >>= (λ is. either is (value_of first) (value_of second))
    value_of (tree.comma head lefts last) = each_of lefts >> value_of last
    value_of (tree.assign head into from) =
        operands (location_of into (addressed into)) (value_of from) >>= (λ both. written setting head.at.pos (access_of setting into) both.0 both.1)
    value_of (tree.update head operator kind to into from) =
        operands (location_of into (addressed into) >>= read_with setting head.at.pos (access_of setting into)) (value_of from)
        >>= (λ both. updated head (access_of setting into) (operation.arithmetic operator kind) (operation.convert to) both.0.0 both.0.1 both.1)
    value_of (tree.advance head stride into from) =
        operands (location_of into (addressed into) >>= read_with setting head.at.pos (access_of setting into)) (value_of from)
        >>= (λ both. advanced head (access_of setting into) stride both.0.0 both.0.1 both.1)
    value_of (tree.post_update head operator kind to into) =
        location_of into (addressed into) >>= read_with setting head.at.pos (access_of setting into)
        >>= (λ both. updated head (access_of setting into) (operation.arithmetic operator kind) (operation.convert to) both.0 both.1 (number 1)
        >> give both.1)
    value_of (tree.post_advance head stride into) =
        location_of into (addressed into) >>= read_with setting head.at.pos (access_of setting into)
        >>= (λ both. advanced head (access_of setting into) stride both.0 both.1 (number 1) >> give both.1)
    value_of (tree.call head place routine arguments) =
        values_of arguments >>= (λ values. decided_by (bound_to setting routine) >> again (call_of place values head.at.pos))
        >>= (λ flow. acts head.at.pos (returned_value flow))
    value_of (tree.call_routine head place arguments) =
        values_of arguments >>= (λ values. decided_by (slice_get setting.routines place) >> perform setting head.at.pos (operation.routine place) values)

    -- the address of the object that an lvalue designates (3.3.3.2); a slot has none
    pub addressed : LeftValue → Step Value
    addressed (tree.variable head name) = acts head.at.pos (variable_at name) >>= (λ place. acts head.at.pos (address_of place))
    addressed (tree.literal head place) = give (pointer (Fixed (object_of_base setting (base.Literal place)) (pos 0)))
    addressed (tree.target head its) = value_of its
    addressed (tree.element head size pointer_first a b) =
        on_two head (operation.step (record { size = size; backward = false }) pointer_first) (value_of a) (value_of b)
    addressed (tree.member head field bytes object) = on_one head (operation.offset bytes) (addressed object)
    addressed (tree.arrow head field bytes its) = on_one head (operation.offset bytes) (value_of its)

    -- arguments are operands
    pub values_of : RightValues → Step (List Value)
    values_of tree.no_values = give []
    values_of (tree.more_values e rest) = operands (value_of e) (values_of rest) >>= (λ both. give (both.0 ∷ both.1))

    -- the left operands of a comma, one after another
    pub each_of : RightValues → Step (Unit {0})
    each_of tree.no_values = give tt
    each_of (tree.more_values e rest) = value_of e >> each_of rest
