-- A step of code on the still machine.
--     StepUses program point s      no operand that the step tests is stale or purged
--     tests_at program its          the operation tests an operand
--     step_still                    the step on the still point and the still state
--     untested_step                 the same of an operation that tests no operand, which asks nothing
use Rattle.std.proofs.Common.{◌≡◌, ℕ, ◌==◌, Bool, true, false, List, [], ◌∷◌, map, slice_get, Option, Some, None, refl, ap, ◌∙◌}
use Rattle.hs_base.specs.declared.pos.Pos.{Pos}
use Rattle.hs_code.specs.declared.function_code.Placed.{Placed}
use Rattle.hs_code.specs.declared.op.Object.{Object}
use Rattle.hs_code.specs.declared.op.Object.TheVariants as object
use Rattle.hs_code.specs.declared.op.Op.{Op}
use Rattle.hs_code.specs.declared.op.Op.TheVariants as op
use Rattle.hs_code_run.specs.Codes.{CodeFunction, CodeProgram, Waiting, Point}
use Rattle.hs_code_run.specs.Steps.{stepped, stepped_at, by_stack, by_operation, operates_if, routine_called, function_called, returned_to, entered, operation_of, routine_arguments, taken, below, holds, brought, address_at, onward, onto, onto_if, case_for, next_choice, later_choices}
use Rattle.hs_meaning.specs.Frames.{opened}
use Rattle.hs_meaning.specs.Machine.{Machine, Binding, done}
use Rattle.hs_meaning.specs.Numbers.{signed}
use Rattle.hs_meaning.specs.Operations as operation
use Rattle.hs_meaning.specs.Operations.{Operation, operate}
use Rattle.hs_meaning.specs.Runs.{own_locals, closes}
use Rattle.hs_meaning.specs.Steps.{State as RunState, Step, ◌>>=◌, ◌>>◌, give, ends, acts, used}
use Rattle.hs_meaning.specs.Values.{Value}
use Rattle.hs_meaning.specs.declared.outcome.Outcome.TheVariants.{Finished}
use Rattle.hs_still.specs.Frames.{same_unit, opened_still, closed_still}
use Rattle.hs_still.specs.Machines.{still_value, still_binding, still_machine, still_state, still_waiting, still_point, still_location, still_ran}
use Rattle.hs_still.specs.Maps.{MapsAt, thens, gives, over_maps, act_maps, turn_maps, decides, used_maps, variable_maps, address_maps}
use Rattle.hs_still.specs.Operate.{operate_still}
use Rattle.hs_still.specs.Stacks.{taken_still, below_still, holds_still, brought_still}
use Rattle.hs_still.specs.Tests.{UsedBy, tests, untested}

-- ---- what a step tests

-- the values that an operation takes
abbrev pub TakenUsed : CodeProgram → Option (ℕ × Operation) → List Value → Machine → Type 0
TakenUsed program None stack machine = Unit {0}
TakenUsed program (Some its) stack machine = UsedBy program.setting its.1 (taken its.0 stack) machine

-- the arguments of a routine
abbrev pub ArgumentsUsed : CodeProgram → ℕ → Option ℕ → List Value → Machine → Type 0
ArgumentsUsed program place None stack machine = Unit {0}
ArgumentsUsed program place (Some count) stack machine = UsedBy program.setting (operation.routine place) (taken count stack) machine

-- of an operation
abbrev pub OpUses : CodeProgram → Op → List Value → Machine → Type 0
OpUses program (op.Routine place) stack machine =
    ArgumentsUsed program place (routine_arguments (slice_get program.setting.routines place)) stack machine
OpUses program its stack machine = TakenUsed program (operation_of its) stack machine

-- of the operation that is next
abbrev pub UsesAt : CodeProgram → Option Placed → List Value → Machine → Type 0
UsesAt program None stack machine = Unit {0}
UsesAt program (Some its) stack machine = OpUses program its.op stack machine

-- no operand that the step tests is stale or purged
abbrev pub StepUses : CodeProgram → Point → RunState → Type 0
StepUses program point s = UsesAt program (slice_get point.frame.code.ops point.frame.at) point.frame.stack s.machine

-- the operation of the machine tests an operand
abbrev pub operation_tests : CodeProgram → Option (ℕ × Operation) → Bool
operation_tests program None = false
operation_tests program (Some its) = tests program.setting its.1

-- the operation of code does
abbrev pub op_tests : CodeProgram → Op → Bool
op_tests program (op.Routine place) = tests program.setting (operation.routine place)
op_tests program its = operation_tests program (operation_of its)

-- the operation that is next does
abbrev pub tests_at : CodeProgram → Option Placed → Bool
tests_at program None = false
tests_at program (Some its) = op_tests program its.op

-- ---- steps

module _ (program : CodeProgram) (at : Pos) (point : Point) (s : RunState) where
  -- what an operation comes to, on both machines
  abbrev Both : (step still : Step Point) → Type 0
  Both step still = MapsAt still_point step still s

  -- the step from the still point goes on at the still point of where the step goes on
  moves : (next still : Point) → still ≡ still_point next → Both (give next) (give still)
  moves next still is = gives still_point next still s is

  operates_still : (b : Bool) (count : ℕ) (its : Operation) → UsedBy program.setting its (taken count point.frame.stack) s.machine
      → Both (operates_if program at point b count its) (operates_if program at (still_point point) b count its)
  operates_still true count its uses =
      thens still_value still_point s _
      (act_maps still_value at (operate program.setting its (taken count point.frame.stack))
      (operate program.setting its (taken count (map still_value point.frame.stack))) s
      (ap (λ values. operate program.setting its values (still_machine s.machine)) (taken_still count point.frame.stack)
      ∙ operate_still program.setting its (taken count point.frame.stack) s.machine uses))
      (λ value t. gives still_point (onward point (value ∷ below count point.frame.stack))
      (onward (still_point point) (still_value value ∷ below count (map still_value point.frame.stack))) t
      (ap (λ stack. onward (still_point point) (still_value value ∷ stack)) (below_still count point.frame.stack)))
  operates_still false count its uses = over_maps still_point s

  -- the same if there are as many values
  held_still : (count : ℕ) (its : Operation) → UsedBy program.setting its (taken count point.frame.stack) s.machine
      → Both (operates_if program at point (holds count point.frame.stack) count its)
      (operates_if program at (still_point point) (holds count (map still_value point.frame.stack)) count its)
  held_still count its uses =
      record {
        is = ap (λ b. operates_if program at (still_point point) b count its (still_state s)) (holds_still count point.frame.stack)
            ∙ (operates_still (holds count point.frame.stack) count its uses).is;
      }

  routine_still : (place : ℕ) (count : Option ℕ) → ArgumentsUsed program place count point.frame.stack s.machine
      → Both (routine_called program at point place count) (routine_called program at (still_point point) place count)
  routine_still place None uses = over_maps still_point s
  routine_still place (Some count) uses = held_still count (operation.routine place) uses

  operation_still : (its : Option (ℕ × Operation)) → TakenUsed program its point.frame.stack s.machine
      → Both (by_operation program at point its) (by_operation program at (still_point point) its)
  operation_still None uses = over_maps still_point s
  operation_still (Some its) uses = held_still its.0 its.1 uses

  -- ---- calls

  entered_still : (function : CodeFunction) (locals : List Binding)
      → entered program at (still_point point) function (map still_binding locals) ≡ still_point (entered program at point function locals)
  entered_still function locals =
      rw (below_still function.parameters point.frame.stack, taken_still function.parameters point.frame.stack) refl

  -- the call begins, with its arguments on the stack of that point
  abbrev opens : CodeFunction → Point → Step (Unit {0})
  opens function its = acts at (opened program.setting function.parameters function.variables (taken function.parameters its.frame.stack))

  -- and its frame is entered
  abbrev enters : CodeFunction → List Binding → Step Point
  enters function locals = give (entered program at (still_point point) function locals)

  opens_still : (function : CodeFunction) (t : RunState) → MapsAt same_unit (opens function point) (opens function (still_point point)) t
  opens_still function t =
      act_maps same_unit at (opened program.setting function.parameters function.variables (taken function.parameters point.frame.stack))
      (opened program.setting function.parameters function.variables (taken function.parameters (map still_value point.frame.stack))) t
      (ap (λ values. opened program.setting function.parameters function.variables values (still_machine t.machine))
      (taken_still function.parameters point.frame.stack)
      ∙ opened_still program.setting function.parameters function.variables (taken function.parameters point.frame.stack) t.machine)

  called_still : (function : Option CodeFunction) → Both (function_called program at point function) (function_called program at (still_point point) function)
  called_still None = over_maps still_point s
  called_still (Some function) =
      thens same_unit still_point s (λ it. acts at own_locals >>= (λ locals. opens function (still_point point) >> enters function locals)) (turn_maps s)
      (λ it t. thens (λ locals. map still_binding locals) still_point t (λ locals. opens function (still_point point) >> enters function locals)
      (act_maps (λ locals. map still_binding locals) at own_locals own_locals t refl)
      (λ locals u. thens same_unit still_point u (λ it. enters function (map still_binding locals)) (opens_still function u)
      (λ it v. gives still_point (entered program at point function locals)
      (entered program at (still_point point) function (map still_binding locals)) v (entered_still function locals))))

  -- the call that waited goes on
  abbrev resumed : Value → Waiting → List Waiting → Point
  resumed value caller rest =
      record point { frame = record { code = caller.frame.code; at = caller.frame.at; stack = value ∷ caller.frame.stack }; waiting = rest }

  -- the end of the run
  abbrev finishes : ℕ → Step Point
  finishes bits = ends (Finished (signed bits))

  returned_still : (value : Value) (waiting : List Waiting)
      → Both (returned_to program at point value waiting) (returned_to program at (still_point point) (still_value value) (map still_waiting waiting))
  returned_still value [] =
      thens same_unit still_point s (λ it. used at (still_value value) >>= finishes)
      (act_maps same_unit at (closes []) (closes []) s (ap (done tt) (closed_still [] s.machine)))
      (λ it t. thens (λ bits. bits) still_point t finishes (used_maps at value t)
      (λ bits u. over_maps still_point u {outcome = Finished (signed bits)}))
  returned_still value (caller ∷ rest) =
      thens same_unit still_point s (λ it. give (still_point (resumed value caller rest)))
      (act_maps same_unit at (closes caller.locals) (closes (map still_binding caller.locals)) s (ap (done tt) (closed_still caller.locals s.machine)))
      (λ it t. gives still_point (resumed value caller rest) (still_point (resumed value caller rest)) t refl)

  -- ---- other operations

  address_still : (its : Object) → MapsAt still_value (address_at at program.setting its) (address_at at program.setting its) s
  address_still (object.Variable name) =
      thens still_location still_value s _ (variable_maps at name s) (λ place t. address_maps at place t)
  address_still (object.Literal place) = gives still_value _ _ s refl

  onto_if_still : (b : Bool) (target : ℕ) (stack : List Value)
      → onto_if b (still_point point) target (map still_value stack) ≡ still_point (onto_if b point target stack)
  onto_if_still true target stack = refl
  onto_if_still false target stack = refl

  -- with other choices to come
  abbrev with_choices : List Bool → Point → Point
  with_choices choices its = record its { choices = choices }

  by_stack_still : (its : Op) (stack : List Value) → OpUses program its point.frame.stack s.machine
      → Both (by_stack program at point its stack) (by_stack program at (still_point point) its (map still_value stack))
  by_stack_still (op.Num bits) stack uses = moves _ _ refl
  by_stack_still op.Nil stack uses = moves _ _ refl
  by_stack_still (op.Address its) stack uses =
      thens still_value still_point s _ (address_still its) (λ value t. gives still_point (onward point (value ∷ stack))
      (onward (still_point point) (still_value value ∷ map still_value stack)) t refl)
  by_stack_still op.Drop (value ∷ stack) uses = moves _ _ refl
  by_stack_still op.Dup (value ∷ stack) uses = moves _ _ refl
  by_stack_still op.Tuck (value ∷ under ∷ stack) uses = moves _ _ refl
  by_stack_still (op.Jump target) stack uses = moves _ _ refl
  by_stack_still (op.Zero target) (value ∷ stack) uses =
      thens (λ bits. bits) still_point s _ (used_maps at value s) (λ bits t. gives still_point (onto_if (bits == 0) point target stack)
      (onto_if (bits == 0) (still_point point) target (map still_value stack)) t (onto_if_still (bits == 0) target stack))
  by_stack_still (op.Choose goal) (value ∷ stack) uses =
      thens (λ bits. bits) still_point s _ (used_maps at value s) (λ bits t. gives still_point (onto point (case_for bits goal point.frame.code.cases) stack)
      (onto (still_point point) (case_for bits goal point.frame.code.cases) (map still_value stack)) t refl)
  by_stack_still (op.Shift place) stack uses =
      thens same_unit still_point s _ (decides (slice_get program.setting.routines place) s)
      (λ it t. gives still_point (onward point stack) (onward (still_point point) (map still_value stack)) t refl)
  by_stack_still (op.Routine place) stack uses = routine_still place (routine_arguments (slice_get program.setting.routines place)) uses
  by_stack_still (op.Call place) stack uses = called_still (slice_get program.functions place)
  by_stack_still op.Return (value ∷ stack) uses = returned_still value point.waiting
  by_stack_still op.Turn stack uses =
      thens same_unit still_point s _ (turn_maps s)
      (λ it t. gives still_point (onward point stack) (onward (still_point point) (map still_value stack)) t refl)
  by_stack_still op.Mark stack uses = moves _ _ refl
  by_stack_still (op.Pick target) stack uses =
      moves (with_choices (later_choices point.choices) (onto_if (next_choice point.choices) point target stack))
      (with_choices (later_choices point.choices) (onto_if (next_choice point.choices) (still_point point) target (map still_value stack)))
      (ap (with_choices (later_choices point.choices)) (onto_if_still (next_choice point.choices) target stack))
  by_stack_still (op.Bring place) stack uses =
      moves (onward point (brought place stack)) (onward (still_point point) (brought place (map still_value stack)))
      (ap (onward (still_point point)) (brought_still place stack))
  by_stack_still its stack uses = operation_still (operation_of its) uses

stepped_at_still : (program : CodeProgram) (point : Point) (s : RunState) (its : Option Placed) → UsesAt program its point.frame.stack s.machine
    → stepped_at program (still_point point) its (still_state s) ≡ still_ran still_point (stepped_at program point its s)
stepped_at_still program point s None uses = refl
stepped_at_still program point s (Some its) uses = (by_stack_still program its.at point s its.op point.frame.stack uses).is

-- No operand that the step tests is stale or purged: then the step on the still machine is the same.
pub step_still : (program : CodeProgram) (point : Point) (s : RunState) → StepUses program point s
    → stepped program (still_point point) (still_state s) ≡ still_ran still_point (stepped program point s)
step_still program point s uses = stepped_at_still program point s (slice_get point.frame.code.ops point.frame.at) uses

-- ---- what asks nothing

arguments_untested : (program : CodeProgram) (place : ℕ) (count : Option ℕ) (stack : List Value) (machine : Machine)
    → tests program.setting (operation.routine place) ≡ false → ArgumentsUsed program place count stack machine
arguments_untested program place None stack machine is = tt
arguments_untested program place (Some count) stack machine is =
    untested program.setting (operation.routine place) (taken count stack) machine is

taken_untested : (program : CodeProgram) (its : Option (ℕ × Operation)) (stack : List Value) (machine : Machine)
    → operation_tests program its ≡ false → TakenUsed program its stack machine
taken_untested program None stack machine is = tt
taken_untested program (Some its) stack machine is = untested program.setting its.1 (taken its.0 stack) machine is

op_untested : (program : CodeProgram) (its : Op) (stack : List Value) (machine : Machine) → op_tests program its ≡ false
    → OpUses program its stack machine
op_untested program (op.Routine place) stack machine is =
    arguments_untested program place (routine_arguments (slice_get program.setting.routines place)) stack machine is
op_untested program its stack machine is = taken_untested program (operation_of its) stack machine is

uses_untested : (program : CodeProgram) (its : Option Placed) (stack : List Value) (machine : Machine) → tests_at program its ≡ false
    → UsesAt program its stack machine
uses_untested program None stack machine is = tt
uses_untested program (Some its) stack machine is = op_untested program its.op stack machine is

-- An operation that tests no operand is the same on the still machine, whatever its operands are.
pub untested_step : (program : CodeProgram) (point : Point) (s : RunState)
    → tests_at program (slice_get point.frame.code.ops point.frame.at) ≡ false
    → stepped program (still_point point) (still_state s) ≡ still_ran still_point (stepped program point s)
untested_step program point s is =
    step_still program point s (uses_untested program (slice_get point.frame.code.ops point.frame.at) point.frame.stack s.machine is)
