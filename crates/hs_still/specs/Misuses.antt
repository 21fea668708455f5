-- No misuse: a step of which no operand that it tests is stale or purged does not stop at such a use. On the still machine nothing is stale or purged,
-- and the step on it is the same.
--     operation_is_no_misuse   an operation
--     step_is_no_misuse        a step of code
--     begun_is_no_misuse       the begin of a run
use Rattle.std.proofs.Common.{ℕ, zero, suc, ◌||◌, Bool, true, false, List, [], ◌∷◌, map, slice_get, Option, Some, None, subst}
use Rattle.hs_base.specs.declared.pos.Pos.{Pos}
use Rattle.hs_code.specs.declared.function_code.Placed.{Placed}
use Rattle.hs_code.specs.declared.op.Object.{Object}
use Rattle.hs_code.specs.declared.op.Object.TheVariants as object
use Rattle.hs_code.specs.declared.op.Op.{Op}
use Rattle.hs_code.specs.declared.op.Op.TheVariants as op
use Rattle.hs_code_run.specs.Codes.{CodeFunction, CodeProgram, Waiting, Point}
use Rattle.hs_code_run.specs.Runs.{starting_point, begun}
use Rattle.hs_code_run.specs.Steps.{stepped, stepped_at, by_stack, by_operation, operates_if, routine_called, function_called, returned_to, entered, operation_of, routine_arguments, taken, holds, address_at}
use Rattle.hs_meaning.specs.Evaluation.{Location, in_slot, at_address, located, variable_at, address_of, decided_by, powers_of}
use Rattle.hs_meaning.specs.Frames.{opened}
use Rattle.hs_meaning.specs.Laws.Unmoved.{IsUnmoved, IsStillDone}
use Rattle.hs_meaning.specs.Laws.Unmoved.Fine.{Anything}
use Rattle.hs_meaning.specs.Laws.Unmoved.Frames as unmoved_frames
use Rattle.hs_meaning.specs.Laws.Unmoved.Operations.{operated}
use Rattle.hs_meaning.specs.Machine.{Machine, Binding, slot, object_at, Done, done, stopped, binding_of}
use Rattle.hs_meaning.specs.Operations as operation
use Rattle.hs_meaning.specs.Operations.{Operation, operate}
use Rattle.hs_meaning.specs.Runs.{IsMisuseStop, IsMisuse, own_locals, closes}
use Rattle.hs_meaning.specs.Settings.{Setting}
use Rattle.hs_meaning.specs.Steps.{State as RunState, Ran, went, over, Step, ◌>>=◌, ◌>>◌, then_with, give, ends, acts, ran_at, either, decided, number_used, used, turn, turn_from}
use Rattle.hs_meaning.specs.Values.{Value, number, pointer, state, structure}
use Rattle.hs_meaning.specs.declared.outcome.Outcome.{Outcome}
use Rattle.hs_meaning.specs.declared.outcome.Outcome.TheVariants.{Finished}
use Rattle.hs_meaning.specs.Numbers.{signed}
use Rattle.hs_still.specs.Frames.{same_unit, opened_still}
use Rattle.hs_still.specs.Images.{values_unmoved, image_is_still}
use Rattle.hs_still.specs.Machines.{still_value, still_machine, still_done}
use Rattle.hs_still.specs.Operate.{operate_still}
use Rattle.hs_still.specs.Steps.{TakenUsed, ArgumentsUsed, OpUses, UsesAt, StepUses}
use Rattle.hs_still.specs.Tests.{UsedBy}
use Rattle.hs_tree.specs.declared.function.BoundRoutine.{BoundRoutine}
use Rattle.hs_tree.specs.declared.head.Variable.{Variable}
use Rattle.hs_tree.specs.declared.head.VariableDecl.{VariableDecl}

-- ---- operations

-- it does not stop at a use of what is stale or purged
abbrev pub IsNoMisuse : {A : Type 0} → Done A → Type 0
IsNoMisuse (done it machine) = Unit {0}
IsNoMisuse (stopped why machine) = ¬ (IsMisuseStop why)

image_fine : {A : Type 0} → (fact : A → Type 0) (f : A → A) (its : Done A) → IsStillDone fact (still_done f its) → IsNoMisuse its
image_fine fact f (done it machine) is = tt
image_fine fact f (stopped why machine) is = is

-- an operation of which no operand that it tests is stale or purged
pub operation_is_no_misuse : (setting : Setting) (its : Operation) (values : List Value) (machine : Machine) → UsedBy setting its values machine
    → IsNoMisuse (operate setting its values machine)
operation_is_no_misuse setting its values machine uses =
    image_fine IsUnmoved still_value (operate setting its values machine)
    (subst (IsStillDone IsUnmoved) (operate_still setting its values machine uses)
    (operated setting its (map still_value values) (still_machine machine) (values_unmoved values) (image_is_still machine)))

opened_fine : (setting : Setting) (parameters : ℕ) (variables : List VariableDecl) (values : List Value) (machine : Machine)
    → IsNoMisuse (opened setting parameters variables values machine)
opened_fine setting parameters variables values machine =
    image_fine Anything same_unit (opened setting parameters variables values machine)
    (subst (IsStillDone Anything) (opened_still setting parameters variables values machine)
    (unmoved_frames.opened_still setting parameters variables (map still_value values) (still_machine machine) (values_unmoved values)
    (image_is_still machine)))

-- ---- steps

-- the same of what a step comes to
abbrev pub EndsInNoMisuse : {A : Type 0} → Ran A → Type 0
EndsInNoMisuse (went it s) = Unit {0}
EndsInNoMisuse (over outcome s) = ¬ (IsMisuse outcome)

-- of a step from that state
record FineAt {A : Type 0} (step : Step A) (s : RunState) : Type 0 where
  fine : EndsInNoMisuse (step s)

then_fine : {A B : Type 0} → (ran : Ran A) (next : A → Step B) → EndsInNoMisuse ran → ((it : A) (t : RunState) → FineAt (next it) t)
    → EndsInNoMisuse (then_with next ran)
then_fine (went it s) next is each = (each it s).fine
then_fine (over outcome s) next is each = is

thens : {A B : Type 0} → {s : RunState} → {first : Step A} → {next : A → Step B} → FineAt first s → ((it : A) (t : RunState) → FineAt (next it) t)
    → FineAt (first >>= next) s
thens {s = s} {first = first} {next = next} is each = record { fine = then_fine (first s) next is.fine each }

gives : {A : Type 0} → {it : A} → {s : RunState} → FineAt (give it) s
gives = record { fine = tt }

misfits_fine : {A : Type 0} → {s : RunState} → {outcome : Outcome} → ¬ (IsMisuse outcome) → FineAt (ends {A = A} outcome) s
misfits_fine is = record { fine = is }

ran_fine : {A : Type 0} → (at : Pos) (s : RunState) (its : Done A) → IsNoMisuse its → EndsInNoMisuse (ran_at at s its)
ran_fine at s (done it machine) is = tt
ran_fine at s (stopped why machine) is = is

act_fine : {A : Type 0} → (at : Pos) (act : Machine → Done A) (s : RunState) → IsNoMisuse (act s.machine) → FineAt (acts at act) s
act_fine at act s is = record { fine = ran_fine at s (act s.machine) is }

turn_fine : (s : RunState) → FineAt turn s
turn_fine s = record { fine = by_turns s.turns }
  where
    by_turns : (left : ℕ) → EndsInNoMisuse (turn_from left s)
    by_turns zero = λ misuse. misuse
    by_turns (suc left) = tt

number_fine : (value : Value) (machine : Machine) → IsNoMisuse (number_used value machine)
number_fine (number bits) machine = tt
number_fine (pointer its) machine = λ misuse. misuse
number_fine (state byte) machine = λ misuse. misuse
number_fine (structure cells) machine = λ misuse. misuse

used_fine : (at : Pos) (value : Value) (s : RunState) → FineAt (used at value) s
used_fine at value s = act_fine at (number_used value) s (number_fine value s.machine)

either_fine : {s : RunState} → (b : Bool) (first second : Step (Unit {0})) → FineAt first s → FineAt second s → FineAt (either b first second) s
either_fine true first second is so = is
either_fine false first second is so = so

decides_fine : (it : Option BoundRoutine) (s : RunState) → FineAt (decided_by it) s
decides_fine None s = gives
decides_fine (Some it) s =
    either_fine (it.routine.moves || it.routine.purges) (decided (powers_of it)) (give tt) (record { fine = tt }) gives

located_fine : (name : Variable) (b : Option Binding) (machine : Machine) → IsNoMisuse (located name b machine)
located_fine name None machine = λ misuse. misuse
located_fine name (Some (slot value)) machine = tt
located_fine name (Some (object_at place)) machine = tt

address_of_fine : (place : Location) (machine : Machine) → IsNoMisuse (address_of place machine)
address_of_fine (in_slot name) machine = λ misuse. misuse
address_of_fine (at_address its) machine = tt

module _ (program : CodeProgram) (at : Pos) (point : Point) (s : RunState) where
  operates_fine : (b : Bool) (count : ℕ) (its : Operation) → UsedBy program.setting its (taken count point.frame.stack) s.machine
      → FineAt (operates_if program at point b count its) s
  operates_fine true count its uses =
      thens (act_fine at (operate program.setting its (taken count point.frame.stack)) s
      (operation_is_no_misuse program.setting its (taken count point.frame.stack) s.machine uses)) (λ value t. gives)
  operates_fine false count its uses = misfits_fine (λ misuse. misuse)

  routine_fine : (place : ℕ) (count : Option ℕ) → ArgumentsUsed program place count point.frame.stack s.machine
      → FineAt (routine_called program at point place count) s
  routine_fine place None uses = misfits_fine (λ misuse. misuse)
  routine_fine place (Some count) uses = operates_fine (holds count point.frame.stack) count (operation.routine place) uses

  operation_fine : (its : Option (ℕ × Operation)) → TakenUsed program its point.frame.stack s.machine → FineAt (by_operation program at point its) s
  operation_fine None uses = misfits_fine (λ misuse. misuse)
  operation_fine (Some its) uses = operates_fine (holds its.0 point.frame.stack) its.0 its.1 uses

  -- the call begins
  abbrev opens : CodeFunction → Step (Unit {0})
  opens function = acts at (opened program.setting function.parameters function.variables (taken function.parameters point.frame.stack))

  -- and its frame is entered
  abbrev enters : CodeFunction → List Binding → Step Point
  enters function locals = give (entered program at point function locals)

  called_fine : (function : Option CodeFunction) → FineAt (function_called program at point function) s
  called_fine None = misfits_fine (λ misuse. misuse)
  called_fine (Some function) =
      thens {next = λ it. acts at own_locals >>= (λ locals. opens function >> enters function locals)} (turn_fine s)
      (λ it t. thens {next = λ locals. opens function >> enters function locals} (act_fine at own_locals t tt)
      (λ locals u. thens {next = λ it. enters function locals}
      (act_fine at (opened program.setting function.parameters function.variables (taken function.parameters point.frame.stack)) u
      (opened_fine program.setting function.parameters function.variables (taken function.parameters point.frame.stack) u.machine))
      (λ it v. gives {it = entered program at point function locals})))

  -- the call that waited goes on
  abbrev resumed : Value → Waiting → List Waiting → Point
  resumed value caller rest =
      record point { frame = record { code = caller.frame.code; at = caller.frame.at; stack = value ∷ caller.frame.stack }; waiting = rest }

  -- the end of the run
  abbrev finishes : ℕ → Step Point
  finishes bits = ends (Finished (signed bits))

  returned_fine : (value : Value) (waiting : List Waiting) → FineAt (returned_to program at point value waiting) s
  returned_fine value [] =
      thens {next = λ it. used at value >>= finishes} (act_fine at (closes []) s tt)
      (λ it t. thens {next = finishes} (used_fine at value t) (λ bits u. misfits_fine {outcome = Finished (signed bits)} (λ misuse. misuse)))
  returned_fine value (caller ∷ rest) =
      thens {next = λ it. give (resumed value caller rest)} (act_fine at (closes caller.locals) s tt) (λ it t. gives {it = resumed value caller rest})

  address_fine : (its : Object) → FineAt (address_at at program.setting its) s
  address_fine (object.Variable name) =
      thens (act_fine at (variable_at name) s (located_fine name (binding_of name s.machine) s.machine))
      (λ place t. act_fine at (address_of place) t (address_of_fine place t.machine))
  address_fine (object.Literal place) = gives

  by_stack_fine : (its : Op) (stack : List Value) → OpUses program its point.frame.stack s.machine → FineAt (by_stack program at point its stack) s
  by_stack_fine (op.Num bits) stack uses = gives
  by_stack_fine op.Nil stack uses = gives
  by_stack_fine (op.Address its) stack uses = thens (address_fine its) (λ value t. gives)
  by_stack_fine op.Drop (value ∷ stack) uses = gives
  by_stack_fine op.Dup (value ∷ stack) uses = gives
  by_stack_fine op.Tuck (value ∷ under ∷ stack) uses = gives
  by_stack_fine (op.Jump target) stack uses = gives
  by_stack_fine (op.Zero target) (value ∷ stack) uses = thens (used_fine at value s) (λ bits t. gives)
  by_stack_fine (op.Choose goal) (value ∷ stack) uses = thens (used_fine at value s) (λ bits t. gives)
  by_stack_fine (op.Shift place) stack uses = thens (decides_fine (slice_get program.setting.routines place) s) (λ it t. gives)
  by_stack_fine (op.Routine place) stack uses = routine_fine place (routine_arguments (slice_get program.setting.routines place)) uses
  by_stack_fine (op.Call place) stack uses = called_fine (slice_get program.functions place)
  by_stack_fine op.Return (value ∷ stack) uses = returned_fine value point.waiting
  by_stack_fine op.Turn stack uses = thens (turn_fine s) (λ it t. gives)
  by_stack_fine op.Mark stack uses = gives
  by_stack_fine (op.Pick target) stack uses = gives
  by_stack_fine (op.Bring place) stack uses = gives
  by_stack_fine its stack uses = operation_fine (operation_of its) uses

stepped_at_fine : (program : CodeProgram) (point : Point) (s : RunState) (its : Option Placed) → UsesAt program its point.frame.stack s.machine
    → EndsInNoMisuse (stepped_at program point its s)
stepped_at_fine program point s None uses = λ misuse. misuse
stepped_at_fine program point s (Some its) uses = (by_stack_fine program its.at point s its.op point.frame.stack uses).fine

-- a step of which no operand that it tests is stale or purged
pub step_is_no_misuse : (program : CodeProgram) (point : Point) (s : RunState) → StepUses program point s → EndsInNoMisuse (stepped program point s)
step_is_no_misuse program point s uses = stepped_at_fine program point s (slice_get point.frame.code.ops point.frame.at) uses

-- the call of `main` that begins a run
pub begun_is_no_misuse : (program : CodeProgram) (choices : List Bool) (function : CodeFunction) (s : RunState)
    → EndsInNoMisuse (begun program choices function s)
begun_is_no_misuse program choices function s =
    (thens {next = λ it. give (starting_point function choices)}
    (act_fine function.opening (opened program.setting function.parameters function.variables []) s
    (opened_fine program.setting function.parameters function.variables [] s.machine))
    (λ it t. gives {it = starting_point function choices})).fine
