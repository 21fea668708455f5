-- What each step of code does, in a relation between the state before and the state after: `Change` of `hs_meaning` for the machine, and another
-- relation for the decisions that are still to come. Each law of this form is one `StepChange`, and its proof is here.
--     StepChange                  such a relation
--     StateStays S before after   it holds of two states
--     RanKeeps S before ran       and of what a step has come to
--     Keeps S step                and of a step, from any state
--     SpeaksOfOp                  an operation of which the relation speaks
--     step_keeps                  the law
use Rattle.std.proofs.Common.{◌≡◌, refl, ◌||◌, ℕ, zero, suc, Bool, true, false, List, [], ◌∷◌, slice_get, Option, Some, None}
use Rattle.hs_base.specs.declared.pos.Pos.{Pos}
use Rattle.hs_code.specs.declared.function_code.Placed.{Placed}
use Rattle.hs_code.specs.declared.op.Binary.TheVariants as binary
use Rattle.hs_code.specs.declared.op.Object.{Object}
use Rattle.hs_code.specs.declared.op.Object.TheVariants as object
use Rattle.hs_code.specs.declared.op.Op.{Op}
use Rattle.hs_code.specs.declared.op.Op.TheVariants as op
use Rattle.hs_code.specs.declared.op.Unary.TheVariants as unary
use Rattle.hs_code_run.specs.Codes.{CodeFunction, CodeProgram, Waiting, Point}
use Rattle.hs_code_run.specs.Steps.{stepped, stepped_at, by_stack, by_operation, operates_if, routine_called, function_called, returned_to, operation_of, routine_arguments, taken, holds, address_at}
use Rattle.hs_heap.specs.declared.decision.Decision.{Decision}
use Rattle.hs_meaning.specs.Evaluation.{variable_at, address_of, decided_by, powers_of}
use Rattle.hs_meaning.specs.Frames.{opened}
use Rattle.hs_meaning.specs.Laws.Changes as changes
use Rattle.hs_meaning.specs.Laws.Changes.{Change, Stays, same_stay, stay_then}
use Rattle.hs_meaning.specs.Laws.Changes.Calls.{used_keeps, variable_keeps, address_keeps, owned_keeps, opened_keeps, closed_keeps}
use Rattle.hs_meaning.specs.Laws.Changes.Operations.{operate_keeps, SpeaksOf, SpeaksOfRoutine}
use Rattle.hs_meaning.specs.Machine.{Machine, Done, done, stopped}
use Rattle.hs_meaning.specs.Numbers.{signed}
use Rattle.hs_meaning.specs.Operations as operation
use Rattle.hs_meaning.specs.Operations.{Operation, operate}
use Rattle.hs_meaning.specs.Runs.{own_locals, closes}
use Rattle.hs_meaning.specs.Steps.{State, Ran, went, over, Step, ◌>>=◌, then_with, give, ends, acts, ran_at, turn, turn_from, number_used, either, decided, after_decision, later_decisions}
use Rattle.hs_meaning.specs.Values.{Value}
use Rattle.hs_meaning.specs.declared.outcome.Outcome.{Outcome}
use Rattle.hs_meaning.specs.declared.outcome.Outcome.TheVariants.{Finished}
use Rattle.hs_tree.specs.declared.function.BoundRoutine.{BoundRoutine}

-- A relation of states, which speaks of the machine and of the decisions that are still to come. Nothing, and one step after another, are such.
pub record StepChange : Type 1 where
  pub machine : Change
  pub schedules : List Decision → List Decision → Type 0
  pub same : (schedule : List Decision) → schedules schedule schedule
  pub chained : (first second third : List Decision) → schedules first second → schedules second third → schedules first third
  pub later : (schedule : List Decision) → schedules schedule (later_decisions schedule)
  -- a decision of a routine that moves or purges, if the relation speaks of those of the routine
  pub speaks_of : BoundRoutine → Type 0
  pub decides : (it : BoundRoutine) → speaks_of it → (it.routine.moves || it.routine.purges) ≡ true → (s : State)
      → Stays machine s.machine (after_decision (powers_of it) s).machine

module _ (S : StepChange) where
  -- of two states
  pub record StateStays (before after : State) : Type 0 where
    pub machine : Stays S.machine before.machine after.machine
    pub schedule : S.schedules before.schedule after.schedule

  -- what a step has come to from that state
  abbrev pub RanKeeps : {A : Type 0} → State → Ran A → Type 0
  RanKeeps before (went it after) = StateStays before after
  RanKeeps before (over outcome after) = StateStays before after

  -- the same of a step, from any state
  pub record Keeps {A : Type 0} (step : Step A) : Type 0 where
    pub from : (s : State) → RanKeeps s (step s)

  -- nothing changes
  pub same_state : (s : State) → StateStays s s
  same_state s = record { machine = same_stay S.machine s.machine; schedule = S.same s.schedule }

  -- one step after another
  pub state_then : (first second third : State) → StateStays first second → StateStays second third → StateStays first third
  state_then first second third is so =
      record {
        machine = stay_then S.machine first.machine second.machine third.machine is.machine so.machine;
        schedule = S.chained first.schedule second.schedule third.schedule is.schedule so.schedule;
      }

  both_keep : {A : Type 0} → (before s : State) (r : Ran A) → StateStays before s → RanKeeps s r → RanKeeps before r
  both_keep before s (went it t) is so = state_then before s t is so
  both_keep before s (over outcome t) is so = state_then before s t is so

  then_from : {A B : Type 0} → (before : State) (next : A → Step B) (r : Ran A) → RanKeeps before r → ((it : A) → Keeps (next it))
      → RanKeeps before (then_with next r)
  then_from before next (went it s) is after = both_keep before s (next it s) is ((after it).from s)
  then_from before next (over outcome s) is after = is

  -- one after the other
  pub thens : {A B : Type 0} → {first : Step A} → {next : A → Step B} → Keeps first → ((it : A) → Keeps (next it)) → Keeps (first >>= next)
  thens {first = first} {next = next} is after = record { from = λ s. then_from s next (first s) (is.from s) after }

  pub gives : {A : Type 0} → {it : A} → Keeps (give it)
  gives = record { from = λ s. same_state s }

  over_keeps : {A : Type 0} → {outcome : Outcome} → Keeps (ends {A = A} outcome)
  over_keeps = record { from = λ s. same_state s }

  done_keeps : {A : Type 0} → (at : Pos) (s : State) (its : Done A) → changes.Keeps S.machine s.machine its → RanKeeps s (ran_at at s its)
  done_keeps at s (done it machine) is = record { machine = is; schedule = S.same s.schedule }
  done_keeps at s (stopped why machine) is = record { machine = is; schedule = S.same s.schedule }

  -- what the machine does
  pub act_keeps : {A : Type 0} → (at : Pos) (act : Machine → Done A) → ((machine : Machine) → changes.Keeps S.machine machine (act machine))
      → Keeps (acts at act)
  act_keeps at act each = record { from = λ s. done_keeps at s (act s.machine) (each s.machine) }

  turn_keeps : Keeps turn
  turn_keeps = record { from = λ s. by_turns s s.turns }
    where
      only_turns : (s : State) (left : ℕ) → StateStays s (record s { turns = left })
      only_turns s left = record { machine = same_stay S.machine s.machine; schedule = S.same s.schedule }

      by_turns : (s : State) (left : ℕ) → RanKeeps s (turn_from left s)
      by_turns s zero = same_state s
      by_turns s (suc left) = only_turns s left

  -- ---- what the relation speaks of

  -- of the decisions of a routine that moves or purges
  abbrev pub SpeaksOfShift : Option BoundRoutine → Type 0
  SpeaksOfShift None = Unit {0}
  SpeaksOfShift (Some it) = (it.routine.moves || it.routine.purges) ≡ true → S.speaks_of it

  -- of an operation
  abbrev pub SpeaksOfOp : CodeProgram → Op → Type 0
  SpeaksOfOp program (op.Shift place) = SpeaksOfShift (slice_get program.setting.routines place)
  SpeaksOfOp program (op.Routine place) = SpeaksOfRoutine S.machine (slice_get program.setting.routines place)
  SpeaksOfOp program its = Unit {0}

  -- ---- steps

  decided_keeps : (it : BoundRoutine) (z : Bool) → (it.routine.moves || it.routine.purges) ≡ z → SpeaksOfShift (Some it)
      → Keeps (either z (decided (powers_of it)) (give tt))
  decided_keeps it true is speaks =
      record { from = λ s. record { machine = S.decides it (speaks is) is s; schedule = S.later s.schedule } }
  decided_keeps it false is speaks = gives

  shift_keeps : (it : Option BoundRoutine) → SpeaksOfShift it → Keeps (decided_by it)
  shift_keeps None speaks = gives
  shift_keeps (Some it) speaks = decided_keeps it (it.routine.moves || it.routine.purges) refl speaks

  module _ (program : CodeProgram) (at : Pos) (point : Point) where
    operates_keep : (b : Bool) (count : ℕ) (its : Operation) → SpeaksOf S.machine program.setting its → Keeps (operates_if program at point b count its)
    operates_keep true count its speaks =
        thens (act_keeps at (operate program.setting its (taken count point.frame.stack))
        (λ machine. operate_keeps S.machine program.setting its (taken count point.frame.stack) machine speaks)) (λ value. gives)
    operates_keep false count its speaks = over_keeps

    routine_keeps : (place : ℕ) (count : Option ℕ) → SpeaksOfRoutine S.machine (slice_get program.setting.routines place) → Keeps (routine_called program at point place count)
    routine_keeps place None speaks = over_keeps
    routine_keeps place (Some count) speaks = operates_keep (holds count point.frame.stack) count (operation.routine place) speaks

    called_keeps : (function : Option CodeFunction) → Keeps (function_called program at point function)
    called_keeps None = over_keeps
    called_keeps (Some function) =
        thens turn_keeps (λ it. thens (act_keeps at own_locals (owned_keeps S.machine)) (λ locals. thens
        (act_keeps at (opened program.setting function.parameters function.variables (taken function.parameters point.frame.stack))
        (λ machine. opened_keeps S.machine program.setting function.parameters function.variables (taken function.parameters point.frame.stack) machine))
        (λ it. gives)))

    -- the call that waited goes on
    abbrev resumed : Value → Waiting → List Waiting → Point
    resumed value caller rest =
        record point { frame = record { code = caller.frame.code; at = caller.frame.at; stack = value ∷ caller.frame.stack }; waiting = rest }

    returned_keeps : (value : Value) (waiting : List Waiting) → Keeps (returned_to program at point value waiting)
    returned_keeps value [] =
        thens (act_keeps at (closes []) (λ machine. closed_keeps S.machine [] machine)) (λ it. thens
        (act_keeps at (number_used value) (λ machine. used_keeps S.machine value machine)) (λ bits. over_keeps {outcome = Finished (signed bits)}))
    returned_keeps value (caller ∷ rest) =
        thens (act_keeps at (closes caller.locals) (λ machine. closed_keeps S.machine caller.locals machine)) (λ it. gives {it = resumed value caller rest})

    address_at_keeps : (its : Object) → Keeps (address_at at program.setting its)
    address_at_keeps (object.Variable name) =
        thens (act_keeps at (variable_at name) (λ machine. variable_keeps S.machine name machine))
        (λ place. act_keeps at (address_of place) (λ machine. address_keeps S.machine place machine))
    address_at_keeps (object.Literal place) = gives

    abbrev SpeaksIf : Option (ℕ × Operation) → Type 0
    SpeaksIf None = Unit {0}
    SpeaksIf (Some its) = SpeaksOf S.machine program.setting its.1

    no_routine : (its : Op) → SpeaksIf (operation_of its)
    no_routine (op.Get name) = tt
    no_routine (op.Set name) = tt
    no_routine (op.Load its) = tt
    no_routine (op.Store its) = tt
    no_routine (op.Conv kind) = tt
    no_routine (op.Unary (unary.Sign its)) = tt
    no_routine (op.Unary unary.Not) = tt
    no_routine (op.Binary (binary.Arithmetic its) kind) = tt
    no_routine (op.Binary (binary.Comparison its) kind) = tt
    no_routine op.IsNil = tt
    no_routine (op.Compare its) = tt
    no_routine (op.Difference size) = tt
    no_routine (op.Offset bytes) = tt
    no_routine (op.Step stride first) = tt
    no_routine its = tt

    operation_keeps : (its : Option (ℕ × Operation)) → SpeaksIf its → Keeps (by_operation program at point its)
    operation_keeps None speaks = over_keeps
    operation_keeps (Some its) speaks = operates_keep (holds its.0 point.frame.stack) its.0 its.1 speaks

    stack_keeps : (its : Op) (stack : List Value) → SpeaksOfOp program its → Keeps (by_stack program at point its stack)
    stack_keeps (op.Num bits) stack is = gives
    stack_keeps op.Nil stack is = gives
    stack_keeps (op.Address its) stack is = thens (address_at_keeps its) (λ value. gives)
    stack_keeps op.Drop [] is = over_keeps
    stack_keeps op.Drop (v ∷ stack) is = gives
    stack_keeps op.Dup [] is = over_keeps
    stack_keeps op.Dup (v ∷ stack) is = gives
    stack_keeps op.Tuck [] is = over_keeps
    stack_keeps op.Tuck (v ∷ []) is = over_keeps
    stack_keeps op.Tuck (v ∷ u ∷ stack) is = gives
    stack_keeps (op.Jump target) stack is = gives
    stack_keeps (op.Zero target) [] is = over_keeps
    stack_keeps (op.Zero target) (v ∷ stack) is = thens (act_keeps at (number_used v) (λ machine. used_keeps S.machine v machine)) (λ bits. gives)
    stack_keeps (op.Choose goal) [] is = over_keeps
    stack_keeps (op.Choose goal) (v ∷ stack) is = thens (act_keeps at (number_used v) (λ machine. used_keeps S.machine v machine)) (λ bits. gives)
    stack_keeps (op.Shift place) stack is = thens (shift_keeps (slice_get program.setting.routines place) is) (λ it. gives)
    stack_keeps (op.Routine place) stack is = routine_keeps place (routine_arguments (slice_get program.setting.routines place)) is
    stack_keeps (op.Call place) stack is = called_keeps (slice_get program.functions place)
    stack_keeps op.Return [] is = over_keeps
    stack_keeps op.Return (v ∷ stack) is = returned_keeps v point.waiting
    stack_keeps op.Turn stack is = thens turn_keeps (λ it. gives)
    stack_keeps op.Mark stack is = gives
    stack_keeps (op.Pick target) stack is = gives
    stack_keeps (op.Bring place) stack is = gives
    stack_keeps its stack is = operation_keeps (operation_of its) (no_routine its)

  -- no operation at all, or one of which it speaks
  abbrev pub SpeaksAt : CodeProgram → Option Placed → Type 0
  SpeaksAt program None = Unit {0}
  SpeaksAt program (Some its) = SpeaksOfOp program its.op

  at_keeps : (program : CodeProgram) (point : Point) (its : Option Placed) → SpeaksAt program its → Keeps (stepped_at program point its)
  at_keeps program point None is = over_keeps
  at_keeps program point (Some its) is = stack_keeps program its.at point its.op point.frame.stack is

  -- each step of which it speaks
  pub step_keeps : (program : CodeProgram) (point : Point) (s : State) → SpeaksAt program (slice_get point.frame.code.ops point.frame.at)
      → RanKeeps s (stepped program point s)
  step_keeps program point s is = (at_keeps program point (slice_get point.frame.code.ops point.frame.at) is).from s
