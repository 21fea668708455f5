-- What a run has put out stays, and it takes its decisions from the front of the schedule.
--     onwards                     the change: the output is longer or the same, and the schedule is shorter or the same
--     RunsOn before after         so it is of two states
--     steps_run_on                each step does so
use Rattle.std.proofs.Common.{◌≡◌, ℕ, List, [], ◌∷◌, ◌++◌, slice_get, Option, Some, None, refl, ap, sym, ◌∙◌, append_assoc}
use Rattle.hs_code.specs.declared.function_code.Placed.{Placed}
use Rattle.hs_code.specs.declared.op.Op.{Op}
use Rattle.hs_code.specs.declared.op.Op.TheVariants as op
use Rattle.hs_code_run.specs.Codes.{CodeProgram, Point}
use Rattle.hs_code_run.specs.Laws.Changes.{StepChange, StateStays, RanKeeps, SpeaksAt, SpeaksOfOp, SpeaksOfShift, step_keeps}
use Rattle.hs_code_run.specs.Steps.{stepped}
use Rattle.hs_heap.specs.declared.decision.Decision.{Decision}
use Rattle.hs_meaning.specs.Laws.Changes.Operations.{SpeaksOfRoutine}
use Rattle.hs_meaning.specs.Laws.Outputs.{outputs, nothing_more}
use Rattle.hs_meaning.specs.Steps.{State, Ran, later_decisions}
use Rattle.hs_tree.specs.declared.function.BoundRoutine.{BoundRoutine}

-- some decisions were taken from the front, and these are left
abbrev pub ScheduleRuns : List Decision → List Decision → Type 0
ScheduleRuns before after = (taken : List Decision) × (before ≡ taken ++ after)

pub none_taken : (schedule : List Decision) → ScheduleRuns schedule schedule
none_taken schedule = ([], refl)

pub one_taken : (schedule : List Decision) → ScheduleRuns schedule (later_decisions schedule)
one_taken [] = ([], refl)
one_taken (decision ∷ rest) = (decision ∷ [], refl)

pub all_taken : (first second third : List Decision) → ScheduleRuns first second → ScheduleRuns second third → ScheduleRuns first third
all_taken first second third is so =
    (is.0 ++ so.0, is.1 ∙ ap (λ rest. is.0 ++ rest) so.1 ∙ sym (append_assoc is.0 so.0 third))

-- of all decisions
abbrev pub onwards : StepChange
onwards = record {
  machine = outputs;
  schedules = λ before after. ScheduleRuns before after;
  same = λ schedule. none_taken schedule;
  chained = λ first second third is so. all_taken first second third is so;
  later = λ schedule. one_taken schedule;
  speaks_of = λ it. Unit {0};
  decides = λ it speaks takes s. nothing_more s.machine.output;
}

-- of two states
abbrev pub RunsOn : State → State → Type 0
RunsOn before after = StateStays onwards before after

routine_spoken : (it : Option BoundRoutine) → SpeaksOfRoutine outputs it
routine_spoken None = tt
routine_spoken (Some it) = tt

shift_spoken : (it : Option BoundRoutine) → SpeaksOfShift onwards it
shift_spoken None = tt
shift_spoken (Some it) = λ takes. tt

op_spoken : (program : CodeProgram) (its : Op) → SpeaksOfOp onwards program its
op_spoken program (op.Shift place) = shift_spoken (slice_get program.setting.routines place)
op_spoken program (op.Routine place) = routine_spoken (slice_get program.setting.routines place)
op_spoken program its = tt

spoken : (program : CodeProgram) (its : Option Placed) → SpeaksAt onwards program its
spoken program None = tt
spoken program (Some its) = op_spoken program its.op

-- whatever a step has come to
pub steps_run_on : (program : CodeProgram) (point : Point) (s : State) → RanKeeps onwards s (stepped program point s)
steps_run_on program point s = step_keeps onwards program point s (spoken program (slice_get point.frame.code.ops point.frame.at))
