-- A step that is no Shift changes no epoch.
--     epochs_kept                 the change: each block has the epoch that it had before
--     EpochsKept before ran       so it is of what a step has come to
--     only_shifts_move            the law
use Rattle.std.proofs.Common.{◌≡◌, ℕ, Bool, true, false, List, slice_get, Option, Some, None}
use Rattle.hs_code.specs.declared.function_code.Placed.{Placed}
use Rattle.hs_code.specs.declared.op.Op.{Op}
use Rattle.hs_code.specs.declared.op.Op.TheVariants as op
use Rattle.hs_code_run.specs.Codes.{CodeProgram, Point}
use Rattle.hs_code_run.specs.Laws.Changes.{StepChange, RanKeeps, SpeaksAt, SpeaksOfOp, step_keeps}
use Rattle.hs_code_run.specs.Steps.{stepped}
use Rattle.hs_meaning.specs.Laws.Changes.Operations.{SpeaksOfRoutine}
use Rattle.hs_meaning.specs.Laws.Epochs.{epochs}
use Rattle.hs_meaning.specs.Steps.{State}
use Rattle.hs_tree.specs.declared.function.BoundRoutine.{BoundRoutine}

-- of no decision, and nothing of the decisions that are still to come
abbrev pub epochs_kept : StepChange
epochs_kept = record {
  machine = epochs;
  schedules = λ before after. Unit {0};
  same = λ schedule. tt;
  chained = λ first second third is so. tt;
  later = λ schedule. tt;
  speaks_of = λ it. ⊥;
  decides = λ it speaks. absurd speaks;
}

-- blocks may be added
abbrev pub EpochsKept : State → Rattle.hs_meaning.specs.Steps.Ran Point → Type 0
EpochsKept before ran = RanKeeps epochs_kept before ran

-- the operation takes a decision
abbrev pub is_shift : Op → Bool
is_shift (op.Shift place) = true
is_shift its = false

-- no operation at all, or one that is no Shift
abbrev pub is_shift_at : Option Placed → Bool
is_shift_at None = false
is_shift_at (Some its) = is_shift its.op

routine_spoken : (it : Option BoundRoutine) → SpeaksOfRoutine epochs it
routine_spoken None = tt
routine_spoken (Some it) = tt

op_spoken : (program : CodeProgram) (its : Op) → is_shift its ≡ false → SpeaksOfOp epochs_kept program its
op_spoken program (op.Shift place) is = absurd cc
op_spoken program (op.Routine place) is = routine_spoken (slice_get program.setting.routines place)
op_spoken program its is = tt

spoken : (program : CodeProgram) (its : Option Placed) → is_shift_at its ≡ false → SpeaksAt epochs_kept program its
spoken program None is = tt
spoken program (Some its) is = op_spoken program its.op is

-- each block keeps its epoch over a step that is no Shift; blocks may be added
pub only_shifts_move : (program : CodeProgram) (point : Point) (s : State)
    → is_shift_at (slice_get point.frame.code.ops point.frame.at) ≡ false → EpochsKept s (stepped program point s)
only_shifts_move program point s is =
    step_keeps epochs_kept program point s (spoken program (slice_get point.frame.code.ops point.frame.at) is)
