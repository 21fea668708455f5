-- What each step of code does to the blocks, in the effects of its operation (own).
--     since may                     the change: the blocks are as `Since` says
--     since_steps may               the same of the steps of code
--     effects_at program its        the effects of an operation itself: what it calls has effects of its own
--     step_since                    a step does no more than its operation may
use Rattle.std.proofs.Common.{true, false, ◌||◌, slice_get, Option, Some, None, subst, if◌then◌else◌}
use Rattle.hs_code.specs.declared.function_code.Placed.{Placed}
use Rattle.hs_code.specs.declared.op.Op.{Op}
use Rattle.hs_code.specs.declared.op.Op.TheVariants as op
use Rattle.hs_code_run.specs.Codes.{CodeProgram, Point}
use Rattle.hs_code_run.specs.Laws.Changes.{StepChange, RanKeeps, SpeaksAt, SpeaksOfOp, SpeaksOfShift, step_keeps}
use Rattle.hs_code_run.specs.Steps.{stepped}
use Rattle.hs_heap.specs.Blocks.{with_lock, with_purge_bit, with_state, emptied, disposed, resized, reallocated}
use Rattle.hs_heap.specs.Shift.{shift}
use Rattle.hs_meaning.specs.Evaluation.{powers_of}
use Rattle.hs_meaning.specs.Laws.Changes.{Change}
use Rattle.hs_meaning.specs.Laws.Changes.Operations.{SpeaksOfRoutine}
use Rattle.hs_meaning.specs.Steps.{State, Ran, next_decision}
use Rattle.hs_sound_heap.specs.Roles.{nothing, unlocking, marking, setting, disposing, effects_of, more_since, cells_since, lock_since, unlock_since, purge_since, no_purge_since, state_since, emptied_since, disposed_since, resized_since, reallocated_since, put_since, added_since}
use Rattle.hs_sound_heap.specs.Shifts.{shifting, shift_since}
use Rattle.hs_sound_heap.specs.Since.{May, BlockSince, IsWithin, Since, since_refl, since_trans, since_more}
use Rattle.hs_tree.specs.declared.function.BoundRoutine.{BoundRoutine}

-- the blocks are as `Since` says; whatever is put out
abbrev pub since : May → Change
since may = record {
  over = λ before old after new. Since may before after;
  same = λ blocks output. since_refl may blocks;
  chained = λ a b c x y z is so. since_trans may a b c is so;
  added = λ blocks more output. added_since may blocks more;
  written = λ blocks output more. since_refl may blocks;
  keeps = BlockSince may;
  put = λ blocks output number before block is so. put_since may blocks number before block is so;
  cells = λ before cells. cells_since may before cells;
  speaks_of = λ role. IsWithin (effects_of role) may;
  locks = λ within. more_since nothing may within (with_lock true) lock_since;
  unlocks = λ within. more_since unlocking may within (with_lock false) unlock_since;
  marks = λ within. more_since marking may within (with_purge_bit true) purge_since;
  unmarks = λ within. more_since nothing may within (with_purge_bit false) no_purge_since;
  puts_back = λ within byte. more_since setting may within (with_state byte) (state_since byte);
  empties = λ within. more_since nothing may within emptied emptied_since;
  disposes = λ within. more_since disposing may within disposed disposed_since;
  resizes = λ within size. more_since nothing may within (resized size) (resized_since size);
  renews = λ within size. more_since unlocking may within (reallocated size) (reallocated_since size);
}

-- and a decision shifts them
abbrev pub since_steps : May → StepChange
since_steps may = record {
  machine = since may;
  schedules = λ before after. Unit {0};
  same = λ schedule. tt;
  chained = λ first second third is so. tt;
  later = λ schedule. tt;
  speaks_of = λ it. IsWithin (shifting it.routine.purges) may;
  decides = λ it within moves s.
      since_more (shifting it.routine.purges) may s.machine.blocks (shift (powers_of it) (next_decision s.schedule) s.machine.blocks) within
      (shift_since (powers_of it) (next_decision s.schedule) s.machine.blocks);
}

-- ---- effects of an operation

-- a routine that neither moves nor purges takes no decision
abbrev pub decision_effects : Option BoundRoutine → May
decision_effects None = nothing
decision_effects (Some it) = if it.routine.moves || it.routine.purges then shifting it.routine.purges else nothing

-- by its role
abbrev pub routine_effects : Option BoundRoutine → May
routine_effects None = nothing
routine_effects (Some it) = effects_of it.routine.role

-- a decision stands in an operation of its own, before the routine acts
abbrev pub effects_of_op : CodeProgram → Op → May
effects_of_op program (op.Shift place) = decision_effects (slice_get program.setting.routines place)
effects_of_op program (op.Routine place) = routine_effects (slice_get program.setting.routines place)
effects_of_op program its = nothing

-- no operation does nothing
abbrev pub effects_at : CodeProgram → Option Placed → May
effects_at program None = nothing
effects_at program (Some its) = effects_of_op program its.op

-- ---- the law

-- the blocks before a step, and those that it leaves, also where it ends the run
abbrev pub RanSince : May → State → Ran Point → Type 0
RanSince may before ran = RanKeeps (since_steps may) before ran

module _ (may : May) (program : CodeProgram) where
  shift_spoken : (it : Option BoundRoutine) → IsWithin (decision_effects it) may → SpeaksOfShift (since_steps may) it
  shift_spoken None within = tt
  shift_spoken (Some it) within = λ moves. subst (λ b. IsWithin (if b then shifting it.routine.purges else nothing) may) moves within

  routine_spoken : (it : Option BoundRoutine) → IsWithin (routine_effects it) may → SpeaksOfRoutine (since may) it
  routine_spoken None within = tt
  routine_spoken (Some it) within = within

  op_spoken : (its : Op) → IsWithin (effects_of_op program its) may → SpeaksOfOp (since_steps may) program its
  op_spoken (op.Shift place) within = shift_spoken (slice_get program.setting.routines place) within
  op_spoken (op.Routine place) within = routine_spoken (slice_get program.setting.routines place) within
  op_spoken its within = tt

  spoken : (its : Option Placed) → IsWithin (effects_at program its) may → SpeaksAt (since_steps may) program its
  spoken None within = tt
  spoken (Some its) within = op_spoken its.op within

  -- A step does no more to the blocks than its operation may.
  pub step_since : (point : Point) (s : State) → IsWithin (effects_at program (slice_get point.frame.code.ops point.frame.at)) may
      → RanSince may s (stepped program point s)
  step_since point s within =
      step_keeps (since_steps may) program point s (spoken (slice_get point.frame.code.ops point.frame.at) within)
