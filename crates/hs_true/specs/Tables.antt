-- What functions may do, as a table says it (own).
--     IsTold        what is asked of the table
use Rattle.std.proofs.Common.{◌≡◌, ◌-◌, ◌⊎◌, ℕ, suc, Bool, true, Some, slice_get}
use Rattle.hs_calls.specs.Changing.{decision_effects}
use Rattle.hs_code.specs.declared.function_code.Placed.{Placed}
use Rattle.hs_code.specs.declared.op.Op.TheVariants as op
use Rattle.hs_code_run.specs.Codes.{CodeProgram, scope_of, CodeFunction}
use Rattle.hs_facts.specs.Changes.{Impact, IsRestore}
use Rattle.hs_facts.specs.Names.{taken as taken_by}
use Rattle.hs_facts.specs.Rounds.{HoldsIn}
use Rattle.hs_sound_heap.specs.Roles.{effects_of}
use Rattle.hs_sound_heap.specs.Since.{May, IsWithin}
use Rattle.hs_table.specs.declared.role.Role.TheVariants as role
use Rattle.hs_tree.specs.declared.function.BoundRoutine.{BoundRoutine}
use Rattle.hs_tree.specs.declared.head.Variable.TheVariants as name
use Rattle.hs_truth.specs.Good.{CallsClosed}

module _ (program : CodeProgram) (may : ℕ → May) (sets : ℕ → ℕ → Bool) (impact : Impact) where
  -- What is asked of what functions may do, and of what calls of them do to must facts: functions have the effects of their operations, and those of
  -- the functions that they call. A state byte that is put back on the handle from which it was read counts for nothing.
  pub record IsTold : Type 0 where
    pub closed : CallsClosed program may sets impact
    pub unlocked : (f : ℕ) → (may f).unlocks ≡ true → impact.unlocks f
    pub disposed : (f : ℕ) → (may f).disposes ≡ true → impact.disposes f
    pub assigned : (f g : ℕ) → sets f g ≡ true → impact.assigns f g
    pub shifts : (fn : ℕ) (function : CodeFunction) → slice_get program.functions fn ≡ Some function → (at : ℕ) (its : Placed)
        → slice_get function.code.ops at ≡ Some its → (place : ℕ) → its.op ≡ op.Shift place
        → IsWithin (decision_effects (slice_get program.setting.routines place)) (may fn)
    pub routines : (fn : ℕ) (function : CodeFunction) → slice_get program.functions fn ≡ Some function → (at : ℕ) (its : Placed)
        → slice_get function.code.ops at ≡ Some its → (p : ℕ) → its.op ≡ op.Routine p → (it : BoundRoutine)
        → slice_get program.setting.routines p ≡ Some it
        → IsWithin (effects_of it.routine.role) (may fn)
        ⊎ ((it.routine.role ≡ role.SetState)
        × ((round : ℕ) → IsRestore (HoldsIn (scope_of program function) function.code impact round at)
        (its.places - taken_by (scope_of program function) (op.Routine p)) (suc (its.places - taken_by (scope_of program function) (op.Routine p)))))
    pub sets_own : (fn : ℕ) (function : CodeFunction) → slice_get program.functions fn ≡ Some function → (at : ℕ) (its : Placed)
        → slice_get function.code.ops at ≡ Some its → (g : ℕ) → its.op ≡ op.Set (name.Global g) → sets fn g ≡ true
