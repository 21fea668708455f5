-- An operation that is neither a call nor a return leads to a point of the same call (own).
--     InCall here ws next           the point is in the call that goes on, over the same calls that wait
--     inside_moves                  the law
--     ran_both                      two facts of what a step has come to
use Rattle.std.proofs.Common.{◌≡◌, ℕ, suc, ◌==◌, Bool, true, false, List, [], ◌∷◌, slice_get, Option, Some, None, refl}
use Rattle.hs_base.specs.declared.pos.Pos.{Pos}
use Rattle.hs_calls.specs.Calls.{Here, Wait, point_of, moved}
use Rattle.hs_calls.specs.Stacks.{RanTo, is_inside}
use Rattle.hs_code.specs.declared.op.Op.{Op}
use Rattle.hs_code.specs.declared.op.Op.TheVariants as op
use Rattle.hs_code_run.specs.Codes.{CodeProgram, Point}
use Rattle.hs_code_run.specs.Steps.{by_stack, by_operation, operates_if, routine_called, operation_of, routine_arguments, taken, below, holds, brought, onward, onto, onto_if, case_for, next_choice, later_choices, address_at}
use Rattle.hs_meaning.specs.Evaluation.{decided_by}
use Rattle.hs_meaning.specs.Operations as operation
use Rattle.hs_meaning.specs.Operations.{Operation}
use Rattle.hs_meaning.specs.Steps.{State, Ran, went, over, then_with, give, turn, used, perform}
use Rattle.hs_meaning.specs.Values.{Value}
use Rattle.hs_meaning.specs.declared.outcome.Outcome.{Outcome}

-- ---- facts of what a step has come to

-- both hold
pub ran_both : {A : Type 0} → (E : Outcome → State → Type 0) (Q Q' : A → State → Type 0) (r : Ran A) → RanTo E Q r → RanTo E Q' r
    → RanTo E (λ it t. Q it t × Q' it t) r
ran_both E Q Q' (went it t) is so = (is, so)
ran_both E Q Q' (over outcome t) is so = is

-- what follows
pub ran_so : {A : Type 0} → (E : Outcome → State → Type 0) (Q Q' : A → State → Type 0) (r : Ran A) → ((it : A) (t : State) → Q it t → Q' it t)
    → RanTo E Q r → RanTo E Q' r
ran_so E Q Q' (went it t) so is = so it t is
ran_so E Q Q' (over outcome t) so is = is

-- ---- the same call

module _ (here : Here) (ws : List Wait) where
  -- the point is in the call that goes on
  abbrev pub InCall : Point → Type 0
  InCall next =
      (at : ℕ) × (stack : List Value) × (choices : List Bool) × (next ≡ point_of (moved here at stack here.lasting) ws choices)

  -- the run may end
  abbrev pub LeadsOn : Ran Point → Type 0
  LeadsOn ran = RanTo (λ outcome t. Unit {0}) (λ next t. InCall next) ran

  module _ (program : CodeProgram) (pos : Pos) (choices : List Bool) where
    -- where the operation stands
    abbrev point : Point
    point = point_of here ws choices

    -- the next operation, with that stack
    on : (stack : List Value) → InCall (onward point stack)
    on stack = (suc here.at, stack, choices, refl)

    on_if : (b : Bool) (target : ℕ) (stack : List Value) → InCall (onto_if b point target stack)
    on_if true target stack = (target, stack, choices, refl)
    on_if false target stack = on stack

    picked : (b : Bool) (target : ℕ) (stack : List Value) (rest : List Bool)
        → InCall (record (onto_if b point target stack) { choices = rest })
    picked true target stack rest = (target, stack, rest, refl)
    picked false target stack rest = (suc here.at, stack, rest, refl)

    -- whatever the step before gives
    after : {A : Type 0} → (next : A → Point) → ((it : A) → InCall (next it)) → (r : Ran A) → LeadsOn (then_with (λ it. give (next it)) r)
    after next is (went it t) = is it
    after next is (over outcome t) = tt

    operates_on : (b : Bool) (count : ℕ) (its : Operation) (s : State) → LeadsOn (operates_if program pos point b count its s)
    operates_on true count its s =
        after (λ value. onward point (value ∷ below count here.stack)) (λ value. on (value ∷ below count here.stack))
        (perform program.setting pos its (taken count here.stack) s)
    operates_on false count its s = tt

    routine_on : (place : ℕ) (count : Option ℕ) (s : State) → LeadsOn (routine_called program pos point place count s)
    routine_on place None s = tt
    routine_on place (Some count) s = operates_on (holds count here.stack) count (operation.routine place) s

    operation_on : (its : Option (ℕ × Operation)) (s : State) → LeadsOn (by_operation program pos point its s)
    operation_on None s = tt
    operation_on (Some its) s = operates_on (holds its.0 here.stack) its.0 its.1 s

    -- An operation inside a call leads to a point of that call, or ends the run.
    pub inside_moves : (its : Op) (stack : List Value) (s : State) → is_inside its ≡ true → LeadsOn (by_stack program pos point its stack s)
    inside_moves (op.Num bits) stack s is = on _
    inside_moves op.Nil stack s is = on _
    inside_moves (op.Address its) stack s is =
        after (λ value. onward point (value ∷ stack)) (λ value. on (value ∷ stack)) (address_at pos program.setting its s)
    inside_moves op.Drop [] s is = tt
    inside_moves op.Drop (value ∷ stack) s is = on stack
    inside_moves op.Dup [] s is = tt
    inside_moves op.Dup (value ∷ stack) s is = on _
    inside_moves op.Tuck [] s is = tt
    inside_moves op.Tuck (value ∷ []) s is = tt
    inside_moves op.Tuck (value ∷ under ∷ stack) s is = on _
    inside_moves (op.Jump target) stack s is = (target, stack, choices, refl)
    inside_moves (op.Zero target) [] s is = tt
    inside_moves (op.Zero target) (value ∷ stack) s is =
        after (λ bits. onto_if (bits == 0) point target stack) (λ bits. on_if (bits == 0) target stack) (used pos value s)
    inside_moves (op.Choose goal) [] s is = tt
    inside_moves (op.Choose goal) (value ∷ stack) s is =
        after (λ bits. onto point (case_for bits goal here.function.code.cases) stack)
        (λ bits. (case_for bits goal here.function.code.cases, stack, choices, refl)) (used pos value s)
    inside_moves (op.Shift place) stack s is =
        after (λ it. onward point stack) (λ it. on stack) (decided_by (slice_get program.setting.routines place) s)
    inside_moves (op.Routine place) stack s is = routine_on place (routine_arguments (slice_get program.setting.routines place)) s
    inside_moves (op.Call place) stack s is = absurd cc
    inside_moves op.Return stack s is = absurd cc
    inside_moves op.Turn stack s is = after (λ it. onward point stack) (λ it. on stack) (turn s)
    inside_moves op.Mark stack s is = on stack
    inside_moves (op.Pick target) stack s is = picked (next_choice choices) target stack (later_choices choices)
    inside_moves (op.Bring place) stack s is = on (brought place stack)
    inside_moves its stack s is = operation_on (operation_of its) s
