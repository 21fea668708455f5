-- Arguments, decisions and calls: the code beside the meaning (own).
--     onto values stack              values above a stack, the last one on top
--     AreAsMany count values         so many
--     decided_turns, bound_turns     the decision of a routine, and of one to which a function is bound
--     routine_turns                  Routine, with its arguments on the stack
--     Calls again                    what is asked of calls of functions: the code performs the job
use Rattle.std.proofs.Common.{◌≡◌, ℕ, zero, suc, Bool, true, false, ◌||◌, List, [], ◌∷◌, ◌++◌, slice_get, Option, Some, None, refl, sym, ap, ◌∙◌, append-nil}
use Rattle.hs_code.specs.declared.function_code.FunctionCode.{FunctionCode}
use Rattle.hs_code.specs.declared.function_code.Placed.{Placed}
use Rattle.hs_code.specs.declared.op.Op.TheVariants as op
use Rattle.hs_code_run.specs.Codes.{CodeFunction, CodeProgram, Waiting, Point}
use Rattle.hs_code_run.specs.Steps.{taken_onto, taken, below, holds, operates_if, routine_called, routine_arguments, by_stack}
use Rattle.hs_heap.specs.Shift.{Powers}
use Rattle.hs_lowering.specs.Lowering.{Lowered, takes_decision, only, decided_if, decided_code, bound_code}
use Rattle.hs_lowering.specs.Laws.Operations.{point, Turning, perform_stays}
use Rattle.hs_lowering.specs.Performing.{Any, IsAt, Stays, Performs, Turns, same_turns, gives, only_turns, still_at}
use Rattle.hs_lowering.specs.Laws.Variables.{slots_of_same}
use Rattle.hs_meaning.specs.Evaluation.{Flow, Job, call_of, decided_by, bound_to, powers_of, returned_value}
use Rattle.hs_meaning.specs.Operations as operation
use Rattle.hs_meaning.specs.Steps.{State, went, Step, ◌>>=◌, then_with, give, either, acts, perform, decided, after_decision}
use Rattle.hs_meaning.specs.Values.{Value}
use Rattle.hs_tree.specs.declared.function.BoundRoutine.{BoundRoutine}
use Rattle.hs_tree.specs.declared.head.Head.{Head}
use Rattle.hs_tree.specs.declared.head.VariableDecl.{VariableDecl}

-- ---- values on a stack

-- the first one is the lowest
abbrev pub onto : List Value → List Value → List Value
onto [] stack = stack
onto (value ∷ values) stack = onto values (value ∷ stack)

-- so many
abbrev pub AreAsMany : ℕ → List Value → Type 0
AreAsMany zero [] = Unit {0}
AreAsMany zero (value ∷ values) = ⊥
AreAsMany (suc count) [] = ⊥
AreAsMany (suc count) (value ∷ values) = AreAsMany count values

-- so many more
counted : List Value → ℕ → ℕ
counted [] more = more
counted (value ∷ values) more = counted values (suc more)

counted_suc : (values : List Value) (more : ℕ) → counted values (suc more) ≡ suc (counted values more)
unfolding counted
counted_suc [] more = refl
counted_suc (value ∷ values) more = counted_suc values (suc more)

as_counted : (count : ℕ) (values : List Value) → AreAsMany count values → count ≡ counted values 0
unfolding counted
as_counted zero [] are = refl
as_counted zero (value ∷ values) are = absurd are
as_counted (suc count) [] are = absurd are
as_counted (suc count) (value ∷ values) are = ap suc (as_counted count values are) ∙ sym (counted_suc values 0)

holds_onto : (values : List Value) (more : ℕ) (stack : List Value) → holds (counted values more) (onto values stack) ≡ holds more stack
unfolding counted
holds_onto [] more stack = refl
holds_onto (value ∷ values) more stack = holds_onto values (suc more) (value ∷ stack)

below_onto : (values : List Value) (more : ℕ) (stack : List Value) → below (counted values more) (onto values stack) ≡ below more stack
unfolding counted
below_onto [] more stack = refl
below_onto (value ∷ values) more stack = below_onto values (suc more) (value ∷ stack)

taken_from : (values : List Value) (more : ℕ) (stack done : List Value)
    → taken_onto (counted values more) (onto values stack) done ≡ taken_onto more stack (values ++ done)
unfolding counted
taken_from [] more stack done = refl
taken_from (value ∷ values) more stack done = taken_from values (suc more) (value ∷ stack) done

-- they are there, they are taken in their order, and the rest is below them
pub as_many_hold : (count : ℕ) (values stack : List Value) → AreAsMany count values → holds count (onto values stack) ≡ true
as_many_hold count values stack are = ap (λ n. holds n (onto values stack)) (as_counted count values are) ∙ holds_onto values 0 stack

pub as_many_below : (count : ℕ) (values stack : List Value) → AreAsMany count values → below count (onto values stack) ≡ stack
as_many_below count values stack are = ap (λ n. below n (onto values stack)) (as_counted count values are) ∙ below_onto values 0 stack

pub as_many_taken : (count : ℕ) (values stack : List Value) → AreAsMany count values → taken count (onto values stack) ≡ values
as_many_taken count values stack are =
    ap (λ n. taken n (onto values stack)) (as_counted count values are) ∙ taken_from values 0 stack [] ∙ append-nil values

-- ---- decisions

-- a routine that does not take one
takes_none : (it : Option BoundRoutine) → takes_decision it ≡ false → (s : State) → decided_by it s ≡ went tt s
takes_none None is s = refl
takes_none (Some it) is s = ap (λ b. either b (decided (powers_of it)) (give tt) s) is

module _ (program : CodeProgram) (variables : List VariableDecl) (bound : ℕ) (code : FunctionCode) (waiting : List Waiting) (choices : List Bool)
    (piece : ℕ) (head : Head) where
  -- a step that the code performs
  abbrev Turning' : Lowered → {A : Type 0} → (A → Type 0) → Step A → List Value → (A → List Value) → Type 0
  Turning' its fact first stack left = Turning program variables bound code waiting choices piece its fact first stack left

  -- no operations
  nothing_turns : (stack : List Value) → Turning' (λ start depth. []) {A = Unit {0}} Any (give tt) stack (λ it. stack)
  nothing_turns stack =
      record {
        go = λ start depth holds.
            gives program variables bound code waiting choices Any tt
            (λ (it : Unit {0}). point program variables bound code waiting choices piece start stack) tt;
      }

  after_decides : (powers : Powers) (s : State) → IsAt program variables bound s → IsAt program variables bound (after_decision powers s)
  after_decides powers s is = record { slots = still.slots; few = is.few }
    where
      still : IsAt program variables bound (record s { machine = (after_decision powers s).machine })
      still =
          still_at program variables bound s (after_decision powers s).machine is
          (slots_of_same s.machine (after_decision powers s).machine (refl, refl))

  decided_stays : (it : Option BoundRoutine) (s : State) → IsAt program variables bound s
      → Stays program variables bound code waiting choices Any (decided_by it s)
  decided_stays None s is = (tt, is)
  decided_stays (Some it) s is = by (it.routine.moves || it.routine.purges)
    where
      by : (b : Bool) → Stays program variables bound code waiting choices Any (either b (decided (powers_of it)) (give tt) s)
      by true = (tt, after_decides (powers_of it) s is)
      by false = (tt, is)

  -- the decision of a routine, if it takes one
  pub decided_turns : (place : ℕ) (stack : List Value) → Turning' (decided_code program.setting variables piece head place) Any
      (decided_by (slice_get program.setting.routines place)) stack (λ it. stack)
  decided_turns place stack = by (takes_decision (slice_get program.setting.routines place)) refl
    where
      by : (b : Bool) → takes_decision (slice_get program.setting.routines place) ≡ b
          → Turning' (decided_if piece b head place) Any (decided_by (slice_get program.setting.routines place)) stack (λ it. stack)
      by true is =
          only_turns program variables bound code waiting choices piece head (op.Shift place) (decided_by (slice_get program.setting.routines place))
          stack (λ it. stack) (λ at s. refl) (λ s at. decided_stays (slice_get program.setting.routines place) s at)
      by false is =
          same_turns program variables bound code waiting choices (λ s at. takes_none (slice_get program.setting.routines place) is s)
          (nothing_turns stack)

  -- and of the routine to which a function is bound
  pub bound_turns : (routine : Option ℕ) (stack : List Value) → Turning' (bound_code program.setting variables piece head routine) Any
      (decided_by (bound_to program.setting routine)) stack (λ it. stack)
  bound_turns None stack = nothing_turns stack
  bound_turns (Some place) stack = decided_turns place stack

  -- ---- routines

  -- the routine is declared with so many parameters
  pub routine_turns : (place count : ℕ) (values stack : List Value) → routine_arguments (slice_get program.setting.routines place) ≡ Some count
      → AreAsMany count values → Turning' (only piece head (op.Routine place)) Any
      (perform program.setting head.at.pos (operation.routine place) values) (onto values stack) (λ v. v ∷ stack)
  routine_turns place count values stack declared are =
      only_turns program variables bound code waiting choices piece head (op.Routine place)
      (perform program.setting head.at.pos (operation.routine place) values) (onto values stack) (λ v. v ∷ stack) runs
      (perform_stays program variables bound code waiting choices piece head.at.pos (operation.routine place) values refl)
    where
      here : ℕ → List Value → Point
      here = point program variables bound code waiting choices piece

      runs : (at : ℕ) (s : State) → by_stack program head.at.pos (here at (onto values stack)) (op.Routine place) (onto values stack) s
          ≡ then_with (λ v. give (here (suc at) (v ∷ stack))) (perform program.setting head.at.pos (operation.routine place) values s)
      runs at s =
          ap (λ found. routine_called program head.at.pos (here at (onto values stack)) place found s) declared
          ∙ ap (λ b. operates_if program head.at.pos (here at (onto values stack)) b count (operation.routine place) s)
          (as_many_hold count values stack are)
          ∙ ap (λ its. then_with (λ v. give (here (suc at) (v ∷ below count (onto values stack))))
          (perform program.setting head.at.pos (operation.routine place) its s)) (as_many_taken count values stack are)
          ∙ ap (λ rest. then_with (λ v. give (here (suc at) (v ∷ rest))) (perform program.setting head.at.pos (operation.routine place) values s))
          (as_many_below count values stack are)

-- ---- functions

-- A call of a function is a job. The code from its Call on performs the job, if the function is there and has as many parameters as there are
-- arguments on the stack.
pub record Calls (program : CodeProgram) (variables : List VariableDecl) (bound : ℕ) (code : FunctionCode) (waiting : List Waiting)
    (choices : List Bool) (again : Job → Step Flow) : Type 0 where
  pub go : (at place : ℕ) (its : Placed) (function : CodeFunction) (values stack : List Value) → slice_get code.ops at ≡ Some its
      → its.op ≡ op.Call place → slice_get program.functions place ≡ Some function → AreAsMany function.parameters values
      → Performs program variables bound code waiting choices Any
      (again (call_of place values its.at) >>= (λ flow. acts its.at (returned_value flow)))
      (Rattle.hs_lowering.specs.Performing.at_point program variables bound code waiting choices at (onto values stack))
      (λ v. Rattle.hs_lowering.specs.Performing.at_point program variables bound code waiting choices (suc at) (v ∷ stack))
