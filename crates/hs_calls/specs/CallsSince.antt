-- What a whole call may do to the blocks, from its begin on (own).
--     IsClosed program may          a function may do what its operations may, and what the functions may that it calls
--     HoldsOf here machine ws       the fact of a call: since it began, the blocks are as `Since` says, in the effects of its function
--     calls_since                   each step keeps it
-- Here a state byte that is put back counts as one that unlocks and marks, wherever it was read.
use Rattle.std.proofs.Common.{◌≡◌, ℕ, Bool, List, [], ◌∷◌, slice_get, Some, refl, sym, subst}
use Rattle.hs_base.specs.declared.pos.Pos.{Pos}
use Rattle.hs_calls.specs.Calls.{Here, Wait, point_of, beginning, resumed}
use Rattle.hs_calls.specs.Changing.{RanSince, since, since_steps, effects_of_op, effects_at, step_since}
use Rattle.hs_calls.specs.Inside.{InCall, inside_moves, ran_both, ran_so}
use Rattle.hs_calls.specs.Stacks.{RanTo, Stack, Stays, Rules, Goes, steps}
use Rattle.hs_code.specs.declared.function_code.Placed.{Placed}
use Rattle.hs_code.specs.declared.op.Op.TheVariants as op
use Rattle.hs_code_run.specs.Codes.{CodeFunction, CodeProgram, Point}
use Rattle.hs_code_run.specs.Laws.Changes.{RanKeeps}
use Rattle.hs_code_run.specs.Steps.{stepped, stepped_at, by_stack, taken}
use Rattle.hs_meaning.specs.Frames.{opened, closed}
use Rattle.hs_meaning.specs.Laws.Changes as changes
use Rattle.hs_meaning.specs.Laws.Changes.Calls.{opened_keeps, closed_keeps}
use Rattle.hs_meaning.specs.Machine.{Machine, Done, done, stopped}
use Rattle.hs_meaning.specs.Steps.{State, Ran, went, over, acts, ran_at}
use Rattle.hs_meaning.specs.Values.{Value}
use Rattle.hs_meaning.specs.declared.outcome.Outcome.{Outcome}
use Rattle.hs_sound_heap.specs.Since.{May, IsWithin, Since, since_trans, since_more}

-- what functions may do, by their numbers, is closed under their operations and their calls
pub record IsClosed (program : CodeProgram) (may : ℕ → May) : Type 0 where
  pub own : (fn : ℕ) (function : CodeFunction) → slice_get program.functions fn ≡ Some function → (at : ℕ) (its : Placed)
      → slice_get function.code.ops at ≡ Some its → IsWithin (effects_of_op program its.op) (may fn)
  pub called : (fn : ℕ) (function : CodeFunction) → slice_get program.functions fn ≡ Some function → (at : ℕ) (its : Placed)
      → slice_get function.code.ops at ≡ Some its → (other : ℕ) → its.op ≡ op.Call other → IsWithin (may other) (may fn)

module _ (program : CodeProgram) (may : ℕ → May) where
  -- since the call began
  abbrev pub SinceCall : Here → Machine → List Wait → Type 0
  SinceCall here machine [] = Unit {0}
  SinceCall here machine (w ∷ ws) = (here.fn ≡ w.called) × Since (may here.fn) w.machine.blocks machine.blocks

  -- its function is that of its number
  abbrev pub HoldsOf : Here → Machine → List Wait → Type 0
  HoldsOf here machine ws = (slice_get program.functions here.fn ≡ Some here.function) × SinceCall here machine ws

  -- of how a run ends nothing is said
  abbrev pub AnyEnd : Outcome → State → Type 0
  AnyEnd outcome t = Unit {0}

  -- ---- the rules

  -- what a step of which the relation speaks leaves
  ran_blocks : {A : Type 0} → (all : May) (s : State) (r : Ran A) → RanKeeps (since_steps all) s r
      → RanTo AnyEnd (λ it t. Since all s.machine.blocks t.machine.blocks) r
  ran_blocks all s (went it t) is = is.machine
  ran_blocks all s (over outcome t) is = tt

  -- the blocks after an operation of the function
  blocks_within : (closed_may : IsClosed program may) (here : Here) (ws : List Wait) (choices : List Bool) (its : Placed) (s : State)
      → slice_get program.functions here.fn ≡ Some here.function → slice_get here.function.code.ops here.at ≡ Some its
      → RanTo AnyEnd (λ next t. Since (may here.fn) s.machine.blocks t.machine.blocks)
      (by_stack program its.at (point_of here ws choices) its.op here.stack s)
  blocks_within closed_may here ws choices its s found there =
      ran_blocks (may here.fn) s (by_stack program its.at (point_of here ws choices) its.op here.stack s)
      (subst (λ placed. RanSince (may here.fn) s (stepped_at program (point_of here ws choices) placed s)) there
      (step_since (may here.fn) program (point_of here ws choices) s
      (subst (λ placed. IsWithin (effects_at program placed) (may here.fn)) (sym there)
      (closed_may.own here.fn here.function found here.at its there))))

  -- of a call that goes on
  stays_so : (here : Here) (ws : List Wait) (choices : List Bool) (s : State) (next : Point) (t : State) → HoldsOf here s.machine ws
      → InCall here ws next → Since (may here.fn) s.machine.blocks t.machine.blocks → Stays program HoldsOf AnyEnd here s.machine ws next t
  stays_so here ws choices s next t holds is blocks = (is.0, is.1, is.2, is.3, (holds.0, later ws holds.1))
    where
      later : (ws : List Wait) → SinceCall here s.machine ws → SinceCall here t.machine ws
      later [] so = tt
      later (w ∷ ws) so = (so.0, since_trans (may here.fn) w.machine.blocks s.machine.blocks t.machine.blocks so.1 blocks)

  -- the fact of the call that goes on
  first_of : (here : Here) (machine : Machine) (ws : List Wait) → Stack program HoldsOf AnyEnd here machine ws → HoldsOf here machine ws
  first_of here machine [] stack = stack
  first_of here machine (w ∷ ws) stack = stack.0

  -- what an act of the machine leaves
  act_blocks : {A : Type 0} → (all : May) (pos : Pos) (s : State) (its : Done A) → changes.Keeps (since all) s.machine its
      → RanTo AnyEnd (λ it t. Since all s.machine.blocks t.machine.blocks) (ran_at pos s its)
  act_blocks all pos s (done it machine) is = is
  act_blocks all pos s (stopped why machine) is = tt

  module _ (closed_may : IsClosed program may) where
    -- a call that waited goes on
    returns_so : (here : Here) (w : Wait) (ws : List Wait) (value : Value) (machine : Machine) → Stack program HoldsOf AnyEnd here machine (w ∷ ws)
        → HoldsOf (resumed w value here.lasting) (closed w.machine.locals machine) ws
    returns_so here w ws value machine stack = (before.0, by_waiting ws before.1)
      where
        before : HoldsOf w.here w.machine ws
        before = first_of w.here w.machine ws stack.2

        -- the function that returns, and the end of its call
        wider : IsWithin (may here.fn) (may w.here.fn)
        wider =
            subst (λ fn. IsWithin (may fn) (may w.here.fn)) (sym stack.0.1.0)
            (closed_may.called w.here.fn w.here.function before.0 w.here.at stack.1.its stack.1.there w.called stack.1.calls)

        over_call : Since (may w.here.fn) w.machine.blocks (closed w.machine.locals machine).blocks
        over_call =
            since_trans (may w.here.fn) w.machine.blocks machine.blocks (closed w.machine.locals machine).blocks
            (since_more (may here.fn) (may w.here.fn) w.machine.blocks machine.blocks wider stack.0.1.1)
            (closed_keeps (since (may w.here.fn)) w.machine.locals machine)

        by_waiting : (ws : List Wait) → SinceCall w.here w.machine ws
            → SinceCall (resumed w value here.lasting) (closed w.machine.locals machine) ws
        by_waiting [] so = tt
        by_waiting (v ∷ vs) so = (
          so.0,
          since_trans (may w.here.fn) v.machine.blocks w.machine.blocks (closed w.machine.locals machine).blocks so.1 over_call,
        )

    pub rules : Rules program HoldsOf AnyEnd
    rules =
        record {
          within = λ here ws choices its s there inside stack.
              let holds : HoldsOf here s.machine ws = first_of here s.machine ws stack in
              ran_so AnyEnd (λ next t. InCall here ws next × Since (may here.fn) s.machine.blocks t.machine.blocks)
              (Stays program HoldsOf AnyEnd here s.machine ws) (by_stack program its.at (point_of here ws choices) its.op here.stack s)
              (λ next t is. stays_so here ws choices s next t holds is.0 is.1)
              (ran_both AnyEnd (λ next t. InCall here ws next) (λ next t. Since (may here.fn) s.machine.blocks t.machine.blocks)
              (by_stack program its.at (point_of here ws choices) its.op here.stack s)
              (inside_moves here ws program its.at choices its.op here.stack s inside)
              (blocks_within closed_may here ws choices its s holds.0 there));
          entered = λ here ws its fn function s waits stack.
              ran_so AnyEnd (λ it t. Since (may fn) s.machine.blocks t.machine.blocks)
              (λ it t. HoldsOf (beginning fn function s.machine) t.machine
              (record { here = here; machine = s.machine; called = fn; callee = function } ∷ ws))
              (acts its.at (opened program.setting function.parameters function.variables (taken function.parameters here.stack)) s)
              (λ it t is. (waits.callee, (refl, is)))
              (act_blocks (may fn) its.at s (opened program.setting function.parameters function.variables (taken function.parameters here.stack) s.machine)
              (opened_keeps (since (may fn)) program.setting function.parameters function.variables (taken function.parameters here.stack) s.machine));
          returned = λ here w ws its value rest machine there is values stack. returns_so here w ws value machine stack;
          ends = λ outcome s. tt;
        }

    -- A step keeps what holds of the calls: since each of them began, the blocks are as the effects of its function say.
    pub calls_since : (here : Here) (ws : List Wait) (choices : List Bool) (s : State) → Stack program HoldsOf AnyEnd here s.machine ws
        → RanTo AnyEnd (Goes program HoldsOf AnyEnd) (stepped program (point_of here ws choices) s)
    calls_since = steps program HoldsOf AnyEnd rules
