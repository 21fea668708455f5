-- Must facts are true of every run (own).
--     IsTrueHere                the must facts that hold before the next operation of a call are true
--     AreTrue                   so it is of the call that goes on, and of each one that waits
--     must_facts_are_true       wherever a run comes
--     DidNoMore, effects_are_true      since a call began, it did no more than its function may
use Rattle.std.proofs.Common.{◌≡◌, ℕ, Bool, false, List, [], ◌∷◌, Some, sym, ap, ◌∙◌, subst, arith, slice_get}
use Rattle.hs_calls.specs.Calls.{Here, Wait}
use Rattle.hs_calls.specs.Stacks.{RanTo, Stack, Goes}
use Rattle.hs_code.specs.Codes.{IsCode}
use Rattle.hs_code_run.specs.Codes.{scope_of, Point, CodeFunction}
use Rattle.hs_code_run.specs.Runs.{begun}
use Rattle.hs_code_run.specs.Steps.{stepped}
use Rattle.hs_effects.specs.Answers.{Answers, IsExact}
use Rattle.hs_facts.specs.Effects.{WholeCode, impact_of}
use Rattle.hs_facts.specs.Rounds.{Holds, HoldsIn}
use Rattle.hs_heap.specs.declared.decision.Decision.{Decision}
use Rattle.hs_kinds.specs.Points.{IsTypedCode}
use Rattle.hs_kinds.specs.Starts.{code_is_typed, run_begins}
use Rattle.hs_meaning.specs.Machine.{Machine}
use Rattle.hs_meaning.specs.Runs.{starting}
use Rattle.hs_meaning.specs.Steps.{State, went}
use Rattle.hs_meaning.specs.declared.input.Input.{Input}
use Rattle.hs_meaning.specs.declared.outcome.Outcome.{Outcome}
use Rattle.hs_sound_heap.specs.Since.{Since}
use Rattle.hs_still.specs.Runs as reach
use Rattle.hs_still.specs.Runs.{Reaches}
use Rattle.hs_tree.specs.Fitting.{Fits}
use Rattle.hs_true.specs.Exact.{program, exact_told, sets_of, may_of}
use Rattle.hs_true.specs.Facts.{fact_begins, Fact, fact_steps}
use Rattle.hs_truth.specs.Linked.{since_of}
use Rattle.hs_truth.specs.Truth.{fewer, AllTrue}

module _ (whole : WholeCode) (answers : Answers) (exact : IsExact whole answers) (are : IsCode whole.program whole.classes whole.functions) where
  -- The must facts that hold before the next operation of a call are true of the call and of the machine. `since_of` is what a purgeable bit of a state
  -- byte shows of the begin of the call.
  abbrev pub IsTrueHere : Here → Machine → List Wait → Type 0
  IsTrueHere here machine ws =
      AllTrue (Holds (scope_of (program whole answers exact are) here.function) here.function.code (impact_of whole) here.at) here machine
      (since_of (may_of whole answers exact are) (sets_of whole answers exact are) here.fn ws)

  -- of the call that goes on, and of each call that waits as of its call
  abbrev pub AreTrue : Point → State → Type 0
  AreTrue = Goes (program whole answers exact are) IsTrueHere (λ outcome s. Unit {0})

  -- Since a call began, the blocks are as its effects say, and a global that it does not assign has the binding that it had.
  abbrev pub DidNoMore : Here → Machine → List Wait → Type 0
  DidNoMore here machine [] = Unit {0}
  DidNoMore here machine (w ∷ ws) =
      Since (may_of whole answers exact are here.fn) w.machine.blocks machine.blocks
      × ((g : ℕ) → sets_of whole answers exact are here.fn g ≡ false → slice_get machine.globals g ≡ slice_get w.machine.globals g)

  -- each call
  abbrev pub DidNoMoreAt : Point → State → Type 0
  DidNoMoreAt = Goes (program whole answers exact are) DidNoMore (λ outcome s. Unit {0})

module _ (whole : WholeCode) (answers : Answers) (exact : IsExact whole answers) (are : IsCode whole.program whole.classes whole.functions)
    (fits : Fits whole.program) where
  typed : IsTypedCode (program whole answers exact are)
  typed = code_is_typed whole.program whole.classes whole.functions are fits

  -- what holds of each call
  abbrev Known : Here → Machine → List Wait → Type 0
  Known =
      Fact (program whole answers exact are) typed (may_of whole answers exact are) (sets_of whole answers exact are) (impact_of whole)
      (exact_told whole answers exact are)

  -- of how a run ends nothing is said
  abbrev Ended : Outcome → State → Type 0
  Ended outcome s = Unit {0}

  true_of : (here : Here) (machine : Machine) (ws : List Wait) → Known here machine ws → IsTrueHere whole answers exact are here machine ws
  true_of here machine ws known =
      fewer (HoldsIn (scope_of (program whole answers exact are) here.function) here.function.code (impact_of whole) known.good.round here.at)
      (Holds (scope_of (program whole answers exact are) here.function) here.function.code (impact_of whole) here.at) here machine
      (since_of (may_of whole answers exact are) (sets_of whole answers exact are) here.fn ws) (λ fact holds. holds known.good.round)
      (known.good.facts known.good.round (omega arith))

  all_true : (here : Here) (machine : Machine) (ws : List Wait) → Stack (program whole answers exact are) Known Ended here machine ws
      → Stack (program whole answers exact are) (IsTrueHere whole answers exact are) Ended here machine ws
  all_true here machine [] known = true_of here machine [] known
  all_true here machine (w ∷ ws) known = (true_of here machine (w ∷ ws) known.0, known.1, all_true w.here w.machine ws known.2)

  goes_true : (point : Point) (s : State) → Goes (program whole answers exact are) Known Ended point s → AreTrue whole answers exact are point s
  goes_true point s is = (is.0, is.1, is.2, is.3, all_true is.0 s.machine is.1 is.4)

  known_step : (point next : Point) (s t : State) → Goes (program whole answers exact are) Known Ended point s
      → stepped (program whole answers exact are) point s ≡ went next t → Goes (program whole answers exact are) Known Ended next t
  known_step point next s t is steps_to =
      subst (RanTo Ended (Goes (program whole answers exact are) Known Ended))
      (ap (λ p. stepped (program whole answers exact are) p s) (sym is.3) ∙ steps_to)
      (fact_steps (program whole answers exact are) typed (may_of whole answers exact are) (sets_of whole answers exact are) (impact_of whole)
      (exact_told whole answers exact are) is.0 is.1 is.2 s is.4)

  reached_so : (point next : Point) (s t : State) → Reaches (program whole answers exact are) point s next t
      → Goes (program whole answers exact are) Known Ended point s → Goes (program whole answers exact are) Known Ended next t
  reached_so _ _ _ _ (reach.here point s) is = is
  reached_so _ _ _ _ (reach.later point next last s t u steps_to rest) is =
      reached_so next last t u rest (known_step point next s t is steps_to)

  known_at : (input : Input) (schedule : List Decision) (turns : ℕ) (choices : List Bool) (function : CodeFunction)
      → slice_get (program whole answers exact are).functions (program whole answers exact are).main ≡ Some function
      → (point next : Point) (s t : State)
      → begun (program whole answers exact are) choices function (starting (program whole answers exact are).setting input schedule turns) ≡ went point s
      → Reaches (program whole answers exact are) point s next t → Goes (program whole answers exact are) Known Ended next t
  known_at input schedule turns choices function found point next s t begins reaches =
      reached_so point next s t reaches
      (subst (RanTo Ended (Goes (program whole answers exact are) Known Ended)) begins
      (fact_begins (program whole answers exact are) typed (may_of whole answers exact are) (sets_of whole answers exact are) (impact_of whole)
      (exact_told whole answers exact are) input schedule turns choices function found
      (run_begins whole.program whole.classes whole.functions are fits choices input schedule turns function found)))

  -- The must facts that hold before an operation are true whenever a run comes to it: of the call that goes on, and of each call that waits.
  pub must_facts_are_true : (input : Input) (schedule : List Decision) (turns : ℕ) (choices : List Bool) (function : CodeFunction)
      → slice_get (program whole answers exact are).functions (program whole answers exact are).main ≡ Some function
      → (point next : Point) (s t : State)
      → begun (program whole answers exact are) choices function (starting (program whole answers exact are).setting input schedule turns) ≡ went point s
      → Reaches (program whole answers exact are) point s next t → AreTrue whole answers exact are next t
  must_facts_are_true input schedule turns choices function found point next s t begins reaches =
      goes_true next t (known_at input schedule turns choices function found point next s t begins reaches)

  -- What the table of effects denies did not happen: since each call of a run began, it did no more than its function may.
  pub effects_are_true : (input : Input) (schedule : List Decision) (turns : ℕ) (choices : List Bool) (function : CodeFunction)
      → slice_get (program whole answers exact are).functions (program whole answers exact are).main ≡ Some function
      → (point next : Point) (s t : State)
      → begun (program whole answers exact are) choices function (starting (program whole answers exact are).setting input schedule turns) ≡ went point s
      → Reaches (program whole answers exact are) point s next t → DidNoMoreAt whole answers exact are next t
  effects_are_true input schedule turns choices function found point next s t begins reaches =
      on (known_at input schedule turns choices function found point next s t begins reaches)
    where
      no_more : (here : Here) (machine : Machine) (ws : List Wait) → Known here machine ws → DidNoMore whole answers exact are here machine ws
      no_more here machine [] known = tt
      no_more here machine (w ∷ ws) known = (known.good.linked.heap, known.good.linked.globals)

      all_no_more : (here : Here) (machine : Machine) (ws : List Wait) → Stack (program whole answers exact are) Known Ended here machine ws
          → Stack (program whole answers exact are) (DidNoMore whole answers exact are) Ended here machine ws
      all_no_more here machine [] known = no_more here machine [] known
      all_no_more here machine (w ∷ ws) known = (no_more here machine (w ∷ ws) known.0, known.1, all_no_more w.here w.machine ws known.2)

      on : Goes (program whole answers exact are) Known Ended next t → DidNoMoreAt whole answers exact are next t
      on is = (is.0, is.1, is.2, is.3, all_no_more is.0 t.machine is.1 is.4)
