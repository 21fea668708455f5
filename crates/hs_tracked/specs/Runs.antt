-- Wherever a run comes, all values of its calls are tracked (own).
--     IsTrackedCall               what holds of each call: what is known of it, what is followed, and the kinds of its variables
--     call_steps, main_call       a step keeps it, and a run begins with such a call
--     AreTrackedAt                the values of the call that goes on are tracked, and those of each call that waits, as of then
--     values_are_tracked          wherever a run comes
use Rattle.std.proofs.Common.{◌≡◌, ℕ, Bool, true, List, [], ◌∷◌, length, slice_get, Some, refl, sym, ap, ◌∙◌, subst}
use Rattle.hs_calls.specs.Calls.{Here, IsWait, Wait, beginning, lasts_to, moved, point_of, resumed}
use Rattle.hs_calls.specs.Stacks as calls
use Rattle.hs_calls.specs.Stacks.{Goes, RanTo, Rules, Stack, Stays, is_inside}
use Rattle.hs_chains.specs.Knowledge.{IsKnowledge, Knowledge}
use Rattle.hs_code.specs.Codes.{IsCode}
use Rattle.hs_code.specs.declared.function_code.Placed.{Placed}
use Rattle.hs_code.specs.declared.op.Op.TheVariants as op
use Rattle.hs_code_run.specs.Codes.{CodeFunction, Frame, Point}
use Rattle.hs_code_run.specs.Runs.{begun, starting_point}
use Rattle.hs_code_run.specs.Steps.{by_stack, stepped, taken}
use Rattle.hs_effects.specs.Answers.{Answers, IsExact}
use Rattle.hs_facts.specs.Effects.{WholeCode, impact_of}
use Rattle.hs_heap.specs.declared.decision.Decision.{Decision}
use Rattle.hs_hiding.specs.Holding.{OnDone}
use Rattle.hs_kinds.specs.Points.{IsKindPoint}
use Rattle.hs_kinds.specs.Starts.{run_begins}
use Rattle.hs_kinds.specs.Steps as steps
use Rattle.hs_meaning.specs.Classes.{classes_of}
use Rattle.hs_meaning.specs.Frames.{closed, opened}
use Rattle.hs_meaning.specs.Machine.{Done, Machine, done, stopped}
use Rattle.hs_meaning.specs.Objects.{starting_machine}
use Rattle.hs_meaning.specs.Runs.{starting}
use Rattle.hs_meaning.specs.Steps.{Ran, State, acts, give, over, ran_at, then_with, went}
use Rattle.hs_meaning.specs.Values.{Value}
use Rattle.hs_meaning.specs.declared.input.Input.{Input}
use Rattle.hs_still.specs.Runs as reach
use Rattle.hs_still.specs.Runs.{Reaches}
use Rattle.hs_tracked.specs.Bytes.{AreBytesTracked}
use Rattle.hs_tracked.specs.Kinds.{IsOfKinds, entered_kinds, fit_kinds, main_kinds, returned_kinds, within_kinds}
use Rattle.hs_tracked.specs.Restorable.{AreListed}
use Rattle.hs_tracked.specs.Standing.{IsKnown, its_function, typed}
use Rattle.hs_tracked.specs.Starting.{main_begun}
use Rattle.hs_tracked.specs.Stepping.{AnyEnd, AreFollowed, entered_followed, returned_followed, within_followed}
use Rattle.hs_tracked.specs.Tracking.{AreTracked}
use Rattle.hs_tree.specs.Fitting.{Fits}
use Rattle.hs_true.specs.Exact.{exact_told, may_of, program, sets_of}
use Rattle.hs_true.specs.Facts as facts
use Rattle.hs_truth.specs.Good.{Good}
use Rattle.hs_truth.specs.Starting.{begun_good}

-- ---- what holds of the calls of a stack, from what holds of them

module _ (whole : WholeCode) (answers : Answers) (exact : IsExact whole answers) (are : IsCode whole.program whole.classes whole.functions) where
  pub each_call : (P Q : Here → Machine → List Wait → Type 0) → ((here : Here) (machine : Machine) (ws : List Wait) → P here machine ws → Q here machine ws)
      → (here : Here) (machine : Machine) (ws : List Wait) → Stack (program whole answers exact are) P AnyEnd here machine ws
      → Stack (program whole answers exact are) Q AnyEnd here machine ws
  each_call P Q each here machine [] is = each here machine [] is
  each_call P Q each here machine (w ∷ ws) is = (each here machine (w ∷ ws) is.0, is.1, each_call P Q each w.here w.machine ws is.2)

  pub first_call : (P : Here → Machine → List Wait → Type 0) (here : Here) (machine : Machine) (ws : List Wait)
      → Stack (program whole answers exact are) P AnyEnd here machine ws → P here machine ws
  first_call P here machine [] is = is
  first_call P here machine (w ∷ ws) is = is.0

module _ (whole : WholeCode) (known : Knowledge) (knowledge : IsKnowledge whole known) (answers : Answers) (exact : IsExact whole answers)
    (are : IsCode whole.program whole.classes whole.functions) (fits : Fits whole.program) (classes : whole.classes ≡ classes_of whole.program) where
  -- What holds of each call of a run.
  pub record IsTrackedCall (here : Here) (machine : Machine) (ws : List Wait) : Type 0 where
    pub fact : IsKnown whole answers exact are fits here machine ws
    pub followed : AreFollowed whole known here machine ws
    pub kinds : IsOfKinds whole are fits here machine ws

  -- the calls of a run
  abbrev AreCalls : Here → Machine → List Wait → Type 0
  AreCalls = Stack (program whole answers exact are) IsTrackedCall AnyEnd

  facts_of : (here : Here) (machine : Machine) (ws : List Wait) → AreCalls here machine ws
      → Stack (program whole answers exact are) (IsKnown whole answers exact are fits) AnyEnd here machine ws
  facts_of = each_call whole answers exact are IsTrackedCall (IsKnown whole answers exact are fits) (λ here machine ws is. is.fact)

  top_of : (here : Here) (machine : Machine) (ws : List Wait) → AreCalls here machine ws → IsTrackedCall here machine ws
  top_of = first_call whole answers exact are IsTrackedCall

  -- the rules of what is known
  fact_rules : Rules (program whole answers exact are) (IsKnown whole answers exact are fits) AnyEnd
  fact_rules =
      facts.rules (program whole answers exact are) (typed whole answers exact are fits) (may_of whole answers exact are) (sets_of whole answers exact are)
      (impact_of whole) (exact_told whole answers exact are)

  -- ---- an operation inside a call

  module _ (here : Here) (ws : List Wait) (s : State) where
    -- kinds, wherever the call goes on
    abbrev KindsGo : Point → State → Type 0
    KindsGo next t =
        (at : ℕ) (stack : List Value) (lasting : ℕ → Bool) (later : List Bool) → next ≡ point_of (moved here at stack lasting) ws later
        → IsOfKinds whole are fits (moved here at stack lasting) t.machine ws

    all_go : (r : Ran Point) → RanTo AnyEnd (Stays (program whole answers exact are) (IsKnown whole answers exact are fits) AnyEnd here s.machine ws) r
        → RanTo AnyEnd (Stays (program whole answers exact are) (AreFollowed whole known) AnyEnd here s.machine ws) r → RanTo AnyEnd KindsGo r
        → RanTo AnyEnd (Stays (program whole answers exact are) IsTrackedCall AnyEnd here s.machine ws) r
    all_go (over outcome t) fact followed kinds = tt
    all_go (went next t) fact followed kinds = (
      fact.0,
      fact.1,
      fact.2,
      fact.3,
      record {
        fact = fact.4;
        followed = subst (λ (f : Frame). AreFollowed whole known (moved here f.at f.stack (lasts_to here s.machine t.machine)) t.machine ws)
            (ap (λ (p : Point). p.frame) (sym followed.3 ∙ fact.3)) followed.4;
        kinds = kinds fact.0 fact.1 (lasts_to here s.machine t.machine) fact.2 fact.3;
      },
    )

  within : (here : Here) (ws : List Wait) (choices : List Bool) (its : Placed) (s : State) → slice_get here.function.code.ops here.at ≡ Some its
      → is_inside its.op ≡ true → AreCalls here s.machine ws
      → RanTo AnyEnd (Stays (program whole answers exact are) IsTrackedCall AnyEnd here s.machine ws)
      (by_stack (program whole answers exact are) its.at (point_of here ws choices) its.op here.stack s)
  within here ws choices its s there inside all =
      all_go here ws s (by_stack (program whole answers exact are) its.at (point_of here ws choices) its.op here.stack s)
      (fact_rules.within here ws choices its s there inside (facts_of here s.machine ws all))
      (within_followed whole known knowledge answers exact are fits classes here ws choices its s there now.fact now.followed
      (fit_kinds whole are fits here s.machine ws now.fact.good.found now.kinds
      (its_function whole answers exact are fits known knowledge here s.machine ws now.fact) (length whole.classes)) inside)
      (within_kinds whole are fits here ws choices its s there inside now.kinds)
    where
      now : IsTrackedCall here s.machine ws
      now = top_of here s.machine ws all

  -- ---- the begin of a call, and a return

  module _ (here : Here) (ws : List Wait) (fn : ℕ) (function : CodeFunction) (s : State) where
    -- the call that waits
    abbrev waiting : Wait
    waiting = record { here = here; machine = s.machine; called = fn; callee = function }

    all_begin : (r : Ran (Unit {0}))
        → RanTo AnyEnd (λ it t. IsKnown whole answers exact are fits (beginning fn function s.machine) t.machine (waiting ∷ ws)) r
        → RanTo AnyEnd (λ it t. AreFollowed whole known (beginning fn function s.machine) t.machine (waiting ∷ ws)) r
        → RanTo AnyEnd (λ it t. IsOfKinds whole are fits (beginning fn function s.machine) t.machine (waiting ∷ ws)) r
        → RanTo AnyEnd (λ it t. IsTrackedCall (beginning fn function s.machine) t.machine (waiting ∷ ws)) r
    all_begin (went it t) fact followed kinds = record { fact = fact; followed = followed; kinds = kinds }
    all_begin (over outcome t) fact followed kinds = tt

  entered : (here : Here) (ws : List Wait) (its : Placed) (fn : ℕ) (function : CodeFunction) (s : State)
      → IsWait (program whole answers exact are) (record { here = here; machine = s.machine; called = fn; callee = function })
      → AreCalls here s.machine ws
      → RanTo AnyEnd (λ it t. IsTrackedCall (beginning fn function s.machine) t.machine
      (record { here = here; machine = s.machine; called = fn; callee = function } ∷ ws))
      (acts its.at (opened (program whole answers exact are).setting function.parameters function.variables (taken function.parameters here.stack)) s)
  entered here ws its fn function s waits all =
      all_begin here ws fn function s
      (acts its.at (opened (program whole answers exact are).setting function.parameters function.variables (taken function.parameters here.stack)) s)
      (fact_rules.entered here ws its fn function s waits (facts_of here s.machine ws all))
      (entered_followed whole known knowledge answers exact are fits classes here ws fn function s waits now.fact now.followed its.at)
      (entered_kinds whole are fits here ws fn function s waits now.kinds its.at)
    where
      now : IsTrackedCall here s.machine ws
      now = top_of here s.machine ws all

  returned : (here : Here) (w : Wait) (ws : List Wait) (its : Placed) (value : Value) (rest : List Value) (machine : Machine)
      → slice_get here.function.code.ops here.at ≡ Some its → its.op ≡ op.Return → here.stack ≡ value ∷ rest → AreCalls here machine (w ∷ ws)
      → IsTrackedCall (resumed w value here.lasting) (closed w.machine.locals machine) ws
  returned here w ws its value rest machine there is so all =
      record {
        fact = fact_rules.returned here w ws its value rest machine there is so (facts_of here machine (w ∷ ws) all);
        followed = returned_followed whole known knowledge answers exact are fits classes here machine w ws all.1 all.0.fact waiting.fact all.0.followed
            waiting.followed its there is value rest so;
        kinds = returned_kinds whole are fits here w ws its value rest machine there is so all.0.kinds;
      }
    where
      waiting : IsTrackedCall w.here w.machine ws
      waiting = top_of w.here w.machine ws all.2

  -- ---- runs

  rules : Rules (program whole answers exact are) IsTrackedCall AnyEnd
  rules = record { within = within; entered = entered; returned = returned; ends = λ outcome s. tt }

  -- A step leads from such calls to such calls.
  pub call_steps : (here : Here) (ws : List Wait) (choices : List Bool) (s : State) → AreCalls here s.machine ws
      → RanTo AnyEnd (Goes (program whole answers exact are) IsTrackedCall AnyEnd) (stepped (program whole answers exact are) (point_of here ws choices) s)
  call_steps = calls.steps (program whole answers exact are) IsTrackedCall AnyEnd rules

  module _ (input : Input) (schedule : List Decision) (turns : ℕ) (choices : List Bool) (function : CodeFunction)
      (found : slice_get (program whole answers exact are).functions (program whole answers exact are).main ≡ Some function) where
    -- before `main` is called
    abbrev start : Machine
    start = starting_machine (program whole answers exact are).setting input

    -- what the begin of `main` does to the machine
    abbrev begin : Done (Unit {0})
    begin = opened (program whole answers exact are).setting function.parameters function.variables [] start

    -- A run begins with such a call.
    pub main_call : (now : Machine) → begin ≡ done (tt {0}) now → IsTrackedCall (beginning (program whole answers exact are).main function start) now []
    main_call now opens =
        record {
          fact = record {
            good = subst (OnDone (λ it m. Good (program whole answers exact are) (may_of whole answers exact are) (sets_of whole answers exact are)
                (impact_of whole) (beginning (program whole answers exact are).main function start) m [])) opens
                (begun_good (program whole answers exact are) (may_of whole answers exact are) (sets_of whole answers exact are) (impact_of whole) input
                function found);
            kinds = record { call = kinds.call; waiting = kinds.waiting; globals = kinds.globals };
          };
          followed = record { tracked = main_so.0; bytes = main_so.1; listed = main_so.2 };
          kinds = main_kinds whole are fits input schedule turns function start now found opens;
        }
      where
        kinds : steps.RanTo (IsKindPoint (program whole answers exact are))
            (then_with (λ it. give (starting_point function choices))
            (ran_at function.opening (starting (program whole answers exact are).setting input schedule turns) (done (tt {0}) now)))
        kinds =
            subst (λ r. steps.RanTo (IsKindPoint (program whole answers exact are))
            (then_with (λ it. give (starting_point function choices))
            (ran_at function.opening (starting (program whole answers exact are).setting input schedule turns) r))) opens
            (run_begins whole.program whole.classes whole.functions are fits choices input schedule turns function found)

        main_so : AreTracked whole known (beginning (program whole answers exact are).main function start) now []
            × AreBytesTracked whole known (beginning (program whole answers exact are).main function start) now []
            × AreListed (length whole.classes) (beginning (program whole answers exact are).main function start) now
        main_so = main_begun whole known classes input function now opens

    -- where it begins
    begins_so : RanTo AnyEnd (Goes (program whole answers exact are) IsTrackedCall AnyEnd)
        (begun (program whole answers exact are) choices function (starting (program whole answers exact are).setting input schedule turns))
    begins_so = by_done begin refl
      where
        by_done : (r : Done (Unit {0})) → begin ≡ r
            → RanTo AnyEnd (Goes (program whole answers exact are) IsTrackedCall AnyEnd)
            (then_with (λ it. give (starting_point function choices))
            (ran_at function.opening (starting (program whole answers exact are).setting input schedule turns) r))
        by_done (done it now) opens = (beginning (program whole answers exact are).main function start, [], choices, refl, main_call now opens)
        by_done (stopped why now) opens = tt

    -- wherever it comes
    step_so : (point next : Point) (s t : State) → Goes (program whole answers exact are) IsTrackedCall AnyEnd point s
        → stepped (program whole answers exact are) point s ≡ went next t → Goes (program whole answers exact are) IsTrackedCall AnyEnd next t
    step_so point next s t is steps_to =
        subst (RanTo AnyEnd (Goes (program whole answers exact are) IsTrackedCall AnyEnd))
        (ap (λ p. stepped (program whole answers exact are) p s) (sym is.3) ∙ steps_to) (call_steps is.0 is.1 is.2 s is.4)

    reached_so : (point next : Point) (s t : State) → Reaches (program whole answers exact are) point s next t
        → Goes (program whole answers exact are) IsTrackedCall AnyEnd point s → Goes (program whole answers exact are) IsTrackedCall AnyEnd next t
    reached_so _ _ _ _ (reach.here point s) is = is
    reached_so _ _ _ _ (reach.later point next last s t u steps_to rest) is = reached_so next last t u rest (step_so point next s t is steps_to)

    -- Such are the calls of a run, wherever it comes.
    pub calls_are_tracked : (point next : Point) (s t : State)
        → begun (program whole answers exact are) choices function (starting (program whole answers exact are).setting input schedule turns) ≡ went point s
        → Reaches (program whole answers exact are) point s next t → Goes (program whole answers exact are) IsTrackedCall AnyEnd next t
    calls_are_tracked point next s t begins reaches =
        reached_so point next s t reaches (subst (RanTo AnyEnd (Goes (program whole answers exact are) IsTrackedCall AnyEnd)) begins begins_so)

-- ---- the law

module _ (whole : WholeCode) (answers : Answers) (exact : IsExact whole answers) (are : IsCode whole.program whole.classes whole.functions)
    (known : Knowledge) where
  -- The values of the call that goes on are tracked, and those of each call that waits, as of its call.
  abbrev pub AreTrackedAt : Point → State → Type 0
  AreTrackedAt = Goes (program whole answers exact are) (AreTracked whole known) (λ outcome s. Unit {0})

  module _ (knowledge : IsKnowledge whole known) (fits : Fits whole.program) (classes : whole.classes ≡ classes_of whole.program) where
    -- Wherever a run comes.
    pub values_are_tracked : (input : Input) (schedule : List Decision) (turns : ℕ) (choices : List Bool) (function : CodeFunction)
        → slice_get (program whole answers exact are).functions (program whole answers exact are).main ≡ Some function
        → (point next : Point) (s t : State)
        → begun (program whole answers exact are) choices function (starting (program whole answers exact are).setting input schedule turns) ≡ went point s
        → Reaches (program whole answers exact are) point s next t → AreTrackedAt next t
    values_are_tracked input schedule turns choices function found point next s t begins reaches =
        on (calls_are_tracked whole known knowledge answers exact are fits classes input schedule turns choices function found point next s t begins reaches)
      where
        on : Goes (program whole answers exact are) (IsTrackedCall whole known knowledge answers exact are fits classes) AnyEnd next t → AreTrackedAt next t
        on is = (
          is.0,
          is.1,
          is.2,
          is.3,
          each_call whole answers exact are (IsTrackedCall whole known knowledge answers exact are fits classes) (AreTracked whole known)
              (λ here machine ws one. one.followed.tracked) is.0 t.machine is.1 is.4,
        )
