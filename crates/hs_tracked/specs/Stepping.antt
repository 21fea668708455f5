-- Each step of the machine keeps what is followed of a call: all its values are tracked, its state bytes too, and each pointer in memory is of a class of
-- the program (own).
--     AreFollowed          the three of them
--     within_followed      an operation inside a call, whatever it is
--     entered_followed     the begin of a call
--     returned_followed    a return to the call that waits
-- What is known of each call of a run (`IsKnown`) is a premise here, and so are the kinds of the variables of its function.
use Rattle.std.proofs.Common.{◌≡◌, ℕ, suc, Bool, true, false, List, [], ◌∷◌, length, slice_get, Option, Some, None, refl, sym, ap, ◌∙◌, subst, inl, inr, true≢false}
use Rattle.std.specs.List.{AllByRecursion}
use Rattle.hs_base.specs.declared.pos.Pos.{Pos}
use Rattle.hs_calls.specs.Calls.{Here, IsWait, Wait, beginning, lasts_to, moved, point_of, resumed}
use Rattle.hs_calls.specs.Stacks.{RanTo, Stays, is_inside}
use Rattle.hs_chains.specs.Knowledge.{IsKnowledge, Knowledge}
use Rattle.hs_code.specs.Codes.{IsCode, HasClass, IsInRange}
use Rattle.hs_code.specs.declared.function_code.Placed.{Placed}
use Rattle.hs_code.specs.declared.op.Access.TheVariants as access
use Rattle.hs_code.specs.declared.op.Access.{Access}
use Rattle.hs_code.specs.declared.op.Op.TheVariants as op
use Rattle.hs_code.specs.declared.op.Op.{Op}
use Rattle.hs_code_run.specs.Codes.{CodeFunction, Point, function_with}
use Rattle.hs_code_run.specs.Steps.{arguments_of, below, by_stack, holds, onward, operates_if, routine_called, taken, access_of, routine_arguments}
use Rattle.hs_effects.specs.Answers.{Answers, IsExact}
use Rattle.hs_facts.specs.Effects.{WholeCode, impact_of}
use Rattle.hs_facts.specs.Names.{makes_handle}
use Rattle.hs_flow.specs.Calls.{base_of}
use Rattle.hs_flow.specs.Programs.{scope_at, parameters_of}
use Rattle.hs_hiding.specs.Holding.{OnDone, value_of}
use Rattle.hs_meaning.specs.Classes.{classes_of}
use Rattle.hs_meaning.specs.Frames.{closed, opened}
use Rattle.hs_meaning.specs.Machine.{Done, Machine, done, stopped}
use Rattle.hs_meaning.specs.Operations as operation
use Rattle.hs_meaning.specs.Operations.{operate}
use Rattle.hs_meaning.specs.Steps.{Ran, State, acts, give, over, ran_at, then_with, went}
use Rattle.hs_meaning.specs.Values.{Value, number, pointer, state, structure}
use Rattle.hs_meaning.specs.declared.outcome.Outcome.{Outcome}
use Rattle.hs_tracked.specs.Acting.{values}
use Rattle.hs_tracked.specs.Arguments.{call_begun}
use Rattle.hs_tracked.specs.Bytes.{AreBytesTracked, bytes_begun}
use Rattle.hs_tracked.specs.Going.{IsAt}
use Rattle.hs_tracked.specs.ListedCalls.{begun_listed}
use Rattle.hs_tracked.specs.Listing.{ArePointListed, IsOpListed, in_call, in_machine, ordinary_listed, returned_listed, AreListedIn}
use Rattle.hs_tracked.specs.Making.{HasNoFacts, IsGiven, Gets}
use Rattle.hs_tracked.specs.Reading.{bytes_over}
use Rattle.hs_tracked.specs.Restorable.{AreListed, FitKinds, IsListed, IsValueListed}
use Rattle.hs_tracked.specs.Returning.{returned, since_after, values as values_left, IsReturn}
use Rattle.hs_tracked.specs.Right.{AreRight}
use Rattle.hs_tracked.specs.Routines.{gives, routine_tracked}
use Rattle.hs_tracked.specs.Standing.{IsKnown, call_deep_noted, call_low, called_function, called_low, deep, is_at, is_return, of_callee, right, typed, its_function}
use Rattle.hs_tracked.specs.Starting.{IsAccessListed}
use Rattle.hs_tracked.specs.Tracking.{AreTracked}
use Rattle.hs_tracked.specs.Within.{IsOrdinary, within_tracked, GoesTracked}
use Rattle.hs_tree.specs.Fitting.{Fits}
use Rattle.hs_tree.specs.declared.function.BoundRoutine.{BoundRoutine}
use Rattle.hs_tree.specs.declared.function.Prototype.{Prototype}
use Rattle.hs_tree.specs.declared.head.Variable.{Variable}
use Rattle.hs_true.specs.Exact.{FoundIn, code_of, exact_told, may_of, program, restore_told, sets_of}
use Rattle.hs_true.specs.Facts.{is_brought, on_machine, slot_of}
use Rattle.hs_truth.specs.Places.{all_below, all_taken}

module _ (whole : WholeCode) (known : Knowledge) where
  -- all values are tracked, and state bytes; each pointer in memory is of a class of the program
  pub record AreFollowed (here : Here) (machine : Machine) (ws : List Wait) : Type 0 where
    pub tracked : AreTracked whole known here machine ws
    pub bytes : AreBytesTracked whole known here machine ws
    pub listed : AreListed (length whole.classes) here machine

-- of how a run ends nothing is said
abbrev pub AnyEnd : Outcome → State → Type 0
AnyEnd outcome s = Unit {0}

module _ (whole : WholeCode) (known : Knowledge) (knowledge : IsKnowledge whole known) (answers : Answers) (exact : IsExact whole answers)
    (are : IsCode whole.program whole.classes whole.functions) (fits : Fits whole.program) (classes : whole.classes ≡ classes_of whole.program) where
  -- ---- an operation inside a call

  module _ (here : Here) (ws : List Wait) (choices : List Bool) (its : Placed) (s : State) (there : slice_get here.function.code.ops here.at ≡ Some its)
      (fact : IsKnown whole answers exact are fits here s.machine ws) (now : AreFollowed whole known here s.machine ws)
      (kinds : (base : ℕ) → FitKinds (scope_at whole here.fn) (length whole.classes) base s.machine) where
    -- the call goes on, and all of it is followed
    abbrev GoesOn : Point → State → Type 0
    GoesOn = Stays (program whole answers exact are) (AreFollowed whole known) AnyEnd here s.machine ws

    -- the operation as the analysis knows it
    at_here : IsAt whole known here its
    at_here = is_at whole answers exact are fits known knowledge here s.machine ws fact its there

    places_noted : its.places ≡ length here.stack
    places_noted = deep whole answers exact are fits known knowledge here s.machine ws fact its there

    right_here : AreRight whole known here s.machine
    right_here = right whole answers exact are fits known knowledge here s.machine ws fact

    -- its function, with the code
    its_code : FoundIn whole here.fn here.function
    its_code = its_function whole answers exact are fits known knowledge here s.machine ws fact

    -- a state with that machine
    abbrev plain_state : State
    plain_state =
        on_machine (program whole answers exact are) (typed whole answers exact are fits) (may_of whole answers exact are) (sets_of whole answers exact are)
        (impact_of whole) (exact_told whole answers exact are) s.machine

    ranged : IsInRange whole.program whole.classes its_code.function its_code.code its.op
    ranged =
        (code_of whole.program whole.classes whole.program.functions whole.functions are here.fn its_code.function its_code.code its_code.of_function
        its_code.of_code).ranges here.at its (ap (λ (c : CodeFunction). slice_get c.code.ops here.at) its_code.same ∙ there)

    access_ranged : (reached : Access) → HasClass whole.program whole.classes its_code.function its_code.code reached
        → IsAccessListed (length whole.classes) (access_of reached)
    access_ranged (access.Number kind) is = tt
    access_ranged (access.Pointer class) is = is
    access_ranged (access.Struct size) is = tt

    op_ranged : (o : Op) → IsOrdinary o → IsInRange whole.program whole.classes its_code.function its_code.code o → IsOpListed (length whole.classes) o
    op_ranged (op.Store reached) plain is = access_ranged reached is
    op_ranged (op.Routine place) plain is = plain
    op_ranged (op.Call fn) plain is = plain
    op_ranged op.Return plain is = plain
    op_ranged o plain is = tt

    both : (r : Ran Point) → RanTo AnyEnd (GoesTracked whole known here s.machine ws) r → RanTo AnyEnd (ArePointListed (length whole.classes)) r
        → RanTo AnyEnd GoesOn r
    both (over outcome t) goes listed = tt
    both (went next t) goes listed = (
      goes.0,
      goes.1,
      goes.2,
      goes.3,
      record {
        tracked = goes.4;
        bytes = goes.5;
        listed = in_call (length whole.classes) (moved here goes.0 goes.1 (lasts_to here s.machine t.machine)) t.machine
            (subst (λ (p : Point). AllByRecursion (IsValueListed (length whole.classes)) p.frame.stack) goes.3 listed.0) listed.1;
      },
    )

    ordinary_followed : IsOrdinary its.op
        → RanTo AnyEnd GoesOn (by_stack (program whole answers exact are) its.at (point_of here ws choices) its.op here.stack s)
    ordinary_followed plain =
        both (by_stack (program whole answers exact are) its.at (point_of here ws choices) its.op here.stack s)
        (within_tracked whole known AnyEnd (λ outcome t. tt) here ws choices its s places_noted at_here right_here now.tracked now.bytes
        (slot_of (program whole answers exact are) (typed whole answers exact are fits) (may_of whole answers exact are) (sets_of whole answers exact are)
        (impact_of whole) (exact_told whole answers exact are) here ws [] plain_state its there fact.kinds)
        (is_brought (program whole answers exact are) (typed whole answers exact are fits) (may_of whole answers exact are) (sets_of whole answers exact are)
        (impact_of whole) (exact_told whole answers exact are) here ws [] plain_state its there fact.kinds) its.op refl plain)
        (ordinary_listed (length whole.classes) (program whole answers exact are) its.at here ws choices s now.listed.stack
        (in_machine (length whole.classes) here s.machine now.listed) its.op (op_ranged its.op plain ranged))

    -- ---- a routine

    module _ (p : ℕ) (is : its.op ≡ op.Routine p) (it : BoundRoutine) (found : slice_get whole.program.routines p ≡ Some it) (prototype : Prototype)
        (proto : it.prototype ≡ Some prototype) (held : holds (length prototype.parameters) here.stack ≡ true) (v : Value) (after : Machine)
        (ran : operate (program whole answers exact are).setting (operation.routine p) (taken (length prototype.parameters) here.stack) s.machine
        ≡ done v after) where
      -- the call after it
      abbrev next : Here
      next = moved here (suc here.at) (v ∷ below (length prototype.parameters) here.stack) (lasts_to here s.machine after)

      tracked_after : AreTracked whole known next after ws × AreBytesTracked whole known next after ws
      tracked_after =
          routine_tracked whole known (may_of whole answers exact are) (sets_of whole answers exact are) (impact_of whole) AnyEnd (λ outcome t. tt) here ws
          choices its s fact.good places_noted at_here right_here p is it found prototype proto held v after ran (knowledge.operations here.fn here.at)
          (λ sets restores.
          restore_told whole answers exact are here.fn here.function fact.good.found here.at its there p is
          ((knowledge.operations here.fn here.at).restores.0 restores) fact.good.round) (kinds _) now.listed now.tracked now.bytes

      given_listed : (Makes : Type 0) → IsGiven Makes v after → IsValueListed (length whole.classes) v
      given_listed Makes (inl plain) = by_value v plain
        where
          by_value : (u : Value) → HasNoFacts u → IsValueListed (length whole.classes) u
          by_value (number bits) none = tt
          by_value (pointer q) none = tt
          by_value (state byte) none = tt
          by_value (structure cells) none = absurd none
      given_listed Makes (inr made) = subst (IsValueListed (length whole.classes)) (sym made.1.handle) tt

      listed_after : AreListed (length whole.classes) next after
      listed_after =
          record {
            stack = (
              given_listed (makes_handle (scope_at whole here.fn) p ≡ true) gives_now.0,
              all_below (IsValueListed (length whole.classes)) (length prototype.parameters) here.stack now.listed.stack,
            );
            variables = λ x u holds. now.listed.variables x u (sym (values_now x) ∙ holds);
            blocks = gives_now.1.blocks;
            objects = gives_now.1.objects;
          }
        where
          gives_now : Gets (IsListed (length whole.classes)) tt (λ b. tt) (makes_handle (scope_at whole here.fn) p ≡ true) v after
          gives_now =
              gives whole known (may_of whole answers exact are) (sets_of whole answers exact are) (impact_of whole) AnyEnd (λ outcome t. tt) here ws choices
              its s fact.good places_noted at_here right_here p is it found prototype proto held v after ran (IsListed (length whole.classes)) tt (λ b. tt)
              (record { blocks = now.listed.blocks; objects = now.listed.objects })

          values_now : (x : Variable) → value_of after x ≡ value_of s.machine x
          values_now =
              values whole known (may_of whole answers exact are) (sets_of whole answers exact are) (impact_of whole) AnyEnd (λ outcome t. tt) here ws
              choices its s fact.good places_noted at_here right_here p is it found prototype proto held v after ran

      done_followed : GoesOn (onward (point_of here ws choices) (v ∷ below (length prototype.parameters) here.stack)) (record s { machine = after })
      done_followed = (
        suc here.at,
        v ∷ below (length prototype.parameters) here.stack,
        choices,
        refl,
        record { tracked = tracked_after.0; bytes = tracked_after.1; listed = listed_after },
      )

    routine_followed : (p : ℕ) → its.op ≡ op.Routine p
        → RanTo AnyEnd GoesOn (by_stack (program whole answers exact are) its.at (point_of here ws choices) (op.Routine p) here.stack s)
    routine_followed p is = by_routine (slice_get whole.program.routines p) refl
      where
        by_held : (it : BoundRoutine) → slice_get whole.program.routines p ≡ Some it → (prototype : Prototype) → it.prototype ≡ Some prototype → (b : Bool)
            → holds (length prototype.parameters) here.stack ≡ b
            → RanTo AnyEnd GoesOn (operates_if (program whole answers exact are) its.at (point_of here ws choices) b (length prototype.parameters)
            (operation.routine p) s)
        by_held it found prototype proto false held = tt
        by_held it found prototype proto true held =
            by_done (operate (program whole answers exact are).setting (operation.routine p) (taken (length prototype.parameters) here.stack) s.machine) refl
          where
            by_done : (r : Done Value)
                → operate (program whole answers exact are).setting (operation.routine p) (taken (length prototype.parameters) here.stack) s.machine ≡ r
                → RanTo AnyEnd GoesOn (then_with
                (λ value. give (onward (point_of here ws choices) (value ∷ below (length prototype.parameters) here.stack))) (ran_at its.at s r))
            by_done (done v after) ran = done_followed p is it found prototype proto held v after ran
            by_done (stopped why after) ran = tt

        by_prototype : (it : BoundRoutine) → slice_get whole.program.routines p ≡ Some it → (q : Option Prototype) → it.prototype ≡ q
            → RanTo AnyEnd GoesOn (routine_called (program whole answers exact are) its.at (point_of here ws choices) p (arguments_of q) s)
        by_prototype it found None proto = tt
        by_prototype it found (Some prototype) proto = by_held it found prototype proto (holds (length prototype.parameters) here.stack) refl

        by_routine : (found : Option BoundRoutine) → slice_get whole.program.routines p ≡ found
            → RanTo AnyEnd GoesOn (routine_called (program whole answers exact are) its.at (point_of here ws choices) p (routine_arguments found) s)
        by_routine None found = tt
        by_routine (Some it) found = by_prototype it found it.prototype refl

    -- An operation inside a call, whatever it is.
    pub within_followed : is_inside its.op ≡ true
        → RanTo AnyEnd GoesOn (by_stack (program whole answers exact are) its.at (point_of here ws choices) its.op here.stack s)
    within_followed inside = by_form its.op refl inside
      where
        by_form : (o : Op) → its.op ≡ o → is_inside o ≡ true
            → RanTo AnyEnd GoesOn (by_stack (program whole answers exact are) its.at (point_of here ws choices) its.op here.stack s)
        by_form (op.Routine p) is so =
            subst (λ o. RanTo AnyEnd GoesOn (by_stack (program whole answers exact are) its.at (point_of here ws choices) o here.stack s)) (sym is)
            (routine_followed p is)
        by_form (op.Call fn) is so = absurd (true≢false (sym so))
        by_form op.Return is so = absurd (true≢false (sym so))
        by_form o is so = ordinary_followed (subst IsOrdinary (sym is) tt)

  -- ---- the begin of a call

  module _ (here : Here) (ws : List Wait) (fn : ℕ) (function : CodeFunction) (s : State)
      (waits : IsWait (program whole answers exact are) (record { here = here; machine = s.machine; called = fn; callee = function }))
      (fact : IsKnown whole answers exact are fits here s.machine ws) (now : AreFollowed whole known here s.machine ws) where
    -- the call that waits
    abbrev waiting : Wait
    waiting = record { here = here; machine = s.machine; called = fn; callee = function }

    -- the function, with its code
    its_callee : FoundIn whole fn function
    its_callee = called_function whole answers exact are fits known knowledge waiting ws waits fact

    -- it begins so
    abbrev BeginsWith : CodeFunction → Pos → Type 0
    BeginsWith g at =
        RanTo AnyEnd (λ it t. AreFollowed whole known (beginning fn g s.machine) t.machine
        (record { here = here; machine = s.machine; called = fn; callee = g } ∷ ws))
        (acts at (opened (program whole answers exact are).setting g.parameters g.variables (taken g.parameters here.stack)) s)

    module _ (at : Pos) where
      -- as it is found in the program
      abbrev found_function : CodeFunction
      found_function = function_with its_callee.function its_callee.code

      call_at : IsAt whole known here waits.its
      call_at = is_at whole answers exact are fits known knowledge here s.machine ws fact waits.its waits.there

      low : base_of (parameters_of whole fn) (known.at here.fn here.at) ≡ length (below found_function.parameters here.stack)
      low =
          call_low whole answers exact are fits known knowledge waiting ws waits fact
          ∙ ap (λ (g : CodeFunction). length (below g.parameters here.stack)) (sym its_callee.same)

      by_done : (r : Done (Unit {0}))
          → opened (program whole answers exact are).setting found_function.parameters found_function.variables
          (taken found_function.parameters here.stack) s.machine ≡ r
          → RanTo AnyEnd (λ it t. AreFollowed whole known (beginning fn found_function s.machine) t.machine
          (record { here = here; machine = s.machine; called = fn; callee = found_function } ∷ ws)) (ran_at at s r)
      by_done (stopped why after) opens = tt
      by_done (done it after) opens =
          record {
            tracked = call_begun whole known here s.machine ws waits.its call_at fn found_function waits.calls
                (called_low whole answers exact are fits known knowledge waiting ws waits fact)
                (right whole answers exact are fits known knowledge here s.machine ws fact) its_callee.function its_callee.of_function classes after
                found_function.parameters opens low now.tracked;
            bytes = bytes_begun whole known (beginning fn found_function s.machine) after
                (record { here = here; machine = s.machine; called = fn; callee = found_function } ∷ ws) refl;
            listed = in_call (length whole.classes) (beginning fn found_function s.machine) after tt
                (subst (OnDone (λ it m. AreListedIn (length whole.classes) m)) opens
                (begun_listed whole classes fn its_callee.function its_callee.of_function s.machine
                (in_machine (length whole.classes) here s.machine now.listed) (taken found_function.parameters here.stack)
                (all_taken (IsValueListed (length whole.classes)) found_function.parameters here.stack [] now.listed.stack tt)));
          }

      -- The begin of a call.
      pub entered_followed : BeginsWith function at
      entered_followed =
          subst (λ g. BeginsWith g at) its_callee.same
          (by_done (opened (program whole answers exact are).setting found_function.parameters found_function.variables
          (taken found_function.parameters here.stack) s.machine) refl)

  -- ---- a return

  module _ (here : Here) (machine : Machine) (w : Wait) (ws : List Wait) (waits : IsWait (program whole answers exact are) w)
      (fact : IsKnown whole answers exact are fits here machine (w ∷ ws)) (caller : IsKnown whole answers exact are fits w.here w.machine ws)
      (now : AreFollowed whole known here machine (w ∷ ws)) (before : AreFollowed whole known w.here w.machine ws) (return : Placed)
      (there : slice_get here.function.code.ops here.at ≡ Some return) (returns : return.op ≡ op.Return) (value : Value) (rest : List Value)
      (so : here.stack ≡ value ∷ rest) where
    it_returns : IsReturn whole known here machine w return waits.its
    it_returns = is_return whole answers exact are fits known knowledge w ws waits caller here machine fact return there returns

    -- A return to the call that waits.
    pub returned_followed : AreFollowed whole known (resumed w value here.lasting) (closed w.machine.locals machine) ws
    returned_followed =
        record {
          tracked = returned whole known here machine w ws return waits.its it_returns value rest so now.tracked before.tracked;
          bytes = bytes_over whole known w ws (closed w.machine.locals machine) value here.lasting waits.its it_returns.called_at waits.calls
              it_returns.of_function it_returns.right (since_after whole known here machine w ws return waits.its it_returns value rest so)
              it_returns.through (values_left whole known here machine w ws return waits.its it_returns value rest so)
              (deep whole answers exact are fits known knowledge w.here w.machine ws caller waits.its waits.there)
              (of_callee whole answers exact are fits known knowledge w ws waits caller)
              (call_deep_noted whole answers exact are fits known knowledge w ws waits caller) before.bytes;
          listed = returned_listed (length whole.classes) here machine w value rest so now.listed before.listed;
        }
