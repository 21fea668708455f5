-- What must facts, effects and kinds of a run give of a call: what the laws of this crate ask (own).
--     IsKnown here machine ws     what holds of each call of a run (`Fact` of `hs_true`), over an exact table of effects
--     is_at                       the operation that is next is there as the analysis knows it
--     right                       what the rules of the flow ask of must facts is so
--     call_low                    at a call, as many values are below the arguments as the analysis knows
--     is_return                   a return, seen from the call that waits for it
use Rattle.std.proofs.Common.{◌≡◌, ◌<◌, ◌-◌, ℕ, false, List, [], ◌∷◌, length, slice_get, Some, refl, sym, ap, ◌∙◌, subst, arith}
use Rattle.std.proofs.lemmas.Option.{same_Some}
use Rattle.hs_calls.specs.Calls.{Here, Wait, IsWait}
use Rattle.hs_chains.specs.Knowledge.{IsCallee, IsKnowledge, Knowledge, places_of}
use Rattle.hs_code.specs.Codes as codes
use Rattle.hs_code.specs.Codes.{IsCode}
use Rattle.hs_code.specs.Stacks.{Signature}
use Rattle.hs_code.specs.declared.function_code.FunctionCode.{FunctionCode}
use Rattle.hs_code.specs.declared.function_code.Placed.{Placed}
use Rattle.hs_code.specs.declared.op.Op.TheVariants as op
use Rattle.hs_code_run.specs.Codes.{CodeFunction, scope_of}
use Rattle.hs_code_run.specs.Steps.{below}
use Rattle.hs_effects.specs.Answers.{Answers, IsExact}
use Rattle.hs_facts.specs.Effects as effect
use Rattle.hs_facts.specs.Effects.{HoldsAt, WholeCode, impact_of}
use Rattle.hs_facts.specs.MustFacts.{MustFact}
use Rattle.hs_facts.specs.Names.{parameter_count, taken as taken_by}
use Rattle.hs_facts.specs.Rounds.{HoldsIn}
use Rattle.hs_flow.specs.Calls.{base_of}
use Rattle.hs_flow.specs.Laws.Parameters.{parameters_taken}
use Rattle.hs_flow.specs.Programs.{parameters_of, scope_at}
use Rattle.hs_kinds.specs.Points.{IsTypedCode}
use Rattle.hs_kinds.specs.Starts.{code_is_typed}
use Rattle.hs_meaning.specs.Machine.{Machine}
use Rattle.hs_sound_heap.specs.Since.{IsWithin, Since, since_more}
use Rattle.hs_tracked.specs.Going.{IsAt}
use Rattle.hs_tracked.specs.Over.{does}
use Rattle.hs_tracked.specs.Returning.{IsReturn}
use Rattle.hs_tracked.specs.Right.{AreRight, right_by_facts}
use Rattle.hs_tree.specs.Fitting.{Fits}
use Rattle.hs_true.specs.Exact.{FoundIn, exact_told, found_of, low_of, may_of, placed_of, program, says, says_set, scope_is, sets_of, signatures}
use Rattle.hs_true.specs.Facts.{Fact, call_deep, deep_of, on_machine}
use Rattle.hs_truth.specs.Good.{none_within}
use Rattle.hs_truth.specs.Linked.{Linked, since_of}
use Rattle.hs_truth.specs.Truth.{AllTrue, fewer}

module _ (whole : WholeCode) (answers : Answers) (exact : IsExact whole answers) (are : IsCode whole.program whole.classes whole.functions)
    (fits : Fits whole.program) where
  -- the code is typed
  pub typed : IsTypedCode (program whole answers exact are)
  typed = code_is_typed whole.program whole.classes whole.functions are fits

  -- what holds of each call of a run
  abbrev pub IsKnown : Here → Machine → List Wait → Type 0
  IsKnown =
      Fact (program whole answers exact are) typed (may_of whole answers exact are) (sets_of whole answers exact are) (impact_of whole)
      (exact_told whole answers exact are)

  module _ (known : Knowledge) (knowledge : IsKnowledge whole known) where
    -- ---- an operation of the call

    module _ (here : Here) (machine : Machine) (ws : List Wait) (fact : IsKnown here machine ws) where
      -- its function, with the code
      pub its_function : FoundIn whole here.fn here.function
      its_function = found_of whole answers exact are here.fn here.function fact.good.found

      same_code : its_function.code ≡ here.function.code
      same_code = ap (λ (f : CodeFunction). f.code) its_function.same

      -- as many values are on the stack as the operation notes
      pub deep : (its : Placed) → slice_get here.function.code.ops here.at ≡ Some its → its.places ≡ length here.stack
      deep its there =
          deep_of (program whole answers exact are) typed (may_of whole answers exact are) (sets_of whole answers exact are) (impact_of whole)
          (exact_told whole answers exact are) here ws []
          (on_machine (program whole answers exact are) typed (may_of whole answers exact are) (sets_of whole answers exact are) (impact_of whole)
          (exact_told whole answers exact are) machine) its there fact.kinds

      pub is_at : (its : Placed) → slice_get here.function.code.ops here.at ≡ Some its → IsAt whole known here its
      is_at its there =
          record {
            found = its_function.of_code ∙ ap (λ (c : FunctionCode). Some c) same_code;
            there = there;
            deep = (knowledge.operations here.fn here.at).places
                ∙ ap places_of (placed_of whole answers exact are here.fn here.function its_function here.at its there) ∙ deep its there;
            names = (knowledge.operations here.fn here.at).names;
          }

      -- a must fact of the operation holds in each round
      in_round : (fact' : MustFact) → HoldsAt whole here.fn here.at fact'
          → HoldsIn (scope_of (program whole answers exact are) here.function) here.function.code (impact_of whole) fact.good.round here.at fact'
      in_round fact' holds =
          subst (λ (g : CodeFunction). HoldsIn (scope_of (program whole answers exact are) g) g.code (impact_of whole) fact.good.round here.at fact')
          its_function.same
          (subst (λ scope. HoldsIn scope its_function.code (impact_of whole) fact.good.round here.at fact')
          (scope_is whole answers exact are here.fn here.function its_function)
          (subst (λ f. HoldsIn (codes.scope_of whole.program f) its_function.code (impact_of whole) fact.good.round here.at fact')
          (same_Some holds.function its_function.function (sym holds.of_function ∙ its_function.of_function))
          (subst (λ c. HoldsIn (codes.scope_of whole.program holds.function) c (impact_of whole) fact.good.round here.at fact')
          (same_Some holds.code its_function.code (sym holds.its_code ∙ its_function.of_code)) (holds.holds fact.good.round))))

      all_true : AllTrue (HoldsAt whole here.fn here.at) here machine
          (since_of (may_of whole answers exact are) (sets_of whole answers exact are) here.fn ws)
      all_true =
          fewer (HoldsIn (scope_of (program whole answers exact are) here.function) here.function.code (impact_of whole) fact.good.round here.at)
          (HoldsAt whole here.fn here.at) here machine
          (since_of (may_of whole answers exact are) (sets_of whole answers exact are) here.fn ws) in_round
          (fact.good.facts fact.good.round (omega arith))

      pub right : AreRight whole known here machine
      right =
          right_by_facts whole known here machine
          (since_of (may_of whole answers exact are) (sets_of whole answers exact are) here.fn ws) (knowledge.operations here.fn here.at) all_true
          fact.good.lasts

    -- ---- a call that waits

    module _ (w : Wait) (ws : List Wait) (waits : IsWait (program whole answers exact are) w) (fact : IsKnown w.here w.machine ws) where
      -- the function that was called is there
      pub called_function : FoundIn whole w.called w.callee
      called_function = found_of whole answers exact are w.called w.callee waits.callee

      pub called_low : w.called < length whole.functions
      called_low = low_of whole answers exact are w.called w.callee called_function

      same_taken : taken_by (scope_of (program whole answers exact are) w.here.function) (op.Call w.called) ≡ length (parameters_of whole w.called)
      same_taken =
          ap (λ (all : List Signature). parameter_count (slice_get all w.called))
          (signatures whole.program whole.classes whole.program.functions whole.functions are) ∙ sym (parameters_taken whole w.called w.here.fn)

      pub call_low : base_of (parameters_of whole w.called) (known.at w.here.fn w.here.at) ≡ length (below w.callee.parameters w.here.stack)
      call_low =
          ap (λ k. (known.at w.here.fn w.here.at).places - k) (sym same_taken)
          ∙ ap (λ n. n - taken_by (scope_of (program whole answers exact are) w.here.function) (op.Call w.called))
          ((is_at w.here w.machine ws fact waits.its waits.there).deep ∙ sym (deep w.here w.machine ws fact waits.its waits.there))
          ∙ call_deep (program whole answers exact are) typed (may_of whole answers exact are) (sets_of whole answers exact are) (impact_of whole)
          (exact_told whole answers exact are) w ws waits fact

      pub call_deep_noted : waits.its.places - taken_by (scope_at whole w.here.fn) (op.Call w.called) ≡ length (below w.callee.parameters w.here.stack)
      call_deep_noted =
          ap (λ k. waits.its.places - k) (sym (parameters_taken whole w.called w.here.fn))
          ∙ ap (λ n. n - length (parameters_of whole w.called))
          (deep w.here w.machine ws fact waits.its waits.there ∙ sym (is_at w.here w.machine ws fact waits.its waits.there).deep) ∙ call_low

      -- what the function may do is what is known of it
      pub of_callee : IsCallee whole w.called (known.of w.called)
      of_callee = knowledge.functions w.called called_low

      pub within_callee : IsWithin (may_of whole answers exact are w.called) (does (known.of w.called))
      within_callee =
          record {
            moves = λ is. of_callee.moves.1 (says whole answers exact are w.called effect.moves is);
            purges = λ is. of_callee.purges.1 (says whole answers exact are w.called effect.purges is);
            unlocks = λ is. of_callee.unlocks.1 (says whole answers exact are w.called effect.unlocks is);
            marks = λ is. of_callee.marks.1 (says whole answers exact are w.called effect.marks is);
            disposes = λ is. refl;
          }

      sets_none : (g : ℕ) → (known.of w.called).assigns g ≡ false → sets_of whole answers exact are w.called g ≡ false
      sets_none g none =
          none_within (sets_of whole answers exact are w.called g) ((known.of w.called).assigns g)
          (λ is. (of_callee.assigns g).1 ((says_set whole answers exact are w.called g is).1, (says_set whole answers exact are w.called g is).2)) none

      -- ---- a return to it

      module _ (here : Here) (machine : Machine) (now : IsKnown here machine (w ∷ ws)) (return : Placed)
          (there : slice_get here.function.code.ops here.at ≡ Some return) (returns : return.op ≡ op.Return) where
        link : Linked (may_of whole answers exact are) (sets_of whole answers exact are) here machine w
        link = now.good.linked

        pub is_return : IsReturn whole known here machine w return waits.its
        is_return =
            record {
              is_at = is_at here machine (w ∷ ws) now return there;
              returns = returns;
              same = link.fn;
              called_at = is_at w.here w.machine ws fact waits.its waits.there;
              calls = waits.calls;
              of_function = called_low;
              right = right w.here w.machine ws fact;
              since = since_more (may_of whole answers exact are w.called) (does (known.of w.called)) w.machine.blocks machine.blocks within_callee
                  (subst (λ f. Since (may_of whole answers exact are f) w.machine.blocks machine.blocks) link.fn link.heap);
              through = λ none. link.through
                  (ap (λ f. (may_of whole answers exact are f).unlocks) link.fn
                  ∙ none_within (may_of whole answers exact are w.called).unlocks (known.of w.called).unlocks within_callee.unlocks none);
              globals = λ g none. link.globals g (ap (λ f. sets_of whole answers exact are f g) link.fn ∙ sets_none g none);
              deep = ap (λ p. base_of p (known.at w.here.fn w.here.at)) of_callee.parameters ∙ call_low;
            }
