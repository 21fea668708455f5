-- Wherever a run comes, no operand that the next operation tests is stale or purged, or the operation is a hazard (own).
--     step_uses            a call of a run
--     IsUsedOrHazard       the next operation of the point tests no such operand, or it is a hazard of its function
--     used_or_hazard       wherever a run comes
--     none_is_misused      so a run of a program without hazards tests no such operand
use Rattle.std.proofs.Common.{◌≡◌, ◌⊎◌, inl, inr, ℕ, Bool, List, [], slice_get, Option, Some, None, refl, sym, ap, ◌∙◌, subst}
use Rattle.std.proofs.lemmas.Option.{same_Some}
use Rattle.hs_calls.specs.Calls.{Here, Wait, point_of}
use Rattle.hs_calls.specs.Stacks.{Goes}
use Rattle.hs_chains.specs.Hazards.{Hazard, Kind}
use Rattle.hs_chains.specs.Knowledge.{IsKnowledge, Knowledge}
use Rattle.hs_code.specs.Codes.{IsCode}
use Rattle.hs_code.specs.declared.function_code.Placed.{Placed}
use Rattle.hs_code.specs.declared.op.Op.TheVariants as op
use Rattle.hs_code_run.specs.Codes.{CodeFunction, Point}
use Rattle.hs_code_run.specs.Runs.{begun}
use Rattle.hs_effects.specs.Answers.{Answers, IsExact}
use Rattle.hs_facts.specs.Effects.{WholeCode, impact_of}
use Rattle.hs_heap.specs.declared.decision.Decision.{Decision}
use Rattle.hs_kinds.specs.Suits.{IsSuited, Suits, stepped_suits}
use Rattle.hs_meaning.specs.Classes.{classes_of}
use Rattle.hs_meaning.specs.Runs.{starting}
use Rattle.hs_meaning.specs.Steps.{State, went}
use Rattle.hs_meaning.specs.declared.input.Input.{Input}
use Rattle.hs_still.specs.Runs.{AllUsedFrom, Reaches}
use Rattle.hs_still.specs.Steps.{StepUses, UsesAt}
use Rattle.hs_tracked.specs.Runs.{IsTrackedCall, calls_are_tracked, first_call}
use Rattle.hs_tracked.specs.Standing.{deep, is_at, typed}
use Rattle.hs_tracked.specs.Using.{HasArguments, IsHazardAt, uses_or_hazard}
use Rattle.hs_tree.specs.Fitting.{Fits}
use Rattle.hs_true.specs.Exact.{exact_told, may_of, program, sets_of}
use Rattle.hs_true.specs.Facts.{on_machine}

module _ (whole : WholeCode) (answers : Answers) (exact : IsExact whole answers) (are : IsCode whole.program whole.classes whole.functions) where
  -- The next operation of the call that goes on tests no operand that is stale or purged, or it is a hazard of the function.
  pub record IsUsedOrHazard (point : Point) (s : State) : Type 0 where
    pub fn : ℕ
    pub function : CodeFunction
    pub found : slice_get (program whole answers exact are).functions fn ≡ Some function
    pub code : point.frame.code ≡ function.code
    pub uses : StepUses (program whole answers exact are) point s ⊎ IsHazardAt whole fn point.frame.at

module _ (whole : WholeCode) (known : Knowledge) (knowledge : IsKnowledge whole known) (answers : Answers) (exact : IsExact whole answers)
    (are : IsCode whole.program whole.classes whole.functions) (fits : Fits whole.program) (classes : whole.classes ≡ classes_of whole.program) where
  -- ---- a call of a run

  module _ (here : Here) (ws : List Wait) (choices : List Bool) (s : State)
      (call : IsTrackedCall whole known knowledge answers exact are fits classes here s.machine ws) where
    -- a state with that machine
    abbrev plain_state : State
    plain_state =
        on_machine (program whole answers exact are) (typed whole answers exact are fits) (may_of whole answers exact are) (sets_of whole answers exact are)
        (impact_of whole) (exact_told whole answers exact are) s.machine

    suited : IsSuited (program whole answers exact are) (point_of here ws []) plain_state
    suited =
        stepped_suits (program whole answers exact are) (typed whole answers exact are fits) (point_of here ws []) plain_state call.fact.kinds

    module _ (its : Placed) (there : slice_get here.function.code.ops here.at ≡ Some its) where
      arguments : (p : ℕ) → its.op ≡ op.Routine p
          → HasArguments whole known knowledge here s.machine ws its (is_at whole answers exact are fits known knowledge here s.machine ws call.fact its there)
          (deep whole answers exact are fits known knowledge here s.machine ws call.fact its there) call.followed.tracked p
      arguments p is =
          subst (Suits (program whole answers exact are) (point_of here ws []) plain_state suited.function)
          (ap (λ (o : Placed). o.op) (same_Some suited.its its (sym suited.there ∙ there)) ∙ is) suited.suited

    by_place : (found : Option Placed) → slice_get here.function.code.ops here.at ≡ found
        → UsesAt (program whole answers exact are) found here.stack s.machine ⊎ IsHazardAt whole here.fn here.at
    by_place None there = inl tt
    by_place (Some its) there =
        uses_or_hazard whole known knowledge here s.machine ws its
        (is_at whole answers exact are fits known knowledge here s.machine ws call.fact its there)
        (deep whole answers exact are fits known knowledge here s.machine ws call.fact its there) call.followed.tracked (arguments its there)

    -- The next operation of the call.
    pub step_uses : StepUses (program whole answers exact are) (point_of here ws choices) s ⊎ IsHazardAt whole here.fn here.at
    step_uses = by_place (slice_get here.function.code.ops here.at) refl

  -- ---- runs

  at_point : (point : Point) (s : State)
      → Goes (program whole answers exact are) (IsTrackedCall whole known knowledge answers exact are fits classes) (λ outcome t. Unit {0}) point s
      → IsUsedOrHazard whole answers exact are point s
  at_point point s is =
      subst (λ p. IsUsedOrHazard whole answers exact are p s) (sym is.3)
      (record {
        fn = is.0.fn;
        function = is.0.function;
        found = call.fact.good.found;
        code = refl;
        uses = step_uses is.0 is.1 is.2 s call;
      })
    where
      call : IsTrackedCall whole known knowledge answers exact are fits classes is.0 s.machine is.1
      call =
          first_call whole answers exact are (IsTrackedCall whole known knowledge answers exact are fits classes) is.0 s.machine is.1 is.4

  module _ (input : Input) (schedule : List Decision) (turns : ℕ) (choices : List Bool) (function : CodeFunction)
      (found : slice_get (program whole answers exact are).functions (program whole answers exact are).main ≡ Some function) where
    -- Wherever a run comes.
    pub used_or_hazard : (point next : Point) (s t : State)
        → begun (program whole answers exact are) choices function (starting (program whole answers exact are).setting input schedule turns) ≡ went point s
        → Reaches (program whole answers exact are) point s next t → IsUsedOrHazard whole answers exact are next t
    used_or_hazard point next s t begins reaches =
        at_point next t (calls_are_tracked whole known knowledge answers exact are fits classes input schedule turns choices function found point next s t
        begins reaches)

    -- A run of a program without hazards tests no operand that is stale or purged.
    pub none_is_misused : ((f at : ℕ) (kind : Kind) → Hazard whole f at kind → ⊥) → (point : Point) (s : State)
        → begun (program whole answers exact are) choices function (starting (program whole answers exact are).setting input schedule turns) ≡ went point s
        → AllUsedFrom (program whole answers exact are) point s
    none_is_misused none point s begins next t reaches = on (used_or_hazard point next s t begins reaches)
      where
        on : IsUsedOrHazard whole answers exact are next t → StepUses (program whole answers exact are) next t
        on is = by_uses is.uses
          where
            by_uses : StepUses (program whole answers exact are) next t ⊎ IsHazardAt whole is.fn next.frame.at
                → StepUses (program whole answers exact are) next t
            by_uses (inl uses) = uses
            by_uses (inr hazard) = absurd (none is.fn next.frame.at hazard.0 hazard.1)
