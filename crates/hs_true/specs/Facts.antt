-- What holds of each call of a run, and that steps keep it (own).
--     Fact             the fact of a call: its must facts are true, and values are of their kinds
--     fact_steps       a step leads from calls of which it holds to such calls
--     fact_begins      a run begins with such a call
use Rattle.std.proofs.Common.{◌≡◌, ◌-◌, ℕ, zero, suc, Bool, true, List, [], ◌∷◌, length, Option, Some, None, refl, sym, ap, ◌∙◌, subst, slice_get, map, take, reverse, option_map, length-take-le}
use Rattle.std.proofs.lemmas.List.{length-map, length-reverse}
use Rattle.std.proofs.lemmas.Option.{same_Some}
use Rattle.hs_base.specs.declared.pos.Pos.{Pos}
use Rattle.hs_calls.specs.Calls.{Here, moved, Wait, point_of, lasts_to, IsWait, beginning, resumed}
use Rattle.hs_calls.specs.Stacks as calls
use Rattle.hs_calls.specs.Stacks.{RanTo, Stays, is_inside, Stack, Rules, Goes}
use Rattle.hs_code.specs.Stacks as kind
use Rattle.hs_code.specs.Stacks.{Kind, HasOperands, kinds_after, kind_of}
use Rattle.hs_code.specs.declared.function_code.Placed.{Placed}
use Rattle.hs_code.specs.declared.op.Op.TheVariants as op
use Rattle.hs_code_run.specs.Codes.{CodeProgram, scope_of, Point, CodeFunction, signature_of}
use Rattle.hs_code_run.specs.Runs.{starting_point, begun}
use Rattle.hs_code_run.specs.Steps.{taken, below, holds, onward, by_stack, brought, stepped, stepped_at, function_called, picked, under}
use Rattle.hs_facts.specs.Changes.{Impact}
use Rattle.hs_facts.specs.Names.{taken as taken_by, parameter_count}
use Rattle.hs_heap.specs.declared.decision.Decision.{Decision}
use Rattle.hs_hiding.specs.Holding.{OnDone}
use Rattle.hs_kinds.specs.Kinds.{AreOfKinds, kinds_count}
use Rattle.hs_kinds.specs.Operands.{HasThem, IsSlotBinding}
use Rattle.hs_kinds.specs.Points.{IsTypedCode, IsKindPoint, signature_there}
use Rattle.hs_kinds.specs.Steps as steps
use Rattle.hs_kinds.specs.Steps.{operands, stepped_kinds}
use Rattle.hs_kinds.specs.Suits.{Suits, stepped_suits}
use Rattle.hs_meaning.specs.Frames.{opened, closed}
use Rattle.hs_meaning.specs.Machine.{Machine, Done, done, stopped, Binding, slot, object_at, binding_of}
use Rattle.hs_meaning.specs.Objects.{starting_machine}
use Rattle.hs_meaning.specs.Runs.{starting}
use Rattle.hs_meaning.specs.Steps.{State, Ran, went, over, then_with, ran_at, give, acts}
use Rattle.hs_meaning.specs.Values.{Value}
use Rattle.hs_meaning.specs.declared.input.Input.{Input}
use Rattle.hs_meaning.specs.declared.outcome.Outcome.{Outcome}
use Rattle.hs_sound_heap.specs.Since.{May}
use Rattle.hs_tree.specs.Fitting.{types_of, count_types}
use Rattle.hs_tree.specs.declared.head.Variable.{Variable}
use Rattle.hs_true.specs.BringStep.{bring_goes}
use Rattle.hs_true.specs.Setting.{IsSlot}
use Rattle.hs_true.specs.Tables.{IsTold}
use Rattle.hs_true.specs.Within.{within_goes}
use Rattle.hs_truth.specs.Entering.{entered_good}
use Rattle.hs_truth.specs.Good.{Good}
use Rattle.hs_truth.specs.Places.{below_length}
use Rattle.hs_truth.specs.Returning.{returned_good}
use Rattle.hs_truth.specs.Starting.{begun_good}

module _ (program : CodeProgram) (typed : IsTypedCode program) (may : ℕ → May) (sets : ℕ → ℕ → Bool) (impact : Impact)
    (told : IsTold program may sets impact) where
  -- of how a run ends nothing is said
  abbrev pub End : Outcome → State → Type 0
  End outcome s = Unit {0}

  -- a state with that machine
  abbrev pub on_machine : Machine → State
  on_machine machine = record { machine = machine; schedule = []; turns = 0 }

  -- what holds of each call: what must facts and effects say of it, and that values are of their kinds
  pub record Fact (here : Here) (machine : Machine) (ws : List Wait) : Type 0 where
    pub good : Good program may sets impact here machine ws
    pub kinds : IsKindPoint program (point_of here ws []) (on_machine machine)

  to_kinds : (here : Here) (ws : List Wait) (choices : List Bool) (s : State) → IsKindPoint program (point_of here ws choices) s
      → IsKindPoint program (point_of here ws []) (on_machine s.machine)
  to_kinds here ws choices s k = record { call = k.call; waiting = k.waiting; globals = k.globals }

  from_kinds : (here : Here) (ws : List Wait) (choices : List Bool) (s : State) → IsKindPoint program (point_of here ws []) (on_machine s.machine)
      → IsKindPoint program (point_of here ws choices) s
  from_kinds here ws choices s k = record { call = k.call; waiting = k.waiting; globals = k.globals }

  top_of : (here : Here) (machine : Machine) (ws : List Wait) → Stack program Fact End here machine ws → Fact here machine ws
  top_of here machine [] stack = stack
  top_of here machine (w ∷ ws) stack = stack.0

  -- ---- what kinds say of the operation that is next

  module _ (here : Here) (ws : List Wait) (choices : List Bool) (s : State) (its : Placed) (there : slice_get here.function.code.ops here.at ≡ Some its)
      (kinds : IsKindPoint program (point_of here ws choices) s) where
    -- the operation has its operands
    abbrev has : HasOperands (scope_of program kinds.call.function) here.function.code here.at kinds.call.kinds
    has = operands program typed (point_of here ws choices) s kinds

    -- it notes how many values are on the stack
    pub deep_of : its.places ≡ length here.stack
    deep_of =
        ap (λ (o : Placed). o.places) (same_Some its has.its (sym there ∙ has.there)) ∙ has.noted
        ∙ sym (kinds_count kinds.call.kinds here.stack kinds.call.values)

    suits : Suits program (point_of here ws choices) s (stepped_suits program typed (point_of here ws choices) s kinds).function its.op
    suits =
        subst (λ (o : Placed). Suits program (point_of here ws choices) s (stepped_suits program typed (point_of here ws choices) s kinds).function o.op)
        (same_Some (stepped_suits program typed (point_of here ws choices) s kinds).its its
        (sym (stepped_suits program typed (point_of here ws choices) s kinds).there ∙ there))
        (stepped_suits program typed (point_of here ws choices) s kinds).suited

    -- a Set is of a slot
    pub slot_of : (x : Variable) → its.op ≡ op.Set x → IsSlot s.machine x
    slot_of x is =
        by_binding (binding_of x s.machine) refl
        (subst (Suits program (point_of here ws choices) s (stepped_suits program typed (point_of here ws choices) s kinds).function) is suits).3
      where
        by_binding : (found : Option Binding) → binding_of x s.machine ≡ found → IsSlotBinding found → IsSlot s.machine x
        by_binding None so it = absurd it
        by_binding (Some (slot value)) so it = record { before = value; there = so }
        by_binding (Some (object_at place)) so it = absurd it

    -- a value that is brought to the top is there
    picked_there : (k : ℕ) (all : List Kind) (stack : List Value) → AreOfKinds all stack → picked k stack ≡ None → kind.picked k all ≡ None
    picked_there k [] [] are none = refl
    picked_there k [] (v ∷ stack) are none = absurd are
    picked_there k (one ∷ all) [] are none = absurd are
    picked_there zero (one ∷ all) (v ∷ stack) are none = absurd cc
    picked_there (suc k) (one ∷ all) (v ∷ stack) are none =
        ap (kind.under one) (picked_there k all stack are.1 (rest_none (picked k stack) none))
      where
        rest_none : (found : Option (Value × List Value)) → under v found ≡ None → found ≡ None
        rest_none None is = refl
        rest_none (Some it) is = absurd cc

    some_after : None ≡ Some has.after → ⊥
    some_after so = cc

    after_bring : (place : ℕ) → its.op ≡ op.Bring place
        → kinds_after (scope_of program kinds.call.function) (op.Bring place) kinds.call.kinds ≡ Some has.after
    after_bring place is =
        sym (ap (λ o. kinds_after (scope_of program kinds.call.function) o kinds.call.kinds)
        (ap (λ (o : Placed). o.op) (same_Some has.its its (sym has.there ∙ there)) ∙ is)) ∙ has.operands

    never_empty : (k : ℕ) → its.op ≡ op.Bring (suc k) → picked k here.stack ≡ None → ⊥
    never_empty k is none =
        some_after (sym (ap kind.brought (picked_there k kinds.call.kinds here.stack kinds.call.values none)) ∙ after_bring (suc k) is)

    -- so a Bring finds its value
    pub is_brought : (place : ℕ) → its.op ≡ op.Bring place
        → (k : ℕ) × (place ≡ suc k) × (it : Value × List Value) × (picked k here.stack ≡ Some it)
    is_brought zero is = absurd (some_after (after_bring zero is))
    is_brought (suc k) is = by_found (picked k here.stack) refl
      where
        by_found : (found : Option (Value × List Value)) → picked k here.stack ≡ found
            → (n : ℕ) × (suc k ≡ suc n) × (it : Value × List Value) × (picked n here.stack ≡ Some it)
        by_found None so = absurd (never_empty k is so)
        by_found (Some it) so = (k, refl, it, so)

    brings : (E : Outcome → State → Type 0) (ends : (outcome : Outcome) (t : State) → E outcome t) (good : Good program may sets impact here s.machine ws)
        (place : ℕ) → its.op ≡ op.Bring place
        → Stays program (Good program may sets impact) E here s.machine ws (onward (point_of here ws choices) (brought place here.stack)) s
    brings E ends good zero is = absurd (some_after (after_bring zero is))
    brings E ends good (suc k) is =
        bring_goes program may sets impact E ends here ws choices its s good there deep_of k is (picked k here.stack) refl (never_empty k is)

  -- ---- an operation inside a call

  both_stay : (here : Here) (before : Machine) (ws : List Wait) (r : Ran Point)
      → RanTo End (Stays program (Good program may sets impact) End here before ws) r → steps.RanTo (IsKindPoint program) r
      → RanTo End (Stays program Fact End here before ws) r
  both_stay here before ws (went next t) g k = (
    g.0,
    g.1,
    g.2,
    g.3,
    record {
      good = g.4;
      kinds = to_kinds (moved here g.0 g.1 (lasts_to here before t.machine)) ws g.2 t (subst (λ p. IsKindPoint program p t) g.3 k);
    },
  )
  both_stay here before ws (over outcome t) g k = tt

  within : (here : Here) (ws : List Wait) (choices : List Bool) (its : Placed) (s : State) → slice_get here.function.code.ops here.at ≡ Some its
      → is_inside its.op ≡ true → Stack program Fact End here s.machine ws
      → RanTo End (Stays program Fact End here s.machine ws) (by_stack program its.at (point_of here ws choices) its.op here.stack s)
  within here ws choices its s there inside stack =
      both_stay here s.machine ws (by_stack program its.at (point_of here ws choices) its.op here.stack s)
      (within_goes program may sets impact End (λ outcome t. tt) here ws choices its s fact.good there (deep_of here ws choices s its there kinds)
      (λ place is. told.shifts here.fn here.function fact.good.found here.at its there place is)
      (λ p is it found. told.routines here.fn here.function fact.good.found here.at its there p is it found)
      (λ x is g so. told.sets_own here.fn here.function fact.good.found here.at its there g (is ∙ ap op.Set so))
      (slot_of here ws choices s its there kinds) (brings here ws choices s its there kinds End (λ outcome t. tt) fact.good) its.op refl inside)
      (subst (λ placed. steps.RanTo (IsKindPoint program) (stepped_at program (point_of here ws choices) placed s)) there
      (stepped_kinds program typed (point_of here ws choices) s kinds))
    where
      fact : Fact here s.machine ws
      fact = top_of here s.machine ws stack

      kinds : IsKindPoint program (point_of here ws choices) s
      kinds = from_kinds here ws choices s fact.kinds

  -- ---- the begin of a call

  module _ (here : Here) (ws : List Wait) (fn : ℕ) (function : CodeFunction) (s : State)
      (waits : IsWait program (record { here = here; machine = s.machine; called = fn; callee = function })) (fact : Fact here s.machine ws) where
    -- the call that waits
    abbrev waiting : Wait
    waiting = record { here = here; machine = s.machine; called = fn; callee = function }

    -- what the begin of the call does to the machine
    abbrev begin : Done (Unit {0})
    begin = opened program.setting function.parameters function.variables (taken function.parameters here.stack) s.machine

    begun_kinds : steps.RanTo (IsKindPoint program)
        (then_with (λ it. give (point_of (beginning fn function s.machine) (waiting ∷ ws) [])) (ran_at waits.its.at s begin))
    begun_kinds =
        subst (λ f. steps.RanTo (IsKindPoint program) (function_called program waits.its.at (point_of here ws []) f (record s { turns = suc s.turns })))
        waits.callee
        (subst (λ o. steps.RanTo (IsKindPoint program) (by_stack program waits.its.at (point_of here ws []) o here.stack (record s { turns = suc s.turns })))
        waits.calls
        (subst (λ placed. steps.RanTo (IsKindPoint program) (stepped_at program (point_of here ws []) placed (record s { turns = suc s.turns }))) waits.there
        (stepped_kinds program typed (point_of here ws []) (record s { turns = suc s.turns })
        (from_kinds here ws [] (record s { turns = suc s.turns }) fact.kinds))))

    both_begin : (at other : Pos) (r : Done (Unit {0}))
        → RanTo End (λ it t. Good program may sets impact (beginning fn function s.machine) t.machine (waiting ∷ ws)) (ran_at at s r)
        → steps.RanTo (IsKindPoint program) (then_with (λ it. give (point_of (beginning fn function s.machine) (waiting ∷ ws) [])) (ran_at other s r))
        → RanTo End (λ it t. Fact (beginning fn function s.machine) t.machine (waiting ∷ ws)) (ran_at at s r)
    both_begin at other (done it after) g k =
        record { good = g; kinds = to_kinds (beginning fn function s.machine) (waiting ∷ ws) [] (record s { machine = after }) k }
    both_begin at other (stopped why after) g k = tt

    entered_fact : (at : Pos) → RanTo End (λ it t. Fact (beginning fn function s.machine) t.machine (waiting ∷ ws))
        (acts at (opened program.setting function.parameters function.variables (taken function.parameters here.stack)) s)
    entered_fact at =
        both_begin at waits.its.at begin
        (entered_good program may sets impact End (λ outcome t. tt) waiting ws waits fact.good at s refl) begun_kinds

  -- ---- the end of a call

  -- as many values are left as the call did not take
  pub call_deep : (w : Wait) (ws : List Wait) (waits : IsWait program w) → Fact w.here w.machine ws
      → waits.its.places - taken_by (scope_of program w.here.function) (op.Call w.called) ≡ length (below w.callee.parameters w.here.stack)
  call_deep w ws waits fact =
      ap (λ k. waits.its.places - k) taken_count ∙ ap (λ n. n - w.callee.parameters) deep ∙ below_length w.callee.parameters w.here.stack held
    where
      deep : waits.its.places ≡ length w.here.stack
      deep = deep_of w.here ws [] (on_machine w.machine) waits.its waits.there fact.kinds

      parameters_are : length (types_of (take w.callee.parameters w.callee.variables)) ≡ w.callee.parameters
      parameters_are =
          count_types (take w.callee.parameters w.callee.variables)
          ∙ length-take-le w.callee.parameters w.callee.variables (typed.stacked w.called w.callee waits.callee).parameters

      taken_count : taken_by (scope_of program w.here.function) (op.Call w.called) ≡ w.callee.parameters
      taken_count =
          ap parameter_count (signature_there w.called program.functions ∙ ap (option_map signature_of) waits.callee) ∙ parameters_are

      held : holds w.callee.parameters w.here.stack ≡ true
      held =
          by_callee (subst (Suits program (point_of w.here ws []) (on_machine w.machine)
          (stepped_suits program typed (point_of w.here ws []) (on_machine w.machine) fact.kinds).function) waits.calls
          (suits w.here ws [] (on_machine w.machine) waits.its waits.there fact.kinds))
        where
          by_callee : (callee : CodeFunction) × (slice_get program.functions w.called ≡ Some callee)
              × HasThem (reverse (map (kind_of program.setting.types) (types_of (take callee.parameters callee.variables)))) w.here.stack
              → holds w.callee.parameters w.here.stack ≡ true
          by_callee it =
              subst (λ n. holds n w.here.stack ≡ true)
              (length-reverse (map (kind_of program.setting.types) (types_of (take it.0.parameters it.0.variables)))
              ∙ length-map (types_of (take it.0.parameters it.0.variables)) (kind_of program.setting.types)
              ∙ ap (λ (f : CodeFunction). length (types_of (take f.parameters f.variables))) (same_Some it.0 w.callee (sym it.1 ∙ waits.callee))
              ∙ parameters_are) it.2.holds

  returned_fact : (here : Here) (w : Wait) (ws : List Wait) (its : Placed) (value : Value) (rest : List Value) (machine : Machine)
      → slice_get here.function.code.ops here.at ≡ Some its → its.op ≡ op.Return → here.stack ≡ value ∷ rest
      → Stack program Fact End here machine (w ∷ ws) → Fact (resumed w value here.lasting) (closed w.machine.locals machine) ws
  returned_fact here w ws its value rest machine there is so stack =
      record {
        good =
            returned_good program may sets impact told.closed told.unlocked told.disposed told.assigned here machine w ws stack.1 value rest so
            (call_deep w ws stack.1 (top_of w.here w.machine ws stack.2)) stack.0.good (top_of w.here w.machine ws stack.2).good;
        kinds = to_kinds (resumed w value here.lasting) ws [] (record (on_machine machine) { machine = closed w.machine.locals machine }) back;
      }
    where
      back : steps.RanTo (IsKindPoint program) (by_stack program its.at (point_of here (w ∷ ws) []) op.Return (value ∷ rest) (on_machine machine))
      back =
          subst (λ values. steps.RanTo (IsKindPoint program) (by_stack program its.at (point_of here (w ∷ ws) []) op.Return values (on_machine machine))) so
          (subst (λ o. steps.RanTo (IsKindPoint program) (by_stack program its.at (point_of here (w ∷ ws) []) o here.stack (on_machine machine))) is
          (subst (λ placed. steps.RanTo (IsKindPoint program) (stepped_at program (point_of here (w ∷ ws) []) placed (on_machine machine))) there
          (stepped_kinds program typed (point_of here (w ∷ ws) []) (on_machine machine) stack.0.kinds)))

  -- ---- the rules

  pub rules : Rules program Fact End
  rules =
      record {
        within = within;
        entered = λ here ws its fn function s waits stack. entered_fact here ws fn function s waits (top_of here s.machine ws stack) its.at;
        returned = returned_fact;
        ends = λ outcome s. tt;
      }

  -- a step leads from calls of which it holds to calls of which it holds
  pub fact_steps : (here : Here) (ws : List Wait) (choices : List Bool) (s : State) → Stack program Fact End here s.machine ws
      → RanTo End (Goes program Fact End) (stepped program (point_of here ws choices) s)
  fact_steps = calls.steps program Fact End rules

  -- where a run begins, it holds
  pub fact_begins : (input : Input) (schedule : List Decision) (turns : ℕ) (choices : List Bool) (function : CodeFunction)
      → slice_get program.functions program.main ≡ Some function
      → steps.RanTo (IsKindPoint program) (begun program choices function (starting program.setting input schedule turns))
      → RanTo End (Goes program Fact End) (begun program choices function (starting program.setting input schedule turns))
  fact_begins input schedule turns choices function found kinds =
      by_done (opened program.setting function.parameters function.variables [] (starting_machine program.setting input))
      (begun_good program may sets impact input function found) kinds
    where
      by_done : (r : Done (Unit {0}))
          → OnDone (λ it after. Good program may sets impact (beginning program.main function (starting_machine program.setting input)) after []) r
          → steps.RanTo (IsKindPoint program)
          (then_with (λ it. give (starting_point function choices)) (ran_at function.opening (starting program.setting input schedule turns) r))
          → RanTo End (Goes program Fact End)
          (then_with (λ it. give (starting_point function choices)) (ran_at function.opening (starting program.setting input schedule turns) r))
      by_done (done it after) g k = (
        beginning program.main function (starting_machine program.setting input),
        [],
        choices,
        refl,
        record {
          good = g;
          kinds = to_kinds (beginning program.main function (starting_machine program.setting input)) [] choices
              (record (starting program.setting input schedule turns) { machine = after }) k;
        },
      )
      by_done (stopped why after) g k = tt
