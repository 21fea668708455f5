-- Each operation inside a call keeps what holds of the call (own).
--     within_goes       by the operation
use Rattle.std.proofs.Common.{◌≡◌, ◌⊎◌, inl, inr, ℕ, zero, suc, Bool, true, false, List, [], ◌∷◌, length, Option, Some, None, refl, sym, subst, slice_get, map, true≢false, ◌==◌, pos}
use Rattle.hs_calls.specs.Calls.{Here, Wait, point_of, waiting_of}
use Rattle.hs_calls.specs.Changing.{since, decision_effects}
use Rattle.hs_calls.specs.Stacks.{RanTo, Stays, is_inside}
use Rattle.hs_code.specs.Following.{IsNext}
use Rattle.hs_code.specs.Stacks.{Scope}
use Rattle.hs_code.specs.declared.function_code.Placed.{Placed}
use Rattle.hs_code.specs.declared.op.Access as code_access
use Rattle.hs_code.specs.declared.op.Binary.TheVariants as binary
use Rattle.hs_code.specs.declared.op.Goal.{Goal}
use Rattle.hs_code.specs.declared.op.Object.{Object}
use Rattle.hs_code.specs.declared.op.Object.TheVariants as object
use Rattle.hs_code.specs.declared.op.Op.{Op}
use Rattle.hs_code.specs.declared.op.Op.TheVariants as op
use Rattle.hs_code.specs.declared.op.Unary.TheVariants as unary
use Rattle.hs_code_run.specs.Codes.{CodeProgram, scope_of, Point}
use Rattle.hs_code_run.specs.Laws.Depths.Control.{case_follows}
use Rattle.hs_code_run.specs.Steps.{holds, operates_if, onward, onto, onto_if, case_for, by_stack, next_choice, later_choices, address_at, brought, access_of, operates}
use Rattle.hs_facts.specs.Changes.{Impact}
use Rattle.hs_facts.specs.Names.{taken as taken_by}
use Rattle.hs_heap.specs.declared.cell.Pointer.TheVariants.{Nil, Fixed}
use Rattle.hs_lowering.specs.Laws.Variables as variables
use Rattle.hs_meaning.specs.Evaluation.{located, address_of}
use Rattle.hs_meaning.specs.Laws.Changes.Operations.{SpeaksOf}
use Rattle.hs_meaning.specs.Machine.{Binding, slot, object_at, binding_of}
use Rattle.hs_meaning.specs.Objects.{object_of_base}
use Rattle.hs_meaning.specs.Operations as operation
use Rattle.hs_meaning.specs.Operations.{Operation}
use Rattle.hs_meaning.specs.Steps.{State, then_with, ran_at, give, acts, turn_from}
use Rattle.hs_meaning.specs.Values.{Value, number, pointer}
use Rattle.hs_meaning.specs.declared.outcome.Outcome.{Outcome}
use Rattle.hs_sound_heap.specs.Roles.{nothing}
use Rattle.hs_sound_heap.specs.Since.{May, IsWithin}
use Rattle.hs_tree.specs.declared.constant.Base.TheVariants as base
use Rattle.hs_tree.specs.declared.function.BoundRoutine.{BoundRoutine}
use Rattle.hs_tree.specs.declared.head.Variable.{Variable}
use Rattle.hs_tree.specs.declared.head.Variable.TheVariants as name
use Rattle.hs_true.specs.BareSteps.{bare_operates, keeps_stack, used_goes, pushes, drops}
use Rattle.hs_true.specs.CopySteps.{get_goes, dup_goes, conv_goes}
use Rattle.hs_true.specs.LoadStep.{load_goes}
use Rattle.hs_true.specs.RoutineStep.{routine_goes, MayRun}
use Rattle.hs_true.specs.SetStep.{set_goes}
use Rattle.hs_true.specs.Setting.{IsSlot}
use Rattle.hs_true.specs.ShiftStep.{shift_goes}
use Rattle.hs_true.specs.TuckStep.{tuck_goes}
use Rattle.hs_truth.specs.Bare.{IsBare}
use Rattle.hs_truth.specs.Good.{Good}
use Rattle.hs_truth.specs.Linked.{since_of}
use Rattle.hs_types.specs.declared.integer.Integer.{Integer}

module _ (program : CodeProgram) (may : ℕ → May) (sets : ℕ → ℕ → Bool) (impact : Impact) (E : Outcome → State → Type 0)
    (ends : (outcome : Outcome) (s : State) → E outcome s) (here : Here) (ws : List Wait) (choices : List Bool) (its : Placed) (s : State)
    (good : Good program may sets impact here s.machine ws) (there : slice_get here.function.code.ops here.at ≡ Some its)
    (deep : its.places ≡ length here.stack) where
  -- the point of the operation
  abbrev point : Point
  point = point_of here ws choices

  -- what facts of the function depend on
  abbrev scope : Scope
  scope = scope_of program here.function

  -- what a purgeable bit shows of the begin of the call
  abbrev marked_by : ℕ → Type 0
  marked_by = since_of may sets here.fn ws

  -- the call goes on
  abbrev GoesOn : Point → State → Type 0
  GoesOn = Stays program (Good program may sets impact) E here s.machine ws

  -- one value at least
  one_value : (stack : List Value) → holds 1 stack ≡ true → (v : Value) × (rest : List Value) × (stack ≡ v ∷ rest)
  one_value [] held = absurd (true≢false (sym held))
  one_value (v ∷ rest) held = (v, rest, refl)

  -- what an operation owes that is not in the table
  abbrev Bare : Op → Type 1
  Bare = IsBare program may sets impact here ws its s.machine good there

  -- the value of an address is no handle
  address_goes : (o : Object) → its.op ≡ op.Address o
      → RanTo E GoesOn (then_with (λ value. give (onward point (value ∷ here.stack))) (address_at its.at program.setting o s))
  address_goes (object.Literal place) is =
      pushes program may sets impact E ends here ws choices its s good there deep (op.Address (object.Literal place)) is
      (record { under = λ R fact it. it; none = λ R fact it. it }) refl refl
      (pointer (Fixed (object_of_base program.setting (base.Literal place)) (pos 0))) (λ n. tt)
  address_goes (object.Variable x) is = by_binding (binding_of x s.machine)
    where
      by_binding : (found : Option Binding)
          → RanTo E GoesOn (then_with (λ value. give (onward point (value ∷ here.stack)))
          (then_with (λ place. acts its.at (address_of place)) (ran_at its.at s (located x found s.machine))))
      by_binding None = ends _ _
      by_binding (Some (slot value)) = ends _ _
      by_binding (Some (object_at place)) =
          pushes program may sets impact E ends here ws choices its s good there deep (op.Address (object.Variable x)) is
          (record { under = λ R fact it. it; none = λ R fact it. it }) refl refl (pointer (Fixed place (pos 0))) (λ n. tt)

  module _ (shifts : (place : ℕ) → its.op ≡ op.Shift place → IsWithin (decision_effects (slice_get program.setting.routines place)) (may here.fn))
      (routines : (p : ℕ) → its.op ≡ op.Routine p → (it : BoundRoutine) → slice_get program.setting.routines p ≡ Some it
      → MayRun program may sets impact E ends here ws choices its s good there deep p it)
      (assigned : (x : Variable) → its.op ≡ op.Set x → (g : ℕ) → x ≡ name.Global g → sets here.fn g ≡ true)
      (a_slot : (x : Variable) → its.op ≡ op.Set x → IsSlot s.machine x)
      (brings : (place : ℕ) → its.op ≡ op.Bring place → GoesOn (onward point (brought place here.stack)) s) where
    -- operations that take values and leave one, and are not in the table
    bare_goes : (o : Op) → its.op ≡ o → Bare o → (count : ℕ) (operation : Operation) → taken_by scope o ≡ count → variables.is_set operation ≡ false
        → SpeaksOf (since nothing) program.setting operation → SpeaksOf (since (may here.fn)) program.setting operation
        → IsNext o here.function.code.cases here.at (suc here.at)
        → RanTo E GoesOn (operates_if program its.at point (holds count here.stack) count operation s)
    bare_goes o is bare count operation same no_set quiet permits next =
        bare_operates program may sets impact E ends here ws choices its s good there deep o is bare count operation same no_set quiet permits next
        (holds count here.stack) refl

    set_step : (x : Variable) → its.op ≡ op.Set x → (b : Bool) → holds 1 here.stack ≡ b
        → RanTo E GoesOn (operates_if program its.at point b 1 (operation.set x) s)
    set_step x is false held = ends _ _
    set_step x is true held = on (one_value here.stack held)
      where
        on : (v : Value) × (rest : List Value) × (here.stack ≡ v ∷ rest) → RanTo E GoesOn (operates program its.at point 1 (operation.set x) s)
        on top =
            subst (λ b. RanTo E GoesOn (operates_if program its.at point b 1 (operation.set x) s)) held
            (set_goes program may sets impact E ends here ws choices its s good there x is deep (a_slot x is) (assigned x is) top.0 top.1 top.2)

    load_step : (access : code_access.Access) → its.op ≡ op.Load access → (b : Bool) → holds 1 here.stack ≡ b
        → RanTo E GoesOn (operates_if program its.at point b 1 (operation.load (access_of access)) s)
    load_step access is false held = ends _ _
    load_step access is true held = on (one_value here.stack held)
      where
        on : (v : Value) × (rest : List Value) × (here.stack ≡ v ∷ rest)
            → RanTo E GoesOn (operates program its.at point 1 (operation.load (access_of access)) s)
        on top = load_goes program may sets impact E ends here ws choices its s good there deep access is top.0 top.1 top.2

    conv_step : (kind : Integer) → its.op ≡ op.Conv kind → (b : Bool) → holds 1 here.stack ≡ b
        → RanTo E GoesOn (operates_if program its.at point b 1 (operation.convert kind) s)
    conv_step kind is false held = ends _ _
    conv_step kind is true held = on (one_value here.stack held)
      where
        on : (v : Value) × (rest : List Value) × (here.stack ≡ v ∷ rest) → RanTo E GoesOn (operates program its.at point 1 (operation.convert kind) s)
        on top = conv_goes program may sets impact E ends here ws choices its s good there deep kind is top.0 top.1 top.2

    drop_step : its.op ≡ op.Drop → (stack : List Value) → here.stack ≡ stack → RanTo E GoesOn (by_stack program its.at point op.Drop stack s)
    drop_step is [] so = ends _ _
    drop_step is (v ∷ rest) so =
        drops program may sets impact E ends here ws choices its s good there deep op.Drop is
        (record { under = λ R fact it. it; none = λ R fact it. it }) refl v
        rest so (suc here.at) refl

    dup_step : its.op ≡ op.Dup → (stack : List Value) → here.stack ≡ stack → RanTo E GoesOn (by_stack program its.at point op.Dup stack s)
    dup_step is [] so = ends _ _
    dup_step is (v ∷ rest) so = dup_goes program may sets impact E ends here ws choices its s good there deep is v rest so

    tuck_step : its.op ≡ op.Tuck → (stack : List Value) → here.stack ≡ stack → RanTo E GoesOn (by_stack program its.at point op.Tuck stack s)
    tuck_step is [] so = ends _ _
    tuck_step is (v ∷ []) so = ends _ _
    tuck_step is (v ∷ u ∷ rest) so = tuck_goes program may sets impact E ends here ws choices its s good there deep is v u rest so

    zero_step : (target : ℕ) → its.op ≡ op.Zero target → (stack : List Value) → here.stack ≡ stack
        → RanTo E GoesOn (by_stack program its.at point (op.Zero target) stack s)
    zero_step target is [] so = ends _ _
    zero_step target is (v ∷ rest) so =
        used_goes program may sets impact E ends here ws choices its s good there deep v (λ bits. give (onto_if (bits == 0) point target rest))
        (λ bits. by_bit (bits == 0))
      where
        to : (at : ℕ) → (at ≡ suc here.at) ⊎ (at ≡ target)
            → GoesOn (record { frame = record { code = here.function.code; at = at; stack = rest }; waiting = map waiting_of ws; choices = choices }) s
        to at next =
            drops program may sets impact E ends here ws choices its s good there deep (op.Zero target) is
            (record { under = λ R fact it. it; none = λ R fact it. it }) refl v rest so at next

        by_bit : (b : Bool) → GoesOn (onto_if b point target rest) s
        by_bit true = to target (inr refl)
        by_bit false = to (suc here.at) (inl refl)

    choose_step : (goal : Goal) → its.op ≡ op.Choose goal → (stack : List Value) → here.stack ≡ stack
        → RanTo E GoesOn (by_stack program its.at point (op.Choose goal) stack s)
    choose_step goal is [] so = ends _ _
    choose_step goal is (v ∷ rest) so =
        used_goes program may sets impact E ends here ws choices its s good there deep v
        (λ bits. give (onto point (case_for bits goal here.function.code.cases) rest))
        (λ bits. drops program may sets impact E ends here ws choices its s good there deep (op.Choose goal) is
        (record { under = λ R fact it. it; none = λ R fact it. it }) refl v rest so (case_for bits goal here.function.code.cases)
        (case_follows bits goal here.function.code.cases))

    turn_step : its.op ≡ op.Turn → (turns : ℕ) → RanTo E GoesOn (then_with (λ it. give (onward point here.stack)) (turn_from turns s))
    turn_step is zero = ends _ _
    turn_step is (suc left) =
        keeps_stack program may sets impact E ends here ws choices its s good there deep op.Turn is (record { under = λ R fact it. it; none = λ R fact it. it })
        refl (suc here.at) refl choices left

    pick_step : (target : ℕ) → its.op ≡ op.Pick target → (b : Bool)
        → GoesOn (record (onto_if b point target here.stack) { choices = later_choices choices }) s
    pick_step target is true =
        keeps_stack program may sets impact E ends here ws choices its s good there deep (op.Pick target) is
        (record { under = λ R fact it. it; none = λ R fact it. it }) refl target (inr refl) (later_choices choices) s.turns
    pick_step target is false =
        keeps_stack program may sets impact E ends here ws choices its s good there deep (op.Pick target) is
        (record { under = λ R fact it. it; none = λ R fact it. it }) refl (suc here.at) (inl refl) (later_choices choices) s.turns

    -- each operation inside a call
    pub within_goes : (o : Op) → its.op ≡ o → is_inside o ≡ true → RanTo E GoesOn (by_stack program its.at point o here.stack s)
    within_goes (op.Num bits) is inside =
        pushes program may sets impact E ends here ws choices its s good there deep (op.Num bits) is
        (record { under = λ R fact it. it; none = λ R fact it. it }) refl refl (number bits) (λ n. tt)
    within_goes op.Nil is inside =
        pushes program may sets impact E ends here ws choices its s good there deep op.Nil is (record { under = λ R fact it. it; none = λ R fact it. it })
        refl refl (pointer Nil) (λ n. tt)
    within_goes (op.Address o) is inside = address_goes o is
    within_goes (op.Get x) is inside = get_goes program may sets impact E ends here ws choices its s good there deep x is
    within_goes (op.Set x) is inside = set_step x is (holds 1 here.stack) refl
    within_goes (op.Load access) is inside = load_step access is (holds 1 here.stack) refl
    within_goes (op.Store access) is inside =
        bare_goes (op.Store access) is (record { under = λ R fact it. it; none = λ R fact it. it }) 2 (operation.store (access_of access)) refl refl tt tt refl
    within_goes op.Drop is inside = drop_step is here.stack refl
    within_goes op.Dup is inside = dup_step is here.stack refl
    within_goes op.Tuck is inside = tuck_step is here.stack refl
    within_goes (op.Conv kind) is inside = conv_step kind is (holds 1 here.stack) refl
    within_goes (op.Unary (unary.Sign u)) is inside =
        bare_goes (op.Unary (unary.Sign u)) is (record { under = λ R fact it. it; none = λ R fact it. it }) 1 (operation.sign u) refl refl tt tt refl
    within_goes (op.Unary unary.Not) is inside =
        bare_goes (op.Unary unary.Not) is (record { under = λ R fact it. it; none = λ R fact it. it }) 1 operation.not_ refl refl tt tt refl
    within_goes (op.Binary (binary.Arithmetic a) kind) is inside =
        bare_goes (op.Binary (binary.Arithmetic a) kind) is (record { under = λ R fact it. it; none = λ R fact it. it }) 2 (operation.arithmetic a kind) refl
        refl tt tt refl
    within_goes (op.Binary (binary.Comparison a) kind) is inside =
        bare_goes (op.Binary (binary.Comparison a) kind) is (record { under = λ R fact it. it; none = λ R fact it. it }) 2 (operation.comparison a kind) refl
        refl tt tt refl
    within_goes op.IsNil is inside =
        bare_goes op.IsNil is (record { under = λ R fact it. it; none = λ R fact it. it }) 1 operation.is_nil refl refl tt tt refl
    within_goes (op.Compare c) is inside =
        bare_goes (op.Compare c) is (record { under = λ R fact it. it; none = λ R fact it. it }) 2 (operation.compare c) refl refl tt tt refl
    within_goes (op.Difference size) is inside =
        bare_goes (op.Difference size) is (record { under = λ R fact it. it; none = λ R fact it. it }) 2 (operation.difference size) refl refl tt tt refl
    within_goes (op.Offset bytes) is inside =
        bare_goes (op.Offset bytes) is (record { under = λ R fact it. it; none = λ R fact it. it }) 1 (operation.offset bytes) refl refl tt tt refl
    within_goes (op.Step stride z) is inside =
        bare_goes (op.Step stride z) is (record { under = λ R fact it. it; none = λ R fact it. it }) 2 (operation.step stride z) refl refl tt tt refl
    within_goes (op.Jump target) is inside =
        keeps_stack program may sets impact E ends here ws choices its s good there deep (op.Jump target) is
        (record { under = λ R fact it. it; none = λ R fact it. it }) refl target refl choices s.turns
    within_goes (op.Zero target) is inside = zero_step target is here.stack refl
    within_goes (op.Choose goal) is inside = choose_step goal is here.stack refl
    within_goes (op.Shift place) is inside =
        shift_goes program may sets impact E ends here ws choices its s good there deep place is (record { under = λ R fact it. it; none = λ R fact it. it })
        (shifts place is)
    within_goes (op.Routine p) is inside = routine_goes program may sets impact E ends here ws choices its s good there deep p is (routines p is)
    within_goes (op.Call fn) is inside = absurd cc
    within_goes op.Return is inside = absurd cc
    within_goes op.Turn is inside = turn_step is s.turns
    within_goes op.Mark is inside =
        keeps_stack program may sets impact E ends here ws choices its s good there deep op.Mark is (record { under = λ R fact it. it; none = λ R fact it. it })
        refl (suc here.at) refl choices s.turns
    within_goes (op.Pick target) is inside = pick_step target is (next_choice choices)
    within_goes (op.Bring place) is inside = brings place is
