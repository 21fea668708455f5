-- The step of Tuck: the value of the top is copied below the next one (own).
--     tuck_goes
use Rattle.std.proofs.Common.{◌≡◌, ◌<◌, ◌≤◌, ◌-◌, ◌⊎◌, inl, inr, ℕ, suc, Bool, true, false, List, ◌∷◌, length, Some, refl, sym, ap, ◌∙◌, subst, arith, ◌&&◌, slice_get, ◌==◌, if◌then◌else◌}
use Rattle.std.proofs.lemmas.Bool.Decides.{nat_tests}
use Rattle.std.specs.List.{AllByRecursion}
use Rattle.hs_calls.specs.Calls.{Here, moved, Wait, point_of, steady_in}
use Rattle.hs_calls.specs.Stacks.{Stays}
use Rattle.hs_code.specs.Following.{IsNext}
use Rattle.hs_code.specs.Stacks.{Scope}
use Rattle.hs_code.specs.declared.function_code.Placed.{Placed}
use Rattle.hs_code.specs.declared.op.Op.TheVariants as op
use Rattle.hs_code_run.specs.Codes.{CodeProgram, scope_of, Point}
use Rattle.hs_code_run.specs.Steps.{onward}
use Rattle.hs_facts.specs.Changes as changes
use Rattle.hs_facts.specs.Changes.{Impact}
use Rattle.hs_facts.specs.MustFacts.{Keeper, MustFact, With, Saved, Kept, on_stack, in_slot, Under, AreNames}
use Rattle.hs_hiding.specs.Holding.{Lacks, value_of}
use Rattle.hs_meaning.specs.Steps.{State}
use Rattle.hs_meaning.specs.Values.{Value, state}
use Rattle.hs_meaning.specs.declared.outcome.Outcome.{Outcome}
use Rattle.hs_sound_heap.specs.Roles.{nothing}
use Rattle.hs_sound_heap.specs.Since.{since_refl, May}
use Rattle.hs_tree.specs.declared.head.Variable.{Variable}
use Rattle.hs_true.specs.BareSteps.{on_same}
use Rattle.hs_true.specs.CopySteps.{copied_plain}
use Rattle.hs_truth.specs.Bare.{of_op}
use Rattle.hs_truth.specs.Good.{Good}
use Rattle.hs_truth.specs.Linked.{since_of}
use Rattle.hs_truth.specs.Places.{place_low, OthersLack, under_top, at_place, the_top}
use Rattle.hs_truth.specs.Quiet.{copies_true, IsPlain}
use Rattle.hs_truth.specs.Truth.{kept_in, Says, SoundAt}

module _ (program : CodeProgram) (may : ℕ → May) (sets : ℕ → ℕ → Bool) (impact : Impact) (E : Outcome → State → Type 0)
    (ends : (outcome : Outcome) (s : State) → E outcome s) (here : Here) (ws : List Wait) (choices : List Bool) (its : Placed) (s : State)
    (good : Good program may sets impact here s.machine ws) (there : slice_get here.function.code.ops here.at ≡ Some its)
    (deep : its.places ≡ length here.stack) where
  -- the point of the operation
  abbrev point : Point
  point = point_of here ws choices

  -- what facts of the function depend on
  abbrev scope : Scope
  scope = scope_of program here.function

  -- what a purgeable bit shows of the begin of the call
  abbrev marked_by : ℕ → Type 0
  marked_by = since_of may sets here.fn ws

  -- the call goes on
  abbrev GoesOn : Point → State → Type 0
  GoesOn = Stays program (Good program may sets impact) E here s.machine ws

  -- the three values of the top, and what is below them
  abbrev tucked : Value → Value → List Value → List Value
  tucked v u rest = v ∷ u ∷ v ∷ rest

  same_number : (a b : ℕ) → (a == b) ≡ true → a ≡ b
  same_number a b is = grind (is, nat_tests, arith)

  other_number : (a b : ℕ) → (a == b) ≡ false → a ≡ b → ⊥
  other_number a b is so = grind (is, so, nat_tests, arith)

  module _ (is : its.op ≡ op.Tuck) (v u : Value) (rest : List Value) (so : here.stack ≡ v ∷ u ∷ rest) where
    depth_is : its.places ≡ suc (suc (length rest))
    depth_is = deep ∙ ap length so

    first_is : its.places - 2 ≡ length rest
    first_is = omega (depth_is, arith)

    top_is : its.places - 1 ≡ suc (length rest)
    top_is = omega (depth_is, arith)

    at_first : at_place (its.places - 1) here.stack ≡ Some v
    at_first = ap (at_place (its.places - 1)) so ∙ the_top (its.places - 1) v (u ∷ rest) top_is

    at_second : at_place (its.places - 2) here.stack ≡ Some u
    at_second =
        ap (at_place (its.places - 2)) so ∙ under_top (its.places - 2) v (u ∷ rest) (omega (first_is, arith)) ∙ the_top (its.places - 2) u rest first_is

    -- where the value of a place was
    abbrev source : ℕ → Keeper
    source i = if i == its.places - 1 then on_stack (its.places - 2) else on_stack (its.places - 1)

    source_middle : (i : ℕ) → i ≡ its.places - 1 → source i ≡ on_stack (its.places - 2)
    source_middle i at = by_test (i == its.places - 1) refl
      where
        by_test : (z : Bool) → (i == its.places - 1) ≡ z → (if z then on_stack (its.places - 2) else on_stack (its.places - 1)) ≡ on_stack (its.places - 2)
        by_test true is = refl
        by_test false is = absurd (other_number i (its.places - 1) is at)

    source_other : (i : ℕ) → (i ≡ its.places - 1 → ⊥) → source i ≡ on_stack (its.places - 1)
    source_other i other = by_test (i == its.places - 1) refl
      where
        by_test : (z : Bool) → (i == its.places - 1) ≡ z → (if z then on_stack (its.places - 2) else on_stack (its.places - 1)) ≡ on_stack (its.places - 1)
        by_test true is = absurd (other (same_number i (its.places - 1) is))
        by_test false is = refl

    -- the values of the new places
    low_value : (i : ℕ) → i ≡ its.places - 2 → at_place i (tucked v u rest) ≡ Some v
    low_value i at =
        under_top i v (u ∷ v ∷ rest) (omega (at, first_is, arith)) ∙ under_top i u (v ∷ rest) (omega (at, first_is, arith))
        ∙ the_top i v rest (at ∙ first_is)

    middle_value : (i : ℕ) → i ≡ its.places - 1 → at_place i (tucked v u rest) ≡ Some u
    middle_value i at = under_top i v (u ∷ v ∷ rest) (omega (at, top_is, arith)) ∙ the_top i u (v ∷ rest) (at ∙ top_is)

    high_value : (i : ℕ) → i ≡ its.places → at_place i (tucked v u rest) ≡ Some v
    high_value i at = the_top i v (u ∷ v ∷ rest) (at ∙ depth_is)

    -- which place it is
    which : (i : ℕ) (w : Value) → length rest ≤ i → at_place i (tucked v u rest) ≡ Some w
        → (i ≡ its.places - 2) ⊎ (i ≡ its.places - 1) ⊎ (i ≡ its.places)
    which i w high held = by_tests (i == its.places - 2) (i == its.places - 1) refl refl
      where
        by_tests : (a b : Bool) → (i == its.places - 2) ≡ a → (i == its.places - 1) ≡ b
            → (i ≡ its.places - 2) ⊎ (i ≡ its.places - 1) ⊎ (i ≡ its.places)
        by_tests true b is so = inl (same_number i (its.places - 2) is)
        by_tests false true is so = inr (inl (same_number i (its.places - 1) so))
        by_tests false false is so =
            inr (inr (last_one i (its.places - 2) (its.places - 1) (other_number i (its.places - 2) is) (other_number i (its.places - 1) so)
            first_is top_is depth_is high (place_low i (tucked v u rest) w held)))
          where
            last_one : (i a b : ℕ) → (i ≡ a → ⊥) → (i ≡ b → ⊥) → a ≡ length rest → b ≡ suc (length rest) → its.places ≡ suc (suc (length rest))
                → length rest ≤ i → i < suc (suc (suc (length rest))) → i ≡ its.places
            last_one i a b not_a not_b first second third high low = by_rest (i == its.places) refl
              where
                by_rest : (z : Bool) → (i == its.places) ≡ z → i ≡ its.places
                by_rest true is = same_number i its.places is
                by_rest false is = absurd (grind (not_a, not_b, other_number i its.places is, first, second, third, high, low, arith))

    same : (i byte : ℕ) → length rest ≤ i → at_place i (tucked v u rest) ≡ Some (state byte) → kept_in here s.machine (source i) ≡ Some (state byte)
    same i byte high held = by_which (which i (state byte) high held)
      where
        by_which : (i ≡ its.places - 2) ⊎ (i ≡ its.places - 1) ⊎ (i ≡ its.places) → kept_in here s.machine (source i) ≡ Some (state byte)
        by_which (inl at) =
            ap (kept_in here s.machine) (source_other i (λ so. omega (at, so, first_is, top_is, arith))) ∙ at_first ∙ sym (low_value i at) ∙ held
        by_which (inr (inl at)) = ap (kept_in here s.machine) (source_middle i at) ∙ at_second ∙ sym (middle_value i at) ∙ held
        by_which (inr (inr at)) =
            ap (kept_in here s.machine) (source_other i (λ so. omega (at, so, top_is, depth_is, arith))) ∙ at_first ∙ sym (high_value i at) ∙ held

    tuck_sound : SoundAt scope here.function.code impact marked_by its here s.machine
        (moved here (suc here.at) (tucked v u rest) (λ k. here.lasting k && steady_in s.machine s.machine k)) s.machine
    tuck_sound R names are =
        of_op program may sets impact here ws its s.machine good there R op.Tuck
        (moved here (suc here.at) (tucked v u rest) (λ k. here.lasting k && steady_in s.machine s.machine k)) s.machine is
        (copies_true scope here.function.code R (changes.Stays scope here.function.code impact R op.Tuck its.places)
        (changes.Brings scope here.function.code impact R op.Tuck its.places) (length rest) here s.machine s.machine marked_by are (suc here.at)
        (tucked v u rest) good.lasts (λ x. refl) nothing (since_refl nothing s.machine.blocks) refl refl
        (record {
          under = λ fact keep. subst (λ k. Under k fact) first_is keep;
          places = places;
          others = λ i n keep it. (others i n (subst (λ k. i < k) first_is keep) (subst (OthersLack n i) so it.others), it.nowhere);
          source = source;
          same = same;
          names = named;
          saved = saved;
          kept = kept;
          others_come = plain;
        }))
      where
        places : (i : ℕ) → i < length rest → at_place i (tucked v u rest) ≡ at_place i here.stack
        places i low =
            under_top i v (u ∷ v ∷ rest) (omega (low, arith)) ∙ under_top i u (v ∷ rest) (omega (low, arith)) ∙ under_top i v rest low
            ∙ sym (ap (at_place i) so ∙ under_top i v (u ∷ rest) (omega (low, arith)) ∙ under_top i u rest low)

        others : (i n : ℕ) → i < length rest → OthersLack n i (v ∷ u ∷ rest) → OthersLack n i (tucked v u rest)
        others i n low are = (inr (first are.0), (inr (second are.1.0), (inr (first are.0), are.1.1)))
          where
            first : (i ≡ suc (length rest)) ⊎ Lacks n v → Lacks n v
            first (inl at) = absurd (omega (at, low, arith))
            first (inr it) = it

            second : (i ≡ length rest) ⊎ Lacks n u → Lacks n u
            second (inl at) = absurd (omega (at, low, arith))
            second (inr it) = it

        name_of : (i : ℕ) (w : Value) → at_place i here.stack ≡ Some w → (y : Variable) → R (With i y) → value_of s.machine y ≡ Some w
        name_of i w at y it = by_value (are.says (With i y) it)
          where
            by_value : (x : Value) × (at_place i here.stack ≡ Some x) × (value_of s.machine y ≡ Some x) → value_of s.machine y ≡ Some w
            by_value old = old.2 ∙ sym old.1 ∙ at

        named : (i : ℕ) (y : Variable) → changes.Brings scope here.function.code impact R op.Tuck its.places (With i y)
            → (w : Value) × (at_place i (tucked v u rest) ≡ Some w) × (value_of s.machine y ≡ Some w)
        named i y (inl it) = (v, low_value i it.0, name_of (its.places - 1) v at_first y it.1)
        named i y (inr (inl it)) = (u, middle_value i it.0, name_of (its.places - 2) u at_second y it.1)
        named i y (inr (inr it)) = (v, high_value i it.0, name_of (its.places - 1) v at_first y it.1)

        not_middle_low : (i : ℕ) → i ≡ its.places - 2 → i ≡ its.places - 1 → ⊥
        not_middle_low i at so = omega (at, so, first_is, top_is, arith)

        not_middle_high : (i : ℕ) → i ≡ its.places → i ≡ its.places - 1 → ⊥
        not_middle_high i at so = omega (at, so, top_is, depth_is, arith)

        saved : (b : Keeper) (y : Variable) → changes.Brings scope here.function.code impact R op.Tuck its.places (Saved b y)
            → (i : ℕ) × (b ≡ on_stack i) × (length rest ≤ i) × R (Saved (source i) y)
        saved (in_slot b) y (inl it) = absurd it
        saved (in_slot b) y (inr (inl it)) = absurd it
        saved (in_slot b) y (inr (inr it)) = absurd it
        saved (on_stack i) y (inl it) =
            (i, refl, omega (it.0, first_is, arith), subst (λ b. R (Saved b y)) (sym (source_other i (not_middle_low i it.0))) it.1)
        saved (on_stack i) y (inr (inl it)) =
            (i, refl, omega (it.0, top_is, arith), subst (λ b. R (Saved b y)) (sym (source_middle i it.0)) it.1)
        saved (on_stack i) y (inr (inr it)) =
            (i, refl, omega (it.0, depth_is, arith), subst (λ b. R (Saved b y)) (sym (source_other i (not_middle_high i it.0))) it.1)

        kept : (b : Keeper) (y : Variable) → changes.Brings scope here.function.code impact R op.Tuck its.places (Kept b y)
            → (i : ℕ) × (b ≡ on_stack i) × (length rest ≤ i) × R (Kept (source i) y)
        kept (in_slot b) y (inl it) = absurd it
        kept (in_slot b) y (inr (inl it)) = absurd it
        kept (in_slot b) y (inr (inr it)) = absurd it
        kept (on_stack i) y (inl it) =
            (i, refl, omega (it.0, first_is, arith), subst (λ b. R (Kept b y)) (sym (source_other i (not_middle_low i it.0))) it.1)
        kept (on_stack i) y (inr (inl it)) =
            (i, refl, omega (it.0, top_is, arith), subst (λ b. R (Kept b y)) (sym (source_middle i it.0)) it.1)
        kept (on_stack i) y (inr (inr it)) =
            (i, refl, omega (it.0, depth_is, arith), subst (λ b. R (Kept b y)) (sym (source_other i (not_middle_high i it.0))) it.1)

        plain : (fact : MustFact) → AreNames scope here.function.code fact → IsPlain fact
            → changes.Brings scope here.function.code impact R op.Tuck its.places fact
            → Says (moved here (suc here.at) (tucked v u rest) (λ k. here.lasting k && steady_in s.machine s.machine k)) s.machine fact
        plain fact names is_plain (inl it) = absurd (copied_plain R (its.places - 1) (its.places - 2) fact is_plain it)
        plain fact names is_plain (inr (inl it)) = absurd (copied_plain R (its.places - 2) (its.places - 1) fact is_plain it)
        plain fact names is_plain (inr (inr it)) = absurd (copied_plain R (its.places - 1) its.places fact is_plain it)

    pub tuck_goes : GoesOn (onward point (tucked v u rest)) s
    tuck_goes =
        on_same program may sets impact E ends here ws choices its s good there deep (suc here.at) (tucked v u rest) choices s.turns
        (subst (λ o. IsNext o here.function.code.cases here.at (suc here.at)) (sym is) refl) (λ n all. lacked n (subst (AllByRecursion (Lacks n)) so all))
        tuck_sound
      where
        lacked : (n : ℕ) → AllByRecursion (Lacks n) (v ∷ u ∷ rest) → AllByRecursion (Lacks n) (tucked v u rest)
        lacked n all = (all.0, (all.1.0, (all.0, all.1.1)))
