-- The step of Bring: a value is moved to the top (own).
--     bring_goes
use Rattle.std.proofs.Common.{◌≡◌, ◌<◌, ◌≤◌, ◌-◌, inl, inr, ℕ, suc, Bool, true, false, List, ◌∷◌, length, Option, Some, None, refl, sym, ap, ◌∙◌, subst, arith, ◌&&◌, slice_get, ◌==◌, if◌then◌else◌}
use Rattle.std.proofs.lemmas.Bool.Decides.{nat_tests}
use Rattle.hs_calls.specs.Calls.{Here, moved, Wait, point_of, steady_in}
use Rattle.hs_calls.specs.Stacks.{Stays}
use Rattle.hs_code.specs.Following.{IsNext}
use Rattle.hs_code.specs.Stacks.{Scope}
use Rattle.hs_code.specs.declared.function_code.Placed.{Placed}
use Rattle.hs_code.specs.declared.op.Op.TheVariants as op
use Rattle.hs_code_run.specs.Codes.{CodeProgram, scope_of, Point}
use Rattle.hs_code_run.specs.Steps.{onward, picked, on_top}
use Rattle.hs_facts.specs.Changes as changes
use Rattle.hs_facts.specs.Changes.{Impact}
use Rattle.hs_facts.specs.MustFacts.{Keeper, MustFact, With, Saved, Kept, Locked, Live, Distinct, New, on_stack, in_slot, AreNames}
use Rattle.hs_hiding.specs.Holding.{Lacks, value_of}
use Rattle.hs_meaning.specs.Steps.{State}
use Rattle.hs_meaning.specs.Values.{Value, state}
use Rattle.hs_meaning.specs.declared.outcome.Outcome.{Outcome}
use Rattle.hs_sound_heap.specs.Roles.{nothing}
use Rattle.hs_sound_heap.specs.Since.{since_refl, May}
use Rattle.hs_tree.specs.declared.head.Variable.{Variable}
use Rattle.hs_true.specs.BareSteps.{on_same}
use Rattle.hs_true.specs.Picking.{picks_others_above, picks_lack, picks_low, picks_others_below, picks_length, picks_above, picks_value, Picks, picked_is, picks_below, picks_others_at}
use Rattle.hs_truth.specs.Bare.{of_op}
use Rattle.hs_truth.specs.Good.{Good}
use Rattle.hs_truth.specs.Linked.{since_of}
use Rattle.hs_truth.specs.Places.{place_low, OthersLack, others_too, under_top, at_place, the_top}
use Rattle.hs_truth.specs.Quiet.{copies_true, IsPlain}
use Rattle.hs_truth.specs.Truth.{kept_in, Says, SoundAt}

module _ (program : CodeProgram) (may : ℕ → May) (sets : ℕ → ℕ → Bool) (impact : Impact) (E : Outcome → State → Type 0)
    (ends : (outcome : Outcome) (s : State) → E outcome s) (here : Here) (ws : List Wait) (choices : List Bool) (its : Placed) (s : State)
    (good : Good program may sets impact here s.machine ws) (there : slice_get here.function.code.ops here.at ≡ Some its)
    (deep : its.places ≡ length here.stack) where
  -- the point of the operation
  abbrev point : Point
  point = point_of here ws choices

  -- what facts of the function depend on
  abbrev scope : Scope
  scope = scope_of program here.function

  -- what a purgeable bit shows of the begin of the call
  abbrev marked_by : ℕ → Type 0
  marked_by = since_of may sets here.fn ws

  -- the call goes on
  abbrev GoesOn : Point → State → Type 0
  GoesOn = Stays program (Good program may sets impact) E here s.machine ws

  same_number : (a b : ℕ) → (a == b) ≡ true → a ≡ b
  same_number a b is = grind (is, nat_tests, arith)

  other_number : (a b : ℕ) → (a == b) ≡ false → a ≡ b → ⊥
  other_number a b is so = grind (is, so, nat_tests, arith)

  module _ (place : ℕ) (is : its.op ≡ op.Bring place) (w : Value) (others : List Value) (picks : Picks (its.places - place) here.stack w others) where
    -- the place of the value
    abbrev low : ℕ
    low = its.places - place

    low_is : low ≤ length others
    low_is = picks_low low here.stack w others picks

    depth_is : its.places ≡ suc (length others)
    depth_is = deep ∙ picks_length low here.stack w others picks

    -- where the value of a place was
    abbrev source : ℕ → Keeper
    source i = if i == length others then on_stack low else on_stack (suc i)

    source_top : (i : ℕ) → i ≡ length others → source i ≡ on_stack low
    source_top i at = by_test (i == length others) refl
      where
        by_test : (z : Bool) → (i == length others) ≡ z → (if z then on_stack low else on_stack (suc i)) ≡ on_stack low
        by_test true so = refl
        by_test false so = absurd (other_number i (length others) so at)

    source_other : (i : ℕ) → (i ≡ length others → ⊥) → source i ≡ on_stack (suc i)
    source_other i other = by_test (i == length others) refl
      where
        by_test : (z : Bool) → (i == length others) ≡ z → (if z then on_stack low else on_stack (suc i)) ≡ on_stack (suc i)
        by_test true so = absurd (other (same_number i (length others) so))
        by_test false so = refl

    top_is : (i : ℕ) → i ≡ its.places - 1 → i ≡ length others
    top_is i at = omega (at, depth_is, arith)

    -- the new places
    top_value : (i : ℕ) → i ≡ length others → at_place i (w ∷ others) ≡ at_place low here.stack
    top_value i at = the_top i w others at ∙ sym (picks_value low here.stack w others picks)

    moved_value : (i : ℕ) → low ≤ i → i < length others → at_place i (w ∷ others) ≡ at_place (suc i) here.stack
    moved_value i high less = under_top i w others less ∙ picks_above low here.stack w others picks i high less

    less_of : (i : ℕ) → suc i < its.places → i < length others
    less_of i less = omega (less, depth_is, arith)

    same : (i byte : ℕ) → low ≤ i → at_place i (w ∷ others) ≡ Some (state byte) → kept_in here s.machine (source i) ≡ Some (state byte)
    same i byte high held = by_test (i == length others) refl
      where
        smaller : (i == length others) ≡ false → i < length others
        smaller so = less_still i (length others) (other_number i (length others) so) (place_low i (w ∷ others) (state byte) held)
          where
            less_still : (a b : ℕ) → (a ≡ b → ⊥) → a < suc b → a < b
            less_still a b other low_ = grind (other, low_, arith)

        by_test : (z : Bool) → (i == length others) ≡ z → kept_in here s.machine (source i) ≡ Some (state byte)
        by_test true so =
            ap (kept_in here s.machine) (source_top i (same_number i (length others) so)) ∙ sym (top_value i (same_number i (length others) so)) ∙ held
        by_test false so =
            ap (kept_in here s.machine) (source_other i (other_number i (length others) so)) ∙ sym (moved_value i high (smaller so)) ∙ held

    -- the call after it
    abbrev next : Here
    next = moved here (suc here.at) (w ∷ others) (λ k. here.lasting k && steady_in s.machine s.machine k)

    bring_sound : SoundAt scope here.function.code impact marked_by its here s.machine next s.machine
    bring_sound R names are =
        of_op program may sets impact here ws its s.machine good there R (op.Bring place) next s.machine is
        (copies_true scope here.function.code R (changes.Stays scope here.function.code impact R (op.Bring place) its.places)
        (changes.Brings scope here.function.code impact R (op.Bring place) its.places) low here s.machine s.machine marked_by are (suc here.at)
        (w ∷ others) good.lasts (λ x. refl) nothing (since_refl nothing s.machine.blocks) refl refl
        (record {
          under = λ fact keep. keep;
          places = λ i less. under_top i w others (omega (less, low_is, arith)) ∙ picks_below low here.stack w others picks i less;
          others = λ i n keep it. (both i n (picks_others_below n low here.stack w others picks i keep it.others), it.nowhere);
          source = source;
          same = same;
          names = named;
          saved = saved;
          kept = kept;
          others_come = plain;
        }))
      where
        both : (i n : ℕ) → Lacks n w × OthersLack n i others → OthersLack n i (w ∷ others)
        both i n them = (inr them.0, them.1)

        high_top : (i : ℕ) → i ≡ its.places - 1 → low ≤ i
        high_top i at = omega (at, depth_is, low_is, arith)

        not_top : (i : ℕ) → suc i < its.places → i ≡ length others → ⊥
        not_top i less at = omega (less, at, depth_is, arith)

        named : (i : ℕ) (y : Variable) → changes.Brings scope here.function.code impact R (op.Bring place) its.places (With i y)
            → (v : Value) × (at_place i (w ∷ others) ≡ Some v) × (value_of s.machine y ≡ Some v)
        named i y (inl it) = on (are.says (With low y) it.1)
          where
            on : (v : Value) × (at_place low here.stack ≡ Some v) × (value_of s.machine y ≡ Some v)
                → (v : Value) × (at_place i (w ∷ others) ≡ Some v) × (value_of s.machine y ≡ Some v)
            on old = (old.0, top_value i (top_is i it.0) ∙ old.1, old.2)
        named i y (inr it) = on (are.says (With (suc it.0) y) it.3.1)
          where
            at_it : at_place i (w ∷ others) ≡ at_place (suc it.0) here.stack
            at_it = ap (λ k. at_place k (w ∷ others)) it.3.0 ∙ moved_value it.0 it.1 (less_of it.0 it.2)

            on : (v : Value) × (at_place (suc it.0) here.stack ≡ Some v) × (value_of s.machine y ≡ Some v)
                → (v : Value) × (at_place i (w ∷ others) ≡ Some v) × (value_of s.machine y ≡ Some v)
            on old = (old.0, at_it ∙ old.1, old.2)

        saved : (b : Keeper) (y : Variable) → changes.Brings scope here.function.code impact R (op.Bring place) its.places (Saved b y)
            → (i : ℕ) × (b ≡ on_stack i) × (low ≤ i) × R (Saved (source i) y)
        saved (in_slot b) y (inl it) = absurd it
        saved (in_slot b) y (inr it) = absurd it.3
        saved (on_stack i) y (inl it) =
            (i, refl, high_top i it.0, subst (λ b. R (Saved b y)) (sym (source_top i (top_is i it.0))) it.1)
        saved (on_stack i) y (inr it) = (
          it.0,
          ap on_stack it.3.0,
          it.1,
          subst (λ b. R (Saved b y)) (sym (source_other it.0 (not_top it.0 it.2))) it.3.1,
        )

        kept : (b : Keeper) (y : Variable) → changes.Brings scope here.function.code impact R (op.Bring place) its.places (Kept b y)
            → (i : ℕ) × (b ≡ on_stack i) × (low ≤ i) × R (Kept (source i) y)
        kept (in_slot b) y (inl it) = absurd it
        kept (in_slot b) y (inr it) = absurd it.3
        kept (on_stack i) y (inl it) = (i, refl, high_top i it.0, subst (λ b. R (Kept b y)) (sym (source_top i (top_is i it.0))) it.1)
        kept (on_stack i) y (inr it) = (
          it.0,
          ap on_stack it.3.0,
          it.1,
          subst (λ b. R (Kept b y)) (sym (source_other it.0 (not_top it.0 it.2))) it.3.1,
        )

        new_top : (i : ℕ) → i ≡ length others → Says here s.machine (New low) → Says next s.machine (New i)
        new_top i at (inl nil) = inl (top_value i at ∙ nil)
        new_top i at (inr new) =
            inr (
              new.0,
              record {
                holds = top_value i at ∙ new.1.holds;
                alive = new.1.alive;
                others = (inl at, others_too new.0 i others (picks_others_at new.0 low here.stack w others picks new.1.others));
                nowhere = new.1.nowhere;
              },
            )

        new_moved : (i : ℕ) → low ≤ i → i < length others → Says here s.machine (New (suc i)) → Says next s.machine (New i)
        new_moved i high less (inl nil) = inl (moved_value i high less ∙ nil)
        new_moved i high less (inr new) =
            inr (
              new.0,
              record {
                holds = moved_value i high less ∙ new.1.holds;
                alive = new.1.alive;
                others = both i new.0 (picks_others_above new.0 low here.stack w others picks i high less new.1.others);
                nowhere = new.1.nowhere;
              },
            )

        plain : (fact : MustFact) → AreNames scope here.function.code fact → IsPlain fact
            → changes.Brings scope here.function.code impact R (op.Bring place) its.places fact → Says next s.machine fact
        plain (With i y) names is_plain it = absurd is_plain
        plain (Saved b y) names is_plain it = absurd is_plain
        plain (Kept b y) names is_plain it = absurd is_plain
        plain (Locked y) names is_plain (inl it) = absurd it
        plain (Locked y) names is_plain (inr it) = absurd it.3
        plain (Live y) names is_plain (inl it) = absurd it
        plain (Live y) names is_plain (inr it) = absurd it.3
        plain (Distinct y z) names is_plain (inl it) = absurd it
        plain (Distinct y z) names is_plain (inr it) = absurd it.3
        plain (New i) names is_plain (inl it) = new_top i (top_is i it.0) (are.says (New low) it.1)
        plain (New i) names is_plain (inr it) =
            subst (λ k. Says next s.machine (New k)) (sym it.3.0) (new_moved it.0 it.1 (less_of it.0 it.2) (are.says (New (suc it.0)) it.3.1))

    picked_goes : GoesOn (onward point (w ∷ others)) s
    picked_goes =
        on_same program may sets impact E ends here ws choices its s good there deep (suc here.at) (w ∷ others) choices s.turns
        (subst (λ o. IsNext o here.function.code.cases here.at (suc here.at)) (sym is) refl)
        (λ n all. picks_lack n low here.stack w others picks all) bring_sound

  -- the step of Bring, if the value is there
  pub bring_goes : (place : ℕ) → its.op ≡ op.Bring (suc place) → (found : Option (Value × List Value)) → picked place here.stack ≡ found → (found ≡ None → ⊥)
      → GoesOn (onward point (on_top here.stack found)) s
  bring_goes place is None so there_ = absurd (there_ refl)
  bring_goes place is (Some its') so there_ =
      picked_goes (suc place) is its'.0 its'.1
      (subst (λ n. Picks (n - suc place) here.stack its'.0 its'.1) (sym deep) (picked_is place here.stack its' so))
