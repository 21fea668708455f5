-- What an operation gives of the facts Kept, Locked, Live, Distinct and New is what its change gives of them in numbers.
--     gives_test      the bit is there after the change exactly if the operation gives the fact
use Rattle.std.proofs.Common.{◌≡◌, ◌<◌, ◌≤◌, ◌⊎◌, ℕ, zero, suc, ◌-◌, ◌==◌, nat_lt, nat_le, Bool, true, false, not, ◌&&◌, ◌||◌, ap, sym, subst, ◌∙◌, refl, inl, inr, arith, List, length, slice_get, get_or, Option, Some, None}
use Rattle.std.proofs.lemmas.Bool.{cases_lt}
use Rattle.std.proofs.lemmas.Option.{slice_get-get_or}
use Rattle.std.specs.Bool.{Decides}
use Rattle.hs_code.specs.Codes.{is_slot_in}
use Rattle.hs_code.specs.Stacks.{Scope, variable_in}
use Rattle.hs_code.specs.declared.function_code.FunctionCode.{FunctionCode}
use Rattle.hs_code.specs.declared.op.Op.{Op}
use Rattle.hs_code.specs.declared.op.Op.TheVariants as op
use Rattle.hs_fact_rows.specs.Cells.{cell_of, index_of, with_at, saved_at, saved_in}
use Rattle.hs_fact_rows.specs.Given.{Facts, Names, gone, gone_of, with_of, saved_of}
use Rattle.hs_fact_rows.specs.Laws.Numbers.{gone_past, index_found, index_one, index_turned, other_variables, same_itself, same_variables}
use Rattle.hs_fact_rows.specs.Steps.{OpFits}
use Rattle.hs_facts.specs.Changes.{Impact, Apart, IsRestore, Restored, StaysInRole, Copied, CopiedByte, Moved, OfTop, TopApart, SetBy, SetName, SetOther, UsedIf, LockedBy, Read, BroughtByRole, MadeIf, Brings, Gives, IsSpared, StaysInCall}
use Rattle.hs_facts.specs.Laws.Bytes.{IsOfByte}
use Rattle.hs_facts.specs.MustFacts.{MustFact, Keeper, on_stack, in_slot, With, Saved, Kept, Locked, Live, Distinct, New, Under, Exists, IsKeeper, AreNames, free_of, not_new}
use Rattle.hs_facts.specs.Names.{is_name, taken, role_at, uses_handle, makes_by, same_variable}
use Rattle.hs_lock_rows.specs.Changing.{change_of, set_change, role_change, result_is_handle}
use Rattle.hs_lock_rows.specs.Given as numeric
use Rattle.hs_lock_rows.specs.Given.{Locks, any, all, other}
use Rattle.hs_lock_rows.specs.Laws.Tests.{always, never, as_test, self_test, same_test, and_test, and_then, and_true, and_three, or_test, not_test, eq_test, lt_test, le_test, any_some, some_any, false_true}
use Rattle.hs_lock_rows.specs.Layout.{IsOfLocks, field_of, bit_of}
use Rattle.hs_lock_rows.specs.declared.change.Change.{Change}
use Rattle.hs_lock_rows.specs.declared.change.Change.TheVariants as change
use Rattle.hs_lock_rows.specs.declared.field.Field.TheVariants as field
use Rattle.hs_table.specs.declared.role.Role.{Role}
use Rattle.hs_table.specs.declared.role.Role.TheVariants as role
use Rattle.hs_tree.specs.declared.head.Variable.{Variable}
use Rattle.hs_tree.specs.declared.head.Variable.TheVariants as name

-- what calls do, as tests
abbrev pub impact_with : (ℕ → ℕ → Bool) → (ℕ → Bool) → (ℕ → Bool) → Impact
impact_with assigned unlocks disposes =
    record { assigns = λ f g. assigned f g ≡ true; unlocks = λ f. unlocks f ≡ true; disposes = λ f. disposes f ≡ true }

minus_none : (n : ℕ) → n - 0 ≡ n
minus_none n = omega arith

-- what is under a place is under a higher one
under_more : (base depth : ℕ) → base ≤ depth → (fact : MustFact) → Under base fact → Under depth fact
under_more base depth low (With p x) h = omega (arith, low, h)
under_more base depth low (Saved (on_stack p) x) h = omega (arith, low, h)
under_more base depth low (Saved (in_slot b) x) h = h
under_more base depth low (Kept (on_stack p) x) h = omega (arith, low, h)
under_more base depth low (Kept (in_slot b) x) h = h
under_more base depth low (Locked x) h = h
under_more base depth low (Live x) h = h
under_more base depth low (Distinct x y) h = h
under_more base depth low (New p) h = omega (arith, low, h)

module _ (scope : Scope) (code : FunctionCode) (names slots : List Variable) (assigned : ℕ → ℕ → Bool) (unlocks disposes : ℕ → Bool)
    (listed : (x : Variable) → is_name scope code x ≡ true → index_of names x < length names)
    (single : (i : ℕ) (x : Variable) → slice_get names i ≡ Some x → index_of names x ≡ i)
    (are_names : (x : Variable) → index_of names x < length names → is_name scope code x ≡ true)
    (R : MustFact → Type 0) (low : Facts) (T : Locks) (depth : ℕ)
    (low_into : (fact : MustFact) → IsOfByte fact → Exists scope code depth fact → low (cell_of names slots fact) ≡ true → R fact)
    (low_out : (fact : MustFact) → IsOfByte fact → R fact → Exists scope code depth fact × (low (cell_of names slots fact) ≡ true))
    (into : (fact : MustFact) → IsOfLocks fact → Exists scope code depth fact → T (field_of names slots fact) (bit_of names slots fact) ≡ true → R fact)
    (out : (fact : MustFact) → IsOfLocks fact → R fact → Exists scope code depth fact × (T (field_of names slots fact) (bit_of names slots fact) ≡ true))
  where
    -- ---- numbers

    abbrev given : Change → Locks
    given = numeric.given (length names) (λ f. gone (assigned f) names) (λ f. gone (assigned f) slots) low T

    abbrev apart_of : ℕ → Names
    apart_of = numeric.apart_of (length names) (λ f. gone (assigned f) names) (λ f. gone (assigned f) slots) low T depth

    abbrev kept_of : ℕ → Names
    kept_of = numeric.kept_of (length names) (λ f. gone (assigned f) names) (λ f. gone (assigned f) slots) low T depth

    abbrev new_of : ℕ → Names
    new_of = numeric.new_of (length names) (λ f. gone (assigned f) names) (λ f. gone (assigned f) slots) low T depth

    abbrev of_top : Names → Bool
    of_top = numeric.of_top (length names) (λ f. gone (assigned f) names) (λ f. gone (assigned f) slots) low T depth

    abbrev stay_by : Change → MustFact → Bool
    stay_by its fact =
        numeric.stay_by
        (numeric.stay_of (length names) (λ f. gone (assigned f) names) (λ f. gone (assigned f) slots) low T its) (field_of names slots fact)
        (bit_of names slots fact)

    abbrev comes : Change → MustFact → Bool
    comes its fact =
        numeric.comes (length names) (λ f. gone (assigned f) names) (λ f. gone (assigned f) slots) low T its (field_of names slots fact)
        (bit_of names slots fact)

    -- ---- names and slots

    same_name : (x v : Variable) → is_name scope code x ≡ true → (index_of names x == index_of names v) ≡ same_variable x v
    same_name x v is = index_turned names x v (listed x is)

    name_test : (x v : Variable) → is_name scope code x ≡ true → Decides (index_of names x == index_of names v) (x ≡ v)
    name_test x v is = (
      λ h. same_variables x v (sym (same_name x v is) ∙ h),
      λ e. same_name x v is ∙ subst (λ y. same_variable x y ≡ true) e (same_itself x),
    )

    other_name : (x v : Variable) → is_name scope code x ≡ true → other (index_of names v) (index_of names x) ≡ not (same_variable x v)
    other_name x v is = ap not (same_name x v is)

    flipped : (x v : Variable) → same_variable x v ≡ same_variable v x
    flipped (name.Global a) (name.Global b) = grind arith
    flipped (name.Global a) (name.Local b) = refl
    flipped (name.Local a) (name.Global b) = refl
    flipped (name.Local a) (name.Local b) = grind arith

    slot_test : (b v : Variable) → index_of slots v < length slots → Decides (index_of slots b == index_of slots v) (b ≡ v)
    slot_test b v there = (
      λ h. index_one slots b v there ((eq_test (index_of slots b) (index_of slots v)).0 h),
      λ e. (eq_test (index_of slots b) (index_of slots v)).1 (ap (index_of slots) e),
    )

    other_slot : (b v : Variable) → index_of slots v < length slots → other (index_of slots v) (index_of slots b) ≡ not (same_variable b v)
    other_slot b v there = ap not (by_case (same_variable b v) refl)
      where
        by_case : (t : Bool) → same_variable b v ≡ t → (index_of slots b == index_of slots v) ≡ same_variable b v
        by_case true e = (slot_test b v there).1 (same_variables b v e) ∙ sym e
        by_case false e = not_it (index_of slots b == index_of slots v) refl ∙ sym e
          where
            not_it : (t : Bool) → (index_of slots b == index_of slots v) ≡ t → (index_of slots b == index_of slots v) ≡ false
            not_it true k = false_true (sym e ∙ subst (λ y. same_variable b y ≡ true) ((slot_test b v there).0 k) (same_itself b))
            not_it false k = k

    -- one of the names
    any_test : (its : Names) (P : Variable → Type 0) → ((x : Variable) → P x → is_name scope code x ≡ true)
        → ((x : Variable) → is_name scope code x ≡ true → Decides (its (index_of names x)) (P x)) → Decides (any (length names) its) ((x : Variable) × P x)
    any_test its P named tests = (there, λ h. some_any (length names) its (index_of names h.0) (listed h.0 (named h.0 h.1)) ((tests h.0 (named h.0 h.1)).1 h.1))
      where
        there : any (length names) its ≡ true → (x : Variable) × P x
        there h =
            let one = any_some (length names) its h in
            let x = get_or names one.0 (name.Global 0) in
            let number : index_of names x ≡ one.0 = single one.0 x (slice_get-get_or names one.0 (name.Global 0) one.1) in
            let is = are_names x (subst (λ n. n < length names) (sym number) one.1) in
            (x, (tests x is).0 (subst (λ n. its n ≡ true) (sym number) one.2))

    -- ---- facts that hold

    fact_test : (fact : MustFact) → IsOfLocks fact → AreNames scope code fact → Under depth fact
        → Decides (T (field_of names slots fact) (bit_of names slots fact)) (R fact)
    fact_test fact is named under = (λ h. into fact is (record { under = under; named = named }) h, λ r. (out fact is r).1)

    with_test : (p : ℕ) (x : Variable) → is_name scope code x ≡ true → Decides (with_of low depth p (index_of names x)) (R (With p x))
    with_test p x named = as_test (with_of low depth p (index_of names x)) ((p < depth) × R (With p x)) (R (With p x)) (λ h. h.1)
        (λ r. ((low_out (With p x) tt r).0.under, r))
        (and_then (nat_lt p depth) (low (with_at p (index_of names x))) (p < depth) (R (With p x)) (lt_test p depth) (λ under. (
          λ h. low_into (With p x) tt (record { under = under; named = named }) h,
          λ r. (low_out (With p x) tt r).1,
        )))

    saved_test : (p : ℕ) (x : Variable) → is_name scope code x ≡ true → Decides (saved_of low depth p (index_of names x)) (R (Saved (on_stack p) x))
    saved_test p x named = as_test (saved_of low depth p (index_of names x)) ((p < depth) × R (Saved (on_stack p) x)) (R (Saved (on_stack p) x)) (λ h. h.1)
        (λ r. ((low_out (Saved (on_stack p) x) tt r).0.under, r))
        (and_then (nat_lt p depth) (low (saved_at p (index_of names x))) (p < depth) (R (Saved (on_stack p) x)) (lt_test p depth) (λ under. (
          λ h. low_into (Saved (on_stack p) x) tt (record { under = under; named = (tt, named) }) h,
          λ r. (low_out (Saved (on_stack p) x) tt r).1,
        )))

    saved_in_test : (b x : Variable) → IsKeeper scope code (in_slot b) → is_name scope code x ≡ true
        → Decides (low (saved_in (index_of slots b) (index_of names x))) (R (Saved (in_slot b) x))
    saved_in_test b x slot named = (
      λ h. low_into (Saved (in_slot b) x) tt (record { under = tt; named = (slot, named) }) h,
      λ r. (low_out (Saved (in_slot b) x) tt r).1,
    )

    kept_test : (p : ℕ) (x : Variable) → is_name scope code x ≡ true → Decides (kept_of p (index_of names x)) (R (Kept (on_stack p) x))
    kept_test p x named = as_test (kept_of p (index_of names x)) ((p < depth) × R (Kept (on_stack p) x)) (R (Kept (on_stack p) x)) (λ h. h.1)
        (λ r. ((out (Kept (on_stack p) x) tt r).0.under, r))
        (and_then (nat_lt p depth) (T (field.KeptAt p) (index_of names x)) (p < depth) (R (Kept (on_stack p) x)) (lt_test p depth)
        (λ under. fact_test (Kept (on_stack p) x) tt (tt, named) under))

    new_test : (p : ℕ) → Decides (new_of p 0) (R (New p))
    new_test p = as_test (new_of p 0) ((p < depth) × R (New p)) (R (New p)) (λ h. h.1) (λ r. ((out (New p) tt r).0.under, r))
        (and_then (nat_lt p depth) (T (field.NewAt p) 0) (p < depth) (R (New p)) (lt_test p depth) (λ under. fact_test (New p) tt tt under))

    distinct_test : (x y : Variable) → is_name scope code x ≡ true → is_name scope code y ≡ true
        → Decides (other (index_of names y) (index_of names x) && T (field.Apart (index_of names x)) (index_of names y)) (R (Distinct x y))
    distinct_test x y named also =
        as_test (other (index_of names y) (index_of names x) && T (field.Apart (index_of names x)) (index_of names y))
        ((same_variable x y ≡ false) × R (Distinct x y)) (R (Distinct x y)) (λ h. h.1) (λ r. ((out (Distinct x y) tt r).0.named.2, r))
        (and_then (other (index_of names y) (index_of names x)) (T (field.Apart (index_of names x)) (index_of names y)) (same_variable x y ≡ false)
        (R (Distinct x y)) different (λ apart. fact_test (Distinct x y) tt (named, also, apart) tt))
      where
        turned : (t : Bool) → Decides (not t) (t ≡ false)
        turned true = (λ h. false_true h, λ h. sym h)
        turned false = (λ h. refl, λ h. refl)

        different : Decides (other (index_of names y) (index_of names x)) (same_variable x y ≡ false)
        different = subst (λ t. Decides t (same_variable x y ≡ false)) (sym (other_name x y named)) (turned (same_variable x y))

    -- ---- conditions

    apart_test : (p : ℕ) (y : Variable) → is_name scope code y ≡ true → Decides (apart_of p (index_of names y)) (Apart R p y)
    apart_test p y also =
        as_test (apart_of p (index_of names y)) ((x : Variable) × (R (With p x) × R (Distinct x y))) (Apart R p y) (λ h. (h.0, h.1.0, h.1.1))
        (λ h. (h.0, (h.1, h.2)))
        (any_test (λ x. with_of low depth p x && (other (index_of names y) x && T (field.Apart x) (index_of names y)))
        (λ x. R (With p x) × R (Distinct x y)) (λ x h. (low_out (With p x) tt h.0).0.named)
        (λ x named. and_test (with_of low depth p (index_of names x))
        (other (index_of names y) (index_of names x) && T (field.Apart (index_of names x)) (index_of names y)) (R (With p x)) (R (Distinct x y))
        (with_test p x named) (distinct_test x y named also)))

    restore_test : (base : ℕ) → Decides (any (length names) (λ x. with_of low depth base x && saved_of low depth (suc base) x)) (IsRestore R base (suc base))
    restore_test base =
        as_test (any (length names) (λ x. with_of low depth base x && saved_of low depth (suc base) x))
        ((x : Variable) × (R (With base x) × R (Saved (on_stack (suc base)) x))) (IsRestore R base (suc base)) (λ h. (h.0, h.1.0, h.1.1))
        (λ h. (h.0, (h.1, h.2)))
        (any_test (λ x. with_of low depth base x && saved_of low depth (suc base) x) (λ x. R (With base x) × R (Saved (on_stack (suc base)) x))
        (λ x h. (low_out (With base x) tt h.0).0.named)
        (λ x named. and_test (with_of low depth base (index_of names x)) (saved_of low depth (suc base) (index_of names x)) (R (With base x))
        (R (Saved (on_stack (suc base)) x)) (with_test base x named) (saved_test (suc base) x named)))

    of_top_test : (its : Names) (of : Variable → MustFact) → ((y : Variable) → is_name scope code y ≡ true → Decides (its (index_of names y)) (R (of y)))
        → Decides (of_top its) (OfTop R (depth - 1) of)
    of_top_test its of tests =
        as_test (of_top its) ((y : Variable) × (R (With (depth - 1) y) × R (of y))) (OfTop R (depth - 1) of) (λ h. (h.0, h.1.0, h.1.1)) (λ h. (h.0, (h.1, h.2)))
        (any_test (λ y. with_of low depth (depth - 1) y && its y) (λ y. R (With (depth - 1) y) × R (of y))
        (λ y h. (low_out (With (depth - 1) y) tt h.0).0.named)
        (λ y named. and_test (with_of low depth (depth - 1) (index_of names y)) (its (index_of names y)) (R (With (depth - 1) y)) (R (of y))
        (with_test (depth - 1) y named) (tests y named)))

    top_apart_test : (z : Variable) → is_name scope code z ≡ true
        → Decides (new_of (depth - 1) 0 || apart_of (depth - 1) (index_of names z)) (TopApart R (depth - 1) z)
    top_apart_test z named =
        or_test (new_of (depth - 1) 0) (apart_of (depth - 1) (index_of names z)) (R (New (depth - 1))) (OfTop R (depth - 1) (λ y. Distinct y z))
        (new_test (depth - 1)) (apart_test (depth - 1) z named)

    guarded_test : (p : ℕ) (its : Names) (b : Keeper) → ((z : Variable) → is_name scope code z ≡ true → Decides (its (index_of names z)) (R (Saved b z)))
        → Decides (any (length names) (λ z. its z && apart_of p z)) ((z : Variable) × R (Saved b z) × Apart R p z)
    guarded_test p its b tests =
        as_test (any (length names) (λ z. its z && apart_of p z)) ((z : Variable) × (R (Saved b z) × Apart R p z))
        ((z : Variable) × R (Saved b z) × Apart R p z) (λ h. (h.0, h.1.0, h.1.1)) (λ h. (h.0, (h.1, h.2)))
        (any_test (λ z. its z && apart_of p z) (λ z. R (Saved b z) × Apart R p z) (λ z h. (low_out (Saved b z) tt h.0).0.named.1)
        (λ z named. and_test (its (index_of names z)) (apart_of p (index_of names z)) (R (Saved b z)) (Apart R p z) (tests z named) (apart_test p z named)))

    -- ---- what stays, and what comes

    -- with so many values left
    whole_test : (its : Change) (fact : MustFact) (P Q : Type 0) → IsOfLocks fact → AreNames scope code fact → (P → Under depth fact)
        → Decides (stay_by its fact) P → Decides (comes its fact) Q → Decides (given its (field_of names slots fact) (bit_of names slots fact)) ((P × R fact) ⊎ Q)
    whole_test its fact P Q is named under stays brings =
        or_test (stay_by its fact && T (field_of names slots fact) (bit_of names slots fact)) (comes its fact) (P × R fact) Q
        (and_then (stay_by its fact) (T (field_of names slots fact) (bit_of names slots fact)) P (R fact) stays (λ p. fact_test fact is named (under p))) brings

    -- all below a base
    under_test : (base : ℕ) (fact : MustFact) → IsOfLocks fact → Decides (stay_by (change.Pop base) fact) (Under base fact)
    under_test base (With p x) is = absurd is
    under_test base (Saved b x) is = absurd is
    under_test base (Kept (on_stack p) x) is = and_true (nat_lt p base) (p < base) (lt_test p base)
    under_test base (Kept (in_slot b) x) is = always (Unit {0}) tt
    under_test base (Locked x) is = always (Unit {0}) tt
    under_test base (Live x) is = always (Unit {0}) tt
    under_test base (Distinct x y) is = always (Unit {0}) tt
    under_test base (New p) is = and_true (nat_lt p base) (p < base) (lt_test p base)

    -- nothing comes
    none_test : (base : ℕ) (fact : MustFact) (Q : Type 0) → (Q → ⊥) → IsOfLocks fact → Decides (comes (change.Pop base) fact) Q
    none_test base (With p x) Q none is = absurd is
    none_test base (Saved b x) Q none is = absurd is
    none_test base (Kept (on_stack p) x) Q none is = never Q none
    none_test base (Kept (in_slot b) x) Q none is = never Q none
    none_test base (Locked x) Q none is = never Q none
    none_test base (Live x) Q none is = never Q none
    none_test base (Distinct x y) Q none is = never Q none
    none_test base (New p) Q none is = never Q none

    pop_test : (base : ℕ) (fact : MustFact) → base ≤ depth → IsOfLocks fact → AreNames scope code fact
        → Decides (given (change.Pop base) (field_of names slots fact) (bit_of names slots fact)) ((Under base fact × R fact) ⊎ ⊥)
    pop_test base fact low is named =
        whole_test (change.Pop base) fact (Under base fact) ⊥ is named (λ u. under_more base depth low fact u) (under_test base fact is)
        (none_test base fact ⊥ (λ q. q) is)

    -- ---- what comes at one field alone

    first_only : (test : Bool) (P : Type 0) → Decides test P → Decides test (P ⊎ ⊥ ⊎ ⊥)
    first_only test P t = as_test test P (P ⊎ ⊥ ⊎ ⊥) (λ p. inl p) back t
      where
        back : P ⊎ ⊥ ⊎ ⊥ → P
        back (inl p) = p
        back (inr (inl q)) = absurd q
        back (inr (inr q)) = absurd q

    second_only : (test : Bool) (P : Type 0) → Decides test P → Decides test (⊥ ⊎ P ⊎ ⊥)
    second_only test P t = as_test test P (⊥ ⊎ P ⊎ ⊥) (λ p. inr (inl p)) back t
      where
        back : ⊥ ⊎ P ⊎ ⊥ → P
        back (inl q) = absurd q
        back (inr (inl p)) = p
        back (inr (inr q)) = absurd q

    third_only : (test : Bool) (P : Type 0) → Decides test P → Decides test (⊥ ⊎ ⊥ ⊎ P)
    third_only test P t = as_test test P (⊥ ⊎ ⊥ ⊎ P) (λ p. inr (inr p)) back t
      where
        back : ⊥ ⊎ ⊥ ⊎ P → P
        back (inl q) = absurd q
        back (inr (inl q)) = absurd q
        back (inr (inr p)) = p

    none_of_three : ⊥ ⊎ ⊥ ⊎ ⊥ → ⊥
    none_of_three (inl q) = q
    none_of_three (inr (inl q)) = q
    none_of_three (inr (inr q)) = q

    never_three : Decides false (⊥ ⊎ ⊥ ⊎ ⊥)
    never_three = never (⊥ ⊎ ⊥ ⊎ ⊥) none_of_three

    -- a part that is always so
    with_unit : (test : Bool) (P : Type 0) → Decides test P → Decides test (P × Unit {0})
    with_unit test P t = as_test test P (P × Unit {0}) (λ p. (p, tt)) (λ h. h.0) t

    unit_with : (test : Bool) (P : Type 0) → Decides test P → Decides test (Unit {0} × P)
    unit_with test P t = as_test test P (Unit {0} × P) (λ p. (tt, p)) (λ h. h.1) t

    -- ---- Get

    get_stays : (fact : MustFact) (slot : ℕ) → IsOfLocks fact → Decides (stay_by (change.Get depth slot) fact) (Under (depth - 0) fact)
    get_stays fact slot is = subst (λ n. Decides (stay_by (change.Pop depth) fact) (Under n fact)) (sym (minus_none depth)) (under_test depth fact is)

    under_none : (fact : MustFact) → Under (depth - 0) fact → Under depth fact
    under_none fact u = subst (λ n. Under n fact) (minus_none depth) u

    get_comes : (v : Variable) (fact : MustFact) → is_slot_in scope.types (variable_in scope v) ≡ true → IsOfLocks fact → AreNames scope code fact
        → Decides (comes (change.Get depth (index_of slots v)) fact) (Brings scope code (impact_with assigned unlocks disposes) R (op.Get v) depth fact)
    get_comes v (With p x) slot is named = absurd is
    get_comes v (Saved b x) slot is named = absurd is
    get_comes v (Kept (on_stack p) x) slot is named =
        and_test (p == depth) (T (field.KeptIn (index_of slots v)) (index_of names x)) (p ≡ depth) (R (Kept (in_slot v) x)) (eq_test p depth)
        (fact_test (Kept (in_slot v) x) tt (slot, named.1) tt)
    get_comes v (Kept (in_slot b) x) slot is named = never ⊥ (λ q. q)
    get_comes v (Locked x) slot is named = never ⊥ (λ q. q)
    get_comes v (Live x) slot is named = never ⊥ (λ q. q)
    get_comes v (Distinct x y) slot is named = never ⊥ (λ q. q)
    get_comes v (New p) slot is named = never ⊥ (λ q. q)

    -- ---- Set of a name

    free_two : (a b : Bool) (x y : Bool) → a ≡ x → b ≡ y → Decides (a && (b && true)) ((x && y) ≡ true)
    free_two true b x y e f = same_test (b && true) (x && y) (ends b ∙ f ∙ ap (λ t. t && y) e)
      where
        ends : (t : Bool) → (t && true) ≡ t
        ends true = refl
        ends false = refl
    free_two false b x y e f = same_test false (x && y) (ap (λ t. t && y) e)

    set_name_stays : (v : Variable) (fact : MustFact) → index_of slots v < length slots → IsOfLocks fact → AreNames scope code fact
        → Decides (stay_by (change.SetName depth (index_of names v) (index_of slots v)) fact)
        (Under depth fact × (free_of v fact ≡ true) × (not_new (depth - 1) fact ≡ true))
    set_name_stays v (With p x) there is named = absurd is
    set_name_stays v (Saved b x) there is named = absurd is
    set_name_stays v (Kept (on_stack p) x) there is named =
        as_test (nat_lt p depth && (other (index_of names v) (index_of names x) && true)) ((p < depth) × (not (same_variable x v) ≡ true))
        ((p < depth) × (not (same_variable x v) ≡ true) × (true ≡ true)) (λ h. (h.0, h.1, refl)) (λ h. (h.0, h.1))
        (and_test (nat_lt p depth) (other (index_of names v) (index_of names x) && true) (p < depth) (not (same_variable x v) ≡ true) (lt_test p depth)
        (and_true (other (index_of names v) (index_of names x)) (not (same_variable x v) ≡ true) (same_test (other (index_of names v) (index_of names x))
        (not (same_variable x v)) (other_name x v named.1))))
    set_name_stays v (Kept (in_slot b) x) there is named =
        as_test (other (index_of slots v) (index_of slots b) && (other (index_of names v) (index_of names x) && true))
        ((not (same_variable b v) && not (same_variable x v)) ≡ true)
        (Unit {0} × ((not (same_variable b v) && not (same_variable x v)) ≡ true) × (true ≡ true)) (λ h. (tt, h, refl)) (λ h. h.1)
        (free_two (other (index_of slots v) (index_of slots b)) (other (index_of names v) (index_of names x)) (not (same_variable b v))
        (not (same_variable x v)) (other_slot b v there) (other_name x v named.1))
    set_name_stays v (Locked x) there is named =
        as_test (other (index_of names v) (index_of names x) && true) (not (same_variable x v) ≡ true)
        (Unit {0} × (not (same_variable x v) ≡ true) × (true ≡ true)) (λ h. (tt, h, refl)) (λ h. h.1)
        (and_true (other (index_of names v) (index_of names x)) (not (same_variable x v) ≡ true) (same_test (other (index_of names v) (index_of names x))
        (not (same_variable x v)) (other_name x v named)))
    set_name_stays v (Live x) there is named =
        as_test (other (index_of names v) (index_of names x) && true) (not (same_variable x v) ≡ true)
        (Unit {0} × (not (same_variable x v) ≡ true) × (true ≡ true)) (λ h. (tt, h, refl)) (λ h. h.1)
        (and_true (other (index_of names v) (index_of names x)) (not (same_variable x v) ≡ true) (same_test (other (index_of names v) (index_of names x))
        (not (same_variable x v)) (other_name x v named)))
    set_name_stays v (Distinct x y) there is named =
        as_test (other (index_of names v) (index_of names x) && other (index_of names v) (index_of names y))
        ((not (same_variable x v) && not (same_variable y v)) ≡ true)
        (Unit {0} × ((not (same_variable x v) && not (same_variable y v)) ≡ true) × (true ≡ true)) (λ h. (tt, h, refl)) (λ h. h.1)
        (same_test (other (index_of names v) (index_of names x) && other (index_of names v) (index_of names y))
        (not (same_variable x v) && not (same_variable y v))
        (ap (λ t. t && other (index_of names v) (index_of names y)) (other_name x v named.0) ∙ ap (λ t. not (same_variable x v) && t) (other_name y v named.1)))
    set_name_stays v (New p) there is named =
        as_test (nat_lt p depth && other (depth - 1) p) ((p < depth) × (other (depth - 1) p ≡ true))
        ((p < depth) × (true ≡ true) × (other (depth - 1) p ≡ true)) (λ h. (h.0, refl, h.1)) (λ h. (h.0, h.2))
        (and_test (nat_lt p depth) (other (depth - 1) p) (p < depth) (other (depth - 1) p ≡ true) (lt_test p depth) (self_test (other (depth - 1) p)))

    set_name_comes : (v : Variable) (fact : MustFact) → index_of slots v < length slots → IsOfLocks fact → AreNames scope code fact
        → Decides (comes (change.SetName depth (index_of names v) (index_of slots v)) fact) (SetName R v (depth - 1) fact)
    set_name_comes v (With p x) there is named = absurd is
    set_name_comes v (Saved b x) there is named = absurd is
    set_name_comes v (Kept (on_stack p) x) there is named =
        as_test ((index_of names x == index_of names v) && of_top (kept_of p)) ((x ≡ v) × OfTop R (depth - 1) (Kept (on_stack p)))
        ((x ≡ v) × (true ≡ true) × OfTop R (depth - 1) (Kept (on_stack p))) (λ h. (h.0, refl, h.1)) (λ h. (h.0, h.2))
        (and_test (index_of names x == index_of names v) (of_top (kept_of p)) (x ≡ v) (OfTop R (depth - 1) (Kept (on_stack p))) (name_test x v named.1)
        (of_top_test (kept_of p) (Kept (on_stack p)) (λ y its. kept_test p y its)))
    set_name_comes v (Kept (in_slot b) x) there is named =
        and_three (index_of names x == index_of names v) (other (index_of slots v) (index_of slots b)) (of_top (T (field.KeptIn (index_of slots b)))) (x ≡ v)
        (not (same_variable b v) ≡ true) (OfTop R (depth - 1) (Kept (in_slot b))) (name_test x v named.1)
        (same_test (other (index_of slots v) (index_of slots b)) (not (same_variable b v)) (other_slot b v there))
        (of_top_test (T (field.KeptIn (index_of slots b))) (Kept (in_slot b)) (λ y its. fact_test (Kept (in_slot b) y) tt (named.0, its) tt))
    set_name_comes v (Locked x) there is named =
        and_test (index_of names x == index_of names v) (of_top (T field.Locked)) (x ≡ v) (OfTop R (depth - 1) Locked) (name_test x v named)
        (of_top_test (T field.Locked) Locked (λ y its. fact_test (Locked y) tt its tt))
    set_name_comes v (Live x) there is named =
        and_test (index_of names x == index_of names v) (new_of (depth - 1) 0 || of_top (T field.Live)) (x ≡ v)
        (R (New (depth - 1)) ⊎ OfTop R (depth - 1) Live) (name_test x v named)
        (or_test (new_of (depth - 1) 0) (of_top (T field.Live)) (R (New (depth - 1))) (OfTop R (depth - 1) Live) (new_test (depth - 1))
        (of_top_test (T field.Live) Live (λ y its. fact_test (Live y) tt its tt)))
    set_name_comes v (Distinct x y) there is named =
        or_test ((index_of names x == index_of names v) && (new_of (depth - 1) 0 || apart_of (depth - 1) (index_of names y)))
        ((index_of names y == index_of names v) && (new_of (depth - 1) 0 || apart_of (depth - 1) (index_of names x)))
        ((x ≡ v) × TopApart R (depth - 1) y) ((y ≡ v) × TopApart R (depth - 1) x)
        (and_test (index_of names x == index_of names v) (new_of (depth - 1) 0 || apart_of (depth - 1) (index_of names y)) (x ≡ v)
        (TopApart R (depth - 1) y) (name_test x v named.0) (top_apart_test y named.1))
        (and_test (index_of names y == index_of names v) (new_of (depth - 1) 0 || apart_of (depth - 1) (index_of names x)) (y ≡ v)
        (TopApart R (depth - 1) x) (name_test y v named.1) (top_apart_test x named.0))
    set_name_comes v (New p) there is named = never ⊥ (λ q. q)

    -- ---- Set of another slot

    not_named : (v x : Variable) → is_name scope code v ≡ false → is_name scope code x ≡ true → not (same_variable x v) ≡ true
    not_named v x none its = ap not (other_variables x v (λ e. false_true (sym none ∙ ap (is_name scope code) (sym e) ∙ its)))

    and_is : (a b : Bool) → b ≡ true → (a && b) ≡ a
    and_is true b e = e
    and_is false b e = refl

    set_slot_stays : (v : Variable) (fact : MustFact) → is_name scope code v ≡ false → index_of slots v < length slots → IsOfLocks fact
        → AreNames scope code fact
        → Decides (stay_by (change.SetSlot depth (index_of slots v)) fact)
        (Under depth fact × (free_of v fact ≡ true) × (not_new (depth - 1) fact ≡ true))
    set_slot_stays v (With p x) none there is named = absurd is
    set_slot_stays v (Saved b x) none there is named = absurd is
    set_slot_stays v (Kept (on_stack p) x) none there is named =
        as_test (nat_lt p depth && true) (p < depth)
        ((p < depth) × (not (same_variable x v) ≡ true) × (true ≡ true)) (λ h. (h, not_named v x none named.1, refl)) (λ h. h.0)
        (and_true (nat_lt p depth) (p < depth) (lt_test p depth))
    set_slot_stays v (Kept (in_slot b) x) none there is named =
        as_test (other (index_of slots v) (index_of slots b) && true) ((not (same_variable b v) && not (same_variable x v)) ≡ true)
        (Unit {0} × ((not (same_variable b v) && not (same_variable x v)) ≡ true) × (true ≡ true)) (λ h. (tt, h, refl)) (λ h. h.1)
        (and_true (other (index_of slots v) (index_of slots b)) ((not (same_variable b v) && not (same_variable x v)) ≡ true)
        (same_test (other (index_of slots v) (index_of slots b)) (not (same_variable b v) && not (same_variable x v))
        (other_slot b v there ∙ sym (and_is (not (same_variable b v)) (not (same_variable x v)) (not_named v x none named.1)))))
    set_slot_stays v (Locked x) none there is named =
        always (Unit {0} × (not (same_variable x v) ≡ true) × (true ≡ true)) (tt, not_named v x none named, refl)
    set_slot_stays v (Live x) none there is named =
        always (Unit {0} × (not (same_variable x v) ≡ true) × (true ≡ true)) (tt, not_named v x none named, refl)
    set_slot_stays v (Distinct x y) none there is named =
        always (Unit {0} × ((not (same_variable x v) && not (same_variable y v)) ≡ true) × (true ≡ true))
        (tt, and_is (not (same_variable x v)) (not (same_variable y v)) (not_named v y none named.1) ∙ not_named v x none named.0, refl)
    set_slot_stays v (New p) none there is named =
        as_test (nat_lt p depth && other (depth - 1) p) ((p < depth) × (other (depth - 1) p ≡ true))
        ((p < depth) × (true ≡ true) × (other (depth - 1) p ≡ true)) (λ h. (h.0, refl, h.1)) (λ h. (h.0, h.2))
        (and_test (nat_lt p depth) (other (depth - 1) p) (p < depth) (other (depth - 1) p ≡ true) (lt_test p depth) (self_test (other (depth - 1) p)))

    set_slot_comes : (v : Variable) (fact : MustFact) → index_of slots v < length slots → IsOfLocks fact → AreNames scope code fact
        → Decides (comes (change.SetSlot depth (index_of slots v)) fact) (SetOther R v (depth - 1) fact)
    set_slot_comes v (With p x) there is named = absurd is
    set_slot_comes v (Saved b x) there is named = absurd is
    set_slot_comes v (Kept (on_stack p) x) there is named = never ⊥ (λ q. q)
    set_slot_comes v (Kept (in_slot b) x) there is named =
        and_test (index_of slots b == index_of slots v) (kept_of (depth - 1) (index_of names x)) (b ≡ v) (R (Kept (on_stack (depth - 1)) x))
        (slot_test b v there) (kept_test (depth - 1) x named.1)
    set_slot_comes v (Locked x) there is named = never ⊥ (λ q. q)
    set_slot_comes v (Live x) there is named = never ⊥ (λ q. q)
    set_slot_comes v (Distinct x y) there is named = never ⊥ (λ q. q)
    set_slot_comes v (New p) there is named = never ⊥ (λ q. q)

    set_test : (v : Variable) (its : Bool) (fact : MustFact) → is_name scope code v ≡ its → index_of slots v < length slots → IsOfLocks fact
        → AreNames scope code fact
        → Decides (given (set_change its depth (index_of names v) (index_of slots v)) (field_of names slots fact) (bit_of names slots fact))
        (((Under depth fact × (free_of v fact ≡ true) × (not_new (depth - 1) fact ≡ true)) × R fact) ⊎ SetBy R its v (depth - 1) fact)
    set_test v true fact e there is named =
        whole_test (change.SetName depth (index_of names v) (index_of slots v)) fact
        (Under depth fact × (free_of v fact ≡ true) × (not_new (depth - 1) fact ≡ true)) (SetName R v (depth - 1) fact) is named (λ h. h.0)
        (set_name_stays v fact there is named) (set_name_comes v fact there is named)
    set_test v false fact e there is named =
        whole_test (change.SetSlot depth (index_of slots v)) fact
        (Under depth fact × (free_of v fact ≡ true) × (not_new (depth - 1) fact ≡ true)) (SetOther R v (depth - 1) fact) is named (λ h. h.0)
        (set_slot_stays v fact e there is named) (set_slot_comes v fact there is named)

    -- ---- Dup, Tuck, Conv

    dup_stays : (fact : MustFact) → IsOfLocks fact → Decides (stay_by (change.Dup depth) fact) (Under depth fact × (not_new (depth - 1) fact ≡ true))
    dup_stays (With p x) is = absurd is
    dup_stays (Saved b x) is = absurd is
    dup_stays (Kept (on_stack p) x) is =
        as_test (nat_lt p depth && true) (p < depth) ((p < depth) × (true ≡ true)) (λ h. (h, refl)) (λ h. h.0)
        (and_true (nat_lt p depth) (p < depth) (lt_test p depth))
    dup_stays (Kept (in_slot b) x) is = always (Unit {0} × (true ≡ true)) (tt, refl)
    dup_stays (Locked x) is = always (Unit {0} × (true ≡ true)) (tt, refl)
    dup_stays (Live x) is = always (Unit {0} × (true ≡ true)) (tt, refl)
    dup_stays (Distinct x y) is = always (Unit {0} × (true ≡ true)) (tt, refl)
    dup_stays (New p) is =
        and_test (nat_lt p depth) (other (depth - 1) p) (p < depth) (other (depth - 1) p ≡ true) (lt_test p depth) (self_test (other (depth - 1) p))

    copy_test : (p to from : ℕ) (x : Variable) → is_name scope code x ≡ true
        → Decides ((p == to) && kept_of from (index_of names x)) ((p ≡ to) × R (Kept (on_stack from) x))
    copy_test p to from x named =
        and_test (p == to) (kept_of from (index_of names x)) (p ≡ to) (R (Kept (on_stack from) x)) (eq_test p to) (kept_test from x named)

    dup_comes : (fact : MustFact) → IsOfLocks fact → AreNames scope code fact → Decides (comes (change.Dup depth) fact) (Copied R (depth - 1) depth fact)
    dup_comes (With p x) is named = absurd is
    dup_comes (Saved b x) is named = absurd is
    dup_comes (Kept (on_stack p) x) is named = copy_test p depth (depth - 1) x named.1
    dup_comes (Kept (in_slot b) x) is named = never ⊥ (λ q. q)
    dup_comes (Locked x) is named = never ⊥ (λ q. q)
    dup_comes (Live x) is named = never ⊥ (λ q. q)
    dup_comes (Distinct x y) is named = never ⊥ (λ q. q)
    dup_comes (New p) is named = never ⊥ (λ q. q)

    tuck_comes : (fact : MustFact) → IsOfLocks fact → AreNames scope code fact
        → Decides (comes (change.Tuck depth) fact)
        (Copied R (depth - 1) (depth - 2) fact ⊎ Copied R (depth - 2) (depth - 1) fact ⊎ Copied R (depth - 1) depth fact)
    tuck_comes (With p x) is named = absurd is
    tuck_comes (Saved b x) is named = absurd is
    tuck_comes (Kept (on_stack p) x) is named =
        or_test ((p == depth - 2) && kept_of (depth - 1) (index_of names x))
        (((p == depth - 1) && kept_of (depth - 2) (index_of names x)) || ((p == depth) && kept_of (depth - 1) (index_of names x)))
        ((p ≡ depth - 2) × R (Kept (on_stack (depth - 1)) x))
        (((p ≡ depth - 1) × R (Kept (on_stack (depth - 2)) x)) ⊎ ((p ≡ depth) × R (Kept (on_stack (depth - 1)) x)))
        (copy_test p (depth - 2) (depth - 1) x named.1)
        (or_test ((p == depth - 1) && kept_of (depth - 2) (index_of names x)) ((p == depth) && kept_of (depth - 1) (index_of names x))
        ((p ≡ depth - 1) × R (Kept (on_stack (depth - 2)) x)) ((p ≡ depth) × R (Kept (on_stack (depth - 1)) x))
        (copy_test p (depth - 1) (depth - 2) x named.1) (copy_test p depth (depth - 1) x named.1))
    tuck_comes (Kept (in_slot b) x) is named = never_three
    tuck_comes (Locked x) is named = never_three
    tuck_comes (Live x) is named = never_three
    tuck_comes (Distinct x y) is named = never_three
    tuck_comes (New p) is named = never_three

    conv_comes : (fact : MustFact) → IsOfLocks fact → AreNames scope code fact → Decides (comes (change.Conv depth) fact) (CopiedByte R (depth - 1) fact)
    conv_comes (With p x) is named = absurd is
    conv_comes (Saved b x) is named = absurd is
    conv_comes (Kept (on_stack p) x) is named = copy_test p (depth - 1) (depth - 1) x named.1
    conv_comes (Kept (in_slot b) x) is named = never ⊥ (λ q. q)
    conv_comes (Locked x) is named = never ⊥ (λ q. q)
    conv_comes (Live x) is named = never ⊥ (λ q. q)
    conv_comes (Distinct x y) is named = never ⊥ (λ q. q)
    conv_comes (New p) is named = never ⊥ (λ q. q)

    -- ---- Bring

    bring_none : (fact : MustFact) → IsOfLocks fact → (Moved R (depth - 0) (depth - 1) fact
        ⊎ ((at : ℕ) × (depth - 0 ≤ at) × (suc at < depth) × Moved R (suc at) at fact)) → ⊥
    bring_none fact is (inr h) = let high = h.1 in let deep = h.2 in absurd (omega arith)
    bring_none (With p x) is (inl h) = absurd is
    bring_none (Saved b x) is (inl h) = absurd is
    bring_none (Kept (on_stack p) x) is (inl h) = let under = (out (Kept (on_stack (depth - 0)) x) tt h.1).0.under in absurd (omega arith)
    bring_none (Kept (in_slot b) x) is (inl h) = absurd h
    bring_none (Locked x) is (inl h) = absurd h
    bring_none (Live x) is (inl h) = absurd h
    bring_none (Distinct x y) is (inl h) = absurd h
    bring_none (New p) is (inl h) = let under = (out (New (depth - 0)) tt h.1).0.under in absurd (omega arith)

    -- the value of a place, by what is true of the values before
    brought_test : (base p : ℕ) (its : ℕ → Bool) (P : ℕ → Type 0) → ((from : ℕ) → Decides (its from) (P from))
        → Decides (numeric.brought depth base its p)
        (((p ≡ depth - 1) × P base) ⊎ ((at : ℕ) × (base ≤ at) × (suc at < depth) × ((p ≡ at) × P (suc at))))
    brought_test base p its P tests =
        or_test ((p == depth - 1) && its base) (nat_le base p && (nat_lt (suc p) depth && its (suc p))) ((p ≡ depth - 1) × P base)
        ((at : ℕ) × (base ≤ at) × (suc at < depth) × ((p ≡ at) × P (suc at)))
        (and_test (p == depth - 1) (its base) (p ≡ depth - 1) (P base) (eq_test p (depth - 1)) (tests base))
        (as_test (nat_le base p && (nat_lt (suc p) depth && its (suc p))) ((base ≤ p) × (suc p < depth) × P (suc p))
        ((at : ℕ) × (base ≤ at) × (suc at < depth) × ((p ≡ at) × P (suc at))) (λ h. (p, h.0, h.1, (refl, h.2))) back
        (and_three (nat_le base p) (nat_lt (suc p) depth) (its (suc p)) (base ≤ p) (suc p < depth) (P (suc p)) (le_test base p) (lt_test (suc p) depth)
        (tests (suc p))))
      where
        back : (at : ℕ) × (base ≤ at) × (suc at < depth) × ((p ≡ at) × P (suc at)) → (base ≤ p) × (suc p < depth) × P (suc p)
        back h = subst (λ n. (base ≤ n) × (suc n < depth) × P (suc n)) (sym h.3.0) (h.1, h.2, h.3.1)

    -- nothing of the other fields
    bring_never : (base : ℕ) (Q : Type 0) → (Q → ⊥) → Decides false (Q ⊎ ((at : ℕ) × (base ≤ at) × (suc at < depth) × Q))
    bring_never base Q none = never (Q ⊎ ((at : ℕ) × (base ≤ at) × (suc at < depth) × Q)) no
      where
        no : Q ⊎ ((at : ℕ) × (base ≤ at) × (suc at < depth) × Q) → ⊥
        no (inl q) = none q
        no (inr h) = none h.3

    bring_comes : (base : ℕ) (fact : MustFact) → IsOfLocks fact → AreNames scope code fact
        → Decides (comes (change.Bring depth base) fact)
        (Moved R base (depth - 1) fact ⊎ ((at : ℕ) × (base ≤ at) × (suc at < depth) × Moved R (suc at) at fact))
    bring_comes base (With p x) is named = absurd is
    bring_comes base (Saved b x) is named = absurd is
    bring_comes base (Kept (on_stack p) x) is named =
        brought_test base p (λ from. kept_of from (index_of names x)) (λ from. R (Kept (on_stack from) x)) (λ from. kept_test from x named.1)
    bring_comes base (Kept (in_slot b) x) is named = bring_never base ⊥ (λ q. q)
    bring_comes base (Locked x) is named = bring_never base ⊥ (λ q. q)
    bring_comes base (Live x) is named = bring_never base ⊥ (λ q. q)
    bring_comes base (Distinct x y) is named = bring_never base ⊥ (λ q. q)
    bring_comes base (New p) is named = brought_test base p (λ from. new_of from 0) (λ from. R (New from)) (λ from. new_test from)

    -- ---- routines

    -- a handle that is used
    use_comes : (base : ℕ) (fact : MustFact) → IsOfLocks fact → AreNames scope code fact
        → Decides (comes (change.Use depth base) fact) (UsedIf R true base fact)
    use_comes base (With p x) is named = absurd is
    use_comes base (Saved b x) is named = absurd is
    use_comes base (Kept (on_stack p) x) is named = never ⊥ (λ q. q)
    use_comes base (Kept (in_slot b) x) is named = never ⊥ (λ q. q)
    use_comes base (Locked x) is named = never ⊥ (λ q. q)
    use_comes base (Live x) is named = with_test base x named
    use_comes base (Distinct x y) is named = never ⊥ (λ q. q)
    use_comes base (New p) is named = never ⊥ (λ q. q)

    -- the same, if it is unlocked or its state is set
    unlock_comes : (base : ℕ) (fact : MustFact) → IsOfLocks fact → AreNames scope code fact
        → Decides (comes (change.Unlock depth base) fact) (UsedIf R true base fact)
    unlock_comes base (With p x) is named = absurd is
    unlock_comes base (Saved b x) is named = absurd is
    unlock_comes base (Kept (on_stack p) x) is named = never ⊥ (λ q. q)
    unlock_comes base (Kept (in_slot b) x) is named = never ⊥ (λ q. q)
    unlock_comes base (Locked x) is named = never ⊥ (λ q. q)
    unlock_comes base (Live x) is named = with_test base x named
    unlock_comes base (Distinct x y) is named = never ⊥ (λ q. q)
    unlock_comes base (New p) is named = never ⊥ (λ q. q)

    set_state_comes : (base : ℕ) (fact : MustFact) → IsOfLocks fact → AreNames scope code fact
        → Decides (comes (change.SetState depth base) fact) (UsedIf R true base fact)
    set_state_comes base (With p x) is named = absurd is
    set_state_comes base (Saved b x) is named = absurd is
    set_state_comes base (Kept (on_stack p) x) is named = never ⊥ (λ q. q)
    set_state_comes base (Kept (in_slot b) x) is named = never ⊥ (λ q. q)
    set_state_comes base (Locked x) is named = never ⊥ (λ q. q)
    set_state_comes base (Live x) is named = with_test base x named
    set_state_comes base (Distinct x y) is named = never ⊥ (λ q. q)
    set_state_comes base (New p) is named = never ⊥ (λ q. q)

    lock_comes : (base : ℕ) (fact : MustFact) → IsOfLocks fact → AreNames scope code fact
        → Decides (comes (change.Lock depth base) fact) (UsedIf R true base fact ⊎ LockedBy R base fact ⊎ ⊥)
    lock_comes base (With p x) is named = absurd is
    lock_comes base (Saved b x) is named = absurd is
    lock_comes base (Kept (on_stack p) x) is named =
        let its = with_of low depth base (index_of names x) && (nat_lt p base && any (length names) (λ z. saved_of low depth p z && apart_of base z)) in
        let P = R (With base x) × (p < base) × ((z : Variable) × R (Saved (on_stack p) z) × Apart R base z) in
        second_only its P
        (and_three (with_of low depth base (index_of names x)) (nat_lt p base) (any (length names) (λ z. saved_of low depth p z && apart_of base z))
        (R (With base x)) (p < base) ((z : Variable) × R (Saved (on_stack p) z) × Apart R base z) (with_test base x named.1) (lt_test p base)
        (guarded_test base (saved_of low depth p) (on_stack p) (λ z named_z. saved_test p z named_z)))
    lock_comes base (Kept (in_slot b) x) is named =
        let its = with_of low depth base (index_of names x) && any (length names) (λ z. low (saved_in (index_of slots b) z) && apart_of base z) in
        let P = R (With base x) × Unit {0} × ((z : Variable) × R (Saved (in_slot b) z) × Apart R base z) in
        second_only its P
        (as_test its (R (With base x) × ((z : Variable) × R (Saved (in_slot b) z) × Apart R base z)) P (λ h. (h.0, tt, h.1)) (λ h. (h.0, h.2))
        (and_test (with_of low depth base (index_of names x)) (any (length names) (λ z. low (saved_in (index_of slots b) z) && apart_of base z))
        (R (With base x)) ((z : Variable) × R (Saved (in_slot b) z) × Apart R base z) (with_test base x named.1)
        (guarded_test base (λ z. low (saved_in (index_of slots b) z)) (in_slot b) (λ z named_z. saved_in_test b z named.0 named_z))))
    lock_comes base (Locked x) is named =
        second_only (with_of low depth base (index_of names x)) (R (With base x)) (with_test base x named)
    lock_comes base (Live x) is named = first_only (with_of low depth base (index_of names x)) (R (With base x)) (with_test base x named)
    lock_comes base (Distinct x y) is named = never_three
    lock_comes base (New p) is named = never_three

    read_comes : (base : ℕ) (fact : MustFact) → IsOfLocks fact → AreNames scope code fact
        → Decides (comes (change.ReadState depth base) fact) (UsedIf R true base fact ⊎ Read R base fact ⊎ ⊥)
    read_comes base (With p x) is named = absurd is
    read_comes base (Saved b x) is named = absurd is
    read_comes base (Kept (on_stack p) x) is named =
        second_only ((p == base) && T field.Locked (index_of names x)) ((p ≡ base) × R (Locked x))
        (and_test (p == base) (T field.Locked (index_of names x)) (p ≡ base) (R (Locked x)) (eq_test p base) (fact_test (Locked x) tt named.1 tt))
    read_comes base (Kept (in_slot b) x) is named = never_three
    read_comes base (Locked x) is named = never_three
    read_comes base (Live x) is named = first_only (with_of low depth base (index_of names x)) (R (With base x)) (with_test base x named)
    read_comes base (Distinct x y) is named = never_three
    read_comes base (New p) is named = never_three

    make_comes : (base : ℕ) (fact : MustFact) → IsOfLocks fact → Decides (comes (change.Make base) fact) (⊥ ⊎ ⊥ ⊎ MadeIf true base fact)
    make_comes base (With p x) is = absurd is
    make_comes base (Saved b x) is = absurd is
    make_comes base (Kept (on_stack p) x) is = never_three
    make_comes base (Kept (in_slot b) x) is = never_three
    make_comes base (Locked x) is = never_three
    make_comes base (Live x) is = never_three
    make_comes base (Distinct x y) is = never_three
    make_comes base (New p) is = third_only (p == base) (p ≡ base) (eq_test p base)

    dispose_comes : (base : ℕ) (fact : MustFact) → IsOfLocks fact → Decides (comes (change.Dispose depth base) fact) (⊥ ⊎ ⊥ ⊎ ⊥)
    dispose_comes base (With p x) is = absurd is
    dispose_comes base (Saved b x) is = absurd is
    dispose_comes base (Kept (on_stack p) x) is = never_three
    dispose_comes base (Kept (in_slot b) x) is = never_three
    dispose_comes base (Locked x) is = never_three
    dispose_comes base (Live x) is = never_three
    dispose_comes base (Distinct x y) is = never_three
    dispose_comes base (New p) is = never_three

    -- what stays if all below the base does
    plain_stays : (base : ℕ) (fact : MustFact) → IsOfLocks fact → Decides (stay_by (change.Pop base) fact) (Under base fact × Unit {0})
    plain_stays base fact is = with_unit (stay_by (change.Pop base) fact) (Under base fact) (under_test base fact is)

    unlock_stays : (base : ℕ) (fact : MustFact) → IsOfLocks fact → AreNames scope code fact
        → Decides (stay_by (change.Unlock depth base) fact) (Under base fact × StaysInRole R (Some role.Unlock) base fact)
    unlock_stays base (With p x) is named = absurd is
    unlock_stays base (Saved b x) is named = absurd is
    unlock_stays base (Kept (on_stack p) x) is named =
        and_test (nat_lt p base) (apart_of base (index_of names x)) (p < base) (Apart R base x) (lt_test p base) (apart_test base x named.1)
    unlock_stays base (Kept (in_slot b) x) is named = unit_with (apart_of base (index_of names x)) (Apart R base x) (apart_test base x named.1)
    unlock_stays base (Locked x) is named = unit_with (apart_of base (index_of names x)) (Apart R base x) (apart_test base x named)
    unlock_stays base (Live x) is named = always (Unit {0} × Unit {0}) (tt, tt)
    unlock_stays base (Distinct x y) is named = always (Unit {0} × Unit {0}) (tt, tt)
    unlock_stays base (New p) is named =
        with_unit (nat_lt p base && true) (p < base) (and_true (nat_lt p base) (p < base) (lt_test p base))

    restored_test : (base : ℕ) (y : Variable) → is_name scope code y ≡ true
        → Decides (apart_of base (index_of names y) || (any (length names) (λ x. with_of low depth base x && saved_of low depth (suc base) x)
        && kept_of (suc base) (index_of names y))) (Apart R base y ⊎ Restored R base y)
    restored_test base y named =
        or_test (apart_of base (index_of names y)) (any (length names) (λ x. with_of low depth base x && saved_of low depth (suc base) x)
        && kept_of (suc base) (index_of names y)) (Apart R base y) (Restored R base y) (apart_test base y named)
        (and_test (any (length names) (λ x. with_of low depth base x && saved_of low depth (suc base) x)) (kept_of (suc base) (index_of names y))
        (IsRestore R base (suc base)) (R (Kept (on_stack (suc base)) y)) (restore_test base) (kept_test (suc base) y named))

    set_state_stays : (base : ℕ) (fact : MustFact) → IsOfLocks fact → AreNames scope code fact
        → Decides (stay_by (change.SetState depth base) fact) (Under base fact × StaysInRole R (Some role.SetState) base fact)
    set_state_stays base (With p x) is named = absurd is
    set_state_stays base (Saved b x) is named = absurd is
    set_state_stays base (Kept (on_stack p) x) is named =
        and_test (nat_lt p base) (apart_of base (index_of names x) || (any (length names) (λ x. with_of low depth base x && saved_of low depth (suc base) x)
        && kept_of (suc base) (index_of names x))) (p < base) (Apart R base x ⊎ Restored R base x) (lt_test p base) (restored_test base x named.1)
    set_state_stays base (Kept (in_slot b) x) is named =
        unit_with (apart_of base (index_of names x) || (any (length names) (λ x. with_of low depth base x && saved_of low depth (suc base) x)
        && kept_of (suc base) (index_of names x))) (Apart R base x ⊎ Restored R base x) (restored_test base x named.1)
    set_state_stays base (Locked x) is named =
        unit_with (apart_of base (index_of names x) || (any (length names) (λ x. with_of low depth base x && saved_of low depth (suc base) x)
        && kept_of (suc base) (index_of names x))) (Apart R base x ⊎ Restored R base x) (restored_test base x named)
    set_state_stays base (Live x) is named = always (Unit {0} × Unit {0}) (tt, tt)
    set_state_stays base (Distinct x y) is named = always (Unit {0} × Unit {0}) (tt, tt)
    set_state_stays base (New p) is named =
        with_unit (nat_lt p base && true) (p < base) (and_true (nat_lt p base) (p < base) (lt_test p base))

    dispose_stays : (base : ℕ) (fact : MustFact) → IsOfLocks fact → AreNames scope code fact
        → Decides (stay_by (change.Dispose depth base) fact) (Under base fact × StaysInRole R (Some role.DisposeHandle) base fact)
    dispose_stays base (With p x) is named = absurd is
    dispose_stays base (Saved b x) is named = absurd is
    dispose_stays base (Kept (on_stack p) x) is named =
        with_unit (nat_lt p base && true) (p < base) (and_true (nat_lt p base) (p < base) (lt_test p base))
    dispose_stays base (Kept (in_slot b) x) is named = always (Unit {0} × Unit {0}) (tt, tt)
    dispose_stays base (Locked x) is named = always (Unit {0} × Unit {0}) (tt, tt)
    dispose_stays base (Live x) is named = unit_with (apart_of base (index_of names x)) (Apart R base x) (apart_test base x named)
    dispose_stays base (Distinct x y) is named = always (Unit {0} × Unit {0}) (tt, tt)
    dispose_stays base (New p) is named =
        with_unit (nat_lt p base && true) (p < base) (and_true (nat_lt p base) (p < base) (lt_test p base))

    -- ---- by the role

    abbrev RoleGives : Option Role → Bool → ℕ → MustFact → Type 0
    RoleGives its by_type base fact =
        ((Under base fact × StaysInRole R its base fact) × R fact)
        ⊎ UsedIf R (uses_handle its) base fact ⊎ BroughtByRole R its base fact ⊎ MadeIf (makes_by its by_type) base fact

    nothing : (base : ℕ) (fact : MustFact) → base ≤ depth → IsOfLocks fact → AreNames scope code fact
        → Decides (given (change.Pop base) (field_of names slots fact) (bit_of names slots fact)) (((Under base fact × Unit {0}) × R fact) ⊎ ⊥ ⊎ ⊥ ⊎ ⊥)
    nothing base fact low is named =
        whole_test (change.Pop base) fact (Under base fact × Unit {0}) (⊥ ⊎ ⊥ ⊎ ⊥) is named (λ h. under_more base depth low fact h.0)
        (plain_stays base fact is) (none_test base fact (⊥ ⊎ ⊥ ⊎ ⊥) none_of_three is)

    uses : (base : ℕ) (fact : MustFact) → base ≤ depth → IsOfLocks fact → AreNames scope code fact
        → Decides (given (change.Use depth base) (field_of names slots fact) (bit_of names slots fact))
        (((Under base fact × Unit {0}) × R fact) ⊎ UsedIf R true base fact ⊎ ⊥ ⊎ ⊥)
    uses base fact low is named =
        whole_test (change.Use depth base) fact (Under base fact × Unit {0}) (UsedIf R true base fact ⊎ ⊥ ⊎ ⊥) is named
        (λ h. under_more base depth low fact h.0) (plain_stays base fact is)
        (first_only (comes (change.Use depth base) fact) (UsedIf R true base fact) (use_comes base fact is named))

    makes : (base : ℕ) (fact : MustFact) → base ≤ depth → IsOfLocks fact → AreNames scope code fact
        → Decides (given (change.Make base) (field_of names slots fact) (bit_of names slots fact))
        (((Under base fact × Unit {0}) × R fact) ⊎ ⊥ ⊎ ⊥ ⊎ MadeIf true base fact)
    makes base fact low is named =
        whole_test (change.Make base) fact (Under base fact × Unit {0}) (⊥ ⊎ ⊥ ⊎ MadeIf true base fact) is named
        (λ h. under_more base depth low fact h.0) (plain_stays base fact is) (make_comes base fact is)

    unlock_all : (base : ℕ) (fact : MustFact) → base ≤ depth → IsOfLocks fact → AreNames scope code fact
        → Decides (given (change.Unlock depth base) (field_of names slots fact) (bit_of names slots fact))
        (((Under base fact × StaysInRole R (Some role.Unlock) base fact) × R fact) ⊎ UsedIf R true base fact ⊎ ⊥ ⊎ ⊥)
    unlock_all base fact low is named =
        whole_test (change.Unlock depth base) fact (Under base fact × StaysInRole R (Some role.Unlock) base fact) (UsedIf R true base fact ⊎ ⊥ ⊎ ⊥) is named
        (λ h. under_more base depth low fact h.0) (unlock_stays base fact is named)
        (first_only (comes (change.Unlock depth base) fact) (UsedIf R true base fact) (unlock_comes base fact is named))

    role_test : (its : Option Role) (by_type : Bool) (base : ℕ) (fact : MustFact) → base ≤ depth → IsOfLocks fact → AreNames scope code fact
        → Decides (given (role_change its by_type depth base) (field_of names slots fact) (bit_of names slots fact)) (RoleGives its by_type base fact)
    role_test None t base fact low is named = nothing base fact low is named
    role_test (Some role.NewHandle) t base fact low is named = makes base fact low is named
    role_test (Some role.DisposeHandle) t base fact low is named =
        whole_test (change.Dispose depth base) fact (Under base fact × StaysInRole R (Some role.DisposeHandle) base fact) (⊥ ⊎ ⊥ ⊎ ⊥) is named
        (λ h. under_more base depth low fact h.0) (dispose_stays base fact is named) (dispose_comes base fact is)
    role_test (Some role.GetSize) t base fact low is named = uses base fact low is named
    role_test (Some role.SetSize) t base fact low is named = uses base fact low is named
    role_test (Some role.Lock) t base fact low is named =
        whole_test (change.Lock depth base) fact (Under base fact × Unit {0}) (UsedIf R true base fact ⊎ LockedBy R base fact ⊎ ⊥) is named
        (λ h. under_more base depth low fact h.0) (plain_stays base fact is) (lock_comes base fact is named)
    role_test (Some role.Unlock) t base fact low is named = unlock_all base fact low is named
    role_test (Some role.Purge) t base fact low is named = uses base fact low is named
    role_test (Some role.NoPurge) t base fact low is named = uses base fact low is named
    role_test (Some role.GetState) t base fact low is named =
        whole_test (change.ReadState depth base) fact (Under base fact × Unit {0}) (UsedIf R true base fact ⊎ Read R base fact ⊎ ⊥) is named
        (λ h. under_more base depth low fact h.0) (plain_stays base fact is) (read_comes base fact is named)
    role_test (Some role.SetState) t base fact low is named =
        whole_test (change.SetState depth base) fact (Under base fact × StaysInRole R (Some role.SetState) base fact) (UsedIf R true base fact ⊎ ⊥ ⊎ ⊥) is
        named (λ h. under_more base depth low fact h.0) (set_state_stays base fact is named)
        (first_only (comes (change.SetState depth base) fact) (UsedIf R true base fact) (set_state_comes base fact is named))
    role_test (Some role.Empty) t base fact low is named = uses base fact low is named
    role_test (Some role.Realloc) t base fact low is named = unlock_all base fact low is named
    role_test (Some role.NewPtr) t base fact low is named = nothing base fact low is named
    role_test (Some role.DisposePtr) t base fact low is named = nothing base fact low is named
    role_test (Some role.BlockMove) t base fact low is named = nothing base fact low is named
    role_test (Some role.Getchar) t base fact low is named = nothing base fact low is named
    role_test (Some role.Putchar) t base fact low is named = nothing base fact low is named
    role_test (Some role.Plain) true base fact low is named = makes base fact low is named
    role_test (Some role.Plain) false base fact low is named = nothing base fact low is named

    -- ---- calls

    spared_name : (f : ℕ) (x : Variable) → is_name scope code x ≡ true
        → Decides (not (gone (assigned f) names (index_of names x))) ((g : ℕ) → assigned f g ≡ true → not (same_variable x (name.Global g)) ≡ true)
    spared_name f x named =
        subst (λ (it : Option Variable). Decides (not (gone_of (assigned f) it)) ((g : ℕ) → assigned f g ≡ true → not (same_variable x (name.Global g)) ≡ true))
        (sym (index_found names x (listed x named))) (spared x)
      where
        spared : (v : Variable) → Decides (not (gone_of (assigned f) (Some v))) ((g : ℕ) → assigned f g ≡ true → not (same_variable v (name.Global g)) ≡ true)
        spared (name.Local p) = always ((g : ℕ) → assigned f g ≡ true → true ≡ true) (λ g a. refl)
        spared (name.Global h) = (there, back)
          where
            there : not (assigned f h) ≡ true → (g : ℕ) → assigned f g ≡ true → not (h == g) ≡ true
            there n g a =
                (not_test (h == g) (h ≡ g) (eq_test h g)).1 (λ e. false_true (sym (ap not (subst (λ m. assigned f m ≡ true) (sym e) a)) ∙ n))

            back : ((g : ℕ) → assigned f g ≡ true → not (h == g) ≡ true) → not (assigned f h) ≡ true
            back all_g = (not_test (assigned f h) (assigned f h ≡ true) (self_test (assigned f h))).1 (λ a. (not_test (h == h) (h ≡ h) (eq_test h h)).0
                (all_g h a) refl)

    spared_slot : (f : ℕ) (b : Variable) → is_slot_in scope.types (variable_in scope b) ≡ true
        → ((g : ℕ) → is_slot_in scope.types (variable_in scope (name.Global g)) ≡ true → assigned f g ≡ true → index_of slots (name.Global g) < length slots)
        → Decides (not (gone (assigned f) slots (index_of slots b))) ((g : ℕ) → assigned f g ≡ true → not (same_variable b (name.Global g)) ≡ true)
    spared_slot f b slot are = by_place (cases_lt (index_of slots b) (length slots))
      where
        spared : (v : Variable) → Decides (not (gone_of (assigned f) (Some v))) ((g : ℕ) → assigned f g ≡ true → not (same_variable v (name.Global g)) ≡ true)
        spared (name.Local p) = always ((g : ℕ) → assigned f g ≡ true → true ≡ true) (λ g a. refl)
        spared (name.Global h) = (there, back)
          where
            there : not (assigned f h) ≡ true → (g : ℕ) → assigned f g ≡ true → not (h == g) ≡ true
            there n g a =
                (not_test (h == g) (h ≡ g) (eq_test h g)).1 (λ e. false_true (sym (ap not (subst (λ m. assigned f m ≡ true) (sym e) a)) ∙ n))

            back : ((g : ℕ) → assigned f g ≡ true → not (h == g) ≡ true) → not (assigned f h) ≡ true
            back all_g = (not_test (assigned f h) (assigned f h ≡ true) (self_test (assigned f h))).1 (λ a. (not_test (h == h) (h ≡ h) (eq_test h h)).0
                (all_g h a) refl)

        past : length slots ≤ index_of slots b → (g : ℕ) → assigned f g ≡ true → b ≡ name.Global g → ⊥
        past far g a e =
            let near = are g (subst (λ v. is_slot_in scope.types (variable_in scope v) ≡ true) e slot) a in
            let here : index_of slots b < length slots = subst (λ v. index_of slots v < length slots) (sym e) near in
            omega (arith, far, here)

        by_place : (index_of slots b < length slots) ⊎ (length slots ≤ index_of slots b)
            → Decides (not (gone (assigned f) slots (index_of slots b))) ((g : ℕ) → assigned f g ≡ true → not (same_variable b (name.Global g)) ≡ true)
        by_place (inl l) =
            subst (λ (it : Option Variable). Decides (not (gone_of (assigned f) it)) ((g : ℕ) → assigned f g ≡ true → not (same_variable b (name.Global g))
            ≡ true)) (sym (index_found slots b l)) (spared b)
        by_place (inr far) =
            subst (λ (t : Bool). Decides (not t) ((g : ℕ) → assigned f g ≡ true → not (same_variable b (name.Global g)) ≡ true))
            (sym (gone_past (assigned f) slots (index_of slots b) far))
            (always ((g : ℕ) → assigned f g ≡ true → not (same_variable b (name.Global g)) ≡ true)
            (λ g a. ap not (other_variables b (name.Global g) (λ e. past far g a e))))

    may_test : (effect : Bool) → Decides (not effect) (effect ≡ true → ⊥)
    may_test effect = not_test effect (effect ≡ true) (self_test effect)

    -- two that are spared, by one test
    spared_two : (f : ℕ) (a b : Bool) (x y : ℕ → Bool) → Decides a ((g : ℕ) → assigned f g ≡ true → x g ≡ true) → Decides b ((g : ℕ) → assigned f g ≡ true
        → y g ≡ true) → Decides (a && b) ((g : ℕ) → assigned f g ≡ true → (x g && y g) ≡ true)
    spared_two f a b x y s t =
        as_test (a && b) (((g : ℕ) → assigned f g ≡ true → x g ≡ true) × ((g : ℕ) → assigned f g ≡ true → y g ≡ true))
        ((g : ℕ) → assigned f g ≡ true → (x g && y g) ≡ true)
        (λ h g k. (and_test (x g) (y g) (x g ≡ true) (y g ≡ true) (self_test (x g)) (self_test (y g))).1 (h.0 g k, h.1 g k))
        (λ h. (
          λ g k. ((and_test (x g) (y g) (x g ≡ true) (y g ≡ true) (self_test (x g)) (self_test (y g))).0 (h g k)).0,
          λ g k. ((and_test (x g) (y g) (x g ≡ true) (y g ≡ true) (self_test (x g)) (self_test (y g))).0 (h g k)).1,
        ))
        (and_test a b ((g : ℕ) → assigned f g ≡ true → x g ≡ true) ((g : ℕ) → assigned f g ≡ true → y g ≡ true) s t)

    abbrev CallStays : ℕ → ℕ → MustFact → Type 0
    CallStays base f fact =
        Under base fact × StaysInCall (impact_with assigned unlocks disposes) f fact × IsSpared (impact_with assigned unlocks disposes) f fact

    -- in the order of the test
    turn_three : (test : Bool) (P Q S : Type 0) → Decides test (P × S × Q) → Decides test (P × Q × S)
    turn_three test P Q S t = as_test test (P × S × Q) (P × Q × S) (λ h. (h.0, h.2, h.1)) (λ h. (h.0, h.2, h.1)) t

    call_stays : (base f : ℕ) (fact : MustFact)
        → ((g : ℕ) → is_slot_in scope.types (variable_in scope (name.Global g)) ≡ true → assigned f g ≡ true → index_of slots (name.Global g) < length slots)
        → IsOfLocks fact → AreNames scope code fact
        → Decides (stay_by (change.Call base f (unlocks f) (disposes f)) fact) (CallStays base f fact)
    call_stays base f (With p x) are is named = absurd is
    call_stays base f (Saved b x) are is named = absurd is
    call_stays base f (Kept (on_stack p) x) are is named =
        turn_three (nat_lt p base && (not (gone (assigned f) names (index_of names x)) && not (unlocks f))) (p < base) (unlocks f ≡ true → ⊥)
        ((g : ℕ) → assigned f g ≡ true → not (same_variable x (name.Global g)) ≡ true)
        (and_three (nat_lt p base) (not (gone (assigned f) names (index_of names x))) (not (unlocks f)) (p < base)
        ((g : ℕ) → assigned f g ≡ true → not (same_variable x (name.Global g)) ≡ true) (unlocks f ≡ true → ⊥) (lt_test p base)
        (spared_name f x named.1) (may_test (unlocks f)))
    call_stays base f (Kept (in_slot b) x) are is named =
        as_test (not (gone (assigned f) slots (index_of slots b)) && (not (gone (assigned f) names (index_of names x)) && not (unlocks f)))
        (((g : ℕ) → assigned f g ≡ true → not (same_variable b (name.Global g)) ≡ true)
        × ((g : ℕ) → assigned f g ≡ true → not (same_variable x (name.Global g)) ≡ true) × (unlocks f ≡ true → ⊥))
        (CallStays base f (Kept (in_slot b) x))
        (λ h. (
          tt,
          h.2,
          λ g k. (and_test (not (same_variable b (name.Global g))) (not (same_variable x (name.Global g)))
              (not (same_variable b (name.Global g)) ≡ true) (not (same_variable x (name.Global g)) ≡ true) (self_test (not (same_variable b (name.Global g))))
              (self_test (not (same_variable x (name.Global g))))).1 (h.0 g k, h.1 g k),
        ))
        (λ h. (
          λ g k. ((and_test (not (same_variable b (name.Global g))) (not (same_variable x (name.Global g)))
              (not (same_variable b (name.Global g)) ≡ true) (not (same_variable x (name.Global g)) ≡ true)
              (self_test (not (same_variable b (name.Global g)))) (self_test (not (same_variable x (name.Global g))))).0 (h.2 g k)).0,
          λ g k. ((and_test (not (same_variable b (name.Global g))) (not (same_variable x (name.Global g)))
              (not (same_variable b (name.Global g)) ≡ true) (not (same_variable x (name.Global g)) ≡ true)
              (self_test (not (same_variable b (name.Global g)))) (self_test (not (same_variable x (name.Global g))))).0 (h.2 g k)).1,
          h.1,
        ))
        (and_three (not (gone (assigned f) slots (index_of slots b))) (not (gone (assigned f) names (index_of names x))) (not (unlocks f))
        ((g : ℕ) → assigned f g ≡ true → not (same_variable b (name.Global g)) ≡ true)
        ((g : ℕ) → assigned f g ≡ true → not (same_variable x (name.Global g)) ≡ true) (unlocks f ≡ true → ⊥) (spared_slot f b named.0 are)
        (spared_name f x named.1) (may_test (unlocks f)))
    call_stays base f (Locked x) are is named =
        as_test (not (gone (assigned f) names (index_of names x)) && not (unlocks f))
        (((g : ℕ) → assigned f g ≡ true → not (same_variable x (name.Global g)) ≡ true) × (unlocks f ≡ true → ⊥)) (CallStays base f (Locked x))
        (λ h. (tt, h.1, h.0)) (λ h. (h.2, h.1))
        (and_test (not (gone (assigned f) names (index_of names x))) (not (unlocks f))
        ((g : ℕ) → assigned f g ≡ true → not (same_variable x (name.Global g)) ≡ true) (unlocks f ≡ true → ⊥) (spared_name f x named)
        (may_test (unlocks f)))
    call_stays base f (Live x) are is named =
        as_test (not (gone (assigned f) names (index_of names x)) && not (disposes f))
        (((g : ℕ) → assigned f g ≡ true → not (same_variable x (name.Global g)) ≡ true) × (disposes f ≡ true → ⊥)) (CallStays base f (Live x))
        (λ h. (tt, h.1, h.0)) (λ h. (h.2, h.1))
        (and_test (not (gone (assigned f) names (index_of names x))) (not (disposes f))
        ((g : ℕ) → assigned f g ≡ true → not (same_variable x (name.Global g)) ≡ true) (disposes f ≡ true → ⊥) (spared_name f x named)
        (may_test (disposes f)))
    call_stays base f (Distinct x y) are is named =
        as_test (not (gone (assigned f) names (index_of names x)) && not (gone (assigned f) names (index_of names y)))
        ((g : ℕ) → assigned f g ≡ true → (not (same_variable x (name.Global g)) && not (same_variable y (name.Global g))) ≡ true)
        (CallStays base f (Distinct x y)) (λ h. (tt, tt, h)) (λ h. h.2)
        (spared_two f (not (gone (assigned f) names (index_of names x))) (not (gone (assigned f) names (index_of names y)))
        (λ g. not (same_variable x (name.Global g))) (λ g. not (same_variable y (name.Global g))) (spared_name f x named.0) (spared_name f y named.1))
    call_stays base f (New p) are is named =
        as_test (nat_lt p base && true) (p < base) (CallStays base f (New p)) (λ h. (h, tt, λ g k. refl)) (λ h. h.0)
        (and_true (nat_lt p base) (p < base) (lt_test p base))

    call_comes : (base f : ℕ) (fact : MustFact) → IsOfLocks fact → Decides (comes (change.Call base f (unlocks f) (disposes f)) fact) ⊥
    call_comes base f (With p x) is = absurd is
    call_comes base f (Saved b x) is = absurd is
    call_comes base f (Kept (on_stack p) x) is = never ⊥ (λ q. q)
    call_comes base f (Kept (in_slot b) x) is = never ⊥ (λ q. q)
    call_comes base f (Locked x) is = never ⊥ (λ q. q)
    call_comes base f (Live x) is = never ⊥ (λ q. q)
    call_comes base f (Distinct x y) is = never ⊥ (λ q. q)
    call_comes base f (New p) is = never ⊥ (λ q. q)

    -- ---- all operations

    abbrev OpDecides : Op → MustFact → Type 0
    OpDecides its fact =
        Decides (given (change_of scope code names slots unlocks disposes its depth) (field_of names slots fact) (bit_of names slots fact))
        (Gives scope code (impact_with assigned unlocks disposes) R its depth fact)

    pub gives_test : (its : Op) (fact : MustFact) → OpFits scope slots assigned its → IsOfLocks fact → AreNames scope code fact → OpDecides its fact
    gives_test (op.Num bits) fact fits is named = pop_test (depth - taken scope (op.Num bits)) fact (omega arith) is named
    gives_test op.Nil fact fits is named = pop_test (depth - taken scope op.Nil) fact (omega arith) is named
    gives_test (op.Address its) fact fits is named = pop_test (depth - taken scope (op.Address its)) fact (omega arith) is named
    gives_test (op.Store its) fact fits is named = pop_test (depth - taken scope (op.Store its)) fact (omega arith) is named
    gives_test op.Drop fact fits is named = pop_test (depth - taken scope op.Drop) fact (omega arith) is named
    gives_test (op.Unary its) fact fits is named = pop_test (depth - taken scope (op.Unary its)) fact (omega arith) is named
    gives_test (op.Binary its kind) fact fits is named = pop_test (depth - taken scope (op.Binary its kind)) fact (omega arith) is named
    gives_test op.IsNil fact fits is named = pop_test (depth - taken scope op.IsNil) fact (omega arith) is named
    gives_test (op.Compare its) fact fits is named = pop_test (depth - taken scope (op.Compare its)) fact (omega arith) is named
    gives_test (op.Difference size) fact fits is named = pop_test (depth - taken scope (op.Difference size)) fact (omega arith) is named
    gives_test (op.Offset bytes) fact fits is named = pop_test (depth - taken scope (op.Offset bytes)) fact (omega arith) is named
    gives_test (op.Step stride pointer_first) fact fits is named =
        pop_test (depth - taken scope (op.Step stride pointer_first)) fact (omega arith) is named
    gives_test (op.Jump target) fact fits is named = pop_test (depth - taken scope (op.Jump target)) fact (omega arith) is named
    gives_test (op.Zero target) fact fits is named = pop_test (depth - taken scope (op.Zero target)) fact (omega arith) is named
    gives_test (op.Choose goal) fact fits is named = pop_test (depth - taken scope (op.Choose goal)) fact (omega arith) is named
    gives_test (op.Shift place) fact fits is named = pop_test (depth - taken scope (op.Shift place)) fact (omega arith) is named
    gives_test op.Return fact fits is named = pop_test (depth - taken scope op.Return) fact (omega arith) is named
    gives_test op.Turn fact fits is named = pop_test (depth - taken scope op.Turn) fact (omega arith) is named
    gives_test op.Mark fact fits is named = pop_test (depth - taken scope op.Mark) fact (omega arith) is named
    gives_test (op.Pick target) fact fits is named = pop_test (depth - taken scope (op.Pick target)) fact (omega arith) is named
    gives_test (op.Load its) fact fits is named =
        whole_test (change.Use depth (depth - 1)) fact (Under (depth - 1) fact) (UsedIf R true (depth - 1) fact) is named
        (λ u. under_more (depth - 1) depth (omega arith) fact u) (under_test (depth - 1) fact is) (use_comes (depth - 1) fact is named)
    gives_test (op.Get v) fact fits is named =
        whole_test (change.Get depth (index_of slots v)) fact (Under (depth - 0) fact)
        (Brings scope code (impact_with assigned unlocks disposes) R (op.Get v) depth fact) is named (λ u. under_none fact u)
        (get_stays fact (index_of slots v) is) (get_comes v fact fits is named)
    gives_test (op.Set v) fact fits is named = set_test v (is_name scope code v) fact refl fits is named
    gives_test op.Dup fact fits is named =
        whole_test (change.Dup depth) fact (Under depth fact × (not_new (depth - 1) fact ≡ true)) (Copied R (depth - 1) depth fact) is named (λ h. h.0)
        (dup_stays fact is) (dup_comes fact is named)
    gives_test op.Tuck fact fits is named =
        whole_test (change.Tuck depth) fact (Under (depth - 2) fact)
        (Copied R (depth - 1) (depth - 2) fact ⊎ Copied R (depth - 2) (depth - 1) fact ⊎ Copied R (depth - 1) depth fact) is named
        (λ u. under_more (depth - 2) depth (omega arith) fact u) (under_test (depth - 2) fact is) (tuck_comes fact is named)
    gives_test (op.Conv kind) fact fits is named =
        whole_test (change.Conv depth) fact (Under (depth - 1) fact)
        (Brings scope code (impact_with assigned unlocks disposes) R (op.Conv kind) depth fact) is named
        (λ u. under_more (depth - 1) depth (omega arith) fact u) (under_test (depth - 1) fact is) (conv_comes fact is named)
    gives_test (op.Bring zero) fact fits is named =
        whole_test (change.Pop depth) fact (Under (depth - 0) fact) (Moved R (depth - 0) (depth - 1) fact
        ⊎ ((at : ℕ) × (depth - 0 ≤ at) × (suc at < depth) × Moved R (suc at) at fact)) is named (λ u. under_none fact u)
        (get_stays fact 0 is) (none_test depth fact (Moved R (depth - 0) (depth - 1) fact
        ⊎ ((at : ℕ) × (depth - 0 ≤ at) × (suc at < depth) × Moved R (suc at) at fact)) (bring_none fact is) is)
    gives_test (op.Bring (suc place)) fact fits is named =
        whole_test (change.Bring depth (depth - suc place)) fact (Under (depth - suc place) fact) (Moved R (depth - suc place) (depth - 1) fact
        ⊎ ((at : ℕ) × (depth - suc place ≤ at) × (suc at < depth) × Moved R (suc at) at fact)) is named
        (λ u. under_more (depth - suc place) depth (omega arith) fact u) (under_test (depth - suc place) fact is)
        (bring_comes (depth - suc place) fact is named)
    gives_test (op.Routine place) fact fits is named =
        role_test (role_at scope place) (result_is_handle scope place) (depth - taken scope (op.Routine place)) fact (omega arith) is named
    gives_test (op.Call f) fact fits is named =
        whole_test (change.Call (depth - taken scope (op.Call f)) f (unlocks f) (disposes f)) fact (CallStays (depth - taken scope (op.Call f)) f fact) ⊥ is
        named (λ h. under_more (depth - taken scope (op.Call f)) depth (omega arith) fact h.0)
        (call_stays (depth - taken scope (op.Call f)) f fact fits is named) (call_comes (depth - taken scope (op.Call f)) f fact is)
