-- What an operation gives of the facts With and Saved is what its step gives of them in numbers.
--     gives_after      a fact that is there after the step is given
--     after_gives      a fact that is given is there after the step
use Rattle.std.proofs.Common.{◌≡◌, ◌≢◌, ◌<◌, ◌≤◌, ◌⊎◌, ℕ, zero, suc, ◌-◌, ◌==◌, nat_lt, Bool, true, false, not, ◌&&◌, ap, sym, subst, ◌∙◌, refl, inl, inr, arith, if◌then◌else◌, List, length, Option, Some, None}
use Rattle.std.proofs.lemmas.Bool.{cases_eq, cases_lt}
use Rattle.hs_code.specs.Codes.{is_slot_in}
use Rattle.hs_code.specs.Stacks.{Scope, variable_in}
use Rattle.hs_code.specs.declared.function_code.FunctionCode.{FunctionCode}
use Rattle.hs_code.specs.declared.op.Op.{Op}
use Rattle.hs_code.specs.declared.op.Op.TheVariants as op
use Rattle.hs_fact_rows.specs.Laws.Numbers.{true_not_false, false_not_true, both, both_true, either, either_left, either_right, not_true, same_numbers, less_numbers, same_number, less_number, least_number, chosen, choose, choose_not, chosen_below, index_one, index_found, index_turned, gone_past, same_itself, other_variables}
use Rattle.hs_fact_rows.specs.Cells.{cell_of, index_of, with_at, saved_at, saved_in}
use Rattle.hs_fact_rows.specs.Given.{Facts, popped, placed, given_by, gone, gone_of, with_of, saved_of, no_name}
use Rattle.hs_fact_rows.specs.declared.step.Step.TheVariants as step
use Rattle.hs_fact_rows.specs.Steps.{AreListed, OpFits, step_of, set_step, routine_step}
use Rattle.hs_facts.specs.Changes.{Impact, Gives, Got, SetBy, SetName, SetOther, Copied, Moved, Read, StaysInRole, UsedIf, BroughtByRole, LockedBy, MadeIf}
use Rattle.hs_facts.specs.Laws.Bytes.{IsOfByte}
use Rattle.hs_facts.specs.MustFacts.{MustFact, on_stack, in_slot, With, Saved, Kept, Locked, Live, Distinct, New, Under, Exists, AreNames, free_of, not_new}
use Rattle.hs_facts.specs.Names.{is_name, taken, role_at, uses_handle, makes_handle, same_variable}
use Rattle.hs_table.specs.declared.role.Role.{Role}
use Rattle.hs_table.specs.declared.role.Role.TheVariants as role
use Rattle.hs_tree.specs.declared.head.Variable.{Variable}
use Rattle.hs_types.specs.declared.integer.Integer.{Integer}
use Rattle.hs_tree.specs.declared.head.Variable.TheVariants as name

-- what calls do, as far as assigned globals go
abbrev pub impact_by : (ℕ → ℕ → Bool) → Impact
impact_by assigned = record { assigns = λ f g. assigned f g ≡ true; unlocks = λ f. ⊥; disposes = λ f. ⊥ }

-- ---- names that are listed

-- With or Saved of a name that is in the list
abbrev pub IsTracked : List Variable → MustFact → Type 0
IsTracked names (With place x) = index_of names x < length names
IsTracked names (Saved b x) = index_of names x < length names
IsTracked names _ = ⊥

-- it is With or Saved
pub tracked_byte : (names : List Variable) (fact : MustFact) → IsTracked names fact → IsOfByte fact
tracked_byte names (With place x) is = tt
tracked_byte names (Saved b x) is = tt
tracked_byte names (Kept b x) is = absurd is
tracked_byte names (Locked x) is = absurd is
tracked_byte names (Live x) is = absurd is
tracked_byte names (Distinct x y) is = absurd is
tracked_byte names (New place) is = absurd is

-- ---- roles

minus_none : (n : ℕ) → n - 0 ≡ n
minus_none n = omega arith

stays_in_role : (R : MustFact → Type 0) (its : Option Role) (place : ℕ) (fact : MustFact) → IsOfByte fact → StaysInRole R its place fact
stays_in_role R None place fact is = tt
stays_in_role R (Some role.NewHandle) place fact is = tt
stays_in_role R (Some role.DisposeHandle) place (With at x) is = tt
stays_in_role R (Some role.DisposeHandle) place (Saved b x) is = tt
stays_in_role R (Some role.DisposeHandle) place (Kept b x) is = absurd is
stays_in_role R (Some role.DisposeHandle) place (Locked x) is = absurd is
stays_in_role R (Some role.DisposeHandle) place (Live x) is = absurd is
stays_in_role R (Some role.DisposeHandle) place (Distinct x y) is = absurd is
stays_in_role R (Some role.DisposeHandle) place (New at) is = absurd is
stays_in_role R (Some role.GetSize) place fact is = tt
stays_in_role R (Some role.SetSize) place fact is = tt
stays_in_role R (Some role.Lock) place fact is = tt
stays_in_role R (Some role.Unlock) place (With at x) is = tt
stays_in_role R (Some role.Unlock) place (Saved b x) is = tt
stays_in_role R (Some role.Unlock) place (Kept b x) is = absurd is
stays_in_role R (Some role.Unlock) place (Locked x) is = absurd is
stays_in_role R (Some role.Unlock) place (Live x) is = absurd is
stays_in_role R (Some role.Unlock) place (Distinct x y) is = absurd is
stays_in_role R (Some role.Unlock) place (New at) is = absurd is
stays_in_role R (Some role.Purge) place fact is = tt
stays_in_role R (Some role.NoPurge) place fact is = tt
stays_in_role R (Some role.GetState) place fact is = tt
stays_in_role R (Some role.SetState) place (With at x) is = tt
stays_in_role R (Some role.SetState) place (Saved b x) is = tt
stays_in_role R (Some role.SetState) place (Kept b x) is = absurd is
stays_in_role R (Some role.SetState) place (Locked x) is = absurd is
stays_in_role R (Some role.SetState) place (Live x) is = absurd is
stays_in_role R (Some role.SetState) place (Distinct x y) is = absurd is
stays_in_role R (Some role.SetState) place (New at) is = absurd is
stays_in_role R (Some role.Empty) place fact is = tt
stays_in_role R (Some role.Realloc) place (With at x) is = tt
stays_in_role R (Some role.Realloc) place (Saved b x) is = tt
stays_in_role R (Some role.Realloc) place (Kept b x) is = absurd is
stays_in_role R (Some role.Realloc) place (Locked x) is = absurd is
stays_in_role R (Some role.Realloc) place (Live x) is = absurd is
stays_in_role R (Some role.Realloc) place (Distinct x y) is = absurd is
stays_in_role R (Some role.Realloc) place (New at) is = absurd is
stays_in_role R (Some role.NewPtr) place fact is = tt
stays_in_role R (Some role.DisposePtr) place fact is = tt
stays_in_role R (Some role.BlockMove) place fact is = tt
stays_in_role R (Some role.Getchar) place fact is = tt
stays_in_role R (Some role.Putchar) place fact is = tt
stays_in_role R (Some role.Plain) place fact is = tt

used_none : (R : MustFact → Type 0) (used : Bool) (place : ℕ) (fact : MustFact) → IsOfByte fact → UsedIf R used place fact → ⊥
used_none R false place fact is h = h
used_none R true place (With at x) is h = h
used_none R true place (Saved b x) is h = h
used_none R true place (Kept b x) is h = is
used_none R true place (Locked x) is h = is
used_none R true place (Live x) is h = is
used_none R true place (Distinct x y) is h = is
used_none R true place (New at) is h = is

made_none : (made : Bool) (place : ℕ) (fact : MustFact) → IsOfByte fact → MadeIf made place fact → ⊥
made_none false place fact is h = h
made_none true place (With at x) is h = h
made_none true place (Saved b x) is h = h
made_none true place (Kept b x) is h = is
made_none true place (Locked x) is h = is
made_none true place (Live x) is h = is
made_none true place (Distinct x y) is h = is
made_none true place (New at) is h = is

module _ (scope : Scope) (code : FunctionCode) (names slots : List Variable) (assigned : ℕ → ℕ → Bool) (R : MustFact → Type 0) (T : Facts) (depth : ℕ)
    (into : (fact : MustFact) → IsTracked names fact → Exists scope code depth fact → T (cell_of names slots fact) ≡ true → R fact)
    (out : (fact : MustFact) → IsTracked names fact → R fact → Exists scope code depth fact × (T (cell_of names slots fact) ≡ true)) where
  -- the number of a name that is listed is that of another one exactly if they are one
  listed_test : (x v : Variable) → index_of names x < length names → (index_of names x == index_of names v) ≡ same_variable x v
  listed_test x v is = index_turned names x v is

  there : (fact : MustFact) → IsTracked names fact → R fact → T (cell_of names slots fact) ≡ true
  there fact is r = (out fact is r).1

  -- ---- what stays

  popped_out : (base : ℕ) (fact : MustFact) → base ≤ depth → IsTracked names fact → AreNames scope code fact
      → popped base (cell_of names slots fact) (T (cell_of names slots fact)) ≡ true → Under base fact × R fact
  popped_out base (With p x) low is named h =
      let t = both (nat_lt p base) (T (with_at p (index_of names x))) h in
      let under : p < base = less_numbers p base t.0 in
      (under, into (With p x) is (record { under = omega (arith, low, under); named = named }) t.1)
  popped_out base (Saved (on_stack p) x) low is named h =
      let t = both (nat_lt p base) (T (saved_at p (index_of names x))) h in
      let under : p < base = less_numbers p base t.0 in
      (under, into (Saved (on_stack p) x) is (record { under = omega (arith, low, under); named = named }) t.1)
  popped_out base (Saved (in_slot b) x) low is named h = (tt, into (Saved (in_slot b) x) is (record { under = tt; named = named }) h)
  popped_out base (Kept b x) low is named h = absurd is
  popped_out base (Locked x) low is named h = absurd is
  popped_out base (Live x) low is named h = absurd is
  popped_out base (Distinct x y) low is named h = absurd is
  popped_out base (New at) low is named h = absurd is

  popped_in : (base : ℕ) (fact : MustFact) → IsTracked names fact → Under base fact → R fact
      → popped base (cell_of names slots fact) (T (cell_of names slots fact)) ≡ true
  popped_in base (With p x) is under r = both_true (nat_lt p base) (T (with_at p (index_of names x))) (less_number p base under) (there (With p x) is r)
  popped_in base (Saved (on_stack p) x) is under r =
      both_true (nat_lt p base) (T (saved_at p (index_of names x))) (less_number p base under) (there (Saved (on_stack p) x) is r)
  popped_in base (Saved (in_slot b) x) is under r = there (Saved (in_slot b) x) is r
  popped_in base (Kept b x) is under r = absurd is
  popped_in base (Locked x) is under r = absurd is
  popped_in base (Live x) is under r = absurd is
  popped_in base (Distinct x y) is under r = absurd is
  popped_in base (New at) is under r = absurd is

  -- ---- places that are read

  with_out : (p : ℕ) (x : Variable) → index_of names x < length names → is_name scope code x ≡ true → with_of T depth p (index_of names x) ≡ true → R (With p x)
  with_out p x is named h =
      let t = both (nat_lt p depth) (T (with_at p (index_of names x))) h in
      into (With p x) is (record { under = less_numbers p depth t.0; named = named }) t.1

  saved_out : (p : ℕ) (x : Variable) → index_of names x < length names → is_name scope code x ≡ true → saved_of T depth p (index_of names x) ≡ true → R (Saved (on_stack p) x)
  saved_out p x is named h =
      let t = both (nat_lt p depth) (T (saved_at p (index_of names x))) h in
      into (Saved (on_stack p) x) is (record { under = less_numbers p depth t.0; named = (tt, named) }) t.1

  with_in : (p : ℕ) (x : Variable) → index_of names x < length names → R (With p x) → with_of T depth p (index_of names x) ≡ true
  with_in p x is r =
      let o = out (With p x) is r in both_true (nat_lt p depth) (T (with_at p (index_of names x))) (less_number p depth o.0.under) o.1

  saved_in_stack : (p : ℕ) (x : Variable) → index_of names x < length names → R (Saved (on_stack p) x) → saved_of T depth p (index_of names x) ≡ true
  saved_in_stack p x is r =
      let o = out (Saved (on_stack p) x) is r in both_true (nat_lt p depth) (T (saved_at p (index_of names x))) (less_number p depth o.0.under) o.1

  -- ---- Get

  get_out : (v : Variable) (fact : MustFact) → is_slot_in scope.types (variable_in scope v) ≡ true → IsTracked names fact → AreNames scope code fact
      → given_by assigned names slots (step_of scope code names slots (op.Get v) depth) T (cell_of names slots fact) ≡ true
      → (Under depth fact × R fact) ⊎ Got R v depth fact
  get_out v (With p x) slot is named h =
      by_place (chosen p depth (index_of names x == index_of names v) (popped depth (with_at p (index_of names x)) (T (with_at p (index_of names x)))) h)
    where
      by_place : ((p ≡ depth) × ((index_of names x == index_of names v) ≡ true))
          ⊎ ((p ≢ depth) × (popped depth (with_at p (index_of names x)) (T (with_at p (index_of names x))) ≡ true))
          → (Under depth (With p x) × R (With p x)) ⊎ Got R v depth (With p x)
      by_place (inl t) = inr (t.0, sym (index_one names v x is (sym (same_numbers (index_of names x) (index_of names v) t.1))))
      by_place (inr t) = inl (popped_out depth (With p x) (omega arith) is named t.1)
  get_out v (Saved (on_stack p) x) slot is named h =
      by_place (chosen p depth (T (saved_in (index_of slots v) (index_of names x))) (popped depth (saved_at p (index_of names x)) (T (saved_at p
      (index_of names x)))) h)
    where
      by_place : ((p ≡ depth) × (T (saved_in (index_of slots v) (index_of names x)) ≡ true))
          ⊎ ((p ≢ depth) × (popped depth (saved_at p (index_of names x)) (T (saved_at p (index_of names x))) ≡ true))
          → (Under depth (Saved (on_stack p) x) × R (Saved (on_stack p) x)) ⊎ Got R v depth (Saved (on_stack p) x)
      by_place (inl t) = inr (t.0, into (Saved (in_slot v) x) is (record { under = tt; named = (slot, named.1) }) t.1)
      by_place (inr t) = inl (popped_out depth (Saved (on_stack p) x) (omega arith) is named t.1)
  get_out v (Saved (in_slot b) x) slot is named h = inl (popped_out depth (Saved (in_slot b) x) (omega arith) is named h)
  get_out v (Kept b x) slot is named h = absurd is
  get_out v (Locked x) slot is named h = absurd is
  get_out v (Live x) slot is named h = absurd is
  get_out v (Distinct x y) slot is named h = absurd is
  get_out v (New at) slot is named h = absurd is

  get_in : (v : Variable) (fact : MustFact) → IsTracked names fact → (Under depth fact × R fact) ⊎ Got R v depth fact
      → given_by assigned names slots (step_of scope code names slots (op.Get v) depth) T (cell_of names slots fact) ≡ true
  get_in v (With p x) is (inl h) =
      let under = h.0 in
      choose_not p depth (index_of names x == index_of names v) (popped depth (with_at p (index_of names x)) (T (with_at p (index_of names x))))
      (omega (arith, under)) (popped_in depth (With p x) is h.0 h.1)
  get_in v (With p x) is (inr h) =
      choose p depth (index_of names x == index_of names v) (popped depth (with_at p (index_of names x)) (T (with_at p (index_of names x)))) h.0
      (same_number (index_of names x) (index_of names v) (ap (index_of names) h.1))
  get_in v (Saved (on_stack p) x) is (inl h) =
      let under = h.0 in
      choose_not p depth (T (saved_in (index_of slots v) (index_of names x))) (popped depth (saved_at p (index_of names x)) (T (saved_at p (index_of names x))))
      (omega (arith, under)) (popped_in depth (Saved (on_stack p) x) is h.0 h.1)
  get_in v (Saved (on_stack p) x) is (inr h) =
      choose p depth (T (saved_in (index_of slots v) (index_of names x))) (popped depth (saved_at p (index_of names x)) (T (saved_at p (index_of names x)))) h.0
      (there (Saved (in_slot v) x) is h.1)
  get_in v (Saved (in_slot b) x) is (inl h) = popped_in depth (Saved (in_slot b) x) is h.0 h.1
  get_in v (Saved (in_slot b) x) is (inr h) = absurd h
  get_in v (Kept b x) is h = absurd is
  get_in v (Locked x) is h = absurd is
  get_in v (Live x) is h = absurd is
  get_in v (Distinct x y) is h = absurd is
  get_in v (New at) is h = absurd is

  -- ---- a name is set

  set_name_out : (v : Variable) (fact : MustFact) → is_name scope code v ≡ true → index_of slots v < length slots → IsTracked names fact → AreNames scope code fact
      → given_by assigned names slots (set_step true depth (index_of names v) (index_of slots v)) T (cell_of names slots fact) ≡ true
      → (Under depth fact × (free_of v fact ≡ true) × (not_new (depth - 1) fact ≡ true) × R fact) ⊎ SetName R v (depth - 1) fact
  set_name_out v (With p x) is_v listed is named h =
      by_side (either ((p == depth - 1) && (index_of names x == index_of names v)) (not (index_of names x == index_of names v) && popped depth
      (with_at p (index_of names x)) (T (with_at p (index_of names x)))) h)
    where
      by_side : (((p == depth - 1) && (index_of names x == index_of names v)) ≡ true)
          ⊎ ((not (index_of names x == index_of names v) && popped depth (with_at p (index_of names x)) (T (with_at p (index_of names x)))) ≡ true)
          → (Under depth (With p x) × (free_of v (With p x) ≡ true) × (not_new (depth - 1) (With p x) ≡ true) × R (With p x))
          ⊎ SetName R v (depth - 1) (With p x)
      by_side (inl k) =
          let t = both (p == depth - 1) (index_of names x == index_of names v) k in
          inr (same_numbers p (depth - 1) t.0, sym (index_one names v x is (sym (same_numbers (index_of names x) (index_of names v) t.1))))
      by_side (inr k) =
          let t = both (not (index_of names x == index_of names v)) (popped depth (with_at p (index_of names x)) (T (with_at p (index_of names x)))) k in
          let o = popped_out depth (With p x) (omega arith) is named t.1 in
          inl (o.0, ap not (sym (listed_test x v is)) ∙ t.0, refl, o.1)
  set_name_out v (Saved (on_stack p) x) is_v listed is named h =
      let t = both (not (index_of names x == index_of names v)) (popped depth (saved_at p (index_of names x)) (T (saved_at p (index_of names x)))) h in
      let o = popped_out depth (Saved (on_stack p) x) (omega arith) is named t.1 in
      inl (o.0, ap not (sym (listed_test x v is)) ∙ t.0, refl, o.1)
  set_name_out v (Saved (in_slot b) x) is_v listed is named h =
      by_slot (chosen (index_of slots b) (index_of slots v) false (not (index_of names x == index_of names v) && T (saved_in (index_of slots b)
      (index_of names x))) h)
    where
      by_slot : ((index_of slots b ≡ index_of slots v) × (false ≡ true))
          ⊎ ((index_of slots b ≢ index_of slots v) × ((not (index_of names x == index_of names v) && T (saved_in (index_of slots b) (index_of names
          x))) ≡ true))
          → (Under depth (Saved (in_slot b) x) × (free_of v (Saved (in_slot b) x) ≡ true) × (not_new (depth - 1) (Saved (in_slot b) x) ≡ true) × R
          (Saved (in_slot b) x)) ⊎ SetName R v (depth - 1) (Saved (in_slot b) x)
      by_slot (inl k) = false_not_true k.1
      by_slot (inr k) =
          let t = both (not (index_of names x == index_of names v)) (T (saved_in (index_of slots b) (index_of names x))) k.1 in
          inl (
            tt,
            both_true (not (same_variable b v)) (not (same_variable x v)) (ap not (other_variables b v (λ e. k.0 (ap (index_of slots) e))))
                (ap not (sym (listed_test x v is)) ∙ t.0),
            refl,
            into (Saved (in_slot b) x) is (record { under = tt; named = named }) t.1,
          )
  set_name_out v (Kept b x) is_v listed is named h = absurd is
  set_name_out v (Locked x) is_v listed is named h = absurd is
  set_name_out v (Live x) is_v listed is named h = absurd is
  set_name_out v (Distinct x y) is_v listed is named h = absurd is
  set_name_out v (New at) is_v listed is named h = absurd is

  set_name_in : (v : Variable) (fact : MustFact) → is_name scope code v ≡ true → index_of slots v < length slots → IsTracked names fact
      → (Under depth fact × (free_of v fact ≡ true) × (not_new (depth - 1) fact ≡ true) × R fact) ⊎ SetName R v (depth - 1) fact
      → given_by assigned names slots (set_step true depth (index_of names v) (index_of slots v)) T (cell_of names slots fact) ≡ true
  set_name_in v (With p x) is_v listed is (inl h) =
      either_right ((p == depth - 1) && (index_of names x == index_of names v)) (not (index_of names x == index_of names v) && popped depth (with_at
      p (index_of names x)) (T (with_at p (index_of names x))))
      (both_true (not (index_of names x == index_of names v)) (popped depth (with_at p (index_of names x)) (T (with_at p (index_of names x))))
      (ap not (listed_test x v is) ∙ h.1) (popped_in depth (With p x) is h.0 h.3))
  set_name_in v (With p x) is_v listed is (inr h) =
      either_left ((p == depth - 1) && (index_of names x == index_of names v)) (not (index_of names x == index_of names v) && popped depth (with_at p
      (index_of names x)) (T (with_at p (index_of names x))))
      (both_true (p == depth - 1) (index_of names x == index_of names v) (same_number p (depth - 1) h.0) (same_number (index_of names x) (index_of
      names v) (ap (index_of names) h.1)))
  set_name_in v (Saved (on_stack p) x) is_v listed is (inl h) =
      both_true (not (index_of names x == index_of names v)) (popped depth (saved_at p (index_of names x)) (T (saved_at p (index_of names x))))
      (ap not (listed_test x v is) ∙ h.1) (popped_in depth (Saved (on_stack p) x) is h.0 h.3)
  set_name_in v (Saved (on_stack p) x) is_v listed is (inr h) = absurd h
  set_name_in v (Saved (in_slot b) x) is_v listed is (inl h) =
      let t = both (not (same_variable b v)) (not (same_variable x v)) h.1 in
      choose_not (index_of slots b) (index_of slots v) false (not (index_of names x == index_of names v) && T (saved_in (index_of slots b) (index_of names x)))
      (λ e. true_not_false (sym (same_itself v) ∙ ap (λ y. same_variable y v) (sym (index_one slots b v listed e)) ∙ not_true (same_variable b v) t.0))
      (both_true (not (index_of names x == index_of names v)) (T (saved_in (index_of slots b) (index_of names x)))
      (ap not (listed_test x v is) ∙ t.1) (there (Saved (in_slot b) x) is h.3))
  set_name_in v (Saved (in_slot b) x) is_v listed is (inr h) = absurd h
  set_name_in v (Kept b x) is_v listed is h = absurd is
  set_name_in v (Locked x) is_v listed is h = absurd is
  set_name_in v (Live x) is_v listed is h = absurd is
  set_name_in v (Distinct x y) is_v listed is h = absurd is
  set_name_in v (New at) is_v listed is h = absurd is

  -- ---- another slot is set

  not_named : (v x : Variable) → is_name scope code v ≡ false → is_name scope code x ≡ true → not (same_variable x v) ≡ true
  not_named v x plain its_name = ap not (other_variables x v (λ e. true_not_false (sym its_name ∙ ap (is_name scope code) e ∙ plain)))

  set_slot_out : (v : Variable) (fact : MustFact) → is_name scope code v ≡ false → index_of slots v < length slots → IsTracked names fact → AreNames scope code fact
      → given_by assigned names slots (set_step false depth (index_of names v) (index_of slots v)) T (cell_of names slots fact) ≡ true
      → (Under depth fact × (free_of v fact ≡ true) × (not_new (depth - 1) fact ≡ true) × R fact) ⊎ SetOther R v (depth - 1) fact
  set_slot_out v (With p x) plain listed is named h =
      let o = popped_out depth (With p x) (omega arith) is named h in inl (o.0, not_named v x plain named, refl, o.1)
  set_slot_out v (Saved (on_stack p) x) plain listed is named h =
      let o = popped_out depth (Saved (on_stack p) x) (omega arith) is named h in inl (o.0, not_named v x plain named.1, refl, o.1)
  set_slot_out v (Saved (in_slot b) x) plain listed is named h =
      by_slot (chosen (index_of slots b) (index_of slots v) (saved_of T depth (depth - 1) (index_of names x)) (T (saved_in (index_of slots b)
      (index_of names x))) h)
    where
      by_slot : ((index_of slots b ≡ index_of slots v) × (saved_of T depth (depth - 1) (index_of names x) ≡ true))
          ⊎ ((index_of slots b ≢ index_of slots v) × (T (saved_in (index_of slots b) (index_of names x)) ≡ true))
          → (Under depth (Saved (in_slot b) x) × (free_of v (Saved (in_slot b) x) ≡ true) × (not_new (depth - 1) (Saved (in_slot b) x) ≡ true) × R
          (Saved (in_slot b) x)) ⊎ SetOther R v (depth - 1) (Saved (in_slot b) x)
      by_slot (inl k) = inr (index_one slots b v listed k.0, saved_out (depth - 1) x is named.1 k.1)
      by_slot (inr k) =
          inl (
            tt,
            both_true (not (same_variable b v)) (not (same_variable x v)) (ap not (other_variables b v (λ e. k.0 (ap (index_of slots) e))))
                (not_named v x plain named.1),
            refl,
            into (Saved (in_slot b) x) is (record { under = tt; named = named }) k.1,
          )
  set_slot_out v (Kept b x) plain listed is named h = absurd is
  set_slot_out v (Locked x) plain listed is named h = absurd is
  set_slot_out v (Live x) plain listed is named h = absurd is
  set_slot_out v (Distinct x y) plain listed is named h = absurd is
  set_slot_out v (New at) plain listed is named h = absurd is

  set_slot_in : (v : Variable) (fact : MustFact) → is_name scope code v ≡ false → index_of slots v < length slots → IsTracked names fact
      → (Under depth fact × (free_of v fact ≡ true) × (not_new (depth - 1) fact ≡ true) × R fact) ⊎ SetOther R v (depth - 1) fact
      → given_by assigned names slots (set_step false depth (index_of names v) (index_of slots v)) T (cell_of names slots fact) ≡ true
  set_slot_in v (With p x) plain listed is (inl h) = popped_in depth (With p x) is h.0 h.3
  set_slot_in v (With p x) plain listed is (inr h) = absurd h
  set_slot_in v (Saved (on_stack p) x) plain listed is (inl h) = popped_in depth (Saved (on_stack p) x) is h.0 h.3
  set_slot_in v (Saved (on_stack p) x) plain listed is (inr h) = absurd h
  set_slot_in v (Saved (in_slot b) x) plain listed is (inl h) =
      let t = both (not (same_variable b v)) (not (same_variable x v)) h.1 in
      choose_not (index_of slots b) (index_of slots v) (saved_of T depth (depth - 1) (index_of names x)) (T (saved_in (index_of slots b) (index_of names x)))
      (λ e. true_not_false (sym (same_itself v) ∙ ap (λ y. same_variable y v) (sym (index_one slots b v listed e)) ∙ not_true (same_variable b v) t.0))
      (there (Saved (in_slot b) x) is h.3)
  set_slot_in v (Saved (in_slot b) x) plain listed is (inr h) =
      choose (index_of slots b) (index_of slots v) (saved_of T depth (depth - 1) (index_of names x)) (T (saved_in (index_of slots b) (index_of names x)))
      (ap (index_of slots) h.0) (saved_in_stack (depth - 1) x is h.1)
  set_slot_in v (Kept b x) plain listed is h = absurd is
  set_slot_in v (Locked x) plain listed is h = absurd is
  set_slot_in v (Live x) plain listed is h = absurd is
  set_slot_in v (Distinct x y) plain listed is h = absurd is
  set_slot_in v (New at) plain listed is h = absurd is

  -- ---- values that are copied

  not_new_byte : (top : ℕ) (fact : MustFact) → IsTracked names fact → not_new top fact ≡ true
  not_new_byte top (With p x) is = refl
  not_new_byte top (Saved b x) is = refl
  not_new_byte top (Kept b x) is = absurd is
  not_new_byte top (Locked x) is = absurd is
  not_new_byte top (Live x) is = absurd is
  not_new_byte top (Distinct x y) is = absurd is
  not_new_byte top (New at) is = absurd is

  copied_out : (from to : ℕ) (fact : MustFact) (before : Bool) → IsTracked names fact → AreNames scope code fact
      → placed to (with_of T depth from) (saved_of T depth from) (cell_of names slots fact) before ≡ true → Copied R from to fact ⊎ (before ≡ true)
  copied_out from to (With p x) before is named h = by_place (chosen p to (with_of T depth from (index_of names x)) before h)
    where
      by_place : ((p ≡ to) × (with_of T depth from (index_of names x) ≡ true)) ⊎ ((p ≢ to) × (before ≡ true)) → Copied R from to (With p x) ⊎ (before ≡ true)
      by_place (inl k) = inl (k.0, with_out from x is named k.1)
      by_place (inr k) = inr k.1
  copied_out from to (Saved (on_stack p) x) before is named h = by_place (chosen p to (saved_of T depth from (index_of names x)) before h)
    where
      by_place : ((p ≡ to) × (saved_of T depth from (index_of names x) ≡ true)) ⊎ ((p ≢ to) × (before ≡ true))
          → Copied R from to (Saved (on_stack p) x) ⊎ (before ≡ true)
      by_place (inl k) = inl (k.0, saved_out from x is named.1 k.1)
      by_place (inr k) = inr k.1
  copied_out from to (Saved (in_slot b) x) before is named h = inr h
  copied_out from to (Kept b x) before is named h = absurd is
  copied_out from to (Locked x) before is named h = absurd is
  copied_out from to (Live x) before is named h = absurd is
  copied_out from to (Distinct x y) before is named h = absurd is
  copied_out from to (New at) before is named h = absurd is

  copied_in : (from to : ℕ) (fact : MustFact) (before : Bool) → IsTracked names fact → Copied R from to fact
      → placed to (with_of T depth from) (saved_of T depth from) (cell_of names slots fact) before ≡ true
  copied_in from to (With p x) before is h = choose p to (with_of T depth from (index_of names x)) before h.0 (with_in from x is h.1)
  copied_in from to (Saved (on_stack p) x) before is h = choose p to (saved_of T depth from (index_of names x)) before h.0 (saved_in_stack from x is h.1)
  copied_in from to (Saved (in_slot b) x) before is h = absurd h
  copied_in from to (Kept b x) before is h = absurd is
  copied_in from to (Locked x) before is h = absurd is
  copied_in from to (Live x) before is h = absurd is
  copied_in from to (Distinct x y) before is h = absurd is
  copied_in from to (New at) before is h = absurd is

  before_kept : (base to : ℕ) (w s : ℕ → Bool) (fact : MustFact) (before : Bool) → base ≤ to → IsTracked names fact → Under base fact → before ≡ true
      → placed to w s (cell_of names slots fact) before ≡ true
  before_kept base to w s (With p x) before low is under h = choose_not p to (w (index_of names x)) before (omega (arith, low, under)) h
  before_kept base to w s (Saved (on_stack p) x) before low is under h = choose_not p to (s (index_of names x)) before (omega (arith, low, under)) h
  before_kept base to w s (Saved (in_slot b) x) before low is under h = h
  before_kept base to w s (Kept b x) before low is under h = absurd is
  before_kept base to w s (Locked x) before low is under h = absurd is
  before_kept base to w s (Live x) before low is under h = absurd is
  before_kept base to w s (Distinct x y) before low is under h = absurd is
  before_kept base to w s (New at) before low is under h = absurd is

  -- what is in one place already stays when another one is written
  copied_kept : (from to other : ℕ) (w s : ℕ → Bool) (fact : MustFact) (before : Bool) → to ≢ other → IsTracked names fact → Copied R from to fact → before ≡ true
      → placed other w s (cell_of names slots fact) before ≡ true
  copied_kept from to other w s (With p x) before ne is c h = let e = c.0 in choose_not p other (w (index_of names x)) before (λ k. ne (sym e ∙ k)) h
  copied_kept from to other w s (Saved (on_stack p) x) before ne is c h = let e = c.0 in choose_not p other (s (index_of names x)) before (λ k. ne
      (sym e ∙ k)) h
  copied_kept from to other w s (Saved (in_slot b) x) before ne is c h = absurd c
  copied_kept from to other w s (Kept b x) before ne is c h = absurd is
  copied_kept from to other w s (Locked x) before ne is c h = absurd is
  copied_kept from to other w s (Live x) before ne is c h = absurd is
  copied_kept from to other w s (Distinct x y) before ne is c h = absurd is
  copied_kept from to other w s (New at) before ne is c h = absurd is

  -- a value that is copied is there
  copied_there : (from to : ℕ) (fact : MustFact) → IsTracked names fact → Copied R from to fact → from < depth
  copied_there from to (With p x) is c = (out (With from x) is c.1).0.under
  copied_there from to (Saved (on_stack p) x) is c = (out (Saved (on_stack from) x) is c.1).0.under
  copied_there from to (Saved (in_slot b) x) is c = absurd c
  copied_there from to (Kept b x) is c = absurd is
  copied_there from to (Locked x) is c = absurd is
  copied_there from to (Live x) is c = absurd is
  copied_there from to (Distinct x y) is c = absurd is
  copied_there from to (New at) is c = absurd is

  dup_out : (fact : MustFact) → IsTracked names fact → AreNames scope code fact
      → given_by assigned names slots (step_of scope code names slots op.Dup depth) T (cell_of names slots fact) ≡ true
      → Gives scope code (impact_by assigned) R op.Dup depth fact
  dup_out fact is named h =
      by_place (copied_out (depth - 1) depth fact (popped depth (cell_of names slots fact) (T (cell_of names slots fact))) is named h)
    where
      by_place : Copied R (depth - 1) depth fact ⊎ (popped depth (cell_of names slots fact) (T (cell_of names slots fact)) ≡ true)
          → Gives scope code (impact_by assigned) R op.Dup depth fact
      by_place (inl c) = inr c
      by_place (inr k) = let o = popped_out depth fact (omega arith) is named k in inl ((o.0, not_new_byte (depth - 1) fact is), o.1)

  dup_in : (fact : MustFact) → IsTracked names fact → Gives scope code (impact_by assigned) R op.Dup depth fact
      → given_by assigned names slots (step_of scope code names slots op.Dup depth) T (cell_of names slots fact) ≡ true
  dup_in fact is (inl h) =
      before_kept depth depth (with_of T depth (depth - 1)) (saved_of T depth (depth - 1)) fact (popped depth (cell_of names slots fact) (T (cell_of
      names slots fact)))
      (omega arith) is h.0.0 (popped_in depth fact is h.0.0 h.1)
  dup_in fact is (inr c) = copied_in (depth - 1) depth fact (popped depth (cell_of names slots fact) (T (cell_of names slots fact))) is c

  -- ---- Tuck

  tuck_out : (fact : MustFact) → IsTracked names fact → AreNames scope code fact
      → given_by assigned names slots (step_of scope code names slots (op.Tuck) depth) T (cell_of names slots fact) ≡ true
      → Gives scope code (impact_by assigned) R (op.Tuck) depth fact
  tuck_out fact is named h = first (copied_out (depth - 1) depth fact (placed (depth - 1) (with_of T depth (depth - 2)) (saved_of T depth (depth -
      2)) (cell_of names slots fact) (placed (depth - 2) (with_of T depth (depth - 1)) (saved_of T depth (depth - 1)) (cell_of names slots fact)
      (popped (depth - 2) (cell_of names slots fact) (T (cell_of names slots fact))))) is named h)
    where
      third : Copied R (depth - 1) (depth - 2) fact ⊎ ((popped (depth - 2) (cell_of names slots fact) (T (cell_of names slots fact))) ≡ true)
          → Gives scope code (impact_by assigned) R (op.Tuck) depth fact
      third (inl c) = inr (inl c)
      third (inr k) = let o = popped_out (depth - 2) fact (omega arith) is named k in inl (o.0, o.1)

      second : Copied R (depth - 2) (depth - 1) fact ⊎ ((placed (depth - 2) (with_of T depth (depth - 1)) (saved_of T depth (depth - 1)) (cell_of
          names slots fact) (popped (depth - 2) (cell_of names slots fact) (T (cell_of names slots fact)))) ≡ true)
          → Gives scope code (impact_by assigned) R (op.Tuck) depth fact
      second (inl c) = inr (inr (inl c))
      second (inr k) = third (copied_out (depth - 1) (depth - 2) fact (popped (depth - 2) (cell_of names slots fact) (T (cell_of names slots fact))) is named k)

      first : Copied R (depth - 1) depth fact ⊎ ((placed (depth - 1) (with_of T depth (depth - 2)) (saved_of T depth (depth - 2)) (cell_of names
          slots fact) (placed (depth - 2) (with_of T depth (depth - 1)) (saved_of T depth (depth - 1)) (cell_of names slots fact) (popped (depth - 2)
          (cell_of names slots fact) (T (cell_of names slots fact))))) ≡ true) → Gives scope code (impact_by assigned) R (op.Tuck) depth fact
      first (inl c) = inr (inr (inr c))
      first (inr k) = second (copied_out (depth - 2) (depth - 1) fact (placed (depth - 2) (with_of T depth (depth - 1)) (saved_of T depth (depth -
          1)) (cell_of names slots fact) (popped (depth - 2) (cell_of names slots fact) (T (cell_of names slots fact)))) is named k)

  tuck_in : (fact : MustFact) → IsTracked names fact → Gives scope code (impact_by assigned) R (op.Tuck) depth fact
      → given_by assigned names slots (step_of scope code names slots (op.Tuck) depth) T (cell_of names slots fact) ≡ true
  tuck_in fact is (inl h) =
      before_kept (depth - 2) depth (with_of T depth (depth - 1)) (saved_of T depth (depth - 1)) fact (placed (depth - 1) (with_of T depth (depth -
      2)) (saved_of T depth (depth - 2)) (cell_of names slots fact) (placed (depth - 2) (with_of T depth (depth - 1)) (saved_of T depth (depth -
      1)) (cell_of names slots fact) (popped (depth - 2) (cell_of names slots fact) (T (cell_of names slots fact))))) (omega arith) is h.0
      (before_kept (depth - 2) (depth - 1) (with_of T depth (depth - 2)) (saved_of T depth (depth - 2)) fact (placed (depth - 2) (with_of T depth
      (depth - 1)) (saved_of T depth (depth - 1)) (cell_of names slots fact) (popped (depth - 2) (cell_of names slots fact) (T (cell_of names
      slots fact)))) (omega arith) is h.0
      (before_kept (depth - 2) (depth - 2) (with_of T depth (depth - 1)) (saved_of T depth (depth - 1)) fact (popped (depth - 2) (cell_of names slots
      fact) (T (cell_of names slots fact))) (omega arith) is h.0
      (popped_in (depth - 2) fact is h.0 h.1)))
  tuck_in fact is (inr (inl c)) = by_place (cases_eq (depth - 2) (depth - 1))
    where
      some : depth - 1 < depth
      some = copied_there (depth - 1) (depth - 2) fact is c

      by_place : (depth - 2 ≡ depth - 1) ⊎ (depth - 2 ≡ depth - 1 → ⊥)
          → given_by assigned names slots (step_of scope code names slots (op.Tuck) depth) T (cell_of names slots fact) ≡ true
      by_place (inl e) =
          copied_kept (depth - 1) (depth - 2) depth (with_of T depth (depth - 1)) (saved_of T depth (depth - 1)) fact (placed (depth - 1) (with_of T
          depth (depth - 2)) (saved_of T depth (depth - 2)) (cell_of names slots fact) (placed (depth - 2) (with_of T depth (depth - 1))
          (saved_of T depth (depth - 1)) (cell_of names slots fact) (popped (depth - 2) (cell_of names slots fact) (T (cell_of names slots
          fact))))) (omega (arith, some)) is c
          (subst (λ n. placed (depth - 1) (with_of T depth n) (saved_of T depth n) (cell_of names slots fact) (placed (depth - 2) (with_of T depth
          (depth - 1)) (saved_of T depth (depth - 1)) (cell_of names slots fact) (popped (depth - 2) (cell_of names slots fact) (T (cell_of names
          slots fact)))) ≡ true) (sym e)
          (copied_in (depth - 1) (depth - 1) fact (placed (depth - 2) (with_of T depth (depth - 1)) (saved_of T depth (depth - 1)) (cell_of names
          slots fact) (popped (depth - 2) (cell_of names slots fact) (T (cell_of names slots fact)))) is (subst (λ n. Copied R (depth - 1) n
          fact) e c)))
      by_place (inr ne) =
          copied_kept (depth - 1) (depth - 2) depth (with_of T depth (depth - 1)) (saved_of T depth (depth - 1)) fact (placed (depth - 1) (with_of T
          depth (depth - 2)) (saved_of T depth (depth - 2)) (cell_of names slots fact) (placed (depth - 2) (with_of T depth (depth - 1))
          (saved_of T depth (depth - 1)) (cell_of names slots fact) (popped (depth - 2) (cell_of names slots fact) (T (cell_of names slots
          fact))))) (omega (arith, some)) is c
          (copied_kept (depth - 1) (depth - 2) (depth - 1) (with_of T depth (depth - 2)) (saved_of T depth (depth - 2)) fact (placed (depth - 2)
          (with_of T depth (depth - 1)) (saved_of T depth (depth - 1)) (cell_of names slots fact) (popped (depth - 2) (cell_of names slots fact)
          (T (cell_of names slots fact)))) ne is c
          (copied_in (depth - 1) (depth - 2) fact (popped (depth - 2) (cell_of names slots fact) (T (cell_of names slots fact))) is c))
  tuck_in fact is (inr (inr (inl c))) =
      let some = copied_there (depth - 2) (depth - 1) fact is c in
      copied_kept (depth - 2) (depth - 1) depth (with_of T depth (depth - 1)) (saved_of T depth (depth - 1)) fact (placed (depth - 1) (with_of T
      depth (depth - 2)) (saved_of T depth (depth - 2)) (cell_of names slots fact) (placed (depth - 2) (with_of T depth (depth - 1)) (saved_of T
      depth (depth - 1)) (cell_of names slots fact) (popped (depth - 2) (cell_of names slots fact) (T (cell_of names slots fact))))) (omega
      (arith, some)) is c
      (copied_in (depth - 2) (depth - 1) fact (placed (depth - 2) (with_of T depth (depth - 1)) (saved_of T depth (depth - 1)) (cell_of names slots
      fact) (popped (depth - 2) (cell_of names slots fact) (T (cell_of names slots fact)))) is c)
  tuck_in fact is (inr (inr (inr c))) = copied_in (depth - 1) depth fact (placed (depth - 1) (with_of T depth (depth - 2)) (saved_of T depth (depth -
      2)) (cell_of names slots fact) (placed (depth - 2) (with_of T depth (depth - 1)) (saved_of T depth (depth - 1)) (cell_of names slots fact)
      (popped (depth - 2) (cell_of names slots fact) (T (cell_of names slots fact))))) is c

  -- ---- Conv

  conv_out : (kind : Integer) (fact : MustFact) → IsTracked names fact → AreNames scope code fact
      → given_by assigned names slots (step_of scope code names slots (op.Conv kind) depth) T (cell_of names slots fact) ≡ true
      → Gives scope code (impact_by assigned) R (op.Conv kind) depth fact
  conv_out kind (With p x) is named h = by_place (chosen p (depth - 1) false (popped (depth - 1) (with_at p (index_of names x)) (T (with_at p
      (index_of names x)))) h)
    where
      by_place : ((p ≡ depth - 1) × (false ≡ true)) ⊎ ((p ≢ depth - 1) × (popped (depth - 1) (with_at p (index_of names x)) (T (with_at p (index_of
          names x))) ≡ true))
          → Gives scope code (impact_by assigned) R (op.Conv kind) depth (With p x)
      by_place (inl k) = false_not_true k.1
      by_place (inr k) = inl (popped_out (depth - 1) (With p x) (omega arith) is named k.1)
  conv_out kind (Saved (on_stack p) x) is named h =
      by_place (chosen p (depth - 1) (saved_of T depth (depth - 1) (index_of names x)) (popped (depth - 1) (saved_at p (index_of names x)) (T
      (saved_at p (index_of names x)))) h)
    where
      by_place : ((p ≡ depth - 1) × (saved_of T depth (depth - 1) (index_of names x) ≡ true))
          ⊎ ((p ≢ depth - 1) × (popped (depth - 1) (saved_at p (index_of names x)) (T (saved_at p (index_of names x))) ≡ true))
          → Gives scope code (impact_by assigned) R (op.Conv kind) depth (Saved (on_stack p) x)
      by_place (inl k) = inr (k.0, saved_out (depth - 1) x is named.1 k.1)
      by_place (inr k) = inl (popped_out (depth - 1) (Saved (on_stack p) x) (omega arith) is named k.1)
  conv_out kind (Saved (in_slot b) x) is named h = inl (popped_out (depth - 1) (Saved (in_slot b) x) (omega arith) is named h)
  conv_out kind (Kept b x) is named h = absurd is
  conv_out kind (Locked x) is named h = absurd is
  conv_out kind (Live x) is named h = absurd is
  conv_out kind (Distinct x y) is named h = absurd is
  conv_out kind (New at) is named h = absurd is

  conv_in : (kind : Integer) (fact : MustFact) → IsTracked names fact → Gives scope code (impact_by assigned) R (op.Conv kind) depth fact
      → given_by assigned names slots (step_of scope code names slots (op.Conv kind) depth) T (cell_of names slots fact) ≡ true
  conv_in kind (With p x) is (inl h) =
      before_kept (depth - 1) (depth - 1) no_name (saved_of T depth (depth - 1)) (With p x) (popped (depth - 1) (with_at p (index_of names x)) (T
      (with_at p (index_of names x))))
      (omega arith) is h.0 (popped_in (depth - 1) (With p x) is h.0 h.1)
  conv_in kind (With p x) is (inr h) = absurd h
  conv_in kind (Saved (on_stack p) x) is (inl h) =
      before_kept (depth - 1) (depth - 1) no_name (saved_of T depth (depth - 1)) (Saved (on_stack p) x) (popped (depth - 1) (saved_at p (index_of
      names x)) (T (saved_at p (index_of names x))))
      (omega arith) is h.0 (popped_in (depth - 1) (Saved (on_stack p) x) is h.0 h.1)
  conv_in kind (Saved (on_stack p) x) is (inr h) =
      choose p (depth - 1) (saved_of T depth (depth - 1) (index_of names x)) (popped (depth - 1) (saved_at p (index_of names x)) (T (saved_at p
      (index_of names x)))) h.0
      (saved_in_stack (depth - 1) x is h.1)
  conv_in kind (Saved (in_slot b) x) is (inl h) = popped_in (depth - 1) (Saved (in_slot b) x) is h.0 h.1
  conv_in kind (Saved (in_slot b) x) is (inr h) = absurd h
  conv_in kind (Kept b x) is h = absurd is
  conv_in kind (Locked x) is h = absurd is
  conv_in kind (Live x) is h = absurd is
  conv_in kind (Distinct x y) is h = absurd is
  conv_in kind (New at) is h = absurd is

  -- ---- routines

  read_out : (base : ℕ) (fact : MustFact) → base ≤ depth → IsTracked names fact → AreNames scope code fact
      → given_by assigned names slots (step.ReadState depth base) T (cell_of names slots fact) ≡ true → (Under base fact × R fact) ⊎ Read R base fact
  read_out base (With p x) low is named h = by_place (chosen p base false (popped base (with_at p (index_of names x)) (T (with_at p (index_of names x)))) h)
    where
      by_place : ((p ≡ base) × (false ≡ true)) ⊎ ((p ≢ base) × (popped base (with_at p (index_of names x)) (T (with_at p (index_of names x))) ≡ true))
          → (Under base (With p x) × R (With p x)) ⊎ Read R base (With p x)
      by_place (inl k) = false_not_true k.1
      by_place (inr k) = inl (popped_out base (With p x) low is named k.1)
  read_out base (Saved (on_stack p) x) low is named h =
      by_place (chosen p base (with_of T depth base (index_of names x)) (popped base (saved_at p (index_of names x)) (T (saved_at p (index_of names x)))) h)
    where
      by_place : ((p ≡ base) × (with_of T depth base (index_of names x) ≡ true))
          ⊎ ((p ≢ base) × (popped base (saved_at p (index_of names x)) (T (saved_at p (index_of names x))) ≡ true))
          → (Under base (Saved (on_stack p) x) × R (Saved (on_stack p) x)) ⊎ Read R base (Saved (on_stack p) x)
      by_place (inl k) = inr (k.0, with_out base x is named.1 k.1)
      by_place (inr k) = inl (popped_out base (Saved (on_stack p) x) low is named k.1)
  read_out base (Saved (in_slot b) x) low is named h = inl (popped_out base (Saved (in_slot b) x) low is named h)
  read_out base (Kept b x) low is named h = absurd is
  read_out base (Locked x) low is named h = absurd is
  read_out base (Live x) low is named h = absurd is
  read_out base (Distinct x y) low is named h = absurd is
  read_out base (New at) low is named h = absurd is

  read_in : (base : ℕ) (fact : MustFact) → IsTracked names fact → (Under base fact × R fact) ⊎ Read R base fact
      → given_by assigned names slots (step.ReadState depth base) T (cell_of names slots fact) ≡ true
  read_in base (With p x) is (inl h) =
      before_kept base base no_name (with_of T depth base) (With p x) (popped base (with_at p (index_of names x)) (T (with_at p (index_of names x))))
      (omega arith) is h.0
      (popped_in base (With p x) is h.0 h.1)
  read_in base (With p x) is (inr h) = absurd h
  read_in base (Saved (on_stack p) x) is (inl h) =
      before_kept base base no_name (with_of T depth base) (Saved (on_stack p) x) (popped base (saved_at p (index_of names x)) (T (saved_at p
      (index_of names x))))
      (omega arith) is h.0 (popped_in base (Saved (on_stack p) x) is h.0 h.1)
  read_in base (Saved (on_stack p) x) is (inr h) =
      choose p base (with_of T depth base (index_of names x)) (popped base (saved_at p (index_of names x)) (T (saved_at p (index_of names x)))) h.0
      (with_in base x is h.1)
  read_in base (Saved (in_slot b) x) is (inl h) = popped_in base (Saved (in_slot b) x) is h.0 h.1
  read_in base (Saved (in_slot b) x) is (inr h) = absurd h
  read_in base (Kept b x) is h = absurd is
  read_in base (Locked x) is h = absurd is
  read_in base (Live x) is h = absurd is
  read_in base (Distinct x y) is h = absurd is
  read_in base (New at) is h = absurd is

  role_out : (its : Option Role) (base : ℕ) (fact : MustFact) → base ≤ depth → IsTracked names fact → AreNames scope code fact
      → given_by assigned names slots (routine_step its depth base) T (cell_of names slots fact) ≡ true → (Under base fact × R fact)
      ⊎ BroughtByRole R its base fact
  role_out None base fact low is named h = inl (popped_out base fact low is named h)
  role_out (Some role.NewHandle) base fact low is named h = inl (popped_out base fact low is named h)
  role_out (Some role.DisposeHandle) base fact low is named h = inl (popped_out base fact low is named h)
  role_out (Some role.GetSize) base fact low is named h = inl (popped_out base fact low is named h)
  role_out (Some role.SetSize) base fact low is named h = inl (popped_out base fact low is named h)
  role_out (Some role.Lock) base fact low is named h = inl (popped_out base fact low is named h)
  role_out (Some role.Unlock) base fact low is named h = inl (popped_out base fact low is named h)
  role_out (Some role.Purge) base fact low is named h = inl (popped_out base fact low is named h)
  role_out (Some role.NoPurge) base fact low is named h = inl (popped_out base fact low is named h)
  role_out (Some role.GetState) base fact low is named h = read_out base fact low is named h
  role_out (Some role.SetState) base fact low is named h = inl (popped_out base fact low is named h)
  role_out (Some role.Empty) base fact low is named h = inl (popped_out base fact low is named h)
  role_out (Some role.Realloc) base fact low is named h = inl (popped_out base fact low is named h)
  role_out (Some role.NewPtr) base fact low is named h = inl (popped_out base fact low is named h)
  role_out (Some role.DisposePtr) base fact low is named h = inl (popped_out base fact low is named h)
  role_out (Some role.BlockMove) base fact low is named h = inl (popped_out base fact low is named h)
  role_out (Some role.Getchar) base fact low is named h = inl (popped_out base fact low is named h)
  role_out (Some role.Putchar) base fact low is named h = inl (popped_out base fact low is named h)
  role_out (Some role.Plain) base fact low is named h = inl (popped_out base fact low is named h)

  locked_none : (base : ℕ) (fact : MustFact) → IsTracked names fact → LockedBy R base fact → ⊥
  locked_none base (With p x) is h = h
  locked_none base (Saved b x) is h = h
  locked_none base (Kept b x) is h = is
  locked_none base (Locked x) is h = is
  locked_none base (Live x) is h = is
  locked_none base (Distinct x y) is h = is
  locked_none base (New at) is h = is

  role_in : (its : Option Role) (base : ℕ) (fact : MustFact) → IsTracked names fact → (Under base fact × R fact) ⊎ BroughtByRole R its base fact
      → given_by assigned names slots (routine_step its depth base) T (cell_of names slots fact) ≡ true
  role_in None base fact is (inl h) = popped_in base fact is h.0 h.1
  role_in None base fact is (inr h) = absurd h
  role_in (Some role.NewHandle) base fact is (inl h) = popped_in base fact is h.0 h.1
  role_in (Some role.NewHandle) base fact is (inr h) = absurd h
  role_in (Some role.DisposeHandle) base fact is (inl h) = popped_in base fact is h.0 h.1
  role_in (Some role.DisposeHandle) base fact is (inr h) = absurd h
  role_in (Some role.GetSize) base fact is (inl h) = popped_in base fact is h.0 h.1
  role_in (Some role.GetSize) base fact is (inr h) = absurd h
  role_in (Some role.SetSize) base fact is (inl h) = popped_in base fact is h.0 h.1
  role_in (Some role.SetSize) base fact is (inr h) = absurd h
  role_in (Some role.Lock) base fact is (inl h) = popped_in base fact is h.0 h.1
  role_in (Some role.Lock) base fact is (inr h) = absurd (locked_none base fact is h)
  role_in (Some role.Unlock) base fact is (inl h) = popped_in base fact is h.0 h.1
  role_in (Some role.Unlock) base fact is (inr h) = absurd h
  role_in (Some role.Purge) base fact is (inl h) = popped_in base fact is h.0 h.1
  role_in (Some role.Purge) base fact is (inr h) = absurd h
  role_in (Some role.NoPurge) base fact is (inl h) = popped_in base fact is h.0 h.1
  role_in (Some role.NoPurge) base fact is (inr h) = absurd h
  role_in (Some role.GetState) base fact is h = read_in base fact is h
  role_in (Some role.SetState) base fact is (inl h) = popped_in base fact is h.0 h.1
  role_in (Some role.SetState) base fact is (inr h) = absurd h
  role_in (Some role.Empty) base fact is (inl h) = popped_in base fact is h.0 h.1
  role_in (Some role.Empty) base fact is (inr h) = absurd h
  role_in (Some role.Realloc) base fact is (inl h) = popped_in base fact is h.0 h.1
  role_in (Some role.Realloc) base fact is (inr h) = absurd h
  role_in (Some role.NewPtr) base fact is (inl h) = popped_in base fact is h.0 h.1
  role_in (Some role.NewPtr) base fact is (inr h) = absurd h
  role_in (Some role.DisposePtr) base fact is (inl h) = popped_in base fact is h.0 h.1
  role_in (Some role.DisposePtr) base fact is (inr h) = absurd h
  role_in (Some role.BlockMove) base fact is (inl h) = popped_in base fact is h.0 h.1
  role_in (Some role.BlockMove) base fact is (inr h) = absurd h
  role_in (Some role.Getchar) base fact is (inl h) = popped_in base fact is h.0 h.1
  role_in (Some role.Getchar) base fact is (inr h) = absurd h
  role_in (Some role.Putchar) base fact is (inl h) = popped_in base fact is h.0 h.1
  role_in (Some role.Putchar) base fact is (inr h) = absurd h
  role_in (Some role.Plain) base fact is (inl h) = popped_in base fact is h.0 h.1
  role_in (Some role.Plain) base fact is (inr h) = absurd h

  routine_out : (place : ℕ) (fact : MustFact) → IsTracked names fact → AreNames scope code fact
      → given_by assigned names slots (step_of scope code names slots (op.Routine place) depth) T (cell_of names slots fact) ≡ true
      → Gives scope code (impact_by assigned) R (op.Routine place) depth fact
  routine_out place fact is named h =
      by_side (role_out (role_at scope place) (depth - taken scope (op.Routine place)) fact (omega arith) is named h)
    where
      by_side : (Under (depth - taken scope (op.Routine place)) fact × R fact)
          ⊎ BroughtByRole R (role_at scope place) (depth - taken scope (op.Routine place)) fact
          → Gives scope code (impact_by assigned) R (op.Routine place) depth fact
      by_side (inl k) = inl ((k.0, stays_in_role R (role_at scope place) (depth - taken scope (op.Routine place)) fact (tracked_byte names fact is)), k.1)
      by_side (inr k) = inr (inr (inl k))

  routine_in : (place : ℕ) (fact : MustFact) → IsTracked names fact → Gives scope code (impact_by assigned) R (op.Routine place) depth fact
      → given_by assigned names slots (step_of scope code names slots (op.Routine place) depth) T (cell_of names slots fact) ≡ true
  routine_in place fact is (inl h) = role_in (role_at scope place) (depth - taken scope (op.Routine place)) fact is (inl (h.0.0, h.1))
  routine_in place fact is (inr (inl h)) = absurd (used_none R (uses_handle (role_at scope place)) (depth - taken scope (op.Routine place)) fact (tracked_byte names fact is) h)
  routine_in place fact is (inr (inr (inl h))) = role_in (role_at scope place) (depth - taken scope (op.Routine place)) fact is (inr h)
  routine_in place fact is (inr (inr (inr h))) = absurd (made_none (makes_handle scope place) (depth - taken scope (op.Routine place)) fact (tracked_byte names fact is) h)

  -- ---- Bring

  chosen_or : (p base : ℕ) (x y : Bool) → p < base → x ≡ true → (if nat_lt p base then x else y) ≡ true
  chosen_or p base x y l h = rw (less_number p base l) h

  chosen_else : (p base : ℕ) (x y : Bool) → base ≤ p → y ≡ true → (if nat_lt p base then x else y) ≡ true
  chosen_else p base x y l h = rw (least_number p base l) h

  bring_out : (k : ℕ) (fact : MustFact) → IsTracked names fact → AreNames scope code fact
      → given_by assigned names slots (step_of scope code names slots (op.Bring (suc k)) depth) T (cell_of names slots fact) ≡ true
      → Gives scope code (impact_by assigned) R (op.Bring (suc k)) depth fact
  bring_out k (With p x) is named h = by_place (chosen p (depth - 1) (with_of T depth (depth - suc k) (index_of names x)) (if nat_lt p (depth - suc
      k) then (popped (depth - suc k) (with_at p (index_of names x)) (T (with_at p (index_of names x)))) else with_of T depth (suc p) (index_of names
      x)) h)
    where
      by_order : ((p < depth - suc k) × ((popped (depth - suc k) (with_at p (index_of names x)) (T (with_at p (index_of names x)))) ≡ true))
          ⊎ ((depth - suc k ≤ p) × (with_of T depth (suc p) (index_of names x) ≡ true))
          → Gives scope code (impact_by assigned) R (op.Bring (suc k)) depth (With p x)
      by_order (inl t) = inl (popped_out (depth - suc k) (With p x) (omega arith) is named t.1)
      by_order (inr t) =
          let l = both (nat_lt (suc p) depth) (T (with_at (suc p) (index_of names x))) t.1 in
          inr (inr (p, t.0, less_numbers (suc p) depth l.0, (refl, with_out (suc p) x is named t.1)))

      by_place : ((p ≡ depth - 1) × (with_of T depth (depth - suc k) (index_of names x) ≡ true))
          ⊎ ((p ≢ depth - 1) × ((if nat_lt p (depth - suc k) then (popped (depth - suc k) (with_at p (index_of names x)) (T (with_at p (index_of
          names x)))) else with_of T depth (suc p) (index_of names x)) ≡ true))
          → Gives scope code (impact_by assigned) R (op.Bring (suc k)) depth (With p x)
      by_place (inl t) = inr (inl (t.0, with_out (depth - suc k) x is named t.1))
      by_place (inr t) = by_order (chosen_below p (depth - suc k) (popped (depth - suc k) (with_at p (index_of names x)) (T (with_at p (index_of
          names x)))) (with_of T depth (suc p) (index_of names x)) t.1)
  bring_out k (Saved (on_stack p) x) is named h = by_place (chosen p (depth - 1) (saved_of T depth (depth - suc k) (index_of names x)) (if nat_lt p
      (depth - suc k) then (popped (depth - suc k) (saved_at p (index_of names x)) (T (saved_at p (index_of names x)))) else saved_of T depth (suc p)
      (index_of names x)) h)
    where
      by_order : ((p < depth - suc k) × ((popped (depth - suc k) (saved_at p (index_of names x)) (T (saved_at p (index_of names x)))) ≡ true))
          ⊎ ((depth - suc k ≤ p) × (saved_of T depth (suc p) (index_of names x) ≡ true))
          → Gives scope code (impact_by assigned) R (op.Bring (suc k)) depth (Saved (on_stack p) x)
      by_order (inl t) = inl (popped_out (depth - suc k) (Saved (on_stack p) x) (omega arith) is named t.1)
      by_order (inr t) =
          let l = both (nat_lt (suc p) depth) (T (saved_at (suc p) (index_of names x))) t.1 in
          inr (inr (p, t.0, less_numbers (suc p) depth l.0, (refl, saved_out (suc p) x is named.1 t.1)))

      by_place : ((p ≡ depth - 1) × (saved_of T depth (depth - suc k) (index_of names x) ≡ true))
          ⊎ ((p ≢ depth - 1) × ((if nat_lt p (depth - suc k) then (popped (depth - suc k) (saved_at p (index_of names x)) (T (saved_at p (index_of
          names x)))) else saved_of T depth (suc p) (index_of names x)) ≡ true))
          → Gives scope code (impact_by assigned) R (op.Bring (suc k)) depth (Saved (on_stack p) x)
      by_place (inl t) = inr (inl (t.0, saved_out (depth - suc k) x is named.1 t.1))
      by_place (inr t) = by_order (chosen_below p (depth - suc k) (popped (depth - suc k) (saved_at p (index_of names x)) (T (saved_at p (index_of
          names x)))) (saved_of T depth (suc p) (index_of names x)) t.1)
  bring_out k (Saved (in_slot b) x) is named h = inl (popped_out (depth - suc k) (Saved (in_slot b) x) (omega arith) is named h)
  bring_out k (Kept b x) is named h = absurd is
  bring_out k (Locked x) is named h = absurd is
  bring_out k (Live x) is named h = absurd is
  bring_out k (Distinct x y) is named h = absurd is
  bring_out k (New at) is named h = absurd is

  bring_in : (k : ℕ) (fact : MustFact) → IsTracked names fact → Gives scope code (impact_by assigned) R (op.Bring (suc k)) depth fact
      → given_by assigned names slots (step_of scope code names slots (op.Bring (suc k)) depth) T (cell_of names slots fact) ≡ true
  bring_in k (With p x) is (inl h) =
      let under = h.0 in
      choose_not p (depth - 1) (with_of T depth (depth - suc k) (index_of names x)) (if nat_lt p (depth - suc k) then (popped (depth - suc k)
      (with_at p (index_of names x)) (T (with_at p (index_of names x)))) else with_of T depth (suc p) (index_of names x)) (omega (arith, under))
      (chosen_or p (depth - suc k) (popped (depth - suc k) (with_at p (index_of names x)) (T (with_at p (index_of names x)))) (with_of T depth (suc
      p) (index_of names x)) under (popped_in (depth - suc k) (With p x) is h.0 h.1))
  bring_in k (With p x) is (inr (inl h)) =
      choose p (depth - 1) (with_of T depth (depth - suc k) (index_of names x)) (if nat_lt p (depth - suc k) then (popped (depth - suc k) (with_at p
      (index_of names x)) (T (with_at p (index_of names x)))) else with_of T depth (suc p) (index_of names x)) h.0 (with_in (depth - suc k) x is h.1)
  bring_in k (With p x) is (inr (inr h)) =
      let low = h.1 in
      let high = h.2 in
      let same = h.3.0 in
      choose_not p (depth - 1) (with_of T depth (depth - suc k) (index_of names x)) (if nat_lt p (depth - suc k) then (popped (depth - suc k)
      (with_at p (index_of names x)) (T (with_at p (index_of names x)))) else with_of T depth (suc p) (index_of names x)) (omega (arith, high, same))
      (chosen_else p (depth - suc k) (popped (depth - suc k) (with_at p (index_of names x)) (T (with_at p (index_of names x)))) (with_of T depth (suc
      p) (index_of names x)) (omega (arith, low, same))
      (subst (λ n. with_of T depth (suc n) (index_of names x) ≡ true) (sym same) (with_in (suc h.0) x is h.3.1)))
  bring_in k (Saved (on_stack p) x) is (inl h) =
      let under = h.0 in
      choose_not p (depth - 1) (saved_of T depth (depth - suc k) (index_of names x)) (if nat_lt p (depth - suc k) then (popped (depth - suc k)
      (saved_at p (index_of names x)) (T (saved_at p (index_of names x)))) else saved_of T depth (suc p) (index_of names x)) (omega (arith, under))
      (chosen_or p (depth - suc k) (popped (depth - suc k) (saved_at p (index_of names x)) (T (saved_at p (index_of names x)))) (saved_of T depth
      (suc p) (index_of names x)) under (popped_in (depth - suc k) (Saved (on_stack p) x) is h.0 h.1))
  bring_in k (Saved (on_stack p) x) is (inr (inl h)) =
      choose p (depth - 1) (saved_of T depth (depth - suc k) (index_of names x)) (if nat_lt p (depth - suc k) then (popped (depth - suc k) (saved_at
      p (index_of names x)) (T (saved_at p (index_of names x)))) else saved_of T depth (suc p) (index_of names x)) h.0 (saved_in_stack (depth -
      suc k) x is h.1)
  bring_in k (Saved (on_stack p) x) is (inr (inr h)) =
      let low = h.1 in
      let high = h.2 in
      let same = h.3.0 in
      choose_not p (depth - 1) (saved_of T depth (depth - suc k) (index_of names x)) (if nat_lt p (depth - suc k) then (popped (depth - suc k)
      (saved_at p (index_of names x)) (T (saved_at p (index_of names x)))) else saved_of T depth (suc p) (index_of names x)) (omega (
        arith,
        high,
        same,
      ))
      (chosen_else p (depth - suc k) (popped (depth - suc k) (saved_at p (index_of names x)) (T (saved_at p (index_of names x)))) (saved_of T depth
      (suc p) (index_of names x)) (omega (arith, low, same))
      (subst (λ n. saved_of T depth (suc n) (index_of names x) ≡ true) (sym same) (saved_in_stack (suc h.0) x is h.3.1)))
  bring_in k (Saved (in_slot b) x) is (inl h) = popped_in (depth - suc k) (Saved (in_slot b) x) is h.0 h.1
  bring_in k (Saved (in_slot b) x) is (inr (inl h)) = absurd h
  bring_in k (Saved (in_slot b) x) is (inr (inr h)) = absurd h.3
  bring_in k (Kept b x) is h = absurd is
  bring_in k (Locked x) is h = absurd is
  bring_in k (Live x) is h = absurd is
  bring_in k (Distinct x y) is h = absurd is
  bring_in k (New at) is h = absurd is

  moved_there : (from to : ℕ) (fact : MustFact) → IsTracked names fact → Moved R from to fact → from < depth
  moved_there from to (With p x) is c = (out (With from x) is c.1).0.under
  moved_there from to (Saved (on_stack p) x) is c = (out (Saved (on_stack from) x) is c.1).0.under
  moved_there from to (Saved (in_slot b) x) is c = absurd c
  moved_there from to (Kept b x) is c = absurd is
  moved_there from to (Locked x) is c = absurd is
  moved_there from to (Live x) is c = absurd is
  moved_there from to (Distinct x y) is c = absurd is
  moved_there from to (New at) is c = absurd is

  bring_none_in : (fact : MustFact) → IsTracked names fact → Gives scope code (impact_by assigned) R (op.Bring zero) depth fact
      → given_by assigned names slots (step_of scope code names slots (op.Bring zero) depth) T (cell_of names slots fact) ≡ true
  bring_none_in fact is (inl h) = popped_in depth fact is (subst (λ n. Under n fact) (minus_none depth) h.0) h.1
  bring_none_in fact is (inr (inl h)) = let l = moved_there (depth - 0) (depth - 1) fact is h in absurd (omega (arith, l))
  bring_none_in fact is (inr (inr h)) = let low = h.1 in let high = h.2 in absurd (omega (arith, low, high))

  -- ---- calls

  not_gone : (f : ℕ) (list : List Variable) (x : Variable) → (index_of list x < length list ⊎ ((g : ℕ) → x ≡ name.Global g → assigned f g ≡ true
      → index_of list x < length list))
      → gone (assigned f) list (index_of list x) ≡ false → (g : ℕ) → assigned f g ≡ true → not (same_variable x (name.Global g)) ≡ true
  not_gone f list x listed h g a = ap not (other_variables x (name.Global g) (λ e. impossible e))
    where
      within : x ≡ name.Global g → index_of list x < length list ⊎ ((g : ℕ) → x ≡ name.Global g → assigned f g ≡ true
          → index_of list x < length list) → index_of list x < length list
      within e (inl l) = l
      within e (inr l) = l g e a

      impossible : x ≡ name.Global g → ⊥
      impossible e =
          true_not_false (sym a ∙ sym (ap (gone_of (assigned f)) (index_found list x (within e listed) ∙ ap Some e)) ∙ h)

  gone_not : (f : ℕ) (list : List Variable) (x : Variable) → ((g : ℕ) → assigned f g ≡ true → not (same_variable x (name.Global g)) ≡ true)
      → gone (assigned f) list (index_of list x) ≡ false
  gone_not f list x free = by_place (cases_lt (index_of list x) (length list))
    where
      by_name : (y : Variable) → x ≡ y → gone_of (assigned f) (Some y) ≡ false
      by_name (name.Local p) e = refl
      by_name (name.Global g) e = by_test (assigned f g) refl
        where
          by_test : (t : Bool) → assigned f g ≡ t → assigned f g ≡ false
          by_test false k = k
          by_test true k = true_not_false (sym (same_itself (name.Global g)) ∙ ap (λ y. same_variable y (name.Global g)) (sym e) ∙ not_true
              (same_variable x (name.Global g)) (free g k))

      by_place : (index_of list x < length list) ⊎ (length list ≤ index_of list x) → gone (assigned f) list (index_of list x) ≡ false
      by_place (inl l) = ap (gone_of (assigned f)) (index_found list x l) ∙ by_name x refl
      by_place (inr l) = gone_past (assigned f) list (index_of list x) l

  unless : (c y : Bool) → (if c then false else y) ≡ true → (c ≡ false) × (y ≡ true)
  unless true y h = false_not_true h
  unless false y h = (refl, h)

  unless_in : (c y : Bool) → c ≡ false → y ≡ true → (if c then false else y) ≡ true
  unless_in c y h k = rw h k

  call_out : (f : ℕ) (fact : MustFact) → AreListed scope slots assigned f → IsTracked names fact → AreNames scope code fact
      → given_by assigned names slots (step_of scope code names slots (op.Call f) depth) T (cell_of names slots fact) ≡ true
      → Gives scope code (impact_by assigned) R (op.Call f) depth fact
  call_out f (With p x) listed is named h =
      let t = both (not (gone (assigned f) names (index_of names x))) (popped (depth - taken scope (op.Call f)) (with_at p (index_of names x)) (T
      (with_at p (index_of names x)))) h in
      let o = popped_out (depth - taken scope (op.Call f)) (With p x) (omega arith) is named t.1 in
      inl ((o.0, tt, not_gone f names x (inl is) (not_true (gone (assigned f) names (index_of names x)) t.0)), o.1)
  call_out f (Saved (on_stack p) x) listed is named h =
      let t = both (not (gone (assigned f) names (index_of names x))) (popped (depth - taken scope (op.Call f)) (saved_at p (index_of names x)) (T
      (saved_at p (index_of names x)))) h in
      let o = popped_out (depth - taken scope (op.Call f)) (Saved (on_stack p) x) (omega arith) is named t.1 in
      inl ((o.0, tt, not_gone f names x (inl is) (not_true (gone (assigned f) names (index_of names x)) t.0)), o.1)
  call_out f (Saved (in_slot b) x) listed is named h =
      let u = unless (gone (assigned f) slots (index_of slots b)) (not (gone (assigned f) names (index_of names x)) && T (saved_in (index_of slots b)
      (index_of names x))) h in
      let t = both (not (gone (assigned f) names (index_of names x))) (T (saved_in (index_of slots b) (index_of names x))) u.1 in
      inl (
        (
          tt,
          tt,
          λ g a. both_true (not (same_variable b (name.Global g))) (not (same_variable x (name.Global g)))
              (not_gone f slots b (inr (λ i e k. subst (λ v. index_of slots v < length slots) (sym e)
              (listed i (subst (λ v. is_slot_in scope.types (variable_in scope v) ≡ true) e named.0) k))) u.0 g a)
              (not_gone f names x (inl is) (not_true (gone (assigned f) names (index_of names x)) t.0) g a),
        ),
        into (Saved (in_slot b) x) is (record { under = tt; named = named }) t.1,
      )
  call_out f (Kept b x) listed is named h = absurd is
  call_out f (Locked x) listed is named h = absurd is
  call_out f (Live x) listed is named h = absurd is
  call_out f (Distinct x y) listed is named h = absurd is
  call_out f (New at) listed is named h = absurd is

  call_in : (f : ℕ) (fact : MustFact) → IsTracked names fact → Gives scope code (impact_by assigned) R (op.Call f) depth fact
      → given_by assigned names slots (step_of scope code names slots (op.Call f) depth) T (cell_of names slots fact) ≡ true
  call_in f (With p x) is (inl h) =
      both_true (not (gone (assigned f) names (index_of names x))) (popped (depth - taken scope (op.Call f)) (with_at p (index_of names x)) (T
      (with_at p (index_of names x)))) (ap not (gone_not f names x (λ g a. h.0.2 g a)))
      (popped_in (depth - taken scope (op.Call f)) (With p x) is h.0.0 h.1)
  call_in f (With p x) is (inr h) = absurd h
  call_in f (Saved (on_stack p) x) is (inl h) =
      both_true (not (gone (assigned f) names (index_of names x))) (popped (depth - taken scope (op.Call f)) (saved_at p (index_of names x)) (T
      (saved_at p (index_of names x)))) (ap not (gone_not f names x (λ g a. h.0.2 g a)))
      (popped_in (depth - taken scope (op.Call f)) (Saved (on_stack p) x) is h.0.0 h.1)
  call_in f (Saved (on_stack p) x) is (inr h) = absurd h
  call_in f (Saved (in_slot b) x) is (inl h) =
      unless_in (gone (assigned f) slots (index_of slots b)) (not (gone (assigned f) names (index_of names x)) && T (saved_in (index_of slots b)
      (index_of names x)))
      (gone_not f slots b (λ g a. (both (not (same_variable b (name.Global g))) (not (same_variable x (name.Global g))) (h.0.2 g a)).0))
      (both_true (not (gone (assigned f) names (index_of names x))) (T (saved_in (index_of slots b) (index_of names x)))
      (ap not (gone_not f names x (λ g a. (both (not (same_variable b (name.Global g))) (not (same_variable x (name.Global g))) (h.0.2 g a)).1)))
      (there (Saved (in_slot b) x) is h.1))
  call_in f (Saved (in_slot b) x) is (inr h) = absurd h
  call_in f (Kept b x) is h = absurd is
  call_in f (Locked x) is h = absurd is
  call_in f (Live x) is h = absurd is
  call_in f (Distinct x y) is h = absurd is
  call_in f (New at) is h = absurd is

  -- ---- all operations

  set_out : (v : Variable) (its : Bool) → is_name scope code v ≡ its → (fact : MustFact) → index_of slots v < length slots → IsTracked names fact
      → AreNames scope code fact
      → given_by assigned names slots (set_step its depth (index_of names v) (index_of slots v)) T (cell_of names slots fact) ≡ true
      → (Under depth fact × (free_of v fact ≡ true) × (not_new (depth - 1) fact ≡ true) × R fact) ⊎ SetBy R its v (depth - 1) fact
  set_out v true e fact listed is named h = set_name_out v fact e listed is named h
  set_out v false e fact listed is named h = set_slot_out v fact e listed is named h

  set_in : (v : Variable) (its : Bool) → is_name scope code v ≡ its → (fact : MustFact) → index_of slots v < length slots → IsTracked names fact
      → (Under depth fact × (free_of v fact ≡ true) × (not_new (depth - 1) fact ≡ true) × R fact) ⊎ SetBy R its v (depth - 1) fact
      → given_by assigned names slots (set_step its depth (index_of names v) (index_of slots v)) T (cell_of names slots fact) ≡ true
  set_in v true e fact listed is h = set_name_in v fact e listed is h
  set_in v false e fact listed is h = set_slot_in v fact e listed is h

  regroup : (v : Variable) (fact : MustFact) (S : Type 0) → (Under depth fact × (free_of v fact ≡ true) × (not_new (depth - 1) fact ≡ true) × R fact) ⊎ S
      → ((Under depth fact × (free_of v fact ≡ true) × (not_new (depth - 1) fact ≡ true)) × R fact) ⊎ S
  regroup v fact S (inl h) = inl ((h.0, h.1, h.2), h.3)
  regroup v fact S (inr h) = inr h

  ungroup : (v : Variable) (fact : MustFact) (S : Type 0) → ((Under depth fact × (free_of v fact ≡ true) × (not_new (depth - 1) fact ≡ true)) × R fact) ⊎ S
      → (Under depth fact × (free_of v fact ≡ true) × (not_new (depth - 1) fact ≡ true) × R fact) ⊎ S
  ungroup v fact S (inl h) = inl (h.0.0, h.0.1, h.0.2, h.1)
  ungroup v fact S (inr h) = inr h

  pub gives_after : (its : Op) (fact : MustFact) → OpFits scope slots assigned its → IsTracked names fact → AreNames scope code fact
      → given_by assigned names slots (step_of scope code names slots its depth) T (cell_of names slots fact) ≡ true
      → Gives scope code (impact_by assigned) R its depth fact
  gives_after (op.Num bits) fact fits is named h = inl (popped_out (depth - taken scope (op.Num bits)) fact (omega arith) is named h)
  gives_after op.Nil fact fits is named h = inl (popped_out (depth - taken scope op.Nil) fact (omega arith) is named h)
  gives_after (op.Address its) fact fits is named h = inl (popped_out (depth - taken scope (op.Address its)) fact (omega arith) is named h)
  gives_after (op.Store its) fact fits is named h = inl (popped_out (depth - taken scope (op.Store its)) fact (omega arith) is named h)
  gives_after op.Drop fact fits is named h = inl (popped_out (depth - taken scope op.Drop) fact (omega arith) is named h)
  gives_after (op.Unary its) fact fits is named h = inl (popped_out (depth - taken scope (op.Unary its)) fact (omega arith) is named h)
  gives_after (op.Binary its kind) fact fits is named h = inl (popped_out (depth - taken scope (op.Binary its kind)) fact (omega arith) is named h)
  gives_after op.IsNil fact fits is named h = inl (popped_out (depth - taken scope op.IsNil) fact (omega arith) is named h)
  gives_after (op.Compare its) fact fits is named h = inl (popped_out (depth - taken scope (op.Compare its)) fact (omega arith) is named h)
  gives_after (op.Difference size) fact fits is named h = inl (popped_out (depth - taken scope (op.Difference size)) fact (omega arith) is named h)
  gives_after (op.Offset bytes) fact fits is named h = inl (popped_out (depth - taken scope (op.Offset bytes)) fact (omega arith) is named h)
  gives_after (op.Step stride pointer_first) fact fits is named h = inl (popped_out (depth - taken scope (op.Step stride pointer_first)) fact (omega
      arith) is named h)
  gives_after (op.Jump target) fact fits is named h = inl (popped_out (depth - taken scope (op.Jump target)) fact (omega arith) is named h)
  gives_after (op.Zero target) fact fits is named h = inl (popped_out (depth - taken scope (op.Zero target)) fact (omega arith) is named h)
  gives_after (op.Choose goal) fact fits is named h = inl (popped_out (depth - taken scope (op.Choose goal)) fact (omega arith) is named h)
  gives_after (op.Shift place) fact fits is named h = inl (popped_out (depth - taken scope (op.Shift place)) fact (omega arith) is named h)
  gives_after op.Return fact fits is named h = inl (popped_out (depth - taken scope op.Return) fact (omega arith) is named h)
  gives_after op.Turn fact fits is named h = inl (popped_out (depth - taken scope op.Turn) fact (omega arith) is named h)
  gives_after op.Mark fact fits is named h = inl (popped_out (depth - taken scope op.Mark) fact (omega arith) is named h)
  gives_after (op.Pick target) fact fits is named h = inl (popped_out (depth - taken scope (op.Pick target)) fact (omega arith) is named h)
  gives_after (op.Load its) fact fits is named h = inl (popped_out (depth - taken scope (op.Load its)) fact (omega arith) is named h)
  gives_after (op.Get v) fact fits is named h =
      subst (λ n. (Under n fact × R fact) ⊎ Got R v depth fact) (sym (minus_none depth)) (get_out v fact fits is named h)
  gives_after (op.Set v) fact fits is named h =
      regroup v fact (SetBy R (is_name scope code v) v (depth - 1) fact) (set_out v (is_name scope code v) refl fact fits is named h)
  gives_after op.Dup fact fits is named h = dup_out fact is named h
  gives_after op.Tuck fact fits is named h = tuck_out fact is named h
  gives_after (op.Conv kind) fact fits is named h = conv_out kind fact is named h
  gives_after (op.Routine place) fact fits is named h = routine_out place fact is named h
  gives_after (op.Call f) fact fits is named h = call_out f fact fits is named h
  gives_after (op.Bring zero) fact fits is named h =
      inl (subst (λ n. Under n fact × R fact) (sym (minus_none depth)) (popped_out depth fact (omega arith) is named h))
  gives_after (op.Bring (suc k)) fact fits is named h = bring_out k fact is named h

  pub after_gives : (its : Op) (fact : MustFact) → OpFits scope slots assigned its → IsTracked names fact → Gives scope code (impact_by assigned) R its depth fact
      → given_by assigned names slots (step_of scope code names slots its depth) T (cell_of names slots fact) ≡ true
  after_gives (op.Num bits) fact fits is (inl h) = popped_in (depth - taken scope (op.Num bits)) fact is h.0 h.1
  after_gives (op.Num bits) fact fits is (inr h) = absurd h
  after_gives op.Nil fact fits is (inl h) = popped_in (depth - taken scope op.Nil) fact is h.0 h.1
  after_gives op.Nil fact fits is (inr h) = absurd h
  after_gives (op.Address its) fact fits is (inl h) = popped_in (depth - taken scope (op.Address its)) fact is h.0 h.1
  after_gives (op.Address its) fact fits is (inr h) = absurd h
  after_gives (op.Store its) fact fits is (inl h) = popped_in (depth - taken scope (op.Store its)) fact is h.0 h.1
  after_gives (op.Store its) fact fits is (inr h) = absurd h
  after_gives op.Drop fact fits is (inl h) = popped_in (depth - taken scope op.Drop) fact is h.0 h.1
  after_gives op.Drop fact fits is (inr h) = absurd h
  after_gives (op.Unary its) fact fits is (inl h) = popped_in (depth - taken scope (op.Unary its)) fact is h.0 h.1
  after_gives (op.Unary its) fact fits is (inr h) = absurd h
  after_gives (op.Binary its kind) fact fits is (inl h) = popped_in (depth - taken scope (op.Binary its kind)) fact is h.0 h.1
  after_gives (op.Binary its kind) fact fits is (inr h) = absurd h
  after_gives op.IsNil fact fits is (inl h) = popped_in (depth - taken scope op.IsNil) fact is h.0 h.1
  after_gives op.IsNil fact fits is (inr h) = absurd h
  after_gives (op.Compare its) fact fits is (inl h) = popped_in (depth - taken scope (op.Compare its)) fact is h.0 h.1
  after_gives (op.Compare its) fact fits is (inr h) = absurd h
  after_gives (op.Difference size) fact fits is (inl h) = popped_in (depth - taken scope (op.Difference size)) fact is h.0 h.1
  after_gives (op.Difference size) fact fits is (inr h) = absurd h
  after_gives (op.Offset bytes) fact fits is (inl h) = popped_in (depth - taken scope (op.Offset bytes)) fact is h.0 h.1
  after_gives (op.Offset bytes) fact fits is (inr h) = absurd h
  after_gives (op.Step stride pointer_first) fact fits is (inl h) = popped_in (depth - taken scope (op.Step stride pointer_first)) fact is h.0 h.1
  after_gives (op.Step stride pointer_first) fact fits is (inr h) = absurd h
  after_gives (op.Jump target) fact fits is (inl h) = popped_in (depth - taken scope (op.Jump target)) fact is h.0 h.1
  after_gives (op.Jump target) fact fits is (inr h) = absurd h
  after_gives (op.Zero target) fact fits is (inl h) = popped_in (depth - taken scope (op.Zero target)) fact is h.0 h.1
  after_gives (op.Zero target) fact fits is (inr h) = absurd h
  after_gives (op.Choose goal) fact fits is (inl h) = popped_in (depth - taken scope (op.Choose goal)) fact is h.0 h.1
  after_gives (op.Choose goal) fact fits is (inr h) = absurd h
  after_gives (op.Shift place) fact fits is (inl h) = popped_in (depth - taken scope (op.Shift place)) fact is h.0 h.1
  after_gives (op.Shift place) fact fits is (inr h) = absurd h
  after_gives op.Return fact fits is (inl h) = popped_in (depth - taken scope op.Return) fact is h.0 h.1
  after_gives op.Return fact fits is (inr h) = absurd h
  after_gives op.Turn fact fits is (inl h) = popped_in (depth - taken scope op.Turn) fact is h.0 h.1
  after_gives op.Turn fact fits is (inr h) = absurd h
  after_gives op.Mark fact fits is (inl h) = popped_in (depth - taken scope op.Mark) fact is h.0 h.1
  after_gives op.Mark fact fits is (inr h) = absurd h
  after_gives (op.Pick target) fact fits is (inl h) = popped_in (depth - taken scope (op.Pick target)) fact is h.0 h.1
  after_gives (op.Pick target) fact fits is (inr h) = absurd h
  after_gives (op.Load its) fact fits is (inl h) = popped_in (depth - taken scope (op.Load its)) fact is h.0 h.1
  after_gives (op.Load its) fact fits is (inr h) = absurd (used_none R true (depth - 1) fact (tracked_byte names fact is) h)
  after_gives (op.Get v) fact fits is h = get_in v fact is (subst (λ n. (Under n fact × R fact) ⊎ Got R v depth fact) (minus_none depth) h)
  after_gives (op.Set v) fact fits is h =
      set_in v (is_name scope code v) refl fact fits is (ungroup v fact (SetBy R (is_name scope code v) v (depth - 1) fact) h)
  after_gives op.Dup fact fits is h = dup_in fact is h
  after_gives op.Tuck fact fits is h = tuck_in fact is h
  after_gives (op.Conv kind) fact fits is h = conv_in kind fact is h
  after_gives (op.Routine place) fact fits is h = routine_in place fact is h
  after_gives (op.Call f) fact fits is h = call_in f fact is h
  after_gives (op.Bring zero) fact fits is h = bring_none_in fact is h
  after_gives (op.Bring (suc k)) fact fits is h = bring_in k fact is h
