-- The rule of stale uses as a recursion says what the rule says: a use is stale exactly if `is_stale_after` is true.
use Rattle.std.proofs.Common.{◌≡◌, ℕ, Bool, true, false, not, ◌&&◌, ◌||◌, List, [], ◌∷◌, ◌++◌, IsTrue, ◌⊎◌, inl, inr, Option, Some, None, refl, sym, ap, ◌∙◌, subst, if◌then◌else◌, true≢false, eqb-true, eq-eqb}
use Rattle.std.specs.List.{list_any}
use Rattle.std.proofs.lemmas.Bool.{or_parts, or_cases, or_left, or_right, or_from, and_parts, and_from, and_cases, not-true, not-false}
use Rattle.std.proofs.lemmas.Option.{none-some, same_Some}
use Rattle.std.proofs.lemmas.List.Folds.{list_any-append}
use Rattle.hs_base.specs.declared.pos.Pos.{Pos}
use Rattle.hs_tree.specs.declared.straight.tree.Step.{Step}
use Rattle.hs_tree.specs.declared.straight.tree.Step.TheVariants as form
use Rattle.hs_tree.specs.Straight.Fine.{assigns}
use Rattle.hs_meaning.specs.Straight.StaleUses.{IsStaleUse, calls_new_handle, is_locked_after}
use Rattle.hs_meaning.specs.Straight.Along.{Derivation, derived_by, kept_by, kept_if, derived_after, is_stale_derivation, is_stale_after}

-- neither the one nor any other
not-or : (x y : Bool) → not (x || y) ≡ (not y && not x)
not-or true true = refl
not-or true false = refl
not-or false true = refl
not-or false false = refl

-- if the step assigns the pointer not, what is known is kept
pub derived_after-keep : (pointer : ℕ) (step : Step) (done : List Step) → assigns pointer step ≡ false
    → derived_after pointer (step ∷ done) ≡ kept_if done step (derived_after pointer done)
derived_after-keep pointer step done other = rw other refl

-- what `p = *h` says of p if no step since assigned p
record IsDerived (pointer handle : ℕ) (between done : List Step) : Type 0 where
  derivation : Derivation
  is_known : derived_after pointer done ≡ Some derivation
  is_of : derivation.handle ≡ handle
  is_same : derivation.is_same ≡ not (list_any (assigns handle) between)

-- by induction on the steps since `p = *h`
derived_after-derive : (pos : Pos) (pointer handle : ℕ) (between earlier : List Step) → list_any (assigns pointer) between ≡ false
    → IsDerived pointer handle between (between ++ form.Derive pos pointer handle ∷ earlier)
derived_after-derive pos pointer handle [] earlier last = record {
  derivation = record { handle = handle; is_same = true; is_stale = false };
  is_known = rw (eq-eqb pointer pointer refl) refl;
  is_of = refl;
  is_same = refl;
}
derived_after-derive pos pointer handle (step ∷ between) earlier last = go (derived_after-derive pos pointer handle between earlier others.1)
  where
    others : (assigns pointer step ≡ false) × (list_any (assigns pointer) between ≡ false)
    others = or_parts (assigns pointer step) (list_any (assigns pointer) between) last

    rest : List Step
    rest = between ++ form.Derive pos pointer handle ∷ earlier

    go : IsDerived pointer handle between rest → IsDerived pointer handle (step ∷ between) (step ∷ rest)
    go before = record {
      derivation = kept_by rest step before.derivation;
      is_known = derived_after-keep pointer step rest others.0 ∙ ap (kept_if rest step) before.is_known;
      is_of = before.is_of;
      is_same = rw (before.is_of, before.is_same) (sym (not-or (assigns handle step) (list_any (assigns handle) between)));
    }

-- once stale, a pointer stays stale while no step assigns it
stale_kept : (pointer : ℕ) (since done : List Step) → list_any (assigns pointer) since ≡ false → is_stale_after pointer done ≡ true
    → is_stale_after pointer (since ++ done) ≡ true
stale_kept pointer [] done last stale = stale
stale_kept pointer (step ∷ since) done last stale = go (derived_after pointer (since ++ done)) refl (stale_kept pointer since done others.1 stale)
  where
    others : (assigns pointer step ≡ false) × (list_any (assigns pointer) since ≡ false)
    others = or_parts (assigns pointer step) (list_any (assigns pointer) since) last

    go : (known : Option Derivation) → derived_after pointer (since ++ done) ≡ known → is_stale_derivation known ≡ true
        → is_stale_after pointer (step ∷ (since ++ done)) ≡ true
    go None is_known still = absurd (true≢false (sym still))
    go (Some derivation) is_known still =
        rw (others.0, is_known)
        (or_left derivation.is_stale
        (calls_new_handle step && not (derivation.is_same && is_locked_after derivation.handle (since ++ done))) still)

-- a use that is stale by the rule is stale along the steps: after the call the pointer is stale, and it stays so
pub along-from_IsStaleUse : (pointer : ℕ) (done : List Step) → IsStaleUse (record { done = done; pointer = pointer }) → is_stale_after pointer done ≡ true
along-from_IsStaleUse pointer done use_of =
    subst (λ (steps : List Step). is_stale_after pointer steps ≡ true) (sym use_of.is_done)
    (stale_kept pointer use_of.since (use_of.call ∷ rest) parts.0 at_call)
  where
    rest : List Step
    rest = use_of.between ++ form.Derive use_of.pos pointer use_of.handle ∷ use_of.earlier

    parts : (list_any (assigns pointer) use_of.since ≡ false) × (list_any (assigns pointer) (use_of.call ∷ use_of.between) ≡ false)
    parts =
        or_parts (list_any (assigns pointer) use_of.since) (list_any (assigns pointer) (use_of.call ∷ use_of.between))
        (sym (list_any-append (assigns pointer) use_of.since (use_of.call ∷ use_of.between)) ∙ use_of.is_last)

    others : (assigns pointer use_of.call ≡ false) × (list_any (assigns pointer) use_of.between ≡ false)
    others = or_parts (assigns pointer use_of.call) (list_any (assigns pointer) use_of.between) parts.1

    derived : IsDerived pointer use_of.handle use_of.between rest
    derived = derived_after-derive use_of.pos pointer use_of.handle use_of.between use_of.earlier others.1

    unsafe : IsTrue (list_any (assigns use_of.handle) use_of.between) ⊎ (is_locked_after use_of.handle rest ≡ false)
        → not (derived.derivation.is_same && is_locked_after derived.derivation.handle rest) ≡ true
    unsafe (inl changed) = rw (derived.is_same, changed) refl
    unsafe (inr unlocked) = rw (derived.is_of, unlocked) (go derived.derivation.is_same)
      where
        go : (same : Bool) → not (same && false) ≡ true
        go true = refl
        go false = refl

    at_call : is_stale_after pointer (use_of.call ∷ rest) ≡ true
    at_call =
        rw (others.0, derived.is_known)
        (or_right derived.derivation.is_stale
        (calls_new_handle use_of.call && not (derived.derivation.is_same && is_locked_after derived.derivation.handle rest))
        (and_from (calls_new_handle use_of.call) (not (derived.derivation.is_same && is_locked_after derived.derivation.handle rest))
        use_of.calls (unsafe use_of.is_unsafe)))

-- where a derivation comes from
record IsTraced (pointer : ℕ) (done : List Step) (derivation : Derivation) : Type 0 where
  pos : Pos
  between : List Step
  earlier : List Step
  is_done : done ≡ between ++ form.Derive pos pointer derivation.handle ∷ earlier
  is_last : list_any (assigns pointer) between ≡ false
  is_same : derivation.is_same ≡ not (list_any (assigns derivation.handle) between)
  is_use : derivation.is_stale ≡ true → IsStaleUse (record { done = done; pointer = pointer })

-- a step that assigns the pointer and says where it is taken from is `p = *h`
traced_by : (pointer : ℕ) (step : Step) (done : List Step) (derivation : Derivation) → assigns pointer step ≡ true → derived_by step ≡ Some derivation
    → IsTraced pointer (step ∷ done) derivation
traced_by pointer (form.Derive pos assigned handle) done derivation same known =
    subst (λ (d : Derivation). IsTraced pointer (form.Derive pos assigned handle ∷ done) d) (same_Some _ _ known)
    (record {
      pos = pos;
      between = [];
      earlier = done;
      is_done = ap (λ (p : ℕ). form.Derive pos p handle ∷ done) (eqb-true assigned pointer same);
      is_last = refl;
      is_same = refl;
      is_use = λ stale. absurd (true≢false (sym stale));
    })
traced_by pointer (form.NewHandle handle size) done derivation same known = absurd (none-some derivation known)
traced_by pointer (form.HLock pos handle) done derivation same known = absurd (none-some derivation known)
traced_by pointer (form.HUnlock pos handle) done derivation same known = absurd (none-some derivation known)
traced_by pointer (form.Set letter value) done derivation same known = absurd (none-some derivation known)
traced_by pointer (form.Store pos other value) done derivation same known = absurd (none-some derivation known)
traced_by pointer (form.Putchar value) done derivation same known = absurd (none-some derivation known)

-- a step that assigns the pointer not leaves the trace, and if it makes the pointer stale it is the call of the rule
traced_on : (pointer : ℕ) (step : Step) (done : List Step) (derivation : Derivation) → assigns pointer step ≡ false → IsTraced pointer done derivation
    → IsTraced pointer (step ∷ done) (kept_by done step derivation)
traced_on pointer step done derivation other trace = record {
  pos = trace.pos;
  between = step ∷ trace.between;
  earlier = trace.earlier;
  is_done = ap (λ (steps : List Step). step ∷ steps) trace.is_done;
  is_last = or_from (assigns pointer step) (list_any (assigns pointer) trace.between) other trace.is_last;
  is_same = rw trace.is_same (sym (not-or (assigns derivation.handle step) (list_any (assigns derivation.handle) trace.between)));
  is_use = λ stale. go (or_cases derivation.is_stale (calls_new_handle step && not (derivation.is_same && is_locked_after derivation.handle done)) stale);
}
  where
    later : IsStaleUse (record { done = done; pointer = pointer }) → IsStaleUse (record { done = step ∷ done; pointer = pointer })
    later before = record {
      pos = before.pos;
      handle = before.handle;
      since = step ∷ before.since;
      call = before.call;
      between = before.between;
      earlier = before.earlier;
      is_done = ap (λ (steps : List Step). step ∷ steps) before.is_done;
      is_last = or_from (assigns pointer step) (list_any (assigns pointer) (before.since ++ before.call ∷ before.between)) other before.is_last;
      calls = before.calls;
      is_unsafe = before.is_unsafe;
    }

    rest : List Step
    rest = trace.between ++ form.Derive trace.pos pointer derivation.handle ∷ trace.earlier

    unsafe : (derivation.is_same ≡ false) ⊎ (is_locked_after derivation.handle done ≡ false)
        → IsTrue (list_any (assigns derivation.handle) trace.between) ⊎ (is_locked_after derivation.handle rest ≡ false)
    unsafe (inl changed) = inl (not-false (list_any (assigns derivation.handle) trace.between) (sym trace.is_same ∙ changed))
    unsafe (inr unlocked) = inr (subst (λ (steps : List Step). is_locked_after derivation.handle steps ≡ false) trace.is_done unlocked)

    here : (calls_new_handle step ≡ true) × (not (derivation.is_same && is_locked_after derivation.handle done) ≡ true)
        → IsStaleUse (record { done = step ∷ done; pointer = pointer })
    here call = record {
      pos = trace.pos;
      handle = derivation.handle;
      since = [];
      call = step;
      between = trace.between;
      earlier = trace.earlier;
      is_done = ap (λ (steps : List Step). step ∷ steps) trace.is_done;
      is_last = or_from (assigns pointer step) (list_any (assigns pointer) trace.between) other trace.is_last;
      calls = call.0;
      is_unsafe =
          unsafe (and_cases derivation.is_same (is_locked_after derivation.handle done)
          (not-true (derivation.is_same && is_locked_after derivation.handle done) call.1));
    }

    go : (derivation.is_stale ≡ true) ⊎ ((calls_new_handle step && not (derivation.is_same && is_locked_after derivation.handle done)) ≡ true)
        → IsStaleUse (record { done = step ∷ done; pointer = pointer })
    go (inl before) = later (trace.is_use before)
    go (inr call) = here (and_parts (calls_new_handle step) (not (derivation.is_same && is_locked_after derivation.handle done)) call)

-- by induction on the steps done
traced : (pointer : ℕ) (done : List Step) (derivation : Derivation) → derived_after pointer done ≡ Some derivation → IsTraced pointer done derivation
traced pointer [] derivation known = absurd (none-some derivation known)
traced pointer (step ∷ done) derivation known = at_step (λ before is_known. traced pointer done before is_known) (assigns pointer step) refl known
  where
    Earlier : Type 0
    Earlier = (before : Derivation) → derived_after pointer done ≡ Some before → IsTraced pointer done before

    at_known : Earlier → assigns pointer step ≡ false → (before : Option Derivation) → derived_after pointer done ≡ before
        → kept_if done step before ≡ Some derivation
        → IsTraced pointer (step ∷ done) derivation
    at_known trace other None is_known kept = absurd (none-some derivation kept)
    at_known trace other (Some before) is_known kept =
        subst (λ (d : Derivation). IsTraced pointer (step ∷ done) d) (same_Some (kept_by done step before) derivation kept)
        (traced_on pointer step done before other (trace before is_known))

    at_step : Earlier → (assigned : Bool) → assigns pointer step ≡ assigned
        → (if assigned then derived_by step else kept_if done step (derived_after pointer done)) ≡ Some derivation
        → IsTraced pointer (step ∷ done) derivation
    at_step trace true same is_known = traced_by pointer step done derivation same is_known
    at_step trace false other is_known = at_known trace other (derived_after pointer done) refl is_known

-- a use that is stale along the steps is stale by the rule
pub IsStaleUse-from_along : (pointer : ℕ) (done : List Step) → is_stale_after pointer done ≡ true → IsStaleUse (record { done = done; pointer = pointer })
IsStaleUse-from_along pointer done stale = go (derived_after pointer done) refl stale
  where
    go : (known : Option Derivation) → derived_after pointer done ≡ known → is_stale_derivation known ≡ true
        → IsStaleUse (record { done = done; pointer = pointer })
    go None is_known here = absurd (true≢false (sym here))
    go (Some derivation) is_known here = (traced pointer done derivation is_known).is_use here
