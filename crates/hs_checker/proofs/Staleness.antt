-- One step more: what the rule of stale uses says after it, if the steps stand in the order of the text.
use Rattle.std.proofs.Common.{◌≡◌, ℕ, ◌+◌, ◌<◌, ◌≤◌, suc, Bool, true, false, not, ◌&&◌, ◌||◌, List, [], ◌∷◌, ◌++◌, length, reverse, take, drop, get_or, drop-cons, add-one, refl, sym, ap, subst, ◌∙◌, arith, append_assoc, eq-eqb, eqb-true, Some, None, Option, if◌then◌else◌}
use Rattle.std.specs.Prelude.{find}
use Rattle.std.specs.List.{list_any}
use Rattle.std.proofs.lemmas.List.{take_more, reverse-append, append-nil, take-append-drop, drop_all, length-take-le, drop-append-le, take_all, get_or_default}
use Rattle.std.proofs.lemmas.List.Folds.{list_any-append}
use Rattle.std.proofs.lemmas.Bool.{or_parts}
use Rattle.hs_base.specs.declared.pos.Pos.{Pos}
use Rattle.hs_tree.specs.declared.straight.tree.Step.{Step}
use Rattle.hs_tree.specs.declared.straight.tree.Step.TheVariants as form
use Rattle.hs_tree.specs.Straight.Fine.{assigns}
use Rattle.hs_meaning.specs.Straight.StaleUses.{concerns, locks, calls_new_handle, is_lock_of, is_locked_after}
use Rattle.hs_meaning.specs.Straight.Along.{derived_after, is_stale_after, is_stale_derivation, derived_by}
use Rattle.hs_checker.specs.Straight.Count.{GoesStale}

-- a step at the end of the text's order is the newest
pub reverse-push : (steps : List Step) (step : Step) → reverse (steps ++ step ∷ []) ≡ step ∷ reverse steps
reverse-push steps step = reverse-append steps (step ∷ [])

-- what is known of a pointer that was taken from the handle
pub record IsKnown (handle pointer : ℕ) (done : List Step) (is_same is_stale is_locked : Bool) : Type 0 where
  pub derived : derived_after pointer done ≡ Some (record { handle = handle; is_same = is_same; is_stale = is_stale })
  pub locked : is_locked_after handle done ≡ is_locked

-- the newest step that concerns the handle is the first of two
is_lock_of-first : (handle : ℕ) (first : Bool) (step : Step) (rest : Option Step)
    → is_lock_of handle (if first then Some step else rest) ≡ (if first then locks handle step else is_lock_of handle rest)
is_lock_of-first handle true step rest = refl
is_lock_of-first handle false step rest = refl

-- after one step more, that does not assign the pointer
IsKnown-more : (handle pointer : ℕ) (done : List Step) (step : Step) (is_same is_stale is_locked : Bool) → assigns pointer step ≡ false
    → IsKnown handle pointer done is_same is_stale is_locked
    → IsKnown handle pointer (step ∷ done) (is_same && not (assigns handle step))
    (is_stale || (calls_new_handle step && not (is_same && is_locked))) (if concerns handle step then locks handle step else is_locked)
IsKnown-more handle pointer done step is_same is_stale is_locked other known = record {
  derived = rw (other, known.derived, known.locked) refl;
  locked =
      is_lock_of-first handle (concerns handle step) step (find (concerns handle) done)
      ∙ ap (λ (b : Bool). if concerns handle step then locks handle step else b) known.locked;
}

-- one step more of `since`
reverse-more : (taken since : List Step) (i : ℕ) (d : Step) → i < length since
    → reverse (taken ++ take (i + 1) since) ≡ get_or since i d ∷ reverse (taken ++ take i since)
reverse-more taken since i d below =
    rw (take_more since i d below)
    (ap reverse (sym (append_assoc taken (take i since) (get_or since i d ∷ []))) ∙ reverse-push (taken ++ take i since) (get_or since i d))

-- none of one step more
pub none_more : (p : Step → Bool) (steps : List Step) (i : ℕ) (d : Step) → i < length steps → list_any p (take (i + 1) steps) ≡ false
    → (list_any p (take i steps) ≡ false) × (p (get_or steps i d) ≡ false)
none_more p steps i d below none = (parts.0, (or_parts (p (get_or steps i d)) false parts.1).0)
  where
    parts : (list_any p (take i steps) ≡ false) × (list_any p (get_or steps i d ∷ []) ≡ false)
    parts =
        or_parts (list_any p (take i steps)) (list_any p (get_or steps i d ∷ []))
        (sym (ap (list_any p) (take_more steps i d below) ∙ list_any-append p (take i steps) (get_or steps i d ∷ [])) ∙ none)

-- if the newest step is `p = *h`
pub IsKnown-derive : (handle pointer : ℕ) (pos : Pos) (before taken : List Step) → taken ≡ before ++ form.Derive pos pointer handle ∷ []
    → IsKnown handle pointer (reverse (taken ++ [])) true false (is_locked_after handle (reverse taken))
IsKnown-derive handle pointer pos before taken is_taken = record {
  derived = rw (append-nil taken, is_taken, reverse-push before (form.Derive pos pointer handle), eq-eqb pointer pointer refl) refl;
  locked = ap (λ (steps : List Step). is_locked_after handle (reverse steps)) (append-nil taken);
}

-- the loop over the steps since: one step more
pub IsKnown-step : (handle pointer : ℕ) (taken since : List Step) (i : ℕ) (d : Step) (is_same is_stale is_locked : Bool) → i < length since
    → list_any (assigns pointer) (take (i + 1) since) ≡ false
    → (list_any (assigns pointer) (take i since) ≡ false → IsKnown handle pointer (reverse (taken ++ take i since)) is_same is_stale is_locked)
    → IsKnown handle pointer (reverse (taken ++ take (i + 1) since))
    (is_same && not (assigns handle (get_or since i d)))
    (is_stale || (calls_new_handle (get_or since i d) && not (is_same && is_locked)))
    (if concerns handle (get_or since i d) then locks handle (get_or since i d) else is_locked)
IsKnown-step handle pointer taken since i d is_same is_stale is_locked below none known =
    rw (reverse-more taken since i d below)
    (IsKnown-more handle pointer (reverse (taken ++ take i since)) (get_or since i d) is_same is_stale is_locked others.1 (known others.0))
  where
    others : (list_any (assigns pointer) (take i since) ≡ false) × (assigns pointer (get_or since i d) ≡ false)
    others = none_more (assigns pointer) since i d below none

-- of the first i steps, the last one that assigns the variable stands there
abbrev pub IsLastBefore : ℕ → List Step → ℕ → Option ℕ → Type 0
IsLastBefore variable done i None = list_any (assigns variable) (take i done) ≡ false
IsLastBefore variable done i (Some place) =
    (place < i)
    × ((other : Step) → assigns variable (get_or done place other) ≡ true)
    × (list_any (assigns variable) (drop (suc place) (take i done)) ≡ false)

-- the step there assigns it
pub IsLastBefore-found : (variable : ℕ) (done : List Step) (i : ℕ) (d : Step) → i < length done → assigns variable (get_or done i d) ≡ true
    → IsLastBefore variable done (i + 1) (Some i)
IsLastBefore-found variable done i d below found =
    (omega arith, λ other. rw (get_or_default done i other d below) found, rw (drop_all (suc i) (take (i + 1) done) past) refl)
  where
    past : length (take (i + 1) done) ≤ suc i
    past = rw (length-take-le (i + 1) done (omega arith)) (omega arith)

-- the step there does not
pub IsLastBefore-other : (variable : ℕ) (done : List Step) (i : ℕ) (d : Step) (last : Option ℕ) → i < length done
    → assigns variable (get_or done i d) ≡ false → IsLastBefore variable done i last → IsLastBefore variable done (i + 1) last
IsLastBefore-other variable done i d None below other none =
    rw (take_more done i d below, list_any-append (assigns variable) (take i done) (get_or done i d ∷ []), none, other) refl
IsLastBefore-other variable done i d (Some place) below other last = (omega arith, last.1, none)
  where
    cut : drop (suc place) (take (i + 1) done) ≡ drop (suc place) (take i done) ++ get_or done i d ∷ []
    cut =
        rw (take_more done i d below)
        (drop-append-le (suc place) (take i done) (get_or done i d ∷ []) (rw (length-take-le i done (omega arith)) (omega arith)))

    none : list_any (assigns variable) (drop (suc place) (take (i + 1) done)) ≡ false
    none = rw (cut, list_any-append (assigns variable) (drop (suc place) (take i done)) (get_or done i d ∷ []), last.2, other) refl

-- if no step since assigns the pointer, what is not known stays so
pub unknown_kept : (pointer : ℕ) (since done : List Step) → list_any (assigns pointer) since ≡ false → derived_after pointer done ≡ None
    → derived_after pointer (since ++ done) ≡ None
unknown_kept pointer [] done none unknown = unknown
unknown_kept pointer (step ∷ since) done none unknown =
    rw (others.0, unknown_kept pointer since done others.1 unknown) refl
  where
    others : (assigns pointer step ≡ false) × (list_any (assigns pointer) since ≡ false)
    others = or_parts (assigns pointer step) (list_any (assigns pointer) since) none

-- the order is all the same to a test of any
pub list_any-reverse : (p : Step → Bool) (steps : List Step) → list_any p (reverse steps) ≡ list_any p steps
list_any-reverse p [] = refl
list_any-reverse p (step ∷ steps) =
    ap (list_any p) (reverse-append (step ∷ []) steps) ∙ list_any-append p (reverse steps) (step ∷ [])
    ∙ ap (λ (b : Bool). b || (p step || false)) (list_any-reverse p steps) ∙ swapped (list_any p steps) (p step)
  where
    swapped : (x y : Bool) → (x || (y || false)) ≡ (y || x)
    swapped true true = refl
    swapped true false = refl
    swapped false true = refl
    swapped false false = refl

-- the loop is done: all of `since`
pub stale_at_end : (handle pointer : ℕ) (taken since : List Step) (i : ℕ) (is_same is_stale is_locked : Bool) → length since ≤ i
    → list_any (assigns pointer) since ≡ false
    → (list_any (assigns pointer) (take i since) ≡ false → IsKnown handle pointer (reverse (taken ++ take i since)) is_same is_stale is_locked)
    → is_stale ≡ is_stale_after pointer (reverse (taken ++ since))
stale_at_end handle pointer taken since i is_same is_stale is_locked past none known = rw all.derived refl
  where
    whole : take i since ≡ since
    whole = take_all i since past

    all : IsKnown handle pointer (reverse (taken ++ since)) is_same is_stale is_locked
    all =
        subst (λ (steps : List Step). IsKnown handle pointer (reverse (taken ++ steps)) is_same is_stale is_locked) whole
        (known (subst (λ (steps : List Step). list_any (assigns pointer) steps ≡ false) (sym whole) none))

-- a pointer that no step assigns is not stale
pub not_stale-never : (pointer : ℕ) (done : List Step) → list_any (assigns pointer) done ≡ false → false ≡ is_stale_after pointer (reverse done)
not_stale-never pointer done none =
    rw (← append-nil (reverse done))
    (rw (unknown_kept pointer (reverse done) [] (list_any-reverse (assigns pointer) done ∙ none) refl) refl)

-- a list is cut before and after a place
cut_at : (done : List Step) (place : ℕ) (d : Step) → place < length done → done ≡ (take place done ++ get_or done place d ∷ []) ++ drop (place + 1) done
cut_at done place d below =
    sym (take-append-drop place done)
    ∙ ap (λ (rest : List Step). take place done ++ rest)
    (drop-cons done place d below ∙ ap (λ (i : ℕ). get_or done place d ∷ drop i done) (sym (add-one place)))
    ∙ sym (append_assoc (take place done) (get_or done place d ∷ []) (drop (place + 1) done))

-- the newest first of a list that is cut after a place
reverse-cut : (done : List Step) (place : ℕ) (d : Step) → place < length done
    → reverse done ≡ reverse (drop (place + 1) done) ++ get_or done place d ∷ reverse (take place done)
reverse-cut done place d below =
    ap reverse (cut_at done place d below)
    ∙ reverse-append (take place done ++ get_or done place d ∷ []) (drop (place + 1) done)
    ∙ ap (λ (front : List Step). reverse (drop (place + 1) done) ++ front) (reverse-push (take place done) (get_or done place d))

-- a pointer that the last step to assign it did not take from a handle is not stale
pub not_stale-other : (pointer : ℕ) (done : List Step) (place : ℕ) (d : Step) → place < length done
    → assigns pointer (get_or done place d) ≡ true → list_any (assigns pointer) (drop (suc place) done) ≡ false → derived_by (get_or done place d) ≡ None
    → false ≡ is_stale_after pointer (reverse done)
not_stale-other pointer done place d below found none other =
    sym (ap is_stale_derivation
    (ap (derived_after pointer) (reverse-cut done place d below)
    ∙ unknown_kept pointer (reverse (drop (place + 1) done)) (get_or done place d ∷ reverse (take place done)) none_since unknown))
  where
    none_since : list_any (assigns pointer) (reverse (drop (place + 1) done)) ≡ false
    none_since = list_any-reverse (assigns pointer) (drop (place + 1) done) ∙ ap (λ (i : ℕ). list_any (assigns pointer) (drop i done)) (add-one place) ∙ none

    unknown : derived_after pointer (get_or done place d ∷ reverse (take place done)) ≡ None
    unknown = rw found other

-- one that it took from a handle is stale as `GoesStale` says
pub stale-taken : (pointer handle : ℕ) (pos : Pos) (done before since : List Step) (place : ℕ) (d : Step) (assigned : ℕ) (answer : Bool) → place < length done
    → get_or done place d ≡ form.Derive pos assigned handle → assigns pointer (get_or done place d) ≡ true
    → list_any (assigns pointer) (drop (suc place) done) ≡ false
    → before ≡ take (place + 1) done → since ≡ drop (place + 1) done → GoesStale handle before since answer
    → answer ≡ is_stale_after pointer (reverse done)
stale-taken pointer handle pos done before since place d assigned answer below taken found none is_before is_since goes =
    (rw (is_before, is_since) at goes) pointer pos (take place done) is_taken (ap (λ (i : ℕ). list_any (assigns pointer) (drop i done)) (add-one place) ∙ none)
    ∙ ap (λ (steps : List Step). is_stale_after pointer (reverse steps)) (take-append-drop (place + 1) done)
  where
    same : assigned ≡ pointer
    same = eqb-true assigned pointer (sym (ap (assigns pointer) taken) ∙ found)

    is_taken : take (place + 1) done ≡ take place done ++ form.Derive pos pointer handle ∷ []
    is_taken = take_more done place d below ∙ ap (λ (step : Step). take place done ++ step ∷ []) (taken ∙ ap (λ (n : ℕ). form.Derive pos n handle) same)

-- a step that is no `p = *h` takes no pointer from a handle
pub derived_by-other : (step : Step) → ((pos : Pos) (pointer handle : ℕ) → step ≡ form.Derive pos pointer handle → ⊥) → derived_by step ≡ None
derived_by-other (form.Derive pos pointer handle) other = absurd (other pos pointer handle refl)
derived_by-other (form.NewHandle handle size) other = refl
derived_by-other (form.HLock pos handle) other = refl
derived_by-other (form.HUnlock pos handle) other = refl
derived_by-other (form.Set letter value) other = refl
derived_by-other (form.Store pos pointer value) other = refl
derived_by-other (form.Putchar value) other = refl
