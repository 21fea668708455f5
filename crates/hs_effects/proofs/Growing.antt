-- How the numbers of functions grow: by one, by none, and in steps.
use Rattle.std.proofs.Common.{◌≡◌, ◌≢◌, ℕ, suc, ◌<◌, ◌+◌, ◌*◌, ◌⊎◌, inl, inr, List, [], ◌∷◌, ◌++◌, length, true, false, Contains, arith, ap, sym, ◌∙◌, refl, subst}
use Rattle.std.proofs.lemmas.List.{length-append}
use Rattle.std.specs.declared.alloc.Global.{Global}
use Rattle.std.specs.declared.vec.Vec.{Vec}
use Rattle.hs_effects.proofs.Absent.{absent_fewer, absent_equal}
use Rattle.hs_effects.proofs.Members.{same_pair, member_stays, member_comes, member_back}
use Rattle.hs_effects.specs.Working.{IsIn, Waits, Grows, Only, absent_in, left}
use Rattle.hs_effects.specs.declared.work.Pair.{Pair}
use Rattle.hs_effects.specs.declared.work.Work.{Work}
use Rattle.hs_rows.specs.Sets.{Sets, SameSize, KeepsOthers, has, width}

-- ---- ranges

pub width_same : (old new : Sets) → SameSize old new → width new ≡ width old
width_same old new size = ap (λ per. 64 * per) size.per

-- ---- one number

module _ (function number : ℕ) (old : Work) (rows : Sets) (known : function < old.rows.count) (in_width : number < width old.rows)
    (there : has rows function number ≡ true) (others : KeepsOthers function number old.rows rows) (size : SameSize old.rows rows) where
  in_new : IsIn rows function number
  in_new = (subst (λ count. function < count) (sym size.count) known, subst (λ n. number < n) (sym (width_same old.rows rows size)) in_width, there)

  adds_it : (f b : ℕ) → Only function number f b → IsIn rows f b
  adds_it f b is = subst (λ g. IsIn rows g b) (sym is.0) (subst (IsIn rows function) (sym is.1) in_new)

  keeps : (f b : ℕ) → IsIn old.rows f b → IsIn rows f b
  keeps f b was = by_case (same_pair f function b number)
    where
      by_case : ((f ≡ function) × (b ≡ number)) ⊎ ((f ≢ function) ⊎ (b ≢ number)) → IsIn rows f b
      by_case (inl same) = adds_it f b same
      by_case (inr apart) = (
        subst (λ count. f < count) (sym size.count) was.0,
        subst (λ n. b < n) (sym (width_same old.rows rows size)) was.1,
        others f b was.0 was.1 apart ∙ was.2,
      )

  had : (f b : ℕ) → IsIn rows f b → IsIn old.rows f b ⊎ Only function number f b
  had f b is = by_case (same_pair f function b number)
    where
      below : f < old.rows.count
      below = subst (λ count. f < count) size.count is.0

      within : b < width old.rows
      within = subst (λ n. b < n) (width_same old.rows rows size) is.1

      by_case : ((f ≡ function) × (b ≡ number)) ⊎ ((f ≢ function) ⊎ (b ≢ number)) → IsIn old.rows f b ⊎ Only function number f b
      by_case (inl same) = inr same
      by_case (inr apart) = inl (below, within, sym (others f b below within apart) ∙ is.2)

  -- it was not there, and waits
  pub put_new : (waiting : Vec Pair Global) → has old.rows function number ≡ false
      → waiting.items ≡ old.waiting.items ++ record { function = function; number = number } ∷ []
      → Grows (Only function number) old (record { rows = rows; waiting = waiting })
  put_new waiting was pushed = record {
    size = size;
    kept = keeps;
    adds = adds_it;
    back = had;
    waits = λ f b is. by_case f b (had f b is);
    still = λ f b wait. member_stays old.waiting.items waiting.items one pushed (record { function = f; number = b }) wait;
    fresh = λ f b wait. by_member f b (member_back old.waiting.items waiting.items one pushed (record { function = f; number = b }) wait);
    less = fewer;
  }
    where
      one : Pair
      one = record { function = function; number = number }

      new : Work
      new = record { rows = rows; waiting = waiting }

      by_case : (f b : ℕ) → IsIn old.rows f b ⊎ Only function number f b → IsIn old.rows f b ⊎ Waits new f b
      by_case f b (inl was_in) = inl was_in
      by_case f b (inr is) =
          inr (subst (λ g. Waits new g b) (sym is.0) (subst (Waits new function) (sym is.1) (member_comes old.waiting.items waiting.items one pushed)))

      by_member : (f b : ℕ) → Contains old.waiting.items (record { function = f; number = b }) ⊎ (record { function = f; number = b } ≡ one)
          → Waits old f b ⊎ IsIn rows f b
      by_member f b (inl wait) = inl wait
      by_member f b (inr same) = inr (adds_it f b (ap (λ (it : Pair). it.function) same, ap (λ (it : Pair). it.number) same))

      longer : length waiting.items ≡ length old.waiting.items + 1
      longer = ap (λ (pairs : List Pair). length pairs) pushed ∙ length-append old.waiting.items (one ∷ [])

      fewer : left new ≡ left old
      fewer =
          let absent : absent_in old.rows old.rows.count ≡ suc (absent_in rows rows.count) =
          absent_fewer old.rows rows function number size known in_width was there others in
          omega (arith, longer)

  -- it was there before
  pub put_old : has old.rows function number ≡ true → Grows (Only function number) old (record { rows = rows; waiting = old.waiting })
  put_old was = record {
    size = size;
    kept = keeps;
    adds = adds_it;
    back = λ f b is. inl (in_old f b (had f b is));
    waits = λ f b is. inl (in_old f b (had f b is));
    still = λ f b wait. wait;
    fresh = λ f b wait. inl wait;
    less = ap (λ n. n + length old.waiting.items) (sym (absent_equal old.rows rows size same));
  }
    where
      in_old : (f b : ℕ) → IsIn old.rows f b ⊎ Only function number f b → IsIn old.rows f b
      in_old f b (inl was_in) = was_in
      in_old f b (inr is) = subst (λ g. IsIn old.rows g b) (sym is.0) (subst (IsIn old.rows function) (sym is.1) (known, in_width, was))

      same : (f b : ℕ) → f < old.rows.count → b < width old.rows → has rows f b ≡ has old.rows f b
      same f b below within = by_case (same_pair f function b number)
        where
          by_case : ((f ≡ function) × (b ≡ number)) ⊎ ((f ≢ function) ⊎ (b ≢ number)) → has rows f b ≡ has old.rows f b
          by_case (inl equal) =
              ap (λ g. has rows g b) equal.0 ∙ ap (has rows function) equal.1 ∙ there ∙ sym was ∙ ap (has old.rows function) (sym equal.1)
              ∙ ap (λ g. has old.rows g b) (sym equal.0)
          by_case (inr apart) = others f b below within apart

-- ---- steps

-- nothing was put
pub Grows-none : (Adds : ℕ → ℕ → Type 0) (work : Work) → ((f b : ℕ) → Adds f b → ⊥) → Grows Adds work work
Grows-none Adds work none = record {
  size = record { count = refl; per = refl };
  kept = λ f b is. is;
  adds = λ f b is. absurd (none f b is);
  back = λ f b is. inl is;
  waits = λ f b is. inl is;
  still = λ f b wait. wait;
  fresh = λ f b wait. inl wait;
  less = refl;
}

-- one after the other
pub Grows-then : (First Second Adds : ℕ → ℕ → Type 0) (old middle new : Work) → Grows First old middle → Grows Second middle new
    → ((f b : ℕ) → Adds f b → First f b ⊎ Second f b) → ((f b : ℕ) → First f b → Adds f b) → ((f b : ℕ) → Second f b → Adds f b)
    → Grows Adds old new
Grows-then First Second Adds old middle new first second split left_in right_in = record {
  size = record { count = second.size.count ∙ first.size.count; per = second.size.per ∙ first.size.per };
  kept = λ f b is. second.kept f b (first.kept f b is);
  adds = λ f b is. added f b (split f b is);
  back = λ f b is. backward f b (second.back f b is);
  waits = λ f b is. waiting f b (second.waits f b is);
  still = λ f b wait. second.still f b (first.still f b wait);
  fresh = λ f b wait. freshly f b (second.fresh f b wait);
  less = second.less ∙ first.less;
}
  where
    added : (f b : ℕ) → First f b ⊎ Second f b → IsIn new.rows f b
    added f b (inl is) = second.kept f b (first.adds f b is)
    added f b (inr is) = second.adds f b is

    from_middle : (f b : ℕ) → IsIn old.rows f b ⊎ First f b → IsIn old.rows f b ⊎ Adds f b
    from_middle f b (inl is) = inl is
    from_middle f b (inr is) = inr (left_in f b is)

    backward : (f b : ℕ) → IsIn middle.rows f b ⊎ Second f b → IsIn old.rows f b ⊎ Adds f b
    backward f b (inl is) = from_middle f b (first.back f b is)
    backward f b (inr is) = inr (right_in f b is)

    wait_middle : (f b : ℕ) → IsIn old.rows f b ⊎ Waits middle f b → IsIn old.rows f b ⊎ Waits new f b
    wait_middle f b (inl is) = inl is
    wait_middle f b (inr wait) = inr (second.still f b wait)

    waiting : (f b : ℕ) → IsIn middle.rows f b ⊎ Waits new f b → IsIn old.rows f b ⊎ Waits new f b
    waiting f b (inl is) = wait_middle f b (first.waits f b is)
    waiting f b (inr wait) = inr wait

    fresh_middle : (f b : ℕ) → Waits old f b ⊎ IsIn middle.rows f b → Waits old f b ⊎ IsIn new.rows f b
    fresh_middle f b (inl wait) = inl wait
    fresh_middle f b (inr is) = inr (second.kept f b is)

    freshly : (f b : ℕ) → Waits middle f b ⊎ IsIn new.rows f b → Waits old f b ⊎ IsIn new.rows f b
    freshly f b (inl wait) = fresh_middle f b (first.fresh f b wait)
    freshly f b (inr is) = inr is

-- some functions have the number, and then one more
pub Grows-more : (xs ys : List ℕ) (x number : ℕ) → ys ≡ xs ++ x ∷ [] → (old middle new : Work)
    → Grows (λ f b. Contains xs f × (b ≡ number)) old middle → Grows (Only x number) middle new
    → Grows (λ f b. Contains ys f × (b ≡ number)) old new
Grows-more xs ys x number pushed old middle new first second =
    Grows-then (λ f b. Contains xs f × (b ≡ number)) (Only x number) (λ f b. Contains ys f × (b ≡ number)) old middle new first second
    split (λ f b is. (member_stays xs ys x pushed f is.0, is.1))
    (λ f b is. (subst (λ g. Contains ys g) (sym is.0) (member_comes xs ys x pushed), is.1))
  where
    by_member : (f b : ℕ) → Contains xs f ⊎ (f ≡ x) → b ≡ number → (Contains xs f × (b ≡ number)) ⊎ Only x number f b
    by_member f b (inl old) is = inl (old, is)
    by_member f b (inr same) is = inr (same, is)

    split : (f b : ℕ) → Contains ys f × (b ≡ number) → (Contains xs f × (b ≡ number)) ⊎ Only x number f b
    split f b is = by_member f b (member_back xs ys x pushed f is.0) is.1
