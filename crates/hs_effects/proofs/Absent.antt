-- How many numbers are absent: one fewer when one is put in.
use Rattle.std.proofs.Common.{◌≡◌, ◌≢◌, ℕ, zero, suc, ◌<◌, ◌+◌, ◌*◌, ◌⊎◌, inl, inr, Bool, true, false, arith, ap, sym, ◌∙◌, refl}
use Rattle.hs_effects.proofs.Members.{same_or}
use Rattle.hs_effects.specs.Working.{absent, absent_below, absent_in}
use Rattle.hs_rows.specs.Sets.{Sets, SameSize, KeepsOthers, has, width}

-- sums
one_less : (a b c d : ℕ) → a ≡ 1 → c ≡ 0 → b ≡ d → a + b ≡ suc (c + d)
one_less a b c d first second rest = omega arith

less_later : (a b c d : ℕ) → a ≡ c → b ≡ suc d → a + b ≡ suc (c + d)
less_later a b c d same rest = omega arith

less_first : (a b c d : ℕ) → a ≡ suc c → b ≡ d → a + b ≡ suc (c + d)
less_first a b c d first rest = omega arith

equal_sums : (a b c d : ℕ) → a ≡ c → b ≡ d → a + b ≡ c + d
equal_sums a b c d first rest = omega arith

-- ---- of one function

absent_same : (old new : ℕ → Bool) (n : ℕ) → ((k : ℕ) → k < n → new k ≡ old k) → absent_below old n ≡ absent_below new n
absent_same old new zero same = refl
absent_same old new (suc n) same =
    equal_sums (absent (old n)) (absent_below old n) (absent (new n)) (absent_below new n) (ap absent (sym (same n (omega arith))))
    (absent_same old new n (λ k below. same k (omega arith)))

absent_put : (old new : ℕ → Bool) (at n : ℕ) → at < n → old at ≡ false → new at ≡ true → ((k : ℕ) → k < n → k ≢ at → new k ≡ old k)
    → absent_below old n ≡ suc (absent_below new n)
absent_put old new at zero below was is others = absurd (omega arith)
absent_put old new at (suc n) below was is others =
    by_case (same_or n at) (λ lower. absent_put old new at n lower was is (λ k under. others k (omega arith)))
  where
    by_case : (n ≡ at) ⊎ (n ≢ at) → (at < n → absent_below old n ≡ suc (absent_below new n))
        → absent (old n) + absent_below old n ≡ suc (absent (new n) + absent_below new n)
    by_case (inl same) rest =
        one_less (absent (old n)) (absent_below old n) (absent (new n)) (absent_below new n)
        (ap absent (ap old same ∙ was)) (ap absent (ap new same ∙ is))
        (absent_same old new n (λ k lower. others k (omega arith) (λ equal. absurd (omega arith))))
    by_case (inr apart) rest =
        less_later (absent (old n)) (absent_below old n) (absent (new n)) (absent_below new n)
        (ap absent (sym (others n (omega arith) apart))) (rest (omega arith))

-- ---- of all functions

module _ (old new : Sets) (wide : new.per ≡ old.per) where
  -- the numbers of one function stay
  row_same : (f : ℕ) → ((b : ℕ) → b < width old → has new f b ≡ has old f b)
      → absent_below (has old f) (width old) ≡ absent_below (has new f) (width new)
  row_same f same =
      absent_same (has old f) (has new f) (width old) same ∙ ap (λ per. absent_below (has new f) (64 * per)) (sym wide)

  rows_same : (n : ℕ) → ((f b : ℕ) → f < n → b < width old → has new f b ≡ has old f b) → absent_in old n ≡ absent_in new n
  rows_same zero same = refl
  rows_same (suc n) same =
      equal_sums (absent_below (has old n) (width old)) (absent_in old n) (absent_below (has new n) (width new)) (absent_in new n)
      (row_same n (λ b. same n b (omega arith))) (rows_same n (λ f b below. same f b (omega arith)))

  rows_put : (function number n : ℕ) → function < n → number < width old → has old function number ≡ false → has new function number ≡ true
      → ((f b : ℕ) → f < n → b < width old → (f ≢ function) ⊎ (b ≢ number) → has new f b ≡ has old f b)
      → absent_in old n ≡ suc (absent_in new n)
  rows_put function number zero below in_width was is others = absurd (omega arith)
  rows_put function number (suc n) below in_width was is others =
      by_case (same_or n function) (λ lower. rows_put function number n lower in_width was is (λ f b under. others f b (omega arith)))
    where
      here : n ≡ function → absent_below (has old n) (width old) ≡ suc (absent_below (has new n) (width new))
      here same =
          absent_put (has old n) (has new n) number (width old) in_width (ap (λ f. has old f number) same ∙ was)
          (ap (λ f. has new f number) same ∙ is) (λ b lower apart. others n b (omega arith) lower (inr apart))
          ∙ ap (λ per. suc (absent_below (has new n) (64 * per))) (sym wide)

      by_case : (n ≡ function) ⊎ (n ≢ function) → (function < n → absent_in old n ≡ suc (absent_in new n))
          → absent_below (has old n) (width old) + absent_in old n ≡ suc (absent_below (has new n) (width new) + absent_in new n)
      by_case (inl same) rest =
          less_first (absent_below (has old n) (width old)) (absent_in old n) (absent_below (has new n) (width new)) (absent_in new n) (here same)
          (rows_same n (λ f b lower in_row. others f b (omega arith) in_row (inl (λ equal. absurd (omega arith)))))
      by_case (inr apart) rest =
          less_later (absent_below (has old n) (width old)) (absent_in old n) (absent_below (has new n) (width new)) (absent_in new n)
          (row_same n (λ b lower. others n b (omega arith) lower (inl apart)))
          (rest (omega arith))

-- by what `put` of a row says
pub absent_fewer : (old new : Sets) (function number : ℕ) → SameSize old new → function < old.count → number < width old
    → has old function number ≡ false → has new function number ≡ true → KeepsOthers function number old new
    → absent_in old old.count ≡ suc (absent_in new new.count)
absent_fewer old new function number size known in_width was is others =
    rows_put old new size.per function number old.count known in_width was is others ∙ ap (λ count. suc (absent_in new count)) (sym size.count)

pub absent_equal : (old new : Sets) → SameSize old new → ((f b : ℕ) → f < old.count → b < width old → has new f b ≡ has old f b)
    → absent_in old old.count ≡ absent_in new new.count
absent_equal old new size same = rows_same old new size.per old.count same ∙ ap (absent_in new) (sym size.count)
