-- Words bit by bit.
use Rattle.std.proofs.Common.{◌≡◌, ◌≢◌, ◌<◌, ◌≤◌, ◌⊎◌, ℕ, zero, suc, ◌-◌, ◌/◌, ◌^◌, ◌==◌, Bool, true, false, not, ◌&&◌, ◌||◌, ap, sym, ◌∙◌, refl, inl, inr, min, max, nat_eq, bit_and, bit_or, arith, w64}
use Rattle.std.proofs.lemmas.Bool.{cases_eq, cases_lt}
use Rattle.std.proofs.lemmas.Bool.Decides.{nat_tests}
use Rattle.std.proofs.lemmas.Nat.Bits.{bit_at-lt, shr_and_one, bit_at_and, bit_at_or, bit_at-zero, bit_at_not, bit_at-trailing_zeros}
use Rattle.std.specs.Int.{bit_at, bit_not, trailing_zeros}
use Rattle.hs_lock_rows.specs.Given.{any, other}
use Rattle.hs_lock_rows.specs.Laws.Tests.{any_some, some_any, false_true, and_test, self_test}
use Rattle.hs_rows.specs.Sets.{bit_in}

pub has_read : (word k : ℕ) → nat_eq (bit_and (word / 2 ^ k) 1) 1 ≡ bit_in word k
has_read word k = rw (shr_and_one word k) refl

pub in_both : (a b j : ℕ) → bit_in (bit_and a b) j ≡ (bit_in a j && bit_in b j)
in_both a b j = rw (bit_at_and a b j) (by_bits (bit_at a j) (bit_at b j) (bit_at-lt a j) (bit_at-lt b j))
  where
    by_bits : (x y : ℕ) → x < 2 → y < 2 → (min x y == 1) ≡ ((x == 1) && (y == 1))
    by_bits zero zero h k = refl
    by_bits zero (suc zero) h k = refl
    by_bits zero (suc (suc y)) h k = absurd (omega arith)
    by_bits (suc zero) zero h k = refl
    by_bits (suc zero) (suc zero) h k = refl
    by_bits (suc zero) (suc (suc y)) h k = absurd (omega arith)
    by_bits (suc (suc x)) y h k = absurd (omega arith)

pub in_either : (a b j : ℕ) → bit_in (bit_or a b) j ≡ (bit_in a j || bit_in b j)
in_either a b j = rw (bit_at_or a b j) (by_bits (bit_at a j) (bit_at b j) (bit_at-lt a j) (bit_at-lt b j))
  where
    by_bits : (x y : ℕ) → x < 2 → y < 2 → (max x y == 1) ≡ ((x == 1) || (y == 1))
    by_bits zero zero h k = refl
    by_bits zero (suc zero) h k = refl
    by_bits zero (suc (suc y)) h k = absurd (omega arith)
    by_bits (suc zero) zero h k = refl
    by_bits (suc zero) (suc zero) h k = refl
    by_bits (suc zero) (suc (suc y)) h k = absurd (omega arith)
    by_bits (suc (suc x)) y h k = absurd (omega arith)

pub none_in : (j : ℕ) → bit_in 0 j ≡ false
none_in j = ap (λ n. n == 1) (bit_at-zero j)

-- the complement of a word
pub in_not : (word j : ℕ) → word < 2 ^ 64 → j < 64 → bit_in (bit_not w64 word) j ≡ not (bit_in word j)
in_not word j fits within = ap (λ n. n == 1) (bit_at_not w64 word j fits within) ∙ by_bit (bit_at word j) (bit_at-lt word j)
  where
    by_bit : (x : ℕ) → x < 2 → (1 - x == 1) ≡ not (x == 1)
    by_bit zero h = refl
    by_bit (suc zero) h = refl
    by_bit (suc (suc x)) h = absurd (omega arith)

pub all_in : (j : ℕ) → j < 64 → bit_in 18446744073709551615 j ≡ true
all_in j within = in_not 0 j (omega arith) within ∙ ap not (none_in j)

same_is : (n : ℕ) → (n == n) ≡ true
same_is n = grind (arith, nat_tests)

other_is : (a b : ℕ) → a ≢ b → (a == b) ≡ false
other_is a b h = grind (arith, nat_tests)

pub not_one : (word bit i : ℕ) → word < 2 ^ 64 → i < 64 → bit_in word i ≡ (i == bit) → bit_in (bit_not w64 word) i ≡ other bit i
not_one word bit i fits within is = in_not word i fits within ∙ ap not is

-- ---- words that share a bit

pub some_bit : (word : ℕ) → word < 2 ^ 64 → word ≢ 0 → (i : ℕ) × (bit_in word i ≡ true)
some_bit word fits some =
    let lowest = bit_at-trailing_zeros w64 word (omega (arith, some)) fits in
    (trailing_zeros w64 word, ap (λ n. n == 1) lowest.1)

module _ (names : ℕ) (a b f g : ℕ → Bool) (few : (i : ℕ) → names ≤ i → (a i && b i) ≡ false) (here : (i : ℕ) → i < names → a i ≡ f i)
    (there : (i : ℕ) → i < names → b i ≡ g i) where
  parts : (x y : Bool) → (x && y) ≡ true → (x ≡ true) × (y ≡ true)
  parts x y h = (and_test x y (x ≡ true) (y ≡ true) (self_test x) (self_test y)).0 h

  -- whether they share one is whether one name is in both
  pub met : (is : Bool) → (is ≡ true → (i : ℕ) × ((a i && b i) ≡ true)) → (is ≡ false → (i : ℕ) → (a i && b i) ≡ false)
      → is ≡ any names (λ i. f i && g i)
  met true some none = sym (by_one (some refl))
    where
      by_one : (i : ℕ) × ((a i && b i) ≡ true) → any names (λ i. f i && g i) ≡ true
      by_one one = by_place (cases_lt one.0 names)
        where
          by_place : (one.0 < names) ⊎ (names ≤ one.0) → any names (λ i. f i && g i) ≡ true
          by_place (inl l) =
              let its = parts (a one.0) (b one.0) one.1 in
              some_any names (λ i. f i && g i) one.0 l (ap (λ t. t && g one.0) (sym (here one.0 l) ∙ its.0) ∙ sym (there one.0 l) ∙ its.1)
          by_place (inr far) = false_true (sym (few one.0 far) ∙ one.1)
  met false some none = sym (by_test (any names (λ i. f i && g i)) refl)
    where
      by_test : (t : Bool) → any names (λ i. f i && g i) ≡ t → any names (λ i. f i && g i) ≡ false
      by_test false e = e
      by_test true e =
          let one = any_some names (λ i. f i && g i) e in
          let its = parts (f one.0) (g one.0) one.2 in
          false_true (sym (none refl one.0) ∙ ap (λ t. t && b one.0) (here one.0 one.1 ∙ its.0) ∙ there one.0 one.1 ∙ its.1)

-- ---- names that are one of many

pub any_same : (names : ℕ) (f g : ℕ → Bool) → ((i : ℕ) → i < names → f i ≡ g i) → any names f ≡ any names g
any_same zero f g same = refl
any_same (suc n) f g same =
    ap (λ t. t || f n) (any_same n f g (λ i l. same i (omega (arith, l)))) ∙ ap (λ t. any n g || t) (same n (omega arith))

pub and_none : (a : Bool) → (a && false) ≡ false
and_none true = refl
and_none false = refl

pub and_all : (a : Bool) → (a && true) ≡ a
and_all true = refl
and_all false = refl

-- that a name is another one does not depend on which is asked
pub other_turned : (x y : ℕ) → other x y ≡ other y x
other_turned x y = by_case (cases_eq x y)
  where
    by_case : (x ≡ y) ⊎ (x ≡ y → ⊥) → other x y ≡ other y x
    by_case (inl e) = ap (λ n. other n y) e ∙ ap (λ n. other y n) (sym e)
    by_case (inr ne) = ap not (other_is y x (λ e. ne (sym e)) ∙ sym (other_is x y ne))
