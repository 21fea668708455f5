-- Numbers of a row that are written one after the other.
use Rattle.std.proofs.Common.{◌≡◌, ◌≢◌, ◌<◌, ◌≤◌, ◌⊎◌, ℕ, suc, ◌+◌, ◌*◌, ◌%◌, ◌^◌, ◌==◌, Bool, true, false, ap, sym, subst, ◌∙◌, refl, inl, inr, bit_or, arith, w64, zero, ◌&&◌, bit_and, min}
use Rattle.std.proofs.lemmas.Bool.{cases_eq, cases_lt}
use Rattle.std.proofs.lemmas.Nat.Bits.{bit_at_set_same, bit_at_set_other, bit_at-zero, bit_at_and, bit_at-lt, bit_at-trailing_zeros, bit_at-pow_same, bit_at-pow_other}
use Rattle.std.proofs.lemmas.Nat.{one_shl}
use Rattle.std.proofs.lemmas.Bool.Decides.{nat_tests}
use Rattle.std.specs.Int.{bit_at, trailing_zeros}
use Rattle.hs_fact_rows.specs.Fields.{Writes}
use Rattle.hs_rows.specs.Sets.{Sets, has, width, bit_in, SameSize, KeepsOthers}

pub Writes-none : (sets : Sets) (row first : ℕ) (value : ℕ → Bool) → Writes row first 0 value sets sets
Writes-none sets row first value = record {
  inside = λ i h. absurd (omega arith);
  outside = λ r b _ _ _. refl;
  size = record { count = refl; per = refl };
}

pub Writes-next :
    (old mid new : Sets) (row first i : ℕ) (value : ℕ → Bool) → Writes row first i value old mid → KeepsOthers row (first + i) mid new → SameSize mid new
    → row < old.count → first + i < width old → has new row (first + i) ≡ value i → Writes row first (suc i) value old new
Writes-next old mid new row first i value w keeps size inside within is = record {
  inside = λ j h. by_place j h (cases_eq j i);
  outside = λ r b in_rows in_width apart.
      keeps r b (subst (λ n. r < n) (sym w.size.count) in_rows) (subst (λ n. b < 64 * n) (sym w.size.per) in_width) (other r b apart)
      ∙ w.outside r b in_rows in_width (weaker r b apart);
  size = record { count = size.count ∙ w.size.count; per = size.per ∙ w.size.per };
}
  where
    other : (r b : ℕ) → (r ≢ row) ⊎ ((b < first) ⊎ (first + suc i ≤ b)) → (r ≢ row) ⊎ (b ≢ first + i)
    other r b (inl h) = inl h
    other r b (inr (inl h)) = inr (λ e. absurd (omega arith))
    other r b (inr (inr h)) = inr (λ e. absurd (omega arith))

    weaker : (r b : ℕ) → (r ≢ row) ⊎ ((b < first) ⊎ (first + suc i ≤ b)) → (r ≢ row) ⊎ ((b < first) ⊎ (first + i ≤ b))
    weaker r b (inl h) = inl h
    weaker r b (inr (inl h)) = inr (inl h)
    weaker r b (inr (inr h)) = inr (inr (omega arith))

    by_place : (j : ℕ) → j < suc i → (j ≡ i) ⊎ (j ≡ i → ⊥) → has new row (first + j) ≡ value j
    by_place j h (inl e) = ap (λ n. has new row (first + n)) e ∙ is ∙ ap value (sym e)
    by_place j h (inr ne) =
        keeps row (first + j) (subst (λ n. row < n) (sym w.size.count) inside) (subst (λ n. first + j < 64 * n) (sym w.size.per) (omega (arith, within)))
        (inr (λ e. ne (omega arith)))
        ∙ w.inside j (omega (arith, ne))

-- ---- a word that is read name by name

pub none_read : (j : ℕ) → bit_in 0 j ≡ false
none_read j = ap (λ n. n == 1) (bit_at-zero j)

pub added_here : (word i : ℕ) → i < 64 → bit_in (bit_or word (1 * 2 ^ i % 2 ^ 64)) i ≡ true
added_here word i within = ap (λ n. n == 1) (bit_at_set_same w64 word i within)

pub added_other : (word i j : ℕ) → i < 64 → j ≢ i → bit_in (bit_or word (1 * 2 ^ i % 2 ^ 64)) j ≡ bit_in word j
added_other word i j within ne = ap (λ n. n == 1) (bit_at_set_other w64 word i within j ne)

same_is : (n : ℕ) → (n == n) ≡ true
same_is n = grind (arith, nat_tests)

other_is : (a b : ℕ) → a ≢ b → (a == b) ≡ false
other_is a b h = grind (arith, nat_tests)

pub one_bit : (bit i : ℕ) → bit < 64 → bit_in (1 * 2 ^ bit % 2 ^ 64) i ≡ (i == bit)
one_bit bit i within = rw (one_shl bit 64 within) (by_place (cases_eq i bit))
  where
    by_place : (i ≡ bit) ⊎ (i ≡ bit → ⊥) → bit_in (2 ^ bit) i ≡ (i == bit)
    by_place (inl e) = ap (λ n. n == 1) (ap (bit_at (2 ^ bit)) e ∙ bit_at-pow_same bit) ∙ sym (ap (λ n. n == bit) e ∙ same_is bit)
    by_place (inr ne) = ap (λ n. n == 1) (bit_at-pow_other bit i ne) ∙ sym (other_is i bit ne)

-- ---- words that have a bit

pub some_bit : (word : ℕ) → word < 2 ^ 64 → word ≢ 0 → (i : ℕ) × (bit_in word i ≡ true)
some_bit word fits some =
    let lowest = bit_at-trailing_zeros w64 word (omega (arith, some)) fits in
    (trailing_zeros w64 word, ap (λ n. n == 1) lowest.1)

in_both : (a b j : ℕ) → bit_in (bit_and a b) j ≡ (bit_in a j && bit_in b j)
in_both a b j = rw (bit_at_and a b j) (by_bits (bit_at a j) (bit_at b j) (bit_at-lt a j) (bit_at-lt b j))
  where
    by_bits : (x y : ℕ) → x < 2 → y < 2 → (min x y == 1) ≡ ((x == 1) && (y == 1))
    by_bits zero zero h k = refl
    by_bits zero (suc zero) h k = refl
    by_bits zero (suc (suc y)) h k = absurd (omega arith)
    by_bits (suc zero) zero h k = refl
    by_bits (suc zero) (suc zero) h k = refl
    by_bits (suc zero) (suc (suc y)) h k = absurd (omega arith)
    by_bits (suc (suc x)) y h k = absurd (omega arith)

-- names that two words share
pub shared_name : (names a b : ℕ) (w s : ℕ → Bool) → ((i : ℕ) → names ≤ i → bit_in a i ≡ false) → ((i : ℕ) → i < names → bit_in a i ≡ w i)
    → ((i : ℕ) → i < names → bit_in b i ≡ s i) → (i : ℕ) × (bit_in (bit_and a b) i ≡ true) → (i : ℕ) × (i < names) × (w i ≡ true) × (s i ≡ true)
shared_name names a b w s few here there h = by_place (cases_lt h.0 names)
  where
    parts : (x y : Bool) → (x && y) ≡ true → (x ≡ true) × (y ≡ true)
    parts true y e = (refl, e)
    parts false y e = grind arith

    its : (bit_in a h.0 ≡ true) × (bit_in b h.0 ≡ true)
    its = parts (bit_in a h.0) (bit_in b h.0) (sym (in_both a b h.0) ∙ h.1)

    false_true : false ≡ true → ⊥
    false_true e = grind arith

    by_place : (h.0 < names) ⊎ (names ≤ h.0) → (i : ℕ) × (i < names) × (w i ≡ true) × (s i ≡ true)
    by_place (inl l) = (h.0, l, sym (here h.0 l) ∙ its.0, sym (there h.0 l) ∙ its.1)
    by_place (inr l) = absurd (false_true (sym (few h.0 l) ∙ its.0))

pub no_shared_name : (names a b : ℕ) (w s : ℕ → Bool) → ((i : ℕ) → i < names → bit_in a i ≡ w i) → ((i : ℕ) → i < names → bit_in b i ≡ s i)
    → ((i : ℕ) → bit_in (bit_and a b) i ≡ false) → (i : ℕ) → i < names → w i ≡ true → s i ≡ true → ⊥
no_shared_name names a b w s here there none i l h k =
    true_false (sym (ap (λ x. x && s i) h ∙ k) ∙ sym (ap (λ x. x && s i) (here i l)) ∙ sym (ap (λ x. bit_in a i && x) (there i l)) ∙ sym (in_both a b
    i) ∙ none i)
  where
    true_false : true ≡ false → ⊥
    true_false e = grind arith
