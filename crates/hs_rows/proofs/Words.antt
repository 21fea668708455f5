-- A word bit by bit, and where the word of a number is.
--     has_read, lacks_read      what a test of a bit computes
--     same_place                two numbers with one word and one bit are one
--     others_kept               a word with another bit changes no other number
use Rattle.std.proofs.Common.{◌≡◌, ◌≢◌, ◌<◌, ◌⊎◌, ℕ, zero, suc, ◌+◌, ◌*◌, ◌/◌, ◌%◌, ◌^◌, ◌==◌, not, ◌&&◌, ap, sym, ◌∙◌, refl, inl, inr, min, nat_eq, List, length, get_or, set, bit_and, arith}
use Rattle.std.proofs.lemmas.Bool.{cases_eq}
use Rattle.std.proofs.lemmas.List.{get_or-set_other}
use Rattle.std.proofs.lemmas.Grind.{get_or-set_at}
use Rattle.std.proofs.lemmas.Nat.{div-mul-add, mod-mul-add, div_below, mod_below, div-add-mod'}
use Rattle.std.proofs.lemmas.Nat.Bits.{bit_at-lt, shr_and_one, bit_at_and}
use Rattle.std.specs.Int.{bit_at}
use Rattle.hs_rows.specs.Sets.{bit_in, place_of}

-- ---- a word

pub has_read : (word k : ℕ) → nat_eq (bit_and (word / 2 ^ k) 1) 1 ≡ bit_in word k
has_read word k = rw (shr_and_one word k) refl

pub lacks_read : (word k : ℕ) → nat_eq (bit_and (word / 2 ^ k) 1) 0 ≡ not (bit_in word k)
lacks_read word k = rw (shr_and_one word k) (by_bit (bit_at word k) (bit_at-lt word k))
  where
    by_bit : (x : ℕ) → x < 2 → nat_eq x 0 ≡ not (x == 1)
    by_bit zero h = refl
    by_bit (suc zero) h = refl
    by_bit (suc (suc x)) h = absurd (omega arith)

pub in_both : (a b j : ℕ) → bit_in (bit_and a b) j ≡ (bit_in a j && bit_in b j)
in_both a b j = rw (bit_at_and a b j) (by_bits (bit_at a j) (bit_at b j) (bit_at-lt a j) (bit_at-lt b j))
  where
    by_bits : (x y : ℕ) → x < 2 → y < 2 → (min x y == 1) ≡ ((x == 1) && (y == 1))
    by_bits zero zero h k = refl
    by_bits zero (suc zero) h k = refl
    by_bits zero (suc (suc y)) h k = absurd (omega arith)
    by_bits (suc zero) zero h k = refl
    by_bits (suc zero) (suc zero) h k = refl
    by_bits (suc zero) (suc (suc y)) h k = absurd (omega arith)
    by_bits (suc (suc x)) y h k = absurd (omega arith)

-- ---- where the word of a number is

pub in_row : (per b : ℕ) → b < 64 * per → b / 64 < per
in_row per b within = div_below b 64 per (omega arith) (omega arith)

same_place : (per r b row bit : ℕ) → b < 64 * per → bit < 64 * per → place_of per r b ≡ place_of per row bit → (r ≡ row) × (b / 64 ≡ bit / 64)
same_place per r b row bit within within' same =
    let x = in_row per b within in
    let y = in_row per bit within' in (
      sym (div-mul-add r per (b / 64) x) ∙ ap (λ n. n / per) same ∙ div-mul-add row per (bit / 64) y,
      sym (mod-mul-add r per (b / 64) x) ∙ ap (λ n. n % per) same ∙ mod-mul-add row per (bit / 64) y,
    )

-- of one word and one bit of it
one_number : (b bit : ℕ) → b / 64 ≡ bit / 64 → b % 64 ≡ bit % 64 → b ≡ bit
one_number b bit same same' =
    sym (div-add-mod' b 64) ∙ ap (λ n. n * 64 + b % 64) same ∙ ap (λ n. bit / 64 * 64 + n) same' ∙ div-add-mod' bit 64

-- the other bits of a word
abbrev pub KeepsBits : ℕ → ℕ → ℕ → Type 0
KeepsBits k old new = (j : ℕ) → j < 64 → j ≢ k → bit_in new j ≡ bit_in old j

pub others_kept :
    (words : List ℕ) (per row bit word r b : ℕ) → place_of per row bit < length words → b < 64 * per → bit < 64 * per → (r ≢ row) ⊎ (b ≢ bit)
    → KeepsBits (bit % 64) (get_or words (place_of per row bit) 0) word
    → bit_in (get_or (set words (place_of per row bit) word) (place_of per r b) 0) (b % 64) ≡ bit_in (get_or words (place_of per r b) 0) (b % 64)
others_kept words per row bit word r b there within within' other keeps = by_place (cases_eq (place_of per r b) (place_of per row bit))
  where
    bits_differ : (r ≡ row) × (b / 64 ≡ bit / 64) → b % 64 ≡ bit % 64 → (r ≢ row) ⊎ (b ≢ bit) → ⊥
    bits_differ same same' (inl h) = h same.0
    bits_differ same same' (inr h) = h (one_number b bit same.1 same')

    by_place : (place_of per r b ≡ place_of per row bit) ⊎ (place_of per r b ≡ place_of per row bit → ⊥)
        → bit_in (get_or (set words (place_of per row bit) word) (place_of per r b) 0) (b % 64) ≡ bit_in (get_or words (place_of per r b) 0) (b % 64)
    by_place (inl e) =
        let same = same_place per r b row bit within within' e in
        ap (λ n. bit_in n (b % 64)) (get_or-set_at words (place_of per row bit) (place_of per r b) word 0 e there)
        ∙ keeps (b % 64) (mod_below b 64 (omega arith)) (λ h. bits_differ same h other)
        ∙ ap (λ i. bit_in (get_or words i 0) (b % 64)) (sym e)
    by_place (inr ne) = ap (λ n. bit_in n (b % 64)) (get_or-set_other words (place_of per row bit) (place_of per r b) word 0 ne)
