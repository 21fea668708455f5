-- Digits one by one: how many stand at the front of a text, and what their value comes to.
--     more_len, more_value     a digit more
--     over                     a value of more than 32 bits
use Rattle.std.proofs.Common.{◌≡◌, ℕ, suc, ◌+◌, ◌-◌, ◌*◌, ◌≤◌, ◌<◌, Bool, true, false, List, [], ◌∷◌, take, Some, None, refl, sym, ap, ◌∙◌, arith}
use Rattle.std.specs.Prelude.{if◌then◌else◌}
use Rattle.std.proofs.Math.Numerals.{one-add}
use Rattle.hs_tokens.specs.Literals.{hex_digit_value}
use Rattle.hs_constants.specs.Digits.{radix, is_digit_of, digit_value, value_behind, run_len, run_value}
use Rattle.hs_constants.specs.declared.digits.Base.{Base}
use Rattle.hs_constants.specs.declared.digits.Base.TheVariants.{Octal, Decimal, Hex}

-- a further digit makes the value no less
value_grows : (base : Base) (value : ℕ) (digits : List ℕ) → value ≤ value_behind base value digits
value_grows Octal value [] = omega arith
value_grows Octal value (digit ∷ digits) = omega (arith, value_grows Octal (8 * value + (digit - 48)) digits)
value_grows Decimal value [] = omega arith
value_grows Decimal value (digit ∷ digits) = omega (arith, value_grows Decimal (10 * value + (digit - 48)) digits)
value_grows Hex value [] = omega arith
value_grows Hex value (digit ∷ digits) = omega (arith, value_grows Hex (16 * value + hex_digit_value digit) digits)

-- one more digit
value_more : (base : Base) (value digit : ℕ) (digits : List ℕ)
    → value_behind base value (digit ∷ digits) ≡ value_behind base (radix base * value + digit_value base digit) digits
value_more Octal value digit digits = refl
value_more Decimal value digit digits = refl
value_more Hex value digit digits = refl

-- the value of the digits at the front, after digits of that value
abbrev pub run_behind : Base → ℕ → List ℕ → ℕ
run_behind base value text = value_behind base value (take (run_len base text) text)

-- a digit at the front is one more
len_next : (base : Base) (byte : ℕ) (rest : List ℕ) → is_digit_of base byte ≡ true → run_len base (byte ∷ rest) ≡ suc (run_len base rest)
len_next base byte rest digit = rw (digit, one-add (run_len base rest)) refl

-- and its value goes into that of the others
run_next : (base : Base) (value byte : ℕ) (rest : List ℕ) → is_digit_of base byte ≡ true
    → run_behind base value (byte ∷ rest) ≡ run_behind base (radix base * value + digit_value base byte) rest
run_next base value byte rest digit =
    ap (λ (len : ℕ). value_behind base value (take len (byte ∷ rest))) (len_next base byte rest digit)
    ∙ value_more base value byte (take (run_len base rest) rest)

-- what a digit tells of its byte
digit_by : (test : Bool) (digit value : ℕ) → Some digit ≡ (if test then Some value else None) → (test ≡ true) × (digit ≡ value)
digit_by true digit value is = (refl, cc)
digit_by false digit value is = absurd cc

-- a further digit at the front of what is left
module _ (base : Base) (text rest after : List ℕ) (byte digit : ℕ) (is : rest ≡ byte ∷ after)
    (read : Some digit ≡ (if is_digit_of base byte then Some (digit_value base byte) else None)) where
  -- so many digits are the same
  pub more_len : (len : ℕ) → len + run_len base rest ≡ run_len base text → len + 1 + run_len base after ≡ run_len base text
  more_len len so_far =
      let next : run_len base rest ≡ suc (run_len base after) =
      ap (run_len base) is ∙ len_next base byte after (digit_by (is_digit_of base byte) digit (digit_value base byte) read).0 in
      omega arith

  -- and they have the same value
  pub more_value : (value : ℕ) → run_behind base value rest ≡ run_value base text → run_behind base (radix base * value + digit) after ≡ run_value base text
  more_value value so_far =
      let tells = digit_by (is_digit_of base byte) digit (digit_value base byte) read in
      ap (λ (next : ℕ). run_behind base (radix base * value + next) after) tells.1
      ∙ sym (ap (run_behind base value) is ∙ run_next base value byte after tells.0)
      ∙ so_far

  -- a value of more bits stays so
  pub over : (value : ℕ) → run_behind base value rest ≡ run_value base text → 4294967295 < radix base * value + digit → 4294967295 < run_value base text
  over value so_far more =
      omega (arith, more_value value so_far, value_grows base (radix base * value + digit) (take (run_len base after) after))
