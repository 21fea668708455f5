-- Digits in one of the three bases (X3.159-1989 3.1.3.2 and 3.1.3.4).
--     is_digit_of base byte             the byte is a digit of that base
--     digit_value base digit            its value
--     value_behind base value digits    the value of digits after digits of that value
--     IsRun base text found             the digits at the front of a text, if their value has 32 bits
use Rattle.std.specs.Prelude.{◌≡◌, ℕ, ◌-◌, ◌<◌, Bool, List, Option, Some, None, take}
use Rattle.std.specs.List.{prefix_len}
use Rattle.hs_base.specs.Text.{is_digit}
use Rattle.hs_tokens.specs.Characters.{is_octal, is_hex}
use Rattle.hs_tokens.specs.Literals.{octal_value, hex_value, hex_digit_value}
use Rattle.hs_constants.specs.Numbers.{decimal_value}
use Rattle.hs_constants.specs.declared.digits.Base.{Base}
use Rattle.hs_constants.specs.declared.digits.Base.TheVariants.{Octal, Decimal, Hex}
use Rattle.hs_constants.specs.declared.digits.Digits.{Digits}

-- how many digits the base has
abbrev pub radix : Base → ℕ
radix Octal = 8
radix Decimal = 10
radix Hex = 16

-- the byte is a digit of that base
abbrev pub is_digit_of : Base → ℕ → Bool
is_digit_of Octal byte = is_octal byte
is_digit_of Decimal byte = is_digit byte
is_digit_of Hex byte = is_hex byte

-- the value of a digit
abbrev pub digit_value : Base → ℕ → ℕ
digit_value Octal digit = digit - 48
digit_value Decimal digit = digit - 48
digit_value Hex digit = hex_digit_value digit

-- the value of digits, after digits of that value
abbrev pub value_behind : Base → ℕ → List ℕ → ℕ
value_behind Octal value digits = octal_value value digits
value_behind Decimal value digits = decimal_value value digits
value_behind Hex value digits = hex_value value digits

-- how many digits of the base stand at the front
abbrev pub run_len : Base → List ℕ → ℕ
run_len base text = prefix_len (is_digit_of base) text

-- the value of those
abbrev pub run_value : Base → List ℕ → ℕ
run_value base text = value_behind base 0 (take (run_len base text) text)

-- the digits at the front of the text, or that their value has more than 32 bits
abbrev pub IsRun : Base → List ℕ → Option Digits → Type 0
IsRun base text None = 4294967295 < run_value base text
IsRun base text (Some found) = (found.len ≡ run_len base text) × (found.value ≡ run_value base text)
