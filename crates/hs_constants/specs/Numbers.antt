-- The values of number tokens (X3.159-1989 3.1.3.2). A wider one than 32 bits has none (own), nor has a floating one.
--     number_value text         the value and the suffix of an integer constant, if the text is one
use Rattle.std.specs.Prelude.{ℕ, ◌+◌, ◌-◌, ◌*◌, ◌==◌, nat_le, Bool, true, false, ◌&&◌, ◌||◌, List, [], ◌∷◌, drop, take, Option, Some, None, if◌then◌else◌}
use Rattle.std.specs.List.{prefix_len}
use Rattle.hs_base.specs.Text.{is_digit}
use Rattle.hs_tokens.specs.Characters.{is_octal, is_hex}
use Rattle.hs_tokens.specs.Literals.{octal_value, hex_value}
use Rattle.hs_constants.specs.declared.number.Number.{Number}

-- the value of decimal digits, after digits of that value
abbrev pub decimal_value : ℕ → List ℕ → ℕ
decimal_value value [] = value
decimal_value value (digit ∷ digits) = decimal_value (10 * value + (digit - 48)) digits

-- u or U
abbrev pub is_u : ℕ → Bool
is_u byte = (byte == 117) || (byte == 85)

-- l or L
abbrev pub is_l : ℕ → Bool
is_l byte = (byte == 108) || (byte == 76)

-- the number with such a suffix: one u and one l at most, of either case and in either order
abbrev pub with_suffix : ℕ → Bool → List ℕ → Option Number
with_suffix value decimal [] = Some (record { value = value; decimal = decimal; unsigned = false; long = false })
with_suffix value decimal (first ∷ []) =
    if is_u first then Some (record { value = value; decimal = decimal; unsigned = true; long = false })
    else if is_l first then Some (record { value = value; decimal = decimal; unsigned = false; long = true })
    else None
with_suffix value decimal (first ∷ second ∷ []) =
    if (is_u first && is_l second) || (is_l first && is_u second)
    then Some (record { value = value; decimal = decimal; unsigned = true; long = true }) else None
with_suffix value decimal (first ∷ second ∷ third ∷ rest) = None

-- so many digits of that value, and the rest as their suffix
abbrev pub digits_value : ℕ → Bool → ℕ → List ℕ → Option Number
digits_value len decimal value text = if nat_le value 4294967295 then with_suffix value decimal (drop len text) else None

-- digits after 0x, at least one
abbrev pub hex_number : List ℕ → Option Number
hex_number text =
    if prefix_len is_hex text == 0
    then None
    else digits_value (prefix_len is_hex text) false (hex_value 0 (take (prefix_len is_hex text) text)) text

-- a 0 begins an octal number
abbrev pub octal_number : List ℕ → Option Number
octal_number text = digits_value (prefix_len is_octal text) false (octal_value 0 (take (prefix_len is_octal text) text)) text

-- any other digit a decimal one
abbrev pub decimal_number : List ℕ → Option Number
decimal_number text = digits_value (prefix_len is_digit text) true (decimal_value 0 (take (prefix_len is_digit text) text)) text

-- the text begins with 0x
abbrev pub begins_hex : List ℕ → Bool
begins_hex [] = false
begins_hex (first ∷ []) = false
begins_hex (first ∷ mark ∷ rest) = (first == 48) && ((mark == 120) || (mark == 88))

-- the value and the suffix of an integer constant
abbrev pub number_value : List ℕ → Option Number
number_value [] = None
number_value (first ∷ rest) =
    if begins_hex (first ∷ rest) then hex_number (drop 2 (first ∷ rest))
    else if first == 48 then octal_number (first ∷ rest)
    else if is_digit first then decimal_number (first ∷ rest)
    else None
