-- The arithmetic of conditions: long and unsigned long, of 32 bits (X3.159-1989 3.8.1 and 3.3). Results keep their low 32
-- bits, division truncates toward 0, a shift uses the low five bits of its count, and a right shift of a signed number
-- copies the sign (own if C leaves it open).
--     unary_value operator value          -x, ~x, !x, +x
--     binary_value operator left right    each of the eighteen operators
--     chosen test left right              test ? left : right
-- A value is computed also if it is not evaluated: it says whether its evaluation divides by 0.
use Rattle.std.specs.Prelude.{ℕ, ◌+◌, ◌-◌, ◌*◌, ◌/◌, ◌%◌, ◌^◌, ◌==◌, nat_le, nat_lt, Bool, true, false, not, ◌&&◌, ◌||◌, if◌then◌else◌, bit_and, bit_or, bit_xor}
use Rattle.hs_constants.specs.declared.value.Value.{Value}
use Rattle.hs_constants.specs.declared.operator.Unary.{Unary}
use Rattle.hs_constants.specs.declared.operator.Unary.TheVariants.{Plus, Minus, Complement, Not}
use Rattle.hs_constants.specs.declared.operator.Binary.{Binary}
use Rattle.hs_constants.specs.declared.operator.Binary.TheVariants.{Multiply, Divide, Remainder, Add, Subtract, ShiftLeft, ShiftRight, Less, Greater, LessEqual, GreaterEqual, Equal, NotEqual, BitAnd, BitXor, BitOr, And, Or}

-- the low 32 bits
abbrev pub low : ℕ → ℕ
low number = number % 4294967296

-- the bits of the negative number
abbrev pub negated : ℕ → ℕ
negated bits = low (4294967296 - bits)

-- the bits of a signed number below 0
abbrev pub is_negative : ℕ → Bool
is_negative bits = nat_le 2147483648 bits

-- the size of a signed number
abbrev pub size_of : ℕ → ℕ
size_of bits = if is_negative bits then 4294967296 - bits else bits

-- the bits of a number of that size, below 0 or not
abbrev pub signed : Bool → ℕ → ℕ
signed negative size = if negative then negated size else low size

-- exactly one of the two
abbrev pub differ : Bool → Bool → Bool
differ true second = not second
differ false second = second

-- toward 0; 0 if the divisor is
abbrev pub quotient : Bool → ℕ → ℕ → ℕ
quotient true left right = if right == 0 then 0 else left / right
quotient false left right = if right == 0 then 0 else signed (differ (is_negative left) (is_negative right)) (size_of left / size_of right)

-- with the sign of what is divided
abbrev pub remainder : Bool → ℕ → ℕ → ℕ
remainder true left right = if right == 0 then 0 else left % right
remainder false left right = if right == 0 then 0 else signed (is_negative left) (size_of left % size_of right)

-- by the low five bits of the count
abbrev pub shifted_left : ℕ → ℕ → ℕ
shifted_left bits count = low (bits * 2 ^ (count % 32))

-- a signed number below 0 keeps its sign
abbrev pub shifted_right : Bool → ℕ → ℕ → ℕ
shifted_right true bits count = bits / 2 ^ (count % 32)
shifted_right false bits count =
    if is_negative bits then 4294967295 - (4294967295 - bits) / 2 ^ (count % 32) else bits / 2 ^ (count % 32)

-- in the common type
abbrev pub is_less : Bool → ℕ → ℕ → Bool
is_less true left right = nat_lt left right
is_less false left right = nat_lt (low (left + 2147483648)) (low (right + 2147483648))

-- the truth of a value
abbrev pub is_true : Value → Bool
is_true value = not (value.bits == 0)

-- 1 or 0, of type long
abbrev pub truth : Bool → Bool → Value
truth fails answer = record { bits = if answer then 1 else 0; unsigned = false; fails = fails }

-- one of the two fails
abbrev pub either_fails : Value → Value → Bool
either_fails left right = left.fails || right.fails

-- a number of the common type of the two: unsigned if one is (3.2.1.5)
abbrev pub common : Value → Value → (Bool → ℕ) → Value
common left right bits =
    record { bits = bits (left.unsigned || right.unsigned); unsigned = left.unsigned || right.unsigned; fails = either_fails left right }

-- the same, if a divisor of 0 fails
abbrev pub divided : Value → Value → (Bool → ℕ) → Value
divided left right bits = record (common left right bits) { fails = either_fails left right || (right.bits == 0) }

-- what a comparison answers in the common type
abbrev pub compared : Value → Value → (Bool → Bool) → Value
compared left right answer = truth (either_fails left right) (answer (left.unsigned || right.unsigned))

-- 3.3.3.3
abbrev pub unary_value : Unary → Value → Value
unary_value Plus value = value
unary_value Minus value = record value { bits = negated value.bits }
unary_value Complement value = record value { bits = 4294967295 - value.bits }
unary_value Not value = truth value.fails (not (is_true value))

-- 3.3.5 to 3.3.14. The second operand of `&&` and `||` is evaluated only if the first leaves the answer open.
abbrev pub binary_value : Binary → Value → Value → Value
binary_value Multiply left right = common left right (λ unsigned. low (left.bits * right.bits))
binary_value Divide left right = divided left right (λ unsigned. quotient unsigned left.bits right.bits)
binary_value Remainder left right = divided left right (λ unsigned. remainder unsigned left.bits right.bits)
binary_value Add left right = common left right (λ unsigned. low (left.bits + right.bits))
binary_value Subtract left right = common left right (λ unsigned. low (left.bits + (4294967296 - right.bits)))
binary_value ShiftLeft left right = record left { bits = shifted_left left.bits right.bits; fails = either_fails left right }
binary_value ShiftRight left right = record left { bits = shifted_right left.unsigned left.bits right.bits; fails = either_fails left right }
binary_value Less left right = compared left right (λ unsigned. is_less unsigned left.bits right.bits)
binary_value Greater left right = compared left right (λ unsigned. is_less unsigned right.bits left.bits)
binary_value LessEqual left right = compared left right (λ unsigned. not (is_less unsigned right.bits left.bits))
binary_value GreaterEqual left right = compared left right (λ unsigned. not (is_less unsigned left.bits right.bits))
binary_value Equal left right = compared left right (λ unsigned. left.bits == right.bits)
binary_value NotEqual left right = compared left right (λ unsigned. not (left.bits == right.bits))
binary_value BitAnd left right = common left right (λ unsigned. bit_and left.bits right.bits)
binary_value BitXor left right = common left right (λ unsigned. bit_xor left.bits right.bits)
binary_value BitOr left right = common left right (λ unsigned. bit_or left.bits right.bits)
binary_value And left right = truth (left.fails || (is_true left && right.fails)) (is_true left && is_true right)
binary_value Or left right = truth (left.fails || (not (is_true left) && right.fails)) (is_true left || is_true right)

-- 3.3.15: only one of the two is evaluated, and both give the type
abbrev pub chosen : Value → Value → Value → Value
chosen test left right =
    record {
      bits = if is_true test then left.bits else right.bits;
      unsigned = left.unsigned || right.unsigned;
      fails = test.fails || (if is_true test then left.fails else right.fails);
    }
