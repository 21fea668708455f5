-- Operations on numbers of 32 bits (X3.159-1989 3.3.3.3, 3.3.5 to 3.3.12). Results keep their low 32 bits, division truncates toward 0, a shift
-- uses the low five bits of its count, and a right shift of a signed number copies the sign (own where C leaves it open).
--     sign_of operator bits               +x, -x, ~x
--     arithmetic_of operator kind a b     an operation on numbers of that type
--     divides operator                    it stops if its second operand is 0
--     answer_of operator kind a b         a comparison of numbers of that type; truth answer, as a number
--     signed bits, bits_of number         the number with a sign, and its bits
use Rattle.std.specs.Int.{w32, cast_signed, cast_unsigned}
use Rattle.std.specs.Prelude.{ℤ, ℕ, ◌+◌, ◌-◌, ◌*◌, ◌==◌, Bool, true, false, not, bit_and, bit_or, bit_xor}
use Rattle.hs_constants.specs.Arithmetic.{low, negated, quotient, remainder, shifted_left, shifted_right, is_less}
use Rattle.hs_tree.specs.declared.operators.Arithmetic.{Arithmetic}
use Rattle.hs_tree.specs.declared.operators.Arithmetic.TheVariants.{Multiply, Divide, Remainder, Add, Subtract, ShiftLeft, ShiftRight, BitAnd, BitXor, BitOr}
use Rattle.hs_tree.specs.declared.operators.Comparison.{Comparison}
use Rattle.hs_tree.specs.declared.operators.Comparison.TheVariants.{Less, Greater, LessEqual, GreaterEqual, Equal, NotEqual}
use Rattle.hs_tree.specs.declared.operators.Unary.{Unary}
use Rattle.hs_tree.specs.declared.operators.Unary.TheVariants.{Plus, Minus, Complement}
use Rattle.hs_types.specs.Integers.{is_signed}
use Rattle.hs_types.specs.declared.integer.Integer.{Integer}

-- 3.3.3.3
abbrev pub sign_of : Unary → ℕ → ℕ
sign_of Plus bits = bits
sign_of Minus bits = negated bits
sign_of Complement bits = 4294967295 - bits

-- in that type, without a sign or with one
abbrev pub arithmetic_by : Arithmetic → Bool → ℕ → ℕ → ℕ
arithmetic_by Multiply unsigned a b = low (a * b)
arithmetic_by Divide unsigned a b = quotient unsigned a b
arithmetic_by Remainder unsigned a b = remainder unsigned a b
arithmetic_by Add unsigned a b = low (a + b)
arithmetic_by Subtract unsigned a b = low (a + (4294967296 - b))
arithmetic_by ShiftLeft unsigned a b = shifted_left a b
arithmetic_by ShiftRight unsigned a b = shifted_right unsigned a b
arithmetic_by BitAnd unsigned a b = bit_and a b
arithmetic_by BitXor unsigned a b = bit_xor a b
arithmetic_by BitOr unsigned a b = bit_or a b

-- of numbers of that type
abbrev pub arithmetic_of : Arithmetic → Integer → ℕ → ℕ → ℕ
arithmetic_of operator kind a b = arithmetic_by operator (not (is_signed kind)) a b

-- 3.3.5
abbrev pub divides : Arithmetic → Bool
divides Multiply = false
divides Divide = true
divides Remainder = true
divides Add = false
divides Subtract = false
divides ShiftLeft = false
divides ShiftRight = false
divides BitAnd = false
divides BitXor = false
divides BitOr = false

-- 3.3.8 and 3.3.9
abbrev pub answer_by : Comparison → Bool → ℕ → ℕ → Bool
answer_by Less unsigned a b = is_less unsigned a b
answer_by Greater unsigned a b = is_less unsigned b a
answer_by LessEqual unsigned a b = not (is_less unsigned b a)
answer_by GreaterEqual unsigned a b = not (is_less unsigned a b)
answer_by Equal unsigned a b = a == b
answer_by NotEqual unsigned a b = not (a == b)

-- of numbers of that type
abbrev pub answer_of : Comparison → Integer → ℕ → ℕ → Bool
answer_of operator kind a b = answer_by operator (not (is_signed kind)) a b

-- 1 or 0
abbrev pub truth : Bool → ℕ
truth true = 1
truth false = 0

-- two's complement
abbrev pub signed : ℕ → ℤ
signed bits = cast_signed w32 bits

-- the low 32 bits
abbrev pub bits_of : ℤ → ℕ
bits_of number = cast_unsigned w32 number
