-- Arithmetic on numbers of 32 bits: with a sign and without, and conversions.
use Rattle.std.proofs.Common.{◌+◌, ℕ, pos, negsuc, [], ◌∷◌, refl, arith}
use Rattle.std.specs.Prelude.{codes}
use Rattle.hs_meaning.proofs.Programs.Forms.{as_kind, compared, minus, of_ints}
use Rattle.hs_meaning.proofs.Programs.Row.{Run, run, ◌comes_to◌}
use Rattle.hs_meaning.proofs.Programs.Terms.{int, put, get, num, done_by, return, variable, program, no_input, finished, stopped, head}
use Rattle.hs_meaning.specs.declared.outcome.Stop.TheVariants as stop
use Rattle.hs_tree.specs.Trees.{RightValue}
use Rattle.hs_tree.specs.Trees as tree
use Rattle.hs_tree.specs.declared.operators.Arithmetic.{Arithmetic}
use Rattle.hs_tree.specs.declared.operators.Arithmetic.TheVariants.{Add, Subtract, Divide, Remainder, ShiftLeft, ShiftRight, BitAnd, BitXor, BitOr}
use Rattle.hs_tree.specs.declared.operators.Comparison.TheVariants.{Less}
use Rattle.hs_tree.specs.declared.operators.Unary.TheVariants.{Complement}
use Rattle.hs_types.specs.Rows.{integer_id}
use Rattle.hs_types.specs.declared.integer.Integer.{Integer}
use Rattle.hs_types.specs.declared.integer.Integer.TheVariants as kind

-- return e;
abbrev gives : RightValue → Run
gives e = run (program [] (return 6 e ∷ [])) no_input [] 0

-- -n, with its `-` in that column
abbrev less : ℕ → ℕ → RightValue
less col n = minus 6 col (num 6 (col + 1) n)

-- (unsigned)e, and an operation on unsigned numbers, whose result is an int again
abbrev unsigned : ℕ → RightValue → RightValue
unsigned col e = tree.cast (head 6 col (integer_id kind.UnsignedInt)) (as_kind 6 col kind.UnsignedInt e)

abbrev of_unsigned : Arithmetic → RightValue → RightValue → RightValue
of_unsigned operator a b = as_kind 6 5 kind.Int (tree.arithmetic (head 6 25 (integer_id kind.UnsignedInt)) operator kind.UnsignedInt a b)

-- (t)e, and back
abbrev through : Integer → RightValue → RightValue
through its e = as_kind 6 5 kind.Int (tree.cast (head 6 12 (integer_id its)) (as_kind 6 12 its e))

-- return -7 / 2; toward 0
quotient : gives (of_ints 6 15 Divide (less 12 7) (num 6 17 2)) comes_to finished [] (negsuc 2)
quotient = (grind (arith), refl)

-- return -7 % 2;
remainder : gives (of_ints 6 15 Remainder (less 12 7) (num 6 17 2)) comes_to finished [] (negsuc 0)
remainder = (grind (arith), refl)

-- return 7 / -2;
negative_divisor : gives (of_ints 6 14 Divide (num 6 12 7) (minus 6 16 (num 6 17 2))) comes_to finished [] (negsuc 2)
negative_divisor = (grind (arith), refl)

-- return (unsigned)-7 / (unsigned)2; which is 4294967289 / 2
unsigned_quotient : gives (of_unsigned Divide (unsigned 12 (less 22 7)) (unsigned 27 (num 6 37 2))) comes_to finished [] (pos 2147483644)
unsigned_quotient = (grind (arith), refl)

-- return (-2147483647 - 1) / -1; the low 32 bits
least_by_minus_one : gives (of_ints 6 30 Divide (of_ints 6 25 Subtract (less 13 2147483647) (num 6 27 1)) (minus 6 32 (num 6 33 1)))
    comes_to finished [] (negsuc 2147483647)
least_by_minus_one = (grind (arith), refl)

-- int i; i = 0; return 7 / i;
division_by_zero : run (program (variable (codes "i") int ∷ [])
    (done_by 5 (put 5 7 int 0 (num 5 9 0)) ∷ return 6 (of_ints 6 14 Divide (num 6 12 7) (get 6 16 int 0)) ∷ [])) no_input [] 0
    comes_to stopped [] stop.Divide 6 14
division_by_zero = (grind (arith), refl)

-- return 7 % 0;
remainder_by_zero : gives (of_ints 6 14 Remainder (num 6 12 7) (num 6 16 0)) comes_to stopped [] stop.Divide 6 14
remainder_by_zero = (grind (arith), refl)

-- return 2147483647 + 1;
wrapped_sum : gives (of_ints 6 23 Add (num 6 12 2147483647) (num 6 25 1)) comes_to finished [] (negsuc 2147483647)
wrapped_sum = (grind (arith), refl)

-- return -8 >> 1; the sign is copied
shifted_right : gives (of_ints 6 15 ShiftRight (less 12 8) (num 6 18 1)) comes_to finished [] (negsuc 3)
shifted_right = (grind (arith), refl)

-- return (unsigned)-8 >> 1;
unsigned_shifted_right : gives (of_unsigned ShiftRight (unsigned 12 (less 22 8)) (num 6 28 1)) comes_to finished [] (pos 2147483644)
unsigned_shifted_right = (grind (arith), refl)

-- return 1 << 33; by the low five bits of the count
shifted_left : gives (of_ints 6 14 ShiftLeft (num 6 12 1) (num 6 17 33)) comes_to finished [] (pos 2)
shifted_left = (grind (arith), refl)

-- return (12 & 10) + (12 ^ 10) + (12 | 10);
bits : gives (of_ints 6 31 Add (of_ints 6 21 Add (of_ints 6 16 BitAnd (num 6 13 12) (num 6 18 10)) (of_ints 6 27 BitXor (num 6 24 12) (num 6 29 10)))
    (of_ints 6 37 BitOr (num 6 34 12) (num 6 39 10)))
    comes_to finished [] (pos 28)
bits = (grind (arith), refl)

-- return ~5;
complement : gives (tree.unary (head 6 12 int) Complement kind.Int (num 6 13 5)) comes_to finished [] (negsuc 5)
complement = (grind (arith), refl)

-- return !5;
not_five : gives (tree.not (head 6 12 int) (num 6 13 5)) comes_to finished [] (pos 0)
not_five = (grind (arith), refl)

-- return -1 < 1;
signed_order : gives (compared 6 15 Less (less 12 1) (num 6 17 1)) comes_to finished [] (pos 1)
signed_order = (grind (arith), refl)

-- return (unsigned)-1 < (unsigned)1;
unsigned_order : gives (tree.comparison (head 6 25 int) Less kind.UnsignedInt (unsigned 12 (less 22 1)) (unsigned 27 (num 6 37 1))) comes_to finished [] (pos 0)
unsigned_order = (grind (arith), refl)

-- return (char)200;
as_character : gives (through kind.Char (num 6 18 200)) comes_to finished [] (negsuc 55)
as_character = (grind (arith), refl)

-- return (unsigned char)-1;
as_unsigned_character : gives (through kind.UnsignedChar (less 27 1)) comes_to finished [] (pos 255)
as_unsigned_character = (grind (arith), refl)

-- return (short)98303; which is 65536 and 32767
as_short : gives (through kind.Short (num 6 19 98303)) comes_to finished [] (pos 32767)
as_short = (grind (arith), refl)

-- return (short)65535;
as_negative_short : gives (through kind.Short (num 6 19 65535)) comes_to finished [] (negsuc 0)
as_negative_short = (grind (arith), refl)

-- return (unsigned short)-1;
as_unsigned_short : gives (through kind.UnsignedShort (less 28 1)) comes_to finished [] (pos 65535)
as_unsigned_short = (grind (arith), refl)

-- return 4294967295; an unsigned long, as an int
as_int : gives (as_kind 6 5 kind.Int (tree.number (head 6 12 (integer_id kind.UnsignedLong)) 4294967295)) comes_to finished [] (negsuc 0)
as_int = (grind (arith), refl)

-- return 1 << -1;
negative_count : gives (of_ints 6 14 ShiftLeft (num 6 12 1) (minus 6 17 (num 6 18 1))) comes_to finished [] (negsuc 2147483647)
negative_count = (grind (arith), refl)
