-- Operators: in which order and how often operands are evaluated, and how an object is changed by what it holds.
use Rattle.std.proofs.Common.{ℕ, pos, negsuc, List, [], ◌∷◌, refl, arith}
use Rattle.std.specs.Prelude.{true, false, codes}
use Rattle.hs_meaning.proofs.Programs.Forms.{as_pointer, plus, minus, as_kind, assigned, calls, counted, forward, of_ints, taken_variable, address, decay}
use Rattle.hs_meaning.proofs.Programs.Forms.{loaded, through, element, id, more_types}
use Rattle.hs_meaning.proofs.Programs.Row.{Run, run, ◌comes_to◌}
use Rattle.hs_meaning.proofs.Programs.Terms.{char, int, long, get, put, local, num, one, done_by, return, putchar, new_handle, function, variable}
use Rattle.hs_meaning.proofs.Programs.Terms.{program_with, no_input, finished, stopped, head}
use Rattle.hs_meaning.specs.declared.outcome.Stop.TheVariants as stop
use Rattle.hs_tree.specs.Trees.{RightValue, LeftValue, TypedStatement}
use Rattle.hs_tree.specs.Trees as tree
use Rattle.hs_tree.specs.declared.head.VariableDecl.{VariableDecl}
use Rattle.hs_tree.specs.declared.operators.Arithmetic.TheVariants.{Add, Subtract, Multiply}
use Rattle.hs_types.specs.Rows.{char_pointer_id, char_handle_id}
use Rattle.hs_types.specs.TypeTables.{TypeTable}
use Rattle.hs_types.specs.declared.integer.Integer.TheVariants as kind
use Rattle.hs_types.specs.declared.row.Row.TheVariants as row

-- type 12 is int[3], and 13 is int *
abbrev types : TypeTable
types = more_types (row.Array int 3 (record { size = 12; even = true; characters = false }) ∷ row.Pointer int ∷ []) []

-- int i; char c; int m; int a[3]; int *p; char **h; the program takes the address of `m`
abbrev variables : List VariableDecl
variables =
    variable (codes "i") int ∷ variable (codes "c") char ∷ taken_variable (codes "m") int ∷ variable (codes "a") (id 12)
    ∷ variable (codes "p") (id 13) ∷ variable (codes "h") char_handle_id ∷ []

abbrev run_of : List TypedStatement → Run
run_of its = run (program_with types [] (function variables its ∷ [])) no_input [] 0

-- return e;
abbrev gives : RightValue → Run
gives e = run_of (return 6 e ∷ [])

-- putchar(n), at that column
abbrev puts : ℕ → ℕ → RightValue
puts col n = putchar 6 col (num 6 col n)

-- i = n; c = n; m = n;
abbrev i_is : ℕ → TypedStatement
i_is n = done_by 4 (put 4 7 int 0 (num 4 9 n))

abbrev c_is : ℕ → TypedStatement
c_is n = done_by 4 (put 4 7 char 1 (as_kind 4 7 kind.Char (num 4 9 n)))

abbrev m_is : ℕ → TypedStatement
m_is n = done_by 4 (put 4 7 int 2 (num 4 9 n))

-- return 0 && putchar(65);
and_false : gives (tree.and (head 6 14 int) (num 6 12 0) (puts 17 65)) comes_to finished [] (pos 0)
and_false = (grind (arith), refl)

-- return 2 && putchar(65);
and_true : gives (tree.and (head 6 14 int) (num 6 12 2) (puts 17 65)) comes_to finished (65 ∷ []) (pos 1)
and_true = (grind (arith), refl)

-- return 2 || putchar(65);
or_true : gives (tree.or (head 6 14 int) (num 6 12 2) (puts 17 65)) comes_to finished [] (pos 1)
or_true = (grind (arith), refl)

-- return 0 || putchar(0);
or_false : gives (tree.or (head 6 14 int) (num 6 12 0) (puts 17 0)) comes_to finished (0 ∷ []) (pos 0)
or_false = (grind (arith), refl)

-- return n ? putchar(65) : putchar(66); one of the two is evaluated
abbrev chosen : ℕ → Run
chosen n = gives (tree.conditional (head 6 14 int) (num 6 12 n) (puts 16 65) (puts 30 66))

first_choice : chosen 3 comes_to finished (65 ∷ []) (pos 65)
first_choice = (grind (arith), refl)

second_choice : chosen 0 comes_to finished (66 ∷ []) (pos 66)
second_choice = (grind (arith), refl)

-- return putchar(65), putchar(66), 7;
comma : gives (tree.comma (head 6 37 int) (tree.more_values (puts 12 65) (one (puts 25 66))) (num 6 39 7)) comes_to finished (65 ∷ 66 ∷ []) (pos 7)
comma = (grind (arith), refl)

-- return putchar(65) - putchar(66);
from_the_left : gives (of_ints 6 24 Subtract (puts 12 65) (puts 26 66)) comes_to finished (65 ∷ 66 ∷ []) (negsuc 0)
from_the_left = (grind (arith), refl)

-- i = 1; return i + (i = 5);
left_before_right : run_of (i_is 1 ∷ return 6 (of_ints 6 14 Add (get 6 12 int 0) (put 6 19 int 0 (num 6 21 5))) ∷ []) comes_to finished [] (pos 6)
left_before_right = (grind (arith), refl)

-- i = 1; i += (i = 5); return i; the old value is read first
read_before_right : run_of (i_is 1 ∷ done_by 5 (tree.update (head 5 7 int) Add kind.Int kind.Int (local 5 5 int 0) (put 5 13 int 0 (num 5 15 5)))
    ∷ return 6 (get 6 12 int 0) ∷ [])
    comes_to finished [] (pos 6)
read_before_right = (grind (arith), refl)

-- a[n]
abbrev item : ℕ → ℕ → RightValue → LeftValue
item line col n = element line col int 4 (decay line 5 (id 13) (local line 5 (id 12) 3)) n

-- i = 0; a[i] = (i = 2); return a[0]; the object is found before the value
object_before_value : run_of (i_is 0 ∷ done_by 5 (assigned 5 10 int (item 5 6 (get 5 7 int 0)) (put 5 15 int 0 (num 5 17 2)))
    ∷ return 6 (loaded 6 13 int (item 6 13 (num 6 14 0))) ∷ [])
    comes_to finished [] (pos 2)
object_before_value = (grind (arith), refl)

-- return i += 1; an undefined slot is read at the operator
undefined_update : gives (tree.update (head 6 14 int) Add kind.Int kind.Int (local 6 12 int 0) (num 6 17 1)) comes_to stopped [] stop.Undefined 6 14
undefined_update = (grind (arith), refl)

-- return m++; and so is an undefined object
undefined_count : gives (counted 6 13 Add (local 6 12 int 2)) comes_to stopped [] stop.Undefined 6 13
undefined_count = (grind (arith), refl)

-- c = 127; c += 1; return c; the sum is converted to char
sum_in_character : run_of (c_is 127 ∷ done_by 5 (tree.update (head 5 7 char) Add kind.Int kind.Char (local 5 5 char 1) (num 5 10 1))
    ∷ return 6 (as_kind 6 5 kind.Int (get 6 12 char 1)) ∷ [])
    comes_to finished [] (negsuc 127)
sum_in_character = (grind (arith), refl)

-- c = 127; return c++ - c; the value is the one before
value_before : run_of (c_is 127 ∷ return 6 (of_ints 6 16 Subtract
    (as_kind 6 16 kind.Int (tree.post_update (head 6 13 char) Add kind.Int kind.Char (local 6 12 char 1))) (as_kind 6 16 kind.Int (get 6 18 char 1))) ∷ [])
    comes_to finished [] (pos 255)
value_before = (grind (arith), refl)

-- m = 5; return m++ * 10 + m; in memory
count_in_memory : run_of (m_is 5 ∷ return 6 (of_ints 6 21 Add
    (of_ints 6 16 Multiply (counted 6 13 Add (local 6 12 int 2)) (num 6 18 10)) (get 6 23 int 2)) ∷ [])
    comes_to finished [] (pos 56)
count_in_memory = (grind (arith), refl)

-- m = 5; m *= 3; &m; return m;
product_in_memory : run_of (m_is 5 ∷ done_by 5 (tree.update (head 5 7 int) Multiply kind.Int kind.Int (local 5 5 int 2) (num 5 10 3))
    ∷ done_by 5 (address 5 13 (id 13) (local 5 14 int 2)) ∷ return 6 (get 6 12 int 2) ∷ [])
    comes_to finished [] (pos 15)
product_in_memory = (grind (arith), refl)

abbrev pointer : ℕ → ℕ → RightValue
pointer line col = get line col (id 13) 4

-- p = a; *p++ = 65; *p = 66; p -= 1; return *p + p[1];
pointer_moves : run_of (done_by 3 (put 3 7 (id 13) 4 (decay 3 9 (id 13) (local 3 9 (id 12) 3)))
    ∷ done_by 4 (assigned 4 10 int (through 4 5 int (tree.post_advance (head 4 7 (id 13)) (forward 4) (local 4 6 (id 13) 4))) (num 4 12 65))
    ∷ done_by 5 (assigned 5 8 int (through 5 5 int (pointer 5 6)) (num 5 10 66))
    ∷ done_by 5 (tree.advance (head 5 7 (id 13)) (record { size = 4; backward = true }) (local 5 5 (id 13) 4) (num 5 10 1))
    ∷ return 6 (of_ints 6 15 Add (loaded 6 12 int (through 6 12 int (pointer 6 13))) (loaded 6 18 int (element 6 18 int 4 (pointer 6 17) (num 6 19 1)))) ∷ [])
    comes_to finished [] (pos 131)
pointer_moves = (grind (arith), refl)

-- return &a[2] - a;
pointer_difference : gives (as_kind 6 5 kind.Int (tree.difference (head 6 18 long) 4 (address 6 12 (id 13) (item 6 14 (num 6 15 2)))
    (decay 6 20 (id 13) (local 6 20 (id 12) 3))))
    comes_to finished [] (pos 2)
pointer_difference = (grind (arith), refl)

-- h = NewHandle(4); return HGetState(h) && 1; a state byte is no condition
state_as_operand : run_of (done_by 4 (put 4 7 char_handle_id 5 (new_handle 4 9 4))
    ∷ return 6 (tree.and (head 6 25 int) (calls 6 12 char 6 (one (get 6 22 char_handle_id 5))) (num 6 28 1)) ∷ [])
    comes_to stopped [] stop.BadByte 6 25
state_as_operand = (grind (arith), refl)

-- a[0] = 65; p = &a[1]; return *(p + (unsigned)-1); the number of a step is taken with a sign, whatever its type is
unsigned_step : run_of (done_by 4 (assigned 4 10 int (item 4 6 (num 4 7 0)) (num 4 12 65))
    ∷ done_by 5 (put 5 7 (id 13) 4 (address 5 9 (id 13) (item 5 11 (num 5 12 1))))
    ∷ return 6 (loaded 6 12 int (through 6 12 int (plus 6 16 (id 13) 4 (pointer 6 14)
    (tree.cast (head 6 18 (id 7)) (as_kind 6 18 kind.UnsignedInt (minus 6 28 (num 6 29 1))))))) ∷ [])
    comes_to finished [] (pos 65)
unsigned_step = (grind (arith), refl)

-- p = (int *)((char *)a + 2); return a - p; half an int, toward 0
half_a_difference : run_of (done_by 5 (put 5 7 (id 13) 4 (tree.cast (head 5 9 (id 13)) (as_pointer 5 9 (id 13)
    (plus 5 26 char_pointer_id 1 (tree.cast (head 5 17 char_pointer_id) (as_pointer 5 17 char_pointer_id (decay 5 25 (id 13) (local 5 25 (id 12) 3))))
    (num 5 28 2)))))
    ∷ return 6 (as_kind 6 5 kind.Int (tree.difference (head 6 14 long) 4 (decay 6 12 (id 13) (local 6 12 (id 12) 3)) (pointer 6 16))) ∷ [])
    comes_to finished [] (pos 0)
half_a_difference = (grind (arith), refl)
