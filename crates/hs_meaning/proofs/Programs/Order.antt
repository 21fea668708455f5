-- In which order an operation is tested for its stops, where two of them apply; and stops of roles that other rows do not have.
use Rattle.std.proofs.Common.{ℕ, pos, List, [], ◌∷◌, ◌++◌, refl, arith}
use Rattle.std.specs.Prelude.{true, codes}
use Rattle.hs_meaning.proofs.Programs.Forms.{address, as_kind, as_pointer, assigned, calls, compared, id, minus, more_types, nil, of_ints, plus, taken_variable}
use Rattle.hs_meaning.proofs.Programs.Forms.{three, through, two}
use Rattle.hs_meaning.proofs.Programs.Frame.{variables, made, written}
use Rattle.hs_meaning.proofs.Programs.Row.{Run, run, ◌comes_to◌}
use Rattle.hs_meaning.proofs.Programs.Terms.{at_pointer, char, done_by, finished, function, get, head, int, local, long_num, no_input, num, one}
use Rattle.hs_meaning.proofs.Programs.Terms.{program_with, put, return, stopped, variable}
use Rattle.hs_meaning.specs.declared.outcome.Stop.TheVariants as stop
use Rattle.hs_tree.specs.Trees.{RightValue, TypedStatement}
use Rattle.hs_tree.specs.Trees as tree
use Rattle.hs_tree.specs.declared.head.VariableDecl.{VariableDecl}
use Rattle.hs_tree.specs.declared.operators.Arithmetic.TheVariants.{Add, Divide}
use Rattle.hs_tree.specs.declared.operators.Comparison.TheVariants.{Equal}
use Rattle.hs_types.specs.Rows.{void_id, char_pointer_id, char_handle_id}
use Rattle.hs_types.specs.TypeTables.{TypeTable}
use Rattle.hs_types.specs.declared.integer.Integer.TheVariants as kind
use Rattle.hs_types.specs.declared.row.Row.TheVariants as row

-- type 12 is int *
abbrev types : TypeTable
types = more_types (row.Pointer int ∷ []) []

-- char **h, **g, *p, s, c; the program takes the address of `c`
abbrev all_variables : List VariableDecl
all_variables = variables ++ variable (codes "s") char ∷ taken_variable (codes "c") char ∷ []

abbrev handle : ℕ → ℕ → RightValue
handle line col = get line col char_handle_id 0

-- h = NewHandle(4); **h = 65; p = *h; s = HGetState(h); and then these
abbrev run_of : List TypedStatement → Run
run_of its =
    run (program_with types [] (function all_variables (made ∷ written
    ++ done_by 9 (put 9 7 char 3 (calls 9 9 char 6 (one (handle 9 19)))) ∷ its) ∷ [])) no_input [] 0

abbrev pointer : ℕ → ℕ → RightValue
pointer line col = get line col char_pointer_id 2

-- the state byte, as an int and as a long
abbrev state : ℕ → ℕ → RightValue
state line col = as_kind line 5 kind.Int (get line col char 3)

abbrev long_state : ℕ → ℕ → RightValue
long_state line col = as_kind line 5 kind.Long (get line col char 3)

-- of `h` alone, by the number of the routine
abbrev on_handle : ℕ → ℕ → TypedStatement
on_handle line place = done_by line (calls line 5 void_id place (one (handle line 15)))

-- ---- state bytes

-- *(int *)0 = s; the byte that does not fit is tested before the pointer
byte_before_nil : run_of (done_by 10 (assigned 10 15 int (through 10 5 int (nil 10 6 (id 12))) (state 10 17)) ∷ []) comes_to stopped [] stop.BadByte 10 15
byte_before_nil = (grind (arith), refl)

-- DisposeHandle(h); SetHandleSize(h, s); and before the block
byte_before_disposed : run_of (on_handle 10 8 ∷ done_by 11 (calls 11 5 void_id 10 (two (handle 11 19) (long_state 11 22))) ∷ [])
    comes_to stopped [] stop.BadByte 11 5
byte_before_disposed = (grind (arith), refl)

-- DisposeHandle(h); ReallocateHandle(h, s);
byte_of_reallocation : run_of (on_handle 10 8 ∷ done_by 11 (calls 11 5 void_id 12 (two (handle 11 22) (long_state 11 25))) ∷ [])
    comes_to stopped [] stop.BadByte 11 5
byte_of_reallocation = (grind (arith), refl)

-- NewPtr(s);
byte_of_object : run_of (done_by 10 (calls 10 5 char_pointer_id 13 (one (long_state 10 12))) ∷ []) comes_to stopped [] stop.BadByte 10 5
byte_of_object = (grind (arith), refl)

-- return s == 0;
compared_state : run_of (return 10 (compared 10 14 Equal (state 10 12) (num 10 17 0)) ∷ []) comes_to stopped [] stop.BadByte 10 14
compared_state = (grind (arith), refl)

-- return 0 == s;
state_on_the_right : run_of (return 10 (compared 10 14 Equal (num 10 12 0) (state 10 17)) ∷ []) comes_to stopped [] stop.BadByte 10 14
state_on_the_right = (grind (arith), refl)

-- return 1 + s;
sum_with_state : run_of (return 10 (of_ints 10 14 Add (num 10 12 1) (state 10 16)) ∷ []) comes_to stopped [] stop.BadByte 10 14
sum_with_state = (grind (arith), refl)

-- return s / 0; the byte is tested before the divisor
byte_before_divisor : run_of (return 10 (of_ints 10 14 Divide (state 10 12) (num 10 16 0)) ∷ []) comes_to stopped [] stop.BadByte 10 14
byte_before_divisor = (grind (arith), refl)

-- return -s;
negated_state : run_of (return 10 (minus 10 12 (state 10 13)) ∷ []) comes_to stopped [] stop.BadByte 10 12
negated_state = (grind (arith), refl)

-- HLock(h); HSetState(h, HGetState(0)); ReallocateHandle(h, 9); return GetHandleSize(h); the state byte of NIL has no bits
state_of_nil : run_of (on_handle 10 1 ∷ done_by 11 (calls 11 5 void_id 7 (two (handle 11 15) (calls 11 18 char 6 (one (nil 11 18 char_handle_id)))))
    ∷ done_by 12 (calls 12 5 void_id 12 (two (handle 12 22) (long_num 12 25 9)))
    ∷ return 13 (as_kind 13 5 kind.Int (calls 13 12 (id 8) 9 (one (handle 13 26)))) ∷ [])
    comes_to finished [] (pos 9)
state_of_nil = (grind (arith), refl)

-- ---- BlockMove and DisposPtr

-- BlockMove(from, to, n);
abbrev moves : ℕ → RightValue → RightValue → RightValue → TypedStatement
moves line from to n = done_by line (calls line 5 void_id 15 (three from to n))

abbrev as_bytes : ℕ → RightValue
as_bytes line = as_pointer line 5 char_pointer_id (handle line 15)

-- BlockMove(h, p, s); the byte comes before the handle
byte_before_handle : run_of (moves 10 (as_bytes 10) (pointer 10 18) (long_state 10 21) ∷ []) comes_to stopped [] stop.BadByte 10 5
byte_before_handle = (grind (arith), refl)

-- BlockMove(p, h, 1); neither of the two may be a handle
move_to_handle : run_of (moves 10 (pointer 10 15) (as_bytes 10) (long_num 10 21 1) ∷ []) comes_to stopped [] stop.BadPointer 10 5
move_to_handle = (grind (arith), refl)

-- EmptyHandle(h); BlockMove(p, 0, 1); the first pointer comes before the second
first_before_second : run_of (on_handle 10 11 ∷ moves 11 (pointer 11 15) (nil 11 5 char_pointer_id) (long_num 11 21 1) ∷ [])
    comes_to stopped [] stop.Old 11 5
first_before_second = (grind (arith), refl)

-- p + n
abbrev further : ℕ → ℕ → RightValue
further line n = plus line 17 char_pointer_id 1 (pointer line 15) (num line 19 n)

-- BlockMove(p + 4, p, 0); return 7; no bytes lie at the end of the block
no_bytes_at_the_end : run_of (moves 10 (further 10 4) (pointer 10 22) (long_num 10 25 0) ∷ return 11 (num 11 12 7) ∷ []) comes_to finished [] (pos 7)
no_bytes_at_the_end = (grind (arith), refl)

-- BlockMove(p + 5, p, 0); but not past its end
no_bytes_past_the_end : run_of (moves 10 (further 10 5) (pointer 10 22) (long_num 10 25 0) ∷ []) comes_to stopped [] stop.Range 10 5
no_bytes_past_the_end = (grind (arith), refl)

-- BlockMove(&c + 2, p, 0); nor of an object
no_bytes_past_an_object : run_of (moves 10 (plus 10 18 char_pointer_id 1 (address 10 15 char_pointer_id (local 10 16 char 4)) (num 10 20 2)) (pointer 10 23)
    (long_num 10 26 0) ∷ [])
    comes_to stopped [] stop.Range 10 5
no_bytes_past_an_object = (grind (arith), refl)

-- DisposPtr(h);
dispose_of_handle : run_of (done_by 10 (calls 10 5 void_id 14 (one (as_bytes 10))) ∷ []) comes_to stopped [] stop.BadPointer 10 5
dispose_of_handle = (grind (arith), refl)

-- ---- how far pointers go

-- p = e + n; p = e - n;
abbrev goes : ℕ → RightValue → ℕ → TypedStatement
goes line e n = done_by line (put line 7 char_pointer_id 2 (plus line 11 char_pointer_id 1 e (num line 13 n)))

abbrev returns : ℕ → RightValue → ℕ → TypedStatement
returns line e n =
    done_by line (put line 7 char_pointer_id 2 (tree.step (head line 11 char_pointer_id) (record { size = 1; backward = true }) true e (num line 13 n)))

-- p = p + 2147483647; p = p + 1; of a block
too_far_from_a_block : run_of (goes 10 (pointer 10 9) 2147483647 ∷ goes 11 (pointer 11 9) 1 ∷ []) comes_to stopped [] stop.BadPointer 11 11
too_far_from_a_block = (grind (arith), refl)

-- p = p - 2147483647; p = p - 1;
too_far_in_front : run_of (returns 10 (pointer 10 9) 2147483647 ∷ returns 11 (pointer 11 9) 1 ∷ []) comes_to stopped [] stop.BadPointer 11 11
too_far_in_front = (grind (arith), refl)

-- p = p - 2147483647; p = p + 2147483647; return *p; and back
far_and_back : run_of (returns 10 (pointer 10 9) 2147483647 ∷ goes 11 (pointer 11 9) 2147483647
    ∷ return 12 (as_kind 12 5 kind.Int (at_pointer 12 12 char (pointer 12 13))) ∷ [])
    comes_to finished [] (pos 65)
far_and_back = (grind (arith), refl)
