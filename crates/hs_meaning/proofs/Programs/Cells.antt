-- What cells hold after a store: numbers, state bytes, and the parts of pointers.
use Rattle.std.proofs.Common.{ℕ, pos, negsuc, List, [], ◌∷◌, ◌++◌, refl, arith}
use Rattle.std.specs.Prelude.{true, codes}
use Rattle.hs_heap.specs.declared.decision.Decision.{Decision}
use Rattle.hs_meaning.proofs.Programs.Forms.{address, as_kind, as_pointer, assigned, calls, field, id, minus, more_types, plus, struct_of, taken_variable}
use Rattle.hs_meaning.proofs.Programs.Forms.{through, two}
use Rattle.hs_meaning.proofs.Programs.Frame.{variables, made, written, printed}
use Rattle.hs_meaning.proofs.Programs.Row.{Run, run, ◌comes_to◌}
use Rattle.hs_meaning.proofs.Programs.Terms.{at_pointer, char, done_by, everything, finished, function, get, head, int, local, lock, long_num, no_input, num}
use Rattle.hs_meaning.proofs.Programs.Terms.{nothing, one, program_with, put, return, stopped, unlock}
use Rattle.hs_meaning.specs.declared.outcome.Stop.TheVariants as stop
use Rattle.hs_tree.specs.Trees.{RightValue, LeftValue, TypedStatement}
use Rattle.hs_tree.specs.Trees as tree
use Rattle.hs_tree.specs.declared.head.VariableDecl.{VariableDecl}
use Rattle.hs_types.specs.Layouts.{integer_layout}
use Rattle.hs_types.specs.Rows.{integer_id, void_id, char_pointer_id, char_handle_id}
use Rattle.hs_types.specs.TypeTables.{TypeTable}
use Rattle.hs_types.specs.declared.integer.Integer.TheVariants as kind
use Rattle.hs_types.specs.declared.row.Row.TheVariants as row
use Rattle.hs_types.specs.declared.row.TypeId.{TypeId}

abbrev short : TypeId
short = integer_id kind.Short

-- type 12 is struct Two { char x, y; }, 13 is struct Two *, 14 is int *, and 15 is short *
abbrev types : TypeTable
types =
    more_types (row.Struct 0 ∷ row.Pointer (id 12) ∷ row.Pointer int ∷ row.Pointer short ∷ [])
    (struct_of (field (codes "x") char (integer_layout kind.Char) 0 ∷ field (codes "y") char (integer_layout kind.Char) 1 ∷ []) ∷ [])

-- char **h, **g, *p, c, *a, *b; short s; int n; unsigned char u; the program takes the addresses of `c`, `a`, `b`, `s`, `n` and `u`
abbrev all_variables : List VariableDecl
all_variables =
    variables ++ taken_variable (codes "c") char ∷ taken_variable (codes "a") char_pointer_id ∷ taken_variable (codes "b") char_pointer_id
    ∷ taken_variable (codes "s") short ∷ taken_variable (codes "n") int ∷ taken_variable (codes "u") (integer_id kind.UnsignedChar) ∷ []

abbrev run_of : List TypedStatement → List Decision → Run
run_of its schedule = run (program_with types [] (function all_variables its ∷ [])) no_input schedule 0

-- ---- numbers

-- c = -1; return c; the sign of a byte in memory
negative_character : run_of (done_by 6 (put 6 7 char 3 (as_kind 6 7 kind.Char (minus 6 9 (num 6 10 1))))
    ∷ return 7 (as_kind 7 5 kind.Int (get 7 12 char 3)) ∷ [])
    [] comes_to finished [] (negsuc 0)
negative_character = (grind (arith), refl)

-- u = -1; return u; and of one without a sign
unsigned_character : run_of (done_by 6 (put 6 7 (integer_id kind.UnsignedChar) 8 (as_kind 6 7 kind.UnsignedChar (minus 6 9 (num 6 10 1))))
    ∷ return 7 (as_kind 7 5 kind.Int (get 7 12 (integer_id kind.UnsignedChar) 8)) ∷ [])
    [] comes_to finished [] (pos 255)
unsigned_character = (grind (arith), refl)

-- s = -2; return s;
negative_short : run_of (done_by 6 (put 6 7 short 6 (as_kind 6 7 kind.Short (minus 6 9 (num 6 10 2))))
    ∷ return 7 (as_kind 7 5 kind.Int (get 7 12 short 6)) ∷ [])
    [] comes_to finished [] (negsuc 1)
negative_short = (grind (arith), refl)

-- n = 305419896; return *(char *)&n; the number is 0x12345678, and its first byte is the highest
highest_byte : run_of (done_by 6 (put 6 7 int 7 (num 6 9 305419896)) ∷ return 7 (as_kind 7 5 kind.Int (at_pointer 7 12 char
    (tree.cast (head 7 13 char_pointer_id) (as_pointer 7 13 char_pointer_id (address 7 21 (id 14) (local 7 22 int 7)))))) ∷ [])
    [] comes_to finished [] (pos 18)
highest_byte = (grind (arith), refl)

-- ---- state bytes

abbrev handle : ℕ → ℕ → RightValue
handle line col = get line col char_handle_id 0

-- HGetState(h)
abbrev state : ℕ → ℕ → RightValue
state line col = calls line col char 6 (one (handle line 24))

-- h = NewHandle(4); HLock(h); c = HGetState(h); HUnlock(h); HSetState(h, c); .. g = NewHandle(4); putchar(*p); return 0; the lock is kept in memory
state_in_memory : run_of (made ∷ done_by 6 (lock 6 (handle 6 11)) ∷ done_by 7 (put 7 7 char 3 (state 7 9)) ∷ done_by 7 (unlock 7 (handle 7 13))
    ∷ done_by 8 (calls 8 5 void_id 7 (two (handle 8 15) (get 8 18 char 3))) ∷ written ++ printed) (everything ∷ everything ∷ [])
    comes_to finished (65 ∷ []) (pos 0)
state_in_memory = (grind (arith), refl)

-- s = HGetState(h); an object of two bytes does not take it
state_in_short : run_of (made ∷ done_by 7 (put 7 7 short 6 (as_kind 7 7 kind.Short (state 7 9))) ∷ []) [] comes_to stopped [] stop.BadByte 7 7
state_in_short = (grind (arith), refl)

-- ---- parts of pointers

abbrev first : ℕ → ℕ → LeftValue
first line col = local line col char_pointer_id 4

abbrev second : ℕ → ℕ → LeftValue
second line col = local line col char_pointer_id 5

abbrev address_of_c : ℕ → RightValue
address_of_c line = address line 9 char_pointer_id (local line 10 char 3)

-- (struct Two *)e
abbrev two_at : ℕ → ℕ → RightValue → RightValue
two_at line col e = tree.cast (head line col (id 13)) (as_pointer line col (id 13) e)

-- *(struct Two *)e = *(struct Two *)&a;
abbrev copies_to : RightValue → TypedStatement
copies_to e =
    done_by 11 (assigned 11 23 (id 12) (through 11 5 (id 12) (two_at 11 6 e))
    (at_pointer 11 25 (id 12) (two_at 11 26 (address 11 40 char_handle_id (first 11 41)))))

-- return b == 0; with its `b` in column 12
abbrev tests : TypedStatement
tests = return 12 (tree.is_nil (head 12 14 int) true (tree.load (head 12 12 char_pointer_id) (second 12 12)))

-- a = &c; b = &c; *(struct Two *)((char *)&b + 2) = *(struct Two *)&a; return b == 0; parts 0 and 1 where parts 2 and 3 belong
parts_out_of_order : run_of (done_by 9 (assigned 9 7 char_pointer_id (first 9 5) (address_of_c 9))
    ∷ done_by 10 (assigned 10 7 char_pointer_id (second 10 5) (address_of_c 10))
    ∷ copies_to (plus 11 35 char_pointer_id 1 (tree.cast (head 11 24 char_pointer_id)
    (as_pointer 11 24 char_pointer_id (address 11 32 char_handle_id (second 11 33)))) (num 11 37 2)) ∷ tests ∷ []) []
    comes_to stopped [] stop.BadLoad 12 12
parts_out_of_order = (grind (arith), refl)

-- a = *h;
abbrev reads_to : ℕ → LeftValue → TypedStatement
reads_to line object = done_by line (assigned line 7 char_pointer_id object (at_pointer line 9 char_pointer_id (handle line 10)))

-- h = NewHandle(4); a = *h; ReallocateHandle(h, 4); b = *h; *(struct Two *)&b = *(struct Two *)&a; return b == 0; pointers of two lives
parts_of_two_lives : run_of (made ∷ reads_to 8 (first 8 5) ∷ done_by 9 (calls 9 5 void_id 12 (two (handle 9 22) (long_num 9 25 4)))
    ∷ reads_to 10 (second 10 5)
    ∷ copies_to (address 11 20 char_handle_id (second 11 21)) ∷ tests ∷ []) []
    comes_to stopped [] stop.BadLoad 12 12
parts_of_two_lives = (grind (arith), refl)

-- h = NewHandle(4); **h = 65; b = *h; g = NewHandle(4); a = *h; and the same copy; return *b; its last two parts are older
older_parts_behind : run_of (made
    ∷ done_by 7 (assigned 7 9 char (through 7 5 char (at_pointer 7 6 char_pointer_id (handle 7 7))) (as_kind 7 9 kind.Char (num 7 11 65)))
    ∷ reads_to 8 (second 8 5) ∷ done_by 9 (put 9 7 char_handle_id 1 (calls 9 9 char_handle_id 0 (one (long_num 9 19 4)))) ∷ reads_to 10 (first 10 5)
    ∷ copies_to (address 11 20 char_handle_id (second 11 21))
    ∷ return 12 (as_kind 12 5 kind.Int (at_pointer 12 12 char (tree.load (head 12 13 char_pointer_id) (second 12 13)))) ∷ []) (nothing ∷ everything ∷ [])
    comes_to stopped [] stop.Stale 12 12
older_parts_behind = (grind (arith), refl)
