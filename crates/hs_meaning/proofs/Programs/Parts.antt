-- Pointers in memory: through which class they are loaded, zero bytes, and pointers that are put together from parts of two.
use Rattle.std.proofs.Common.{ℕ, pos, List, [], ◌∷◌, ◌++◌, refl, arith}
use Rattle.std.specs.Prelude.{true, codes}
use Rattle.hs_heap.specs.declared.decision.Decision.{Decision}
use Rattle.hs_meaning.proofs.Programs.Forms.{calls, two, as_kind, as_pointer, assigned, plus, taken_variable, address, loaded, through, id, more_types, field}
use Rattle.hs_meaning.proofs.Programs.Forms.{struct_of}
use Rattle.hs_meaning.proofs.Programs.Row.{Run, run, ◌comes_to◌}
use Rattle.hs_meaning.proofs.Programs.Terms.{one, char, int, get, put, num, local, at_pointer, done_by, return, function, variable, program_with, no_input}
use Rattle.hs_meaning.proofs.Programs.Terms.{new_handle, nothing, everything, finished, stopped, head}
use Rattle.hs_meaning.specs.declared.outcome.Stop.TheVariants as stop
use Rattle.hs_tree.specs.Trees.{RightValue, LeftValue, TypedStatement}
use Rattle.hs_tree.specs.Trees as tree
use Rattle.hs_tree.specs.declared.head.VariableDecl.{VariableDecl}
use Rattle.hs_tree.specs.declared.operators.Comparison.TheVariants.{Equal}
use Rattle.hs_types.specs.Layouts.{integer_layout, word_layout}
use Rattle.hs_types.specs.Rows.{integer_id, void_id, char_pointer_id, char_handle_id}
use Rattle.hs_types.specs.TypeTables.{TypeTable}
use Rattle.hs_types.specs.declared.integer.Integer.TheVariants as kind
use Rattle.hs_types.specs.declared.row.FieldId.{FieldId}
use Rattle.hs_types.specs.declared.row.Row.TheVariants as row

-- type 12 is struct S { char c; char *p; }, 13 is struct S *, 14 is int *, 15 is struct Two { char x, y; }, 16 is struct Two *, and 17 is short *
abbrev types : TypeTable
types =
    more_types (row.Struct 0 ∷ row.Pointer (id 12) ∷ row.Pointer int ∷ row.Struct 1 ∷ row.Pointer (id 15)
    ∷ row.Pointer (integer_id kind.Short) ∷ [])
    (struct_of (field (codes "c") char (integer_layout kind.Char) 0 ∷ field (codes "p") char_pointer_id word_layout 2 ∷ [])
    ∷ struct_of (field (codes "x") char (integer_layout kind.Char) 0 ∷ field (codes "y") char (integer_layout kind.Char) 1 ∷ []) ∷ [])

-- struct S s; char d, *q, *a, *b, **h; struct Two t; the program takes the addresses of `s`, `d`, `a`, `b` and `t`
abbrev variables : List VariableDecl
variables =
    taken_variable (codes "s") (id 12) ∷ taken_variable (codes "d") char ∷ variable (codes "q") char_pointer_id
    ∷ taken_variable (codes "a") char_pointer_id ∷ taken_variable (codes "b") char_pointer_id ∷ variable (codes "h") char_handle_id
    ∷ taken_variable (codes "t") (id 15) ∷ []

-- the run of these in `main`, if the program takes the addresses of those fields
abbrev run_of : List FieldId → List TypedStatement → List Decision → Run
run_of taken its schedule = run (record (program_with types [] (function variables its ∷ [])) { taken = taken }) no_input schedule 0

abbrev p_of_s : ℕ → ℕ → LeftValue
p_of_s line col = tree.member (head line col char_pointer_id) (record { of = 0; place = 1 }) 2 (local line 5 (id 12) 0)

-- s.p = &d;
abbrev stored : TypedStatement
stored = done_by 6 (assigned 6 9 char_pointer_id (p_of_s 6 6) (address 6 11 char_pointer_id (local 6 12 char 1)))

-- q = *(char **)((char *)&s + 2);
abbrev by_type : TypedStatement
by_type =
    done_by 7 (put 7 7 char_pointer_id 2 (at_pointer 7 9 char_pointer_id (tree.cast (head 7 10 char_handle_id) (as_pointer 7 10 char_handle_id
    (plus 7 31 char_pointer_id 1 (tree.cast (head 7 20 char_pointer_id) (as_pointer 7 20 char_pointer_id (address 7 28 (id 13) (local 7 29 (id 12) 0))))
    (num 7 33 2))))))

-- return q == &d;
abbrev compares : TypedStatement
compares =
    return 8 (tree.compare_pointers (head 8 14 int) Equal (get 8 12 char_pointer_id 2) (address 8 17 char_pointer_id (local 8 18 char 1)))

-- s.p = &d; q = s.p; return q == &d;
by_field : run_of [] (stored ∷ done_by 7 (put 7 7 char_pointer_id 2 (loaded 7 10 char_pointer_id (p_of_s 7 10))) ∷ compares ∷ []) []
    comes_to finished [] (pos 1)
by_field = (grind (arith), refl)

-- s.p = &d; q = *(char **)((char *)&s + 2); the field has a class of its own
by_another_class : run_of [] (stored ∷ by_type ∷ compares ∷ []) [] comes_to stopped [] stop.BadLoad 7 9
by_another_class = (grind (arith), refl)

-- the same in a program with &s.p; somewhere: the class of the field is that of its type
by_the_same_class : run_of (record { of = 0; place = 1 } ∷ []) (done_by 5 (address 5 5 char_handle_id (p_of_s 5 7)) ∷ stored ∷ by_type ∷ compares ∷ []) []
    comes_to finished [] (pos 1)
by_the_same_class = (grind (arith), refl)

abbrev first : ℕ → ℕ → LeftValue
first line col = local line col char_pointer_id 3

abbrev second : ℕ → ℕ → LeftValue
second line col = local line col char_pointer_id 4

-- return b == 0; with its `b` in column 12
abbrev tests : TypedStatement
tests = return 12 (tree.is_nil (head 12 14 int) true (loaded 12 12 char_pointer_id (second 12 12)))

-- *(int *)&b = n;
abbrev number_in_b : ℕ → TypedStatement
number_in_b n =
    done_by 11 (assigned 11 16 int (through 11 5 int (tree.cast (head 11 6 (id 14)) (as_pointer 11 6 (id 14) (address 11 13 char_handle_id (second 11 14)))))
    (num 11 18 n))

-- *(int *)&b = 0; return b == 0;
zero_bytes : run_of [] (number_in_b 0 ∷ tests ∷ []) [] comes_to finished [] (pos 1)
zero_bytes = (grind (arith), refl)

-- *(int *)&b = 1; return b == 0;
other_bytes : run_of [] (number_in_b 1 ∷ tests ∷ []) [] comes_to stopped [] stop.BadLoad 12 12
other_bytes = (grind (arith), refl)

-- (struct Two *)&v
abbrev two_of : ℕ → ℕ → LeftValue → RightValue
two_of line col object = tree.cast (head line col (id 16)) (as_pointer line col (id 16) (address line col char_handle_id object))

-- *(struct Two *)&b = *(struct Two *)&a; the first two cells
abbrev half_copied : TypedStatement
half_copied =
    done_by 11 (assigned 11 23 (id 15) (through 11 5 (id 15) (two_of 11 6 (second 11 21))) (at_pointer 11 25 (id 15) (two_of 11 26 (first 11 41))))

-- a = &d; b = &d + 1; .. return b == 0;
parts_of_two : run_of [] (done_by 9 (assigned 9 7 char_pointer_id (first 9 5) (address 9 9 char_pointer_id (local 9 10 char 1)))
    ∷ done_by 10 (assigned 10 7 char_pointer_id (second 10 5) (plus 10 12 char_pointer_id 1 (address 10 9 char_pointer_id (local 10 10 char 1)) (num 10 14 1)))
    ∷ half_copied ∷ tests ∷ []) []
    comes_to stopped [] stop.BadLoad 12 12
parts_of_two = (grind (arith), refl)

abbrev handle : ℕ → ℕ → RightValue
handle line col = get line col char_handle_id 5

-- h = NewHandle(4); **h = 65; a = *h; NewHandle(4); b = *h; and the copy
abbrev merged : List TypedStatement
merged =
    done_by 6 (put 6 7 char_handle_id 5 (new_handle 6 9 4))
    ∷ done_by 7 (assigned 7 9 char (through 7 5 char (at_pointer 7 6 char_pointer_id (handle 7 7))) (as_kind 7 9 kind.Char (num 7 11 65)))
    ∷ done_by 8 (assigned 8 7 char_pointer_id (first 8 5) (at_pointer 8 9 char_pointer_id (handle 8 10)))
    ∷ done_by 9 (new_handle 9 5 4)
    ∷ done_by 10 (assigned 10 7 char_pointer_id (second 10 5) (at_pointer 10 9 char_pointer_id (handle 10 10)))
    ∷ half_copied ∷ []

merged_still : run_of [] (merged ++ tests ∷ []) [] comes_to finished [] (pos 0)
merged_still = (grind (arith), refl)

-- the two pointers differ in the epoch alone, so the test ends as on the still heap
merged_moving : run_of [] (merged ++ tests ∷ []) (nothing ∷ everything ∷ []) comes_to finished [] (pos 0)
merged_moving = (grind (arith), refl)

-- .. return *b;
abbrev reads : TypedStatement
reads = return 12 (as_kind 12 5 kind.Int (at_pointer 12 12 char (loaded 12 13 char_pointer_id (second 12 13))))

reads_still : run_of [] (merged ++ reads ∷ []) [] comes_to finished [] (pos 65)
reads_still = (grind (arith), refl)

-- they are the older of the two
reads_moving : run_of [] (merged ++ reads ∷ []) (nothing ∷ everything ∷ []) comes_to stopped [] stop.Stale 12 12
reads_moving = (grind (arith), refl)

-- a = &d; .. return b == 0; the last two cells of `b` have no value, which is tested first
undefined_parts : run_of []
    (done_by 9 (assigned 9 7 char_pointer_id (first 9 5) (address 9 9 char_pointer_id (local 9 10 char 1))) ∷ half_copied ∷ tests ∷ []) []
    comes_to stopped [] stop.Undefined 12 12
undefined_parts = (grind (arith), refl)

-- a field of `t`, with its `.` in that column
abbrev field_of_t : ℕ → ℕ → ℕ → LeftValue
field_of_t line col place = tree.member (head line col char) (record { of = 1; place = place }) place (local line 5 (id 15) 6)

-- h = NewHandle(4); t.x = HGetState(h); t.y = 1;
abbrev state_and_byte : List TypedStatement
state_and_byte =
    done_by 6 (put 6 7 char_handle_id 5 (new_handle 6 9 4))
    ∷ done_by 7 (assigned 7 9 char (field_of_t 7 6 0) (calls 7 11 char 6 (one (handle 7 21))))
    ∷ done_by 8 (assigned 8 9 char (field_of_t 8 6 1) (as_kind 8 9 kind.Char (num 8 11 1))) ∷ []

-- .. return *(short *)&t; two cells of which one is a state byte
short_of_state : run_of [] (state_and_byte ++ return 9 (as_kind 9 5 kind.Int (at_pointer 9 12 (integer_id kind.Short)
    (tree.cast (head 9 13 (id 17)) (as_pointer 9 13 (id 17) (address 9 22 (id 16) (local 9 23 (id 15) 6)))))) ∷ []) []
    comes_to stopped [] stop.BadLoad 9 12
short_of_state = (grind (arith), refl)

-- .. HSetState(h, t.x); return t.y; each of them
each_of_two : run_of [] (state_and_byte ++ done_by 9 (calls 9 5 void_id 7 (two (handle 9 15) (loaded 9 19 char (field_of_t 9 19 0))))
    ∷ return 10 (as_kind 10 5 kind.Int (loaded 10 13 char (field_of_t 10 13 1))) ∷ []) []
    comes_to finished [] (pos 1)
each_of_two = (grind (arith), refl)
