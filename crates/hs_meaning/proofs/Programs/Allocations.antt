-- The numbers of allocations, and room for objects and blocks.
use Rattle.std.proofs.Common.{ℕ, pos, List, [], ◌∷◌, ◌++◌, refl, arith}
use Rattle.std.specs.Prelude.{true, false, codes}
use Rattle.hs_meaning.proofs.Programs.Forms.{as_kind, calls, decay, id, minus, more_types, plain_routine, two, with_routine}
use Rattle.hs_meaning.proofs.Programs.Row.{Run, run, ◌comes_to◌}
use Rattle.hs_meaning.proofs.Programs.Terms.{char, done_by, finished, function, get, global, head, int, long, long_num, new_handle, no_input, num, one, program}
use Rattle.hs_meaning.proofs.Programs.Terms.{program_with, put, return, stopped, variable}
use Rattle.hs_meaning.specs.declared.outcome.Stop.TheVariants as stop
use Rattle.hs_tree.specs.Trees.{RightValue, TypedStatement}
use Rattle.hs_tree.specs.Trees as tree
use Rattle.hs_types.specs.Rows.{void_id, char_pointer_id, char_handle_id}
use Rattle.hs_types.specs.declared.integer.Integer.TheVariants as kind
use Rattle.hs_types.specs.declared.row.Row.TheVariants as row
use Rattle.hs_types.specs.declared.row.TypeId.{TypeId}

-- char **h, *p; and these in `main`, if those allocations are refused
abbrev refuses : List TypedStatement → List ℕ → Run
refuses its refused =
    run (program (variable (codes "h") char_handle_id ∷ variable (codes "p") char_pointer_id ∷ []) its)
    (record { bytes = []; words = []; refused = refused }) [] 0

abbrev handle : ℕ → ℕ → RightValue
handle line col = get line col char_handle_id 0

-- h = NewHandle(4);
abbrev made : ℕ → TypedStatement
made line = done_by line (put line 7 char_handle_id 0 (new_handle line 9 4))

-- SetHandleSize(h, n); and ReallocateHandle(h, n);
abbrev resizes : ℕ → RightValue → TypedStatement
resizes line n = done_by line (calls line 5 void_id 10 (two (handle line 19) n))

abbrev reallocates : ℕ → RightValue → TypedStatement
reallocates line n = done_by line (calls line 5 void_id 12 (two (handle line 22) n))

-- NewPtr(n)
abbrev new_pointer : ℕ → ℕ → ℕ → RightValue
new_pointer line col n = calls line col char_pointer_id 13 (one (long_num line col n))

-- return GetHandleSize(h); return h == 0; return NewPtr(n) == 0;
abbrev sized : TypedStatement
sized = return 12 (as_kind 12 5 kind.Int (calls 12 12 long 9 (one (handle 12 26))))

abbrev tests : TypedStatement
tests = return 12 (tree.is_nil (head 12 14 int) true (handle 12 12))

abbrev tests_new : ℕ → TypedStatement
tests_new n = return 12 (tree.is_nil (head 12 22 int) true (new_pointer 12 12 n))

-- h = NewHandle(4); SetHandleSize(h, 9); SetHandleSize(h, 7); return GetHandleSize(h); a refusal takes its number
refused_once : refuses (made 6 ∷ resizes 7 (long_num 7 22 9) ∷ resizes 8 (long_num 8 22 7) ∷ sized ∷ []) (2 ∷ []) comes_to finished [] (pos 7)
refused_once = (grind (arith), refl)

-- NewHandle(4); h = NewHandle(4); return h == 0; if the first one is refused
next_handle : refuses (done_by 6 (new_handle 6 5 4) ∷ made 7 ∷ tests ∷ []) (1 ∷ []) comes_to finished [] (pos 0)
next_handle = (grind (arith), refl)

-- NewPtr(3); return NewPtr(3) == 0; each takes a number
second_object : refuses (done_by 6 (new_pointer 6 5 3) ∷ tests_new 3 ∷ []) (2 ∷ []) comes_to finished [] (pos 1)
second_object = (grind (arith), refl)

next_object : refuses (done_by 6 (new_pointer 6 5 3) ∷ tests_new 3 ∷ []) (1 ∷ []) comes_to finished [] (pos 0)
next_object = (grind (arith), refl)

-- h = NewHandle(4); ReallocateHandle(h, 9); return GetHandleSize(h);
reallocation : refuses (made 6 ∷ reallocates 7 (long_num 7 25 9) ∷ sized ∷ []) [] comes_to finished [] (pos 9)
reallocation = (grind (arith), refl)

refused_reallocation : refuses (made 6 ∷ reallocates 7 (long_num 7 25 9) ∷ sized ∷ []) (2 ∷ []) comes_to finished [] (pos 4)
refused_reallocation = (grind (arith), refl)

-- h = NewHandle(4); ReallocateHandle(h, 9); SetHandleSize(h, 7); return GetHandleSize(h); it takes the second number
reallocation_takes_a_number : refuses (made 6 ∷ reallocates 7 (long_num 7 25 9) ∷ resizes 8 (long_num 8 22 7) ∷ sized ∷ []) (3 ∷ [])
    comes_to finished [] (pos 9)
reallocation_takes_a_number = (grind (arith), refl)

-- h = NewHandle(4); ReallocateHandle(h, -1); return GetHandleSize(h);
negative_reallocation : refuses (made 6 ∷ reallocates 7 (as_kind 7 25 kind.Long (minus 7 25 (num 7 26 1))) ∷ sized ∷ []) [] comes_to finished [] (pos 4)
negative_reallocation = (grind (arith), refl)

-- ---- room: 16777216 bytes of objects that routines made

-- return NewPtr(16777216) == 0;
all_the_room : refuses (tests_new 16777216 ∷ []) [] comes_to finished [] (pos 0)
all_the_room = (grind (arith), refl)

-- NewPtr(3); return NewPtr(n) == 0; with what is left, and with a byte more
the_rest : refuses (done_by 6 (new_pointer 6 5 3) ∷ tests_new 16777213 ∷ []) [] comes_to finished [] (pos 0)
the_rest = (grind (arith), refl)

a_byte_more : refuses (done_by 6 (new_pointer 6 5 3) ∷ tests_new 16777214 ∷ []) [] comes_to finished [] (pos 1)
a_byte_more = (grind (arith), refl)

-- p = NewPtr(3); DisposPtr(p); return NewPtr(16777216) == 0; the bytes are given back
given_back : refuses (done_by 6 (put 6 7 char_pointer_id 1 (new_pointer 6 9 3))
    ∷ done_by 7 (calls 7 5 void_id 14 (one (get 7 15 char_pointer_id 1))) ∷ tests_new 16777216 ∷ []) []
    comes_to finished [] (pos 0)
given_back = (grind (arith), refl)

-- char g[4], a[4]; and the literal "AB"; return NewPtr(16777216) == 0; variables and literals take none of it
abbrev with_objects : List TypedStatement → Run
with_objects its =
    run (record (program_with (more_types (row.Array char 4 (record { size = 4; even = true; characters = true })
    ∷ row.Array char 3 (record { size = 3; even = true; characters = true }) ∷ []) [])
    (record { variable = variable (codes "g") (id 12); size = 4; parts = [] } ∷ []) (function (variable (codes "a") (id 12) ∷ []) its ∷ []))
    { literals = (65 ∷ 66 ∷ 0 ∷ []) ∷ [] }) no_input [] 0

beside_variables : with_objects (tests_new 16777216 ∷ []) comes_to finished [] (pos 0)
beside_variables = (grind (arith), refl)

-- DisposPtr(e);
abbrev disposes : RightValue → TypedStatement
disposes e = done_by 6 (calls 6 5 void_id 14 (one e))

-- DisposPtr(g);
dispose_of_global : with_objects (disposes (decay 6 15 char_pointer_id (global 6 15 (id 12) 0)) ∷ []) comes_to stopped [] stop.BadPointer 6 5
dispose_of_global = (grind (arith), refl)

-- DisposPtr("AB");
dispose_of_literal : with_objects (disposes (decay 6 15 char_pointer_id (tree.literal (head 6 15 (id 13)) 0)) ∷ [])
    comes_to stopped [] stop.BadPointer 6 5
dispose_of_literal = (grind (arith), refl)

-- ---- what plain routines make has the same room: char *Ask(void) and char **Ask(void), where the table says so many bytes

abbrev asks : ℕ → TypeId → Run
asks size result =
    run (with_routine (plain_routine (codes "Ask") false 0 size result [])
    (program [] (return 6 (tree.is_nil (head 6 18 int) true (calls 6 12 result 16 tree.no_values)) ∷ [])))
    (record { bytes = []; words = 9 ∷ []; refused = [] }) [] 0

large_object : asks 16777216 char_pointer_id comes_to finished (codes "Ask" ++ 10 ∷ []) (pos 0)
large_object = (grind (arith), refl)

too_large_object : asks 16777217 char_pointer_id comes_to finished (codes "Ask" ++ 10 ∷ []) (pos 1)
too_large_object = (grind (arith), refl)

large_block : asks 16777216 char_handle_id comes_to finished (codes "Ask" ++ 10 ∷ []) (pos 0)
large_block = (grind (arith), refl)

too_large_block : asks 16777217 char_handle_id comes_to finished (codes "Ask" ++ 10 ∷ []) (pos 1)
too_large_block = (grind (arith), refl)
