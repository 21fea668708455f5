-- Objects of NewPtr, and BlockMove.
use Rattle.std.proofs.Common.{ℕ, pos, List, [], ◌∷◌, ◌++◌, refl, arith}
use Rattle.std.specs.Prelude.{codes}
use Rattle.hs_heap.specs.declared.decision.Decision.{Decision}
use Rattle.hs_meaning.proofs.Programs.Forms.{as_kind, as_pointer, assigned, calls, three, minus, nil, plus, element, loaded}
use Rattle.hs_meaning.proofs.Programs.Row.{Run, run, ◌comes_to◌}
use Rattle.hs_meaning.proofs.Programs.Terms.{char, get, put, num, one, long_num, at_pointer, done_by, return, putchar, new_handle, variable, program}
use Rattle.hs_meaning.proofs.Programs.Terms.{no_input, everything, nothing, finished, stopped}
use Rattle.hs_meaning.specs.declared.outcome.Stop.TheVariants as stop
use Rattle.hs_tree.specs.Trees.{RightValue, LeftValue, TypedStatement}
use Rattle.hs_types.specs.Rows.{void_id, char_pointer_id, char_handle_id}
use Rattle.hs_types.specs.declared.integer.Integer.TheVariants as kind

-- char **h, *p; p = NewPtr(3); and then these
abbrev run_of : List TypedStatement → List Decision → Run
run_of its schedule =
    run (program (variable (codes "h") char_handle_id ∷ variable (codes "p") char_pointer_id ∷ [])
    (done_by 4 (put 4 7 char_pointer_id 1 (calls 4 9 char_pointer_id 13 (one (long_num 4 9 3)))) ∷ its)) no_input schedule 0

abbrev pointer : ℕ → ℕ → RightValue
pointer line col = get line col char_pointer_id 1

-- p[n], with its `[` in column 6 or 14
abbrev item : ℕ → ℕ → ℕ → LeftValue
item line col n = element line col char 1 (pointer line 5) (num line 7 n)

-- p[n] = it;
abbrev sets : ℕ → ℕ → ℕ → TypedStatement
sets line n it = done_by line (assigned line 10 char (item line 6 n) (as_kind line 10 kind.Char (num line 12 it)))

-- putchar(p[n]);
abbrev prints : ℕ → ℕ → TypedStatement
prints line n = done_by line (putchar line 5 (as_kind line 5 kind.Int (loaded line 14 char (item line 14 n))))

-- DisposPtr(e);
abbrev disposes : ℕ → RightValue → TypedStatement
disposes line e = done_by line (calls line 5 void_id 14 (one e))

abbrev ends : TypedStatement
ends = return 12 (num 12 12 0)

-- p[2] = 65; putchar(p[2]); return 0;
used : run_of (sets 5 2 65 ∷ prints 6 2 ∷ ends ∷ []) [] comes_to finished (65 ∷ []) (pos 0)
used = (grind (arith), refl)

-- p[3] = 65;
past_the_end : run_of (sets 5 3 65 ∷ []) [] comes_to stopped [] stop.Range 5 10
past_the_end = (grind (arith), refl)

-- DisposPtr(p); p[2] = 65;
use_of_disposed : run_of (disposes 5 (pointer 5 15) ∷ sets 6 2 65 ∷ []) [] comes_to stopped [] stop.Gone 6 10
use_of_disposed = (grind (arith), refl)

-- DisposPtr(p); DisposPtr(p);
disposed_twice : run_of (disposes 5 (pointer 5 15) ∷ disposes 6 (pointer 6 15) ∷ []) [] comes_to stopped [] stop.BadPointer 6 5
disposed_twice = (grind (arith), refl)

-- DisposPtr(p + 1);
dispose_of_inner : run_of (disposes 5 (plus 5 17 char_pointer_id 1 (pointer 5 15) (num 5 19 1)) ∷ []) [] comes_to stopped [] stop.BadPointer 5 5
dispose_of_inner = (grind (arith), refl)

-- DisposPtr(0); return 0;
dispose_of_nil : run_of (disposes 5 (nil 5 5 char_pointer_id) ∷ ends ∷ []) [] comes_to finished [] (pos 0)
dispose_of_nil = (grind (arith), refl)

-- h = NewHandle(4);
abbrev made : ℕ → TypedStatement
made line = done_by line (put line 7 char_handle_id 0 (new_handle line 9 4))

abbrev master : ℕ → ℕ → RightValue
master line col = at_pointer line col char_pointer_id (get line col char_handle_id 0)

-- h = NewHandle(4); DisposPtr(*h);
dispose_of_block : run_of (made 5 ∷ disposes 6 (master 6 15) ∷ []) [] comes_to stopped [] stop.BadPointer 6 5
dispose_of_block = (grind (arith), refl)

-- BlockMove(from, to, n);
abbrev moves : ℕ → RightValue → RightValue → RightValue → TypedStatement
moves line from to n = done_by line (calls line 5 void_id 15 (three from to (as_kind line 5 kind.Long n)))

abbrev next_byte : ℕ → RightValue
next_byte line = plus line 20 char_pointer_id 1 (pointer line 18) (num line 22 1)

-- p[0] = 65; p[1] = 66; p[2] = 67;
abbrev filled : List TypedStatement
filled = sets 5 0 65 ∷ sets 5 1 66 ∷ sets 5 2 67 ∷ []

-- putchar(p[0]); putchar(p[1]); putchar(p[2]); return 0;
abbrev printed : List TypedStatement
printed = prints 11 0 ∷ prints 11 1 ∷ prints 11 2 ∷ ends ∷ []

-- BlockMove(p, p + 1, 2); the bytes overlap
toward_higher : run_of (filled ++ moves 6 (pointer 6 15) (next_byte 6) (num 6 25 2) ∷ printed) [] comes_to finished (65 ∷ 65 ∷ 66 ∷ []) (pos 0)
toward_higher = (grind (arith), refl)

-- BlockMove(p + 1, p, 2);
toward_lower : run_of (filled ++ moves 6 (next_byte 6) (pointer 6 15) (num 6 25 2) ∷ printed) [] comes_to finished (66 ∷ 67 ∷ 67 ∷ []) (pos 0)
toward_lower = (grind (arith), refl)

-- BlockMove(p + 1, p, 3);
move_past_the_end : run_of (filled ++ moves 6 (next_byte 6) (pointer 6 15) (num 6 25 3) ∷ printed) [] comes_to stopped [] stop.Range 6 5
move_past_the_end = (grind (arith), refl)

-- BlockMove(p, 0, -1); a negative count is tested before the pointers
negative_count : run_of (moves 6 (pointer 6 15) (nil 6 5 char_pointer_id) (minus 6 21 (num 6 22 1)) ∷ []) [] comes_to stopped [] stop.Range 6 5
negative_count = (grind (arith), refl)

-- BlockMove(p, 0, 0); also a count of 0 uses the pointers
count_of_zero : run_of (moves 6 (pointer 6 15) (nil 6 5 char_pointer_id) (num 6 21 0) ∷ []) [] comes_to stopped [] stop.Nil 6 5
count_of_zero = (grind (arith), refl)

-- h = NewHandle(4); BlockMove(h, p, -1); a handle is tested before the count
move_of_handle : run_of (made 5 ∷ moves 6 (as_pointer 6 5 char_pointer_id (get 6 15 char_handle_id 0)) (pointer 6 18) (minus 6 21 (num 6 22 1)) ∷ []) []
    comes_to stopped [] stop.BadPointer 6 5
move_of_handle = (grind (arith), refl)

-- p[0] = 65; .. h = NewHandle(4); BlockMove(p, *h, 3); BlockMove(*h, p + 1, 1); putchar(p[0]); ..
through_a_block : run_of (filled ++ made 6 ∷ moves 7 (pointer 7 15) (master 7 18) (num 7 22 3) ∷ moves 8 (master 8 15) (next_byte 8) (num 8 26 1) ∷ printed)
    (everything ∷ everything ∷ []) comes_to finished (65 ∷ 65 ∷ 67 ∷ []) (pos 0)
through_a_block = (grind (arith), refl)

-- h = NewHandle(4); p = *h; NewHandle(4); BlockMove(p, p, 0);
move_of_stale : run_of (made 5 ∷ done_by 6 (put 6 7 char_pointer_id 1 (master 6 9)) ∷ done_by 7 (new_handle 7 5 4)
    ∷ moves 8 (pointer 8 15) (pointer 8 18) (num 8 21 0) ∷ []) (nothing ∷ nothing ∷ everything ∷ [])
    comes_to stopped [] stop.Stale 8 5
move_of_stale = (grind (arith), refl)
