-- Uses of blocks that stop a run, and where: each program begins with h = NewHandle(4); **h = 65; p = *h; and ends with return 0;
use Rattle.std.proofs.Common.{ℕ, pos, List, [], ◌∷◌, ◌++◌, refl, arith}
use Rattle.hs_heap.specs.declared.decision.Decision.{Decision}
use Rattle.hs_meaning.proofs.Programs.Forms.{as_kind, calls, two, element, loaded, nil, minus}
use Rattle.hs_meaning.proofs.Programs.Frame.{variables, made, written}
use Rattle.hs_meaning.proofs.Programs.Row.{Run, run, ◌comes_to◌}
use Rattle.hs_meaning.proofs.Programs.Terms.{char, get, put, num, one, long_num, at_pointer, done_by, return, new_handle, putchar, program, no_input, nothing}
use Rattle.hs_meaning.proofs.Programs.Terms.{everything, finished, stopped}
use Rattle.hs_meaning.specs.declared.outcome.Stop.TheVariants as stop
use Rattle.hs_tree.specs.Trees.{RightValue, TypedStatement}
use Rattle.hs_types.specs.Rows.{void_id, char_pointer_id, char_handle_id}
use Rattle.hs_types.specs.declared.integer.Integer.TheVariants as kind

-- the run of the program with those statements
abbrev run_of : List TypedStatement → List Decision → Run
run_of its schedule = run (program variables (made ∷ written ++ its ++ return 12 (num 12 12 0) ∷ [])) no_input schedule 0

-- `h`, and a call of a routine with it alone, by its number
abbrev handle : ℕ → ℕ → RightValue
handle line col = get line col char_handle_id 0

abbrev on_handle : ℕ → ℕ → TypedStatement
on_handle line place = done_by line (calls line 5 void_id place (one (handle line 15)))

abbrev pointer : ℕ → ℕ → RightValue
pointer line col = get line col char_pointer_id 2

-- p = *h; with its `*` in column 9
abbrev reads : ℕ → TypedStatement
reads line = done_by line (put line 7 char_pointer_id 2 (at_pointer line 9 char_pointer_id (handle line 10)))

-- putchar(*p); with its `*` in column 13
abbrev prints : ℕ → TypedStatement
prints line = done_by line (putchar line 5 (as_kind line 5 kind.Int (at_pointer line 13 char (pointer line 14))))

-- p = 0; putchar(*p);
through_nil : run_of (done_by 9 (put 9 7 char_pointer_id 2 (nil 9 7 char_pointer_id)) ∷ prints 10 ∷ []) [] comes_to stopped [] stop.Nil 10 13
through_nil = (grind (arith), refl)

-- DisposeHandle(h); p = *h;
handle_of_disposed : run_of (on_handle 9 8 ∷ reads 10 ∷ []) [] comes_to stopped [] stop.Disposed 10 9
handle_of_disposed = (grind (arith), refl)

-- DisposeHandle(h); putchar(*p);
pointer_into_disposed : run_of (on_handle 9 8 ∷ prints 10 ∷ []) [] comes_to stopped [] stop.Disposed 10 13
pointer_into_disposed = (grind (arith), refl)

-- DisposeHandle(h); HLock(h);
lock_of_disposed : run_of (on_handle 9 8 ∷ on_handle 10 1 ∷ []) [] comes_to stopped [] stop.Disposed 10 5
lock_of_disposed = (grind (arith), refl)

-- HPurge(h); g = NewHandle(4);
abbrev purged : List TypedStatement
purged = on_handle 9 5 ∷ done_by 10 (put 10 7 char_handle_id 1 (new_handle 10 9 4)) ∷ []

-- HPurge(h); g = NewHandle(4); p = *h;
handle_of_purged : run_of (purged ++ reads 11 ∷ []) (nothing ∷ everything ∷ []) comes_to stopped [] stop.Purged 11 9
handle_of_purged = (grind (arith), refl)

-- HPurge(h); g = NewHandle(4); HLock(h);
lock_of_purged : run_of (purged ++ on_handle 11 1 ∷ []) (nothing ∷ everything ∷ []) comes_to stopped [] stop.Purged 11 5
lock_of_purged = (grind (arith), refl)

-- HPurge(h); g = NewHandle(4); putchar(*p); a purge is a change of the epoch too
pointer_into_purged : run_of (purged ++ prints 11 ∷ []) (nothing ∷ everything ∷ []) comes_to stopped [] stop.Stale 11 13
pointer_into_purged = (grind (arith), refl)

-- HPurge(h); g = NewHandle(4); p = *h; putchar(*p); if nothing is purged
purgeable_stays : run_of (purged ++ reads 11 ∷ prints 11 ∷ []) [] comes_to finished (65 ∷ []) (pos 0)
purgeable_stays = (grind (arith), refl)

-- HPurge(h); HLock(h); g = NewHandle(4); putchar(*p);
locked_is_not_purged : run_of (on_handle 9 5 ∷ on_handle 9 1 ∷ purged ++ prints 11 ∷ []) (nothing ∷ everything ∷ []) comes_to finished (65 ∷ []) (pos 0)
locked_is_not_purged = (grind (arith), refl)

-- EmptyHandle(h); putchar(*p);
pointer_of_old_life : run_of (on_handle 9 11 ∷ prints 10 ∷ []) [] comes_to stopped [] stop.Old 10 13
pointer_of_old_life = (grind (arith), refl)

-- EmptyHandle(h); p = *h; the master pointer is NIL, and so is `p`: putchar(*p);
emptied_is_nil : run_of (on_handle 9 11 ∷ reads 10 ∷ prints 11 ∷ []) [] comes_to stopped [] stop.Nil 11 13
emptied_is_nil = (grind (arith), refl)

-- HLock(h); EmptyHandle(h); putchar(*p);
locked_is_not_emptied : run_of (on_handle 9 1 ∷ on_handle 10 11 ∷ prints 11 ∷ []) [] comes_to finished (65 ∷ []) (pos 0)
locked_is_not_emptied = (grind (arith), refl)

-- ReallocateHandle(h, 4);
abbrev reallocated : ℕ → TypedStatement
reallocated line = done_by line (calls line 5 void_id 12 (two (handle line 22) (long_num line 25 4)))

-- ReallocateHandle(h, 4); putchar(*p); the block also moves, and the old life is tested first
old_before_stale : run_of (reallocated 9 ∷ prints 10 ∷ []) (nothing ∷ everything ∷ []) comes_to stopped [] stop.Old 10 13
old_before_stale = (grind (arith), refl)

-- EmptyHandle(h); ReallocateHandle(h, 4); p = *h; putchar(*p); the new cells have no values
new_cells_are_undefined : run_of (on_handle 9 11 ∷ reallocated 10 ∷ reads 11 ∷ prints 12 ∷ []) [] comes_to stopped [] stop.Undefined 12 13
new_cells_are_undefined = (grind (arith), refl)

-- p[n]; with its `[` in column 14
abbrev item : ℕ → RightValue → RightValue
item line n = loaded line 14 char (element line 14 char 1 (pointer line 13) n)

-- p[4]; a block of 4 bytes
past_the_end : run_of (done_by 9 (item 9 (num 9 15 4)) ∷ []) [] comes_to stopped [] stop.Range 9 14
past_the_end = (grind (arith), refl)

-- p[-1];
before_the_front : run_of (done_by 9 (item 9 (minus 9 15 (num 9 16 1))) ∷ []) [] comes_to stopped [] stop.Range 9 14
before_the_front = (grind (arith), refl)

-- p[3]; its last byte has no value
last_byte : run_of (done_by 9 (item 9 (num 9 15 3)) ∷ []) [] comes_to stopped [] stop.Undefined 9 14
last_byte = (grind (arith), refl)

-- SetHandleSize(h, 1); p = *h; putchar(*p); p[1]; what is cut is out of range
cut_is_out_of_range : run_of (done_by 9 (calls 9 5 void_id 10 (two (handle 9 19) (long_num 9 22 1)))
    ∷ reads 10 ∷ prints 11 ∷ done_by 12 (item 12 (num 12 15 1)) ∷ []) []
    comes_to stopped (65 ∷ []) stop.Range 12 14
cut_is_out_of_range = (grind (arith), refl)

-- HPurge(h); g = NewHandle(4); DisposeHandle(h);
dispose_of_purged : run_of (purged ++ on_handle 11 8 ∷ []) (nothing ∷ everything ∷ []) comes_to stopped [] stop.Purged 11 5
dispose_of_purged = (grind (arith), refl)

-- HPurge(h); ReallocateHandle(h, 4); the call purges the block before it uses the handle
purged_by_itself : run_of (on_handle 9 5 ∷ reallocated 10 ∷ []) (nothing ∷ everything ∷ []) comes_to stopped [] stop.Purged 10 5
purged_by_itself = (grind (arith), refl)

-- HPurge(h); ReallocateHandle(h, 4); g = NewHandle(4); HLock(h); the new cells may not be purged
may_not_be_purged : run_of (on_handle 8 5 ∷ reallocated 9 ∷ done_by 10 (put 10 7 char_handle_id 1 (new_handle 10 9 4)) ∷ on_handle 11 1 ∷ [])
    (nothing ∷ nothing ∷ everything ∷ []) comes_to finished [] (pos 0)
may_not_be_purged = (grind (arith), refl)

-- SetHandleSize(h, 9); putchar(*p);
abbrev grows : List TypedStatement
grows = done_by 9 (calls 9 5 void_id 10 (two (handle 9 19) (long_num 9 5 9))) ∷ prints 10 ∷ []

grows_in_place : run_of grows [] comes_to finished (65 ∷ []) (pos 0)
grows_in_place = (grind (arith), refl)

moves_as_it_grows : run_of grows (nothing ∷ everything ∷ []) comes_to stopped [] stop.Stale 10 13
moves_as_it_grows = (grind (arith), refl)

-- HLock(h); SetHandleSize(h, 9); putchar(*p); it grows in place
locked_grows : run_of (on_handle 9 1 ∷ grows) (nothing ∷ everything ∷ []) comes_to finished (65 ∷ []) (pos 0)
locked_grows = (grind (arith), refl)
