-- Comparisons, differences and tests of pointers into blocks: which of them are uses, and which roles do nothing.
use Rattle.std.proofs.Common.{ℕ, pos, List, [], ◌∷◌, ◌++◌, refl, arith}
use Rattle.std.specs.Prelude.{true, false}
use Rattle.hs_heap.specs.declared.decision.Decision.{Decision}
use Rattle.hs_meaning.proofs.Programs.Forms.{as_kind, calls, two, nil, plus}
use Rattle.hs_meaning.proofs.Programs.Frame.{variables, made, written}
use Rattle.hs_meaning.proofs.Programs.Row.{Run, run, ◌comes_to◌}
use Rattle.hs_meaning.proofs.Programs.Terms.{int, long, get, put, num, one, long_num, at_pointer, done_by, return, new_handle, program, no_input, nothing}
use Rattle.hs_meaning.proofs.Programs.Terms.{everything, finished, stopped, at, head}
use Rattle.hs_meaning.specs.declared.outcome.Stop.TheVariants as stop
use Rattle.hs_tree.specs.Trees.{RightValue, TypedStatement}
use Rattle.hs_tree.specs.Trees as tree
use Rattle.hs_tree.specs.declared.operators.Comparison.{Comparison}
use Rattle.hs_tree.specs.declared.operators.Comparison.TheVariants.{Less, Equal}
use Rattle.hs_types.specs.Rows.{void_id, char_pointer_id, char_handle_id}
use Rattle.hs_types.specs.declared.integer.Integer.TheVariants as kind

-- h = NewHandle(4); **h = 65; p = *h; and then these
abbrev run_of : List TypedStatement → List Decision → Run
run_of its schedule = run (program variables (made ∷ written ++ its)) no_input schedule 0

abbrev handle : ℕ → ℕ → RightValue
handle line col = get line col char_handle_id 0

abbrev pointer : ℕ → ℕ → RightValue
pointer line col = get line col char_pointer_id 2

-- g = NewHandle(4);
abbrev allocates : TypedStatement
allocates = done_by 9 (put 9 7 char_handle_id 1 (new_handle 9 9 4))

-- of `h` alone, by the number of the routine
abbrev on_handle : ℕ → ℕ → TypedStatement
on_handle line place = done_by line (calls line 5 void_id place (one (handle line 15)))

-- return a < b; and the like, with the operator in column 14
abbrev compares : Comparison → RightValue → RightValue → TypedStatement
compares operator a b = return 10 (tree.compare_pointers (head 10 14 int) operator a b)

-- g = NewHandle(4); return p == *h;
same_place : run_of (allocates ∷ compares Equal (pointer 10 12) (at_pointer 10 17 char_pointer_id (handle 10 18)) ∷ []) [] comes_to finished [] (pos 1)
same_place = (grind (arith), refl)

-- and the old one is stale if it moves
stale_left : run_of (allocates ∷ compares Equal (pointer 10 12) (at_pointer 10 17 char_pointer_id (handle 10 18)) ∷ []) (nothing ∷ everything ∷ [])
    comes_to stopped [] stop.Stale 10 14
stale_left = (grind (arith), refl)

-- g = NewHandle(4); return *h == p;
stale_right : run_of (allocates ∷ compares Equal (at_pointer 10 12 char_pointer_id (handle 10 13)) (pointer 10 17) ∷ []) (nothing ∷ everything ∷ [])
    comes_to stopped [] stop.Stale 10 14
stale_right = (grind (arith), refl)

-- g = NewHandle(4); return p < p + 9; a comparison asks for no range
order_out_of_range : run_of (allocates ∷ compares Less (pointer 10 12) (plus 10 18 char_pointer_id 1 (pointer 10 16) (num 10 20 9)) ∷ []) []
    comes_to finished [] (pos 1)
order_out_of_range = (grind (arith), refl)

-- g = NewHandle(4); return p - p;
stale_difference : run_of
    (allocates ∷ return 10 (as_kind 10 5 kind.Int (tree.difference (head 10 14 long) 1 (pointer 10 12) (pointer 10 16))) ∷ []) (nothing ∷ everything ∷ [])
    comes_to stopped [] stop.Stale 10 14
stale_difference = (grind (arith), refl)

-- EmptyHandle(h); return p == p;
old_comparison : run_of (on_handle 9 11 ∷ compares Equal (pointer 10 12) (pointer 10 17) ∷ []) [] comes_to stopped [] stop.Old 10 14
old_comparison = (grind (arith), refl)

-- DisposeHandle(h); return p < h; the use of a pointer is tested before the order
disposed_comparison : run_of (on_handle 9 8 ∷ compares Less (pointer 10 12) (tree.convert_pointer (head 10 14 char_pointer_id) (handle 10 16)) ∷ []) []
    comes_to stopped [] stop.Disposed 10 14
disposed_comparison = (grind (arith), refl)

-- return p < h; a pointer and a handle are not of one block
order_with_handle : run_of (compares Less (pointer 10 12) (tree.convert_pointer (head 10 14 char_pointer_id) (handle 10 16)) ∷ []) []
    comes_to stopped [] stop.BadPointer 10 14
order_with_handle = (grind (arith), refl)

-- p = 0; return p < p;
order_of_nil : run_of (done_by 9 (put 9 7 char_pointer_id 2 (nil 9 7 char_pointer_id)) ∷ compares Less (pointer 10 12) (pointer 10 16) ∷ []) []
    comes_to stopped [] stop.BadPointer 10 14
order_of_nil = (grind (arith), refl)

-- g = NewHandle(4); return p == 0; a test against NIL is no use
stale_test : run_of (allocates ∷ return 10 (tree.is_nil (head 10 14 int) true (pointer 10 12)) ∷ []) (nothing ∷ everything ∷ []) comes_to finished [] (pos 0)
stale_test = (grind (arith), refl)

-- g = NewHandle(4); if (p) return 3;
stale_condition : run_of
    (allocates ∷ tree.if_ (at 10 5) (tree.is_nil (head 10 9 int) false (pointer 10 9)) (return 10 (num 10 19 3)) ∷ []) (nothing ∷ everything ∷ [])
    comes_to finished [] (pos 3)
stale_condition = (grind (arith), refl)

-- g = NewHandle(4); p = p + 1; p = 0; return 4; nor is arithmetic, nor a copy
stale_arithmetic : run_of (allocates ∷ done_by 10 (put 10 7 char_pointer_id 2 (plus 10 11 char_pointer_id 1 (pointer 10 9) (num 10 13 1)))
    ∷ done_by 11 (put 11 7 char_pointer_id 2 (pointer 11 9)) ∷ return 12 (num 12 12 4) ∷ []) (nothing ∷ everything ∷ [])
    comes_to finished [] (pos 4)
stale_arithmetic = (grind (arith), refl)

-- return GetHandleSize(e);
abbrev sized : RightValue → TypedStatement
sized e = return 12 (as_kind 12 5 kind.Int (calls 12 12 long 9 (one e)))

-- return GetHandleSize(h);
size_of_block : run_of (sized (handle 12 26) ∷ []) [] comes_to finished [] (pos 4)
size_of_block = (grind (arith), refl)

-- return GetHandleSize(0);
size_of_nil : run_of (sized (nil 12 12 char_handle_id) ∷ []) [] comes_to finished [] (pos 0)
size_of_nil = (grind (arith), refl)

-- EmptyHandle(h); SetHandleSize(h, 9); return GetHandleSize(h); an emptied block stays empty
size_of_emptied : run_of (on_handle 9 11 ∷ done_by 10 (calls 10 5 void_id 10 (two (handle 10 19) (long_num 10 5 9))) ∷ sized (handle 12 26) ∷ []) []
    comes_to finished [] (pos 0)
size_of_emptied = (grind (arith), refl)

-- EmptyHandle(h); HLock(h); ReallocateHandle(h, 7); return GetHandleSize(h); the lock of an emptied block does nothing
reallocated_after_lock : run_of
    (on_handle 8 11 ∷ on_handle 9 1 ∷ done_by 10 (calls 10 5 void_id 12 (two (handle 10 22) (long_num 10 5 7))) ∷ sized (handle 12 26) ∷ []) []
    comes_to finished [] (pos 7)
reallocated_after_lock = (grind (arith), refl)

-- HLock(h); ReallocateHandle(h, 7); return GetHandleSize(h);
locked_is_not_reallocated : run_of (on_handle 9 1 ∷ done_by 10 (calls 10 5 void_id 12 (two (handle 10 22) (long_num 10 5 7))) ∷ sized (handle 12 26) ∷ []) []
    comes_to finished [] (pos 4)
locked_is_not_reallocated = (grind (arith), refl)

-- EmptyHandle(h); DisposeHandle(h); return GetHandleSize(h);
emptied_is_disposed : run_of (on_handle 9 11 ∷ on_handle 10 8 ∷ sized (handle 12 26) ∷ []) [] comes_to stopped [] stop.Disposed 12 12
emptied_is_disposed = (grind (arith), refl)
