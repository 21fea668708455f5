-- Each operator that compares: numbers, and pointers into one object, into two, and into blocks.
use Rattle.std.proofs.Common.{ℕ, pos, List, [], ◌∷◌, ◌++◌, refl, arith}
use Rattle.std.specs.Prelude.{codes}
use Rattle.hs_heap.specs.declared.decision.Decision.{Decision}
use Rattle.hs_meaning.proofs.Programs.Forms.{as_kind, address, calls, compared, of_ints, plus, taken_variable, two}
use Rattle.hs_meaning.proofs.Programs.Frame.{variables, made, written}
use Rattle.hs_meaning.proofs.Programs.Row.{Run, run, ◌comes_to◌}
use Rattle.hs_meaning.proofs.Programs.Terms.{at_pointer, char, done_by, everything, finished, get, head, int, local, long, long_num, new_handle, no_input}
use Rattle.hs_meaning.proofs.Programs.Terms.{nothing, num, one, program, put, return, stopped, variable}
use Rattle.hs_meaning.specs.declared.outcome.Stop.TheVariants as stop
use Rattle.hs_tree.specs.Trees.{RightValue, TypedStatement}
use Rattle.hs_tree.specs.Trees as tree
use Rattle.hs_tree.specs.declared.operators.Arithmetic.TheVariants.{Add, Multiply}
use Rattle.hs_tree.specs.declared.operators.Comparison.{Comparison}
use Rattle.hs_tree.specs.declared.operators.Comparison.TheVariants.{Less, Greater, LessEqual, GreaterEqual, Equal, NotEqual}
use Rattle.hs_types.specs.Rows.{void_id, char_pointer_id, char_handle_id}
use Rattle.hs_types.specs.declared.integer.Integer.TheVariants as kind

-- a * 4 + b * 2 + c
abbrev digits : RightValue → RightValue → RightValue → RightValue
digits a b c = of_ints 6 50 Add (of_ints 6 40 Add (of_ints 6 30 Multiply a (num 6 32 4)) (of_ints 6 45 Multiply b (num 6 47 2))) c

-- char c, d; the program takes their addresses
abbrev gives : RightValue → Run
gives e = run (program (taken_variable (codes "c") char ∷ taken_variable (codes "d") char ∷ []) (return 6 e ∷ [])) no_input [] 0

-- whether 1 is so to 2, whether 2 is so to 2, and whether 3 is so to 2
abbrev of_numbers : Comparison → Run
of_numbers its =
    gives (digits (compared 6 14 its (num 6 12 1) (num 6 16 2)) (compared 6 14 its (num 6 12 2) (num 6 16 2)) (compared 6 14 its (num 6 12 3) (num 6 16 2)))

less : of_numbers Less comes_to finished [] (pos 4)
less = (grind (arith), refl)

greater : of_numbers Greater comes_to finished [] (pos 1)
greater = (grind (arith), refl)

less_or_equal : of_numbers LessEqual comes_to finished [] (pos 6)
less_or_equal = (grind (arith), refl)

greater_or_equal : of_numbers GreaterEqual comes_to finished [] (pos 3)
greater_or_equal = (grind (arith), refl)

equal : of_numbers Equal comes_to finished [] (pos 2)
equal = (grind (arith), refl)

not_equal : of_numbers NotEqual comes_to finished [] (pos 5)
not_equal = (grind (arith), refl)

-- &c + n and &d
abbrev in_c : ℕ → RightValue
in_c n = plus 6 15 char_pointer_id 1 (address 6 12 char_pointer_id (local 6 13 char 0)) (num 6 17 n)

abbrev at_d : RightValue
at_d = address 6 24 char_pointer_id (local 6 25 char 1)

abbrev order : Comparison → RightValue → RightValue → RightValue
order its a b = tree.compare_pointers (head 6 21 int) its a b

-- the same of the pointers &c + 1, &c + 2 and &c + 3
abbrev of_pointers : Comparison → Run
of_pointers its = gives (digits (order its (in_c 1) (in_c 2)) (order its (in_c 2) (in_c 2)) (order its (in_c 3) (in_c 2)))

pointer_less : of_pointers Less comes_to finished [] (pos 4)
pointer_less = (grind (arith), refl)

pointer_greater : of_pointers Greater comes_to finished [] (pos 1)
pointer_greater = (grind (arith), refl)

pointer_less_or_equal : of_pointers LessEqual comes_to finished [] (pos 6)
pointer_less_or_equal = (grind (arith), refl)

pointer_greater_or_equal : of_pointers GreaterEqual comes_to finished [] (pos 3)
pointer_greater_or_equal = (grind (arith), refl)

pointer_equal : of_pointers Equal comes_to finished [] (pos 2)
pointer_equal = (grind (arith), refl)

pointer_not_equal : of_pointers NotEqual comes_to finished [] (pos 5)
pointer_not_equal = (grind (arith), refl)

-- &c + 1 and &d, which are of two objects
abbrev apart : Comparison → Run
apart its = gives (order its (in_c 1) at_d)

apart_less : apart Less comes_to stopped [] stop.BadPointer 6 21
apart_less = (grind (arith), refl)

apart_greater : apart Greater comes_to stopped [] stop.BadPointer 6 21
apart_greater = (grind (arith), refl)

apart_less_or_equal : apart LessEqual comes_to stopped [] stop.BadPointer 6 21
apart_less_or_equal = (grind (arith), refl)

apart_greater_or_equal : apart GreaterEqual comes_to stopped [] stop.BadPointer 6 21
apart_greater_or_equal = (grind (arith), refl)

apart_not_equal : apart NotEqual comes_to finished [] (pos 1)
apart_not_equal = (grind (arith), refl)

-- h = NewHandle(4); **h = 65; p = *h; and then these; char *q;
abbrev run_of : List TypedStatement → List Decision → Run
run_of its schedule = run (program (variables ++ variable (codes "q") char_pointer_id ∷ []) (made ∷ written ++ its)) no_input schedule 0

abbrev handle : ℕ → ℕ → ℕ → RightValue
handle line col place = get line col char_handle_id place

abbrev p : RightValue
p = get 12 12 char_pointer_id 2

abbrev q : RightValue
q = get 12 17 char_pointer_id 3

-- of the handle of that variable alone, by the number of the routine
abbrev on_handle : ℕ → ℕ → ℕ → TypedStatement
on_handle line routine place = done_by line (calls line 5 void_id routine (one (handle line 15 place)))

-- return a == b; and the like
abbrev compares : Comparison → RightValue → RightValue → TypedStatement
compares its a b = return 12 (tree.compare_pointers (head 12 14 int) its a b)

abbrev subtracts : RightValue → RightValue → TypedStatement
subtracts a b = return 12 (as_kind 12 5 kind.Int (tree.difference (head 12 14 long) 1 a b))

-- EmptyHandle(h); DisposeHandle(h); return p == p; a disposed block comes before an old life
disposed_before_old : run_of (on_handle 8 11 0 ∷ on_handle 9 8 0 ∷ compares Equal p p ∷ []) [] comes_to stopped [] stop.Disposed 12 14
disposed_before_old = (grind (arith), refl)

-- ReallocateHandle(h, 4); return p == p; an old life comes before a change of the epoch
old_before_stale : run_of (done_by 9 (calls 9 5 void_id 12 (two (handle 9 22 0) (long_num 9 25 4))) ∷ compares Equal p p ∷ []) (nothing ∷ everything ∷ [])
    comes_to stopped [] stop.Old 12 14
old_before_stale = (grind (arith), refl)

-- g = NewHandle(4); q = *g;
abbrev second : List TypedStatement
second =
    done_by 9 (put 9 7 char_handle_id 1 (new_handle 9 9 4)) ∷ done_by 10 (put 10 7 char_pointer_id 3 (at_pointer 10 9 char_pointer_id (handle 10 10 1))) ∷ []

-- .. return p < q; and the like, into two blocks
order_in_two_blocks : run_of (second ++ compares Less p q ∷ []) [] comes_to stopped [] stop.BadPointer 12 14
order_in_two_blocks = (grind (arith), refl)

difference_in_two_blocks : run_of (second ++ subtracts p q ∷ []) [] comes_to stopped [] stop.BadPointer 12 14
difference_in_two_blocks = (grind (arith), refl)

-- .. EmptyHandle(h); DisposeHandle(g); the left pointer is old, and the right one points into a disposed block: return p == q; and the like
abbrev old_and_disposed : List TypedStatement
old_and_disposed = second ++ on_handle 11 11 0 ∷ on_handle 11 8 1 ∷ []

left_of_equality : run_of (old_and_disposed ++ compares Equal p q ∷ []) [] comes_to stopped [] stop.Old 12 14
left_of_equality = (grind (arith), refl)

left_of_order : run_of (old_and_disposed ++ compares GreaterEqual q p ∷ []) [] comes_to stopped [] stop.Disposed 12 14
left_of_order = (grind (arith), refl)

left_of_difference : run_of (old_and_disposed ++ subtracts p q ∷ []) [] comes_to stopped [] stop.Old 12 14
left_of_difference = (grind (arith), refl)
