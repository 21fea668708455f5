-- Uses of values of the wrong sort: numbers loaded from pointers, accesses through handles, and arithmetic that a pointer does not permit.
use Rattle.std.proofs.Common.{ℕ, pos, List, [], ◌∷◌, refl, arith}
use Rattle.std.specs.Prelude.{codes}
use Rattle.hs_meaning.proofs.Programs.Forms.{element, as_pointer, assigned, calls, nil, plus, address, id, more_types, taken_variable, through, field}
use Rattle.hs_meaning.proofs.Programs.Forms.{struct_of}
use Rattle.hs_meaning.proofs.Programs.Row.{Run, run, ◌comes_to◌}
use Rattle.hs_meaning.proofs.Programs.Terms.{char, int, get, put, num, one, local, at_pointer, done_by, return, function, variable, program_with, no_input}
use Rattle.hs_meaning.proofs.Programs.Terms.{new_handle, finished, stopped, head}
use Rattle.hs_meaning.specs.declared.outcome.Stop.TheVariants as stop
use Rattle.hs_tree.specs.Trees.{RightValue, TypedStatement}
use Rattle.hs_tree.specs.Trees as tree
use Rattle.hs_tree.specs.declared.head.VariableDecl.{VariableDecl}
use Rattle.hs_tree.specs.declared.operators.Comparison.TheVariants.{Less}
use Rattle.hs_types.specs.Layouts.{integer_layout}
use Rattle.hs_types.specs.Rows.{void_id, char_pointer_id, char_handle_id}
use Rattle.hs_types.specs.TypeTables.{TypeTable}
use Rattle.hs_types.specs.declared.integer.Integer.TheVariants as kind
use Rattle.hs_types.specs.declared.row.Row.TheVariants as row

-- type 12 is int *, 13 is struct S { char x, y; }, and 14 is struct S *
abbrev types : TypeTable
types =
    more_types (row.Pointer int ∷ row.Struct 0 ∷ row.Pointer (id 13) ∷ [])
    (struct_of (field (codes "x") char (integer_layout kind.Char) 0 ∷ field (codes "y") char (integer_layout kind.Char) 1 ∷ []) ∷ [])

-- char **h, *p, *q, c; struct S s; the program takes the addresses of `q` and `c`
abbrev variables : List VariableDecl
variables =
    variable (codes "h") char_handle_id ∷ variable (codes "p") char_pointer_id ∷ taken_variable (codes "q") char_pointer_id
    ∷ taken_variable (codes "c") char ∷ variable (codes "s") (id 13) ∷ []

-- h = NewHandle(4); and then these
abbrev run_of : List TypedStatement → Run
run_of its = run (program_with types [] (function variables (done_by 6 (put 6 7 char_handle_id 0 (new_handle 6 9 4)) ∷ its) ∷ [])) no_input [] 0

abbrev handle : ℕ → ℕ → RightValue
handle line col = get line col char_handle_id 0

-- *(int *)e, with its `*` in column 12
abbrev as_int : ℕ → RightValue → RightValue
as_int line e = at_pointer line 12 int (tree.cast (head line 13 (id 12)) (as_pointer line 13 (id 12) e))

abbrev set_p : ℕ → RightValue → TypedStatement
set_p line e = done_by line (put line 7 char_pointer_id 1 e)

-- q = 0; return *(int *)&q; a NIL that was stored is made of parts as any pointer is
number_from_pointer : run_of (done_by 7 (assigned 7 7 char_pointer_id (local 7 5 char_pointer_id 2) (nil 7 7 char_pointer_id))
    ∷ return 8 (as_int 8 (address 8 20 char_handle_id (local 8 21 char_pointer_id 2))) ∷ [])
    comes_to stopped [] stop.BadLoad 8 12
number_from_pointer = (grind (arith), refl)

-- return *(int *)h;
number_through_handle : run_of (return 7 (as_int 7 (handle 7 20)) ∷ []) comes_to stopped [] stop.BadLoad 7 12
number_through_handle = (grind (arith), refl)

-- DisposeHandle(h); return *(int *)h; the state of the block does not count
number_through_disposed : run_of (done_by 7 (calls 7 5 void_id 8 (one (handle 7 19))) ∷ return 8 (as_int 8 (handle 8 20)) ∷ [])
    comes_to stopped [] stop.BadLoad 8 12
number_through_disposed = (grind (arith), refl)

-- *h = 0;
pointer_into_handle : run_of (done_by 7 (assigned 7 8 char_pointer_id (through 7 5 char_pointer_id (handle 7 6)) (nil 7 8 char_pointer_id)) ∷ [])
    comes_to stopped [] stop.BadLoad 7 8
pointer_into_handle = (grind (arith), refl)

-- s = *(struct S *)h;
struct_through_handle : run_of (done_by 7 (assigned 7 7 (id 13) (local 7 5 (id 13) 4)
    (at_pointer 7 9 (id 13) (tree.cast (head 7 10 (id 14)) (as_pointer 7 10 (id 14) (handle 7 22))))) ∷ [])
    comes_to stopped [] stop.BadLoad 7 9
struct_through_handle = (grind (arith), refl)

-- h = h + 1;
handle_plus_one : run_of (done_by 7 (put 7 7 char_handle_id 0 (plus 7 11 char_handle_id 4 (handle 7 9) (num 7 13 1))) ∷ [])
    comes_to stopped [] stop.BadPointer 7 11
handle_plus_one = (grind (arith), refl)

-- return h < h;
order_of_handles : run_of (return 7 (tree.compare_pointers (head 7 14 int) Less (handle 7 12) (handle 7 16)) ∷ []) comes_to stopped [] stop.BadPointer 7 14
order_of_handles = (grind (arith), refl)

-- HLock(*h);
lock_of_pointer : run_of (done_by 7 (calls 7 5 void_id 1 (one (as_pointer 7 5 char_handle_id (at_pointer 7 11 char_pointer_id (handle 7 12))))) ∷ [])
    comes_to stopped [] stop.BadHandle 7 5
lock_of_pointer = (grind (arith), refl)

-- HLock(&q);
lock_of_variable : run_of (done_by 7 (calls 7 5 void_id 1 (one (address 7 11 char_handle_id (local 7 12 char_pointer_id 2)))) ∷ [])
    comes_to stopped [] stop.BadHandle 7 5
lock_of_variable = (grind (arith), refl)

-- HLock(0); return 3;
lock_of_nil : run_of (done_by 7 (calls 7 5 void_id 1 (one (nil 7 5 char_handle_id))) ∷ return 8 (num 8 12 3) ∷ []) comes_to finished [] (pos 3)
lock_of_nil = (grind (arith), refl)

-- p = 0; p = p + 1;
nil_plus_one : run_of (set_p 7 (nil 7 7 char_pointer_id) ∷ set_p 8 (plus 8 11 char_pointer_id 1 (get 8 9 char_pointer_id 1) (num 8 13 1)) ∷ [])
    comes_to stopped [] stop.Nil 8 11
nil_plus_one = (grind (arith), refl)

-- p = &c + 2147483647; p = p + 1;
too_far : run_of (set_p 7 (plus 7 12 char_pointer_id 1 (address 7 9 char_pointer_id (local 7 10 char 3)) (num 7 14 2147483647))
    ∷ set_p 8 (plus 8 11 char_pointer_id 1 (get 8 9 char_pointer_id 1) (num 8 13 1)) ∷ [])
    comes_to stopped [] stop.BadPointer 8 11
too_far = (grind (arith), refl)

-- h[0] = 0; arithmetic on a handle, also by 0
element_of_handle : run_of (done_by 7 (assigned 7 10 char_pointer_id (element 7 6 char_pointer_id 4 (handle 7 5) (num 7 7 0)) (nil 7 10 char_pointer_id)) ∷ [])
    comes_to stopped [] stop.BadPointer 7 6
element_of_handle = (grind (arith), refl)
