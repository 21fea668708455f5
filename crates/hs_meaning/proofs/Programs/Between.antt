-- Pointers that an expression holds while another part of it moves memory, and handles that are kept in blocks.
use Rattle.std.proofs.Common.{ℕ, pos, List, [], ◌∷◌, ◌++◌, refl, arith}
use Rattle.std.specs.Prelude.{codes}
use Rattle.hs_heap.specs.declared.decision.Decision.{Decision}
use Rattle.hs_meaning.proofs.Programs.Forms.{as_kind, as_pointer, assigned, body_with, calls, field, function_with, id, invoked, loaded, more_types, of_ints}
use Rattle.hs_meaning.proofs.Programs.Forms.{struct_of, through, two}
use Rattle.hs_meaning.proofs.Programs.Row.{Run, run, ◌comes_to◌}
use Rattle.hs_meaning.proofs.Programs.Terms.{at_pointer, char, done_by, everything, finished, function, get, head, int, long_num, new_handle, no_input, num}
use Rattle.hs_meaning.proofs.Programs.Terms.{one, program_with, put, return, stopped, variable}
use Rattle.hs_meaning.specs.declared.outcome.Stop.TheVariants as stop
use Rattle.hs_tree.specs.Trees.{RightValue, LeftValue, TypedFunction, TypedStatement}
use Rattle.hs_tree.specs.Trees as tree
use Rattle.hs_tree.specs.declared.head.VariableDecl.{VariableDecl}
use Rattle.hs_tree.specs.declared.operators.Arithmetic.TheVariants.{Add}
use Rattle.hs_types.specs.Layouts.{integer_layout, word_layout}
use Rattle.hs_types.specs.Rows.{char_pointer_id, char_handle_id}
use Rattle.hs_types.specs.TypeTables.{TypeTable}
use Rattle.hs_types.specs.declared.integer.Integer.TheVariants as kind
use Rattle.hs_types.specs.declared.row.Row.TheVariants as row

-- type 12 is struct S { char c; char *p; }, 13 is struct S *, 14 is struct S **, 15 is char ***, and 16 is char ****
abbrev types : TypeTable
types =
    more_types (row.Struct 0 ∷ row.Pointer (id 12) ∷ row.Pointer (id 13) ∷ row.Pointer char_handle_id ∷ row.Pointer (id 15) ∷ [])
    (struct_of (field (codes "c") char (integer_layout kind.Char) 0 ∷ field (codes "p") char_pointer_id word_layout 2 ∷ []) ∷ [])

-- struct S **h; char *p, **g, ****t;
abbrev variables : List VariableDecl
variables = variable (codes "h") (id 14) ∷ variable (codes "p") char_pointer_id ∷ variable (codes "g") char_handle_id ∷ variable (codes "t") (id 16) ∷ []

-- int move(int n) { NewHandle(1); return n; }
abbrev moving : TypedFunction
moving =
    function_with (codes "move") int 1 (variable (codes "n") int ∷ []) (body_with [] (done_by 30 (new_handle 30 5 1) ∷ return 31 (get 31 12 int 0) ∷ []))

-- int f(char *q, int n) { return *q + n; }
abbrev adding : TypedFunction
adding =
    function_with (codes "f") int 2 (variable (codes "q") char_pointer_id ∷ variable (codes "n") int ∷ [])
    (body_with [] (return 40 (of_ints 40 15 Add (as_kind 40 15 kind.Int (at_pointer 40 12 char (get 40 13 char_pointer_id 0))) (get 40 17 int 1)) ∷ []))

-- h = (struct S **)NewHandle(6); (*h)->c = 65; and then these, if nothing moves and if everything does
abbrev begun : List TypedStatement
begun =
    done_by 6 (put 6 7 (id 14) 0 (tree.cast (head 6 9 (id 14)) (as_pointer 6 9 (id 14) (new_handle 6 22 6))))
    ∷ done_by 7 (assigned 7 13 char (tree.arrow (head 7 9 char) (record { of = 0; place = 0 }) 0 (at_pointer 7 6 (id 13) (get 7 7 (id 14) 0)))
    (as_kind 7 13 kind.Char (num 7 15 65))) ∷ []

abbrev run_of : List TypedStatement → List Decision → Run
run_of its schedule = run (program_with types [] (function variables (begun ++ its) ∷ moving ∷ adding ∷ [])) no_input schedule 2

abbrev still : List TypedStatement → Run
still its = run_of its []

abbrev moved : List TypedStatement → Run
moved its = run_of its (everything ∷ everything ∷ everything ∷ [])

-- (*h)->c and (*h)->p, with the `->` in column 9
abbrev c_of_h : ℕ → LeftValue
c_of_h line = tree.arrow (head line 9 char) (record { of = 0; place = 0 }) 0 (at_pointer line 6 (id 13) (get line 7 (id 14) 0))

abbrev p_of_h : ℕ → LeftValue
p_of_h line = tree.arrow (head line 9 char_pointer_id) (record { of = 0; place = 1 }) 2 (at_pointer line 6 (id 13) (get line 7 (id 14) 0))

-- return (*h)->c;
abbrev returns_c : TypedStatement
returns_c = return 12 (as_kind 12 5 kind.Int (loaded 12 9 char (c_of_h 12)))

-- NewPtr(3)
abbrev new_pointer : ℕ → ℕ → RightValue
new_pointer line col = calls line col char_pointer_id 13 (one (long_num line col 3))

-- (*h)->p = NewPtr(3); return (*h)->c;
abbrev stores_new : List TypedStatement
stores_new = done_by 8 (assigned 8 13 char_pointer_id (p_of_h 8) (new_pointer 8 15)) ∷ returns_c ∷ []

stores_new_still : still stores_new comes_to finished [] (pos 65)
stores_new_still = (grind (arith), refl)

-- the object is found before the call, and stored into after it
stores_new_moved : moved stores_new comes_to stopped [] stop.Stale 8 13
stores_new_moved = (grind (arith), refl)

-- p = NewPtr(3); (*h)->p = p; return (*h)->c; the same in two steps
in_two_steps : moved (done_by 8 (put 8 7 char_pointer_id 1 (new_pointer 8 9))
    ∷ done_by 9 (assigned 9 13 char_pointer_id (p_of_h 9) (get 9 15 char_pointer_id 1)) ∷ returns_c ∷ []) comes_to finished [] (pos 65)
in_two_steps = (grind (arith), refl)

-- (*h)->c += move(1); return (*h)->c;
abbrev adds_moving : List TypedStatement
adds_moving = done_by 8 (tree.update (head 8 13 char) Add kind.Int kind.Char (c_of_h 8) (invoked 8 16 int 1 (one (num 8 21 1)))) ∷ returns_c ∷ []

adds_still : still adds_moving comes_to finished [] (pos 66)
adds_still = (grind (arith), refl)

adds_moved : moved adds_moving comes_to stopped [] stop.Stale 8 13
adds_moved = (grind (arith), refl)

-- return (*h)->c + move(1); the value is read before the call
read_before_call : moved (return 8 (of_ints 8 12 Add (as_kind 8 12 kind.Int (loaded 8 9 char (c_of_h 8))) (invoked 8 14 int 1 (one (num 8 19 1)))) ∷ [])
    comes_to finished [] (pos 66)
read_before_call = (grind (arith), refl)

-- return f((char *)*h, move(1));
abbrev pointer_as_argument : List TypedStatement
pointer_as_argument =
    return 8 (invoked 8 12 int 2 (two (tree.cast (head 8 14 char_pointer_id) (as_pointer 8 14 char_pointer_id (at_pointer 8 22 (id 13) (get 8 23 (id 14) 0))))
    (invoked 8 26 int 1 (one (num 8 31 1))))) ∷ []

argument_still : still pointer_as_argument comes_to finished [] (pos 66)
argument_still = (grind (arith), refl)

-- the first argument is a pointer that the second one makes stale
argument_moved : moved pointer_as_argument comes_to stopped [] stop.Stale 40 12
argument_moved = (grind (arith), refl)

-- t = (char ****)NewHandle(4);
abbrev block_of_handles : ℕ → TypedStatement
block_of_handles line = done_by line (put line 7 (id 16) 3 (tree.cast (head line 9 (id 16)) (as_pointer line 9 (id 16) (new_handle line 21 4))))

-- **t, with its first `*` in that column
abbrev handle_in_block : ℕ → ℕ → LeftValue
handle_in_block line col = through line col char_handle_id (at_pointer line col (id 15) (get line col (id 16) 3))

-- t = (char ****)NewHandle(4); **t = NewHandle(4); return 0;
abbrev stores_handle : List TypedStatement
stores_handle = block_of_handles 8 ∷ done_by 9 (assigned 9 9 char_handle_id (handle_in_block 9 5) (new_handle 9 11 4)) ∷ return 10 (num 10 12 0) ∷ []

handle_still : still stores_handle comes_to finished [] (pos 0)
handle_still = (grind (arith), refl)

handle_moved : moved stores_handle comes_to stopped [] stop.Stale 9 9
handle_moved = (grind (arith), refl)

-- ****t
abbrev byte_of_inner : ℕ → ℕ → LeftValue
byte_of_inner line col = through line col char (at_pointer line col char_pointer_id (loaded line col char_handle_id (handle_in_block line col)))

-- t = (char ****)NewHandle(4); g = NewHandle(4); **t = g; ****t = 66; NewHandle(1); return ****t; a handle that is kept in a block stays one
handle_in_a_block : run_of (block_of_handles 8 ∷ done_by 9 (put 9 7 char_handle_id 2 (new_handle 9 9 4))
    ∷ done_by 10 (assigned 10 9 char_handle_id (handle_in_block 10 5) (get 10 11 char_handle_id 2))
    ∷ done_by 11 (assigned 11 11 char (byte_of_inner 11 5) (as_kind 11 11 kind.Char (num 11 13 66))) ∷ done_by 12 (new_handle 12 5 1)
    ∷ return 13 (as_kind 13 5 kind.Int (loaded 13 12 char (byte_of_inner 13 12))) ∷ []) (everything ∷ everything ∷ everything ∷ everything ∷ [])
    comes_to finished [] (pos 66)
handle_in_a_block = (grind (arith), refl)
