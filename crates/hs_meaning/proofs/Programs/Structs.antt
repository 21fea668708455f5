-- Structs: copied, passed and returned, and their fields through pointers.
use Rattle.std.proofs.Common.{ℕ, pos, List, [], ◌∷◌, refl, arith}
use Rattle.std.specs.Prelude.{codes}
use Rattle.hs_heap.specs.declared.decision.Decision.{Decision}
use Rattle.hs_meaning.proofs.Programs.Forms.{as_kind, as_pointer, assigned, nil, invoked, of_ints, function_with, body_with, taken_variable, address, loaded}
use Rattle.hs_meaning.proofs.Programs.Forms.{through, id, more_types, field, struct_of}
use Rattle.hs_meaning.proofs.Programs.Row.{Run, run, ◌comes_to◌}
use Rattle.hs_meaning.proofs.Programs.Terms.{char, get, put, num, one, local, at_pointer, done_by, return, function, variable, program_with, no_input}
use Rattle.hs_meaning.proofs.Programs.Terms.{new_handle, everything, finished, stopped, head}
use Rattle.hs_meaning.specs.declared.outcome.Stop.TheVariants as stop
use Rattle.hs_tree.specs.Trees.{RightValue, LeftValue, TypedFunction, TypedStatement}
use Rattle.hs_tree.specs.Trees as tree
use Rattle.hs_tree.specs.declared.head.VariableDecl.{VariableDecl}
use Rattle.hs_tree.specs.declared.operators.Arithmetic.TheVariants.{Add, Subtract}
use Rattle.hs_types.specs.Layouts.{integer_layout, word_layout}
use Rattle.hs_types.specs.Rows.{char_pointer_id}
use Rattle.hs_types.specs.TypeTables.{TypeTable}
use Rattle.hs_types.specs.declared.integer.Integer.TheVariants as kind
use Rattle.hs_types.specs.declared.row.Row.TheVariants as row

-- type 12 is struct S { char c; char *p; }, 13 is struct S *, and 14 is struct S **
abbrev types : TypeTable
types =
    more_types (row.Struct 0 ∷ row.Pointer (id 12) ∷ row.Pointer (id 13) ∷ [])
    (struct_of (field (codes "c") char (integer_layout kind.Char) 0 ∷ field (codes "p") char_pointer_id word_layout 2 ∷ []) ∷ [])

-- struct S s, t; char a; struct S *q, **h; char *r; the program takes the addresses of `s`, `a` and the field `c`
abbrev variables : List VariableDecl
variables =
    taken_variable (codes "s") (id 12) ∷ variable (codes "t") (id 12) ∷ taken_variable (codes "a") char
    ∷ variable (codes "q") (id 13) ∷ variable (codes "h") (id 14) ∷ variable (codes "r") char_pointer_id ∷ []

abbrev run_of : List TypedFunction → List TypedStatement → List Decision → Run
run_of functions its schedule =
    run (record (program_with types [] (function variables its ∷ functions)) { taken = record { of = 0; place = 0 } ∷ [] }) no_input schedule 1

-- s.c, s.p and t.c, t.p: of the local of that place
abbrev c_of : ℕ → ℕ → ℕ → LeftValue
c_of line col place = tree.member (head line col char) (record { of = 0; place = 0 }) 0 (local line 5 (id 12) place)

abbrev p_of : ℕ → ℕ → ℕ → LeftValue
p_of line col place = tree.member (head line col char_pointer_id) (record { of = 0; place = 1 }) 2 (local line 5 (id 12) place)

-- e->c
abbrev c_at : ℕ → ℕ → RightValue → LeftValue
c_at line col e = tree.arrow (head line col char) (record { of = 0; place = 0 }) 0 e

-- the object, as an int
abbrev value : ℕ → ℕ → LeftValue → RightValue
value line col object = as_kind line col kind.Int (loaded line col char object)

-- l = n; of a char
abbrev sets : ℕ → LeftValue → ℕ → TypedStatement
sets line object n = done_by line (assigned line 9 char object (as_kind line 9 kind.Char (num line 11 n)))

-- a = 66; s.c = 65; s.p = &a; t = s; return t.c + *t.p;
copied : run_of [] (sets 6 (local 6 5 char 2) 66 ∷ sets 7 (c_of 7 6 0) 65
    ∷ done_by 8 (assigned 8 9 char_pointer_id (p_of 8 6 0) (address 8 11 char_pointer_id (local 8 12 char 2)))
    ∷ done_by 9 (assigned 9 7 (id 12) (local 9 5 (id 12) 1) (loaded 9 9 (id 12) (local 9 9 (id 12) 0)))
    ∷ return 10 (of_ints 10 16 Add (value 10 13 (c_of 10 13 1)) (value 10 18 (through 10 18 char (loaded 10 20 char_pointer_id (p_of 10 20 1))))) ∷ []) []
    comes_to finished [] (pos 131)
copied = (grind (arith), refl)

-- return s.c; of a struct that has no value yet
undefined_field : run_of [] (return 6 (value 6 13 (c_of 6 13 0)) ∷ []) [] comes_to stopped [] stop.Undefined 6 13
undefined_field = (grind (arith), refl)

-- s.c = 65; t = s; s.c = 66; return t.c; `s.p` has no value, and is copied nevertheless
copied_in_part : run_of [] (sets 6 (c_of 6 6 0) 65
    ∷ done_by 7 (assigned 7 7 (id 12) (local 7 5 (id 12) 1) (loaded 7 9 (id 12) (local 7 9 (id 12) 0)))
    ∷ sets 8 (c_of 8 6 0) 66 ∷ return 9 (value 9 13 (c_of 9 13 1)) ∷ []) []
    comes_to finished [] (pos 65)
copied_in_part = (grind (arith), refl)

-- struct S f(struct S x) { x.c = 70; return x; }
abbrev changing : TypedFunction
changing =
    function_with (codes "f") (id 12) 1 (variable (codes "x") (id 12) ∷ [])
    (body_with [] (sets 20 (c_of 20 6 0) 70 ∷ return 21 (loaded 21 12 (id 12) (local 21 12 (id 12) 0)) ∷ []))

-- s.c = 65; t = f(s); return t.c - s.c; the parameter is a copy
passed_and_returned : run_of (changing ∷ []) (sets 6 (c_of 6 6 0) 65
    ∷ done_by 7 (assigned 7 7 (id 12) (local 7 5 (id 12) 1) (invoked 7 9 (id 12) 1 (one (loaded 7 11 (id 12) (local 7 11 (id 12) 0)))))
    ∷ return 8 (of_ints 8 16 Subtract (value 8 13 (c_of 8 13 1)) (value 8 19 (c_of 8 19 0))) ∷ []) []
    comes_to finished [] (pos 5)
passed_and_returned = (grind (arith), refl)

-- q = &s; q->c = 65; return s.c;
through_pointer : run_of [] (done_by 6 (put 6 7 (id 13) 3 (address 6 9 (id 13) (local 6 10 (id 12) 0))) ∷ sets 7 (c_at 7 6 (get 7 5 (id 13) 3)) 65
    ∷ return 8 (value 8 13 (c_of 8 13 0)) ∷ []) []
    comes_to finished [] (pos 65)
through_pointer = (grind (arith), refl)

-- q = 0; r = &q->c; a field is found by arithmetic
field_of_nil : run_of [] (done_by 6 (put 6 7 (id 13) 3 (nil 6 7 (id 13))) ∷ done_by 7 (put 7 7 char_pointer_id 5 (address 7 9 char_pointer_id
    (c_at 7 11 (get 7 10 (id 13) 3)))) ∷ []) []
    comes_to stopped [] stop.Nil 7 11
field_of_nil = (grind (arith), refl)

-- h = (struct S **)NewHandle(6);
abbrev made : TypedStatement
made = done_by 6 (put 6 7 (id 14) 4 (tree.cast (head 6 9 (id 14)) (as_pointer 6 9 (id 14) (new_handle 6 21 6))))

-- (*h)->c, with its `->` in that column
abbrev c_in_block : ℕ → ℕ → LeftValue
c_in_block line col = c_at line col (at_pointer line 6 (id 13) (get line 7 (id 14) 4))

-- NewHandle(1);
abbrev allocates : ℕ → TypedStatement
allocates line = done_by line (new_handle line 5 1)

-- .. (*h)->c = 65; NewHandle(1); return (*h)->c; the master pointer is read again
read_again : run_of [] (made ∷ sets 7 (c_in_block 7 9) 65 ∷ allocates 8 ∷ return 9 (value 9 16 (c_in_block 9 16)) ∷ []) (everything ∷ everything ∷ [])
    comes_to finished [] (pos 65)
read_again = (grind (arith), refl)

-- .. (*h)->c = 65; r = &(*h)->c; NewHandle(1); return *r;
address_of_field : run_of [] (made ∷ sets 7 (c_in_block 7 9) 65 ∷ done_by 8 (put 8 7 char_pointer_id 5 (address 8 9 char_pointer_id (c_in_block 8 14)))
    ∷ allocates 9 ∷ return 10 (value 10 12 (through 10 12 char (get 10 13 char_pointer_id 5))) ∷ []) (everything ∷ everything ∷ [])
    comes_to stopped [] stop.Stale 10 12
address_of_field = (grind (arith), refl)
