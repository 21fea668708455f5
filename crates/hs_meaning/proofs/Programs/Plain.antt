-- Plain routines: the line that each adds to the output, and how it uses its arguments. The routine here is named `Note`.
use Rattle.std.proofs.Common.{ℕ, pos, true, List, [], ◌∷◌, ◌++◌, refl, arith}
use Rattle.std.specs.Fmt.{digits}
use Rattle.std.specs.Prelude.{codes}
use Rattle.hs_heap.specs.declared.decision.Decision.{Decision}
use Rattle.hs_meaning.proofs.Programs.Forms.{as_kind, calls, minus, two, three, taken_variable, address, loaded, id, more_types, field, struct_of}
use Rattle.hs_meaning.proofs.Programs.Forms.{plain_routine, with_routine, forward}
use Rattle.hs_meaning.proofs.Programs.Frame.{written, made}
use Rattle.hs_meaning.proofs.Programs.Row.{Run, run, ◌comes_to◌}
use Rattle.hs_meaning.proofs.Programs.Terms.{char, int, get, num, one, local, done_by, return, function, variable, program_with, no_input, everything}
use Rattle.hs_meaning.proofs.Programs.Terms.{nothing, finished, stopped, head}
use Rattle.hs_meaning.specs.declared.outcome.Stop.TheVariants as stop
use Rattle.hs_tree.specs.Trees.{RightValue, RightValues, TypedStatement}
use Rattle.hs_tree.specs.Trees as tree
use Rattle.hs_tree.specs.declared.head.VariableDecl.{VariableDecl}
use Rattle.hs_types.specs.Layouts.{integer_layout}
use Rattle.hs_types.specs.Rows.{void_id, integer_id, char_pointer_id, char_handle_id}
use Rattle.hs_types.specs.TypeTables.{TypeTable}
use Rattle.hs_types.specs.declared.integer.Integer.{Integer}
use Rattle.hs_types.specs.declared.integer.Integer.TheVariants as kind
use Rattle.hs_types.specs.declared.row.Row.TheVariants as row
use Rattle.hs_types.specs.declared.row.TypeId.{TypeId}

-- type 12 is struct S { char x; }
abbrev types : TypeTable
types = more_types (row.Struct 0 ∷ []) (struct_of (field (codes "x") char (integer_layout kind.Char) 0 ∷ []) ∷ [])

-- char **h, **g, *p, c; struct S s; the program takes the address of `c`
abbrev variables : List VariableDecl
variables =
    variable (codes "h") char_handle_id ∷ variable (codes "g") char_handle_id ∷ variable (codes "p") char_pointer_id
    ∷ taken_variable (codes "c") char ∷ variable (codes "s") (id 12) ∷ []

-- the run of these in `main`; void Note(..); is declared with those parameters, and moves memory
abbrev run_of : List TypeId → List TypedStatement → List Decision → Run
run_of parameters its schedule =
    run (with_routine (plain_routine (codes "Note") true 0 0 void_id parameters) (program_with types [] (function variables its ∷ []))) no_input schedule 0

-- Note(..);
abbrev notes : ℕ → RightValues → TypedStatement
notes line arguments = done_by line (calls line 5 void_id 16 arguments)

abbrev handle : ℕ → ℕ → RightValue
handle line col = get line col char_handle_id 0

-- -1, as a number of that type
abbrev less : ℕ → Integer → RightValue
less line its = as_kind line 5 its (minus line 10 (num line 11 1))

-- void Note(void);   Note(); Note(); return 0;
no_arguments : run_of [] (notes 6 tree.no_values ∷ notes 7 tree.no_values ∷ return 8 (num 8 12 0) ∷ []) []
    comes_to finished (codes "Note" ++ 10 ∷ codes "Note" ++ 10 ∷ []) (pos 0)
no_arguments = (grind (arith), refl)

-- void Note(int, unsigned);   Note(-1, -1); return 0;
with_signs : run_of (int ∷ integer_id kind.UnsignedInt ∷ [])
    (notes 6 (two (minus 6 10 (num 6 11 1)) (less 6 kind.UnsignedInt)) ∷ return 7 (num 7 12 0) ∷ []) []
    comes_to finished (codes "Note -1 4294967295" ++ 10 ∷ []) (pos 0)
unfolding digits
with_signs = (grind (arith), refl)

-- void Note(char, unsigned char, unsigned short);   Note(-1, -1, -1); return 0;
of_short_types : run_of (char ∷ integer_id kind.UnsignedChar ∷ integer_id kind.UnsignedShort ∷ [])
    (notes 6 (three (less 6 kind.Char) (less 6 kind.UnsignedChar) (less 6 kind.UnsignedShort)) ∷ return 7 (num 7 12 0) ∷ []) []
    comes_to finished (codes "Note -1 255 65535" ++ 10 ∷ []) (pos 0)
unfolding digits
of_short_types = (grind (arith), refl)

-- void Note(int, char *, int);   Note(1, &c, 20); return 0; a pointer is not in the line
pointer_is_not_written : run_of (int ∷ char_pointer_id ∷ int ∷ [])
    (notes 6 (three (num 6 10 1) (address 6 13 char_pointer_id (local 6 14 char 3)) (num 6 17 20)) ∷ return 7 (num 7 12 0) ∷ []) []
    comes_to finished (codes "Note 1 20" ++ 10 ∷ []) (pos 0)
unfolding digits
pointer_is_not_written = (grind (arith), refl)

-- void Note(struct S, int);   Note(s, 0); return 0; nor is a struct, which has no value here
struct_is_not_written : run_of (id 12 ∷ int ∷ []) (notes 6 (two (loaded 6 10 (id 12) (local 6 10 (id 12) 4)) (num 6 13 0)) ∷ return 7 (num 7 12 0) ∷ []) []
    comes_to finished (codes "Note 0" ++ 10 ∷ []) (pos 0)
unfolding digits
struct_is_not_written = (grind (arith), refl)

-- void Note(char *);   Note(0); return 0;
nil_is_used : run_of (char_pointer_id ∷ []) (notes 6 (one (tree.nil (head 6 5 char_pointer_id))) ∷ return 7 (num 7 12 0) ∷ []) []
    comes_to finished (codes "Note" ++ 10 ∷ []) (pos 0)
nil_is_used = (grind (arith), refl)

-- h = NewHandle(4); **h = 65; p = *h; Note(p); the call moves the block before it uses the pointer
made_stale_by_itself : run_of (char_pointer_id ∷ []) (made ∷ written ++ notes 9 (one (get 9 10 char_pointer_id 2)) ∷ []) (nothing ∷ everything ∷ [])
    comes_to stopped [] stop.Stale 9 5
made_stale_by_itself = (grind (arith), refl)

-- .. HLock(h); Note(p); return 0;
locked_argument : run_of (char_pointer_id ∷ []) (made ∷ written ++ done_by 9 (calls 9 5 void_id 1 (one (handle 9 11)))
    ∷ notes 10 (one (get 10 10 char_pointer_id 2)) ∷ return 11 (num 11 12 0) ∷ []) (nothing ∷ everything ∷ [])
    comes_to finished (codes "Note" ++ 10 ∷ []) (pos 0)
locked_argument = (grind (arith), refl)

-- .. Note(p + 9); return 0; a pointer is used, but for its range
out_of_range_argument : run_of (char_pointer_id ∷ []) (made ∷ written ++ notes 9 (one (tree.step (head 9 12 char_pointer_id) (forward 1) true
    (get 9 10 char_pointer_id 2) (num 9 14 9))) ∷ return 10 (num 10 12 0) ∷ []) []
    comes_to finished (codes "Note" ++ 10 ∷ []) (pos 0)
out_of_range_argument = (grind (arith), refl)

-- h = NewHandle(4); DisposeHandle(h); Note(h); nothing is written
disposed_argument : run_of (char_handle_id ∷ []) (made ∷ done_by 7 (calls 7 5 void_id 8 (one (handle 7 19))) ∷ notes 8 (one (handle 8 10)) ∷ []) []
    comes_to stopped [] stop.Disposed 8 5
disposed_argument = (grind (arith), refl)

-- h = NewHandle(4); HPurge(h); Note(h); the call purges the block before it uses the handle
purged_argument : run_of (char_handle_id ∷ [])
    (made ∷ done_by 7 (calls 7 5 void_id 5 (one (handle 7 12))) ∷ notes 8 (one (handle 8 10)) ∷ []) (nothing ∷ everything ∷ [])
    comes_to stopped [] stop.Purged 8 5
purged_argument = (grind (arith), refl)

-- h = NewHandle(4); Note(HGetState(h)); nothing is written
state_argument : run_of (int ∷ []) (made ∷ notes 7 (one (as_kind 7 5 kind.Int (calls 7 10 char 6 (one (handle 7 20))))) ∷ []) []
    comes_to stopped [] stop.BadByte 7 5
state_argument = (grind (arith), refl)

-- h = NewHandle(4); **h = 65; p = *h; Note(HGetState(h), p); the pointer is used first
pointers_first : run_of (int ∷ char_pointer_id ∷ [])
    (made ∷ written ++ notes 9 (two (as_kind 9 5 kind.Int (calls 9 10 char 6 (one (handle 9 20)))) (get 9 24 char_pointer_id 2)) ∷ [])
    (nothing ∷ everything ∷ [])
    comes_to stopped [] stop.Stale 9 5
pointers_first = (grind (arith), refl)
