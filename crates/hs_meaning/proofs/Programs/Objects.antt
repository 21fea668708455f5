-- Uses of objects that stop a run, and where: arrays, ended objects, values that are missing, and pointers that are of two objects.
use Rattle.std.proofs.Common.{ℕ, pos, List, [], ◌∷◌, refl, arith}
use Rattle.std.specs.Prelude.{true, codes}
use Rattle.hs_meaning.proofs.Programs.Forms.{as_kind, assigned, calls, invoked, element, loaded, plus, decay, address, id, more_types, function_with}
use Rattle.hs_meaning.proofs.Programs.Forms.{body_with, taken_variable}
use Rattle.hs_meaning.proofs.Programs.Row.{run, ◌comes_to◌}
use Rattle.hs_meaning.proofs.Programs.Terms.{char, int, get, put, num, one, local, at_pointer, done_by, return, function, variable, program_with, no_input}
use Rattle.hs_meaning.proofs.Programs.Terms.{finished, stopped, head}
use Rattle.hs_meaning.specs.declared.outcome.Stop.TheVariants as stop
use Rattle.hs_tree.specs.Trees.{RightValue, LeftValue, TypedProgram, TypedStatement}
use Rattle.hs_tree.specs.Trees as tree
use Rattle.hs_tree.specs.declared.head.VariableDecl.{VariableDecl}
use Rattle.hs_tree.specs.declared.operators.Comparison.TheVariants.{Less, Equal}
use Rattle.hs_types.specs.Rows.{void_id, char_pointer_id}
use Rattle.hs_types.specs.TypeTables.{TypeTable}
use Rattle.hs_types.specs.declared.integer.Integer.TheVariants as kind
use Rattle.hs_types.specs.declared.row.Row.TheVariants as row

-- type 12 is char[2]
abbrev types : TypeTable
types = more_types (row.Array char 2 (record { size = 2; even = true; characters = true }) ∷ []) []

-- char a[2], b[2], c; int i; main takes the address of `c`
abbrev variables : List VariableDecl
variables = variable (codes "a") (id 12) ∷ variable (codes "b") (id 12) ∷ taken_variable (codes "c") char ∷ variable (codes "i") int ∷ []

abbrev of_main : List TypedStatement → TypedProgram
of_main its = program_with types [] (function variables its ∷ [])

-- an array as a pointer
abbrev front : ℕ → ℕ → ℕ → RightValue
front line col place = decay line col char_pointer_id (local line col (id 12) place)

-- a[n]
abbrev item : ℕ → ℕ → RightValue → LeftValue
item line col n = element line col char 1 (front line 5 0) n

-- a[1] = 65; return a[1];
in_range : run (of_main (done_by 6 (assigned 6 10 char (item 6 6 (num 6 7 1)) (as_kind 6 10 kind.Char (num 6 12 65)))
    ∷ return 7 (as_kind 7 5 kind.Int (loaded 7 13 char (item 7 13 (num 7 14 1)))) ∷ [])) no_input [] 0
    comes_to finished [] (pos 65)
in_range = (grind (arith), refl)

-- a[2] = 65; a store is done at its `=`
store_past_the_end : run (of_main (done_by 6 (assigned 6 10 char (item 6 6 (num 6 7 2)) (as_kind 6 10 kind.Char (num 6 12 65))) ∷ [])) no_input [] 0
    comes_to stopped [] stop.Range 6 10
store_past_the_end = (grind (arith), refl)

-- return a[1];
undefined_cell : run (of_main (return 6 (as_kind 6 5 kind.Int (loaded 6 13 char (item 6 13 (num 6 14 1)))) ∷ [])) no_input [] 0
    comes_to stopped [] stop.Undefined 6 13
undefined_cell = (grind (arith), refl)

-- return i;
undefined_slot : run (of_main (return 6 (get 6 12 int 3) ∷ [])) no_input [] 0 comes_to stopped [] stop.Undefined 6 12
undefined_slot = (grind (arith), refl)

-- return a < b;
order_of_two : run (of_main (return 6 (tree.compare_pointers (head 6 14 int) Less (front 6 12 0) (front 6 16 1)) ∷ [])) no_input [] 0
    comes_to stopped [] stop.BadPointer 6 14
order_of_two = (grind (arith), refl)

-- return a < a + 2; the second pointer is past the end, and is not used
order_in_one : run (of_main (return 6 (tree.compare_pointers (head 6 14 int) Less
    (front 6 12 0) (plus 6 18 char_pointer_id 1 (front 6 16 0) (num 6 20 2))) ∷ [])) no_input [] 0
    comes_to finished [] (pos 1)
order_in_one = (grind (arith), refl)

-- return a == b; equality is of any two pointers
equality_of_two : run (of_main (return 6 (tree.compare_pointers (head 6 14 int) Equal (front 6 12 0) (front 6 17 1)) ∷ [])) no_input [] 0
    comes_to finished [] (pos 0)
equality_of_two = (grind (arith), refl)

-- return a - b;
difference_of_two : run (of_main (return 6 (as_kind 6 5 kind.Int (tree.difference (head 6 14 (id 8)) 1 (front 6 12 0) (front 6 16 1))) ∷ [])) no_input [] 0
    comes_to stopped [] stop.BadPointer 6 14
difference_of_two = (grind (arith), refl)

-- DisposPtr(&c);
dispose_of_variable : run (of_main (done_by 6 (calls 6 5 void_id 14 (one (address 6 15 char_pointer_id (local 6 16 char 2)))) ∷ [])) no_input [] 0
    comes_to stopped [] stop.BadPointer 6 5
dispose_of_variable = (grind (arith), refl)

-- char *f(void) { char c; c = 65; return &c; }   int main(void) { return *f(); }
abbrev dangling : TypedProgram
dangling =
    program_with types []
    (function [] (return 6 (as_kind 6 5 kind.Int (at_pointer 6 12 char (invoked 6 13 char_pointer_id 1 tree.no_values))) ∷ [])
    ∷ function_with (codes "f") char_pointer_id 0 (taken_variable (codes "c") char ∷ [])
    (body_with [] (done_by 10 (put 10 7 char 0 (as_kind 10 7 kind.Char (num 10 9 65)))
    ∷ return 11 (address 11 12 char_pointer_id (local 11 13 char 0)) ∷ []))
    ∷ [])

local_is_gone : run dangling no_input [] 1 comes_to stopped [] stop.Gone 6 12
local_is_gone = (grind (arith), refl)
