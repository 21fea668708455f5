-- Calls of functions: recursion, arguments, and functions that end without a value.
use Rattle.std.proofs.Common.{ℕ, pos, negsuc, List, [], ◌∷◌, None, refl, arith}
use Rattle.std.specs.Prelude.{codes}
use Rattle.hs_meaning.proofs.Programs.Forms.{as_kind, assigned, compared, invoked, of_ints, two, function_with, body_with, spent, taken_variable, address, id}
use Rattle.hs_meaning.proofs.Programs.Forms.{more_types, through, field, struct_of}
use Rattle.hs_meaning.proofs.Programs.Row.{run, ◌comes_to◌}
use Rattle.hs_meaning.proofs.Programs.Terms.{char, int, get, put, num, one, local, at_pointer, done_by, return, putchar, function, variable, program_with}
use Rattle.hs_meaning.proofs.Programs.Terms.{no_input, finished, stopped, at}
use Rattle.hs_meaning.specs.declared.outcome.Stop.TheVariants as stop
use Rattle.hs_tree.specs.Trees.{TypedProgram, TypedFunction}
use Rattle.hs_tree.specs.Trees as tree
use Rattle.hs_tree.specs.declared.operators.Arithmetic.TheVariants.{Add, Subtract, Multiply}
use Rattle.hs_tree.specs.declared.operators.Comparison.TheVariants.{Equal}
use Rattle.hs_types.specs.Layouts.{integer_layout}
use Rattle.hs_types.specs.Rows.{void_id, char_pointer_id}
use Rattle.hs_types.specs.TypeTables.{TypeTable}
use Rattle.hs_types.specs.declared.integer.Integer.TheVariants as kind
use Rattle.hs_types.specs.declared.row.Row.TheVariants as row

-- type 12 is int *, 13 is struct S { char x; }, and 14 is int **
abbrev types : TypeTable
types = more_types (row.Pointer int ∷ row.Struct 0 ∷ row.Pointer (id 12) ∷ []) (struct_of (field (codes "x") char (integer_layout kind.Char) 0 ∷ []) ∷ [])

abbrev of_functions : List TypedFunction → TypedProgram
of_functions functions = program_with types [] functions

-- int f(int n) { if (n == 0) return 1; return n * f(n - 1); }
abbrev factorial : TypedFunction
factorial =
    function_with (codes "f") int 1 (variable (codes "n") int ∷ []) (body_with []
    (tree.if_ (at 10 5) (compared 10 11 Equal (get 10 9 int 0) (num 10 14 0)) (return 10 (num 10 24 1))
    ∷ return 11 (of_ints 11 14 Multiply (get 11 12 int 0) (invoked 11 16 int 1 (one (of_ints 11 20 Subtract (get 11 18 int 0) (num 11 22 1))))) ∷ []))

-- return f(n);
abbrev of_factorial : ℕ → TypedProgram
of_factorial n = of_functions (function [] (return 6 (invoked 6 12 int 1 (one (num 6 14 n))) ∷ []) ∷ factorial ∷ [])

recursion : run (of_factorial 5) no_input [] 6 comes_to finished [] (pos 120)
recursion = (grind (arith), refl)

recursion_is_spent : run (of_factorial 5) no_input [] 5 comes_to spent []
recursion_is_spent = (grind (arith), refl)

-- 13 factorial has more than 32 bits: 6227020800 is 1932053504 and 4294967296
low_bits : run (of_factorial 13) no_input [] 14 comes_to finished [] (pos 1932053504)
low_bits = (grind (arith), refl)

-- int f(int n) { putchar(n); return n; }   int main(void) { return f(65) - f(66); } operands go from the left
abbrev in_order : TypedProgram
in_order =
    of_functions
    (function [] (return 6 (of_ints 6 18 Subtract (invoked 6 12 int 1 (one (num 6 14 65))) (invoked 6 20 int 1 (one (num 6 22 66)))) ∷ [])
    ∷ function_with (codes "f") int 1 (variable (codes "n") int ∷ [])
    (body_with [] (done_by 10 (putchar 10 5 (get 10 13 int 0)) ∷ return 11 (get 11 12 int 0) ∷ [])) ∷ [])

from_the_left : run in_order no_input [] 2 comes_to finished (65 ∷ 66 ∷ []) (negsuc 0)
from_the_left = (grind (arith), refl)

-- void f(int a, int *p) { *p = a + 1; a = 9; }   int main(void) { int a; a = 3; f(a, &a); return a; } an argument is a copy
abbrev by_address : TypedProgram
by_address =
    of_functions
    (function (taken_variable (codes "a") int ∷ []) (done_by 5 (put 5 7 int 0 (num 5 9 3))
    ∷ done_by 6 (invoked 6 5 void_id 1 (two (get 6 7 int 0) (address 6 10 (id 12) (local 6 11 int 0)))) ∷ return 7 (get 7 12 int 0) ∷ [])
    ∷ function_with (codes "f") void_id 2 (variable (codes "a") int ∷ variable (codes "p") (id 12) ∷ [])
    (body_with [] (done_by 10 (assigned 10 8 int (through 10 5 int (get 10 6 (id 12) 1)) (of_ints 10 12 Add (get 10 10 int 0) (num 10 14 1)))
    ∷ done_by 11 (put 11 7 int 0 (num 11 9 9)) ∷ [])) ∷ [])

given_by_address : run by_address no_input [] 1 comes_to finished [] (pos 4)
given_by_address = (grind (arith), refl)

-- int f(void) { }   int main(void) { return f(); }
no_number : run (of_functions (function [] (return 6 (invoked 6 12 int 1 tree.no_values) ∷ [])
    ∷ function_with (codes "f") int 0 [] (body_with [] []) ∷ [])) no_input [] 1 comes_to finished [] (pos 0)
no_number = (grind (arith), refl)

-- char *f(void) { }   int main(void) { return *f(); }
no_pointer : run (of_functions (function [] (return 6 (as_kind 6 5 kind.Int (at_pointer 6 12 char (invoked 6 13 char_pointer_id 1 tree.no_values))) ∷ [])
    ∷ function_with (codes "f") char_pointer_id 0 [] (body_with [] []) ∷ [])) no_input [] 1 comes_to stopped [] stop.Nil 6 12
no_pointer = (grind (arith), refl)

-- struct S f(void) { }   int main(void) { f(); } at the closing brace
no_struct : run (of_functions (function [] (done_by 6 (invoked 6 5 (id 13) 1 tree.no_values) ∷ [])
    ∷ function_with (codes "f") (id 13) 0 [] (body_with [] []) ∷ [])) no_input [] 1 comes_to stopped [] stop.Nil 99 1
no_struct = (grind (arith), refl)

-- struct S f(void) { return; } at the `return`
return_of_no_struct : run (of_functions (function [] (done_by 6 (invoked 6 5 (id 13) 1 tree.no_values) ∷ [])
    ∷ function_with (codes "f") (id 13) 0 [] (body_with [] (tree.return_ (at 10 5) None ∷ [])) ∷ [])) no_input [] 1 comes_to stopped [] stop.Nil 10 5
return_of_no_struct = (grind (arith), refl)

-- int main(void) { }
main_without_value : run (of_functions (function [] [] ∷ [])) no_input [] 0 comes_to finished [] (pos 0)
main_without_value = (grind (arith), refl)

-- void main(void) { return; }
main_of_void : run (of_functions (function_with (codes "main") void_id 0 [] (body_with [] (tree.return_ (at 5 5) None ∷ [])) ∷ [])) no_input [] 0
    comes_to finished [] (pos 0)
main_of_void = (grind (arith), refl)

-- int f(int n) { int i; if (n) i = 5; return i; }   int main(void) { f(1); return f(0); } each call has locals of its own
locals_begin_undefined : run (of_functions
    (function [] (done_by 5 (invoked 5 5 int 1 (one (num 5 7 1))) ∷ return 6 (invoked 6 12 int 1 (one (num 6 14 0))) ∷ [])
    ∷ function_with (codes "f") int 1 (variable (codes "n") int ∷ variable (codes "i") int ∷ []) (body_with []
    (tree.if_ (at 10 5) (get 10 9 int 0) (done_by 10 (put 10 15 int 1 (num 10 17 5))) ∷ return 11 (get 11 12 int 1) ∷ [])) ∷ [])) no_input [] 2
    comes_to stopped [] stop.Undefined 11 12
locals_begin_undefined = (grind (arith), refl)

-- int f(int *q) { &q; return *q; }   int main(void) { int a; a = 3; &a; return f(&a); } a parameter that is an object
parameter_in_memory : run (of_functions
    (function (taken_variable (codes "a") int ∷ []) (done_by 5 (put 5 7 int 0 (num 5 9 3))
    ∷ return 6 (invoked 6 12 int 1 (one (address 6 14 (id 12) (local 6 15 int 0)))) ∷ [])
    ∷ function_with (codes "f") int 1 (taken_variable (codes "q") (id 12) ∷ []) (body_with []
    (done_by 10 (address 10 5 (id 14) (local 10 6 (id 12) 0)) ∷ return 11 (at_pointer 11 12 int (get 11 13 (id 12) 0)) ∷ [])) ∷ [])) no_input [] 1
    comes_to finished [] (pos 3)
parameter_in_memory = (grind (arith), refl)
