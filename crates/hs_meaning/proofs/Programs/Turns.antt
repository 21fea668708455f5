-- Turns: each turn of a loop and each call of a function takes one, and a run that needs one more than it has is spent.
use Rattle.std.proofs.Common.{ℕ, pos, List, [], ◌∷◌, ◌++◌, Some, None, refl, arith}
use Rattle.std.specs.Prelude.{codes}
use Rattle.hs_meaning.proofs.Programs.Forms.{compared, counted, invoked, of_ints, function_with, body_with, spent}
use Rattle.hs_meaning.proofs.Programs.Row.{Run, run, ◌comes_to◌}
use Rattle.hs_meaning.proofs.Programs.Terms.{int, get, put, num, local, done_by, return, putchar, function, variable, program, program_with, no_input}
use Rattle.hs_meaning.proofs.Programs.Terms.{finished, at}
use Rattle.hs_tree.specs.Trees.{TypedProgram, TypedStatement}
use Rattle.hs_tree.specs.Trees as tree
use Rattle.hs_tree.specs.declared.operators.Arithmetic.TheVariants.{Add}
use Rattle.hs_tree.specs.declared.operators.Comparison.TheVariants.{Less}
use Rattle.hs_types.specs.TypeTables.{basic_types}

-- int i; and these in `main`, with so many turns
abbrev run_of : List TypedStatement → ℕ → Run
run_of its turns = run (program (variable (codes "i") int ∷ []) its) no_input [] turns

-- for (i = 0; i < n; i++) ;
abbrev counts : ℕ → ℕ → TypedStatement
counts line n =
    tree.for_ (at line 5) (Some (put line 12 int 0 (num line 14 0))) (Some (compared line 19 Less (get line 17 int 0) (num line 21 n)))
    (Some (counted line 25 Add (local line 24 int 0))) (tree.empty (at line 30))

-- for (i = 0; i < 3; i++) ; return 7;
abbrev empty_loop : List TypedStatement
empty_loop = counts 6 3 ∷ return 7 (num 7 12 7) ∷ []

three_turns : run_of empty_loop 3 comes_to finished [] (pos 7)
three_turns = (grind (arith), refl)

one_turn_less : run_of empty_loop 2 comes_to spent []
one_turn_less = (grind (arith), refl)

turns_are_left : run_of empty_loop 9 comes_to finished [] (pos 7)
turns_are_left = (grind (arith), refl)

-- while (0) ; return 7; a condition that is false takes no turn
no_turn : run_of (tree.while_ (at 6 5) (num 6 12 0) (tree.empty (at 6 15)) ∷ return 7 (num 7 12 7) ∷ []) 0 comes_to finished [] (pos 7)
no_turn = (grind (arith), refl)

-- i = 0; do i++; while (i < n); return i; the first turn counts
abbrev repeats : ℕ → List TypedStatement
repeats n =
    done_by 6 (put 6 7 int 0 (num 6 9 0))
    ∷ tree.do_ (at 7 5) (done_by 7 (counted 7 9 Add (local 7 8 int 0))) (compared 7 22 Less (get 7 20 int 0) (num 7 24 n))
    ∷ return 8 (get 8 12 int 0)
    ∷ []

first_turn : run_of (repeats 0) 1 comes_to finished [] (pos 1)
first_turn = (grind (arith), refl)

first_turn_is_spent : run_of (repeats 0) 0 comes_to spent []
first_turn_is_spent = (grind (arith), refl)

three_repeats : run_of (repeats 3) 3 comes_to finished [] (pos 3)
three_repeats = (grind (arith), refl)

two_repeats : run_of (repeats 3) 2 comes_to spent []
two_repeats = (grind (arith), refl)

-- for (;;) putchar(65); what was written is not lost
endless : run_of (tree.for_ (at 6 5) None None None (done_by 6 (putchar 6 14 (num 6 22 65))) ∷ []) 2 comes_to spent (65 ∷ 65 ∷ [])
endless = (grind (arith), refl)

-- int f(void) { .. return 7; }   int main(void) { return f() + f(); }
abbrev calling : List TypedStatement → TypedProgram
calling its =
    program_with basic_types []
    (function [] (return 6 (of_ints 6 16 Add (invoked 6 12 int 1 tree.no_values) (invoked 6 18 int 1 tree.no_values)) ∷ [])
    ∷ function_with (codes "f") int 0 (variable (codes "i") int ∷ []) (body_with [] (its ++ return 12 (num 12 12 7) ∷ []))
    ∷ [])

two_calls : run (calling []) no_input [] 2 comes_to finished [] (pos 14)
two_calls = (grind (arith), refl)

one_call : run (calling []) no_input [] 1 comes_to spent []
one_call = (grind (arith), refl)

-- f has the loop for (i = 0; i < 2; i++) ; so the two calls take six turns
calls_and_loops : run (calling (counts 10 2 ∷ [])) no_input [] 6 comes_to finished [] (pos 14)
calls_and_loops = (grind (arith), refl)

one_less_than_six : run (calling (counts 10 2 ∷ [])) no_input [] 5 comes_to spent []
one_less_than_six = (grind (arith), refl)

-- while (putchar(65)) ; the condition comes before the turn
condition_before_turn : run_of (tree.while_ (at 6 5) (putchar 6 12 (num 6 20 65)) (tree.empty (at 6 25)) ∷ []) 1 comes_to spent (65 ∷ 65 ∷ [])
condition_before_turn = (grind (arith), refl)

-- do putchar(65); while (1); and after it of a `do`
turn_before_body : run_of (tree.do_ (at 6 5) (done_by 6 (putchar 6 8 (num 6 16 65))) (num 6 28 1) ∷ []) 1 comes_to spent (65 ∷ [])
turn_before_body = (grind (arith), refl)
