-- Loops with `break` and `continue`, and `switch`.
use Rattle.std.proofs.Common.{◌+◌, ℕ, pos, List, [], ◌∷◌, Some, None, refl, arith}
use Rattle.std.specs.Prelude.{codes}
use Rattle.hs_meaning.proofs.Programs.Forms.{compared, counted, of_ints, block_of, labelled, case, default, switch, starts}
use Rattle.hs_meaning.proofs.Programs.Row.{Run, run, ◌comes_to◌}
use Rattle.hs_meaning.proofs.Programs.Terms.{int, get, put, num, local, done_by, return, variable, program, no_input, finished, stopped, at, head}
use Rattle.hs_meaning.specs.declared.outcome.Stop.TheVariants as stop
use Rattle.hs_tree.specs.Trees.{RightValue, TypedStatement}
use Rattle.hs_tree.specs.Trees as tree
use Rattle.hs_tree.specs.declared.operators.Arithmetic.TheVariants.{Add}
use Rattle.hs_tree.specs.declared.operators.Comparison.TheVariants.{Less, Equal}
use Rattle.hs_types.specs.declared.integer.Integer.TheVariants as kind

-- int i, s; i = 0; s = 0; and then these, with eight turns
abbrev run_of : List TypedStatement → Run
run_of its =
    run (program (variable (codes "i") int ∷ variable (codes "s") int ∷ [])
    (done_by 4 (put 4 7 int 0 (num 4 9 0)) ∷ done_by 5 (put 5 7 int 1 (num 5 9 0)) ∷ its)) no_input [] 8

abbrev index : ℕ → ℕ → RightValue
index line col = get line col int 0

-- i++;
abbrev counts : ℕ → TypedStatement
counts line = done_by line (counted line 6 Add (local line 5 int 0))

-- s += n;
abbrev adds : ℕ → RightValue → TypedStatement
adds line n = done_by line (tree.update (head line 7 int) Add kind.Int kind.Int (local line 5 int 1) n)

-- if (i == n) ..
abbrev when : ℕ → ℕ → TypedStatement → TypedStatement
when line n its = tree.if_ (at line 5) (compared line 11 Equal (index line 9) (num line 14 n)) its

abbrev break : ℕ → TypedStatement
break line = tree.break_ (at line 17)

abbrev continue : ℕ → TypedStatement
continue line = tree.continue_ (at line 17)

-- i < n
abbrev below : ℕ → ℕ → ℕ → RightValue
below line col n = compared line (col + 2) Less (index line col) (num line (col + 4) n)

-- for (; i < 4; i++) { .. }
abbrev for_four : List TypedStatement → TypedStatement
for_four its = tree.for_ (at 6 5) None (Some (below 6 12 4)) (Some (counted 6 20 Add (local 6 19 int 0))) (block_of 6 its)

-- while (1) { i++; if (i == 3) break; } return i;
break_of_while : run_of (tree.while_ (at 6 5) (num 6 12 1) (block_of 6 (counts 7 ∷ when 8 3 (break 8) ∷ [])) ∷ return 9 (index 9 12) ∷ [])
    comes_to finished [] (pos 3)
break_of_while = (grind (arith), refl)

-- while (i < 3) { i++; if (i == 2) continue; s += i; } return s;
continue_of_while : run_of (tree.while_ (at 6 5) (below 6 12 3) (block_of 6 (counts 7 ∷ when 8 2 (continue 8) ∷ adds 9 (index 9 10) ∷ []))
    ∷ return 15 (get 15 12 int 1) ∷ []) comes_to finished [] (pos 4)
continue_of_while = (grind (arith), refl)

-- do { i++; if (i == 2) break; } while (1); return i;
break_of_do : run_of (tree.do_ (at 6 5) (block_of 6 (counts 7 ∷ when 8 2 (break 8) ∷ [])) (num 9 12 1) ∷ return 10 (index 10 12) ∷ [])
    comes_to finished [] (pos 2)
break_of_do = (grind (arith), refl)

-- do { i++; continue; s += 1; } while (i < 2); return s + i; `continue` goes to the condition
continue_of_do : run_of (tree.do_ (at 6 5) (block_of 6 (counts 7 ∷ continue 8 ∷ adds 9 (num 9 10 1) ∷ [])) (below 10 14 2)
    ∷ return 15 (of_ints 15 14 Add (get 15 12 int 1) (index 15 16)) ∷ []) comes_to finished [] (pos 2)
continue_of_do = (grind (arith), refl)

-- for (; i < 4; i++) { if (i == 2) break; s += i; } return s;
break_of_for : run_of (for_four (when 7 2 (break 7) ∷ adds 8 (index 8 10) ∷ []) ∷ return 15 (get 15 12 int 1) ∷ []) comes_to finished [] (pos 1)
break_of_for = (grind (arith), refl)

-- for (; i < 4; i++) { if (i == 2) continue; s += i; } return s; after `continue` comes `i++`
continue_of_for : run_of (for_four (when 7 2 (continue 7) ∷ adds 8 (index 8 10) ∷ []) ∷ return 15 (get 15 12 int 1) ∷ []) comes_to finished [] (pos 4)
continue_of_for = (grind (arith), refl)

-- for (; i < 4; i++) { switch (i) { case 1: continue; case 2: break; } s += 1; } return s; only `continue` is of the loop
both_in_switch : run_of (for_four (switch 7 (index 7 13) (labelled (case 8 1 ∷ []) (continue 8) (labelled (case 9 2 ∷ []) (break 9) tree.no_statements))
    ∷ adds 10 (num 10 10 1) ∷ []) ∷ return 15 (get 15 12 int 1) ∷ []) comes_to finished [] (pos 3)
both_in_switch = (grind (arith), refl)

-- for (; i < 4; i++) { int j; if (i == 1) return j; j = 5; } a local of a block lives as long as the call
block_local : run (program (variable (codes "i") int ∷ variable (codes "j") int ∷ [])
    (done_by 4 (put 4 7 int 0 (num 4 9 0)) ∷ for_four (when 7 1 (return 7 (get 7 24 int 1)) ∷ done_by 8 (put 8 7 int 1 (num 8 9 5)) ∷ []) ∷ [])) no_input [] 8
    comes_to finished [] (pos 5)
block_local = (grind (arith), refl)

-- switch (n) { case 1: s = 10; break; default: s = 20; case 3: s += 1; break; case 4: case 5: s = 40; } return s;
abbrev chosen : ℕ → Run
chosen n =
    run_of (switch 6 (num 6 13 n)
    (labelled (case 7 1 ∷ []) (done_by 7 (put 7 7 int 1 (num 7 9 10))) (labelled [] (break 8)
    (labelled (default 9 ∷ []) (done_by 9 (put 9 7 int 1 (num 9 9 20))) (labelled (case 10 3 ∷ []) (adds 10 (num 10 10 1)) (labelled [] (break 11)
    (labelled (case 12 4 ∷ case 12 5 ∷ []) (done_by 12 (put 12 7 int 1 (num 12 9 40))) tree.no_statements))))))
    ∷ return 15 (get 15 12 int 1) ∷ [])

a_case : chosen 1 comes_to finished [] (pos 10)
a_case = (grind (arith), refl)

-- `default` is in the middle, and falls through to the next label
the_default : chosen 2 comes_to finished [] (pos 21)
the_default = (grind (arith), refl)

case_after_default : chosen 3 comes_to finished [] (pos 1)
case_after_default = (grind (arith), refl)

second_label : chosen 5 comes_to finished [] (pos 40)
second_label = (grind (arith), refl)

-- switch (2) { case 1: s = 10; } return s;
no_case : run_of (switch 6 (num 6 13 2) (labelled (case 7 1 ∷ []) (done_by 7 (put 7 7 int 1 (num 7 9 10))) tree.no_statements)
    ∷ return 15 (get 15 12 int 1) ∷ []) comes_to finished [] (pos 0)
no_case = (grind (arith), refl)

-- switch (1) { int i = 5; case 1: return i; } the declaration is not reached
skipped_declaration : run (program (variable (codes "i") int ∷ []) (tree.switch_ (at 6 5) (num 6 13 1)
    (tree.compound (at 6 16) (starts 6 0 (tree.value (num 6 26 5)) ∷ []) (labelled (case 7 1 ∷ []) (return 7 (index 7 22)) tree.no_statements) (at 8 5)) ∷ []))
    no_input [] 0 comes_to stopped [] stop.Undefined 7 22
skipped_declaration = (grind (arith), refl)
