-- Statements and expressions that other rows leave out: `else`, a `return` inside a switch, declarations of two names, values of assignments,
-- decisions that are taken after arguments, and what initialisers store.
use Rattle.std.proofs.Common.{ℕ, pos, negsuc, true, false, List, [], ◌∷◌, ◌++◌, Some, None, refl, arith}
use Rattle.std.specs.Prelude.{codes}
use Rattle.hs_heap.specs.declared.decision.Decision.{Decision}
use Rattle.hs_meaning.proofs.Programs.Forms.{as_kind, body_with, case, decay, forward, function_with, id, labelled, loaded, minus, more_types}
use Rattle.hs_meaning.proofs.Programs.Forms.{of_ints, plain_routine, spent, switch, with_routine}
use Rattle.hs_meaning.proofs.Programs.Frame.{made, written}
use Rattle.hs_meaning.proofs.Programs.Row.{Run, run, ◌comes_to◌}
use Rattle.hs_meaning.proofs.Programs.Terms.{at, at_pointer, char, done_by, everything, finished, function, get, head, int, local, long, no_input, num}
use Rattle.hs_meaning.proofs.Programs.Terms.{nothing, one, program_with, put, putchar, return, stopped, variable}
use Rattle.hs_meaning.specs.declared.outcome.Stop.TheVariants as stop
use Rattle.hs_tree.specs.Trees.{RightValue, TypedDeclaration, TypedStatement}
use Rattle.hs_tree.specs.Trees as tree
use Rattle.hs_tree.specs.declared.head.VariableDecl.{VariableDecl}
use Rattle.hs_tree.specs.declared.operators.Arithmetic.TheVariants.{Add, BitAnd, BitOr, Remainder}
use Rattle.hs_tree.specs.declared.operators.Unary.TheVariants.{Plus}
use Rattle.hs_types.specs.Rows.{void_id, integer_id, char_pointer_id, char_handle_id}
use Rattle.hs_types.specs.TypeTables.{TypeTable}
use Rattle.hs_types.specs.declared.integer.Integer.TheVariants as kind
use Rattle.hs_types.specs.declared.row.Row.TheVariants as row

-- type 12 is char[3]
abbrev types : TypeTable
types = more_types (row.Array char 3 (record { size = 3; even = true; characters = true }) ∷ []) []

-- char **h, **g, *p, a[3], c; int i, j;
abbrev variables : List VariableDecl
variables =
    variable (codes "h") char_handle_id ∷ variable (codes "g") char_handle_id ∷ variable (codes "p") char_pointer_id
    ∷ variable (codes "a") (id 12) ∷ variable (codes "c") char ∷ variable (codes "i") int ∷ variable (codes "j") int ∷ []

-- a `main` with these declarations and statements
abbrev starts_with : List TypedDeclaration → List TypedStatement → Run
starts_with declarations its = run (program_with types [] (function_with (codes "main") int 0 variables (body_with declarations its) ∷ [])) no_input [] 0

abbrev run_of : List TypedStatement → Run
run_of its = starts_with [] its

-- return e;
abbrev gives : RightValue → Run
gives e = run_of (return 6 e ∷ [])

-- ---- statements

-- if (n) return 5; else return 6;
abbrev chooses : ℕ → Run
chooses n = run_of (tree.if_else (at 6 5) (num 6 9 n) (return 7 (num 7 12 5)) (return 8 (num 8 12 6)) ∷ [])

first_branch : chooses 3 comes_to finished [] (pos 5)
first_branch = (grind (arith), refl)

second_branch : chooses 0 comes_to finished [] (pos 6)
second_branch = (grind (arith), refl)

-- switch (1) { case 1: return 5; } return 6;
return_of_switch : run_of (switch 6 (num 6 13 1) (labelled (case 7 1 ∷ []) (return 7 (num 7 12 5)) tree.no_statements) ∷ return 8 (num 8 12 6) ∷ [])
    comes_to finished [] (pos 5)
return_of_switch = (grind (arith), refl)

-- int i = 5, j = i + 1; return j; the names of a declaration in their order
two_names : starts_with
    (record {
      at = at 4 5;
      items =
          record { variable = 5; at = at 4 9; start = tree.value (num 4 13 5) }
          ∷ record { variable = 6; at = at 4 16; start = tree.value (of_ints 4 22 Add (get 4 20 int 5) (num 4 24 1)) } ∷ [];
    } ∷ [])
    (return 6 (get 6 12 int 6) ∷ [])
    comes_to finished [] (pos 6)
two_names = (grind (arith), refl)

-- ---- values of expressions

-- return 0 || putchar(65); 1, and not the second operand
or_is_one : gives (tree.or (head 6 14 int) (num 6 12 0) (putchar 6 17 (num 6 25 65))) comes_to finished (65 ∷ []) (pos 1)
or_is_one = (grind (arith), refl)

-- return +5;
plus_sign : gives (tree.unary (head 6 12 int) Plus kind.Int (num 6 13 5)) comes_to finished [] (pos 5)
plus_sign = (grind (arith), refl)

-- return 12 & 10; and return 12 | 10;
common_bits : gives (of_ints 6 15 BitAnd (num 6 12 12) (num 6 17 10)) comes_to finished [] (pos 8)
common_bits = (grind (arith), refl)

all_bits : gives (of_ints 6 15 BitOr (num 6 12 12) (num 6 17 10)) comes_to finished [] (pos 14)
all_bits = (grind (arith), refl)

-- return (unsigned)-7 % 2u; which is 4294967289 % 2
unsigned_remainder : gives (as_kind 6 5 kind.Int (tree.arithmetic (head 6 25 (integer_id kind.UnsignedInt)) Remainder kind.UnsignedInt
    (tree.cast (head 6 12 (integer_id kind.UnsignedInt)) (as_kind 6 12 kind.UnsignedInt (minus 6 22 (num 6 23 7))))
    (tree.number (head 6 27 (integer_id kind.UnsignedInt)) 2)))
    comes_to finished [] (pos 1)
unsigned_remainder = (grind (arith), refl)

-- c = 127; return c += 1; the value is that of the character
value_of_update : run_of (done_by 5 (put 5 7 char 4 (as_kind 5 7 kind.Char (num 5 9 127)))
    ∷ return 6 (as_kind 6 5 kind.Int (tree.update (head 6 14 char) Add kind.Int kind.Char (local 6 12 char 4) (num 6 17 1))) ∷ [])
    comes_to finished [] (negsuc 127)
value_of_update = (grind (arith), refl)

abbrev front : ℕ → RightValue
front line = decay line 9 char_pointer_id (local line 9 (id 12) 3)

abbrev pointer : ℕ → ℕ → RightValue
pointer line col = get line col char_pointer_id 2

-- p = a; p += (p = p + 1, 1); return p - a; the old pointer is read first
old_pointer_first : run_of (done_by 5 (put 5 7 char_pointer_id 2 (front 5))
    ∷ done_by 6 (tree.advance (head 6 7 char_pointer_id) (forward 1) (local 6 5 char_pointer_id 2) (tree.comma (head 6 21 int)
    (one (put 6 13 char_pointer_id 2 (tree.step (head 6 17 char_pointer_id) (forward 1) true (pointer 6 15) (num 6 19 1)))) (num 6 23 1)))
    ∷ return 7 (as_kind 7 5 kind.Int (tree.difference (head 7 14 long) 1 (pointer 7 12) (front 7))) ∷ [])
    comes_to finished [] (pos 1)
old_pointer_first = (grind (arith), refl)

-- p = 2 + a; return p - a; the number is on the left
number_on_the_left : run_of (done_by 5 (put 5 7 char_pointer_id 2 (tree.step (head 5 11 char_pointer_id) (forward 1) false (num 5 9 2) (front 5)))
    ∷ return 7 (as_kind 7 5 kind.Int (tree.difference (head 7 14 long) 1 (pointer 7 12) (front 7))) ∷ [])
    comes_to finished [] (pos 2)
number_on_the_left = (grind (arith), refl)

-- 2[a] = 65; return a[2];
index_on_the_left : run_of
    (done_by 5 (tree.assign (head 5 10 char) (tree.element (head 5 6 char) 1 false (num 5 5 2) (front 5)) (as_kind 5 10 kind.Char (num 5 12 65)))
    ∷ return 6 (as_kind 6 5 kind.Int (loaded 6 13 char (tree.element (head 6 13 char) 1 true (front 6) (num 6 14 2)))) ∷ [])
    comes_to finished [] (pos 65)
index_on_the_left = (grind (arith), refl)

-- ---- calls

-- int f(char *q) { putchar(66); return *q; }, with an array of that length, and a `main` with these, with that number of turns
abbrev calling : ℕ → List TypedStatement → List Decision → ℕ → Run
calling length its schedule turns =
    run (with_routine (plain_routine (codes "segment 2") true 0 0 void_id [])
    (program_with (more_types (row.Array char length (record { size = length; even = true; characters = true }) ∷ []) [])
    [] (function variables (made ∷ written ++ its)
    ∷ function_with (codes "f") int 1 (variable (codes "q") char_pointer_id ∷ [])
    (body_with [] (done_by 19 (putchar 19 5 (num 19 13 66))
    ∷ return 20 (as_kind 20 5 kind.Int (at_pointer 20 12 char (get 20 13 char_pointer_id 0))) ∷ []))
    ∷ []))) no_input schedule turns

-- *h, and return f(*h);
abbrev master : RightValue
master = at_pointer 10 14 char_pointer_id (get 10 15 char_handle_id 0)

-- h = NewHandle(4); **h = 65; .. return f(*h); by way of a routine: the master pointer is read before the decision
abbrev bound : List TypedStatement
bound = return 10 (tree.call (head 10 12 int) 1 (Some 16) (one master)) ∷ []

bound_still : calling 3 bound [] 1 comes_to finished (66 ∷ []) (pos 65)
bound_still = (grind (arith), refl)

bound_moved : calling 3 bound (nothing ∷ everything ∷ []) 1 comes_to stopped (66 ∷ []) stop.Stale 20 12
bound_moved = (grind (arith), refl)

-- return f(*h); the turn is taken before the function does anything
unbound_spent : calling 3 (return 10 (tree.call (head 10 12 int) 1 None (one master)) ∷ []) [] 0 comes_to spent []
unbound_spent = (grind (arith), refl)
