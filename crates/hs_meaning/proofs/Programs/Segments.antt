-- Calls of functions that are bound to a routine that moves memory, as a call between two segments is.
use Rattle.std.proofs.Common.{ℕ, pos, true, List, [], ◌∷◌, ◌++◌, Some, refl, arith}
use Rattle.std.specs.Prelude.{codes}
use Rattle.hs_heap.specs.declared.decision.Decision.{Decision}
use Rattle.hs_meaning.proofs.Programs.Forms.{as_kind, function_with, body_with, plain_routine, with_routine, spent}
use Rattle.hs_meaning.proofs.Programs.Frame.{variables, made, written}
use Rattle.hs_meaning.proofs.Programs.Row.{Run, run, ◌comes_to◌}
use Rattle.hs_meaning.proofs.Programs.Terms.{variable, char, int, get, one, lock, at_pointer, done_by, return, function, program_with, no_input, nothing}
use Rattle.hs_meaning.proofs.Programs.Terms.{everything, finished, stopped, head}
use Rattle.hs_meaning.specs.declared.outcome.Stop.TheVariants as stop
use Rattle.hs_tree.specs.Trees.{TypedStatement}
use Rattle.hs_tree.specs.Trees as tree
use Rattle.hs_types.specs.Rows.{void_id, char_pointer_id, char_handle_id}
use Rattle.hs_types.specs.TypeTables.{basic_types}
use Rattle.hs_types.specs.declared.integer.Integer.TheVariants as kind

-- int f(char *q) { return *q; }, and a `main` with these, with that number of turns
abbrev run_of : List TypedStatement → List Decision → ℕ → Run
run_of its schedule turns =
    run (with_routine (plain_routine (codes "segment 2") true 0 0 void_id []) (program_with basic_types []
    (function variables (made ∷ written ++ its)
    ∷ function_with (codes "f") int 1 (variable (codes "q") char_pointer_id ∷ [])
    (body_with [] (return 20 (as_kind 20 5 kind.Int (at_pointer 20 12 char (get 20 13 char_pointer_id 0))) ∷ []))
    ∷ []))) no_input schedule turns

-- return f(p); by way of the routine of number 16
abbrev bound : TypedStatement
bound = return 10 (tree.call (head 10 12 int) 1 (Some 16) (one (get 10 14 char_pointer_id 2)))

-- h = NewHandle(4); **h = 65; p = *h; return f(p); the routine writes nothing
still_call : run_of (bound ∷ []) [] 1 comes_to finished [] (pos 65)
still_call = (grind (arith), refl)

-- the decision comes after the arguments, and before the called function uses them
moving_call : run_of (bound ∷ []) (nothing ∷ everything ∷ []) 1 comes_to stopped [] stop.Stale 20 12
moving_call = (grind (arith), refl)

-- .. HLock(h); return f(p);
locked_call : run_of (done_by 9 (lock 9 (get 9 11 char_handle_id 0)) ∷ bound ∷ []) (nothing ∷ everything ∷ []) 1 comes_to finished [] (pos 65)
locked_call = (grind (arith), refl)

-- the call takes one turn, as any call of a function
spent_call : run_of (bound ∷ []) (nothing ∷ everything ∷ []) 0 comes_to spent []
spent_call = (grind (arith), refl)
