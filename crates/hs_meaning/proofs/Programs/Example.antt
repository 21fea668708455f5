-- The example of docs/MACHINE.md: a pointer that is given to a function which moves memory.
use Rattle.std.proofs.Common.{pos, [], ◌∷◌, refl, arith}
use Rattle.std.specs.Prelude.{codes}
use Rattle.hs_meaning.proofs.Programs.Forms.{as_kind, assigned, body_with, function_with, invoked, through}
use Rattle.hs_meaning.proofs.Programs.Row.{run, ◌comes_to◌}
use Rattle.hs_meaning.proofs.Programs.Terms.{at_pointer, char, done_by, everything, finished, function, get, new_handle, no_input, nothing, num, one}
use Rattle.hs_meaning.proofs.Programs.Terms.{program_with, put, putchar, return, stopped, variable}
use Rattle.hs_meaning.specs.declared.outcome.Stop.TheVariants as stop
use Rattle.hs_tree.specs.Trees.{TypedProgram}
use Rattle.hs_types.specs.Rows.{void_id, char_pointer_id, char_handle_id}
use Rattle.hs_types.specs.TypeTables.{basic_types}
use Rattle.hs_types.specs.declared.integer.Integer.TheVariants as kind

-- void show(char *p) { NewHandle(4); putchar(*p); }
-- int main(void) { char **h; h = NewHandle(1); **h = 65; show(*h); return 0; }
abbrev shows : TypedProgram
shows =
    program_with basic_types []
    (function (variable (codes "h") char_handle_id ∷ [])
    (done_by 6 (put 6 7 char_handle_id 0 (new_handle 6 9 1))
    ∷ done_by 7 (assigned 7 9 char (through 7 5 char (at_pointer 7 6 char_pointer_id (get 7 7 char_handle_id 0))) (as_kind 7 9 kind.Char (num 7 11 65)))
    ∷ done_by 8 (invoked 8 5 void_id 1 (one (at_pointer 8 10 char_pointer_id (get 8 11 char_handle_id 0)))) ∷ return 9 (num 9 12 0) ∷ [])
    ∷ function_with (codes "show") void_id 1 (variable (codes "p") char_pointer_id ∷ [])
    (body_with [] (done_by 20 (new_handle 20 5 4)
    ∷ done_by 21 (putchar 21 5 (as_kind 21 5 kind.Int (at_pointer 21 13 char (get 21 14 char_pointer_id 0)))) ∷ []))
    ∷ [])

it_shows : run shows no_input [] 1 comes_to finished (65 ∷ []) (pos 0)
it_shows = (grind (arith), refl)

it_is_stale : run shows no_input (nothing ∷ everything ∷ []) 1 comes_to stopped [] stop.Stale 21 13
it_is_stale = (grind (arith), refl)

-- the block is not made yet when the first decision is taken
too_early : run shows no_input (everything ∷ []) 1 comes_to finished (65 ∷ []) (pos 0)
too_early = (grind (arith), refl)
