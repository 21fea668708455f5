-- What a decision does at a routine that moves, at one that purges, and at one that does neither. The routine here is named `Pass`.
use Rattle.std.proofs.Common.{ℕ, pos, Bool, true, false, List, [], ◌∷◌, ◌++◌, Some, refl, arith}
use Rattle.std.specs.Prelude.{codes}
use Rattle.hs_heap.specs.declared.decision.Decision.{Decision}
use Rattle.hs_heap.specs.declared.decision.Which.TheVariants.{All, These}
use Rattle.hs_meaning.proofs.Programs.Forms.{as_kind, calls, with_routine}
use Rattle.hs_meaning.proofs.Programs.Frame.{variables, made, written}
use Rattle.hs_meaning.proofs.Programs.Row.{Run, run, ◌comes_to◌}
use Rattle.hs_meaning.proofs.Programs.Terms.{new_handle, char, get, put, one, at_pointer, done_by, return, program, no_input, nothing, everything, finished}
use Rattle.hs_meaning.proofs.Programs.Terms.{stopped}
use Rattle.hs_meaning.specs.declared.outcome.Stop.TheVariants as stop
use Rattle.hs_table.specs.declared.role.Role.TheVariants.{Plain}
use Rattle.hs_tree.specs.Trees.{TypedStatement}
use Rattle.hs_tree.specs.Trees as tree
use Rattle.hs_types.specs.Rows.{void_id, char_pointer_id, char_handle_id}
use Rattle.hs_types.specs.declared.integer.Integer.TheVariants as kind

-- h = NewHandle(4); **h = 65; p = *h; HPurge(h); Pass(); and then these; the second decision is the one for `Pass`, if it moves or purges
abbrev run_of : Bool → Bool → List TypedStatement → Decision → Run
run_of moves purges its second =
    run (with_routine (record {
      routine = record { name = codes "Pass"; role = Plain; moves = moves; purges = purges; fills = 0; size = 0 };
      prototype = Some (record { result = void_id; parameters = [] });
    })
    (program variables (made ∷ written ++ done_by 9 (calls 9 5 void_id 5 (one (get 9 12 char_handle_id 0)))
    ∷ done_by 10 (calls 10 5 void_id 16 tree.no_values) ∷ its))) no_input (nothing ∷ second ∷ []) 0

-- the line of `Pass`
abbrev line : List ℕ
line = codes "Pass" ++ 10 ∷ []

abbrev moves_all : Decision
moves_all = record { moves = All; purges = These [] }

abbrev purges_all : Decision
purges_all = record { moves = These []; purges = All }

-- .. return *p;
abbrev reads : List TypedStatement
reads = return 12 (as_kind 12 5 kind.Int (at_pointer 12 12 char (get 12 13 char_pointer_id 2))) ∷ []

-- .. p = *h; return *p;
abbrev reads_again : List TypedStatement
reads_again = done_by 11 (put 11 7 char_pointer_id 2 (at_pointer 11 9 char_pointer_id (get 11 10 char_handle_id 0))) ∷ reads

moved_by_one_that_moves : run_of true false reads moves_all comes_to stopped line stop.Stale 12 12
moved_by_one_that_moves = (grind (arith), refl)

moved_is_not_lost : run_of true false reads_again everything comes_to finished line (pos 65)
moved_is_not_lost = (grind (arith), refl)

not_purged_by_one_that_moves : run_of true false reads purges_all comes_to finished line (pos 65)
not_purged_by_one_that_moves = (grind (arith), refl)

moved_by_one_that_purges : run_of false true reads moves_all comes_to stopped line stop.Stale 12 12
moved_by_one_that_purges = (grind (arith), refl)

moved_and_not_purged : run_of false true reads_again moves_all comes_to finished line (pos 65)
moved_and_not_purged = (grind (arith), refl)

purged_by_one_that_purges : run_of false true reads_again purges_all comes_to stopped line stop.Purged 11 9
purged_by_one_that_purges = (grind (arith), refl)

-- one that does neither takes no decision
untouched : run_of false false reads everything comes_to finished line (pos 65)
untouched = (grind (arith), refl)

-- .. g = NewHandle(4); return *p; the next one takes it
the_next_takes_it : run_of false false (done_by 11 (put 11 7 char_handle_id 1 (new_handle 11 9 4)) ∷ reads) moves_all comes_to stopped line stop.Stale 12 12
the_next_takes_it = (grind (arith), refl)
