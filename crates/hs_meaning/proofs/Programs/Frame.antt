-- A pointer that is kept over a call that moves: runs of one program on the heap that never moves, and on heaps that do.
use Rattle.std.proofs.Common.{pos, List, [], ◌∷◌, ◌++◌, refl, arith}
use Rattle.std.specs.Prelude.{codes}
use Rattle.hs_meaning.proofs.Programs.Forms.{as_kind, assigned, through, moves}
use Rattle.hs_meaning.proofs.Programs.Row.{run, ◌comes_to◌}
use Rattle.hs_meaning.proofs.Programs.Terms.{char, get, put, num, at_pointer, done_by, return, new_handle, lock, unlock, putchar, variable, program, no_input}
use Rattle.hs_meaning.proofs.Programs.Terms.{nothing, everything, finished, stopped}
use Rattle.hs_meaning.specs.Runs.{IsSafe}
use Rattle.hs_meaning.specs.declared.outcome.Stop.TheVariants as stop
use Rattle.hs_tree.specs.Trees.{TypedProgram, TypedStatement}
use Rattle.hs_tree.specs.declared.head.VariableDecl.{VariableDecl}
use Rattle.hs_types.specs.Rows.{char_pointer_id, char_handle_id}
use Rattle.hs_types.specs.declared.integer.Integer.TheVariants as kind

-- char **h, **g, *p;
abbrev pub variables : List VariableDecl
variables = variable (codes "h") char_handle_id ∷ variable (codes "g") char_handle_id ∷ variable (codes "p") char_pointer_id ∷ []

-- **h = 65; p = *h;
abbrev pub written : List TypedStatement
written =
    done_by 7 (assigned 7 9 char (through 7 5 char (at_pointer 7 6 char_pointer_id (get 7 7 char_handle_id 0))) (as_kind 7 9 kind.Char (num 7 11 65)))
    ∷ done_by 8 (put 8 7 char_pointer_id 2 (at_pointer 8 9 char_pointer_id (get 8 10 char_handle_id 0)))
    ∷ []

-- g = NewHandle(4); putchar(*p); return 0;
abbrev pub printed : List TypedStatement
printed =
    done_by 10 (put 10 7 char_handle_id 1 (new_handle 10 9 4))
    ∷ done_by 11 (putchar 11 5 (as_kind 11 5 kind.Int (at_pointer 11 13 char (get 11 14 char_pointer_id 2))))
    ∷ return 12 (num 12 12 0)
    ∷ []

-- h = NewHandle(4);
abbrev pub made : TypedStatement
made = done_by 6 (put 6 7 char_handle_id 0 (new_handle 6 9 4))

-- h = NewHandle(4); **h = 65; p = *h; g = NewHandle(4); putchar(*p); return 0;
abbrev pub kept : TypedProgram
kept = program variables (made ∷ written ++ printed)

it_prints : run kept no_input [] 0 comes_to finished (65 ∷ []) (pos 0)
it_prints = (grind (arith), refl)

it_is_stale : run kept no_input (nothing ∷ everything ∷ []) 0 comes_to stopped [] stop.Stale 11 13
it_is_stale = (grind (arith), refl)

-- so it is not safe
it_is_not_safe : ¬ IsSafe kept
it_is_not_safe safe = (safe no_input (nothing ∷ everything ∷ []) 0).1 tt

-- an input that refuses the first allocation
it_is_nil : run kept (record { bytes = []; words = []; refused = 1 ∷ [] }) [] 0 comes_to stopped [] stop.Nil 7 6
it_is_nil = (grind (arith), refl)

-- the first decision is taken before the first block is made
decision_is_early : run kept no_input (everything ∷ nothing ∷ []) 0 comes_to finished (65 ∷ []) (pos 0)
decision_is_early = (grind (arith), refl)

-- no block has the number 0, and the blocks 2 and 9 are not made yet
others_are_named : run kept no_input (nothing ∷ moves (0 ∷ 2 ∷ 9 ∷ []) ∷ []) 0 comes_to finished (65 ∷ []) (pos 0)
others_are_named = (grind (arith), refl)

-- h = NewHandle(4); **h = 65; p = *h; HLock(h); g = NewHandle(4); putchar(*p); return 0;
abbrev locked : TypedProgram
locked = program variables (made ∷ written ++ done_by 9 (lock 9 (get 9 11 char_handle_id 0)) ∷ printed)

locked_stays : run locked no_input (everything ∷ everything ∷ []) 0 comes_to finished (65 ∷ []) (pos 0)
locked_stays = (grind (arith), refl)

-- h = NewHandle(4); HLock(h); **h = 65; p = *h; HUnlock(h); g = NewHandle(4); putchar(*p); return 0;
abbrev unlocked : TypedProgram
unlocked = program variables (made ∷ done_by 6 (lock 6 (get 6 11 char_handle_id 0)) ∷ written ++ done_by 9 (unlock 9 (get 9 13 char_handle_id 0)) ∷ printed)

unlocked_moves : run unlocked no_input (nothing ∷ everything ∷ []) 0 comes_to stopped [] stop.Stale 11 13
unlocked_moves = (grind (arith), refl)

-- g = NewHandle(4); and then the first program: its `h` is the handle of block 2
abbrev second : TypedProgram
second = program variables (done_by 5 (put 5 7 char_handle_id 1 (new_handle 5 9 4)) ∷ made ∷ written ++ printed)

only_another_moves : run second no_input (nothing ∷ nothing ∷ moves (1 ∷ []) ∷ []) 0 comes_to finished (65 ∷ []) (pos 0)
only_another_moves = (grind (arith), refl)

that_one_moves : run second no_input (nothing ∷ nothing ∷ moves (2 ∷ []) ∷ []) 0 comes_to stopped [] stop.Stale 11 13
that_one_moves = (grind (arith), refl)
