use Rattle.std.proofs.Common.{◌≡◌, ◌++◌, ℕ, List, map}
use Rattle.hs_macros.specs.Replacement.{plain}
use Rattle.hs_macros.specs.Stacks.{ahead}
use Rattle.hs_macros.proofs.pending.tokens_ahead.Given as goal

-- those that are ready follow those that are left
abbrev pub invariant-loop-token : goal.invariant-loop-token
invariant-loop-token l = (names : List (List ℕ)) → map plain l.token-iterator.iter.rest.now ++ ahead names l.tokens.items ≡ map plain l.run
