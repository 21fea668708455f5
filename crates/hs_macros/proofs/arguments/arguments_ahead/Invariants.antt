use Rattle.std.proofs.Common.{◌≡◌, ◌+◌, ◌≤◌, ℕ, List, [], map, length}
use Rattle.hs_macros.specs.Arguments.{arguments_from}
use Rattle.hs_macros.specs.Stacks.{ahead, done, collected}
use Rattle.hs_macros.proofs.arguments.arguments_ahead.Given as goal

-- the arguments so far, and those that the tokens ahead have, are all; each open parenthesis was a token
abbrev pub invariant-tokens : goal.invariant-tokens
invariant-tokens l = record {
  same : (names : List (List ℕ))
      → collected (map (λ argument. done names argument.items) l.given.items) (done names l.argument.items)
      (arguments_from l.depth (ahead names l.tokens.items))
      ≡ collected [] [] (arguments_from 0 (ahead names l.initial.tokens.items));
  few : l.depth + length l.tokens.items ≤ length l.initial.tokens.items;
}

-- each turn takes a token
abbrev pub decreases-tokens : goal.decreases-tokens
decreases-tokens l = length l.tokens.items
