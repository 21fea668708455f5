use Rattle.std.proofs.Common.{◌≡◌, length}
use Rattle.hs_directives.specs.Conditions.{resolved}
use Rattle.hs_directives.specs.Ahead.{behind_front}
use Rattle.hs_directives.proofs.condition.resolved.Given as goal

-- the tokens so far, and those that follow
abbrev pub invariant-tokens : goal.invariant-tokens
invariant-tokens l = behind_front l.tokens.items (resolved l.macros l.rest) ≡ resolved l.macros l.line

abbrev pub decreases-tokens : goal.decreases-tokens
decreases-tokens l = length l.rest
