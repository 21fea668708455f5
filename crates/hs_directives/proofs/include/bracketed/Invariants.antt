use Rattle.std.proofs.Common.{◌≡◌, length}
use Rattle.hs_directives.specs.Includes.{with_text, bracketed}
use Rattle.hs_directives.proofs.include.bracketed.Given as goal

-- the name so far, and what follows
abbrev pub invariant-tokens : goal.invariant-tokens
invariant-tokens l = with_text l.name.items (bracketed l.rest) ≡ bracketed l.tokens

abbrev pub decreases-tokens : goal.decreases-tokens
decreases-tokens l = length l.rest
