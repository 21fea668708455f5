use Rattle.std.proofs.Common.{◌≤◌, length}
use Rattle.hs_syntax.specs.Counts.{all_deepeners}
use Rattle.hs_syntax.proofs.Nestings.{Stands}
use Rattle.hs_syntax.proofs.nesting.shallow.Given as goal

-- The levels are counted, and the tokens that are left decide.
abbrev pub invariant-tokens : goal.invariant-tokens
invariant-tokens l = (all_deepeners l.nesting ≤ 256) × Stands l.nesting l.left l.tokens

abbrev pub decreases-tokens : goal.decreases-tokens
decreases-tokens l = length l.left
