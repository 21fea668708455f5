use Rattle.std.proofs.Common.{◌≡◌}
use Rattle.hs_base.specs.declared.pos.Pos.{Pos}
use Rattle.hs_tokens.specs.Forms.{first_bad}
use Rattle.hs_tokens.specs.Ahead.{ahead}
use Rattle.hs_tokens.proofs.literals.first_bad.Given as goal

abbrev pub invariant-characters : goal.invariant-characters
invariant-characters l = (other : Pos) → first_bad other (ahead l.rest) ≡ first_bad other (ahead l.initial.rest)

abbrev pub decreases-characters : goal.decreases-characters
decreases-characters l = l.rest.left
