use Rattle.std.proofs.Common.{◌≡◌, ◌≤◌, ◌+◌, length}
use Rattle.hs_tokens.specs.Forms.{characters}
use Rattle.hs_tokens.specs.Ahead.{ahead}
use Rattle.hs_tokens.proofs.literals.character_count.Given as goal

abbrev pub invariant-characters : goal.invariant-characters
invariant-characters l = record {
  count : l.count + length (characters (ahead l.rest)) ≡ length (characters (ahead l.initial.rest));
  left : l.count + l.rest.left ≤ l.initial.rest.left;
}

abbrev pub decreases-characters : goal.decreases-characters
decreases-characters l = l.rest.left
