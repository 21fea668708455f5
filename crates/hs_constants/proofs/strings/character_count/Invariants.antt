use Rattle.std.proofs.Common.{◌≡◌, ◌≤◌, ◌+◌, length}
use Rattle.hs_constants.specs.Characters.{characters_of}
use Rattle.hs_constants.proofs.strings.character_count.Given as goal

-- the characters so far and those ahead are all
abbrev pub invariant-characters : goal.invariant-characters
invariant-characters l = record {
  all : l.count + length (characters_of l.rest) ≡ length (characters_of l.content);
  fits : l.count + length l.rest ≤ length l.content;
}

abbrev pub decreases-characters : goal.decreases-characters
decreases-characters l = length l.rest
