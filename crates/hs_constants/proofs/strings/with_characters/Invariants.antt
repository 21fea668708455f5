use Rattle.std.proofs.Common.{◌≡◌, ◌++◌, length}
use Rattle.hs_constants.specs.Characters.{characters_of}
use Rattle.hs_constants.proofs.strings.with_characters.Given as goal

-- the values so far and those ahead are all
abbrev pub invariant-characters : goal.invariant-characters
invariant-characters l = l.all.items ++ characters_of l.rest ≡ l.fn.bytes.items ++ characters_of l.content

abbrev pub decreases-characters : goal.decreases-characters
decreases-characters l = length l.rest
