use Rattle.std.proofs.Common.{◌≡◌, ◌<◌, ◌≤◌, length}
use Rattle.hs_constants.specs.Characters.{characters_of, bits_of}
use Rattle.hs_constants.proofs.Values.{bits_from}
use Rattle.hs_constants.proofs.characters.character_value.Given as goal

-- the characters so far and those ahead are all
abbrev pub invariant-characters : goal.invariant-characters
invariant-characters l = record {
  same : bits_from l.count l.bits (characters_of l.rest) ≡ bits_of (characters_of l.initial.rest);
  few : l.count ≤ 4;
  none : l.count ≡ 0 → l.bits ≡ 0;
  one : l.count ≡ 1 → l.bits < 256;
  two : l.count ≡ 2 → l.bits < 65536;
  three : l.count ≡ 3 → l.bits < 16777216;
}

abbrev pub decreases-characters : goal.decreases-characters
decreases-characters l = length l.rest
