use Rattle.std.proofs.Common.{◌≡◌, ◌++◌, drop}
use Rattle.hs_initialisers.specs.Initialisers.{characters}
use Rattle.hs_initialisers.proofs.texts.characters.Given as goal

-- the characters that are left come after those so far
abbrev pub invariant-bytes : goal.invariant-bytes
invariant-bytes l = l.its.items ++ characters l.kind l.id l.at (drop l.byte-index l.bytes) ≡ characters l.kind l.id l.fn.offset l.bytes
