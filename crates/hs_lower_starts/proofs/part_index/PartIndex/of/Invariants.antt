use Rattle.std.proofs.Common.{◌≡◌}
use Rattle.hs_meaning.specs.Scalars.{Scalar}
use Rattle.hs_meaning.specs.Statements.{part_for}
use Rattle.hs_lower_starts.specs.PartIndex.{constant_at, part_onto}
use Rattle.hs_lower_starts.proofs.part_index.PartIndex.of.Given as goal

-- the constants that are left come in front of those so far
abbrev pub invariant-parts : goal.invariant-parts
invariant-parts l =
    (its : Scalar) → part_onto its l.part-iterator.iter.rest.now (constant_at its l.index.map.entries) ≡ part_for its l.parts
