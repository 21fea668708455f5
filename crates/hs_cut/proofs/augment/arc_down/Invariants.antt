use Rattle.std.proofs.Common.{take, All}
use Rattle.hs_cut.specs.Pushes.{LeadsDown}
use Rattle.hs_cut.proofs.augment.arc_down.Given as goal

-- the arcs so far do not lead down
abbrev pub invariant-loop-arc : goal.invariant-loop-arc
invariant-loop-arc l = All (λ arc. LeadsDown l.gates l.distances l.distance arc → ⊥) (take l.arc-index l.row)
