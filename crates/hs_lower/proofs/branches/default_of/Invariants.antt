use Rattle.std.proofs.Common.{◌≡◌, drop}
use Rattle.hs_lowering.specs.Statements.{default_in}
use Rattle.hs_lower.proofs.branches.default_of.Given as goal

-- The default is among the labels that are left, if it is there.
abbrev pub invariant-loop-label : goal.invariant-loop-label
invariant-loop-label l = default_in (drop l.label-index l.labels) l.otherwise ≡ default_in l.labels l.otherwise
