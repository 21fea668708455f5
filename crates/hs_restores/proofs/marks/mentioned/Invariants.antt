use Rattle.std.proofs.Common.{◌≡◌, take, fold}
use Rattle.hs_restores.specs.Marks.{touched_by, with_op}
use Rattle.hs_restores.proofs.marks.mentioned.Given as goal

-- the globals of the operations so far
abbrev pub invariant-ops : goal.invariant-ops
invariant-ops l = l.marks.items ≡ fold (with_op touched_by) l.initial.marks.items (take l.its-index l.ops)
