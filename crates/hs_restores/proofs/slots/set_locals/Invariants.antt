use Rattle.std.proofs.Common.{◌≡◌, take, fold}
use Rattle.hs_restores.specs.Marks.{local_set_by, with_op}
use Rattle.hs_restores.proofs.slots.set_locals.Given as goal

-- the locals of the operations so far
abbrev pub invariant-ops : goal.invariant-ops
invariant-ops l = l.marks.items ≡ fold (with_op local_set_by) l.initial.marks.items (take l.its-index l.ops)
