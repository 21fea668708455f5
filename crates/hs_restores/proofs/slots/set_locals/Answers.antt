use Rattle.std.proofs.Common.{take_all, arith, rules}
use Rattle.hs_restores.specs.Marks.{local_set_by}
use Rattle.hs_restores.proofs.Mentioned.{marks_named}
use Rattle.hs_restores.proofs.slots.set_locals.Goals as goal

-- all operations are done
pub returns-clause-marks : goal.returns-clause-marks
returns-clause-marks c p below =
    rw (c.ops.invariant, take_all c.ops.its-index c.args.ops.now (omega arith), c.in_ok-marks.ensures.items_if_clones_equal (λ y h. search rules))
    (marks_named local_set_by c.args.count c.args.ops.now p below)
