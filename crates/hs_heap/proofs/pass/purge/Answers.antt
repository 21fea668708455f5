use Rattle.std.proofs.Common.{sym, ◌∙◌}
use Rattle.hs_heap.proofs.Listing.{listed_all, purged_leaves}
use Rattle.hs_heap.proofs.Passing.{numbered_idle}
use Rattle.hs_heap.specs.Passes.{purged}
use Rattle.hs_heap.proofs.pass.purge.Goals as goal

pub returns-in-All : goal.returns-in-All
returns-in-All c =
    rw (c.if-purges.true, c.in-All.is)
    (c.purge_these.ensures ∙ listed_all purged c.args.rows.now.items c.args.listed.now purged_leaves c.requires.listed)

pub returns-else-purges : goal.returns-else-purges
returns-else-purges c = rw c.if-purges.false (sym (numbered_idle c.args.which.now purged 1 c.args.rows.now.items))
