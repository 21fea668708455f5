use Rattle.std.proofs.Common.{sym, ◌∙◌}
use Rattle.hs_heap.proofs.Listing.{listed_all, relocated_leaves}
use Rattle.hs_heap.proofs.Passing.{numbered_idle}
use Rattle.hs_heap.specs.Passes.{relocated}
use Rattle.hs_heap.proofs.pass.relocate.Goals as goal

pub returns-in-All-clause-rows : goal.returns-in-All-clause-rows
returns-in-All-clause-rows c =
    rw (c.if-moves.true, c.in-All.is)
    (c.relocate_these.ensures.rows ∙ listed_all relocated c.args.rows.now.items c.args.listed.now relocated_leaves c.requires.listed)

pub returns-else-moves-clause-rows : goal.returns-else-moves-clause-rows
returns-else-moves-clause-rows c = rw c.if-moves.false (sym (numbered_idle c.args.which.now relocated 1 c.args.rows.now.items))
