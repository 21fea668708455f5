use Rattle.std.proofs.Common.{add-one}
use Rattle.hs_cuts.proofs.Cutting.{passed_none, passed_next}
use Rattle.hs_cuts.specs.Cuts.{the_task}
use Rattle.hs_cuts.proofs.solving.pass.Goals as goal

pub ops-init : goal.ops-init
ops-init g c =
    passed_none (the_task (g.M.Maker.total c.args.maker.now) c.args.code.now (g.M.Maker.makes c.args.maker.now)) c.args.rows.now c.args.flags.now
    c.requires.standing

-- one operation more
pub ops-preserved : goal.ops-preserved
ops-preserved g c =
    rw add-one (
    passed_next (the_task (g.M.Maker.total c.args.maker.now) c.args.code.now (g.M.Maker.makes c.args.maker.now)) c.ops.at c.args.rows.now c.ops.rows
    c.visit_if-visited.new.rows c.args.flags.now c.ops.flags c.visit_if-visited.new.flags
    c.ops.changed c.visit_if-visited.result c.ops.invariant c.visit_if-visited.ensures)
