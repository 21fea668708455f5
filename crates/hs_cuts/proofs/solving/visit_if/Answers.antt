use Rattle.std.proofs.Common.{arith, ◌<◌, length}
use Rattle.hs_cuts.proofs.Cutting.{visited_one}
use Rattle.hs_cuts.specs.Cuts.{the_task}
use Rattle.hs_cuts.proofs.solving.visit_if.Goals as goal

pub returns : goal.returns
returns g c =
    let in_flags : c.args.at < length c.args.flags.now = omega (arith, c.requires.flags, c.requires.there) in
    visited_one (the_task (g.M.Maker.total c.args.maker.now) c.args.code.now (g.M.Maker.makes c.args.maker.now)) c.args.at c.args.rows.now
    c.visit.new.rows c.args.flags.now c.visit.new.flags
    c.visit.result in_flags
    c.requires.standing c.visit.ensures
