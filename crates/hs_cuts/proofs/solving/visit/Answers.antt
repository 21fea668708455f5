use Rattle.hs_cuts.proofs.Cutting.{visit_done, room_kept}
use Rattle.hs_cuts.specs.Cuts.{the_task}
use Rattle.hs_cuts.proofs.solving.visit.Goals as goal

pub returns : goal.returns
returns g c =
    let ops = c.ops_of-ops.ensures.is in
    let total = g.M.Maker.total c.args.maker.now in
    let made = rw ops at c.make.ensures in
    let room = room_kept total c.args.rows.now c.make.new.rows c.requires.room made.size in
    let met_one = rw ops at (c.meet_some-one.ensures.met total room) in
    let room_one = room_kept total c.make.new.rows c.meet_some-one.new.rows room met_one.size in
    let met_two = rw ops at (c.meet_some-two.ensures.met total room_one) in
    let room_two = room_kept total c.meet_some-one.new.rows c.meet_some-two.new.rows room_one met_two.size in
    visit_done (the_task total c.args.code.now (g.M.Maker.makes c.args.maker.now)) c.args.at c.succ-next.result c.args.rows.now c.make.new.rows
    c.meet_some-one.new.rows c.meet_some-two.new.rows
    c.meet_cases-three.new.rows c.args.flags.now c.meet_some-one.new.flags c.meet_some-two.new.flags c.meet_cases-three.new.flags c.meet_some-one.result
    c.meet_some-two.result c.meet_cases-three.result (record { made = made.made; others = made.others; size = made.size }) c.requires.count c.requires.room
    met_one (rw ops at (c.meet_some-one.ensures.flagged total room)) met_two
    (rw ops at (c.meet_some-two.ensures.flagged total room_one)) (rw ops at (c.meet_cases-three.ensures.met total room_two))
    (rw ops at (c.meet_cases-three.ensures.flagged total room_two))
    c.succ-next.ensures.exact
