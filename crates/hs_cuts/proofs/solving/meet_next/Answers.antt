use Rattle.std.proofs.Common.{arith, refl, ◌<◌, length}
use Rattle.hs_cuts.proofs.Cutting.{Met-one, Flagged-one, Flagged-same}
use Rattle.hs_cuts.proofs.solving.meet_next.Goals as goal

pub returns-then-meet-clause-met : goal.returns-then-meet-clause-met
returns-then-meet-clause-met c total room =
    Met-one total c.args.ops c.args.rows.now c.meet.new.self c.args.next (omega arith) c.requires.count room c.meet.ensures.both
    c.meet.ensures.others
    c.meet.ensures.size

pub returns-then-meet-clause-flagged : goal.returns-then-meet-clause-flagged
returns-then-meet-clause-flagged c total room =
    let within : c.args.next < length c.args.flags.now = omega (arith, c.requires.flags) in
    Flagged-one total c.args.ops c.args.rows.now c.meet.new.self c.args.next c.args.flags.now within c.requires.count room
    c.meet.ensures.others

pub returns-else-meet-clause-met : goal.returns-else-meet-clause-met
returns-else-meet-clause-met c total room =
    Met-one total c.args.ops c.args.rows.now c.meet.new.self c.args.next (omega arith) c.requires.count room c.meet.ensures.both
    c.meet.ensures.others
    c.meet.ensures.size

pub returns-else-meet-clause-flagged : goal.returns-else-meet-clause-flagged
returns-else-meet-clause-flagged c total room =
    Flagged-same total c.args.ops c.args.rows.now c.meet.new.self c.args.next c.args.flags.now c.requires.count room c.meet.ensures.others
    (c.if-meet.ensures.same refl)
