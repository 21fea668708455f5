use Rattle.std.proofs.Common.{ap, arith, length}
use Rattle.hs_effects.specs.Calling.{whole_of}
use Rattle.hs_taint.specs.Laws.Listing.{hazards_all}
use Rattle.hs_taint.proofs.hazard_list.hazards.Goals as goal

-- at the end of the program
pub returns : goal.returns
returns c =
    let long = ap length c.functions.invariant.items in
    let end = c.functions-test.false in
    hazards_all (whole_of c.args.code.now) c.functions.number c.functions.all.items (omega (arith, long, end)) c.functions.invariant.so_far
