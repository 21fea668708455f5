use Rattle.std.proofs.Common.{ap, arith, length}
use Rattle.hs_effects.specs.Calling.{whole_of}
use Rattle.hs_taint.specs.Laws.Listing.{short_all}
use Rattle.hs_taint.proofs.hazard_list.has_long.Goals as goal

-- at the end of the program
pub returns-clause-short : goal.returns-clause-short
returns-clause-short c same =
    let long = ap length c.functions.invariant.items in
    let end = c.functions-test.false in
    short_all (whole_of c.args.code.now) c.functions.number (omega (arith, long, end)) c.functions.invariant.so_far
