use Rattle.std.proofs.Common.{◌≡◌, ◌+◌, ap, arith, length, slice_get, subst, suc}
use Rattle.hs_effects.specs.Calling.{whole_of}
use Rattle.hs_facts.specs.Effects.{ops_in}
use Rattle.hs_taint.specs.Laws.Listing.{hazards_next}
use Rattle.hs_taint.specs.Listing.{AreHazardsTo}
use Rattle.hs_taint.proofs.hazard_list.with_function.Goals as goal

-- at the end of the function
pub returns : goal.returns
returns c =
    let one : suc c.args.function ≡ c.args.function + 1 = omega (arith) in
    let own : ops_in (slice_get c.args.code.now.functions.items c.args.function) ≡ c.args.own.now.ops = ap ops_in c.requires.of_code in
    let long = ap length c.ops.invariant.items in
    let long_own = ap length own in
    let end = c.ops-test.false in
    subst (λ f. AreHazardsTo (whole_of c.args.code.now) f 0 c.ops.now.items) one
    (hazards_next (whole_of c.args.code.now) c.args.function c.ops.at c.ops.now.items (omega (arith, long, long_own, end)) c.ops.invariant.so_far)
