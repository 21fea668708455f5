use Rattle.std.proofs.Common.{◌≡◌, ◌+◌, ap, arith, length, slice_get, subst, suc}
use Rattle.hs_effects.specs.Calling.{whole_of}
use Rattle.hs_facts.specs.Effects.{ops_in}
use Rattle.hs_taint.specs.Laws.Listing.{short_more, short_next}
use Rattle.hs_taint.specs.Listing.{AreShortTo}
use Rattle.hs_taint.proofs.hazard_list.has_long_in.Goals as goal

-- one operation more
pub ops-preserved : goal.ops-preserved
ops-preserved c =
    let one : suc c.ops.at ≡ c.ops.at + 1 = omega (arith) in
    record {
      items = c.ops.invariant.items;
      so_far =
          subst (AreShortTo (whole_of c.args.code.now) c.args.function) one
          (short_more (whole_of c.args.code.now) c.args.function c.ops.at c.ops.invariant.so_far (c.is_long.ensures.short c.if-is_long.false)
          (c.is_long-else-is_long.ensures.short c.if-is_long-2.false));
    }

-- at the end of the function
pub returns-clause-short : goal.returns-clause-short
returns-clause-short c same =
    let one : suc c.args.function ≡ c.args.function + 1 = omega (arith) in
    let own : ops_in (slice_get c.args.code.now.functions.items c.args.function) ≡ c.args.own.now.ops = ap ops_in c.requires.of_code in
    let long = ap length c.ops.invariant.items in
    let long_own = ap length own in
    let end = c.ops-test.false in
    subst (λ f. AreShortTo (whole_of c.args.code.now) f 0) one
    (short_next (whole_of c.args.code.now) c.args.function c.ops.at (omega (arith, long, long_own, end)) c.ops.invariant.so_far)
