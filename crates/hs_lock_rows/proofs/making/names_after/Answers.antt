use Rattle.hs_lock_rows.proofs.Written.{stayed_or_came}
use Rattle.hs_lock_rows.specs.Given.{stay_by}
use Rattle.hs_lock_rows.specs.Knowing.{comes_at, stay_at}
use Rattle.hs_rows.specs.Sets.{bit_in}
use Rattle.hs_lock_rows.proofs.making.names_after.Goals as goal

-- what stays of what was there, and what comes
pub returns : goal.returns
returns g c facts shows known i l =
    let plan = c.args.point.plan in
    let names = c.args.lists.names.now in
    let slots = c.args.lists.slots.now in
    let assigned = g.C.Callees.assigned c.args.callees.now in
    let low = c.args.point.low.now in
    let at = c.args.point.at in
    stayed_or_came (bit_in c.either.result i) (bit_in c.both.result i) (bit_in c.stay-stays.result i) (bit_in c.read-before.result i)
    (bit_in c.comes-new.result i) (stay_by (stay_at plan names slots assigned low at facts c.args.change) c.args.its i) (facts c.args.its i)
    (comes_at plan names slots assigned low at facts c.args.change c.args.its i) (c.either.ensures i) (c.both.ensures i)
    (c.stay-stays.ensures plan names low at facts c.requires.point.fits.names c.requires.there known i l) (c.read-before.ensures.names facts shows i l)
    (c.comes-new.ensures names slots assigned facts shows known i l)
