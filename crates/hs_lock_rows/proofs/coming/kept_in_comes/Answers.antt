use Rattle.std.proofs.Common.{◌<◌, ◌-◌, ◌==◌, not, ◌&&◌, ap, ◌∙◌, arith}
use Rattle.hs_fact_rows.specs.Cells.{saved_in}
use Rattle.hs_fact_rows.specs.Given.{facts_in, with_of}
use Rattle.hs_lock_rows.specs.Knowing.{apart_at}
use Rattle.hs_lock_rows.specs.declared.field.Field.TheVariants as field
use Rattle.hs_lock_rows.proofs.coming.kept_in_comes.Goals as goal

-- the name, if a name of the top is kept
pub returns-in-SetName : goal.returns-in-SetName
returns-in-SetName c names slots assigned facts shows known i l =
    let its = c.in-SetName.is in
    let depth = c.in-SetName.depth in
    let low = facts_in c.args.point.plan c.args.point.low.now c.args.point.at in
    let most = c.requires.point.fits.names in
    let within : i < 64 = omega (arith, l, most) in
    let with = rw its at known.with in
    let met = c.meet-met.ensures (with_of low depth (depth - 1)) (facts (field.KeptIn c.args.slot)) with (c.read-its.ensures.names facts shows) in
    rw its (c.named_if.ensures i within ∙ ap (λ t. (i == c.in-SetName.name) && (not (c.args.slot == c.in-SetName.other) && t)) met)

-- the names of the handle, if the byte is of one that is apart
pub returns-in-Lock : goal.returns-in-Lock
returns-in-Lock c names slots assigned facts shows known i l =
    let its = c.in-Lock.is in
    let depth = c.in-Lock.depth in
    let base = c.in-Lock.base in
    let low = facts_in c.args.point.plan c.args.point.low.now c.args.point.at in
    let with = rw its at (known.with i l) in
    let apart = rw its at known.apart in
    let met = c.meet-met-in-Lock.ensures (λ z. low (saved_in c.args.slot z))
    (apart_at c.args.point.plan names slots assigned c.args.point.low.now c.args.point.at facts depth base) c.saved_in-saved.ensures.names apart in
    rw its (c.both_if.ensures i ∙ ap (λ t. t && c.meet-met-in-Lock.result) with ∙ ap (λ t. with_of low depth base i && t) met)
