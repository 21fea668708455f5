use Rattle.std.proofs.Common.{◌<◌, ◌-◌, ◌==◌, ◌&&◌, ◌||◌, ap, ◌∙◌, arith}
use Rattle.hs_fact_rows.specs.Given.{facts_in, with_of}
use Rattle.hs_lock_rows.specs.Knowing.{new_at}
use Rattle.hs_lock_rows.specs.declared.field.Field.TheVariants as field
use Rattle.hs_lock_rows.proofs.coming.live_comes.Goals as goal

-- the name, if the top is new or a name of it is live
pub returns-in-SetName : goal.returns-in-SetName
returns-in-SetName c names slots assigned facts shows known i l =
    let its = c.in-SetName.is in
    let depth = c.in-SetName.depth in
    let low = facts_in c.args.point.plan c.args.point.low.now c.args.point.at in
    let most = c.requires.point.fits.names in
    let within : i < 64 = omega (arith, l, most) in
    let with = rw its at known.with in
    let new = rw its at known.new in
    let met = c.meet-met.ensures (with_of low depth (depth - 1)) (facts field.Live) with (c.read-its.ensures.names facts shows) in
    rw its (c.named_if.ensures i within ∙ ap (λ t. (i == c.in-SetName.name) && (t || c.meet-met.result)) new
    ∙ ap (λ t. (i == c.in-SetName.name) && (new_at c.args.point.plan names slots assigned c.args.point.low.now c.args.point.at facts depth (depth - 1) 0
    || t)) met)
