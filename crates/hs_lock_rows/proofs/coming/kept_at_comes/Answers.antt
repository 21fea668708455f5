use Rattle.std.proofs.Common.{◌<◌, ◌-◌, ◌==◌, nat_lt, ◌&&◌, ap, ◌∙◌, arith, add-one}
use Rattle.hs_fact_rows.specs.Given.{facts_in, saved_of, with_of}
use Rattle.hs_lock_rows.specs.Knowing.{apart_at, kept_at}
use Rattle.hs_lock_rows.proofs.coming.kept_at_comes.Goals as goal

-- the value of a slot
pub returns-in-Get : goal.returns-in-Get
returns-in-Get c names slots assigned facts shows known i l =
    rw c.in-Get.is (c.if_so.ensures i ∙ ap (λ t. (c.args.place == c.in-Get.to) && t) (c.read-its.ensures.names facts shows i l))

-- the name, if a name of the top is kept
pub returns-in-SetName : goal.returns-in-SetName
returns-in-SetName c names slots assigned facts shows known i l =
    let its = c.in-SetName.is in
    let depth = c.in-SetName.depth in
    let low = facts_in c.args.point.plan c.args.point.low.now c.args.point.at in
    let most = c.requires.point.fits.names in
    let within : i < 64 = omega (arith, l, most) in
    let with = rw its at known.with in
    let met = c.meet-met.ensures (with_of low depth (depth - 1))
    (kept_at c.args.point.plan names slots assigned c.args.point.low.now c.args.point.at facts depth c.args.place) with
    (c.kept-its.ensures facts shows) in
    rw its (c.named_if.ensures i within ∙ ap (λ t. (i == c.in-SetName.name) && t) met)

-- the value of the base, or the one above
pub returns-in-Bring : goal.returns-in-Bring
returns-in-Bring c names slots assigned facts shows known i l =
    rw c.in-Bring.is
    (c.brought.ensures (λ from. kept_at c.args.point.plan names slots assigned c.args.point.low.now c.args.point.at facts c.in-Bring.depth from i) i
    (c.kept-below.ensures facts shows i l) (rw add-one at (c.kept-above.ensures facts shows i l)))

-- the names of the handle, if the byte is of one that is apart
pub returns-in-Lock : goal.returns-in-Lock
returns-in-Lock c names slots assigned facts shows known i l =
    let its = c.in-Lock.is in
    let depth = c.in-Lock.depth in
    let base = c.in-Lock.base in
    let low = facts_in c.args.point.plan c.args.point.low.now c.args.point.at in
    let with = rw its at (known.with i l) in
    let apart = rw its at known.apart in
    let met = c.meet-met-in-Lock.ensures (saved_of low depth c.args.place)
    (apart_at c.args.point.plan names slots assigned c.args.point.low.now c.args.point.at facts depth base) c.saved_at-saved.ensures.names apart in
    rw its (c.both_if.ensures i ∙ ap (λ t. t && (nat_lt c.args.place base && c.meet-met-in-Lock.result)) with
    ∙ ap (λ t. with_of low depth base i && (nat_lt c.args.place base && t)) met)

-- what is locked
pub returns-in-ReadState : goal.returns-in-ReadState
returns-in-ReadState c names slots assigned facts shows known i l =
    rw c.in-ReadState.is (c.if_so-in-ReadState.ensures i ∙ ap (λ t. (c.args.place == c.in-ReadState.base) && t) (c.read-its-in-ReadState.ensures.names facts shows i l))
