use Rattle.std.proofs.Common.{◌≡◌, arith, add-one}
use Rattle.hs_fact_rows.proofs.Turning.{Turns-none, Turns-as, ended_none, ended_all, ended_below, end_next}
use Rattle.hs_fact_rows.specs.Cells.{with_field}
use Rattle.hs_fact_rows.specs.Given.{without, one_name}
use Rattle.hs_fact_rows.proofs.giving.end_name.Goals as goal

pub fields-init : goal.fields-init
fields-init c =
    Turns-as c.args.plan c.args.row (λ cell b. b) (ended_below c.args.plan 0 c.args.name) c.args.rows.now c.args.rows.now
    (Turns-none c.args.plan c.args.row c.args.rows.now) (ended_none c.args.plan c.args.name)

-- the facts of one field more
pub fields-preserved : goal.fields-preserved
fields-preserved c =
    rw add-one (
    end_next c.args.plan c.args.row c.args.name c.fields.k c.args.rows.now c.fields.rows c.drop_bit.new.self c.fields.invariant c.drop_bit.ensures.others
    c.drop_bit.ensures.size c.drop_bit.ensures.gone c.requires.fit.room c.requires.fit.there c.requires.there)

pub returns : goal.returns
returns c =
    let all : c.fields.k ≡ with_field c.args.plan c.args.plan.places = omega arith in
    Turns-as c.args.plan c.args.row (ended_below c.args.plan c.fields.k c.args.name) (without (one_name c.args.name)) c.args.rows.now c.fields.rows
    c.fields.invariant (λ cell b h. rw all (ended_all c.args.plan c.args.name cell b h))
