use Rattle.hs_fact_rows.proofs.Writing.{shared_name, no_shared_name}
use Rattle.hs_fact_rows.specs.Given.{with_of, saved_of, facts_in}
use Rattle.hs_fact_rows.proofs.giving.shares.Goals as goal

pub returns-clause-some : goal.returns-clause-some
returns-clause-some c h =
    shared_name c.args.plan.names c.with_at-with.result c.saved_at-saved.result
    (with_of (facts_in c.args.plan c.args.rows.now c.args.at) c.args.depth c.args.places.0)
    (saved_of (facts_in c.args.plan c.args.rows.now c.args.at) c.args.depth c.args.places.1) c.with_at-with.ensures.few c.with_at-with.ensures.names
    c.saved_at-saved.ensures.names (c.is_some.ensures.some h)

pub returns-clause-none : goal.returns-clause-none
returns-clause-none c h =
    no_shared_name c.args.plan.names c.with_at-with.result c.saved_at-saved.result
    (with_of (facts_in c.args.plan c.args.rows.now c.args.at) c.args.depth c.args.places.0)
    (saved_of (facts_in c.args.plan c.args.rows.now c.args.at) c.args.depth c.args.places.1) c.with_at-with.ensures.names c.saved_at-saved.ensures.names
    (c.is_some.ensures.none h)
