use Rattle.std.proofs.Common.{◌&&◌, ◌||◌, ap, sym, ◌∙◌}
use Rattle.hs_fact_rows.specs.Given.{facts_in}
use Rattle.hs_lock_rows.proofs.Popping.{none_comes, or_false}
use Rattle.hs_lock_rows.specs.Given.{plain, stay_by}
use Rattle.hs_lock_rows.specs.Making.{gone_by}
use Rattle.hs_lock_rows.proofs.making.make.Goals as goal

-- values are taken, and nothing comes
pub returns-in-Pop : goal.returns-in-Pop
returns-in-Pop g c =
    let plan = c.args.point.plan in
    let base = c.in-Pop.base in
    rw c.in-Pop.is (record {
      made = λ facts shows field i is l.
          c.pop.ensures.popped field i is l
          ∙ ap (λ t. stay_by (plain base) field i && t) (sym (shows field i is l))
          ∙ or_false (stay_by (plain base) field i && facts field i)
          ∙ ap (λ t. (stay_by (plain base) field i && facts field i) || t)
          (sym (none_comes plan.names (gone_by (g.C.Callees.assigned c.args.callees.now) c.args.lists.names.now)
          (gone_by (g.C.Callees.assigned c.args.callees.now) c.args.lists.slots.now) (facts_in plan c.args.point.low.now c.args.point.at) facts base field i));
      others = c.pop.ensures.others;
      size = c.pop.ensures.size;
    })

-- a handle is used
pub returns-in-Use : goal.returns-in-Use
returns-in-Use g c =
    rw c.in-Use.is (c.use_handle.ensures c.args.lists.names.now c.args.lists.slots.now (g.C.Callees.assigned c.args.callees.now))
