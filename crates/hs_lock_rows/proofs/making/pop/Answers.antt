use Rattle.std.proofs.Common.{◌-◌, ap}
use Rattle.hs_lock_rows.proofs.Popping.{popped_none, popped_some}
use Rattle.hs_lock_rows.proofs.making.pop.Goals as goal

pub returns-then-base-plan-clause-popped : goal.returns-then-base-plan-clause-popped
returns-then-base-plan-clause-popped c =
    popped_some c.args.plan c.args.to c.args.at c.args.base c.args.rows.now c.requires.to_in_range c.requires.room.room c.copy_row.new.self
    c.copy_row.ensures.copied c.copy_row.ensures.size c.clear.new.rows c.first-first.result (c.total.result - c.first-first.result) c.if-base-plan.true
    c.first-first.ensures.is (ap (λ n. n - c.first-first.result) c.total.ensures) c.clear.ensures

pub returns-else-base-plan-clause-popped : goal.returns-else-base-plan-clause-popped
returns-else-base-plan-clause-popped c =
    popped_none c.args.plan c.args.to c.args.at c.args.base c.args.rows.now c.requires.to_in_range c.requires.room.room c.copy_row.new.self
    c.copy_row.ensures.copied c.copy_row.ensures.size c.if-base-plan.false
