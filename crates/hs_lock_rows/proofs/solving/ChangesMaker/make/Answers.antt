use Rattle.std.proofs.Common.{◌≡◌, sym, subst, ◌∙◌}
use Rattle.hs_fact_rows.specs.Laws.Numbers.{some_one}
use Rattle.hs_lock_rows.specs.Laws.Solved.{number_in}
use Rattle.hs_lock_rows.specs.Layout.{number}
use Rattle.hs_lock_rows.specs.Making.{given_at, locks_in}
use Rattle.hs_lock_rows.specs.declared.change.Change.{Change}
use Rattle.hs_rows.specs.Sets.{has}
use Rattle.hs_lock_rows.proofs.solving.ChangesMaker.make.Goals as goal

-- by the change of the operation, from the bits of its row
pub returns-clause-made : goal.returns-clause-made
returns-clause-made g c bits agree its there field i is l =
    let plan = c.args.self.now.plan in
    subst (λ (it : Change). has c.make.new.rows c.args.to (number plan field i)
    ≡ given_at plan c.args.self.now.lists.names.now c.args.self.now.lists.slots.now (g.C.Callees.assigned c.args.self.now.callees.now)
    c.args.self.now.low.now c.args.at it (locks_in plan bits) field i)
    (some_one c.change_at.result its (sym c.change_at.ensures ∙ there))
    (c.make.ensures.made (locks_in plan bits) (λ f j in_plan below. agree (number plan f j) (number_in plan f j in_plan below)) field i is l)
