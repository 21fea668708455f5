use Rattle.std.proofs.Common.{rules}
use Rattle.hs_restores.specs.Laws.Slots.{are_changed}
use Rattle.hs_rows.specs.Sets.{has}
use Rattle.hs_tree.specs.Views.{view_function}
use Rattle.hs_restores.specs.Stepping.{scope_in}
use Rattle.hs_restores.proofs.slots.slots_of.Goals as goal

-- those that are marked are changed
pub returns : goal.returns
returns c =
    let changed = are_changed (scope_in c.args.program.now (view_function c.args.function.now)) c.args.code.now
    (has c.args.assigned.now c.args.number) c.in_ok-locals.locals.items (search rules) (search rules) in
    search (rules, changed)
