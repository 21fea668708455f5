use Rattle.std.proofs.Common.{nat_lt, ◌&&◌}
use Rattle.hs_fact_rows.specs.Given.{Makes, popped, without, slotted, gone, no_name}
use Rattle.hs_fact_rows.proofs.steps.give_call.Given as goal

-- the facts about the names so far are ended
abbrev pub invariant-names : goal.invariant-names
invariant-names g l =
    Makes l.way.plan l.way.to l.way.from
    (λ facts cell. without (λ j. nat_lt j l.name && gone (g.C.Callees.assigned l.callees l.function) l.lists.names.now j) cell (popped l.base cell
    (facts cell)))
    l.fn.rows l.rows

-- and those of the slots so far
abbrev pub invariant-slots : goal.invariant-slots
invariant-slots g l =
    Makes l.way.plan l.way.to l.way.from
    (λ facts cell. slotted (λ j. nat_lt j l.slot && gone (g.C.Callees.assigned l.callees l.function) l.lists.slots.now j) no_name cell
    (without (gone (g.C.Callees.assigned l.callees l.function) l.lists.names.now) cell (popped l.base cell (facts cell))))
    l.fn.rows l.rows
