use Rattle.std.proofs.Common.{arith, suc, nat_lt, ◌&&◌, ◌+◌, ◌≤◌, ◌≡◌, length, subst}
use Rattle.hs_fact_rows.proofs.Making.{without_none_yet, without_one_more, without_all, slotted_none_yet, slotted_one_more, slotted_all}
use Rattle.hs_fact_rows.specs.Laws.Numbers.{gone_past}
use Rattle.hs_fact_rows.specs.Given.{Makes, gone, popped, without, slotted, no_name}
use Rattle.hs_fact_rows.proofs.steps.give_call.Goals as goal

pub names-init : goal.names-init
names-init g c = without_none_yet c.args.way.plan c.args.way.to c.args.way.from (gone (g.C.Callees.assigned c.args.callees.now c.args.function)
    c.args.lists.names.now) (λ facts cell. popped c.args.base cell (facts cell)) c.args.rows.now c.start.new.rows c.start.ensures

-- one name more
pub names-preserved : goal.names-preserved
names-preserved g c =
    let next : suc c.names.name ≡ c.names.name + 1 = omega arith in
    subst (λ n. Makes c.args.way.plan c.args.way.to c.args.way.from (λ facts cell. without (λ j. nat_lt j n && (gone (g.C.Callees.assigned
    c.args.callees.now c.args.function) c.args.lists.names.now) j) cell (popped c.args.base cell (facts cell))) c.args.rows.now c.end_if.new.rows) next
    (without_one_more c.args.way.plan c.args.way.to c.args.way.from c.names.name (gone (g.C.Callees.assigned c.args.callees.now c.args.function)
    c.args.lists.names.now) c.is_gone-is.result (λ facts cell. popped c.args.base cell (facts cell)) c.args.rows.now c.names.rows
    c.end_if.new.rows c.is_gone-is.ensures c.names.invariant
    c.end_if.ensures)

pub slots-init : goal.slots-init
slots-init g c =
    let all : c.names.name ≡ c.args.way.plan.names = omega (arith, c.requires.names) in
    slotted_none_yet c.args.way.plan c.args.way.to c.args.way.from (gone (g.C.Callees.assigned c.args.callees.now c.args.function)
    c.args.lists.slots.now) (λ facts cell. without (gone (g.C.Callees.assigned c.args.callees.now c.args.function) c.args.lists.names.now) cell
    (popped c.args.base cell (facts cell))) c.args.rows.now c.names.rows
    (without_all c.args.way.plan c.args.way.to c.args.way.from c.names.name (gone (g.C.Callees.assigned c.args.callees.now c.args.function)
    c.args.lists.names.now) (λ facts cell. popped c.args.base cell (facts cell)) c.args.rows.now c.names.rows all c.names.invariant)

-- one slot more
pub slots-preserved : goal.slots-preserved
slots-preserved g c =
    let next : suc c.slots.slot ≡ c.slots.slot + 1 = omega arith in
    subst (λ n. Makes c.args.way.plan c.args.way.to c.args.way.from (λ facts cell. slotted (λ j. nat_lt j n && (gone (g.C.Callees.assigned
    c.args.callees.now c.args.function) c.args.lists.slots.now) j) no_name cell (without (gone (g.C.Callees.assigned c.args.callees.now
    c.args.function) c.args.lists.names.now) cell (popped c.args.base cell (facts cell)))) c.args.rows.now c.clear_if.new.rows) next
    (slotted_one_more c.args.way.plan c.args.way.to c.args.way.from c.slots.slot (gone (g.C.Callees.assigned c.args.callees.now c.args.function)
    c.args.lists.slots.now) c.is_gone-is-in-slots.result (λ facts cell. without (gone (g.C.Callees.assigned c.args.callees.now c.args.function)
    c.args.lists.names.now) cell (popped c.args.base cell (facts cell))) c.args.rows.now c.slots.rows c.clear_if.new.rows
    c.is_gone-is-in-slots.ensures c.slots.invariant c.clear_if.ensures)

pub returns : goal.returns
returns g c =
    let all : c.slots.slot ≡ c.args.way.plan.slots = omega (arith, c.requires.slots) in
    let past : length c.args.lists.slots.now ≤ c.args.way.plan.slots = omega (arith, c.requires.slots) in
    slotted_all c.args.way.plan c.args.way.to c.args.way.from c.slots.slot (gone (g.C.Callees.assigned c.args.callees.now c.args.function)
    c.args.lists.slots.now) (λ facts cell. without (gone (g.C.Callees.assigned c.args.callees.now c.args.function) c.args.lists.names.now) cell
    (popped c.args.base cell (facts cell))) c.args.rows.now c.slots.rows all (gone_past (g.C.Callees.assigned c.args.callees.now c.args.function)
    c.args.lists.slots.now c.args.way.plan.slots past) c.slots.invariant
