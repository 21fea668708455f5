use Rattle.hs_fact_rows.specs.Given.{gone}
use Rattle.hs_fact_rows.proofs.steps.give.Goals as goal

pub returns-in-Get : goal.returns-in-Get
returns-in-Get g c = rw c.in-Get.is (c.give_get.ensures (λ f. gone (g.C.Callees.assigned c.args.callees.now f) c.args.lists.names.now) (λ f. gone
    (g.C.Callees.assigned c.args.callees.now f) c.args.lists.slots.now))

pub returns-in-SetName : goal.returns-in-SetName
returns-in-SetName g c = rw c.in-SetName.is (c.give_set_name.ensures (λ f. gone (g.C.Callees.assigned c.args.callees.now f) c.args.lists.names.now)
    (λ f. gone (g.C.Callees.assigned c.args.callees.now f) c.args.lists.slots.now))

pub returns-in-SetSlot : goal.returns-in-SetSlot
returns-in-SetSlot g c = rw c.in-SetSlot.is (c.give_set_slot.ensures (λ f. gone (g.C.Callees.assigned c.args.callees.now f) c.args.lists.names.now)
    (λ f. gone (g.C.Callees.assigned c.args.callees.now f) c.args.lists.slots.now))

pub returns-in-Dup : goal.returns-in-Dup
returns-in-Dup g c = rw c.in-Dup.is (c.give_dup.ensures (λ f. gone (g.C.Callees.assigned c.args.callees.now f) c.args.lists.names.now) (λ f. gone
    (g.C.Callees.assigned c.args.callees.now f) c.args.lists.slots.now))

pub returns-in-Tuck : goal.returns-in-Tuck
returns-in-Tuck g c = rw c.in-Tuck.is (c.give_tuck.ensures (λ f. gone (g.C.Callees.assigned c.args.callees.now f) c.args.lists.names.now) (λ f. gone
    (g.C.Callees.assigned c.args.callees.now f) c.args.lists.slots.now))

pub returns-in-Conv : goal.returns-in-Conv
returns-in-Conv g c = rw c.in-Conv.is (c.give_conv.ensures (λ f. gone (g.C.Callees.assigned c.args.callees.now f) c.args.lists.names.now) (λ f. gone
    (g.C.Callees.assigned c.args.callees.now f) c.args.lists.slots.now))

pub returns-in-Bring : goal.returns-in-Bring
returns-in-Bring g c = rw c.in-Bring.is (c.give_bring.ensures (λ f. gone (g.C.Callees.assigned c.args.callees.now f) c.args.lists.names.now) (λ f.
    gone (g.C.Callees.assigned c.args.callees.now f) c.args.lists.slots.now))

pub returns-in-ReadState : goal.returns-in-ReadState
returns-in-ReadState g c = rw c.in-ReadState.is (c.give_read.ensures (λ f. gone (g.C.Callees.assigned c.args.callees.now f) c.args.lists.names.now)
    (λ f. gone (g.C.Callees.assigned c.args.callees.now f) c.args.lists.slots.now))
