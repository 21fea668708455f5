use Rattle.std.proofs.Common.{◌<◌, List, length, sym, ◌∙◌, arith}
use Rattle.std.proofs.lemmas.Grind.{common_steps}
use Rattle.hs_macros.specs.Arguments.{Hidden}
use Rattle.hs_macros.specs.Replacement.{placed_at}
use Rattle.hs_macros.specs.Slots.{names_of}
use Rattle.hs_macros.specs.Stacks.{ready, parameters_in}
use Rattle.hs_macros.specs.declared.slot.Slot.{Slot}
use Rattle.hs_macros.proofs.Bodies.{too_many}
use Rattle.hs_macros.proofs.Places.{placed_index}
use Rattle.hs_macros.proofs.placing.room_left.Goals as goal

-- the next tokens pass the room
pub returns-in_err-room : goal.returns-in_err-room
returns-in_err-room c names pos hides =
    let put : Slot → List Hidden = λ slot. placed_at pos hides (ready names c.args.arguments.now) slot.token in
    let placed = placed_index (names_of (parameters_in c.args.arguments.now)) c.args.body.now c.loop-slot.slot-index c.slot-item.result c.requires
    c.loop-slot-test.true c.slot-item.is in
    let over : c.loop-slot.room < length (put c.slot-item.result) = omega (arith, c.in_err-room.ensures, c.placed_len.ensures names pos hides placed) in
    c.from_residual.ensures
    ∙ sym (too_many put c.args.body.now c.loop-slot.slot-index c.args.room c.loop-slot.room
    c.slot-item.result c.loop-slot-test.true c.slot-item.is (c.loop-slot.invariant names pos hides) over)

-- the next tokens fit
pub loop-slot-preserved : goal.loop-slot-preserved
loop-slot-preserved c names pos hides =
    let before = c.loop-slot.invariant names pos hides in
    let placed = placed_index (names_of (parameters_in c.args.arguments.now)) c.args.body.now c.loop-slot.slot-index c.slot-item.result c.requires
    c.loop-slot-test.true c.slot-item.is in
    let put = c.placed_len.ensures names pos hides placed in
    grind (arith, common_steps)

-- all fit
pub returns : goal.returns
returns c names pos hides =
    let fits = c.loop-slot.invariant names pos hides in
    grind (arith, common_steps)
