-- What was never moved is its own still image, and so is the machine with which a run begins.
--     machine_itself       a machine on which nothing was moved or purged
--     starting_still       the machine before `main` is called
use Rattle.std.proofs.Common.{◌≡◌, List, [], ◌∷◌, map, Some, None, refl, sym, ap, ◌∙◌}
use Rattle.std.specs.List.{AllByRecursion}
use Rattle.hs_heap.specs.Blocks.{Block}
use Rattle.hs_heap.specs.declared.cell.Cell.{Cell}
use Rattle.hs_heap.specs.declared.cell.Cell.TheVariants.{Undefined, Byte, State, Part}
use Rattle.hs_heap.specs.declared.cell.Pointer.{Pointer}
use Rattle.hs_heap.specs.declared.cell.Pointer.TheVariants.{Nil, Fixed, Handle, Spot}
use Rattle.hs_heap.specs.declared.presence.Presence.{Presence}
use Rattle.hs_heap.specs.declared.presence.Presence.TheVariants.{Present, Emptied, Purged, Disposed}
use Rattle.hs_meaning.specs.Laws.Unmoved.{IsUnmovedPointer, IsUnmovedCell, AreUnmoved, IsUnmoved, IsUnmovedBinding, IsUnpurged, IsUnmovedBlock, IsUnmovedObject, IsStillMachine}
use Rattle.hs_meaning.specs.Laws.Unmoved.Starts.{starting_is_still}
use Rattle.hs_meaning.specs.Machine.{Machine, Object, Binding, slot, object_at}
use Rattle.hs_meaning.specs.Objects.{starting_machine}
use Rattle.hs_meaning.specs.Settings.{Setting}
use Rattle.hs_meaning.specs.Values.{Value, number, pointer, state, structure, unmoved}
use Rattle.hs_meaning.specs.declared.input.Input.{Input}
use Rattle.hs_still.specs.Machines.{still_cell, still_cells, still_value, unpurged, still_block, still_object, still_binding, still_machine}

-- what is mapped to itself, each
all_itself : {A : Type 0} → (P : A → Type 0) (f : A → A) → ((it : A) → P it → f it ≡ it) → (xs : List A) → AllByRecursion P xs
    → map f xs ≡ xs
all_itself P f each [] all = refl
all_itself P f each (x ∷ xs) all = ap (λ y. y ∷ map f xs) (each x all.0) ∙ ap (λ ys. x ∷ ys) (all_itself P f each xs all.1)

pointer_itself : (its : Pointer) → IsUnmovedPointer its → unmoved its ≡ its
pointer_itself Nil is = refl
pointer_itself (Fixed object offset) is = refl
pointer_itself (Handle block) is = refl
pointer_itself (Spot its) is = ap (λ epoch. Spot (record its { epoch = epoch })) (sym is)

cell_itself : (cell : Cell) → IsUnmovedCell cell → still_cell cell ≡ cell
cell_itself Undefined is = refl
cell_itself (Byte byte) is = refl
cell_itself (State byte) is = refl
cell_itself (Part at its class) is = ap (λ p. Part at p class) (pointer_itself its is)

cells_itself : (cells : List Cell) → AreUnmoved cells → still_cells cells ≡ cells
cells_itself cells are = all_itself IsUnmovedCell still_cell cell_itself cells are

value_itself : (value : Value) → IsUnmoved value → still_value value ≡ value
value_itself (number bits) is = refl
value_itself (pointer its) is = ap pointer (pointer_itself its is)
value_itself (state byte) is = refl
value_itself (structure cells) is = ap structure (cells_itself cells is)

binding_itself : (binding : Binding) → IsUnmovedBinding binding → still_binding binding ≡ binding
binding_itself (slot None) is = refl
binding_itself (slot (Some value)) is = ap (λ v. slot (Some v)) (value_itself value is)
binding_itself (object_at place) is = refl

object_itself : (its : Object) → IsUnmovedObject its → still_object its ≡ its
object_itself its is = ap (λ cells. record its { cells = cells }) (cells_itself its.cells is)

presence_itself : (it : Presence) → IsUnpurged it → unpurged it ≡ it
presence_itself Present is = refl
presence_itself Emptied is = refl
presence_itself Purged is = absurd is
presence_itself Disposed is = refl

block_itself : (block : Block) → IsUnmovedBlock block → still_block block ≡ block
block_itself block is =
    ap (λ cells. record (still_block block) { cells = cells }) (cells_itself block.cells is.cells)
    ∙ ap (λ epoch. record block { epoch = epoch; presence = unpurged block.presence }) (sym is.epoch)
    ∙ ap (λ it. record block { presence = it }) (presence_itself block.presence is.presence)

-- a machine on which nothing was moved or purged
pub machine_itself : (machine : Machine) → IsStillMachine machine → still_machine machine ≡ machine
machine_itself machine is =
    ap (λ blocks. record (still_machine machine) { blocks = blocks }) (all_itself IsUnmovedBlock still_block block_itself machine.blocks is.blocks)
    ∙ ap (λ objects. record (still_machine machine) { blocks = machine.blocks; objects = objects })
    (all_itself IsUnmovedObject still_object object_itself machine.objects is.objects)
    ∙ ap (λ globals. record machine { globals = globals; locals = map still_binding machine.locals })
    (all_itself IsUnmovedBinding still_binding binding_itself machine.globals is.globals)
    ∙ ap (λ locals. record machine { locals = locals }) (all_itself IsUnmovedBinding still_binding binding_itself machine.locals is.locals)

-- the machine before `main` is called
pub starting_still : (setting : Setting) (input : Input) → still_machine (starting_machine setting input) ≡ starting_machine setting input
starting_still setting input = machine_itself (starting_machine setting input) (starting_is_still setting input)
