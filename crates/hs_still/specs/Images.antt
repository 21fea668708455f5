-- The still image of anything is unmoved: it has no epoch but the first, and nothing of it is purged.
--     values_unmoved           values
--     image_is_still           the still machine
use Rattle.std.proofs.Common.{List, map, Some, None, refl}
use Rattle.std.specs.List.{AllByRecursion}
use Rattle.hs_heap.specs.Blocks.{Block}
use Rattle.hs_heap.specs.declared.cell.Cell.{Cell}
use Rattle.hs_heap.specs.declared.cell.Cell.TheVariants.{Undefined, Byte, State, Part}
use Rattle.hs_heap.specs.declared.presence.Presence.{Presence}
use Rattle.hs_heap.specs.declared.presence.Presence.TheVariants.{Present, Emptied, Purged, Disposed}
use Rattle.hs_meaning.specs.Laws.Unmoved.{IsUnmovedCell, AreUnmoved, IsUnmoved, IsUnmovedBinding, IsUnpurged, IsUnmovedBlock, IsUnmovedObject, IsStillMachine}
use Rattle.hs_meaning.specs.Laws.Unmoved.Lists.{all_map}
use Rattle.hs_meaning.specs.Machine.{Machine, Object as MachineObject, Binding, slot, object_at}
use Rattle.hs_meaning.specs.Values.{Value, number, pointer, state, structure}
use Rattle.hs_still.specs.Cells.{no_epoch}
use Rattle.hs_still.specs.Machines.{still_cell, still_cells, still_value, unpurged, still_block, still_object, still_binding, still_machine}

cell_unmoved : (cell : Cell) → IsUnmovedCell (still_cell cell)
cell_unmoved Undefined = tt
cell_unmoved (Byte byte) = tt
cell_unmoved (State byte) = tt
cell_unmoved (Part at its class) = no_epoch its

cells_unmoved : (cells : List Cell) → AreUnmoved (still_cells cells)
cells_unmoved cells = all_map IsUnmovedCell still_cell cell_unmoved cells

value_unmoved : (value : Value) → IsUnmoved (still_value value)
value_unmoved (number bits) = tt
value_unmoved (pointer its) = no_epoch its
value_unmoved (state byte) = tt
value_unmoved (structure cells) = cells_unmoved cells

-- values of which each has no epoch
pub values_unmoved : (values : List Value) → AllByRecursion IsUnmoved (map still_value values)
values_unmoved values = all_map IsUnmoved still_value value_unmoved values

binding_unmoved : (binding : Binding) → IsUnmovedBinding (still_binding binding)
binding_unmoved (slot None) = tt
binding_unmoved (slot (Some value)) = value_unmoved value
binding_unmoved (object_at place) = tt

object_unmoved : (its : MachineObject) → IsUnmovedObject (still_object its)
object_unmoved its = cells_unmoved its.cells

presence_unpurged : (it : Presence) → IsUnpurged (unpurged it)
presence_unpurged Present = tt
presence_unpurged Emptied = tt
presence_unpurged Purged = tt
presence_unpurged Disposed = tt

block_unmoved : (block : Block) → IsUnmovedBlock (still_block block)
block_unmoved block = record { epoch = refl; presence = presence_unpurged block.presence; cells = cells_unmoved block.cells }

-- nothing was moved or purged on the still machine
pub image_is_still : (machine : Machine) → IsStillMachine (still_machine machine)
image_is_still machine =
    record {
      blocks = all_map IsUnmovedBlock still_block block_unmoved machine.blocks;
      objects = all_map IsUnmovedObject still_object object_unmoved machine.objects;
      globals = all_map IsUnmovedBinding still_binding binding_unmoved machine.globals;
      locals = all_map IsUnmovedBinding still_binding binding_unmoved machine.locals;
    }
