-- The still machine beside a moving one (own): a map that sets every epoch to 0, takes purged blocks for present ones, and empties the schedule.
--     still_cell, still_value        what is in cells and on a stack
--     still_block, still_object, still_binding
--     still_machine, still_state     the machine, and the state of a run
--     still_point, still_waiting     where a run of code is
--     still_done, still_ran          what an operation comes to, and a step
-- A pointer is mapped by `unmoved` of the definitions.
use Rattle.std.specs.Prelude.{List, [], map, Option, Some, None}
use Rattle.hs_code_run.specs.Codes.{Frame, Waiting, Point}
use Rattle.hs_heap.specs.Blocks.{Block}
use Rattle.hs_heap.specs.declared.cell.Cell.{Cell}
use Rattle.hs_heap.specs.declared.cell.Cell.TheVariants.{Undefined, Byte, State, Part}
use Rattle.hs_heap.specs.declared.presence.Presence.{Presence}
use Rattle.hs_heap.specs.declared.presence.Presence.TheVariants.{Present, Emptied, Purged, Disposed}
use Rattle.hs_meaning.specs.Evaluation.{Location, in_slot, at_address}
use Rattle.hs_meaning.specs.Machine.{Machine, Object, Binding, slot, object_at, Done, done, stopped}
use Rattle.hs_meaning.specs.Steps.{State as RunState, Ran, went, over}
use Rattle.hs_meaning.specs.Values.{Value, number, pointer, state, structure, unmoved}

-- ---- values

-- a part of a pointer is one of the pointer without its epoch
abbrev pub still_cell : Cell → Cell
still_cell Undefined = Undefined
still_cell (Byte byte) = Byte byte
still_cell (State byte) = State byte
still_cell (Part at its class) = Part at (unmoved its) class

-- each of the cells
abbrev pub still_cells : List Cell → List Cell
still_cells cells = map still_cell cells

-- a value without epochs
abbrev pub still_value : Value → Value
still_value (number bits) = number bits
still_value (pointer its) = pointer (unmoved its)
still_value (state byte) = state byte
still_value (structure cells) = structure (still_cells cells)

-- ---- the machine

-- no decision purges a block
abbrev pub unpurged : Presence → Presence
unpurged Present = Present
unpurged Emptied = Emptied
unpurged Purged = Present
unpurged Disposed = Disposed

-- no decision moves one
abbrev pub still_block : Block → Block
still_block block =
    record {
      cells = still_cells block.cells;
      life = block.life;
      epoch = 0;
      locked = block.locked;
      purgeable = block.purgeable;
      presence = unpurged block.presence;
    }

-- an object with those cells
abbrev pub still_object : Object → Object
still_object its = record { cells = still_cells its.cells; storage = its.storage }

-- a slot with that value
abbrev pub still_optional : Option Value → Option Value
still_optional None = None
still_optional (Some value) = Some (still_value value)

-- an object has the same number
abbrev pub still_binding : Binding → Binding
still_binding (slot value) = slot (still_optional value)
still_binding (object_at place) = object_at place

-- all that the machine has
abbrev pub still_machine : Machine → Machine
still_machine m =
    record m {
      blocks = map still_block m.blocks;
      objects = map still_object m.objects;
      globals = map still_binding m.globals;
      locals = map still_binding m.locals;
    }

-- ---- runs

-- no decision is to come
abbrev pub still_state : RunState → RunState
still_state s = record { machine = still_machine s.machine; schedule = []; turns = s.turns }

-- the values on the stack of a call
abbrev pub still_frame : Frame → Frame
still_frame frame = record { code = frame.code; at = frame.at; stack = map still_value frame.stack }

-- a call that waits
abbrev pub still_waiting : Waiting → Waiting
still_waiting its =
    record { frame = still_frame its.frame; locals = map still_binding its.locals; arguments = map still_value its.arguments }

-- all calls
abbrev pub still_point : Point → Point
still_point point = record { frame = still_frame point.frame; waiting = map still_waiting point.waiting; choices = point.choices }

-- where an object is
abbrev pub still_location : Location → Location
still_location (in_slot name) = in_slot name
still_location (at_address its) = at_address (still_value its)

-- ---- what is done

-- what an operation comes to, on a machine that is mapped
abbrev pub still_done : {A : Type 0} → (A → A) → Done A → Done A
still_done f (done it machine) = done (f it) (still_machine machine)
still_done f (stopped why machine) = stopped why (still_machine machine)

-- what a step comes to
abbrev pub still_ran : {A : Type 0} → (A → A) → Ran A → Ran A
still_ran f (went it s) = went (f it) (still_state s)
still_ran f (over outcome s) = over outcome (still_state s)
