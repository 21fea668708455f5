-- What the steps of a plain routine come to.
--     filled_target target size machine     the target is filled, unless it is not reached
--     number_if room machine                the number of the block that is made, if there is room
--     front_of block                        the front of a block that was just made
--     cleared_block block size machine      its bytes are made 0
use Rattle.std.specs.Prelude.{ℕ, ◌+◌, pos, Bool, true, false, length, replicate, Option, Some, None}
use Rattle.hs_heap.specs.declared.cell.Cell.TheVariants.{Byte}
use Rattle.hs_heap.specs.declared.cell.Pointer.{Pointer}
use Rattle.hs_heap.specs.declared.cell.Pointer.TheVariants.{Spot}
use Rattle.hs_meaning.specs.Accesses.{unless_stopped, use_stops, with_cells_at}
use Rattle.hs_meaning.specs.Machine.{Machine, Done}
use Rattle.hs_meaning.specs.Plain.{fill_stops, filled}
use Rattle.hs_meaning.specs.Values.{Value}

-- a stop takes no word
abbrev pub filled_target : Option Value → ℕ → Machine → Done (Unit {0})
filled_target target size machine = unless_stopped (fill_stops target size machine) (tt {0}) (filled target size machine) machine

-- the next one
abbrev pub number_if : Bool → Machine → Option ℕ
number_if true machine = Some (length machine.blocks + 1)
number_if false machine = None

-- of its first life, and never moved
abbrev pub front_of : ℕ → Pointer
front_of block = Spot (record { block = block; life = 0; epoch = 0; offset = pos 0 })

-- zeros are stored from its front on
abbrev pub cleared_block : ℕ → ℕ → Machine → Done (Unit {0})
cleared_block block size machine =
    unless_stopped (use_stops (front_of block) size machine) (tt {0}) (with_cells_at (front_of block) (replicate size (Byte 0)) machine) machine
