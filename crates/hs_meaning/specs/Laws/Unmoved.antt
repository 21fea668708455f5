-- What is never moved: no block was moved or purged, and each pointer into a block is of its first epoch.
--     IsUnmoved its, AreUnmoved cells       a pointer, a value, cells
--     IsStillMachine machine                the whole machine
--     IsStillDone fact its                  what an operation comes to: it keeps the machine so, and is no misuse
pub mod Accesses
pub mod Blocks
pub mod Evaluation
pub mod Fine
pub mod Frames
pub mod Handles
pub mod Lists
pub mod Operations
pub mod Plain
pub mod Pointers
pub mod Roles
pub mod Starts
pub mod Values
use Rattle.std.proofs.Common.{◌≡◌, ℕ, Bool, true, false, List, [], ◌∷◌, Option, Some, None}
use Rattle.std.specs.List.{AllByRecursion}
use Rattle.hs_heap.specs.Blocks.{Block}
use Rattle.hs_heap.specs.declared.cell.Cell.{Cell}
use Rattle.hs_heap.specs.declared.cell.Cell.TheVariants.{Undefined, Byte, State, Part}
use Rattle.hs_heap.specs.declared.cell.Pointer.{Pointer}
use Rattle.hs_heap.specs.declared.presence.Presence.{Presence}
use Rattle.hs_heap.specs.declared.presence.Presence.TheVariants.{Present, Emptied, Purged, Disposed}
use Rattle.hs_meaning.specs.Evaluation.{Flow, onward, breaks, continues, returned, Location, in_slot, at_address}
use Rattle.hs_meaning.specs.Runs.{IsMisuseStop}
use Rattle.hs_meaning.specs.Machine.{Machine, Object, Binding, slot, object_at, Done, done, stopped}
use Rattle.hs_meaning.specs.Values.{Value, number, pointer, state, structure, epoch_of}

-- it is of the first epoch
abbrev pub IsUnmovedPointer : Pointer → Type 0
IsUnmovedPointer its = epoch_of its ≡ 0

-- a part of such a pointer, or no part
abbrev pub IsUnmovedCell : Cell → Type 0
IsUnmovedCell Undefined = Unit {0}
IsUnmovedCell (Byte byte) = Unit {0}
IsUnmovedCell (State byte) = Unit {0}
IsUnmovedCell (Part place its class) = IsUnmovedPointer its

-- all of the cells
abbrev pub AreUnmoved : List Cell → Type 0
AreUnmoved cells = AllByRecursion IsUnmovedCell cells

-- a value without another pointer
abbrev pub IsUnmoved : Value → Type 0
IsUnmoved (number bits) = Unit {0}
IsUnmoved (pointer its) = IsUnmovedPointer its
IsUnmoved (state byte) = Unit {0}
IsUnmoved (structure cells) = AreUnmoved cells

-- a slot with such a value, or none
abbrev pub IsUnmovedBinding : Binding → Type 0
IsUnmovedBinding (slot None) = Unit {0}
IsUnmovedBinding (slot (Some value)) = IsUnmoved value
IsUnmovedBinding (object_at place) = Unit {0}

-- the schedule purged nothing
abbrev pub IsUnpurged : Presence → Type 0
IsUnpurged Present = Unit {0}
IsUnpurged Emptied = Unit {0}
IsUnpurged Purged = ⊥
IsUnpurged Disposed = Unit {0}

-- it was neither moved nor purged
pub record IsUnmovedBlock (block : Block) : Type 0 where
  pub epoch : block.epoch ≡ 0
  pub presence : IsUnpurged block.presence
  pub cells : AreUnmoved block.cells

-- an object without another pointer
abbrev pub IsUnmovedObject : Object → Type 0
IsUnmovedObject its = AreUnmoved its.cells

-- the whole machine
pub record IsStillMachine (machine : Machine) : Type 0 where
  pub blocks : AllByRecursion IsUnmovedBlock machine.blocks
  pub objects : AllByRecursion IsUnmovedObject machine.objects
  pub globals : AllByRecursion IsUnmovedBinding machine.globals
  pub locals : AllByRecursion IsUnmovedBinding machine.locals

-- an operation gives something that is so, on a machine that stays still, or stops, and not for a misuse
abbrev pub IsStillDone : {A : Type 0} → (A → Type 0) → Done A → Type 0
IsStillDone fact (done it machine) = fact it × IsStillMachine machine
IsStillDone fact (stopped why machine) = ¬ (IsMisuseStop why)

-- at such an address
abbrev pub IsUnmovedLocation : Location → Type 0
IsUnmovedLocation (in_slot name) = Unit {0}
IsUnmovedLocation (at_address its) = IsUnmoved its

-- a return of such a value
abbrev pub IsUnmovedFlow : Flow → Type 0
IsUnmovedFlow onward = Unit {0}
IsUnmovedFlow breaks = Unit {0}
IsUnmovedFlow continues = Unit {0}
IsUnmovedFlow (returned value at) = IsUnmoved value
