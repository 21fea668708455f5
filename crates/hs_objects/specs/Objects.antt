-- The objects of a run, as a list (own). `hs_meaning` says what an object is, and why a use of one stops.
--     storage_of kept                          how long an object lives, by the word in which it is kept
--     has_room size objects                    a routine may make one more of so many bytes
--     has_room_for_call bytes count objects    a call may make so many objects, with so many bytes
--     cells_in place at count objects          the cells that a use reaches, or why it stops
--     put_cells place at cells objects         the objects with other cells there
--     Stores place at cells old new result     a store put the cells there, or stopped and changed nothing
--     IsCounted objects automatic allocated    the bytes of calls and of routines are counted
use Rattle.std.specs.Prelude.{◌≡◌, ℕ, ℤ, ◌+◌, nat_le, Bool, ◌&&◌, List, length, slice_get, slice_set, Option, Some, None, Result, Ok, Err}
use Rattle.hs_heap.specs.declared.cell.Cell.{Cell}
use Rattle.hs_meaning.specs.Accesses.{object_stops, cells_from, cells_of_object, with_cells_from}
use Rattle.hs_meaning.specs.Machine as machine
use Rattle.hs_meaning.specs.Machine.{Object, is_allocated, is_automatic, bytes_where}
use Rattle.hs_meaning.specs.Stops.{first_stop}
use Rattle.hs_meaning.specs.declared.outcome.Stop.{Stop}
use Rattle.hs_objects.specs.declared.object.Storage.{Storage}
use Rattle.hs_objects.specs.declared.object.Storage.TheVariants as kept
use Rattle.hs_values.specs.Answers.{or_first}

-- how long it lives
abbrev pub storage_of : Storage → machine.Storage
storage_of kept.Permanent = machine.permanent
storage_of kept.Automatic = machine.automatic
storage_of kept.Allocated = machine.allocated
storage_of kept.Ended = machine.ended

-- live bytes of objects that routines made are at most 16777216, and objects at most 4294967295
abbrev pub has_room : ℕ → List Object → Bool
has_room size objects = nat_le (bytes_where is_allocated objects + size) 16777216 && nat_le (length objects + 1) 4294967295

-- live bytes of objects of calls are at most 16777216
abbrev pub has_room_for_call : ℕ → ℕ → List Object → Bool
has_room_for_call bytes count objects =
    nat_le (bytes_where is_automatic objects + bytes) 16777216 && nat_le (length objects + count) 4294967295

-- so many cells from that byte of the object of that number, or why they are not reached
abbrev pub cells_in : ℕ → ℤ → ℕ → List Object → Result (List Cell) Stop
cells_in place at count objects =
    or_first (object_stops at count (slice_get objects place)) (cells_from at count (cells_of_object (slice_get objects place)))

-- the objects, with one that has other cells from that byte on
abbrev pub put_in : ℕ → ℤ → List Cell → List Object → Option Object → List Object
put_in place at cells objects None = objects
put_in place at cells objects (Some its) = slice_set objects place (record its { cells = with_cells_from at cells its.cells })

-- the one of that number
abbrev pub put_cells : ℕ → ℤ → List Cell → List Object → List Object
put_cells place at cells objects = put_in place at cells objects (slice_get objects place)

-- nothing is changed if there is a stop
abbrev pub StoresUnless : Option Stop → List Object → List Object → List Object → Result Unit Stop → Type 0
StoresUnless None after old new (Ok _) = new ≡ after
StoresUnless None after old new (Err given) = ⊥
StoresUnless (Some why) after old new (Ok _) = ⊥
StoresUnless (Some why) after old new (Err given) = (given ≡ why) × (new ≡ old)

-- the cells were put there, or the use stopped
abbrev pub Stores : ℕ → ℤ → List Cell → List Object → List Object → Result Unit Stop → Type 0
Stores place at cells old new result =
    StoresUnless (first_stop (object_stops at (length cells) (slice_get old place))) (put_cells place at cells old) old new result

-- what is counted of the bytes
pub record IsCounted (objects : List Object) (of_calls of_routines : ℕ) : Type 0 where
  pub calls : of_calls ≡ bytes_where is_automatic objects
  pub routines : of_routines ≡ bytes_where is_allocated objects
