-- What the roles of routines do (Inside Macintosh: Memory, narrowed; what is opaque or refused is own). `Plain.antt` has plain routines.
--     role_stops role values machine       why a routine of that role stops, in the order of its tests
--     role_value role values machine       what it gives
--     role_machine role values machine     the machine after it
-- The argument of a role that is no handle role is tested first; a state byte is no number.
use Rattle.std.specs.Prelude.{ℕ, ◌%◌, Bool, true, false, not, List, [], ◌∷◌, ◌++◌, Option, Some, None, Result}
use Rattle.hs_heap.specs.Blocks.{Block, emptied, disposed, size_of, resized, with_lock, with_purge_bit, state_of, with_state, reallocated, has_life}
use Rattle.hs_heap.specs.declared.cell.Pointer.{Pointer}
use Rattle.hs_heap.specs.declared.cell.Pointer.TheVariants.{Nil, Fixed, Handle, Spot}
use Rattle.hs_heap.specs.declared.stop.HeapStop.{HeapStop}
use Rattle.hs_meaning.specs.Accesses.{use_stops, cells_at, with_cells_at}
use Rattle.hs_meaning.specs.Handles.{handle_stop, changed_by, answer_by, if_granted, asked, reshaped_by, any_life, makes_block, makes_object, handle_if, object_if, with_block, with_object_if, dispose_stop, disposed_object, is_size, size_for}
use Rattle.hs_meaning.specs.Machine.{Machine}
use Rattle.hs_meaning.specs.Numbers.{signed}
use Rattle.hs_meaning.specs.Stops.{Stops, stops_if}
use Rattle.hs_meaning.specs.Values.{Value, number, pointer, state, structure, bits_in, pointer_in, number_stop, pointer_stop}
use Rattle.hs_meaning.specs.declared.outcome.Stop.{Stop}
use Rattle.hs_meaning.specs.declared.outcome.Stop.TheVariants as stop
use Rattle.hs_table.specs.declared.role.Role.{Role}
use Rattle.hs_table.specs.declared.role.Role.TheVariants.{NewHandle, DisposeHandle, GetSize, SetSize, Lock, Unlock, Purge, NoPurge, GetState, SetState, Empty, Realloc, NewPtr, DisposePtr, BlockMove, Getchar, Putchar}

-- the address of a master pointer
abbrev pub is_handle : Pointer → Bool
is_handle Nil = false
is_handle (Fixed object at) = false
is_handle (Handle block) = true
is_handle (Spot its) = false

-- only a state byte puts attributes back
abbrev pub state_stop : Value → Option Stop
state_stop (number bits) = Some stop.BadByte
state_stop (pointer its) = Some stop.BadByte
state_stop (state byte) = None
state_stop (structure cells) = Some stop.BadByte

-- the byte itself
abbrev pub state_in : Value → ℕ
state_in (number bits) = 0
state_in (pointer its) = 0
state_in (state byte) = byte
state_in (structure cells) = 0

-- EOF at the end
abbrev pub next_byte : List ℕ → ℕ
next_byte [] = 4294967295
next_byte (byte ∷ rest) = byte

-- the bytes after the next one
abbrev pub later : List ℕ → List ℕ
later [] = []
later (first ∷ rest) = rest

-- the character is added to the output
abbrev pub put : ℕ → Machine → Machine
put byte machine = record machine { output = machine.output ++ byte ∷ [] }

-- a handle that is its only argument, or its first
abbrev pub handle_stops : {A : Type 0} → (Block → Result A HeapStop) → Value → Machine → Stops
handle_stops role value machine = pointer_stop value ∷ handle_stop role (pointer_in value) machine ∷ []

-- BlockMove: no handle, and no count below 0; then where the first pointer reaches, then where the second does, also if the count is 0
abbrev pub move_stops : Pointer → Pointer → Value → Machine → Stops
move_stops from to count machine =
    number_stop count
    ∷ stops_if (is_handle from) stop.BadPointer
    ∷ stops_if (is_handle to) stop.BadPointer
    ∷ stops_if (not (is_size (signed (bits_in count)))) stop.Range
    ∷ use_stops from (size_for count) machine ++ use_stops to (size_for count) machine

-- ---- the roles

-- why a routine stops
abbrev pub role_stops : Role → List Value → Machine → Stops
role_stops NewHandle (size ∷ []) machine = number_stop size ∷ []
role_stops DisposeHandle (its ∷ []) machine = handle_stops disposed its machine
role_stops GetSize (its ∷ []) machine = handle_stops size_of its machine
role_stops SetSize (its ∷ size ∷ []) machine = number_stop size ∷ handle_stops (resized (size_for size)) its machine
role_stops Lock (its ∷ []) machine = handle_stops (with_lock true) its machine
role_stops Unlock (its ∷ []) machine = handle_stops (with_lock false) its machine
role_stops Purge (its ∷ []) machine = handle_stops (with_purge_bit true) its machine
role_stops NoPurge (its ∷ []) machine = handle_stops (with_purge_bit false) its machine
role_stops GetState (its ∷ []) machine = handle_stops state_of its machine
role_stops SetState (its ∷ byte ∷ []) machine = state_stop byte ∷ handle_stops (with_state (state_in byte)) its machine
role_stops Empty (its ∷ []) machine = handle_stops emptied its machine
role_stops Realloc (its ∷ size ∷ []) machine = number_stop size ∷ handle_stops (reallocated (size_for size)) its machine
role_stops NewPtr (size ∷ []) machine = number_stop size ∷ []
role_stops DisposePtr (its ∷ []) machine = pointer_stop its ∷ dispose_stop (pointer_in its) machine ∷ []
role_stops BlockMove (from ∷ to ∷ count ∷ []) machine = move_stops (pointer_in from) (pointer_in to) count machine
role_stops Getchar [] machine = []
role_stops Putchar (byte ∷ []) machine = number_stop byte ∷ []
role_stops role values machine = Some stop.BadPointer ∷ []

-- what it gives; a role without a result gives 0
abbrev pub role_value : Role → List Value → Machine → Value
role_value NewHandle (size ∷ []) machine = handle_if (makes_block size machine) machine
role_value GetSize (its ∷ []) machine = number (answer_by size_of (pointer_in its) machine)
role_value GetState (its ∷ []) machine = state (answer_by state_of (pointer_in its) machine)
role_value NewPtr (size ∷ []) machine = object_if (makes_object size machine) machine
role_value Getchar [] machine = number (next_byte machine.bytes)
role_value Putchar (byte ∷ []) machine = number (bits_in byte % 256)
role_value role values machine = number 0

-- the machine after it
abbrev pub role_machine : Role → List Value → Machine → Machine
role_machine NewHandle (size ∷ []) machine = with_block (makes_block size machine) (size_for size) (asked machine)
role_machine DisposeHandle (its ∷ []) machine = changed_by disposed (pointer_in its) machine
role_machine GetSize (its ∷ []) machine = machine
role_machine SetSize (its ∷ size ∷ []) machine = if_granted size (reshaped_by any_life (resized (size_for size)) (pointer_in its)) machine
role_machine Lock (its ∷ []) machine = changed_by (with_lock true) (pointer_in its) machine
role_machine Unlock (its ∷ []) machine = changed_by (with_lock false) (pointer_in its) machine
role_machine Purge (its ∷ []) machine = changed_by (with_purge_bit true) (pointer_in its) machine
role_machine NoPurge (its ∷ []) machine = changed_by (with_purge_bit false) (pointer_in its) machine
role_machine GetState (its ∷ []) machine = machine
role_machine SetState (its ∷ byte ∷ []) machine = changed_by (with_state (state_in byte)) (pointer_in its) machine
role_machine Empty (its ∷ []) machine = changed_by emptied (pointer_in its) machine
role_machine Realloc (its ∷ size ∷ []) machine = if_granted size (reshaped_by has_life (reallocated (size_for size)) (pointer_in its)) machine
role_machine NewPtr (size ∷ []) machine = with_object_if (makes_object size machine) (size_for size) (asked machine)
role_machine DisposePtr (its ∷ []) machine = disposed_object (pointer_in its) machine
role_machine BlockMove (from ∷ to ∷ count ∷ []) machine =
    with_cells_at (pointer_in to) (cells_at (pointer_in from) (size_for count) machine) machine
role_machine Getchar [] machine = record machine { bytes = later machine.bytes }
role_machine Putchar (byte ∷ []) machine = put (bits_in byte % 256) machine
role_machine role values machine = machine
