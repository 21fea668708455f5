-- What the functions of this crate do, as parts of the roles. `hs_meaning` has the roles, in `specs/Roles.antt`.
--     wanted role values machine          what a routine of that role does with these arguments
--     named its                           the number of the block of a handle
--     changes role its machine            a role that changes the block of a handle
--     sets_state its byte machine         the role that puts its attributes back
--     answers role shown its machine      a role that answers something of it
--     reshapes how its size machine       a role that takes bytes for it
--     changed_as, reshaped_as, lives_of   what the words of the code do to a block
--     granted bits machine                the size that the next allocation asks for, if it is granted
--     makes_handle, makes_pointer         roles that make a block or an object; disposes, the one that disposes an object
--     puts byte machine                   the role that puts out a character
--     cells_read from count machine       the cells that a pointer reaches, or why it does not
--     copies from to count machine        cells from where one pointer reaches to where another does; moves, the role that asks for that
use Rattle.std.specs.Prelude.{ℤ, ℕ, ◌%◌, pos, negsuc, Bool, List, [], ◌∷◌, ◌++◌, Option, Some, None, Result, Ok, if◌then◌else◌}
use Rattle.hs_heap.specs.Blocks.{Block, with_lock, with_purge_bit, with_state, emptied, disposed, resized, always, reallocated, has_life}
use Rattle.hs_heap.specs.declared.cell.Cell.{Cell}
use Rattle.hs_heap.specs.declared.cell.Pointer.{Pointer}
use Rattle.hs_heap.specs.declared.cell.Pointer.TheVariants.{Nil, Fixed, Handle, Spot}
use Rattle.hs_heap.specs.declared.stop.HeapStop.{HeapStop}
use Rattle.hs_meaning.specs.Accesses.{unless_stopped, use_stops, cells_at, with_cells_at}
use Rattle.hs_meaning.specs.Handles.{changed_by, answer_by, is_granted, if_granted, reshaped_by, size_for, asked, makes_block, makes_object, handle_if, object_if, with_block, with_object_if, dispose_stop, disposed_object}
use Rattle.hs_meaning.specs.Machine.{Machine, Done}
use Rattle.hs_meaning.specs.Roles.{role_stops, role_value, role_machine, handle_stops, state_stop, state_in, move_stops, put}
use Rattle.hs_meaning.specs.Values.{Value, number, bits_in, pointer_in, number_stop, pointer_stop}
use Rattle.hs_meaning.specs.declared.outcome.Stop.{Stop}
use Rattle.hs_roles.specs.declared.change.Change.{Change}
use Rattle.hs_roles.specs.declared.change.Change.TheVariants as change
use Rattle.hs_roles.specs.declared.reshape.Reshape.{Reshape}
use Rattle.hs_roles.specs.declared.reshape.Reshape.TheVariants as reshape
use Rattle.hs_table.specs.declared.role.Role.{Role}
use Rattle.hs_values.specs.Answers.{or_first}

-- a routine of that role
abbrev pub wanted : Role → List Value → Machine → Done Value
wanted role values machine =
    unless_stopped (role_stops role values machine) (role_value role values machine) (role_machine role values machine) machine

-- ---- the block of a handle

-- no other pointer names a block
abbrev pub named : Pointer → Option ℕ
named Nil = None
named (Fixed object at) = None
named (Handle block) = Some block
named (Spot its) = None

-- nothing is asked of the block
abbrev pub any_block : Block → Result Unit HeapStop
any_block block = Ok tt

-- what a change does to the block
abbrev pub changed_as : Change → Block → Result Block HeapStop
changed_as (change.Lock on) = with_lock on
changed_as (change.Purge on) = with_purge_bit on
changed_as (change.State byte) = with_state byte
changed_as change.Empty = emptied
changed_as change.Dispose = disposed

-- a role that takes no memory
abbrev pub changes : (Block → Result Block HeapStop) → Value → Machine → Done Value
changes role its machine = unless_stopped (handle_stops role its machine) (number 0) (changed_by role (pointer_in its) machine) machine

-- the role that puts attributes back
abbrev pub sets_state : Value → Value → Machine → Done Value
sets_state its byte machine =
    unless_stopped (state_stop byte ∷ handle_stops (with_state (state_in byte)) its machine) (number 0)
    (changed_by (with_state (state_in byte)) (pointer_in its) machine) machine

-- a role that answers a number of the block
abbrev pub answers : (Block → Result ℕ HeapStop) → (ℕ → Value) → Value → Machine → Done Value
answers role shown its machine = unless_stopped (handle_stops role its machine) (shown (answer_by role (pointer_in its) machine)) machine machine

-- what becomes of a block that gets so many bytes
abbrev pub reshaped_as : Reshape → ℕ → Block → Result Block HeapStop
reshaped_as reshape.Resize = resized
reshaped_as reshape.Renew = reallocated

-- what is asked of its life
abbrev pub lives_of : Reshape → Block → Bool
lives_of reshape.Resize = always
lives_of reshape.Renew = has_life

-- a role that takes bytes
abbrev pub reshapes : Reshape → Value → Value → Machine → Done Value
reshapes how its size machine =
    unless_stopped (number_stop size ∷ handle_stops (reshaped_as how (size_for size)) its machine) (number 0)
    (if_granted size (reshaped_by (lives_of how) (reshaped_as how (size_for size)) (pointer_in its)) machine) machine

-- ---- allocations

-- a number with a sign, if it is a size
abbrev pub size_if : ℤ → Option ℕ
size_if (pos size) = Some size
size_if (negsuc below) = None

-- the size that the next allocation asks for
abbrev pub granted : ℕ → Machine → Option ℕ
granted bits machine = if is_granted (number bits) machine then Some (size_for (number bits)) else None

-- NewHandle
abbrev pub makes_handle : Value → Machine → Done Value
makes_handle size machine =
    unless_stopped (number_stop size ∷ []) (handle_if (makes_block size machine) machine)
    (with_block (makes_block size machine) (size_for size) (asked machine)) machine

-- NewPtr
abbrev pub makes_pointer : Value → Machine → Done Value
makes_pointer size machine =
    unless_stopped (number_stop size ∷ []) (object_if (makes_object size machine) machine)
    (with_object_if (makes_object size machine) (size_for size) (asked machine)) machine

-- DisposePtr
abbrev pub disposes : Value → Machine → Done Value
disposes its machine =
    unless_stopped (pointer_stop its ∷ dispose_stop (pointer_in its) machine ∷ []) (number 0) (disposed_object (pointer_in its) machine) machine

-- ---- characters

-- putchar
abbrev pub puts : Value → Machine → Done Value
puts byte machine = unless_stopped (number_stop byte ∷ []) (number (bits_in byte % 256)) (put (bits_in byte % 256) machine) machine

-- ---- cells

-- what so many cells hold, unless they are not reached
abbrev pub cells_read : Pointer → ℕ → Machine → Result (List Cell) Stop
cells_read from count machine = or_first (use_stops from count machine) (cells_at from count machine)

-- BlockMove, once its pointers are no handles and its count is a size
abbrev pub copies : Pointer → Pointer → ℕ → Machine → Done (Unit {0})
copies from to count machine =
    unless_stopped (use_stops from count machine ++ use_stops to count machine) tt (with_cells_at to (cells_at from count machine) machine) machine

-- BlockMove
abbrev pub moves : Pointer → Pointer → Value → Machine → Done Value
moves from to count machine =
    unless_stopped (move_stops from to count machine) (number 0) (with_cells_at to (cells_at from (size_for count) machine) machine) machine
