-- What routines do to blocks by their handles, and to objects that they make (Inside Macintosh: Memory, narrowed; what is refused or spent is
-- own). `Roles.antt` has the roles.
--     handle_stop role its machine           why a role of the block of a handle stops: NIL is left alone, and other pointers are no handles
--     changed_by role its machine            the machine after a role that changes the block
--     answer_by role its machine             what a role answers of the block
--     is_granted value machine               the next allocation is not refused, and what it asks for is a size
--     if_granted value change machine        the machine with the change, if the allocation is granted
--     reshaped_by lives role its machine     the machine after a role that takes bytes for the block, if there is room
--     handle_if, with_block, object_if, with_object_if       blocks and objects that are made
--     dispose_stop, disposed_object          objects that are disposed
use Rattle.std.specs.Prelude.{ℤ, ℕ, pos, negsuc, ◌+◌, ◌==◌, nat_le, Bool, true, false, not, ◌&&◌, [], ◌∷◌, ◌++◌, length, replicate, slice_get, Option, Some, None, Result, Ok, Err, if◌then◌else◌}
use Rattle.std.specs.List.{list_any}
use Rattle.std.specs.Ordering.{int_eq}
use Rattle.hs_heap.specs.Blocks.{Block, new_block}
use Rattle.hs_heap.specs.Memory.{block_at, put_block, live_bytes, has_room}
use Rattle.hs_heap.specs.declared.cell.Cell.TheVariants.{Undefined}
use Rattle.hs_heap.specs.declared.cell.Pointer.{Pointer}
use Rattle.hs_heap.specs.declared.cell.Pointer.TheVariants.{Nil, Fixed, Handle, Spot}
use Rattle.hs_heap.specs.declared.stop.HeapStop.{HeapStop}
use Rattle.hs_meaning.specs.Machine.{Machine, Object, allocated, is_allocated, ended_object, with_blocks, with_object, new_object, has_room_for}
use Rattle.hs_meaning.specs.Numbers.{signed}
use Rattle.hs_meaning.specs.Stops.{stops_if, heap_stop}
use Rattle.hs_meaning.specs.Values.{Value, pointer, bits_in}
use Rattle.hs_meaning.specs.declared.outcome.Stop.{Stop}
use Rattle.hs_meaning.specs.declared.outcome.Stop.TheVariants as stop

-- ---- blocks, by their handles

-- no handle has the number of a block that was never made
abbrev pub handle_stop_in : {A : Type 0} → (Block → Result A HeapStop) → Option Block → Option Stop
handle_stop_in role None = Some stop.BadHandle
handle_stop_in role (Some block) = heap_stop (role block)

-- why a handle role stops
abbrev pub handle_stop : {A : Type 0} → (Block → Result A HeapStop) → Pointer → Machine → Option Stop
handle_stop role Nil machine = None
handle_stop role (Fixed object at) machine = Some stop.BadHandle
handle_stop role (Spot its) machine = Some stop.BadHandle
handle_stop role (Handle block) machine = handle_stop_in role (block_at machine.blocks block)

-- the heap with the block after the role, if it acts
abbrev pub with_result : ℕ → Result Block HeapStop → Machine → Machine
with_result block (Ok after) machine = with_blocks (put_block machine.blocks block after) machine
with_result block (Err why) machine = machine

-- of the block of that number
abbrev pub changed_in : (Block → Result Block HeapStop) → ℕ → Option Block → Machine → Machine
changed_in role block None machine = machine
changed_in role block (Some before) machine = with_result block (role before) machine

-- the machine after a role that changes the block of a handle
abbrev pub changed_by : (Block → Result Block HeapStop) → Pointer → Machine → Machine
changed_by role Nil machine = machine
changed_by role (Fixed object at) machine = machine
changed_by role (Spot its) machine = machine
changed_by role (Handle block) machine = changed_in role block (block_at machine.blocks block) machine

-- or 0
abbrev pub answer_in : Result ℕ HeapStop → ℕ
answer_in (Ok answer) = answer
answer_in (Err why) = 0

-- of a block that is there
abbrev pub answer_of_block : (Block → Result ℕ HeapStop) → Option Block → ℕ
answer_of_block role None = 0
answer_of_block role (Some block) = answer_in (role block)

-- what a role answers of the block of a handle: 0 of NIL
abbrev pub answer_by : (Block → Result ℕ HeapStop) → Pointer → Machine → ℕ
answer_by role Nil machine = 0
answer_by role (Fixed object at) machine = 0
answer_by role (Spot its) machine = 0
answer_by role (Handle block) machine = answer_of_block role (block_at machine.blocks block)

-- ---- allocations

-- a size is taken with its sign, whatever its type is
abbrev pub is_size : ℤ → Bool
is_size (pos size) = true
is_size (negsuc below) = false

-- or 0
abbrev pub size_in : ℤ → ℕ
size_in (pos size) = size
size_in (negsuc below) = 0

-- the size that a number is
abbrev pub size_for : Value → ℕ
size_for value = size_in (signed (bits_in value))

-- the next allocation is not refused, and what it asks for is a size
abbrev pub is_granted : Value → Machine → Bool
is_granted value machine =
    not (list_any (λ refused. refused == machine.allocations + 1) machine.refused) && is_size (signed (bits_in value))

-- one more was asked for
abbrev pub asked : Machine → Machine
asked machine = record machine { allocations = machine.allocations + 1 }

-- a block whose role takes bytes has room for what it becomes
abbrev pub has_room_after : ℕ → Result Block HeapStop → Machine → Bool
has_room_after block (Ok after) machine = nat_le (live_bytes (put_block machine.blocks block after)) 16777216
has_room_after block (Err why) machine = false

-- the role acts if there is room, and the life of the block can be raised if it is to be
abbrev pub reshaped_in : (Block → Bool) → (Block → Result Block HeapStop) → ℕ → Option Block → Machine → Machine
reshaped_in lives role block None machine = machine
reshaped_in lives role block (Some before) machine =
    if lives before && has_room_after block (role before) machine then with_result block (role before) machine else machine

-- by the handle of the block
abbrev pub reshaped_by : (Block → Bool) → (Block → Result Block HeapStop) → Pointer → Machine → Machine
reshaped_by lives role Nil machine = machine
reshaped_by lives role (Fixed object at) machine = machine
reshaped_by lives role (Spot its) machine = machine
reshaped_by lives role (Handle block) machine = reshaped_in lives role block (block_at machine.blocks block) machine

-- the machine, with the change if the allocation is granted
abbrev pub if_granted : Value → (Machine → Machine) → Machine → Machine
if_granted value change machine = if is_granted value machine then change (asked machine) else asked machine

-- nothing is asked of its life
abbrev pub any_life : Block → Bool
any_life block = true

-- ---- blocks and objects that are made

-- a block of that size is made
abbrev pub makes_block : Value → Machine → Bool
makes_block value machine = is_granted value machine && has_room machine.blocks (size_for value)

-- an object of that size is made
abbrev pub makes_object : Value → Machine → Bool
makes_object value machine = is_granted value machine && has_room_for (size_for value) machine

-- the handle of the block with the next number, or NIL
abbrev pub handle_if : Bool → Machine → Value
handle_if true machine = pointer (Handle (length machine.blocks + 1))
handle_if false machine = pointer Nil

-- the front of the object with the next number, or NIL
abbrev pub object_if : Bool → Machine → Value
object_if true machine = pointer (Fixed (length machine.objects) (pos 0))
object_if false machine = pointer Nil

-- a new block
abbrev pub with_block : Bool → ℕ → Machine → Machine
with_block true size machine = with_blocks (machine.blocks ++ new_block size ∷ []) machine
with_block false size machine = machine

-- a new object
abbrev pub with_object_if : Bool → ℕ → Machine → Machine
with_object_if true size machine = new_object allocated (replicate size Undefined) machine
with_object_if false size machine = machine

-- an object that the program may dispose: one that a routine made, by its front
abbrev pub may_dispose : ℤ → Option Object → Bool
may_dispose at None = false
may_dispose at (Some its) = int_eq at (pos 0) && is_allocated its.storage

-- NIL is left alone
abbrev pub dispose_stop : Pointer → Machine → Option Stop
dispose_stop Nil machine = None
dispose_stop (Fixed object at) machine = stops_if (not (may_dispose at (slice_get machine.objects object))) stop.BadPointer
dispose_stop (Handle block) machine = Some stop.BadPointer
dispose_stop (Spot its) machine = Some stop.BadPointer

-- the object has ended
abbrev pub disposed_object : Pointer → Machine → Machine
disposed_object Nil machine = machine
disposed_object (Fixed object at) machine = with_object object ended_object machine
disposed_object (Handle block) machine = machine
disposed_object (Spot its) machine = machine
