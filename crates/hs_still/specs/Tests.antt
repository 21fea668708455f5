-- Which operands an operation tests for being stale or purged: all uses that such a test can stop are listed here.
--     UsedBy setting its values machine      those operands are neither
--     tests setting its                      the operation has such operands
--     untested                               an operation without them asks nothing
-- A pointer into a block is tested for its epoch, and a handle for its block being purged. Offsets, steps, tests for NIL, slots and numbers test
-- neither, and so do DisposePtr, new blocks and objects, and bytes that are read or put out.
use Rattle.std.proofs.Common.{◌≡◌, Bool, true, false, List, [], ◌∷◌, slice_get, Option, Some, None}
use Rattle.hs_heap.specs.declared.cell.Pointer.{Pointer}
use Rattle.hs_meaning.specs.Machine.{Machine}
use Rattle.hs_meaning.specs.Operations.{Operation, load, store, compare, difference, routine}
use Rattle.hs_meaning.specs.Settings.{Setting}
use Rattle.hs_meaning.specs.Values.{Value, pointer, pointer_in, Access, of_number, of_pointer, of_struct}
use Rattle.hs_still.specs.Uses.{Current, Unpurged, Used}
use Rattle.hs_table.specs.declared.role.Role.{Role}
use Rattle.hs_table.specs.declared.role.Role.TheVariants.{Plain, NewHandle, DisposeHandle, GetSize, SetSize, Lock, Unlock, Purge, NoPurge, GetState, SetState, Empty, Realloc, NewPtr, DisposePtr, BlockMove, Getchar, Putchar}
use Rattle.hs_tree.specs.declared.function.BoundRoutine.{BoundRoutine}

-- ---- operands

-- Only a load of a pointer reads a master pointer.
abbrev pub LoadUses : Access → Pointer → Machine → Type 0
LoadUses (of_number kind) its machine = Current its machine
LoadUses (of_pointer class) its machine = Used its machine
LoadUses (of_struct size) its machine = Current its machine

-- two pointers that are compared or subtracted
abbrev pub OperationUses : Operation → List Value → Machine → Type 0
OperationUses (compare operator) (a ∷ b ∷ []) machine = Current (pointer_in a) machine × Current (pointer_in b) machine
OperationUses (difference size) (a ∷ b ∷ []) machine = Current (pointer_in a) machine × Current (pointer_in b) machine
OperationUses operation values machine = Unit {0}

-- A plain routine uses all of its arguments, and what it fills is the target of one of them.
abbrev pub AllUsed : List Value → Machine → Type 0
AllUsed [] machine = Unit {0}
AllUsed (value ∷ values) machine = Used (pointer_in value) machine × AllUsed values machine

-- the handle of a handle role, and both pointers of BlockMove
abbrev pub RoleUses : Role → List Value → Machine → Type 0
RoleUses DisposeHandle (its ∷ []) machine = Unpurged (pointer_in its) machine
RoleUses GetSize (its ∷ []) machine = Unpurged (pointer_in its) machine
RoleUses SetSize (its ∷ size ∷ []) machine = Unpurged (pointer_in its) machine
RoleUses Lock (its ∷ []) machine = Unpurged (pointer_in its) machine
RoleUses Unlock (its ∷ []) machine = Unpurged (pointer_in its) machine
RoleUses Purge (its ∷ []) machine = Unpurged (pointer_in its) machine
RoleUses NoPurge (its ∷ []) machine = Unpurged (pointer_in its) machine
RoleUses GetState (its ∷ []) machine = Unpurged (pointer_in its) machine
RoleUses SetState (its ∷ byte ∷ []) machine = Unpurged (pointer_in its) machine
RoleUses Empty (its ∷ []) machine = Unpurged (pointer_in its) machine
RoleUses Realloc (its ∷ size ∷ []) machine = Unpurged (pointer_in its) machine
RoleUses BlockMove (from ∷ to ∷ count ∷ []) machine = Current (pointer_in from) machine × Current (pointer_in to) machine
RoleUses role values machine = Unit {0}

-- by its role
abbrev pub CallUses : Role → List Value → Machine → Type 0
CallUses Plain values machine = AllUsed values machine
CallUses role values machine = RoleUses role values machine

-- of a routine that is there
abbrev pub RoutineUses : Option BoundRoutine → List Value → Machine → Type 0
RoutineUses None values machine = Unit {0}
RoutineUses (Some it) values machine = CallUses it.routine.role values machine

-- the operands that the operation tests are neither stale nor purged
abbrev pub UsedBy : Setting → Operation → List Value → Machine → Type 0
UsedBy setting (load access) (pointer its ∷ []) machine = LoadUses access its machine
UsedBy setting (store access) (pointer its ∷ value ∷ []) machine = Current its machine
UsedBy setting (routine place) values machine = RoutineUses (slice_get setting.routines place) values machine
UsedBy setting operation values machine = OperationUses operation values machine

-- ---- which operations test

-- of routines, by their role
abbrev pub role_tests : Role → Bool
role_tests NewHandle = false
role_tests NewPtr = false
role_tests DisposePtr = false
role_tests Getchar = false
role_tests Putchar = false
role_tests role = true

-- of a routine that is there
abbrev pub routine_tests : Option BoundRoutine → Bool
routine_tests None = false
routine_tests (Some it) = role_tests it.routine.role

-- the operation tests an operand
abbrev pub tests : Setting → Operation → Bool
tests setting (load access) = true
tests setting (store access) = true
tests setting (compare operator) = true
tests setting (difference size) = true
tests setting (routine place) = routine_tests (slice_get setting.routines place)
tests setting operation = false

-- ---- what asks nothing

role_untested : (role : Role) (values : List Value) (machine : Machine) → role_tests role ≡ false → CallUses role values machine
role_untested NewHandle values machine is = tt
role_untested NewPtr values machine is = tt
role_untested DisposePtr values machine is = tt
role_untested Getchar values machine is = tt
role_untested Putchar values machine is = tt
role_untested role values machine is = absurd cc

routine_untested : (it : Option BoundRoutine) (values : List Value) (machine : Machine) → routine_tests it ≡ false → RoutineUses it values machine
routine_untested None values machine is = tt
routine_untested (Some it) values machine is = role_untested it.routine.role values machine is

-- an operation that tests no operand
pub untested : (setting : Setting) (its : Operation) (values : List Value) (machine : Machine) → tests setting its ≡ false
    → UsedBy setting its values machine
untested setting (load access) values machine is = absurd cc
untested setting (store access) values machine is = absurd cc
untested setting (compare operator) values machine is = absurd cc
untested setting (difference size) values machine is = absurd cc
untested setting (routine place) values machine is = routine_untested (slice_get setting.routines place) values machine is
untested setting operation values machine is = tt
