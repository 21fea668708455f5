-- Worked rows: each kind of operation that `tests` lists does something else on the still machine if an operand is stale or purged. So the law of a
-- step is false without its premise, and no operation is listed that needs none.
--     moved, purged          one block of four bytes that was moved once, and one that was purged
--     old, current, handle   a pointer that was read before that, one of the new epoch, and the handle of the block
--     Differs why its still  the moving machine stops for that, and the still one does not stop
use Rattle.std.proofs.Common.{◌≡◌, pos, true, false, List, [], ◌∷◌, map, Option, Some, None, refl}
use Rattle.hs_heap.specs.declared.cell.Cell.TheVariants.{Byte}
use Rattle.hs_heap.specs.declared.cell.Pointer.TheVariants.{Handle, Spot}
use Rattle.hs_heap.specs.declared.presence.Presence.{Presence}
use Rattle.hs_heap.specs.declared.presence.Presence.TheVariants.{Present, Purged}
use Rattle.hs_meaning.specs.Machine.{Machine, Done, done, stopped}
use Rattle.hs_meaning.specs.Operations.{Operation, load, store, compare, difference, operate}
use Rattle.hs_meaning.specs.Plain.{argument_stops}
use Rattle.hs_meaning.specs.Roles.{role_stops}
use Rattle.hs_meaning.specs.Settings.{Setting}
use Rattle.hs_meaning.specs.Stops.{first_stop}
use Rattle.hs_meaning.specs.Values.{Value, number, pointer, state, of_pointer}
use Rattle.hs_meaning.specs.declared.outcome.Stop.{Stop}
use Rattle.hs_meaning.specs.declared.outcome.Stop.TheVariants as stop
use Rattle.hs_still.specs.Machines.{still_value, still_machine}
use Rattle.hs_table.specs.declared.role.Role.{Role}
use Rattle.hs_table.specs.declared.role.Role.TheVariants as role
use Rattle.hs_tree.specs.declared.operators.Comparison.TheVariants.{Equal}

-- one block, of the second epoch
abbrev with_one : Presence → Machine
with_one presence =
    record {
      blocks = record {
        cells = Byte 0 ∷ Byte 0 ∷ Byte 0 ∷ Byte 0 ∷ [];
        life = 0;
        epoch = 1;
        locked = false;
        purgeable = true;
        presence = presence;
      } ∷ [];
      objects = [];
      globals = [];
      locals = [];
      frames = 1;
      bytes = [];
      words = [];
      refused = [];
      allocations = 1;
      output = [];
    }

-- a decision moved it
abbrev moved : Machine
moved = with_one Present

-- a decision purged it
abbrev purged : Machine
purged = with_one Purged

-- read in the first epoch
abbrev old : Value
old = pointer (Spot (record { block = 1; life = 0; epoch = 0; offset = pos 0 }))

-- of the epoch that the block has now
abbrev current : Value
current = pointer (Spot (record { block = 1; life = 0; epoch = 1; offset = pos 0 }))

-- of the block
abbrev handle : Value
handle = pointer (Handle 1)

-- why an operation stopped
abbrev stop_in : Done Value → Option Stop
stop_in (done value machine) = None
stop_in (stopped why machine) = Some why

-- the one stops, and the other does not
abbrev Differs : Stop → Option Stop → Option Stop → Type 0
Differs why its still = (its ≡ Some why) × (still ≡ None)

-- ---- operations

module _ (setting : Setting) where
  -- an operation on both machines
  abbrev OperationDiffers : Stop → Operation → List Value → Machine → Type 0
  OperationDiffers why its values machine =
      Differs why (stop_in (operate setting its values machine)) (stop_in (operate setting its (map still_value values) (still_machine machine)))

  load_differs : OperationDiffers stop.Stale (load (of_pointer 0)) (old ∷ []) moved
  load_differs = (refl, refl)

  master_differs : OperationDiffers stop.Purged (load (of_pointer 0)) (handle ∷ []) purged
  master_differs = (refl, refl)

  -- No run has such a pointer: a block that is purged gets another epoch, and its master pointer is not read. So `Current` asks for both.
  range_differs : OperationDiffers stop.Range (load (of_pointer 0)) (current ∷ []) purged
  range_differs = (refl, refl)

  store_differs : OperationDiffers stop.Stale (store (of_pointer 0)) (old ∷ handle ∷ []) moved
  store_differs = (refl, refl)

  compare_differs : OperationDiffers stop.Stale (compare Equal) (old ∷ old ∷ []) moved
  compare_differs = (refl, refl)

  difference_differs : OperationDiffers stop.Stale (difference 1) (old ∷ old ∷ []) moved
  difference_differs = (refl, refl)

-- ---- routines

-- a role on both machines
abbrev RoleDiffers : Stop → Role → List Value → Machine → Type 0
RoleDiffers why its values machine =
    Differs why (first_stop (role_stops its values machine)) (first_stop (role_stops its (map still_value values) (still_machine machine)))

dispose_differs : RoleDiffers stop.Purged role.DisposeHandle (handle ∷ []) purged
dispose_differs = (refl, refl)

get_size_differs : RoleDiffers stop.Purged role.GetSize (handle ∷ []) purged
get_size_differs = (refl, refl)

set_size_differs : RoleDiffers stop.Purged role.SetSize (handle ∷ number 4 ∷ []) purged
set_size_differs = (refl, refl)

lock_differs : RoleDiffers stop.Purged role.Lock (handle ∷ []) purged
lock_differs = (refl, refl)

unlock_differs : RoleDiffers stop.Purged role.Unlock (handle ∷ []) purged
unlock_differs = (refl, refl)

purge_differs : RoleDiffers stop.Purged role.Purge (handle ∷ []) purged
purge_differs = (refl, refl)

no_purge_differs : RoleDiffers stop.Purged role.NoPurge (handle ∷ []) purged
no_purge_differs = (refl, refl)

get_state_differs : RoleDiffers stop.Purged role.GetState (handle ∷ []) purged
get_state_differs = (refl, refl)

set_state_differs : RoleDiffers stop.Purged role.SetState (handle ∷ state 0 ∷ []) purged
set_state_differs = (refl, refl)

empty_differs : RoleDiffers stop.Purged role.Empty (handle ∷ []) purged
empty_differs = (refl, refl)

realloc_differs : RoleDiffers stop.Purged role.Realloc (handle ∷ number 4 ∷ []) purged
realloc_differs = (refl, refl)

move_differs : RoleDiffers stop.Stale role.BlockMove (old ∷ old ∷ number 4 ∷ []) moved
move_differs = (refl, refl)

-- the arguments of a plain routine that fills nothing
abbrev PlainDiffers : Stop → List Value → Machine → Type 0
PlainDiffers why values machine =
    Differs why (first_stop (argument_stops 0 values machine)) (first_stop (argument_stops 0 (map still_value values) (still_machine machine)))

pointer_argument_differs : PlainDiffers stop.Stale (old ∷ []) moved
pointer_argument_differs = (refl, refl)

handle_argument_differs : PlainDiffers stop.Purged (handle ∷ []) purged
handle_argument_differs = (refl, refl)
