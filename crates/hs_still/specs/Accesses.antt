-- Loads and stores on the still machine.
--     map_set                  what is put into a list that is mapped
--     put_block_still, with_object_still      another block, and another object
--     cells_at_still           the cells that a pointer reaches
--     with_cells_at_still      other cells there
--     loaded_still, stored_still      a load through a pointer that is not stale, and a store
-- The cells that are reached ask nothing of the pointer: a purged block keeps its cells.
use Rattle.std.proofs.Common.{◌≡◌, ℤ, ℕ, pos, zero, suc, ◌+◌, ◌-◌, false, List, [], ◌∷◌, ◌++◌, map, take, drop, length, slice_get, slice_set, Option, Some, None, option_map, Result, refl, sym, ap, ◌∙◌}
use Rattle.std.proofs.lemmas.List.{take-map, drop-map, length-map, map-append}
use Rattle.std.proofs.lemmas.Option.{slice_get-map}
use Rattle.hs_heap.specs.Blocks.{Block, standing, by_standing}
use Rattle.hs_heap.specs.Memory.{block_at, put_block}
use Rattle.hs_heap.specs.declared.cell.Cell.{Cell}
use Rattle.hs_heap.specs.declared.cell.Pointer.{Pointer}
use Rattle.hs_heap.specs.declared.cell.Pointer.TheVariants.{Nil, Fixed, Handle, Spot}
use Rattle.hs_heap.specs.declared.cell.Spot as spot
use Rattle.hs_heap.specs.declared.presence.Presence.{Presence}
use Rattle.hs_heap.specs.declared.presence.Presence.TheVariants.{Present, Emptied, Purged, Disposed}
use Rattle.hs_heap.specs.declared.stop.HeapStop.{HeapStop}
use Rattle.hs_meaning.specs.Accesses.{start_at, use_stops, cells_from, with_cells_from, cells_of_object, cells_of_block, cells_at, put_in_object, put_in_block, with_cells_at, unless_stopped, master_pointer, master_in, cells_loaded, loaded, stored}
use Rattle.hs_meaning.specs.Machine.{Machine, Object, Done, with_blocks, with_object}
use Rattle.hs_meaning.specs.Stops.{heap_stop}
use Rattle.hs_meaning.specs.Values.{Value, pointer, unmoved, Access, of_number, of_pointer, of_struct, length_of, cells_for, store_stop, value_in, load_stops}
use Rattle.hs_sound_heap.specs.Since.{is_purged}
use Rattle.hs_still.specs.Cells.{cells_for_still, store_stop_still, value_in_still, load_stops_still}
use Rattle.hs_still.specs.Machines.{still_cell, still_cells, still_value, unpurged, still_block, still_object, still_machine, still_done}
use Rattle.hs_still.specs.Tests.{LoadUses}
use Rattle.hs_still.specs.Uses.{UnpurgedIn, Current, unless_still, block_at_still, use_stops_still}

-- ---- parts of the machine

-- an entry is put into a list that is mapped
pub map_set : {A B : Type 0} → (f : A → B) (xs : List A) (place : ℕ) (x : A) → slice_set (map f xs) place (f x) ≡ map f (slice_set xs place x)
map_set f [] place x = refl
map_set f (y ∷ xs) zero x = refl
map_set f (y ∷ xs) (suc place) x = ap (λ rest. f y ∷ rest) (map_set f xs place x)

-- another block of that number
pub put_block_still : (n : ℕ) (block : Block) (machine : Machine)
    → with_blocks (put_block (still_machine machine).blocks n (still_block block)) (still_machine machine)
    ≡ still_machine (with_blocks (put_block machine.blocks n block) machine)
put_block_still n block machine = ap (λ blocks. with_blocks blocks (still_machine machine)) (map_set still_block machine.blocks (n - 1) block)

-- another object
pub with_object_still : (place : ℕ) (its : Object) (machine : Machine)
    → with_object place (still_object its) (still_machine machine) ≡ still_machine (with_object place its machine)
with_object_still place its machine =
    ap (λ objects. record (still_machine machine) { objects = objects }) (map_set still_object machine.objects place its)

-- ---- cells

cells_from_still : (at : ℤ) (count : ℕ) (cells : List Cell) → cells_from at count (still_cells cells) ≡ still_cells (cells_from at count cells)
cells_from_still at count cells =
    ap (take count) (drop-map still_cell (start_at at) cells) ∙ take-map still_cell count (drop (start_at at) cells)

object_cells_still : (b : Option Object) → cells_of_object (option_map still_object b) ≡ still_cells (cells_of_object b)
object_cells_still None = refl
object_cells_still (Some its) = refl

block_cells_still : (b : Option Block) → cells_of_block (option_map still_block b) ≡ still_cells (cells_of_block b)
block_cells_still None = refl
block_cells_still (Some block) = refl

-- the cells that a pointer reaches
pub cells_at_still : (its : Pointer) (count : ℕ) (machine : Machine)
    → cells_at (unmoved its) count (still_machine machine) ≡ still_cells (cells_at its count machine)
cells_at_still Nil count machine = refl
cells_at_still (Fixed object at) count machine =
    ap (λ b. cells_from at count (cells_of_object b)) (slice_get-map still_object machine.objects object)
    ∙ ap (cells_from at count) (object_cells_still (slice_get machine.objects object))
    ∙ cells_from_still at count (cells_of_object (slice_get machine.objects object))
cells_at_still (Handle block) count machine = refl
cells_at_still (Spot its) count machine =
    ap (λ b. cells_from its.offset count (cells_of_block b)) (block_at_still machine.blocks its.block)
    ∙ ap (cells_from its.offset count) (block_cells_still (block_at machine.blocks its.block))
    ∙ cells_from_still its.offset count (cells_of_block (block_at machine.blocks its.block))

with_from_still : (at : ℤ) (new cells : List Cell)
    → with_cells_from at (still_cells new) (still_cells cells) ≡ still_cells (with_cells_from at new cells)
with_from_still at new cells =
    ap (λ front. front ++ still_cells new ++ drop (start_at at + length (still_cells new)) (still_cells cells)) (take-map still_cell (start_at at) cells)
    ∙ ap (λ n. still_cells (take (start_at at) cells) ++ still_cells new ++ drop (start_at at + n) (still_cells cells)) (length-map new still_cell)
    ∙ ap (λ rest. still_cells (take (start_at at) cells) ++ still_cells new ++ rest) (drop-map still_cell (start_at at + length new) cells)
    ∙ ap (λ front. front ++ still_cells (drop (start_at at + length new) cells)) (sym (map-append still_cell (take (start_at at) cells) new))
    ∙ sym (map-append still_cell (take (start_at at) cells ++ new) (drop (start_at at + length new) cells))

put_in_object_still : (place : ℕ) (at : ℤ) (cells : List Cell) (machine : Machine) (b : Option Object)
    → put_in_object place at (still_cells cells) (still_machine machine) (option_map still_object b)
    ≡ still_machine (put_in_object place at cells machine b)
put_in_object_still place at cells machine None = refl
put_in_object_still place at cells machine (Some its) =
    ap (λ new. with_object place (record { cells = new; storage = its.storage }) (still_machine machine)) (with_from_still at cells its.cells)
    ∙ with_object_still place (record its { cells = with_cells_from at cells its.cells }) machine

put_in_block_still : (its : spot.Spot) (cells : List Cell) (machine : Machine) (b : Option Block)
    → put_in_block (record its { epoch = 0 }) (still_cells cells) (still_machine machine) (option_map still_block b)
    ≡ still_machine (put_in_block its cells machine b)
put_in_block_still its cells machine None = refl
put_in_block_still its cells machine (Some block) =
    ap (λ new. with_blocks (put_block (still_machine machine).blocks its.block (record (still_block block) { cells = new })) (still_machine machine))
    (with_from_still its.offset cells block.cells)
    ∙ put_block_still its.block (record block { cells = with_cells_from its.offset cells block.cells }) machine

-- other cells there
pub with_cells_at_still : (its : Pointer) (cells : List Cell) (machine : Machine)
    → with_cells_at (unmoved its) (still_cells cells) (still_machine machine) ≡ still_machine (with_cells_at its cells machine)
with_cells_at_still Nil cells machine = refl
with_cells_at_still (Fixed object at) cells machine =
    ap (put_in_object object at (still_cells cells) (still_machine machine)) (slice_get-map still_object machine.objects object)
    ∙ put_in_object_still object at cells machine (slice_get machine.objects object)
with_cells_at_still (Handle block) cells machine = refl
with_cells_at_still (Spot its) cells machine =
    ap (put_in_block (record its { epoch = 0 }) (still_cells cells) (still_machine machine)) (block_at_still machine.blocks its.block)
    ∙ put_in_block_still its cells machine (block_at machine.blocks its.block)

-- ---- loads

-- the place of a block, with that epoch
abbrev place_with : ℕ → Block → ℕ → Option spot.Spot
place_with n block epoch = Some (record { block = n; life = block.life; epoch = epoch; offset = pos 0 })

-- a master pointer, by what the heap answers
abbrev master_by : Result (Option spot.Spot) HeapStop → Machine → Done Value
master_by its machine = unless_stopped (heap_stop its ∷ []) (pointer (master_pointer its)) machine machine

master_still : (n : ℕ) (machine : Machine) (block : Block) (it : Presence) → is_purged it ≡ false
    → master_by (by_standing (place_with n block 0) None (standing (unpurged it))) (still_machine machine)
    ≡ still_done still_value (master_by (by_standing (place_with n block block.epoch) None (standing it)) machine)
master_still n machine block Present is = refl
master_still n machine block Emptied is = refl
master_still n machine block Purged is = absurd cc
master_still n machine block Disposed is = refl

master_in_still : (n : ℕ) (machine : Machine) (b : Option Block) → UnpurgedIn b
    → master_in n (still_machine machine) (option_map still_block b) ≡ still_done still_value (master_in n machine b)
master_in_still n machine None used = refl
master_in_still n machine (Some block) used = master_still n machine block block.presence used

-- a load that reaches cells
pub cells_loaded_still : (access : Access) (its : Pointer) (machine : Machine) → Current its machine
    → cells_loaded access (unmoved its) (still_machine machine) ≡ still_done still_value (cells_loaded access its machine)
cells_loaded_still access its machine used =
    unless_still still_value (use_stops its (length_of access) machine ++ load_stops access (cells_at its (length_of access) machine))
    (use_stops (unmoved its) (length_of access) (still_machine machine)
    ++ load_stops access (cells_at (unmoved its) (length_of access) (still_machine machine)))
    (value_in access (cells_at its (length_of access) machine)) (value_in access (cells_at (unmoved its) (length_of access) (still_machine machine)))
    machine (still_machine machine) machine
    (ap (λ ss. ss ++ load_stops access (cells_at (unmoved its) (length_of access) (still_machine machine)))
    (use_stops_still its (length_of access) machine used)
    ∙ ap (λ ss. use_stops its (length_of access) machine ++ ss)
    (ap (load_stops access) (cells_at_still its (length_of access) machine) ∙ load_stops_still access (cells_at its (length_of access) machine)))
    (ap (value_in access) (cells_at_still its (length_of access) machine) ∙ value_in_still access (cells_at its (length_of access) machine)) refl

-- a load
pub loaded_still : (access : Access) (its : Pointer) (machine : Machine) → LoadUses access its machine
    → loaded access (unmoved its) (still_machine machine) ≡ still_done still_value (loaded access its machine)
loaded_still (of_number kind) its machine used = cells_loaded_still (of_number kind) its machine used
loaded_still (of_struct size) its machine used = cells_loaded_still (of_struct size) its machine used
loaded_still (of_pointer class) Nil machine used = cells_loaded_still (of_pointer class) Nil machine tt
loaded_still (of_pointer class) (Fixed object at) machine used = cells_loaded_still (of_pointer class) (Fixed object at) machine tt
loaded_still (of_pointer class) (Spot its) machine used = cells_loaded_still (of_pointer class) (Spot its) machine used.0
loaded_still (of_pointer class) (Handle n) machine used =
    ap (master_in n (still_machine machine)) (block_at_still machine.blocks n) ∙ master_in_still n machine (block_at machine.blocks n) used.1

-- ---- stores

-- a store
pub stored_still : (access : Access) (its : Pointer) (value : Value) (machine : Machine) → Current its machine
    → stored access (unmoved its) (still_value value) (still_machine machine) ≡ still_done still_value (stored access its value machine)
stored_still access its value machine used =
    unless_still still_value (store_stop access value ∷ use_stops its (length_of access) machine)
    (store_stop access (still_value value) ∷ use_stops (unmoved its) (length_of access) (still_machine machine)) value (still_value value)
    (with_cells_at its (cells_for access value) machine)
    (with_cells_at (unmoved its) (cells_for access (still_value value)) (still_machine machine)) machine
    (ap (λ why. why ∷ use_stops (unmoved its) (length_of access) (still_machine machine)) (store_stop_still access value)
    ∙ ap (λ ss. store_stop access value ∷ ss) (use_stops_still its (length_of access) machine used)) refl
    (ap (λ cells. with_cells_at (unmoved its) cells (still_machine machine)) (cells_for_still access value)
    ∙ with_cells_at_still its (cells_for access value) machine)
