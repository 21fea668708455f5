-- Loads and stores through pointers.
--     with_cells_at_stays             the machine with other cells where a pointer reaches
--     loaded_keeps, stored_keeps      a load, and a store
use Rattle.std.proofs.Common.{◌≡◌, ℤ, ℕ, List, ◌∷◌, ◌++◌, [], slice_get, Option, Some, None, refl}
use Rattle.hs_heap.specs.Blocks.{Block, master_of}
use Rattle.hs_heap.specs.Memory.{block_at}
use Rattle.hs_heap.specs.declared.cell.Cell.{Cell}
use Rattle.hs_heap.specs.declared.cell.Pointer.{Pointer}
use Rattle.hs_heap.specs.declared.cell.Pointer.TheVariants.{Nil, Fixed, Handle, Spot}
use Rattle.hs_heap.specs.declared.cell.Spot as spot
use Rattle.hs_meaning.specs.Accesses.{use_stops, with_cells_from, cells_at, put_in_object, put_in_block, with_cells_at, master_pointer, master_in, cells_loaded, loaded, stored}
use Rattle.hs_meaning.specs.Laws.Changes.{Change, Stays, Keeps, same_stay, put_stays, unless_keeps}
use Rattle.hs_meaning.specs.Machine.{Machine, Object}
use Rattle.hs_meaning.specs.Stops.{heap_stop}
use Rattle.hs_meaning.specs.Values.{Value, pointer, Access, of_pointer, length_of, cells_for, store_stop, value_in, load_stops}

module _ (R : Change) where
  -- ---- cells

  put_in_object_stays : (place : ℕ) (at : ℤ) (cells : List Cell) (machine : Machine) (its : Option Object)
      → Stays R machine (put_in_object place at cells machine its)
  put_in_object_stays place at cells machine None = same_stay R machine
  put_in_object_stays place at cells machine (Some its) = same_stay R machine

  put_in_block_stays : (its : spot.Spot) (cells : List Cell) (machine : Machine) (block : Option Block) → block_at machine.blocks its.block ≡ block
      → Stays R machine (put_in_block its cells machine block)
  put_in_block_stays its cells machine None is = same_stay R machine
  put_in_block_stays its cells machine (Some block) is =
      put_stays R machine its.block block (record block { cells = with_cells_from its.offset cells block.cells }) is
      (R.cells block (with_cells_from its.offset cells block.cells))

  -- the machine with other cells there
  pub with_cells_at_stays : (its : Pointer) (cells : List Cell) (machine : Machine) → Stays R machine (with_cells_at its cells machine)
  with_cells_at_stays Nil cells machine = same_stay R machine
  with_cells_at_stays (Handle block) cells machine = same_stay R machine
  with_cells_at_stays (Fixed object at) cells machine = put_in_object_stays object at cells machine (slice_get machine.objects object)
  with_cells_at_stays (Spot its) cells machine = put_in_block_stays its cells machine (block_at machine.blocks its.block) refl

  -- ---- loads and stores

  master_keeps : (place : ℕ) (machine : Machine) (block : Option Block) → Keeps R machine (master_in place machine block)
  master_keeps place machine None = same_stay R machine
  master_keeps place machine (Some block) =
      unless_keeps R (heap_stop (master_of place block) ∷ []) (pointer (master_pointer (master_of place block))) machine machine (same_stay R machine)

  cells_loaded_keeps : (access : Access) (its : Pointer) (machine : Machine) → Keeps R machine (cells_loaded access its machine)
  cells_loaded_keeps access its machine =
      unless_keeps R (use_stops its (length_of access) machine ++ load_stops access (cells_at its (length_of access) machine))
      (value_in access (cells_at its (length_of access) machine)) machine machine (same_stay R machine)

  -- a load
  pub loaded_keeps : (access : Access) (its : Pointer) (machine : Machine) → Keeps R machine (loaded access its machine)
  loaded_keeps (of_pointer class) (Handle place) machine = master_keeps place machine (block_at machine.blocks place)
  loaded_keeps access its machine = cells_loaded_keeps access its machine

  -- a store
  pub stored_keeps : (access : Access) (its : Pointer) (value : Value) (machine : Machine) → Keeps R machine (stored access its value machine)
  stored_keeps access its value machine =
      unless_keeps R (store_stop access value ∷ use_stops its (length_of access) machine) value (with_cells_at its (cells_for access value) machine) machine
      (with_cells_at_stays its (cells_for access value) machine)
