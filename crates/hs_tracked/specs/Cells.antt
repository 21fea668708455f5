-- What holds of each cell of a machine holds of the cells that a load reads, and of those that a store leaves (own).
--     InBlocks, InObjects          of the cells of all blocks, and of all objects
--     cells_read                   the cells that a pointer reaches
--     objects_ended                the cells after the objects of a call have ended
--     blocks_written, objects_written      the cells after others are put where a pointer reaches
--     cells_shifted                a decision of the schedule changes no cell
--     each_block, each_object, each_cell       what holds of cells, from what holds of them
use Rattle.std.proofs.Common.{◌≡◌, ℤ, ℕ, zero, suc, ◌+◌, ◌-◌, Bool, true, false, if◌then◌else◌, List, [], ◌∷◌, ◌++◌, take, drop, length, slice_get, Option, Some, None, refl}
use Rattle.std.proofs.lemmas.Option.{none-some}
use Rattle.std.specs.List.{AllByRecursion}
use Rattle.hs_base.specs.Entries.{all_at, all_appended}
use Rattle.hs_heap.specs.Blocks.{Block}
use Rattle.hs_heap.specs.Memory.{block_at}
use Rattle.hs_heap.specs.Shift.{Powers, is_moved, is_purged, shift_from}
use Rattle.hs_heap.specs.declared.cell.Cell.{Cell}
use Rattle.hs_heap.specs.declared.cell.Pointer.TheVariants.{Nil, Fixed, Handle, Spot}
use Rattle.hs_heap.specs.declared.cell.Pointer.{Pointer}
use Rattle.hs_heap.specs.declared.decision.Decision.{Decision}
use Rattle.hs_heap.specs.declared.presence.Presence.TheVariants.{Purged}
use Rattle.hs_hiding.specs.Lists.{all_set, all_take, all_drop}
use Rattle.hs_meaning.specs.Accesses.{start_at, cells_from, with_cells_from, cells_of_object, cells_of_block, cells_at, put_in_object, put_in_block, with_cells_at}
use Rattle.hs_meaning.specs.Frames.{without_objects}
use Rattle.hs_meaning.specs.Machine.{Machine, Object, Binding, slot, object_at, with_object, ended_object}

module _ (P : Cell → Type 0) where
  -- of all cells of blocks
  abbrev pub InBlocks : List Block → Type 0
  InBlocks blocks = AllByRecursion (λ block. AllByRecursion P block.cells) blocks

  -- and of objects
  abbrev pub InObjects : List Object → Type 0
  InObjects objects = AllByRecursion (λ its. AllByRecursion P its.cells) objects

  -- of one block
  pub of_block : (blocks : List Block) (n : ℕ) (block : Block) → InBlocks blocks → block_at blocks n ≡ Some block → AllByRecursion P block.cells
  of_block blocks zero block are at = absurd (none-some block at)
  of_block blocks (suc i) block are at = all_at (λ b. AllByRecursion P b.cells) blocks i block are at

  -- ---- reading

  from_read : (at : ℤ) (count : ℕ) (cells : List Cell) → AllByRecursion P cells → AllByRecursion P (cells_from at count cells)
  from_read at count cells are = all_take P count (drop (start_at at) cells) (all_drop P (start_at at) cells are)

  -- the cells that a pointer reaches
  pub cells_read : (its : Pointer) (count : ℕ) (machine : Machine) → InBlocks machine.blocks → InObjects machine.objects
      → AllByRecursion P (cells_at its count machine)
  cells_read Nil count machine blocks objects = tt
  cells_read (Handle n) count machine blocks objects = tt
  cells_read (Fixed object at) count machine blocks objects = by_object (slice_get machine.objects object) refl
    where
      by_object : (found : Option Object) → slice_get machine.objects object ≡ found → AllByRecursion P (cells_from at count (cells_of_object found))
      by_object None there = from_read at count [] tt
      by_object (Some o) there = from_read at count o.cells (all_at (λ it. AllByRecursion P it.cells) machine.objects object o objects there)
  cells_read (Spot its) count machine blocks objects = by_block (block_at machine.blocks its.block) refl
    where
      by_block : (found : Option Block) → block_at machine.blocks its.block ≡ found → AllByRecursion P (cells_from its.offset count (cells_of_block found))
      by_block None there = from_read its.offset count [] tt
      by_block (Some b) there = from_read its.offset count b.cells (of_block machine.blocks its.block b blocks there)

  -- ---- writing

  -- the cells of one object with others from a place on
  pub from_written : (at : ℤ) (new cells : List Cell) → AllByRecursion P new → AllByRecursion P cells → AllByRecursion P (with_cells_from at new cells)
  from_written at new cells is are =
      all_appended P (take (start_at at) cells ++ new) (drop (start_at at + length new) cells)
      (all_appended P (take (start_at at) cells) new (all_take P (start_at at) cells are) is) (all_drop P (start_at at + length new) cells are)

  -- the cells of blocks with others where a pointer reaches
  pub blocks_written : (its : Pointer) (new : List Cell) (machine : Machine) → AllByRecursion P new → InBlocks machine.blocks
      → InBlocks (with_cells_at its new machine).blocks
  blocks_written Nil new machine is are = are
  blocks_written (Handle n) new machine is are = are
  blocks_written (Fixed object at) new machine is are = by_object (slice_get machine.objects object)
    where
      by_object : (found : Option Object) → InBlocks (put_in_object object at new machine found).blocks
      by_object None = are
      by_object (Some o) = are
  blocks_written (Spot its) new machine is are = by_block (block_at machine.blocks its.block) refl
    where
      by_block : (found : Option Block) → block_at machine.blocks its.block ≡ found → InBlocks (put_in_block its new machine found).blocks
      by_block None there = are
      by_block (Some b) there =
          all_set (λ it. AllByRecursion P it.cells) machine.blocks (its.block - 1) (record b { cells = with_cells_from its.offset new b.cells }) are
          (from_written its.offset new b.cells is (of_block machine.blocks its.block b are there))

  -- and those of objects
  pub objects_written : (its : Pointer) (new : List Cell) (machine : Machine) → AllByRecursion P new → InObjects machine.objects
      → InObjects (with_cells_at its new machine).objects
  objects_written Nil new machine is are = are
  objects_written (Handle n) new machine is are = are
  objects_written (Fixed object at) new machine is are = by_object (slice_get machine.objects object) refl
    where
      by_object : (found : Option Object) → slice_get machine.objects object ≡ found → InObjects (put_in_object object at new machine found).objects
      by_object None there = are
      by_object (Some o) there =
          all_set (λ it. AllByRecursion P it.cells) machine.objects object (record o { cells = with_cells_from at new o.cells }) are
          (from_written at new o.cells is (all_at (λ it. AllByRecursion P it.cells) machine.objects object o are there))
  objects_written (Spot its) new machine is are = by_block (block_at machine.blocks its.block)
    where
      by_block : (found : Option Block) → InObjects (put_in_block its new machine found).objects
      by_block None = are
      by_block (Some b) = are

  -- ---- the end of a call

  -- objects that end have no cells
  pub objects_ended : (locals : List Binding) (machine : Machine) → InObjects machine.objects → InObjects (without_objects locals machine).objects
  objects_ended [] machine are = are
  objects_ended (slot value ∷ rest) machine are = objects_ended rest machine are
  objects_ended (object_at place ∷ rest) machine are =
      objects_ended rest (with_object place ended_object machine)
      (all_set (λ it. AllByRecursion P it.cells) machine.objects place ended_object are tt)

-- ---- a decision of the schedule

-- It moves and purges blocks, and changes no cell.
pub cells_shifted : (P : List Cell → Type 0) (powers : Powers) (decision : Decision) (k : ℕ) (blocks : List Block)
    → AllByRecursion (λ block. P block.cells) blocks → AllByRecursion (λ block. P block.cells) (shift_from powers decision k blocks)
cells_shifted P powers decision k [] are = tt
cells_shifted P powers decision k (block ∷ blocks) are =
    (by_bits (is_purged powers decision k block) (is_moved powers decision k block), cells_shifted P powers decision (suc k) blocks are.1)
  where
    by_bits : (purged moved : Bool)
        → P (if purged then record block { epoch = block.epoch + 1; presence = Purged }
        else if moved then record block { epoch = block.epoch + 1 } else block).cells
    by_bits true moved = are.0
    by_bits false true = are.0
    by_bits false false = are.0

-- ---- from one to another

module _ (P Q : Cell → Type 0) (each : (cells : List Cell) → AllByRecursion P cells → AllByRecursion Q cells) where
  -- what holds of the cells of all blocks
  pub each_block : (blocks : List Block) → InBlocks P blocks → InBlocks Q blocks
  each_block [] are = tt
  each_block (block ∷ blocks) are = (each block.cells are.0, each_block blocks are.1)

  -- and of all objects
  pub each_object : (objects : List Object) → InObjects P objects → InObjects Q objects
  each_object [] are = tt
  each_object (its ∷ objects) are = (each its.cells are.0, each_object objects are.1)

-- what holds of each cell
pub each_cell : (P Q : Cell → Type 0) → ((cell : Cell) → P cell → Q cell) → (cells : List Cell) → AllByRecursion P cells → AllByRecursion Q cells
each_cell P Q each [] are = tt
each_cell P Q each (cell ∷ cells) are = (each cell are.0, each_cell P Q each cells are.1)
