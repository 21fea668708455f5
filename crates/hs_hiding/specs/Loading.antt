-- A load gives no handle of a block whose handle is nowhere (own).
--     at_lacks            the cells that it reads
--     loaded_hands        what it gives
use Rattle.std.proofs.Common.{◌≡◌, ℕ, ℤ, Bool, true, false, List, [], ◌∷◌, ◌++◌, map, drop, slice_get, Option, Some, None, Result, Ok, Err, refl, subst, if◌then◌else◌}
use Rattle.std.specs.List.{AllByRecursion, list_all}
use Rattle.hs_base.specs.Entries.{all_at, all_so}
use Rattle.hs_heap.specs.Blocks.{Block, master_of}
use Rattle.hs_heap.specs.Memory.{block_at}
use Rattle.hs_heap.specs.declared.cell.Cell.{Cell}
use Rattle.hs_heap.specs.declared.cell.Cell.TheVariants.{Undefined, Byte, State, Part}
use Rattle.hs_heap.specs.declared.cell.Pointer.{Pointer}
use Rattle.hs_heap.specs.declared.cell.Pointer.TheVariants.{Nil, Fixed, Handle, Spot}
use Rattle.hs_heap.specs.declared.cell.Spot as spot
use Rattle.hs_heap.specs.declared.stop.HeapStop.{HeapStop}
use Rattle.hs_hiding.specs.Holding.{Cells, Gets, CellLacks, PointerLacks, Lacks, Lacking, Hands}
use Rattle.hs_hiding.specs.Joining.{pointer_is, IfThere, PartOf}
use Rattle.hs_hiding.specs.Lists.{all_take, all_drop, unless_so}
use Rattle.hs_hiding.specs.Storing.{one_block}
use Rattle.hs_meaning.specs.Accesses.{start_at, cells_from, cells_of_object, cells_of_block, cells_at, loaded, cells_loaded, master_in, master_pointer, use_stops}
use Rattle.hs_meaning.specs.Machine.{Machine, Object}
use Rattle.hs_meaning.specs.Stops.{heap_stop}
use Rattle.hs_meaning.specs.Values.{number, pointer, Access, of_number, of_pointer, of_struct, length_of, value_in, number_in, with_pointer, pointer_at, or_nothing, load_stops}
use Rattle.hs_types.specs.declared.integer.Integer.{Integer}

module _ (n : ℕ) where
  no_spot : (a b : spot.Spot) → a.block ≡ b.block → a.epoch ≡ b.epoch → PointerLacks n (Spot a) → PointerLacks n (Spot b)
  no_spot a b is so lacks = tt

  parts_lack : (class : ℕ) (cell : Cell) → CellLacks n cell → PartOf (PointerLacks n) tt no_spot class cell
  parts_lack class Undefined is = tt
  parts_lack class (Byte byte) is = tt
  parts_lack class (State byte) is = tt
  parts_lack class (Part at its c) is = λ same. is

  pointer_lacks : (class : ℕ) (cells : List Cell) → Cells n cells → (found : Option Pointer) → pointer_at class cells ≡ found
      → Lacks n (or_nothing (with_pointer found))
  pointer_lacks class cells are None is = tt
  pointer_lacks class cells are (Some p) is =
      subst (IfThere (PointerLacks n) tt no_spot) is
      (pointer_is (PointerLacks n) tt no_spot class cells
      (all_so (CellLacks n) (PartOf (PointerLacks n) tt no_spot class) (parts_lack class) cells are))

  in_number : (kind : Integer) (cells : List Cell) → Lacks n (or_nothing (number_in kind cells))
  in_number kind (State byte ∷ []) = tt
  in_number kind (State byte ∷ c ∷ cells) = by_test (list_all Rattle.hs_meaning.specs.Values.is_byte (State byte ∷ c ∷ cells))
    where
      by_test : (z : Bool) → Lacks n (or_nothing (if z then Some (number (Rattle.hs_types.specs.Integers.converted kind
          (Rattle.hs_meaning.specs.Values.bits_after 0 (map Rattle.hs_meaning.specs.Values.byte_in (State byte ∷ c ∷ cells))))) else None))
      by_test true = tt
      by_test false = tt
  in_number kind [] = tt
  in_number kind (Undefined ∷ cells) = tt
  in_number kind (Part at its c ∷ cells) = tt
  in_number kind (Byte byte ∷ cells) = by_test (list_all Rattle.hs_meaning.specs.Values.is_byte (Byte byte ∷ cells))
    where
      by_test : (z : Bool) → Lacks n (or_nothing (if z then Some (number (Rattle.hs_types.specs.Integers.converted kind
          (Rattle.hs_meaning.specs.Values.bits_after 0 (map Rattle.hs_meaning.specs.Values.byte_in (Byte byte ∷ cells))))) else None))
      by_test true = tt
      by_test false = tt

  in_cells : (access : Access) (cells : List Cell) → Cells n cells → Lacks n (value_in access cells)
  in_cells (of_number kind) cells are = in_number kind cells
  in_cells (of_pointer class) cells are = pointer_lacks class cells are (pointer_at class cells) refl
  in_cells (of_struct size) cells are = are

  from_lacks : (at : ℤ) (count : ℕ) (cells : List Cell) → Cells n cells → Cells n (cells_from at count cells)
  from_lacks at count cells are = all_take (CellLacks n) count (drop (start_at at) cells) (all_drop (CellLacks n) (start_at at) cells are)

  pub at_lacks : (its : Pointer) (count : ℕ) (machine : Machine) → Lacking n machine → Cells n (cells_at its count machine)
  at_lacks Nil count machine are = tt
  at_lacks (Handle k) count machine are = tt
  at_lacks (Fixed object at) count machine are = by_object (slice_get machine.objects object) refl
    where
      by_object : (found : Option Object) → slice_get machine.objects object ≡ found → Cells n (cells_from at count (cells_of_object found))
      by_object None there = from_lacks at count [] tt
      by_object (Some o) there = from_lacks at count o.cells (all_at (λ o. AllByRecursion (CellLacks n) o.cells) machine.objects object o are.objects there)
  at_lacks (Spot s) count machine are = by_block (block_at machine.blocks s.block) refl
    where
      by_block : (found : Option Block) → block_at machine.blocks s.block ≡ found → Cells n (cells_from s.offset count (cells_of_block found))
      by_block None there = from_lacks s.offset count [] tt
      by_block (Some b) there = from_lacks s.offset count b.cells (one_block n machine.blocks s.block b are.blocks there)

  master_lacks : (r : Result (Option spot.Spot) HeapStop) → PointerLacks n (master_pointer r)
  master_lacks (Ok (Some s)) = tt
  master_lacks (Ok None) = tt
  master_lacks (Err why) = tt

  pub loaded_hands : (access : Access) (its : Pointer) (machine : Machine) → Lacking n machine → Hands n machine (loaded access its machine)
  loaded_hands access its machine are = by_access access its
    where
      plain_hands : (access : Access) (its : Pointer) → Hands n machine (cells_loaded access its machine)
      plain_hands access its =
          unless_so (Gets n machine) (use_stops its (length_of access) machine ++ load_stops access (cells_at its (length_of access) machine))
          (value_in access (cells_at its (length_of access) machine)) machine machine
          ((λ never. in_cells access (cells_at its (length_of access) machine) (at_lacks its (length_of access) machine are)), are)

      master_hands : (k : ℕ) (found : Option Block) → Hands n machine (master_in k machine found)
      master_hands k None = tt
      master_hands k (Some b) =
          unless_so (Gets n machine) (heap_stop (master_of k b) ∷ []) (pointer (master_pointer (master_of k b))) machine machine
          ((λ never. master_lacks (master_of k b)), are)

      by_access : (access : Access) (its : Pointer) → Hands n machine (loaded access its machine)
      by_access (of_pointer class) (Handle k) = master_hands k (block_at machine.blocks k)
      by_access (of_pointer class) Nil = plain_hands (of_pointer class) Nil
      by_access (of_pointer class) (Fixed object at) = plain_hands (of_pointer class) (Fixed object at)
      by_access (of_pointer class) (Spot s) = plain_hands (of_pointer class) (Spot s)
      by_access (of_number kind) its = plain_hands (of_number kind) its
      by_access (of_struct size) its = plain_hands (of_struct size) its
