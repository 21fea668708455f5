-- A block whose handle is nowhere gets nowhere by a store or a Set (own).
--     put_lacks, stored_lacks       a store of a value that lacks it
--     set_lacks                     a variable is given such a value
--     value_lacks                   what a variable holds
use Rattle.std.proofs.Common.{◌≡◌, ℕ, zero, suc, ◌+◌, ◌-◌, ℤ, List, [], ◌∷◌, ◌++◌, length, map, take, drop, slice_get, slice_set, Option, Some, None, refl, subst}
use Rattle.std.proofs.lemmas.Option.{none-some, same_Some}
use Rattle.std.specs.List.{AllByRecursion}
use Rattle.hs_base.specs.Entries.{all_appended}
use Rattle.hs_heap.specs.Blocks.{Block}
use Rattle.hs_heap.specs.Memory.{block_at}
use Rattle.hs_heap.specs.declared.cell.Cell.{Cell}
use Rattle.hs_heap.specs.declared.cell.Cell.TheVariants.{Byte}
use Rattle.hs_heap.specs.declared.cell.Pointer.{Pointer}
use Rattle.hs_heap.specs.declared.cell.Pointer.TheVariants.{Nil, Fixed, Handle, Spot}
use Rattle.hs_hiding.specs.Holding.{Cells, value_of, OnDone, CellLacks, Lacks, Blocks, Lacking, BindingLacks}
use Rattle.hs_hiding.specs.Lists.{all_set, all_take, all_drop, unless_so}
use Rattle.hs_meaning.specs.Accesses.{start_at, with_cells_from, put_in_object, put_in_block, with_cells_at, stored, use_stops}
use Rattle.hs_meaning.specs.Machine.{Machine, Object, Binding, slot, object_at, value_of_slot, with_value}
use Rattle.hs_meaning.specs.Objects.{bindings}
use Rattle.hs_meaning.specs.Values.{Value, number, pointer, state, structure, Access, of_number, of_pointer, of_struct, length_of, cells_for, store_stop, bytes_of}
use Rattle.hs_tree.specs.declared.head.Variable.{Variable}
use Rattle.hs_tree.specs.declared.head.Variable.TheVariants as name
use Rattle.hs_types.specs.Integers.{integer_size}

module _ (n : ℕ) where
  -- ---- stores

  pub bytes_lack : (bytes : List ℕ) → Cells n (map Byte bytes)
  bytes_lack [] = tt
  bytes_lack (b ∷ bytes) = (tt, bytes_lack bytes)

  pub cells_lack : (access : Access) (v : Value) → Lacks n v → Cells n (cells_for access v)
  cells_lack (of_number kind) (number bits) is = bytes_lack (bytes_of (integer_size kind) bits)
  cells_lack (of_number kind) (state byte) is = (tt, tt)
  cells_lack (of_number kind) (pointer its) is = tt
  cells_lack (of_number kind) (structure cells) is = tt
  cells_lack (of_pointer class) (pointer its) is = (is, (is, (is, (is, tt))))
  cells_lack (of_pointer class) (number bits) is = tt
  cells_lack (of_pointer class) (state byte) is = tt
  cells_lack (of_pointer class) (structure cells) is = tt
  cells_lack (of_struct size) (structure cells) is = is
  cells_lack (of_struct size) (number bits) is = tt
  cells_lack (of_struct size) (state byte) is = tt
  cells_lack (of_struct size) (pointer its) is = tt

  pub from_lacks : (at : ℤ) (new cells : List Cell) → Cells n new → Cells n cells → Cells n (with_cells_from at new cells)
  from_lacks at new cells is are =
      all_appended (CellLacks n) (take (start_at at) cells ++ new) (drop (start_at at + length new) cells)
      (all_appended (CellLacks n) (take (start_at at) cells) new (all_take (CellLacks n) (start_at at) cells are) is)
      (all_drop (CellLacks n) (start_at at + length new) cells are)

  -- of the one at a place
  pub one_of : {A : Type 0} → (P : A → Type 0) (xs : List A) (k : ℕ) (x : A) → AllByRecursion P xs → slice_get xs k ≡ Some x → P x
  one_of P xs k x are at = Rattle.hs_base.specs.Entries.all_at P xs k x are at

  pub one_block : (blocks : List Block) (k : ℕ) (block : Block) → Blocks n blocks → block_at blocks k ≡ Some block → Cells n block.cells
  one_block blocks zero block are at = absurd (Rattle.std.proofs.lemmas.Option.none-some block at)
  one_block blocks (suc k) block are at = one_of (λ b. AllByRecursion (CellLacks n) b.cells) blocks k block are at

  pub put_lacks : (its : Pointer) (new : List Cell) (machine : Machine) → Cells n new → Lacking n machine → Lacking n (with_cells_at its new machine)
  put_lacks Nil new machine is are = are
  put_lacks (Handle k) new machine is are = are
  put_lacks (Fixed object at) new machine is are = by_object (slice_get machine.objects object) refl
    where
      by_object : (found : Option Object) → slice_get machine.objects object ≡ found → Lacking n (put_in_object object at new machine found)
      by_object None at_ = are
      by_object (Some o) at_ =
          record {
            globals = are.globals;
            locals = are.locals;
            blocks = are.blocks;
            objects =
                all_set (λ o. AllByRecursion (CellLacks n) o.cells) machine.objects object (record o { cells = with_cells_from at new o.cells }) are.objects
                (from_lacks at new o.cells is (one_of (λ o. AllByRecursion (CellLacks n) o.cells) machine.objects object o are.objects at_));
          }
  put_lacks (Spot s) new machine is are = by_block (block_at machine.blocks s.block) refl
    where
      by_block : (found : Option Block) → block_at machine.blocks s.block ≡ found → Lacking n (put_in_block s new machine found)
      by_block None at_ = are
      by_block (Some b) at_ =
          record {
            globals = are.globals;
            locals = are.locals;
            blocks =
                all_set (λ b. AllByRecursion (CellLacks n) b.cells) machine.blocks (s.block - 1)
                (record b { cells = with_cells_from s.offset new b.cells }) are.blocks
                (from_lacks s.offset new b.cells is (one_block machine.blocks s.block b are.blocks at_));
            objects = are.objects;
          }

  pub stored_lacks : (access : Access) (its : Pointer) (v : Value) (machine : Machine) → Lacks n v → Lacking n machine
      → OnDone (λ it after. Lacks n it × Lacking n after) (stored access its v machine)
  stored_lacks access its v machine is are =
      unless_so (λ it after. Lacks n it × Lacking n after) (store_stop access v ∷ use_stops its (length_of access) machine) v
      (with_cells_at its (cells_for access v) machine) machine (is, put_lacks its (cells_for access v) machine (cells_lack access v is) are)

-- ---- variables

list_lacks : (n : ℕ) (bindings : List Binding) (i : ℕ) (v : Value) → Lacks n v → AllByRecursion (BindingLacks n) bindings
    → AllByRecursion (BindingLacks n) (slice_set bindings i (slot (Some v)))
list_lacks n [] i v lacks are = are
list_lacks n (b ∷ bindings) zero v lacks are = (lacks, are.1)
list_lacks n (b ∷ bindings) (suc i) v lacks are = (are.0, list_lacks n bindings i v lacks are.1)

pub set_lacks : (n : ℕ) (x : Variable) (v : Value) (machine : Machine) → Lacks n v → Lacking n machine → Lacking n (with_value x v machine)
set_lacks n (name.Global a) v machine lacks are =
    record { globals = list_lacks n machine.globals a v lacks are.globals; locals = are.locals; blocks = are.blocks; objects = are.objects }
set_lacks n (name.Local a) v machine lacks are =
    record { globals = are.globals; locals = list_lacks n machine.locals a v lacks are.locals; blocks = are.blocks; objects = are.objects }

slot_lacks : (n : ℕ) (bindings : List Binding) (i : ℕ) (v : Value) → AllByRecursion (BindingLacks n) bindings
    → value_of_slot (slice_get bindings i) ≡ Some v → Lacks n v
slot_lacks n [] i v are is = absurd (none-some v is)
slot_lacks n (slot None ∷ bindings) zero v are is = absurd (none-some v is)
slot_lacks n (slot (Some w) ∷ bindings) zero v are is = subst (Lacks n) (same_Some w v is) are.0
slot_lacks n (object_at place ∷ bindings) zero v are is = absurd (none-some v is)
slot_lacks n (b ∷ bindings) (suc i) v are is = slot_lacks n bindings i v are.1 is

-- a variable has no handle that it lacks
pub value_lacks : (n : ℕ) (machine : Machine) (x : Variable) (v : Value) → Lacking n machine → value_of machine x ≡ Some v → Lacks n v
value_lacks n machine (name.Global i) v are is = slot_lacks n machine.globals i v are.globals is
value_lacks n machine (name.Local i) v are is = slot_lacks n machine.locals i v are.locals is
