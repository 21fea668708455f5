-- Values and cells that were never moved: what a store leaves, and what a load gives.
--     cells_for_unmoved        what a store of an unmoved value leaves
--     value_in_unmoved         what a load of unmoved cells gives
--     load_stops_fine, store_stop_fine      why it does not
use Rattle.std.proofs.Common.{ℕ, min, not, ◌&&◌, ◌==◌, List, [], ◌∷◌, map, Option, Some, None, refl, arith}
use Rattle.std.specs.List.{list_any, list_all}
use Rattle.hs_heap.specs.declared.cell.Cell.{Cell}
use Rattle.hs_heap.specs.declared.cell.Cell.TheVariants.{Undefined, Byte, State, Part}
use Rattle.hs_heap.specs.declared.cell.Pointer.{Pointer}
use Rattle.hs_heap.specs.declared.cell.Pointer.TheVariants.{Nil, Fixed, Handle, Spot}
use Rattle.hs_meaning.specs.Laws.Unmoved.{IsUnmovedPointer, IsUnmovedCell, AreUnmoved, IsUnmoved}
use Rattle.hs_meaning.specs.Laws.Unmoved.Fine.{IsFine, AreFine, if_fine}
use Rattle.hs_meaning.specs.Laws.Unmoved.Lists.{IfThere, there_either, all_map}
use Rattle.hs_meaning.specs.Values.{Value, number, pointer, state, structure, pointer_in, epoch_of, with_epoch, are_one_pointer, Access, of_number, of_pointer, of_struct, bytes_of, bits_after, cells_for, store_stop, is_undefined, is_byte, byte_in, number_in, part_in, joined, whole_in, is_zero, pointer_at, with_pointer, held, or_nothing, value_in, asks_values, is_missing, load_stops}
use Rattle.hs_meaning.specs.declared.outcome.Stop.TheVariants as stop
use Rattle.hs_types.specs.Integers.{integer_size, converted}
use Rattle.hs_types.specs.declared.integer.Integer.{Integer}

-- the pointer that a value is
pub pointer_in_unmoved : (value : Value) → IsUnmoved value → IsUnmovedPointer (pointer_in value)
pointer_in_unmoved (number bits) is = refl
pointer_in_unmoved (pointer its) is = is
pointer_in_unmoved (state byte) is = refl
pointer_in_unmoved (structure cells) is = refl

-- bytes are no pointers
pub bytes_unmoved : (bytes : List ℕ) → AreUnmoved (map Byte bytes)
bytes_unmoved bytes = all_map IsUnmovedCell Byte (λ byte. tt) bytes

-- ---- stores

-- the cells that a store leaves
pub cells_for_unmoved : (access : Access) (value : Value) → IsUnmoved value → AreUnmoved (cells_for access value)
cells_for_unmoved (of_number kind) (number bits) is = bytes_unmoved (bytes_of (integer_size kind) bits)
cells_for_unmoved (of_number kind) (pointer its) is = tt
cells_for_unmoved (of_number kind) (state byte) is = (tt, tt)
cells_for_unmoved (of_number kind) (structure cells) is = tt
cells_for_unmoved (of_pointer class) (number bits) is = tt
cells_for_unmoved (of_pointer class) (pointer its) is = (is, (is, (is, (is, tt))))
cells_for_unmoved (of_pointer class) (state byte) is = tt
cells_for_unmoved (of_pointer class) (structure cells) is = tt
cells_for_unmoved (of_struct size) (number bits) is = tt
cells_for_unmoved (of_struct size) (pointer its) is = tt
cells_for_unmoved (of_struct size) (state byte) is = tt
cells_for_unmoved (of_struct size) (structure cells) is = is

-- why there is no store
pub store_stop_fine : (access : Access) (value : Value) → IsFine (store_stop access value)
store_stop_fine (of_number kind) (number bits) = tt
store_stop_fine (of_number kind) (pointer its) = λ is. is
store_stop_fine (of_number kind) (state byte) = if_fine (not (integer_size kind == 1)) stop.BadByte (λ is. is)
store_stop_fine (of_number kind) (structure cells) = λ is. is
store_stop_fine (of_pointer class) (number bits) = λ is. is
store_stop_fine (of_pointer class) (pointer its) = tt
store_stop_fine (of_pointer class) (state byte) = λ is. is
store_stop_fine (of_pointer class) (structure cells) = λ is. is
store_stop_fine (of_struct size) (number bits) = λ is. is
store_stop_fine (of_struct size) (pointer its) = λ is. is
store_stop_fine (of_struct size) (state byte) = λ is. is
store_stop_fine (of_struct size) (structure cells) = tt

-- ---- loads

number_in_unmoved : (kind : Integer) (cells : List Cell) → IfThere IsUnmoved (number_in kind cells)
number_in_unmoved kind (State byte ∷ []) = tt
number_in_unmoved kind cells =
    there_either IsUnmoved (list_all is_byte cells) (Some (number (converted kind (bits_after 0 (map byte_in cells))))) None tt tt

part_in_unmoved : (class place : ℕ) (cell : Cell) → IsUnmovedCell cell → IfThere IsUnmovedPointer (part_in class place cell)
part_in_unmoved class place Undefined is = tt
part_in_unmoved class place (Byte byte) is = tt
part_in_unmoved class place (State byte) is = tt
part_in_unmoved class place (Part at its stored) is = there_either IsUnmovedPointer ((at == place) && (stored == class)) (Some its) None is tt

-- the lesser of two epochs, of which the first is 0
least_unmoved : (a b : Pointer) → IsUnmovedPointer a → IsUnmovedPointer (with_epoch (min (epoch_of a) (epoch_of b)) a)
least_unmoved Nil b is = refl
least_unmoved (Fixed object offset) b is = refl
least_unmoved (Handle block) b is = refl
least_unmoved (Spot its) b is = omega (arith, is)

joined_unmoved : (first second : Option Pointer) → IfThere IsUnmovedPointer first → IfThere IsUnmovedPointer (joined first second)
joined_unmoved None second is = tt
joined_unmoved (Some a) None is = tt
joined_unmoved (Some a) (Some b) is =
    there_either IsUnmovedPointer (are_one_pointer a b) (Some (with_epoch (min (epoch_of a) (epoch_of b)) a)) None (least_unmoved a b is) tt

whole_in_unmoved : (class : ℕ) (cells : List Cell) → AreUnmoved cells → IfThere IsUnmovedPointer (whole_in class cells)
whole_in_unmoved class (a ∷ b ∷ c ∷ d ∷ []) are =
    joined_unmoved (joined (joined (part_in class 0 a) (part_in class 1 b)) (part_in class 2 c)) (part_in class 3 d)
    (joined_unmoved (joined (part_in class 0 a) (part_in class 1 b)) (part_in class 2 c)
    (joined_unmoved (part_in class 0 a) (part_in class 1 b) (part_in_unmoved class 0 a are.0)))
whole_in_unmoved class cells are = tt

with_pointer_unmoved : (its : Option Pointer) → IfThere IsUnmovedPointer its → IfThere IsUnmoved (with_pointer its)
with_pointer_unmoved None is = tt
with_pointer_unmoved (Some its) is = is

held_unmoved : (access : Access) (cells : List Cell) → AreUnmoved cells → IfThere IsUnmoved (held access cells)
held_unmoved (of_number kind) cells are = number_in_unmoved kind cells
held_unmoved (of_pointer class) cells are =
    with_pointer_unmoved (pointer_at class cells)
    (there_either IsUnmovedPointer (list_all is_zero cells) (Some Nil) (whole_in class cells) refl (whole_in_unmoved class cells are))
held_unmoved (of_struct size) cells are = are

-- a value that is there, or one of no meaning
pub or_nothing_unmoved : (value : Option Value) → IfThere IsUnmoved value → IsUnmoved (or_nothing value)
or_nothing_unmoved None is = tt
or_nothing_unmoved (Some value) is = is

-- the value that a load gives
pub value_in_unmoved : (access : Access) (cells : List Cell) → AreUnmoved cells → IsUnmoved (value_in access cells)
value_in_unmoved access cells are = or_nothing_unmoved (held access cells) (held_unmoved access cells are)

-- why there is no load
pub load_stops_fine : (access : Access) (cells : List Cell) → AreFine (load_stops access cells)
load_stops_fine access cells = (
  if_fine (asks_values access && list_any is_undefined cells) stop.Undefined (λ is. is),
  (if_fine (is_missing (held access cells)) stop.BadLoad (λ is. is), tt),
)
