-- What cells hold on the still machine: the same, without epochs.
--     cells_for_still, store_stop_still      what a store of a value leaves, and why it does not
--     value_still, load_stops_still          what a load of cells gives, and why it does not
--     bits_still, number_stop_still, ..      the value as an operand
use Rattle.std.proofs.Common.{◌≡◌, ℕ, min, ◌==◌, ◌&&◌, Bool, true, false, List, [], ◌∷◌, map, Option, Some, None, refl, sym, ap, ◌∙◌, if◌then◌else◌}
use Rattle.std.specs.List.{list_any, list_all}
use Rattle.hs_heap.specs.declared.cell.Cell.{Cell}
use Rattle.hs_heap.specs.declared.cell.Cell.TheVariants.{Undefined, Byte, State, Part}
use Rattle.hs_heap.specs.declared.cell.Pointer.{Pointer}
use Rattle.hs_heap.specs.declared.cell.Pointer.TheVariants.{Nil, Fixed, Handle, Spot}
use Rattle.hs_meaning.specs.Values.{Value, number, pointer, state, structure, bits_in, pointer_in, number_stop, pointer_stop, unmoved, epoch_of, with_epoch, are_one_pointer, Access, of_number, of_pointer, of_struct, bytes_of, bits_after, cells_for, store_stop, is_undefined, is_byte, byte_in, number_in, part_in, joined, whole_in, is_zero, pointer_at, with_pointer, held, or_nothing, value_in, is_missing, load_stops}
use Rattle.hs_still.specs.Machines.{still_cell, still_cells, still_value, still_optional}
use Rattle.hs_types.specs.Integers.{integer_size, converted}
use Rattle.hs_types.specs.declared.integer.Integer.{Integer}

-- ---- operands

-- the bits of a number
pub bits_still : (value : Value) → bits_in (still_value value) ≡ bits_in value
bits_still (number bits) = refl
bits_still (pointer its) = refl
bits_still (state byte) = refl
bits_still (structure cells) = refl

-- the pointer that a value is
pub pointer_still : (value : Value) → pointer_in (still_value value) ≡ unmoved (pointer_in value)
pointer_still (number bits) = refl
pointer_still (pointer its) = refl
pointer_still (state byte) = refl
pointer_still (structure cells) = refl

-- why a value is no number
pub number_stop_still : (value : Value) → number_stop (still_value value) ≡ number_stop value
number_stop_still (number bits) = refl
number_stop_still (pointer its) = refl
number_stop_still (state byte) = refl
number_stop_still (structure cells) = refl

-- why it is no pointer
pub pointer_stop_still : (value : Value) → pointer_stop (still_value value) ≡ pointer_stop value
pointer_stop_still (number bits) = refl
pointer_stop_still (pointer its) = refl
pointer_stop_still (state byte) = refl
pointer_stop_still (structure cells) = refl

-- ---- stores

-- bytes have no epochs
pub bytes_still : (bytes : List ℕ) → still_cells (map Byte bytes) ≡ map Byte bytes
bytes_still [] = refl
bytes_still (byte ∷ bytes) = ap (λ cells. Byte byte ∷ cells) (bytes_still bytes)

-- the cells that a store leaves
pub cells_for_still : (access : Access) (value : Value) → cells_for access (still_value value) ≡ still_cells (cells_for access value)
cells_for_still (of_number kind) (number bits) = sym (bytes_still (bytes_of (integer_size kind) bits))
cells_for_still (of_number kind) (pointer its) = refl
cells_for_still (of_number kind) (state byte) = refl
cells_for_still (of_number kind) (structure cells) = refl
cells_for_still (of_pointer class) (number bits) = refl
cells_for_still (of_pointer class) (pointer its) = refl
cells_for_still (of_pointer class) (state byte) = refl
cells_for_still (of_pointer class) (structure cells) = refl
cells_for_still (of_struct size) (number bits) = refl
cells_for_still (of_struct size) (pointer its) = refl
cells_for_still (of_struct size) (state byte) = refl
cells_for_still (of_struct size) (structure cells) = refl

-- why there is no store
pub store_stop_still : (access : Access) (value : Value) → store_stop access (still_value value) ≡ store_stop access value
store_stop_still (of_number kind) (number bits) = refl
store_stop_still (of_number kind) (pointer its) = refl
store_stop_still (of_number kind) (state byte) = refl
store_stop_still (of_number kind) (structure cells) = refl
store_stop_still (of_pointer class) (number bits) = refl
store_stop_still (of_pointer class) (pointer its) = refl
store_stop_still (of_pointer class) (state byte) = refl
store_stop_still (of_pointer class) (structure cells) = refl
store_stop_still (of_struct size) (number bits) = refl
store_stop_still (of_struct size) (pointer its) = refl
store_stop_still (of_struct size) (state byte) = refl
store_stop_still (of_struct size) (structure cells) = refl

-- ---- what cells are

undefined_still : (cells : List Cell) → list_any is_undefined (still_cells cells) ≡ list_any is_undefined cells
undefined_still [] = refl
undefined_still (cell ∷ cells) = rw (one cell, undefined_still cells) refl
  where
    one : (cell : Cell) → is_undefined (still_cell cell) ≡ is_undefined cell
    one Undefined = refl
    one (Byte byte) = refl
    one (State byte) = refl
    one (Part at its class) = refl

is_byte_still : (cell : Cell) → is_byte (still_cell cell) ≡ is_byte cell
is_byte_still Undefined = refl
is_byte_still (Byte byte) = refl
is_byte_still (State byte) = refl
is_byte_still (Part at its class) = refl

byte_in_still : (cell : Cell) → byte_in (still_cell cell) ≡ byte_in cell
byte_in_still Undefined = refl
byte_in_still (Byte byte) = refl
byte_in_still (State byte) = refl
byte_in_still (Part at its class) = refl

every_byte : (cells : List Cell) → list_all is_byte (still_cells cells) ≡ list_all is_byte cells
every_byte [] = refl
every_byte (cell ∷ cells) = rw (is_byte_still cell, every_byte cells) refl

values_still : (cells : List Cell) → map byte_in (still_cells cells) ≡ map byte_in cells
values_still [] = refl
values_still (cell ∷ cells) = rw (byte_in_still cell, values_still cells) refl

zero_still : (cell : Cell) → is_zero (still_cell cell) ≡ is_zero cell
zero_still cell = rw (is_byte_still cell, byte_in_still cell) refl

all_zero_still : (cells : List Cell) → list_all is_zero (still_cells cells) ≡ list_all is_zero cells
all_zero_still [] = refl
all_zero_still (cell ∷ cells) = rw (zero_still cell, all_zero_still cells) refl

-- ---- pointers in cells

-- without its epoch
abbrev optional_pointer : Option Pointer → Option Pointer
optional_pointer None = None
optional_pointer (Some its) = Some (unmoved its)

either_still : (b : Bool) (a : Pointer) → (if b then Some (unmoved a) else None) ≡ optional_pointer (if b then Some a else None)
either_still true a = refl
either_still false a = refl

part_still : (class at : ℕ) (cell : Cell) → part_in class at (still_cell cell) ≡ optional_pointer (part_in class at cell)
part_still class at Undefined = refl
part_still class at (Byte byte) = refl
part_still class at (State byte) = refl
part_still class at (Part place its stored) = either_still ((place == at) && (stored == class)) its

-- what has no epoch has none to lose
pub unmoved_twice : (a : Pointer) → unmoved (unmoved a) ≡ unmoved a
unmoved_twice Nil = refl
unmoved_twice (Fixed object offset) = refl
unmoved_twice (Handle block) = refl
unmoved_twice (Spot its) = refl

-- it is of the first epoch
pub no_epoch : (a : Pointer) → epoch_of (unmoved a) ≡ 0
no_epoch Nil = refl
no_epoch (Fixed object offset) = refl
no_epoch (Handle block) = refl
no_epoch (Spot its) = refl

with_none : (a : Pointer) (e : ℕ) → with_epoch 0 (unmoved a) ≡ unmoved (with_epoch e a)
with_none Nil e = refl
with_none (Fixed object offset) e = refl
with_none (Handle block) e = refl
with_none (Spot its) e = refl

-- pointers are compared without their epochs
pub one_still : (a b : Pointer) → are_one_pointer (unmoved a) (unmoved b) ≡ are_one_pointer a b
one_still a b = rw (unmoved_twice a, unmoved_twice b) refl

joined_still : (first second : Option Pointer) → joined (optional_pointer first) (optional_pointer second) ≡ optional_pointer (joined first second)
joined_still None second = refl
joined_still (Some a) None = refl
joined_still (Some a) (Some b) =
    ap (λ z. if z then Some (with_epoch (min (epoch_of (unmoved a)) (epoch_of (unmoved b))) (unmoved a)) else None) (one_still a b)
    ∙ by_test (are_one_pointer a b)
  where
    least : with_epoch (min (epoch_of (unmoved a)) (epoch_of (unmoved b))) (unmoved a) ≡ unmoved (with_epoch (min (epoch_of a) (epoch_of b)) a)
    least =
        ap (λ e. with_epoch (min e (epoch_of (unmoved b))) (unmoved a)) (no_epoch a)
        ∙ ap (λ e. with_epoch (min 0 e) (unmoved a)) (no_epoch b) ∙ with_none a (min (epoch_of a) (epoch_of b))

    by_test : (z : Bool) → (if z then Some (with_epoch (min (epoch_of (unmoved a)) (epoch_of (unmoved b))) (unmoved a)) else None)
        ≡ optional_pointer (if z then Some (with_epoch (min (epoch_of a) (epoch_of b)) a) else None)
    by_test true = ap Some least
    by_test false = refl

whole_still : (class : ℕ) (cells : List Cell) → whole_in class (still_cells cells) ≡ optional_pointer (whole_in class cells)
whole_still class [] = refl
whole_still class (a ∷ []) = refl
whole_still class (a ∷ b ∷ []) = refl
whole_still class (a ∷ b ∷ c ∷ []) = refl
whole_still class (a ∷ b ∷ c ∷ d ∷ []) =
    rw (
      part_still class 0 a,
      part_still class 1 b,
      part_still class 2 c,
      part_still class 3 d,
      joined_still (part_in class 0 a) (part_in class 1 b),
      joined_still (joined (part_in class 0 a) (part_in class 1 b)) (part_in class 2 c),
      joined_still (joined (joined (part_in class 0 a) (part_in class 1 b)) (part_in class 2 c)) (part_in class 3 d),
    ) refl
whole_still class (a ∷ b ∷ c ∷ d ∷ e ∷ cells) = refl

pointer_at_still : (class : ℕ) (cells : List Cell) → pointer_at class (still_cells cells) ≡ optional_pointer (pointer_at class cells)
pointer_at_still class cells =
    ap (λ z. if z then Some Nil else whole_in class (still_cells cells)) (all_zero_still cells) ∙ by_test (list_all is_zero cells)
  where
    by_test : (z : Bool) → (if z then Some Nil else whole_in class (still_cells cells)) ≡ optional_pointer (if z then Some Nil else whole_in class cells)
    by_test true = refl
    by_test false = whole_still class cells

-- ---- loads

number_in_still : (kind : Integer) (cells : List Cell) → number_in kind (still_cells cells) ≡ still_optional (number_in kind cells)
number_in_still kind [] = refl
number_in_still kind (Undefined ∷ cells) = refl
number_in_still kind (Byte byte ∷ cells) =
    rw (every_byte cells, values_still cells) (by_test (list_all is_byte cells) (converted kind (bits_after 0 (byte ∷ map byte_in cells))))
  where
    by_test : (z : Bool) (n : ℕ) → (if z then Some (number n) else None) ≡ still_optional (if z then Some (number n) else None)
    by_test true n = refl
    by_test false n = refl
number_in_still kind (State byte ∷ []) = refl
number_in_still kind (State byte ∷ c ∷ cells) = refl
number_in_still kind (Part at its class ∷ cells) = refl

with_still : (its : Option Pointer) → with_pointer (optional_pointer its) ≡ still_optional (with_pointer its)
with_still None = refl
with_still (Some its) = refl

held_still : (access : Access) (cells : List Cell) → held access (still_cells cells) ≡ still_optional (held access cells)
held_still (of_number kind) cells = number_in_still kind cells
held_still (of_pointer class) cells = ap with_pointer (pointer_at_still class cells) ∙ with_still (pointer_at class cells)
held_still (of_struct size) cells = refl

missing_still : (value : Option Value) → is_missing (still_optional value) ≡ is_missing value
missing_still None = refl
missing_still (Some value) = refl

-- a value that is there, or one of no meaning
pub or_nothing_still : (value : Option Value) → or_nothing (still_optional value) ≡ still_value (or_nothing value)
or_nothing_still None = refl
or_nothing_still (Some value) = refl

-- why there is no load
pub load_stops_still : (access : Access) (cells : List Cell) → load_stops access (still_cells cells) ≡ load_stops access cells
load_stops_still access cells = rw (undefined_still cells, held_still access cells, missing_still (held access cells)) refl

-- the value that a load gives
pub value_in_still : (access : Access) (cells : List Cell) → value_in access (still_cells cells) ≡ still_value (value_in access cells)
value_in_still access cells = ap or_nothing (held_still access cells) ∙ or_nothing_still (held access cells)
