-- The values of the reference machine, and the cells that hold them in memory (own; X3.159-1989 3.1.2.5 and 3.2.1 leave representations open).
--     Value                        a number, a pointer, a state byte of HGetState, or the cells of a struct
--     bits_in, pointer_in          the number or the pointer that a value is
--     number_stops, pointer_stops  why a value is not used as a number, or as a pointer
--     Access                       what a load or a store reaches
--     length_of access             how many cells that is
--     cells_for access value       what a store of the value leaves in them; store_stops access value, why it does not
--     value_in access cells        what a load of these cells gives; load_stops access cells, why it does not
use Rattle.std.specs.Prelude.{ℕ, zero, suc, ◌+◌, ◌*◌, ◌/◌, ◌%◌, ◌^◌, ◌==◌, min, Bool, true, false, not, ◌&&◌, List, [], ◌∷◌, map, Option, Some, None, if◌then◌else◌}
use Rattle.std.specs.List.{list_any, list_all}
use Rattle.hs_heap.specs.contracts.cell.PointerPartialEq.TheImpl as pointer_eq
use Rattle.hs_heap.specs.declared.cell.Cell.{Cell}
use Rattle.hs_heap.specs.declared.cell.Cell.TheVariants.{Undefined, Byte, State, Part}
use Rattle.hs_heap.specs.declared.cell.Pointer.{Pointer}
use Rattle.hs_heap.specs.declared.cell.Pointer.TheVariants.{Nil, Fixed, Handle, Spot}
use Rattle.hs_meaning.specs.Stops.{Stops, stops_if}
use Rattle.hs_meaning.specs.declared.outcome.Stop.{Stop}
use Rattle.hs_meaning.specs.declared.outcome.Stop.TheVariants as stop
use Rattle.hs_types.specs.Integers.{integer_size, converted}
use Rattle.hs_types.specs.declared.integer.Integer.{Integer}

-- A number is given by its 32 bits. The state byte of HGetState is opaque: it is no number.
pub data Value : Type 0 where
  number : ℕ → Value
  pointer : Pointer → Value
  state : ℕ → Value
  structure : List Cell → Value

-- ---- a value as an operand

-- the bits of a number
abbrev pub bits_in : Value → ℕ
bits_in (number bits) = bits
bits_in (pointer its) = 0
bits_in (state byte) = 0
bits_in (structure cells) = 0

-- the pointer itself
abbrev pub pointer_in : Value → Pointer
pointer_in (number bits) = Nil
pointer_in (pointer its) = its
pointer_in (state byte) = Nil
pointer_in (structure cells) = Nil

-- A state byte is used as a number nowhere (own). No typed program has another value there.
abbrev pub number_stop : Value → Option Stop
number_stop (number bits) = None
number_stop (pointer its) = Some stop.BadPointer
number_stop (state byte) = Some stop.BadByte
number_stop (structure cells) = Some stop.BadPointer

-- no typed program has another value where a pointer is asked for
abbrev pub pointer_stop : Value → Option Stop
pointer_stop (number bits) = Some stop.BadPointer
pointer_stop (pointer its) = None
pointer_stop (state byte) = Some stop.BadPointer
pointer_stop (structure cells) = Some stop.BadPointer

-- ---- pointers

-- the pointer, whenever the master pointer was read
abbrev pub unmoved : Pointer → Pointer
unmoved Nil = Nil
unmoved (Fixed object offset) = Fixed object offset
unmoved (Handle block) = Handle block
unmoved (Spot its) = Spot (record its { epoch = 0 })

-- how often its block had been moved or purged then
abbrev pub epoch_of : Pointer → ℕ
epoch_of Nil = 0
epoch_of (Fixed object offset) = 0
epoch_of (Handle block) = 0
epoch_of (Spot its) = its.epoch

-- the pointer, as if it had been read then
abbrev pub with_epoch : ℕ → Pointer → Pointer
with_epoch epoch Nil = Nil
with_epoch epoch (Fixed object offset) = Fixed object offset
with_epoch epoch (Handle block) = Handle block
with_epoch epoch (Spot its) = Spot (record its { epoch = epoch })

-- equal but for their epochs
abbrev pub are_one_pointer : Pointer → Pointer → Bool
are_one_pointer a b = (pointer_eq.ghosts).eq (unmoved a) (unmoved b)

-- ---- what memory holds

-- what a load or a store reaches: a number of an integer type, a pointer of a class, or a struct of so many bytes
pub data Access : Type 0 where
  of_number : Integer → Access
  of_pointer : ℕ → Access
  of_struct : ℕ → Access

-- a pointer has four cells
abbrev pub length_of : Access → ℕ
length_of (of_number kind) = integer_size kind
length_of (of_pointer class) = 4
length_of (of_struct size) = size

-- memory is big-endian: so many of the low bytes, the highest first
abbrev pub bytes_of : ℕ → ℕ → List ℕ
bytes_of zero bits = []
bytes_of (suc more) bits = bits / 256 ^ more % 256 ∷ bytes_of more bits

-- the number whose bytes are those of the first number, and then these
abbrev pub bits_after : ℕ → List ℕ → ℕ
bits_after before [] = before
bits_after before (byte ∷ bytes) = bits_after (before * 256 + byte) bytes

-- the four parts of a pointer, which was stored through that class
abbrev pub parts_of : ℕ → Pointer → List Cell
parts_of class its = Part 0 its class ∷ Part 1 its class ∷ Part 2 its class ∷ Part 3 its class ∷ []

-- What a store leaves. NIL is stored as any pointer is; of a number the low bytes are stored.
abbrev pub cells_for : Access → Value → List Cell
cells_for (of_number kind) (number bits) = map Byte (bytes_of (integer_size kind) bits)
cells_for (of_number kind) (state byte) = State byte ∷ []
cells_for (of_pointer class) (pointer its) = parts_of class its
cells_for (of_struct size) (structure cells) = cells
cells_for access value = []

-- A state byte is stored in one byte only. No typed program stores a value of another sort.
abbrev pub store_stop : Access → Value → Option Stop
store_stop (of_number kind) (number bits) = None
store_stop (of_number kind) (state byte) = stops_if (not (integer_size kind == 1)) stop.BadByte
store_stop (of_pointer class) (pointer its) = None
store_stop (of_struct size) (structure cells) = None
store_stop access value = Some stop.BadPointer

-- nothing was stored there
abbrev pub is_undefined : Cell → Bool
is_undefined Undefined = true
is_undefined (Byte byte) = false
is_undefined (State byte) = false
is_undefined (Part place its class) = false

-- it holds a byte
abbrev pub is_byte : Cell → Bool
is_byte Undefined = false
is_byte (Byte byte) = true
is_byte (State byte) = false
is_byte (Part place its class) = false

-- a byte, or 0
abbrev pub byte_in : Cell → ℕ
byte_in Undefined = 0
byte_in (Byte byte) = byte
byte_in (State byte) = 0
byte_in (Part place its class) = 0

-- one state byte, or bytes
abbrev pub number_in : Integer → List Cell → Option Value
number_in kind (State byte ∷ []) = Some (state byte)
number_in kind cells = if list_all is_byte cells then Some (number (converted kind (bits_after 0 (map byte_in cells)))) else None

-- the pointer of which the cell is that part, if it was stored through that class
abbrev pub part_in : ℕ → ℕ → Cell → Option Pointer
part_in class place Undefined = None
part_in class place (Byte byte) = None
part_in class place (State byte) = None
part_in class place (Part at its stored) = if (at == place) && (stored == class) then Some its else None

-- Parts of pointers that are equal but for their epochs are parts of the one that was read first.
abbrev pub joined : Option Pointer → Option Pointer → Option Pointer
joined None second = None
joined (Some a) None = None
joined (Some a) (Some b) = if are_one_pointer a b then Some (with_epoch (min (epoch_of a) (epoch_of b)) a) else None

-- parts 0 to 3, in this order
abbrev pub whole_in : ℕ → List Cell → Option Pointer
whole_in class (a ∷ b ∷ c ∷ d ∷ []) = joined (joined (joined (part_in class 0 a) (part_in class 1 b)) (part_in class 2 c)) (part_in class 3 d)
whole_in class cells = None

-- it holds the byte 0
abbrev pub is_zero : Cell → Bool
is_zero cell = is_byte cell && (byte_in cell == 0)

-- four bytes that are 0 are NIL too
abbrev pub pointer_at : ℕ → List Cell → Option Pointer
pointer_at class cells = if list_all is_zero cells then Some Nil else whole_in class cells

-- as a value
abbrev pub with_pointer : Option Pointer → Option Value
with_pointer None = None
with_pointer (Some its) = Some (pointer its)

-- what the cells hold, if it is of that sort; the cells of a struct are taken as they are
abbrev pub held : Access → List Cell → Option Value
held (of_number kind) cells = number_in kind cells
held (of_pointer class) cells = with_pointer (pointer_at class cells)
held (of_struct size) cells = Some (structure cells)

-- the value, or one of no meaning
abbrev pub or_nothing : Option Value → Value
or_nothing None = number 0
or_nothing (Some value) = value

-- what a load gives
abbrev pub value_in : Access → List Cell → Value
value_in access cells = or_nothing (held access cells)

-- a struct may hold cells without values
abbrev pub asks_values : Access → Bool
asks_values (of_number kind) = true
asks_values (of_pointer class) = true
asks_values (of_struct size) = false

-- there is no value
abbrev pub is_missing : Option Value → Bool
is_missing None = true
is_missing (Some value) = false

-- a cell without a value comes before cells that hold something of another sort
abbrev pub load_stops : Access → List Cell → Stops
load_stops access cells =
    stops_if (asks_values access && list_any is_undefined cells) stop.Undefined ∷ stops_if (is_missing (held access cells)) stop.BadLoad ∷ []
