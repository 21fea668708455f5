-- Operations on pointers (X3.159-1989 3.3.6, 3.3.8 and 3.3.9; what they do to handles and old pointers is own).
--     current_stop its machine              why a pointer into a block is no more one, or points into an old place
--     compare_stops operator a b machine    why two pointers are not compared
--     difference_stops a b machine          or have no difference
--     pointer_answer operator a b           what a comparison answers
--     difference_of size a b                how many objects of that size lie between two pointers
--     moved_stops bytes its                 why a pointer does not go so many bytes on
--     moved_by bytes its                    where it is then
--     stride_bytes stride bits              how many bytes a step is
use Rattle.std.specs.Prelude.{ℤ, ℕ, pos, negsuc, ◌+ℤ◌, ◌-ℤ◌, ◌*ℤ◌, neg_ℤ, int_le, int_lt, int_div, ◌==◌, Bool, true, false, not, ◌&&◌, [], ◌∷◌, Option, Some, None}
use Rattle.std.specs.Ordering.{int_eq}
use Rattle.hs_heap.specs.Blocks.{Block, if_current}
use Rattle.hs_heap.specs.Memory.{block_at}
use Rattle.hs_heap.specs.declared.cell.Pointer.{Pointer}
use Rattle.hs_heap.specs.declared.cell.Pointer.TheVariants.{Nil, Fixed, Handle, Spot}
use Rattle.hs_heap.specs.declared.cell.Spot as spot
use Rattle.hs_meaning.specs.Machine.{Machine}
use Rattle.hs_meaning.specs.Numbers.{signed, bits_of}
use Rattle.hs_meaning.specs.Stops.{Stops, stops_if, stop_of}
use Rattle.hs_meaning.specs.Values.{are_one_pointer}
use Rattle.hs_meaning.specs.declared.outcome.Stop.{Stop}
use Rattle.hs_meaning.specs.declared.outcome.Stop.TheVariants as stop
use Rattle.hs_tree.specs.declared.operators.Comparison.{Comparison}
use Rattle.hs_tree.specs.declared.operators.Comparison.TheVariants.{Less, Greater, LessEqual, GreaterEqual, Equal, NotEqual}
use Rattle.hs_tree.specs.declared.operators.Stride.{Stride}

-- a pointer into a block is tested as at a load, but for its range
abbrev pub current_in : spot.Spot → Option Block → Option Stop
current_in its None = Some stop.BadPointer
current_in its (Some block) = if_current (λ why. Some (stop_of why)) None its block

-- other pointers are not tested
abbrev pub current_stop : Pointer → Machine → Option Stop
current_stop Nil machine = None
current_stop (Fixed object at) machine = None
current_stop (Handle block) machine = None
current_stop (Spot its) machine = current_in its (block_at machine.blocks its.block)

-- two numbers of bytes, if they are of one thing
abbrev pub offsets_if : Bool → ℤ → ℤ → Option (ℤ × ℤ)
offsets_if true a b = Some (a, b)
offsets_if false a b = None

-- both point into one object or block, and these are their bytes
abbrev pub offsets_of : Pointer → Pointer → Option (ℤ × ℤ)
offsets_of (Fixed object at) (Fixed other at') = offsets_if (object == other) at at'
offsets_of (Spot its) (Spot other) = offsets_if (its.block == other.block) its.offset other.offset
offsets_of a b = None

-- they do not
abbrev pub are_apart : Option (ℤ × ℤ) → Bool
are_apart None = true
are_apart (Some both) = false

-- equality is of any two pointers
abbrev pub orders : Comparison → Bool
orders Less = true
orders Greater = true
orders LessEqual = true
orders GreaterEqual = true
orders Equal = false
orders NotEqual = false

-- 3.3.8: order needs one object or block
abbrev pub compare_stops : Comparison → Pointer → Pointer → Machine → Stops
compare_stops operator a b machine =
    current_stop a machine ∷ current_stop b machine ∷ stops_if (orders operator && are_apart (offsets_of a b)) stop.BadPointer ∷ []

-- 3.3.6: and so does a difference
abbrev pub difference_stops : Pointer → Pointer → Machine → Stops
difference_stops a b machine =
    current_stop a machine ∷ current_stop b machine ∷ stops_if (are_apart (offsets_of a b)) stop.BadPointer ∷ []

-- of two numbers of bytes
abbrev pub order_of : Comparison → ℤ → ℤ → Bool
order_of Less a b = int_lt a b
order_of Greater a b = int_lt b a
order_of LessEqual a b = int_le a b
order_of GreaterEqual a b = int_le b a
order_of Equal a b = int_eq a b
order_of NotEqual a b = not (int_eq a b)

-- of pointers into one object or block
abbrev pub order_in : Comparison → Option (ℤ × ℤ) → Bool
order_in operator None = false
order_in operator (Some both) = order_of operator both.0 both.1

-- Pointers that are compared are current, so their epochs say nothing more.
abbrev pub pointer_answer : Comparison → Pointer → Pointer → Bool
pointer_answer Equal a b = are_one_pointer a b
pointer_answer NotEqual a b = not (are_one_pointer a b)
pointer_answer Less a b = order_in Less (offsets_of a b)
pointer_answer Greater a b = order_in Greater (offsets_of a b)
pointer_answer LessEqual a b = order_in LessEqual (offsets_of a b)
pointer_answer GreaterEqual a b = order_in GreaterEqual (offsets_of a b)

-- the bytes between them
abbrev pub bytes_between : Option (ℤ × ℤ) → ℤ
bytes_between None = pos 0
bytes_between (Some both) = both.0 -ℤ both.1

-- as a long
abbrev pub difference_of : ℕ → Pointer → Pointer → ℕ
difference_of size a b = bits_of (int_div (bytes_between (offsets_of a b)) (pos size))

-- a pointer goes at most 2147483647 bytes from the front of its object or block
abbrev pub is_near : ℤ → Bool
is_near at = int_le (negsuc 2147483646) at && int_le at (pos 2147483647)

-- arithmetic is no use, and asks nothing of the block
abbrev pub moved_stop : ℤ → Pointer → Option Stop
moved_stop bytes Nil = Some stop.Nil
moved_stop bytes (Handle block) = Some stop.BadPointer
moved_stop bytes (Fixed object at) = stops_if (not (is_near (at +ℤ bytes))) stop.BadPointer
moved_stop bytes (Spot its) = stops_if (not (is_near (its.offset +ℤ bytes))) stop.BadPointer

-- so many bytes on
abbrev pub moved_by : ℤ → Pointer → Pointer
moved_by bytes Nil = Nil
moved_by bytes (Handle block) = Handle block
moved_by bytes (Fixed object at) = Fixed object (at +ℤ bytes)
moved_by bytes (Spot its) = Spot (record its { offset = its.offset +ℤ bytes })

-- toward lower addresses or higher ones
abbrev pub directed : Bool → ℤ → ℤ
directed true bytes = neg_ℤ bytes
directed false bytes = bytes

-- so many objects on or back; the number is taken with its sign, whatever its type is
abbrev pub stride_bytes : Stride → ℕ → ℤ
stride_bytes stride bits = directed stride.backward (pos stride.size *ℤ signed bits)
