-- The integer types (X3.159-1989 3.1.2.5) and the conversions of their numbers (3.2.1). A number is given by its 32 bits, and
-- one below 0 by its two's complement.
--     integer_size kind         its size in bytes (own: C leaves it open)
--     is_signed kind            it has numbers below 0; `char` has (own)
--     promoted kind             the type to which the integral promotions convert its numbers
--     common left right         the common type of two operands, by the usual arithmetic conversions
--     converted kind bits       the number of that type to which a number is converted
use Rattle.std.specs.Prelude.{ℕ, ◌+◌, ◌-◌, ◌/◌, ◌%◌, nat_lt, Bool, true, false, if◌then◌else◌}
use Rattle.hs_types.specs.declared.integer.Integer.{Integer}
use Rattle.hs_types.specs.declared.integer.Integer.TheVariants.{Char, SignedChar, UnsignedChar, Short, UnsignedShort, Int, UnsignedInt, Long, UnsignedLong}

-- char 1, short 2, the others 4
abbrev pub integer_size : Integer → ℕ
integer_size Char = 1
integer_size SignedChar = 1
integer_size UnsignedChar = 1
integer_size Short = 2
integer_size UnsignedShort = 2
integer_size Int = 4
integer_size UnsignedInt = 4
integer_size Long = 4
integer_size UnsignedLong = 4

-- the unsigned types have none
abbrev pub is_signed : Integer → Bool
is_signed Char = true
is_signed SignedChar = true
is_signed UnsignedChar = false
is_signed Short = true
is_signed UnsignedShort = false
is_signed Int = true
is_signed UnsignedInt = false
is_signed Long = true
is_signed UnsignedLong = false

-- 3.2.1.1: an int of 32 bits can hold all numbers of the types that are shorter
abbrev pub promoted : Integer → Integer
promoted kind = if nat_lt (integer_size kind) 4 then Int else kind

-- 3.2.1.5, in its order, for promoted types: unsigned long; unsigned long, as a long of 32 bits cannot hold all numbers of
-- unsigned int; long; unsigned int; int
abbrev pub common_of_promoted : Integer → Integer → Integer
common_of_promoted UnsignedLong right = UnsignedLong
common_of_promoted left UnsignedLong = UnsignedLong
common_of_promoted Long UnsignedInt = UnsignedLong
common_of_promoted UnsignedInt Long = UnsignedLong
common_of_promoted Long right = Long
common_of_promoted left Long = Long
common_of_promoted UnsignedInt right = UnsignedInt
common_of_promoted left UnsignedInt = UnsignedInt
common_of_promoted left right = Int

-- of the promoted operands
abbrev pub common : Integer → Integer → Integer
common left right = common_of_promoted (promoted left) (promoted right)

-- the low bits as a number with a sign, if there are `numbers` numbers of so many bits
abbrev pub sign_extended : ℕ → ℕ → ℕ
sign_extended numbers bits =
    if nat_lt (bits % numbers) (numbers / 2) then bits % numbers else bits % numbers + (4294967296 - numbers)

-- 3.2.1.2: as many of the low bits as the type has
abbrev pub converted : Integer → ℕ → ℕ
converted Char bits = sign_extended 256 bits
converted SignedChar bits = sign_extended 256 bits
converted UnsignedChar bits = bits % 256
converted Short bits = sign_extended 65536 bits
converted UnsignedShort bits = bits % 65536
converted Int bits = bits
converted UnsignedInt bits = bits
converted Long bits = bits
converted UnsignedLong bits = bits
