-- Constants that objects start with (X3.159-1989 3.4): numbers, the null pointer and address constants.
--     address_value types e           what an address constant points to: an object of static storage duration, and the byte from its start
--     address_of_object types it      the address of an object that an expression designates
--     constant_in types e             the constant that a scalar value is, if it is one
use Rattle.std.specs.Prelude.{ℕ, ℤ, pos, negsuc, ◌+ℤ◌, ◌-ℤ◌, ◌*ℤ◌, neg_ℤ, int_le, nat_le, Bool, true, false, ◌&&◌, Option, Some, None, if◌then◌else◌}
use Rattle.hs_constants.specs.declared.value.Value.{Value}
use Rattle.hs_aggregates.specs.declared.addresses.Address.{Address}
use Rattle.hs_operand_types.specs.Constants.{constant_value}
use Rattle.hs_tree.specs.Trees as tree
use Rattle.hs_tree.specs.Trees.{RightValue, LeftValue}
use Rattle.hs_tree.specs.declared.constant.Base.{Base}
use Rattle.hs_tree.specs.declared.constant.Base.TheVariants as base
use Rattle.hs_tree.specs.declared.constant.Constant.{Constant}
use Rattle.hs_tree.specs.declared.constant.Constant.TheVariants as constant
use Rattle.hs_tree.specs.declared.head.Variable.{Variable}
use Rattle.hs_tree.specs.declared.head.Variable.TheVariants as name
use Rattle.hs_types.specs.TypeTables.{TypeTable}

-- 32 bits as a number with a sign
abbrev pub signed_number : ℕ → ℤ
signed_number bits = if nat_le 2147483648 bits then pos bits -ℤ pos 4294967296 else pos bits

-- a number of 32 bits with a sign
abbrev pub is_offset : ℤ → Bool
is_offset bytes = int_le (negsuc 2147483647) bytes && int_le bytes (pos 2147483647)

-- the start of an object
abbrev pub start_of : Base → Address
start_of its = record { base = its; offset = pos 0 }

-- the byte of an object, if its offset is a number of 32 bits (own)
abbrev pub address_at : Base → ℤ → Option Address
address_at its bytes = if is_offset bytes then Some (record { base = its; offset = bytes }) else None

-- so many bytes on
abbrev pub moved : ℤ → Option Address → Option Address
moved bytes None = None
moved bytes (Some it) = address_at it.base (it.offset +ℤ bytes)

-- so many objects of that size, on or back
abbrev pub bytes_over : Bool → ℕ → ℕ → ℤ
bytes_over backward size bits = if backward then neg_ℤ (pos size *ℤ signed_number bits) else pos size *ℤ signed_number bits

-- 3.3.6: plus or minus an integral constant, in which nothing is divided by 0
abbrev pub stepped : Bool → ℕ → Option Value → Option Address → Option Address
stepped backward size None it = None
stepped backward size (Some number) it = if number.fails then None else moved (bytes_over backward size number.bits) it

-- an object of static storage duration
abbrev pub static_object : Variable → Option Address
static_object (name.Global place) = Some (start_of (base.Global place))
static_object (name.Local place) = None

-- 3.4: `&`, arrays and strings as addresses, `.`, `->`, `[]`, `*`, pointer casts, and a pointer plus or minus an integral constant; no
-- object is read
abbrev mutual
  pub address_value : TypeTable → RightValue → Option Address
  address_value types (tree.number head bits) = None
  address_value types (tree.nil head) = None
  address_value types (tree.load head object) = None
  address_value types (tree.decay head array) = address_of_object types array
  address_value types (tree.address head object) = address_of_object types object
  address_value types (tree.cast head operand) = address_value types operand
  address_value types (tree.convert_number head kind operand) = None
  address_value types (tree.convert_pointer head operand) = address_value types operand
  address_value types (tree.unary head operator kind operand) = None
  address_value types (tree.not head operand) = None
  address_value types (tree.arithmetic head operator kind a b) = None
  address_value types (tree.comparison head operator kind a b) = None
  address_value types (tree.compare_pointers head operator a b) = None
  address_value types (tree.is_nil head equal pointer) = None
  address_value types (tree.step head stride pointer_first a b) =
      if pointer_first
      then stepped stride.backward stride.size (constant_value types b) (address_value types a)
      else stepped stride.backward stride.size (constant_value types a) (address_value types b)
  address_value types (tree.difference head size a b) = None
  address_value types (tree.and head a b) = None
  address_value types (tree.or head a b) = None
  address_value types (tree.conditional head test taken otherwise) = None
  address_value types (tree.comma head lefts last) = None
  address_value types (tree.assign head into from) = None
  address_value types (tree.update head operator kind to into from) = None
  address_value types (tree.advance head stride into from) = None
  address_value types (tree.post_update head operator kind to into) = None
  address_value types (tree.post_advance head stride into) = None
  address_value types (tree.call head number routine arguments) = None
  address_value types (tree.call_routine head routine arguments) = None

  pub address_of_object : TypeTable → LeftValue → Option Address
  address_of_object types (tree.variable head variable) = static_object variable
  address_of_object types (tree.literal head number) = Some (start_of (base.Literal number))
  address_of_object types (tree.target head pointer) = address_value types pointer
  address_of_object types (tree.element head size pointer_first a b) =
      if pointer_first
      then stepped false size (constant_value types b) (address_value types a)
      else stepped false size (constant_value types a) (address_value types b)
  address_of_object types (tree.member head field offset object) = moved (pos offset) (address_of_object types object)
  address_of_object types (tree.arrow head field offset pointer) = moved (pos offset) (address_value types pointer)

-- the null pointer, cast or not
abbrev pub is_null : RightValue → Bool
is_null (tree.number head bits) = false
is_null (tree.nil head) = true
is_null (tree.load head object) = false
is_null (tree.decay head array) = false
is_null (tree.address head object) = false
is_null (tree.cast head operand) = is_null operand
is_null (tree.convert_number head kind operand) = false
is_null (tree.convert_pointer head operand) = is_null operand
is_null (tree.unary head operator kind operand) = false
is_null (tree.not head operand) = false
is_null (tree.arithmetic head operator kind a b) = false
is_null (tree.comparison head operator kind a b) = false
is_null (tree.compare_pointers head operator a b) = false
is_null (tree.is_nil head equal pointer) = false
is_null (tree.step head stride pointer_first a b) = false
is_null (tree.difference head size a b) = false
is_null (tree.and head a b) = false
is_null (tree.or head a b) = false
is_null (tree.conditional head test taken otherwise) = false
is_null (tree.comma head lefts last) = false
is_null (tree.assign head into from) = false
is_null (tree.update head operator kind to into from) = false
is_null (tree.advance head stride into from) = false
is_null (tree.post_update head operator kind to into) = false
is_null (tree.post_advance head stride into) = false
is_null (tree.call head number routine arguments) = false
is_null (tree.call_routine head routine arguments) = false

-- a number, in which nothing is divided by 0, or an address
abbrev pub constant_by : Option Value → Option Address → Option Constant
constant_by (Some value) it = if value.fails then None else Some (constant.Number value.bits)
constant_by None None = None
constant_by None (Some it) = Some (constant.Address it.base it.offset)

-- of a scalar value
abbrev pub constant_in : TypeTable → RightValue → Option Constant
constant_in types e = if is_null e then Some constant.Nil else constant_by (constant_value types e) (address_value types e)
