-- With operands of their kinds no operation stops because a value is of another sort: its stops are those of a list without such tests.
--     typed_stops, typed_store_stop     the stops that are left
--     operation_typed, store_typed      they are the stops
use Rattle.std.proofs.Common.{◌≡◌, pos, ◌==◌, Bool, true, false, not, ◌&&◌, List, [], ◌∷◌, Option, Some, None, refl, ap, ◌∙◌}
use Rattle.hs_code.specs.Stacks.{Kind, kind_of, same_kind, if_same, without}
use Rattle.hs_code.specs.Stacks as kind
use Rattle.hs_kinds.specs.Kinds.{IsOfKind, AreOfKinds}
use Rattle.hs_kinds.specs.Operations.{by_one, by_two, kind_reached}
use Rattle.hs_kinds.specs.Routines.{by_none}
use Rattle.hs_meaning.specs.Machine.{Machine, binding_of, value_of_slot}
use Rattle.hs_meaning.specs.Numbers.{divides}
use Rattle.hs_meaning.specs.Operations as operation
use Rattle.hs_meaning.specs.Operations.{Operation, operation_stops, slot_stop, convert_stop, is_plain}
use Rattle.hs_meaning.specs.Plain.{byte_stop}
use Rattle.hs_meaning.specs.Pointers.{compare_stops, difference_stops, moved_stop, stride_bytes}
use Rattle.hs_meaning.specs.Stops.{Stops, stops_if, first_stop}
use Rattle.hs_meaning.specs.Values.{Value, number, pointer, state, structure, bits_in, pointer_in, number_stop, pointer_stop, Access, of_number, of_pointer, of_struct, store_stop}
use Rattle.hs_meaning.specs.declared.outcome.Stop.{Stop}
use Rattle.hs_meaning.specs.declared.outcome.Stop.TheVariants as stop
use Rattle.hs_types.specs.Integers.{integer_size}

-- ---- operands

-- a number stops only if it is a state byte
pub number_typed : (value : Value) → IsOfKind kind.number value → number_stop value ≡ byte_stop value
number_typed (number bits) is = refl
number_typed (pointer its) is = absurd is
number_typed (state byte) is = refl
number_typed (structure cells) is = absurd is

-- a pointer does not stop
pub pointer_typed : (value : Value) → IsOfKind kind.pointer value → pointer_stop value ≡ None
pointer_typed (number bits) is = absurd is
pointer_typed (pointer its) is = refl
pointer_typed (state byte) is = absurd is
pointer_typed (structure cells) is = absurd is

-- ---- operations on values

-- the stops of an operation that has its operands
abbrev pub typed_stops : Operation → List Value → Machine → Stops
typed_stops (operation.get name) [] machine = slot_stop (value_of_slot (binding_of name machine)) ∷ []
typed_stops (operation.sign operator) (value ∷ []) machine = byte_stop value ∷ []
typed_stops operation.not_ (value ∷ []) machine = byte_stop value ∷ []
typed_stops (operation.arithmetic operator i) (a ∷ b ∷ []) machine =
    byte_stop a ∷ byte_stop b ∷ stops_if (divides operator && (bits_in b == 0)) stop.Divide ∷ []
typed_stops (operation.comparison operator i) (a ∷ b ∷ []) machine = byte_stop a ∷ byte_stop b ∷ []
typed_stops (operation.compare operator) (a ∷ b ∷ []) machine = compare_stops operator (pointer_in a) (pointer_in b) machine
typed_stops (operation.difference size) (a ∷ b ∷ []) machine = difference_stops (pointer_in a) (pointer_in b) machine
typed_stops (operation.offset bytes) (its ∷ []) machine = moved_stop (pos bytes) (pointer_in its) ∷ []
typed_stops (operation.step stride true) (its ∷ by ∷ []) machine =
    byte_stop by ∷ moved_stop (stride_bytes stride (bits_in by)) (pointer_in its) ∷ []
typed_stops (operation.step stride false) (by ∷ its ∷ []) machine =
    byte_stop by ∷ moved_stop (stride_bytes stride (bits_in by)) (pointer_in its) ∷ []
typed_stops its values machine = []

-- the kinds that it takes, the lowest first; of a slot, by its type
abbrev pub operands_of : Kind → Operation → List Kind
operands_of slot_kind (operation.get name) = []
operands_of slot_kind (operation.set name) = slot_kind ∷ []
operands_of slot_kind (operation.load access) = kind.pointer ∷ []
operands_of slot_kind (operation.store access) = kind.pointer ∷ kind_reached access ∷ []
operands_of slot_kind (operation.convert i) = kind.number ∷ []
operands_of slot_kind (operation.sign operator) = kind.number ∷ []
operands_of slot_kind operation.not_ = kind.number ∷ []
operands_of slot_kind (operation.arithmetic operator i) = kind.number ∷ kind.number ∷ []
operands_of slot_kind (operation.comparison operator i) = kind.number ∷ kind.number ∷ []
operands_of slot_kind operation.is_nil = kind.pointer ∷ []
operands_of slot_kind (operation.compare operator) = kind.pointer ∷ kind.pointer ∷ []
operands_of slot_kind (operation.difference size) = kind.pointer ∷ kind.pointer ∷ []
operands_of slot_kind (operation.offset bytes) = kind.pointer ∷ []
operands_of slot_kind (operation.step stride true) = kind.pointer ∷ kind.number ∷ []
operands_of slot_kind (operation.step stride false) = kind.number ∷ kind.pointer ∷ []
operands_of slot_kind (operation.routine place) = []

-- loads, stores and routines have their own
abbrev pub is_own : Operation → Bool
is_own (operation.load access) = true
is_own (operation.store access) = true
is_own (operation.routine place) = true
is_own its = false

-- a number is converted
convert_typed : (value : Value) → IsOfKind kind.number value → first_stop (convert_stop value ∷ []) ≡ None
convert_typed (number bits) is = refl
convert_typed (pointer its) is = absurd is
convert_typed (state byte) is = refl
convert_typed (structure cells) is = absurd is

-- a test that is another one
pub with_test : (a b : Option Stop) (rest : Stops) → a ≡ b → first_stop (a ∷ rest) ≡ first_stop (b ∷ rest)
with_test a b rest is = ap (λ it. first_stop (it ∷ rest)) is

-- tests after another one
pub after_test : (a : Option Stop) (first second : Stops) → first_stop first ≡ first_stop second → first_stop (a ∷ first) ≡ first_stop (a ∷ second)
after_test None first second is = is
after_test (Some why) first second is = refl

module _ (machine : Machine) where
  -- they are those
  abbrev Typed : Operation → List Value → Type 0
  Typed its values = first_stop (operation_stops its values machine) ≡ first_stop (typed_stops its values machine)

  -- each operation but loads, stores and routines
  pub operation_typed : (slot_kind : Kind) (its : Operation) (values : List Value) → is_own its ≡ false → AreOfKinds (operands_of slot_kind its) values
      → Typed its values
  operation_typed k (operation.get name) values own are = by_none (Typed (operation.get name)) values are refl
  operation_typed k (operation.set name) values own are = by_one (Typed (operation.set name)) k values are (λ a is. refl)
  operation_typed k (operation.convert i) values own are = by_one (Typed (operation.convert i)) kind.number values are (λ a is. convert_typed a is)
  operation_typed k (operation.sign operator) values own are =
      by_one (Typed (operation.sign operator)) kind.number values are (λ a is. with_test (number_stop a) (byte_stop a) [] (number_typed a is))
  operation_typed k operation.not_ values own are =
      by_one (Typed operation.not_) kind.number values are (λ a is. with_test (number_stop a) (byte_stop a) [] (number_typed a is))
  operation_typed k (operation.arithmetic operator i) values own are =
      by_two (Typed (operation.arithmetic operator i)) kind.number kind.number values are
      (λ a b is too. ap (λ x. first_stop (x ∷ number_stop b ∷ stops_if (divides operator && (bits_in b == 0)) stop.Divide ∷ [])) (number_typed a is)
      ∙ ap (λ y. first_stop (byte_stop a ∷ y ∷ stops_if (divides operator && (bits_in b == 0)) stop.Divide ∷ [])) (number_typed b too))
  operation_typed k (operation.comparison operator i) values own are =
      by_two (Typed (operation.comparison operator i)) kind.number kind.number values are
      (λ a b is too. ap (λ x. first_stop (x ∷ number_stop b ∷ [])) (number_typed a is)
      ∙ ap (λ y. first_stop (byte_stop a ∷ y ∷ [])) (number_typed b too))
  operation_typed k operation.is_nil values own are =
      by_one (Typed operation.is_nil) kind.pointer values are (λ a is. with_test (pointer_stop a) None [] (pointer_typed a is))
  operation_typed k (operation.compare operator) values own are =
      by_two (Typed (operation.compare operator)) kind.pointer kind.pointer values are
      (λ a b is too. ap (λ x. first_stop (x ∷ pointer_stop b ∷ compare_stops operator (pointer_in a) (pointer_in b) machine)) (pointer_typed a is)
      ∙ ap (λ y. first_stop (y ∷ compare_stops operator (pointer_in a) (pointer_in b) machine)) (pointer_typed b too))
  operation_typed k (operation.difference size) values own are =
      by_two (Typed (operation.difference size)) kind.pointer kind.pointer values are
      (λ a b is too. ap (λ x. first_stop (x ∷ pointer_stop b ∷ difference_stops (pointer_in a) (pointer_in b) machine)) (pointer_typed a is)
      ∙ ap (λ y. first_stop (y ∷ difference_stops (pointer_in a) (pointer_in b) machine)) (pointer_typed b too))
  operation_typed k (operation.offset bytes) values own are =
      by_one (Typed (operation.offset bytes)) kind.pointer values are
      (λ a is. with_test (pointer_stop a) None (moved_stop (pos bytes) (pointer_in a) ∷ []) (pointer_typed a is))
  operation_typed k (operation.step stride true) values own are =
      by_two (Typed (operation.step stride true)) kind.pointer kind.number values are
      (λ a b is too. ap (λ x. first_stop (x ∷ pointer_stop a ∷ moved_stop (stride_bytes stride (bits_in b)) (pointer_in a) ∷ [])) (number_typed b too)
      ∙ ap (λ y. first_stop (byte_stop b ∷ y ∷ moved_stop (stride_bytes stride (bits_in b)) (pointer_in a) ∷ [])) (pointer_typed a is)
      ∙ after_test (byte_stop b) (None ∷ moved_stop (stride_bytes stride (bits_in b)) (pointer_in a) ∷ [])
      (moved_stop (stride_bytes stride (bits_in b)) (pointer_in a) ∷ []) refl)
  operation_typed k (operation.step stride false) values own are =
      by_two (Typed (operation.step stride false)) kind.number kind.pointer values are
      (λ b a too is. ap (λ x. first_stop (x ∷ pointer_stop a ∷ moved_stop (stride_bytes stride (bits_in b)) (pointer_in a) ∷ [])) (number_typed b too)
      ∙ ap (λ y. first_stop (byte_stop b ∷ y ∷ moved_stop (stride_bytes stride (bits_in b)) (pointer_in a) ∷ [])) (pointer_typed a is)
      ∙ after_test (byte_stop b) (None ∷ moved_stop (stride_bytes stride (bits_in b)) (pointer_in a) ∷ [])
      (moved_stop (stride_bytes stride (bits_in b)) (pointer_in a) ∷ []) refl)
  operation_typed k (operation.load access) values own are = absurd cc
  operation_typed k (operation.store access) values own are = absurd cc
  operation_typed k (operation.routine place) values own are = absurd cc

-- ---- stores

-- a state byte is stored in one byte only
abbrev pub typed_store_stop : Access → Value → Option Stop
typed_store_stop (of_number i) (state byte) = stops_if (not (integer_size i == 1)) stop.BadByte
typed_store_stop access value = None

-- a store
pub store_typed : (access : Access) (value : Value) → IsOfKind (kind_reached access) value → store_stop access value ≡ typed_store_stop access value
store_typed (of_number i) (number bits) is = refl
store_typed (of_number i) (pointer its) is = absurd is
store_typed (of_number i) (state byte) is = refl
store_typed (of_number i) (structure cells) is = absurd is
store_typed (of_pointer class) (number bits) is = absurd is
store_typed (of_pointer class) (pointer its) is = refl
store_typed (of_pointer class) (state byte) is = absurd is
store_typed (of_pointer class) (structure cells) is = absurd is
store_typed (of_struct size) (number bits) is = absurd is
store_typed (of_struct size) (pointer its) is = absurd is
store_typed (of_struct size) (state byte) is = absurd is
store_typed (of_struct size) (structure cells) is = refl
