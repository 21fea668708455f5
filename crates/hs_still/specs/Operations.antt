-- Operations that are no load, no store and no routine, on the still machine.
--     binding_still, value_of_slot_still, with_value_still      variables
--     operation_stops_still, operation_value_still, operation_machine_still
use Rattle.std.proofs.Common.{◌≡◌, pos, ◌==◌, true, false, List, [], ◌∷◌, map, Option, Some, None, option_map, refl, ap, ◌∙◌}
use Rattle.std.proofs.lemmas.Option.{slice_get-map}
use Rattle.hs_heap.specs.declared.cell.Pointer.{Pointer}
use Rattle.hs_heap.specs.declared.cell.Pointer.TheVariants.{Nil, Fixed, Handle, Spot}
use Rattle.hs_meaning.specs.Machine.{Machine, Binding, slot, object_at, binding_of, value_of_slot, with_value}
use Rattle.hs_meaning.specs.Numbers.{sign_of, arithmetic_of, answer_of, truth}
use Rattle.hs_meaning.specs.Operations.{Operation, get, set, convert, sign, not_, arithmetic, comparison, is_nil, compare, difference, offset, step, slot_stop, convert_stop, converted_value, is_nil_pointer, step_stops, stepped, operation_stops, operation_value, operation_machine}
use Rattle.hs_meaning.specs.Pointers.{moved_by, stride_bytes}
use Rattle.hs_meaning.specs.Values.{Value, number, pointer, state, structure, bits_in, pointer_in, pointer_stop, or_nothing, unmoved}
use Rattle.hs_still.specs.Accesses.{map_set}
use Rattle.hs_still.specs.Cells.{bits_still, pointer_still, number_stop_still, pointer_stop_still, or_nothing_still}
use Rattle.hs_still.specs.Machines.{still_value, still_optional, still_binding, still_machine}
use Rattle.hs_still.specs.Pointers.{compare_stops_still, difference_stops_still, answer_still, difference_still, moved_still, moved_stop_still}
use Rattle.hs_still.specs.Tests.{OperationUses}
use Rattle.hs_tree.specs.declared.head.Variable.{Variable}
use Rattle.hs_tree.specs.declared.head.Variable.TheVariants as name
use Rattle.hs_tree.specs.declared.operators.Stride.{Stride}
use Rattle.hs_types.specs.declared.integer.Integer.{Integer}

-- ---- variables

-- what a variable is
pub binding_still : (variable : Variable) (machine : Machine)
    → binding_of variable (still_machine machine) ≡ option_map still_binding (binding_of variable machine)
binding_still (name.Global place) machine = slice_get-map still_binding machine.globals place
binding_still (name.Local place) machine = slice_get-map still_binding machine.locals place

slot_value_still : (binding : Option Binding) → value_of_slot (option_map still_binding binding) ≡ still_optional (value_of_slot binding)
slot_value_still None = refl
slot_value_still (Some (slot value)) = refl
slot_value_still (Some (object_at place)) = refl

-- what a slot holds
pub value_of_slot_still : (variable : Variable) (machine : Machine)
    → value_of_slot (binding_of variable (still_machine machine)) ≡ still_optional (value_of_slot (binding_of variable machine))
value_of_slot_still variable machine = ap value_of_slot (binding_still variable machine) ∙ slot_value_still (binding_of variable machine)

-- a slot with another value
pub with_value_still : (variable : Variable) (value : Value) (machine : Machine)
    → with_value variable (still_value value) (still_machine machine) ≡ still_machine (with_value variable value machine)
with_value_still (name.Global place) value machine =
    ap (λ globals. record (still_machine machine) { globals = globals }) (map_set still_binding machine.globals place (slot (Some value)))
with_value_still (name.Local place) value machine =
    ap (λ locals. record (still_machine machine) { locals = locals }) (map_set still_binding machine.locals place (slot (Some value)))

-- ---- why they stop

slot_stop_still : (value : Option Value) → slot_stop (still_optional value) ≡ slot_stop value
slot_stop_still None = refl
slot_stop_still (Some value) = refl

convert_stop_still : (value : Value) → convert_stop (still_value value) ≡ convert_stop value
convert_stop_still (number bits) = refl
convert_stop_still (pointer its) = refl
convert_stop_still (state byte) = refl
convert_stop_still (structure cells) = refl

step_stops_still : (stride : Stride) (its by : Value) → step_stops stride (still_value its) (still_value by) ≡ step_stops stride its by
step_stops_still stride its by =
    rw (
      number_stop_still by,
      pointer_stop_still its,
      bits_still by,
      pointer_still its,
      moved_stop_still (stride_bytes stride (bits_in by)) (pointer_in its),
    ) refl

-- why an operation stops
pub operation_stops_still : (its : Operation) (values : List Value) (machine : Machine) → OperationUses its values machine
    → operation_stops its (map still_value values) (still_machine machine) ≡ operation_stops its values machine
operation_stops_still (get variable) [] machine used =
    ap (λ value. slot_stop value ∷ []) (value_of_slot_still variable machine)
    ∙ ap (λ why. why ∷ []) (slot_stop_still (value_of_slot (binding_of variable machine)))
operation_stops_still (set variable) (value ∷ []) machine used = refl
operation_stops_still (convert kind) (value ∷ []) machine used = ap (λ why. why ∷ []) (convert_stop_still value)
operation_stops_still (sign operator) (value ∷ []) machine used = ap (λ why. why ∷ []) (number_stop_still value)
operation_stops_still not_ (value ∷ []) machine used = ap (λ why. why ∷ []) (number_stop_still value)
operation_stops_still (arithmetic operator kind) (a ∷ b ∷ []) machine used = rw (number_stop_still a, number_stop_still b, bits_still b) refl
operation_stops_still (comparison operator kind) (a ∷ b ∷ []) machine used = rw (number_stop_still a, number_stop_still b) refl
operation_stops_still is_nil (its ∷ []) machine used = ap (λ why. why ∷ []) (pointer_stop_still its)
operation_stops_still (compare operator) (a ∷ b ∷ []) machine used =
    rw (pointer_stop_still a, pointer_stop_still b, pointer_still a, pointer_still b)
    (ap (λ ss. pointer_stop a ∷ pointer_stop b ∷ ss) (compare_stops_still operator (pointer_in a) (pointer_in b) machine used.0 used.1))
operation_stops_still (difference size) (a ∷ b ∷ []) machine used =
    rw (pointer_stop_still a, pointer_stop_still b, pointer_still a, pointer_still b)
    (ap (λ ss. pointer_stop a ∷ pointer_stop b ∷ ss) (difference_stops_still (pointer_in a) (pointer_in b) machine used.0 used.1))
operation_stops_still (offset bytes) (its ∷ []) machine used =
    rw (pointer_stop_still its, pointer_still its, moved_stop_still (pos bytes) (pointer_in its)) refl
operation_stops_still (step stride true) (its ∷ by ∷ []) machine used = step_stops_still stride its by
operation_stops_still (step stride false) (by ∷ its ∷ []) machine used = step_stops_still stride its by
operation_stops_still operation values machine used = refl

-- ---- what they give

converted_still : (kind : Integer) (value : Value) → converted_value kind (still_value value) ≡ still_value (converted_value kind value)
converted_still kind (number bits) = refl
converted_still kind (pointer its) = refl
converted_still kind (state byte) = refl
converted_still kind (structure cells) = refl

nil_still : (its : Pointer) → is_nil_pointer (unmoved its) ≡ is_nil_pointer its
nil_still Nil = refl
nil_still (Fixed object at) = refl
nil_still (Handle block) = refl
nil_still (Spot its) = refl

stepped_still : (stride : Stride) (its by : Value) → stepped stride (still_value its) (still_value by) ≡ still_value (stepped stride its by)
stepped_still stride its by =
    rw (bits_still by, pointer_still its) (ap pointer (moved_still (stride_bytes stride (bits_in by)) (pointer_in its)))

-- what an operation gives
pub operation_value_still : (its : Operation) (values : List Value) (machine : Machine)
    → operation_value its (map still_value values) (still_machine machine) ≡ still_value (operation_value its values machine)
operation_value_still (get variable) [] machine =
    ap or_nothing (value_of_slot_still variable machine) ∙ or_nothing_still (value_of_slot (binding_of variable machine))
operation_value_still (set variable) (value ∷ []) machine = refl
operation_value_still (convert kind) (value ∷ []) machine = converted_still kind value
operation_value_still (sign operator) (value ∷ []) machine = ap (λ bits. number (sign_of operator bits)) (bits_still value)
operation_value_still not_ (value ∷ []) machine = ap (λ bits. number (truth (bits == 0))) (bits_still value)
operation_value_still (arithmetic operator kind) (a ∷ b ∷ []) machine =
    ap (λ bits. number (arithmetic_of operator kind bits (bits_in (still_value b)))) (bits_still a)
    ∙ ap (λ bits. number (arithmetic_of operator kind (bits_in a) bits)) (bits_still b)
operation_value_still (comparison operator kind) (a ∷ b ∷ []) machine =
    ap (λ bits. number (truth (answer_of operator kind bits (bits_in (still_value b))))) (bits_still a)
    ∙ ap (λ bits. number (truth (answer_of operator kind (bits_in a) bits))) (bits_still b)
operation_value_still is_nil (its ∷ []) machine =
    ap (λ p. number (truth (is_nil_pointer p))) (pointer_still its) ∙ ap (λ z. number (truth z)) (nil_still (pointer_in its))
operation_value_still (compare operator) (a ∷ b ∷ []) machine =
    rw (pointer_still a, pointer_still b) (ap (λ z. number (truth z)) (answer_still operator (pointer_in a) (pointer_in b)))
operation_value_still (difference size) (a ∷ b ∷ []) machine =
    rw (pointer_still a, pointer_still b) (ap number (difference_still size (pointer_in a) (pointer_in b)))
operation_value_still (offset bytes) (its ∷ []) machine =
    ap (λ p. pointer (moved_by (pos bytes) p)) (pointer_still its) ∙ ap pointer (moved_still (pos bytes) (pointer_in its))
operation_value_still (step stride true) (its ∷ by ∷ []) machine = stepped_still stride its by
operation_value_still (step stride false) (by ∷ its ∷ []) machine = stepped_still stride its by
operation_value_still operation values machine = refl

-- the machine after it
pub operation_machine_still : (its : Operation) (values : List Value) (machine : Machine)
    → operation_machine its (map still_value values) (still_machine machine) ≡ still_machine (operation_machine its values machine)
operation_machine_still (set variable) (value ∷ []) machine = with_value_still variable value machine
operation_machine_still operation values machine = refl
