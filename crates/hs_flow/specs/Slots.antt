-- Where the value of a slot is after an operation (own).
--     is_below base slot                the slot is no place, or a place below that one
--     is_place, is_variable, is_class   the slot is that one
--     below base slot                   the slot, if it is below that place
--     placed_at from to base slot       the slots to which the value of one place goes
--     get_slots, set_slots, load_slots, store_slots, value_slots, dup_slots, tuck_slots, brought_to, returned      by the operation
--     slots_after scope op depth slot   where its value is after an operation with so many values on the stack before it
-- An operation takes values from the top of the stack. A slot stays where it is, if it is not among them and is not set; and some operations copy or
-- move values.
use Rattle.std.specs.Prelude.{ℕ, ◌-◌, ◌==◌, nat_lt, Bool, true, false, List, [], ◌∷◌, ◌++◌, if◌then◌else◌}
use Rattle.hs_code.specs.Stacks.{Scope}
use Rattle.hs_code.specs.declared.op.Access.TheVariants as access
use Rattle.hs_code.specs.declared.op.Op.{Op}
use Rattle.hs_code.specs.declared.op.Op.TheVariants as op
use Rattle.hs_facts.specs.Names.{same_variable, taken}
use Rattle.hs_flow.specs.declared.fact.Slot.{Slot}
use Rattle.hs_flow.specs.declared.fact.Slot.TheVariants as slot
use Rattle.hs_tree.specs.declared.head.Variable.{Variable}
use Rattle.hs_tree.specs.declared.head.Variable.TheVariants as name

-- ---- tests of slots

-- the slot is no place, or a place below that one
abbrev pub is_below : ℕ → Slot → Bool
is_below base (slot.Place place) = nat_lt place base
is_below base _ = true

-- the slot is that place
abbrev pub is_place : ℕ → Slot → Bool
is_place at (slot.Place place) = place == at
is_place at _ = false

-- the slot is that variable
abbrev pub is_variable : Variable → Slot → Bool
is_variable v (slot.Variable it) = same_variable it v
is_variable v _ = false

-- the slot is that class
abbrev pub is_class : ℕ → Slot → Bool
is_class class (slot.Class it) = it == class
is_class class _ = false

-- ---- lists of slots

-- one slot or none
abbrev pub slot_if : Bool → Slot → List Slot
slot_if true its = its ∷ []
slot_if false its = []

-- the slot, unless it is a place from that one on
abbrev pub below : ℕ → Slot → List Slot
below base its = slot_if (is_below base its) its

-- the slots to which the value of one place goes; other slots stay, if they are below the other place
abbrev pub placed_at : ℕ → List Slot → ℕ → Slot → List Slot
placed_at from to base its = if is_place from its then to else below base its

-- ---- by the operation

-- Get: the value of the variable is on top too
abbrev pub get_slots : Variable → ℕ → Slot → List Slot
get_slots v depth its = below depth its ++ slot_if (is_variable v its) (slot.Place depth)

-- Set: what the variable had ends, and the value of the top is the variable's too
abbrev pub set_slots : Variable → ℕ → Slot → List Slot
set_slots v depth its = if is_variable v its then [] else below depth its ++ slot_if (is_place (depth - 1) its) (slot.Variable v)

-- Load of a pointer: what the class has is on top, where the address was
abbrev pub load_slots : ℕ → ℕ → Slot → List Slot
load_slots class top its = below top its ++ slot_if (is_class class its) (slot.Place top)

-- Store of a pointer: the value is where the address was, and the class has it too
abbrev pub store_slots : ℕ → ℕ → Slot → List Slot
store_slots class depth its = placed_at (depth - 1) (slot.Place (depth - 2) ∷ slot.Class class ∷ []) (depth - 2) its

-- Store of another type: the value is where the address was
abbrev pub value_slots : ℕ → Slot → List Slot
value_slots depth its = placed_at (depth - 1) (slot.Place (depth - 2) ∷ []) (depth - 2) its

-- Dup: the top has a copy above it
abbrev pub dup_slots : ℕ → Slot → List Slot
dup_slots depth its = below depth its ++ slot_if (is_place (depth - 1) its) (slot.Place depth)

-- Tuck: the top has a copy below the value that was under it
abbrev pub tuck_slots : ℕ → Slot → List Slot
tuck_slots depth its =
    if is_place (depth - 2) its then slot.Place (depth - 1) ∷ []
    else placed_at (depth - 1) (slot.Place (depth - 2) ∷ slot.Place depth ∷ []) (depth - 2) its

-- Bring: the value of one place moves to the top, and each value above it one place down
abbrev pub brought_to : ℕ → ℕ → Slot → List Slot
brought_to from top (slot.Place place) =
    if place == from then slot.Place top ∷ [] else if nat_lt from place then slot.Place (place - 1) ∷ [] else slot.Place place ∷ []
brought_to from top other = other ∷ []

-- Return: the top is the result, and the other slots of the call end
abbrev pub returned : ℕ → Slot → List Slot
returned top slot.Nothing = slot.Nothing ∷ []
returned top slot.Answer = []
returned top (slot.Variable (name.Global place)) = slot.Variable (name.Global place) ∷ []
returned top (slot.Variable (name.Local place)) = []
returned top (slot.Place place) = slot_if (place == top) slot.Answer
returned top (slot.Class class) = slot.Class class ∷ []

-- Conv leaves the value where it is. Any other operation takes values from the top of the stack.
abbrev pub slots_after : Scope → Op → ℕ → Slot → List Slot
slots_after scope (op.Get v) depth its = get_slots v depth its
slots_after scope (op.Set v) depth its = set_slots v depth its
slots_after scope (op.Load (access.Pointer class)) depth its = load_slots class (depth - 1) its
slots_after scope (op.Store (access.Pointer class)) depth its = store_slots class depth its
slots_after scope (op.Store other) depth its = value_slots depth its
slots_after scope op.Dup depth its = dup_slots depth its
slots_after scope op.Tuck depth its = tuck_slots depth its
slots_after scope (op.Conv kind) depth its = below depth its
slots_after scope (op.Bring place) depth its = brought_to (depth - place) (depth - 1) its
slots_after scope op.Return depth its = returned (depth - 1) its
slots_after scope other depth its = below (depth - taken scope other) its
