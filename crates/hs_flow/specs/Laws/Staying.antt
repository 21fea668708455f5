-- Facts that stay, and facts of copies: where the value of a slot is, there is the fact.
use Rattle.std.proofs.Common.{◌≡◌, ◌≢◌, ◌<◌, ◌≤◌, ℕ, ◌-◌, ◌==◌, nat_lt, true, false, inl, refl, sym, subst, arith, if◌then◌else◌, List, [], ◌∷◌, ◌++◌}
use Rattle.std.proofs.lemmas.Bool.Decides.{nat_tests}
use Rattle.hs_code.specs.Stacks.{Scope}
use Rattle.hs_code.specs.declared.op.Access.TheVariants as access
use Rattle.hs_code.specs.declared.op.Op.{Op}
use Rattle.hs_code.specs.declared.op.Op.TheVariants as op
use Rattle.hs_facts.specs.Names.{taken}
use Rattle.hs_flow.specs.Among.{Among, among_left, among_right, among_slot}
use Rattle.hs_flow.specs.Slots.{is_below, is_place, is_variable, is_class, below, placed_at, slot_if, slots_after}
use Rattle.hs_flow.specs.declared.fact.Slot.{Slot}
use Rattle.hs_flow.specs.declared.fact.Slot.TheVariants as slot
use Rattle.hs_tree.specs.declared.head.Variable.{Variable}
use Rattle.hs_tree.specs.declared.head.Variable.TheVariants as name
use Rattle.hs_types.specs.declared.integer.Integer.{Integer}

-- ---- tests of slots

pub is_place_itself : (at : ℕ) → is_place at (slot.Place at) ≡ true
is_place_itself at = grind (arith, nat_tests)

pub is_variable_itself : (v : Variable) → is_variable v (slot.Variable v) ≡ true
is_variable_itself (name.Global g) = grind (arith, nat_tests)
is_variable_itself (name.Local l) = grind (arith, nat_tests)

pub is_class_itself : (class : ℕ) → is_class class (slot.Class class) ≡ true
is_class_itself class = grind (arith, nat_tests)

pub is_below_of : (base place : ℕ) → place < base → is_below base (slot.Place place) ≡ true
is_below_of base place h = grind (arith, nat_tests)

is_below_more : (less more : ℕ) (of : Slot) → less ≤ more → is_below less of ≡ true → is_below more of ≡ true
is_below_more less more (slot.Place place) h is = grind (arith, nat_tests)
is_below_more less more slot.Nothing h is = refl
is_below_more less more slot.Answer h is = refl
is_below_more less more (slot.Variable v) h is = refl
is_below_more less more (slot.Class class) h is = refl

-- what is below a place is not at it
not_place : (base at : ℕ) (of : Slot) → base ≤ at → is_below base of ≡ true → is_place at of ≡ false
not_place base at (slot.Place place) h is = grind (arith, nat_tests)
not_place base at slot.Nothing h is = refl
not_place base at slot.Answer h is = refl
not_place base at (slot.Variable v) h is = refl
not_place base at (slot.Class class) h is = refl

pub other_place : (a b : ℕ) → a ≢ b → is_place a (slot.Place b) ≡ false
other_place a b h = grind (arith, nat_tests)

-- ---- slots that stay

-- an operation that sets no variable, brings no value to the top, and is no routine, call or return
abbrev pub LeavesSlots : Op → Type 0
LeavesSlots (op.Set v) = ⊥
LeavesSlots (op.Bring place) = ⊥
LeavesSlots (op.Routine number) = ⊥
LeavesSlots (op.Call f) = ⊥
LeavesSlots op.Return = ⊥
LeavesSlots _ = Unit {0}

-- the value of a place goes elsewhere, and what is below it stays
placed_stays : (from : ℕ) (to : List Slot) (base : ℕ) (of : Slot) → base ≤ from → is_below base of ≡ true → Among (placed_at from to base of) of
placed_stays from to base of h is =
    subst (λ b. Among (if b then to else below base of) of) (sym (not_place base from of h is)) (among_slot (is_below base of) of is)

-- a slot is where it was, if the operation does not take it
pub slots_stay : (scope : Scope) (its : Op) (depth : ℕ) (of : Slot) → LeavesSlots its → is_below (depth - taken scope its) of ≡ true
    → Among (slots_after scope its depth of) of
slots_stay scope (op.Num bits) depth of leaves is = among_slot (is_below (depth - taken scope (op.Num bits)) of) of is
slots_stay scope op.Nil depth of leaves is = among_slot (is_below (depth - taken scope op.Nil) of) of is
slots_stay scope (op.Address object) depth of leaves is = among_slot (is_below (depth - taken scope (op.Address object)) of) of is
slots_stay scope op.Drop depth of leaves is = among_slot (is_below (depth - taken scope op.Drop) of) of is
slots_stay scope (op.Unary unary) depth of leaves is = among_slot (is_below (depth - taken scope (op.Unary unary)) of) of is
slots_stay scope (op.Binary binary kind) depth of leaves is = among_slot (is_below (depth - taken scope (op.Binary binary kind)) of) of is
slots_stay scope op.IsNil depth of leaves is = among_slot (is_below (depth - taken scope op.IsNil) of) of is
slots_stay scope (op.Compare comparison) depth of leaves is = among_slot (is_below (depth - taken scope (op.Compare comparison)) of) of is
slots_stay scope (op.Difference size) depth of leaves is = among_slot (is_below (depth - taken scope (op.Difference size)) of) of is
slots_stay scope (op.Offset bytes) depth of leaves is = among_slot (is_below (depth - taken scope (op.Offset bytes)) of) of is
slots_stay scope (op.Step stride pointer_first) depth of leaves is = among_slot (is_below (depth - taken scope (op.Step stride pointer_first)) of) of is
slots_stay scope (op.Jump target) depth of leaves is = among_slot (is_below (depth - taken scope (op.Jump target)) of) of is
slots_stay scope (op.Zero target) depth of leaves is = among_slot (is_below (depth - taken scope (op.Zero target)) of) of is
slots_stay scope (op.Choose goal) depth of leaves is = among_slot (is_below (depth - taken scope (op.Choose goal)) of) of is
slots_stay scope (op.Shift number) depth of leaves is = among_slot (is_below (depth - taken scope (op.Shift number)) of) of is
slots_stay scope op.Turn depth of leaves is = among_slot (is_below (depth - taken scope op.Turn) of) of is
slots_stay scope op.Mark depth of leaves is = among_slot (is_below (depth - taken scope op.Mark) of) of is
slots_stay scope (op.Pick target) depth of leaves is = among_slot (is_below (depth - taken scope (op.Pick target)) of) of is
slots_stay scope (op.Get v) depth of leaves is =
    among_left (below depth of) (slot_if (is_variable v of) (slot.Place depth)) of
    (among_slot (is_below depth of) of (is_below_more (depth - 0) depth of (omega (arith)) is))
slots_stay scope op.Dup depth of leaves is =
    among_left (below depth of) (slot_if (is_place (depth - 1) of) (slot.Place depth)) of
    (among_slot (is_below depth of) of (is_below_more (depth - 0) depth of (omega (arith)) is))
slots_stay scope (op.Load (access.Pointer class)) depth of leaves is =
    among_left (below (depth - 1) of) (slot_if (is_class class of) (slot.Place (depth - 1))) of (among_slot (is_below (depth - 1) of) of is)
slots_stay scope (op.Load (access.Number kind)) depth of leaves is = among_slot (is_below (depth - 1) of) of is
slots_stay scope (op.Load (access.Struct size)) depth of leaves is = among_slot (is_below (depth - 1) of) of is
slots_stay scope (op.Store (access.Pointer class)) depth of leaves is =
    placed_stays (depth - 1) (slot.Place (depth - 2) ∷ slot.Class class ∷ []) (depth - 2) of (omega (arith)) is
slots_stay scope (op.Store (access.Number kind)) depth of leaves is = placed_stays (depth - 1) (slot.Place (depth - 2) ∷ []) (depth - 2) of (omega (arith)) is
slots_stay scope (op.Store (access.Struct size)) depth of leaves is = placed_stays (depth - 1) (slot.Place (depth - 2) ∷ []) (depth - 2) of (omega (arith)) is
slots_stay scope op.Tuck depth of leaves is =
    subst (λ b. Among (if b then slot.Place (depth - 1) ∷ [] else placed_at (depth - 1) (slot.Place (depth - 2) ∷ slot.Place depth ∷ []) (depth - 2) of) of)
    (sym (not_place (depth - 2) (depth - 2) of (omega (arith)) is))
    (placed_stays (depth - 1) (slot.Place (depth - 2) ∷ slot.Place depth ∷ []) (depth - 2) of (omega (arith)) is)
slots_stay scope (op.Conv kind) depth of leaves is = among_slot (is_below depth of) of (is_below_more (depth - 1) depth of (omega (arith)) is)
slots_stay scope (op.Set v) depth of leaves is = absurd leaves
slots_stay scope (op.Bring place) depth of leaves is = absurd leaves
slots_stay scope (op.Routine number) depth of leaves is = absurd leaves
slots_stay scope (op.Call f) depth of leaves is = absurd leaves
slots_stay scope op.Return depth of leaves is = absurd leaves

-- ---- slots that values come to

-- Get: the value of the variable is on top too
pub get_copies : (scope : Scope) (v : Variable) (depth : ℕ) (of : Slot) → is_variable v of ≡ true
    → Among (slots_after scope (op.Get v) depth of) (slot.Place depth)
get_copies scope v depth of is =
    among_right (below depth of) (slot_if (is_variable v of) (slot.Place depth)) (slot.Place depth) (among_slot (is_variable v of) (slot.Place depth) is)

-- Set: other variables stay
pub set_stays : (scope : Scope) (v : Variable) (depth : ℕ) (of : Slot) → is_variable v of ≡ false → is_below depth of ≡ true
    → Among (slots_after scope (op.Set v) depth of) of
set_stays scope v depth of other is =
    subst (λ b. Among (if b then [] else below depth of ++ slot_if (is_place (depth - 1) of) (slot.Variable v)) of) (sym other)
    (among_left (below depth of) (slot_if (is_place (depth - 1) of) (slot.Variable v)) of (among_slot (is_below depth of) of is))

-- and the variable has the value of the top
pub set_copies : (scope : Scope) (v : Variable) (depth : ℕ) (of : Slot) → is_place (depth - 1) of ≡ true
    → Among (slots_after scope (op.Set v) depth of) (slot.Variable v)
set_copies scope v depth (slot.Place place) is =
    among_right (below depth (slot.Place place)) (slot_if (is_place (depth - 1) (slot.Place place)) (slot.Variable v)) (slot.Variable v)
    (among_slot (is_place (depth - 1) (slot.Place place)) (slot.Variable v) is)
set_copies scope v depth slot.Nothing is = cc
set_copies scope v depth slot.Answer is = cc
set_copies scope v depth (slot.Variable it) is = cc
set_copies scope v depth (slot.Class class) is = cc

-- Load of a pointer: what the class has is on top
pub load_copies : (scope : Scope) (class depth : ℕ) (of : Slot) → is_class class of ≡ true
    → Among (slots_after scope (op.Load (access.Pointer class)) depth of) (slot.Place (depth - 1))
load_copies scope class depth of is =
    among_right (below (depth - 1) of) (slot_if (is_class class of) (slot.Place (depth - 1))) (slot.Place (depth - 1))
    (among_slot (is_class class of) (slot.Place (depth - 1)) is)

-- the value of that place goes to each of these
placed_goes : (from : ℕ) (to : List Slot) (base : ℕ) (of one : Slot) → is_place from of ≡ true → Among to one → Among (placed_at from to base of) one
placed_goes from to base of one is has = subst (λ b. Among (if b then to else below base of) one) (sym is) has

-- Store of a pointer: the value is on top, and the class has it
pub store_copies : (scope : Scope) (class depth : ℕ) (of one : Slot) → is_place (depth - 1) of ≡ true
    → Among (slot.Place (depth - 2) ∷ slot.Class class ∷ []) one → Among (slots_after scope (op.Store (access.Pointer class)) depth of) one
store_copies scope class depth of one is has = placed_goes (depth - 1) (slot.Place (depth - 2) ∷ slot.Class class ∷ []) (depth - 2) of one is has

-- Store of another type: the value is on top
pub store_number : (scope : Scope) (kind : Integer) (depth : ℕ) (of : Slot) → is_place (depth - 1) of ≡ true
    → Among (slots_after scope (op.Store (access.Number kind)) depth of) (slot.Place (depth - 2))
store_number scope kind depth of is =
    placed_goes (depth - 1) (slot.Place (depth - 2) ∷ []) (depth - 2) of (slot.Place (depth - 2)) is (inl refl)

pub store_struct : (scope : Scope) (size depth : ℕ) (of : Slot) → is_place (depth - 1) of ≡ true
    → Among (slots_after scope (op.Store (access.Struct size)) depth of) (slot.Place (depth - 2))
store_struct scope size depth of is =
    placed_goes (depth - 1) (slot.Place (depth - 2) ∷ []) (depth - 2) of (slot.Place (depth - 2)) is (inl refl)

-- Conv: the top stays where it is
pub conv_stays : (scope : Scope) (kind : Integer) (depth : ℕ) (of : Slot) → is_below depth of ≡ true
    → Among (slots_after scope (op.Conv kind) depth of) of
conv_stays scope kind depth of is = among_slot (is_below depth of) of is

-- Dup: the top has a copy above it, and stays
pub dup_copies : (scope : Scope) (depth : ℕ) (of : Slot) → is_place (depth - 1) of ≡ true → Among (slots_after scope op.Dup depth of) (slot.Place depth)
dup_copies scope depth of is =
    among_right (below depth of) (slot_if (is_place (depth - 1) of) (slot.Place depth)) (slot.Place depth)
    (among_slot (is_place (depth - 1) of) (slot.Place depth) is)

-- Tuck: the top has a copy below the value that was under it
pub tuck_copies : (scope : Scope) (depth : ℕ) (of one : Slot) → is_place (depth - 2) of ≡ false → is_place (depth - 1) of ≡ true
    → Among (slot.Place (depth - 2) ∷ slot.Place depth ∷ []) one → Among (slots_after scope op.Tuck depth of) one
tuck_copies scope depth of one other is has =
    subst (λ b. Among (if b then slot.Place (depth - 1) ∷ [] else placed_at (depth - 1) (slot.Place (depth - 2) ∷ slot.Place depth ∷ []) (depth - 2) of) one)
    (sym other) (placed_goes (depth - 1) (slot.Place (depth - 2) ∷ slot.Place depth ∷ []) (depth - 2) of one is has)

-- and that value is one place up
pub tuck_moves : (scope : Scope) (depth : ℕ) (of : Slot) → is_place (depth - 2) of ≡ true
    → Among (slots_after scope op.Tuck depth of) (slot.Place (depth - 1))
tuck_moves scope depth of is =
    subst
    (λ b. Among (if b then slot.Place (depth - 1) ∷ [] else placed_at (depth - 1) (slot.Place (depth - 2) ∷ slot.Place depth ∷ []) (depth - 2) of)
    (slot.Place (depth - 1)))
    (sym is) (inl refl)

-- Bring: the value of the place is on top
pub bring_top : (scope : Scope) (place depth at : ℕ) → at ≡ depth - place
    → Among (slots_after scope (op.Bring place) depth (slot.Place at)) (slot.Place (depth - 1))
bring_top scope place depth at is =
    let here : (at == (depth - place)) ≡ true = grind (arith, nat_tests) in
    subst
    (λ c. Among (if c then slot.Place (depth - 1) ∷ [] else if nat_lt (depth - place) at then slot.Place (at - 1) ∷ [] else slot.Place at ∷ [])
    (slot.Place (depth - 1)))
    (sym here) (inl refl)

-- the values above it are one place down
pub bring_down : (scope : Scope) (place depth at : ℕ) → depth - place < at
    → Among (slots_after scope (op.Bring place) depth (slot.Place at)) (slot.Place (at - 1))
bring_down scope place depth at above =
    let here : (at == (depth - place)) ≡ false = grind (arith, nat_tests) in
    let further : nat_lt (depth - place) at ≡ true = grind (arith, nat_tests) in
    subst
    (λ c. Among (if c then slot.Place (depth - 1) ∷ [] else if nat_lt (depth - place) at then slot.Place (at - 1) ∷ [] else slot.Place at ∷ [])
    (slot.Place (at - 1)))
    (sym here) (subst (λ c. Among (if c then slot.Place (at - 1) ∷ [] else slot.Place at ∷ []) (slot.Place (at - 1))) (sym further) (inl refl))

-- what is below it stays, and so does what is no place
pub bring_stays : (scope : Scope) (place depth : ℕ) (of : Slot) → is_below (depth - place) of ≡ true
    → Among (slots_after scope (op.Bring place) depth of) of
bring_stays scope place depth (slot.Place at) is =
    let here : (at == (depth - place)) ≡ false = grind (arith, nat_tests) in
    let further : nat_lt (depth - place) at ≡ false = grind (arith, nat_tests) in
    subst
    (λ c. Among (if c then slot.Place (depth - 1) ∷ [] else if nat_lt (depth - place) at then slot.Place (at - 1) ∷ [] else slot.Place at ∷ [])
    (slot.Place at))
    (sym here) (subst (λ c. Among (if c then slot.Place (at - 1) ∷ [] else slot.Place at ∷ []) (slot.Place at)) (sym further) (inl refl))
bring_stays scope place depth slot.Nothing is = inl refl
bring_stays scope place depth slot.Answer is = inl refl
bring_stays scope place depth (slot.Variable v) is = inl refl
bring_stays scope place depth (slot.Class class) is = inl refl

-- Return: the top is the result
pub return_answers : (scope : Scope) (depth at : ℕ) → at ≡ depth - 1 → Among (slots_after scope op.Return depth (slot.Place at)) slot.Answer
return_answers scope depth at is = among_slot (at == (depth - 1)) slot.Answer (grind (arith, nat_tests))

-- a slot that the call shares with its caller
abbrev pub IsShared : Slot → Type 0
IsShared slot.Nothing = Unit {0}
IsShared slot.Answer = ⊥
IsShared (slot.Variable (name.Global g)) = Unit {0}
IsShared (slot.Variable (name.Local l)) = ⊥
IsShared (slot.Place place) = ⊥
IsShared (slot.Class class) = Unit {0}

-- such a slot stays
pub return_stays : (scope : Scope) (depth : ℕ) (of : Slot) → IsShared of → Among (slots_after scope op.Return depth of) of
return_stays scope depth slot.Nothing shared = inl refl
return_stays scope depth slot.Answer shared = absurd shared
return_stays scope depth (slot.Variable (name.Global g)) shared = inl refl
return_stays scope depth (slot.Variable (name.Local l)) shared = absurd shared
return_stays scope depth (slot.Place place) shared = absurd shared
return_stays scope depth (slot.Class class) shared = inl refl
