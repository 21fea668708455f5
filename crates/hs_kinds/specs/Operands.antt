-- An operation finds its operands on the stack, and what it names is there.
--     HasThem wanted stack          values of those kinds are on top
--     IsObjectBinding, IsSlotBinding  what a name is bound to
use Rattle.std.proofs.Common.{◌≡◌, Bool, true, false, not, List, [], ◌∷◌, length, Option, Some, None, refl}
use Rattle.hs_code.specs.Codes.{is_object, is_slot_in}
use Rattle.hs_code.specs.Stacks.{Kind, same_kind, if_same, without}
use mathlib.Core.List.{reverse_aux}
use Rattle.hs_code_run.specs.Steps.{holds, taken}
use Rattle.hs_kinds.specs.Stacks.{taken_below}
use Rattle.hs_kinds.specs.Kinds.{AreOfKinds, FitsThere}
use Rattle.hs_meaning.specs.Machine.{Binding, slot, object_at}
use Rattle.hs_meaning.specs.Values.{Value}
use Rattle.hs_tree.specs.Classes.{is_slot}
use Rattle.hs_tree.specs.declared.head.VariableDecl.{VariableDecl}
use Rattle.hs_types.specs.TypeTables.{TypeTable}

-- ---- the operands are there

-- as many values as are taken
pub holds_them : (wanted kinds after : List Kind) (stack : List Value) → without wanted kinds ≡ Some after → AreOfKinds kinds stack
    → holds (length wanted) stack ≡ true
holds_them [] kinds after stack is are = refl
holds_them (one ∷ wanted) [] after stack is are = absurd cc
holds_them (one ∷ wanted) (top ∷ kinds) after [] is are = absurd are
holds_them (one ∷ wanted) (top ∷ kinds) after (value ∷ stack) is are =
    by (same_kind one top) (λ left. holds_them wanted kinds after stack left are.1) is
  where
    by : (b : Bool) → (without wanted kinds ≡ Some after → holds (length wanted) stack ≡ true) → if_same b (without wanted kinds) ≡ Some after
        → holds (length wanted) stack ≡ true
    by true rest left = rest left
    by false rest left = absurd cc

-- ---- what is named is there

-- it is an object
abbrev pub IsObjectBinding : Option Binding → Type 0
IsObjectBinding None = ⊥
IsObjectBinding (Some (slot value)) = ⊥
IsObjectBinding (Some (object_at place)) = Unit {0}

-- it is a slot
abbrev pub IsSlotBinding : Option Binding → Type 0
IsSlotBinding None = ⊥
IsSlotBinding (Some (slot value)) = Unit {0}
IsSlotBinding (Some (object_at place)) = ⊥

-- the address of a variable is that of an object
pub object_there : (types : TypeTable) (variable : Option VariableDecl) (its : Option Binding) → is_object types variable ≡ true
    → FitsThere types variable its → IsObjectBinding its
object_there types None its is fits = absurd cc
object_there types (Some variable) None is fits = absurd fits
object_there types (Some variable) (Some (slot None)) is fits = by (is_slot types variable) fits is
  where
    by : (b : Bool) → b ≡ true → not b ≡ true → ⊥
    by true so other = absurd cc
    by false so other = absurd cc
object_there types (Some variable) (Some (slot (Some value))) is fits = by (is_slot types variable) fits.0 is
  where
    by : (b : Bool) → b ≡ true → not b ≡ true → ⊥
    by true so other = absurd cc
    by false so other = absurd cc
object_there types (Some variable) (Some (object_at place)) is fits = tt

-- a variable that is a slot has one
pub slot_there : (types : TypeTable) (variable : Option VariableDecl) (its : Option Binding) → is_slot_in types variable ≡ true
    → FitsThere types variable its → IsSlotBinding its
slot_there types None its is fits = absurd cc
slot_there types (Some variable) None is fits = absurd fits
slot_there types (Some variable) (Some (slot value)) is fits = tt
slot_there types (Some variable) (Some (object_at place)) is fits = by (is_slot types variable) is fits
  where
    by : (b : Bool) → b ≡ true → b ≡ false → ⊥
    by true so other = absurd cc
    by false so other = absurd cc

-- ---- the operands of an operation of the code

-- they are on the stack, and of their kinds
pub record HasThem (wanted : List Kind) (stack : List Value) : Type 0 where
  pub holds : holds (length wanted) stack ≡ true
  pub are : AreOfKinds (reverse_aux wanted []) (taken (length wanted) stack)

-- the kinds on the stack are those of its values
pub has_them : (wanted kinds after : List Kind) (stack : List Value) → without wanted kinds ≡ Some after → AreOfKinds kinds stack → HasThem wanted stack
has_them wanted kinds after stack is are =
    record { holds = holds_them wanted kinds after stack is are; are = (taken_below wanted kinds after stack [] [] is are tt).0 }
