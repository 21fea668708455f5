-- What a list has.
--     Among its one                  the one is in the list
--     among_left, among_right        in one of two lists that are joined
--     among_each                     a fact of a slot, in the facts of slots
use Rattle.std.proofs.Common.{◌≡◌, ◌⊎◌, inl, inr, refl, ap, Bool, true, false, List, [], ◌∷◌, ◌++◌, subst, sym}
use Rattle.hs_flow.specs.Next.{at_slot, at_each, also_if}
use Rattle.hs_flow.specs.Slots.{slot_if}
use Rattle.hs_flow.specs.declared.fact.FactStatus.{FactStatus}
use Rattle.hs_flow.specs.declared.fact.Slot.{Slot}

-- the one is in the list
abbrev pub Among : {A : Type 0} → List A → A → Type 0
Among [] one = ⊥
Among (it ∷ rest) one = (one ≡ it) ⊎ Among rest one

pub among_left : {A : Type 0} (xs ys : List A) (one : A) → Among xs one → Among (xs ++ ys) one
among_left [] ys one is = absurd is
among_left (it ∷ rest) ys one (inl is) = inl is
among_left (it ∷ rest) ys one (inr is) = inr (among_left rest ys one is)

pub among_right : {A : Type 0} (xs ys : List A) (one : A) → Among ys one → Among (xs ++ ys) one
among_right [] ys one is = is
among_right (it ∷ rest) ys one is = inr (among_right rest ys one is)

pub among_each : (its : FactStatus) (slots : List Slot) (of : Slot) → Among slots of → Among (at_each its slots) (at_slot its of)
among_each its [] of is = absurd is
among_each its (slot ∷ rest) of (inl is) = inl (ap (at_slot its) is)
among_each its (slot ∷ rest) of (inr is) = inr (among_each its rest of is)

-- the one slot that is there if so
pub among_slot : (b : Bool) (of : Slot) → b ≡ true → Among (slot_if b of) of
among_slot true of so = inl refl
among_slot false of so = subst (λ b. Among (slot_if b of) of) (sym so) (inl refl)

-- the one fact that is there if so
pub among_also : (b : Bool) (its : FactStatus) (of : Slot) → b ≡ true → Among (also_if b its of) (at_slot its of)
among_also true its of so = inl refl
among_also false its of so = subst (λ b. Among (also_if b its of) (at_slot its of)) (sym so) (inl refl)
