-- What a restore puts into a buffer, slot by slot.
--     purgeable-append               of two lists of slots
--     places_on, classes_on          one slot more is put
--     all_put                        four lists of slots are put
use Rattle.std.proofs.Common.{◌≡◌, ℕ, suc, ◌+◌, Bool, true, false, List, [], ◌∷◌, ◌++◌, if◌then◌else◌, ap, sym, ◌∙◌, arith, refl, subst}
use Rattle.std.proofs.lemmas.List.{append_assoc}
use Rattle.hs_flow.specs.Given.{Given, apart}
use Rattle.hs_flow.specs.Restorable.{places_below, classes_below, purgeable_at, purgeable_of}
use Rattle.hs_flow.specs.declared.fact.Fact.{Fact}
use Rattle.hs_flow.specs.declared.fact.FactStatus.TheVariants as status
use Rattle.hs_flow.specs.declared.fact.Slot.{Slot}
use Rattle.hs_flow.specs.declared.fact.Slot.TheVariants as slot

module _ (given : Given) (argument : Slot) where
  -- slot by slot
  pub purgeable-append : (xs ys : List Slot) → purgeable_of given argument (xs ++ ys) ≡ purgeable_of given argument xs ++ purgeable_of given argument ys
  purgeable-append [] ys = refl
  purgeable-append (it ∷ xs) ys =
      ap (λ rest. purgeable_at given argument it ++ rest) (purgeable-append xs ys)
      ∙ sym (append_assoc (purgeable_at given argument it) (purgeable_of given argument xs) (purgeable_of given argument ys))

  -- one more at the end
  end_on : (now new old : List Fact) (so_far : List Slot) (one : Slot) → new ≡ now ++ purgeable_at given argument one
      → now ≡ old ++ purgeable_of given argument so_far → new ≡ old ++ purgeable_of given argument (so_far ++ one ∷ [])
  end_on now new old so_far one put before =
      put ∙ ap (λ facts. facts ++ purgeable_at given argument one) before
      ∙ append_assoc old (purgeable_of given argument so_far) (purgeable_at given argument one)
      ∙ ap (λ facts. old ++ facts)
      (ap (λ facts. purgeable_of given argument so_far ++ facts) (sym (alone (apart given one argument)))
      ∙ sym (purgeable-append so_far (one ∷ [])))
    where
      purgeable_if : Bool → List Fact
      purgeable_if b = if b then [] else record { slot = one; status = status.Purgeable } ∷ []

      alone : (b : Bool) → purgeable_if b ++ [] ≡ purgeable_if b
      alone true = refl
      alone false = refl

  -- a place more
  pub places_on : (place : ℕ) (now new old : List Fact) → new ≡ now ++ purgeable_at given argument (slot.Place place)
      → now ≡ old ++ purgeable_of given argument (places_below place) → new ≡ old ++ purgeable_of given argument (places_below (place + 1))
  places_on place now new old put before =
      let number : suc place ≡ place + 1 = omega (arith) in
      subst (λ n. new ≡ old ++ purgeable_of given argument (places_below n)) number
      (end_on now new old (places_below place) (slot.Place place) put before)

  -- a class more
  pub classes_on : (class : ℕ) (now new old : List Fact) → new ≡ now ++ purgeable_at given argument (slot.Class class)
      → now ≡ old ++ purgeable_of given argument (classes_below class) → new ≡ old ++ purgeable_of given argument (classes_below (class + 1))
  classes_on class now new old put before =
      let number : suc class ≡ class + 1 = omega (arith) in
      subst (λ n. new ≡ old ++ purgeable_of given argument (classes_below n)) number
      (end_on now new old (classes_below class) (slot.Class class) put before)

  -- four parts, one after the other
  pub all_put : (old a b c d : List Fact) (globals locals places classes : List Slot) → a ≡ old ++ purgeable_of given argument globals
      → b ≡ a ++ purgeable_of given argument locals → c ≡ b ++ purgeable_of given argument places → d ≡ c ++ purgeable_of given argument classes
      → d ≡ old ++ purgeable_of given argument (globals ++ (locals ++ (places ++ classes)))
  all_put old a b c d globals locals places classes first second third fourth =
      fourth ∙ joined c places classes b third ∙ joined b locals (places ++ classes) a second ∙ joined a globals (locals ++ (places ++ classes)) old first
    where
      joined : (now : List Fact) (part rest : List Slot) (before : List Fact) → now ≡ before ++ purgeable_of given argument part
          → now ++ purgeable_of given argument rest ≡ before ++ purgeable_of given argument (part ++ rest)
      joined now part rest before put =
          ap (λ facts. facts ++ purgeable_of given argument rest) put
          ∙ append_assoc before (purgeable_of given argument part) (purgeable_of given argument rest)
          ∙ ap (λ facts. before ++ facts) (sym (purgeable-append part rest))
