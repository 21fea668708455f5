-- The least length of bad pairs, one pair after another.
--     least_none, least_more        of the first pairs
--     none_used                     an operation that uses nothing has no bad pair
use Rattle.hs_chains.specs.Hazards.{Kind, is_used}
use Rattle.hs_code.specs.Stacks.{Scope}
use Rattle.hs_code.specs.declared.function_code.Placed.{Placed}
use Rattle.hs_code.specs.declared.op.Op.{Op}
use Rattle.hs_code.specs.declared.op.Op.TheVariants as op
use Rattle.hs_flow.specs.Among.{Among}
use Rattle.hs_flow.specs.declared.fact.Slot.{Slot}
use Rattle.hs_flow.specs.declared.fact.Slot.TheVariants as slot
use Rattle.hs_taint.specs.Hazarding.{IsBadPair, IsLeastBad, is_bad, is_bad_status, is_used_slot, uses}
use Rattle.hs_taint.specs.Listing.{lesser}
use Rattle.hs_taint.specs.declared.reached.Pair.{Pair}
use Rattle.std.proofs.Common.{◌≡◌, ◌<◌, ◌≤◌, ◌⊎◌, ◌∙◌, inl, inr, ℕ, zero, suc, min, nat_lt, Bool, true, false, ◌&&◌, List, [], ◌∷◌, slice_get, take, Option, Some, None, ap, refl, arith}
use Rattle.std.proofs.lemmas.Bool.Decides.{nat_tests}

-- ---- operations that use nothing

-- such an operation uses no place
unused : (scope : Scope) (its : Op) (depth : ℕ) (kind : Kind) (place : ℕ) → uses its ≡ false → is_used scope its depth kind place ≡ false
unused scope (op.Num bits) depth kind place idle = refl
unused scope op.Nil depth kind place idle = refl
unused scope (op.Address of) depth kind place idle = refl
unused scope (op.Get v) depth kind place idle = refl
unused scope (op.Set v) depth kind place idle = refl
unused scope (op.Load of) depth kind place idle = absurd cc
unused scope (op.Store of) depth kind place idle = absurd cc
unused scope op.Drop depth kind place idle = refl
unused scope op.Dup depth kind place idle = refl
unused scope op.Tuck depth kind place idle = refl
unused scope (op.Conv of) depth kind place idle = refl
unused scope (op.Unary of) depth kind place idle = refl
unused scope (op.Binary of by) depth kind place idle = refl
unused scope op.IsNil depth kind place idle = refl
unused scope (op.Compare of) depth kind place idle = absurd cc
unused scope (op.Difference size) depth kind place idle = absurd cc
unused scope (op.Offset bytes) depth kind place idle = refl
unused scope (op.Step stride first) depth kind place idle = refl
unused scope (op.Jump target) depth kind place idle = refl
unused scope (op.Zero target) depth kind place idle = refl
unused scope (op.Choose goal) depth kind place idle = refl
unused scope (op.Shift n) depth kind place idle = refl
unused scope (op.Routine n) depth kind place idle = absurd cc
unused scope (op.Call f) depth kind place idle = refl
unused scope op.Return depth kind place idle = refl
unused scope op.Turn depth kind place idle = refl
unused scope op.Mark depth kind place idle = refl
unused scope (op.Pick target) depth kind place idle = refl
unused scope (op.Bring n) depth kind place idle = refl

no_and : (b : Bool) → b && false ≡ false
no_and true = refl
no_and false = refl

module _ (scope : Scope) (its : Placed) (kind : Kind) where
  not_used : (of : Slot) → uses its.op ≡ false → is_used_slot scope its kind of ≡ false
  not_used slot.Nothing idle = refl
  not_used slot.Answer idle = refl
  not_used (slot.Variable v) idle = refl
  not_used (slot.Place place) idle = unused scope its.op its.places kind place idle
  not_used (slot.Class class) idle = refl

  -- so no pair is bad
  pub none_used : (pairs : List Pair) → uses its.op ≡ false → IsLeastBad scope its kind pairs None
  none_used pairs idle p among =
      ap (λ b. is_bad_status p.fact.status kind && b) (not_used p.fact.slot idle) ∙ no_and (is_bad_status p.fact.status kind)

  -- ---- one pair more

  -- the first so many are those before, and one more
  among_next : (pairs : List Pair) (k : ℕ) (p q : Pair) → slice_get pairs k ≡ Some p → Among (take (suc k) pairs) q → Among (take k pairs) q ⊎ (q ≡ p)
  among_next [] k p q there among = absurd cc
  among_next (x ∷ pairs) zero p q there (inl is) = inr (is ∙ some_pair there)
    where
      some_pair : {a b : Pair} → Some a ≡ Some b → a ≡ b
      some_pair same = cc
  among_next (x ∷ pairs) zero p q there (inr among) = absurd among
  among_next (x ∷ pairs) (suc k) p q there (inl is) = inl (inl is)
  among_next (x ∷ pairs) (suc k) p q there (inr among) = by (among_next pairs k p q there among)
    where
      by : Among (take k pairs) q ⊎ (q ≡ p) → Among (x ∷ take k pairs) q ⊎ (q ≡ p)
      by (inl among) = inl (inr among)
      by (inr is) = inr is

  among_before : (pairs : List Pair) (k : ℕ) (q : Pair) → Among (take k pairs) q → Among (take (suc k) pairs) q
  among_before pairs zero q among = absurd among
  among_before [] (suc k) q among = absurd among
  among_before (x ∷ pairs) (suc k) q (inl is) = inl is
  among_before (x ∷ pairs) (suc k) q (inr among) = inr (among_before pairs k q among)

  among_this : (pairs : List Pair) (k : ℕ) (p : Pair) → slice_get pairs k ≡ Some p → Among (take (suc k) pairs) p
  among_this [] k p there = absurd cc
  among_this (x ∷ pairs) zero p there = inl (some_pair there)
    where
      some_pair : {a b : Pair} → Some a ≡ Some b → b ≡ a
      some_pair same = cc
  among_this (x ∷ pairs) (suc k) p there = inr (among_this pairs k p there)

  -- of no pairs
  pub least_none : (pairs : List Pair) → IsLeastBad scope its kind (take 0 pairs) None
  least_none pairs p among = absurd among

  module _ (pairs : List Pair) (k : ℕ) (p : Pair) (there : slice_get pairs k ≡ Some p) where
    -- a pair that is not bad changes nothing
    pub least_same : (least : Option ℕ) → is_bad scope its kind p.fact ≡ false → IsLeastBad scope its kind (take k pairs) least
        → IsLeastBad scope its kind (take (suc k) pairs) least
    least_same None good none = λ q among. by q (among_next pairs k p q there among)
      where
        by : (q : Pair) → Among (take k pairs) q ⊎ (q ≡ p) → is_bad scope its kind q.fact ≡ false
        by q (inl among) = none q among
        by q (inr is) = ap (λ q. is_bad scope its kind q.fact) is ∙ good
    least_same (Some least) good some = (
      record { pair = some.0.pair; among = among_before pairs k some.0.pair some.0.among; bad = some.0.bad; long = some.0.long },
      λ q among bad. by q bad (among_next pairs k p q there among),
    )
      where
        by : (q : Pair) → is_bad scope its kind q.fact ≡ true → Among (take k pairs) q ⊎ (q ≡ p) → least ≤ q.length
        by q bad (inl among) = some.1 q among bad
        by q bad (inr is) = let same : is_bad scope its kind q.fact ≡ false = ap (λ q. is_bad scope its kind q.fact) is ∙ good in absurd cc

    -- a bad one may be shorter
    pub least_more : (least : Option ℕ) → is_bad scope its kind p.fact ≡ true → IsLeastBad scope its kind (take k pairs) least
        → IsLeastBad scope its kind (take (suc k) pairs) (Some (lesser p.length least))
    least_more None bad none = (
      record { pair = p; among = among_this pairs k p there; bad = bad; long = refl },
      λ q among is. by q is (among_next pairs k p q there among),
    )
      where
        by : (q : Pair) → is_bad scope its kind q.fact ≡ true → Among (take k pairs) q ⊎ (q ≡ p) → p.length ≤ q.length
        by q is (inl among) = let good = none q among in absurd cc
        by q is (inr same) = let long : q.length ≡ p.length = ap (λ q. q.length) same in omega (arith)
    least_more (Some least) bad some = (shortest (nat_lt p.length least) refl, λ q among is. by q is (among_next pairs k p q there among))
      where
        shortest : (b : Bool) → nat_lt p.length least ≡ b → IsBadPair scope its kind (take (suc k) pairs) (min p.length least)
        shortest true is =
            let less : p.length < least = grind (arith, nat_tests) in
            record { pair = p; among = among_this pairs k p there; bad = bad; long = omega (arith) }
        shortest false is =
            let less : least ≤ p.length = grind (arith, nat_tests) in
            let own = some.0.long in
            record { pair = some.0.pair; among = among_before pairs k some.0.pair some.0.among; bad = some.0.bad; long = omega (arith) }

        by : (q : Pair) → is_bad scope its kind q.fact ≡ true → Among (take k pairs) q ⊎ (q ≡ p) → min p.length least ≤ q.length
        by q is (inl among) = let less = some.1 q among is in omega (arith)
        by q is (inr same) = let long : q.length ≡ p.length = ap (λ q. q.length) same in omega (arith)
