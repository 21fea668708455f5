-- The count of stale uses is that of the rule.
use Rattle.std.proofs.Common.{◌≡◌, ℕ, ◌+◌, Bool, true, false, List, [], ◌∷◌, refl, inl, inr, arith, true≢false, zero-add, sym, subst, ◌∙◌, if◌then◌else◌}
use Rattle.std.proofs.lemmas.List.Sums.{sum_by-cons}
use Rattle.hs_meaning.specs.Straight.StaleUses.{Use, IsStaleUse, IsCountOf}
use Rattle.hs_meaning.specs.Straight.Along.{is_stale_after}
use Rattle.hs_meaning.specs.Straight.AlongLaws.{IsStaleUse-from_along, along-from_IsStaleUse}
use Rattle.hs_checker.specs.Straight.Count.{stale_uses}

-- by induction on the uses
pub IsCountOf-stale_uses : (uses : List Use) → IsCountOf IsStaleUse uses (stale_uses uses)
IsCountOf-stale_uses [] = refl
IsCountOf-stale_uses (use_of ∷ uses) = go (IsCountOf-stale_uses uses) (is_stale_after use_of.pointer use_of.done) refl
  where
    counted : stale_uses (use_of ∷ uses) ≡ (if is_stale_after use_of.pointer use_of.done then 1 else 0) + stale_uses uses
    counted = sum_by-cons (λ (u : Use). if is_stale_after u.pointer u.done then 1 else 0) use_of uses

    go : IsCountOf IsStaleUse uses (stale_uses uses) → (stale : Bool) → is_stale_after use_of.pointer use_of.done ≡ stale
        → IsCountOf IsStaleUse (use_of ∷ uses) (stale_uses (use_of ∷ uses))
    go rest true is_stale = inl (stale_uses uses, IsStaleUse-from_along use_of.pointer use_of.done is_stale, rest, counted ∙ rw is_stale (omega arith))
    go rest false is_stale =
        inr (
          λ stale. true≢false (sym (along-from_IsStaleUse use_of.pointer use_of.done stale) ∙ is_stale),
          subst (λ (n : ℕ). IsCountOf IsStaleUse uses n) (sym (counted ∙ rw is_stale (zero-add (stale_uses uses)))) rest,
        )
