-- The rows that are read while two chains are compared: those of the search, and an offer after them.
use Rattle.std.proofs.Common.{◌≡◌, ◌<◌, ℕ, zero, suc, ◌-◌, List, [], ◌∷◌, ◌++◌, Option, Some, None, length, slice_get, refl, ap, sym, subst, arith}
use Rattle.hs_search.proofs.Listing.{get_end, get_left}
use Rattle.hs_search.specs.Meeting.{Follows}
use Rattle.hs_search.specs.Rivals.{IsReachAt, offer_item, with_offer}
use Rattle.hs_search.specs.declared.lists.Item.{Item}
use Rattle.hs_search.specs.declared.reach.Reach.{Reach}

pub offer_long : (rows : List (Item Reach)) (offer : Reach) → length (with_offer rows (Some offer)) ≡ suc (length rows)
offer_long [] offer = refl
offer_long (r ∷ rows) offer = ap (λ n. suc n) (offer_long rows offer)

-- a row
pub row_front : (rows : List (Item Reach)) (offer : Option Reach) (n : ℕ) (it : Item Reach) → slice_get rows n ≡ Some it
    → IsReachAt (with_offer rows offer) n it.value
row_front rows None n it there = (it, there, refl)
row_front rows (Some offer) n it there = (it, get_left rows (offer_item offer ∷ []) n it there, refl)

-- the offer
pub row_last : (rows : List (Item Reach)) (offer : Reach) (n : ℕ) → n ≡ length rows → IsReachAt (with_offer rows (Some offer)) n offer
row_last rows offer n is =
    (offer_item offer, subst (λ k. slice_get (rows ++ offer_item offer ∷ []) k ≡ Some (offer_item offer)) (sym is) (get_end rows (offer_item offer)), refl)

-- the row before it
pub follows_read : (all : List (Item Reach)) (number : ℕ) (row : Reach) → 0 < number → IsReachAt all (number - 1) row → Follows all row.origin.up number
follows_read all zero row some read = absurd (omega arith)
follows_read all (suc n) row some read =
    let same : suc n - 1 ≡ n = omega arith in
    record {
      n = n;
      number = refl;
      it = read.0;
      there = subst (λ k. slice_get all k ≡ Some read.0) same read.1;
      after = ap (λ (r : Reach). r.origin.up) read.2;
    }
