-- Rows are found by a walk, and offers are taken.
use Rattle.std.proofs.Common.{◌≡◌, ◌<◌, ℕ, suc, List, [], ◌∷◌, ◌++◌, inl, inr, ◌⊎◌, refl, sym, Some, subst, arith, length, slice_get, take, ◌-◌, ◌+◌, zero, Ok, Err, slice_index_or}
use Rattle.std.proofs.lemmas.List.{take_more}
use Rattle.hs_search.proofs.Listing.{walk_back, walk_own}
use Rattle.hs_search.specs.Laws.Membership.{Has-left, Has-either, Has-last}
use Rattle.hs_search.specs.Graphs.{Has}
use Rattle.hs_search.specs.Listing.{IsIndex, IsWalk, Seen}
use Rattle.hs_search.specs.Storing.{HasRow, IsListed, IsOther, IsTakenList, Takes, TakesEach, TakesListed, Taking, none_taken, one_known, one_replaced, one_added}
use Rattle.hs_search.specs.declared.lists.Item.{Item}
use Rattle.hs_search.specs.declared.reach.Reach.{Reach}
use Rattle.hs_search.specs.declared.reach.SearchEnd.{SearchEnd}
use Rattle.hs_search.specs.declared.reach.SearchEnd.TheVariants.{Limit, NoMemory}

-- once all are seen
pub none_has : (items : List (Item Reach)) (reach : Reach) → Seen items reach.at 0 (IsOther reach) → ¬ HasRow items reach
none_has items reach seen has = seen has.0 has.1.it (omega arith) has.1.there has.1.at has.1.fact has.1.call

-- the items of the key from that place on are taken
pub record IsTakenFrom (room most : ℕ) (items : List (Item Reach)) (key at : ℕ) (old new : List (Item Reach)) : Type 0 where
  pub taken : List Reach
  pub taking : Taking room most taken old new
  pub each : (reach : Reach) → Has taken reach → IsListed items key reach
  pub seen : Seen items key at (λ n it. Has taken it.value)

-- ---- several offers

-- nothing is taken at first
unfoldable pub taken_first : (room most : ℕ) (items : List (Item Reach)) (key at : ℕ) (old : List (Item Reach))
    → Seen items key at (λ n it. Has [] it.value) → IsTakenFrom room most items key at old old
taken_first room most items key at old seen = record { taken = []; taking = none_taken old; each = λ reach has. absurd has; seen = seen }

-- one more
pub taking_more : (room most : ℕ) (offers : List Reach) (reach : Reach) (old mid new : List (Item Reach)) (done : Unit {0}) → Taking room most offers old mid
    → Takes room most reach mid new (Ok done) → Taking room most (offers ++ reach ∷ []) old new
taking_more room most offers reach old mid new done taking (inl same) =
    subst (Taking room most (offers ++ reach ∷ []) old) (sym same.0) (one_known offers reach old mid taking same.1)
taking_more room most offers reach old mid new done taking (inr (inl replaced)) = one_replaced offers reach old mid new taking replaced
taking_more room most offers reach old mid new done taking (inr (inr added)) = one_added offers reach old mid new taking added

pub taking_next : (room most : ℕ) (offers : List Reach) (n : ℕ) (d : Reach) (old mid new : List (Item Reach)) (done : Unit {0}) → n < length offers
    → Taking room most (take n offers) old mid → Takes room most (slice_index_or offers n d) mid new (Ok done) → Taking room most (take (n + 1) offers) old new
taking_next room most offers n d old mid new done within taking takes =
    subst (λ os. Taking room most os old new) (sym (take_more offers n d within))
    (taking_more room most (take n offers) (slice_index_or offers n d) old mid new done taking takes)

-- each of them is in the list
pub take_Has : {A : Type 0} (xs : List A) (n : ℕ) (x : A) → Has (take n xs) x → Has xs x
take_Has xs zero x has = absurd has
take_Has [] (suc n) x has = absurd has
take_Has (y ∷ xs) (suc n) x (inl is) = inl is
take_Has (y ∷ xs) (suc n) x (inr has) = inr (take_Has xs n x has)

-- there was no room for the next one
pub each_full : (room most : ℕ) (offers taken : List Reach) (one : Reach) (old mid new : List (Item Reach)) (end : SearchEnd) → Taking room most taken old mid
    → ((reach : Reach) → Has taken reach → Has offers reach) → Has offers one → Takes room most one mid new (Err end)
    → TakesEach room most offers old new (Err end)
each_full room most offers taken one old mid new Limit taking each offered full =
    record { taken = taken; mid = mid; taking = taking; each = each; one = one; offered = offered; outside = full.0; full = full.1 }
each_full room most offers taken one old mid new NoMemory taking each offered full = tt

pub listed_full : (room most : ℕ) (items : List (Item Reach)) (key : ℕ) (taken : List Reach) (one : Reach) (old mid new : List (Item Reach)) (end : SearchEnd)
    → Taking room most taken old mid → ((reach : Reach) → Has taken reach → IsListed items key reach) → IsListed items key one
    → Takes room most one mid new (Err end) → TakesListed room most items key old new (Err end)
listed_full room most items key taken one old mid new Limit taking each offered full =
    record { taken = taken; mid = mid; taking = taking; each = each; one = one; offered = offered; outside = full.0; full = full.1 }
listed_full room most items key taken one old mid new NoMemory taking each offered full = tt

-- it is listed
pub listed_at : (items : List (Item Reach)) (key n : ℕ) (it : Item Reach) → slice_get items n ≡ Some it → it.key ≡ key → IsListed items key it.value
listed_at items key n it there own = record { n = n; it = it; there = there; own = own; value = refl }

-- the walk, with one offer more
unfoldable pub from_more : (room most : ℕ) (heads : List ℕ) (items : List (Item Reach)) (key at : ℕ) (it : Item Reach) (old mid new : List (Item Reach)) (done : Unit {0})
    → IsIndex heads items → IsWalk items key at → IsTakenFrom room most items key at old mid → 0 < at → slice_get items (at - 1) ≡ Some it
    → Takes room most it.value mid new (Ok done)
    → IsTakenFrom room most items key it.link old new × IsWalk items key it.link × (it.link < at)
from_more room most heads items key at it old mid new done right walk from some there takes =
    let own = walk_own items key at it walk some there in
    let wider : Seen items key at (λ n its. Has (from.taken ++ it.value ∷ []) its.value) =
    (λ n its low at_its same. Has-left from.taken (it.value ∷ []) its.value (from.seen n its low at_its same)) in
    let all = walk_back heads items key at it (λ n its. Has (from.taken ++ it.value ∷ []) its.value) right walk wider some there
    (Has-last from.taken it.value) in (
      record {
        taken = from.taken ++ it.value ∷ [];
        taking = taking_more room most from.taken it.value old mid new done from.taking takes;
        each = λ reach has. each reach (Has-either from.taken (it.value ∷ []) reach has) own;
        seen = all.1;
      },
      all.0,
      all.2,
    )
  where
    each : (reach : Reach) → Has from.taken reach ⊎ Has (it.value ∷ []) reach → it.key ≡ key → IsListed items key reach
    each reach (inl has) own = from.each reach has
    each reach (inr (inl is)) own = record { n = at - 1; it = it; there = there; own = own; value = is }
    each reach (inr (inr no_more)) own = absurd no_more

-- all are taken
unfoldable pub taken_all : (room most : ℕ) (items : List (Item Reach)) (key : ℕ) (old new : List (Item Reach)) → IsTakenFrom room most items key 0 old new
    → IsTakenList room most items key old new
taken_all room most items key old new from = record {
  taken = from.taken;
  taking = from.taking;
  each = from.each;
  all = λ reach listed. subst (Has from.taken) listed.value (from.seen listed.n listed.it (omega arith) listed.there listed.own);
}
