-- What is read at a meeting tells the chains apart.
use Rattle.std.proofs.Common.{◌≡◌, ◌<◌, ◌≤◌, ℕ, zero, suc, ◌+◌, ◌-◌, List, Option, Some, None, slice_get, refl, sym, ◌∙◌, subst, arith, ap}
use Rattle.hs_search.proofs.Listing.{some_is}
use Rattle.hs_search.specs.Judging.{IsEndBelow, Told, first_entry, inner_ends, link_by, link_of, told_apart, told_inside}
use Rattle.hs_search.specs.Meeting.{AreLower, Follows, Hangs, Under, before, itself}
use Rattle.hs_search.specs.Orders.{IsBefore}
use Rattle.hs_search.specs.declared.graph.Node.{Node}
use Rattle.hs_search.specs.declared.judging.Link.{Link}
use Rattle.hs_search.specs.declared.judging.Link.TheVariants as link
use Rattle.hs_search.specs.declared.lists.Item.{Item}
use Rattle.hs_search.specs.declared.reach.Reach.{Reach}

-- ---- the rows that are read

-- what is read at the number of the row after the meeting is that row
pub read_row : (rows : List (Item Reach)) (z a p : ℕ) (it : Item Reach) → (hangs : Hangs rows z a p) → slice_get rows (a - 1) ≡ Some it → hangs.follows.it ≡ it
read_row rows z a p it hangs there =
    some_is (sym hangs.follows.there ∙ subst (λ k. slice_get rows k ≡ Some it) (let is = hangs.follows.number in let same : a - 1 ≡ hangs.follows.n =
    omega arith in same) there)

-- with the entries that are read
pub told_first : (entries : List (Item ℕ)) (rows : List (Item Reach)) (z a b p q : ℕ) (it its : Item Reach) (x y : Node) → Hangs rows z a p
    → Hangs rows z b q → slice_get rows (a - 1) ≡ Some it → slice_get rows (b - 1) ≡ Some its → x ≡ first_entry entries rows it.value
    → y ≡ first_entry entries rows its.value → IsBefore x y → Told entries rows p q
told_first entries rows z a b p q it its x y left right at_left at_right x_is y_is less =
    told_apart z a b p q left right
    (subst (λ n. IsBefore n (first_entry entries rows right.follows.it.value))
    (x_is ∙ ap (λ (o : Item Reach). first_entry entries rows o.value) (sym (read_row rows z a p it left at_left)))
    (subst (IsBefore x) (y_is ∙ ap (λ (o : Item Reach). first_entry entries rows o.value) (sym (read_row rows z b q its right at_right))) less))

-- and with the links
pub inner_read : (rows : List (Item Reach)) (z a b p q p' q' : ℕ) (it its : Item Reach) (l r : Link) (ends : Option (ℕ × ℕ)) → (left : Hangs rows z a p)
    → (right : Hangs rows z b q) → slice_get rows (a - 1) ≡ Some it → slice_get rows (b - 1) ≡ Some its → l ≡ link_of it.value
    → r ≡ link_of its.value → ends ≡ inner_ends l r p q → ends ≡ Some (p', q')
    → inner_ends (link_of left.follows.it.value) (link_of right.follows.it.value) p q ≡ Some (p', q')
inner_read rows z a b p q p' q' it its l r ends left right at_left at_right l_is r_is ends_are is =
    ap (λ k. inner_ends k (link_of right.follows.it.value) p q)
    (ap (λ (o : Item Reach). link_of o.value) (read_row rows z a p it left at_left) ∙ sym l_is)
    ∙ ap (λ k. inner_ends l k p q) (ap (λ (o : Item Reach). link_of o.value) (read_row rows z b q its right at_right) ∙ sym r_is) ∙ sym ends_are ∙ is

pub not_some : (ends : Option (ℕ × ℕ)) → ((x : ℕ × ℕ) → ends ≡ Some x → ⊥) → ends ≡ None
not_some None none = refl
not_some (Some x) none = absurd (none x refl)

-- ---- told in the other order

abbrev AreEnds : Option (ℕ × ℕ) → ℕ → ℕ → Type 0
AreEnds ends x y = ends ≡ Some (x, y)

abbrev turn : Option (ℕ × ℕ) → Option (ℕ × ℕ)
turn None = None
turn (Some pair) = Some (pair.1, pair.0)

turned : (a b x y : ℕ) → AreEnds (Some (a, b)) x y → AreEnds (Some (b, a)) y x
turned a b x y is = ap turn is

pub swapped : (l r : Link) (p q p' q' : ℕ) → inner_ends l r p q ≡ Some (p', q') → inner_ends r l q p ≡ Some (q', p')
swapped link.Step r p q p' q' is = absurd cc
swapped link.Entry link.Step p q p' q' is = absurd cc
swapped link.Entry link.Entry p q p' q' is = absurd cc
swapped link.Entry (link.Return e) p q p' q' is = turned p e p' q' is
swapped (link.Return e) link.Step p q p' q' is = absurd cc
swapped (link.Return e) link.Entry p q p' q' is = turned e q p' q' is
swapped (link.Return e) (link.Return f) p q p' q' is = turned e f p' q' is

pub told_less : (entries : List (Item ℕ)) (rows : List (Item Reach)) (z a b p q p' q' : ℕ) (left : Hangs rows z a p) (right : Hangs rows z b q)
    → inner_ends (link_of left.follows.it.value) (link_of right.follows.it.value) p q ≡ Some (p', q') → Told entries rows p' q' → Told entries rows p q
told_less entries rows z a b p q p' q' left right is told = told_inside z a b p q p' q' left right is told

pub told_greater : (entries : List (Item ℕ)) (rows : List (Item Reach)) (z a b p q p' q' : ℕ) (left : Hangs rows z a p) (right : Hangs rows z b q)
    → inner_ends (link_of left.follows.it.value) (link_of right.follows.it.value) p q ≡ Some (p', q') → Told entries rows q' p' → Told entries rows q p
told_greater entries rows z a b p q p' q' left right is told =
    told_inside z b a q p q' p' right left (swapped (link_of left.follows.it.value) (link_of right.follows.it.value) p q p' q' is) told

-- ---- the ends have lower numbers

pub under_least : (rows : List (Item Reach)) → AreLower rows → (z t : ℕ) → Under rows z t → z ≤ t
under_least rows lower _ _ (itself z) = omega arith
under_least rows lower _ _ (before z n it there under) =
    let below = under_least rows lower z it.value.origin.up under in
    let less = (lower n it there).0 in
    omega arith

abbrev Bounded : ℕ → ℕ → Option (ℕ × ℕ) → Type 0
Bounded p q None = ⊥
Bounded p q (Some pair) = (pair.0 + pair.1 < p + q) × (pair.0 ≤ p) × (pair.1 ≤ q)

of_pair : (p q x y p' q' : ℕ) → AreEnds (Some (x, y)) p' q' → (x + y < p + q) × (x ≤ p) × (y ≤ q) → (p' + q' < p + q) × (p' ≤ p) × (q' ≤ q)
of_pair p q x y p' q' is all = subst (Bounded p q) is all

ends_lower : (l r : Link) (n m p q p' q' : ℕ) → inner_ends l r p q ≡ Some (p', q') → IsEndBelow l n → IsEndBelow r m → suc n ≤ p → suc m ≤ q
    → (p' + q' < p + q) × (p' ≤ p) × (q' ≤ q)
ends_lower link.Step r n m p q p' q' is low low' less less' = absurd cc
ends_lower link.Entry link.Step n m p q p' q' is low low' less less' = absurd cc
ends_lower link.Entry link.Entry n m p q p' q' is low low' less less' = absurd cc
ends_lower link.Entry (link.Return e) n m p q p' q' is low low' less less' = of_pair p q p e p' q' is (omega arith, omega arith, omega arith)
ends_lower (link.Return e) link.Step n m p q p' q' is low low' less less' = absurd cc
ends_lower (link.Return e) link.Entry n m p q p' q' is low low' less less' = of_pair p q e q p' q' is (omega arith, omega arith, omega arith)
ends_lower (link.Return e) (link.Return f) n m p q p' q' is low low' less less' = of_pair p q e f p' q' is (omega arith, omega arith, omega arith)

end_below : (end level n : ℕ) → end ≤ n → IsEndBelow (link_by end level) n
end_below (suc end) level n low = low
end_below zero zero n low = tt
end_below zero (suc level) n low = tt

pub inner_lower : (rows : List (Item Reach)) → AreLower rows → (z a b p q p' q' : ℕ) (left : Hangs rows z a p) (right : Hangs rows z b q)
    → inner_ends (link_of left.follows.it.value) (link_of right.follows.it.value) p q ≡ Some (p', q') → (p' + q' < p + q) × (p' ≤ p) × (q' ≤ q)
inner_lower rows lower z a b p q p' q' left right is =
    ends_lower (link_of left.follows.it.value) (link_of right.follows.it.value) left.follows.n right.follows.n p q p' q' is (low z a left.follows)
    (low z b right.follows) (subst (λ n. n ≤ p) left.follows.number (under_least rows lower a p left.under))
    (subst (λ n. n ≤ q) right.follows.number (under_least rows lower b q right.under))
  where
    low : (z a : ℕ) → (follows : Follows rows z a) → IsEndBelow (link_of follows.it.value) follows.n
    low z a follows =
        end_below follows.it.value.origin.last follows.it.value.level follows.n (lower follows.n follows.it follows.there).1
