-- A walk back by links from two rows, to the row at which their chains part.
use Rattle.std.proofs.Common.{◌≡◌, ◌<◌, ℕ, suc, List, Option, Some, None, slice_get, sym, ◌∙◌, subst, arith}
use Rattle.hs_search.specs.Meeting.{AreLower, AreTwo, Follows, Hangs, IsPast, Side, Under, before, itself}
use Rattle.hs_search.specs.declared.lists.Item.{Item}
use Rattle.hs_search.specs.declared.reach.Reach.{Reach}

-- the row before a row on the way is on the way
under_up : (rows : List (Item Reach)) (n t : ℕ) (it : Item Reach) → slice_get rows n ≡ Some it → Under rows (suc n) t → Under rows it.value.origin.up t
under_up rows n _ it there (itself _) = before it.value.origin.up n it there (itself it.value.origin.up)
under_up rows n _ it there (before _ m other its under) =
    before it.value.origin.up m other its (under_up rows n other.value.origin.up it there under)

pub under_follows : (rows : List (Item Reach)) (z a t : ℕ) → Follows rows z a → Under rows a t → Under rows z t
under_follows rows z a t follows under =
    subst (λ x. Under rows x t) follows.after
    (under_up rows follows.n t follows.it follows.there (subst (λ x. Under rows x t) follows.number under))

under_side : (rows : List (Item Reach)) (p x : ℕ) (after : Option ℕ) → Side rows p x after → Under rows x p
under_side rows p x None is = subst (Under rows x) is (itself x)
under_side rows p x (Some a) hangs = under_follows rows x a p hangs.follows hangs.under

-- one step back
pub side_back : (rows : List (Item Reach)) (p x z : ℕ) (after : Option ℕ) → Follows rows z x → Side rows p x after → Hangs rows z x p
side_back rows p x z after follows side = record { follows = follows; under = under_side rows p x after side }

-- to a lower number
pub follows_less : (rows : List (Item Reach)) → AreLower rows → (z a : ℕ) → Follows rows z a → z < a
follows_less rows lower z a follows =
    let low = (lower follows.n follows.it follows.there).0 in
    let after = follows.after in
    let number = follows.number in
    omega arith

-- ---- the rows after the meeting are two

pub past_less : (x y : ℕ) (after : Option ℕ) → x < y → IsPast y after → IsPast x after
past_less x y None less past = past
past_less x y (Some a) less past = omega arith

pub two_left : (x : ℕ) (right : Option ℕ) → IsPast x right → AreTwo (Some x) right
two_left x None past = tt
two_left x (Some b) past = λ is. omega arith

pub two_right : (y : ℕ) (left : Option ℕ) → IsPast y left → AreTwo left (Some y)
two_right y None past = tt
two_right y (Some a) past = λ is. omega arith

-- with none on the one side, that row is on the way to the other
pub none_above : (rows : List (Item Reach)) (p q x y : ℕ) (left right : Option ℕ) → left ≡ None → x ≡ y → Side rows p x left → Side rows q y right
    → Under rows p q
none_above rows p q x y left right none meets side other =
    let is : x ≡ p = subst (Side rows p x) none side in
    subst (λ z. Under rows z q) (sym meets ∙ is) (under_side rows q y right other)
