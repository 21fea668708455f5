-- A judgement that begins clear stays clear from call to call, so it tells the chains apart.
use Rattle.std.proofs.Common.{◌≡◌, ◌≢◌, ◌<◌, ◌≤◌, ◌⊎◌, inl, inr, ℕ, suc, ◌-◌, List, Option, Some, None, slice_get, refl, sym, ◌∙◌, subst, arith, ap}
use Rattle.hs_search.proofs.Listing.{some_is}
use Rattle.hs_search.proofs.Telling.{read_row, under_least}
use Rattle.hs_search.specs.Deciding.{AreParted, Clear, Held, IsDeadEnd, IsTree, Keeps}
use Rattle.hs_search.specs.Judging.{first_entry, inner_ends, link_of}
use Rattle.hs_search.specs.Meeting.{AreLower, Hangs, Under, before, itself}
use Rattle.hs_search.specs.Orders.{IsAlike}
use Rattle.hs_search.specs.declared.graph.Node.{Node}
use Rattle.hs_search.specs.declared.judging.Link.{Link}
use Rattle.hs_search.specs.declared.judging.Link.TheVariants as link
use Rattle.hs_search.specs.declared.lists.Item.{Item}
use Rattle.hs_search.specs.declared.reach.Reach.{Reach}

-- ---- rows above one another

under_trans : (rows : List (Item Reach)) (a b c : ℕ) → Under rows a b → Under rows b c → Under rows a c
under_trans rows a _ _ first (itself _) = first
under_trans rows a b _ first (before _ n it there under) = before a n it there (under_trans rows a b it.value.origin.up first under)

pub under_size : (rows : List (Item Reach)) (base size : ℕ → ℕ) → IsTree rows base size → (a b : ℕ) → Under rows a b → size a ≤ size b
under_size rows base size tree _ _ (itself z) = omega arith
under_size rows base size tree _ _ (before z n it there under) =
    let rest = under_size rows base size tree z it.value.origin.up under in
    let less = tree.grows n it there in
    omega arith

-- nothing is below a dead end but itself
under_end : (rows : List (Item Reach)) (e t : ℕ) → IsDeadEnd rows e → Under rows e t → e ≡ t
under_end rows _ _ dead (itself z) = refl
under_end rows _ _ dead (before z n it there under) = absurd (dead n it there (sym (under_end rows z it.value.origin.up dead under)))

-- of two rows above one, one is above the other
comparable : (rows : List (Item Reach)) (a b t : ℕ) → Under rows a t → Under rows b t → Under rows a b ⊎ Under rows b a
comparable rows _ b _ (itself z) below = inr below
comparable rows a _ _ (before _ n it there under) (itself _) = inl (before a n it there under)
comparable rows a b _ (before _ n it there under) (before _ _ its again below) =
    comparable rows a b it.value.origin.up under (subst (λ (o : Item Reach). Under rows b o.value.origin.up) (some_is (sym again ∙ there)) below)

up_under : (rows : List (Item Reach)) → AreLower rows → (c m : ℕ) (it : Item Reach) → slice_get rows m ≡ Some it → c ≢ suc m → Under rows c (suc m)
    → c ≤ it.value.origin.up
up_under rows lower _ m it there other (itself _) = absurd (other refl)
up_under rows lower c _ it there other (before _ m its again under) =
    subst (λ (o : Item Reach). c ≤ o.value.origin.up) (some_is (sym again ∙ there)) (under_least rows lower c its.value.origin.up under)

low : (rows : List (Item Reach)) → AreLower rows → (z c d p q : ℕ) → Hangs rows z c p → Hangs rows z d q → c ≢ d → Under rows c d → ⊥
low rows lower z c d p q first second other under =
    let bound = up_under rows lower c second.follows.n second.follows.it second.follows.there (λ is. other (is ∙ sym second.follows.number))
    (subst (Under rows c) second.follows.number under) in
    let own = (lower first.follows.n first.follows.it first.follows.there).0 in
    let mine = first.follows.after in
    let theirs = second.follows.after in
    let is = first.follows.number in
    omega arith

-- the row after a meeting is not above the other end
apart_at : (rows : List (Item Reach)) → AreLower rows → (z a b p q : ℕ) → Hangs rows z a p → Hangs rows z b q → a ≢ b → ¬ Under rows a q
apart_at rows lower z a b p q left right two under = from (comparable rows a b q under right.under)
  where
    from : Under rows a b ⊎ Under rows b a → ⊥
    from (inl over) = low rows lower z a b p q left right two over
    from (inr over) = low rows lower z b a q p right left (λ is. two (sym is)) over

-- a row above p is above the base of p, or it is below that base and has the same one
climb : (rows : List (Item Reach)) (base size : ℕ → ℕ) → IsTree rows base size → (a p : ℕ) → Under rows (base p) p → AreLower rows → Under rows a p
    → Under rows a (base p) ⊎ ((base a ≡ base p) × (a ≢ base p))
climb rows base size tree a p held lower under = by a p under (base p) refl held
  where
    low_base : (b n : ℕ) (it : Item Reach) → slice_get rows n ≡ Some it → Under rows b it.value.origin.up → suc n ≢ b
    low_base b n it there under = λ is.
        let bound = under_least rows lower b it.value.origin.up under in
        let less = (lower n it there).0 in
        omega arith

    at_base : (n : ℕ) (it : Item Reach) (b : ℕ) → slice_get rows n ≡ Some it → base (suc n) ≡ b → Under rows b it.value.origin.up
        → base it.value.origin.up ≡ b
    at_base n it b there is under = kept (link_of it.value) (tree.keeps n it there) (lower n it there).0
      where
        kept : (l : Link) → Keeps rows base size (suc n) it.value.origin.up l → it.value.origin.up ≤ n → base it.value.origin.up ≡ b
        kept link.Step keeps less = sym keeps ∙ is
        kept link.Entry keeps less = absurd (let bound = under_least rows lower b it.value.origin.up under in omega arith)
        kept (link.Return end) keeps less = sym keeps.0 ∙ is

    by : (a p : ℕ) → Under rows a p → (b : ℕ) → base p ≡ b → Under rows b p → Under rows a b ⊎ ((base a ≡ b) × (a ≢ b))
    by a _ under b is (itself _) = inl under
    by _ _ (itself _) b is (before _ n it there held) = inr (is, low_base b n it there held)
    by a _ (before _ n it there under) b is (before _ _ its again held) =
        let held' = subst (λ (o : Item Reach). Under rows b o.value.origin.up) (some_is (sym again ∙ there)) held in
        by a it.value.origin.up under b (at_base n it b there is held') held'

-- ---- from call to call

-- into the call on the one side, through it on the other
clear_in : (rows : List (Item Reach)) (base size : ℕ → ℕ) (most : ℕ) → IsTree rows base size → AreLower rows → (z a b p q e : ℕ)
    → Clear rows base size most p q → (left : Hangs rows z a p) → (right : Hangs rows z b q) → a ≢ b → link_of left.follows.it.value ≡ link.Entry
    → link_of right.follows.it.value ≡ link.Return e → Clear rows base size most p e
clear_in rows base size most tree lower z a b p q e clear left right two into back = record {
  above = λ under. let grown = under_size rows base size tree p e under in let top = is_top in let less = smaller in omega arith;
  below = λ under. let is = ap size (under_end rows e p dead under) in let top = is_top in let less = smaller in omega arith;
  left = inl is_top;
  right = inr (dead, keeps.3, subst (λ n. Under rows n p) (sym base_e) left.under);
  left_most = clear.left_most;
  right_most = (let less = smaller in omega arith);
}
  where
    keeps : Keeps rows base size (suc right.follows.n) right.follows.it.value.origin.up (link.Return e)
    keeps =
        subst (Keeps rows base size (suc right.follows.n) right.follows.it.value.origin.up) back
        (tree.keeps right.follows.n right.follows.it right.follows.there)

    dead : IsDeadEnd rows e
    dead = keeps.1

    smaller : size e < most
    smaller =
        let less = keeps.2 in
        let grown = under_size rows base size tree b q right.under in
        let is = ap size right.follows.number in
        let bound = clear.right_most in
        omega arith

    base_a : base a ≡ a
    base_a =
        subst (λ n. base n ≡ n) (sym left.follows.number)
        (subst (Keeps rows base size (suc left.follows.n) left.follows.it.value.origin.up) into
        (tree.keeps left.follows.n left.follows.it left.follows.there))

    base_e : base e ≡ a
    base_e =
        tree.into left.follows.n right.follows.n e left.follows.it right.follows.it left.follows.there right.follows.there into back
        (left.follows.after ∙ sym right.follows.after) ∙ sym left.follows.number

    by : Held rows base size most p q → size p ≡ most
    by (inl top) = top
    by (inr held) = from (climb rows base size tree a p held.1 lower left.under)
      where
        from : Under rows a (base p) ⊎ ((base a ≡ base p) × (a ≢ base p)) → size p ≡ most
        from (inl over) = absurd (apart_at rows lower z a b p q left right two (under_trans rows a (base p) q over held.2))
        from (inr own) = absurd (own.1 (sym base_a ∙ own.0))

    is_top : size p ≡ most
    is_top = by clear.left

clear_swap : (rows : List (Item Reach)) (base size : ℕ → ℕ) (most p q : ℕ) → Clear rows base size most p q → Clear rows base size most q p
clear_swap rows base size most p q clear = record {
  above = clear.below;
  below = clear.above;
  left = clear.right;
  right = clear.left;
  left_most = clear.right_most;
  right_most = clear.left_most;
}

-- through it on both sides
clear_both : (rows : List (Item Reach)) (base size : ℕ → ℕ) (most : ℕ) → IsTree rows base size → (z a b p q e f : ℕ) → Clear rows base size most p q
    → (left : Hangs rows z a p) → (right : Hangs rows z b q) → a ≢ b → link_of left.follows.it.value ≡ link.Return e
    → link_of right.follows.it.value ≡ link.Return f → Clear rows base size most e f
clear_both rows base size most tree z a b p q e f clear left right two out back = record {
  above = λ under. parts.0 (under_end rows e f own.1 under);
  below = λ under. parts.0 (sym (under_end rows f e other.1 under));
  left = inr (own.1, own.3, subst (λ n. Under rows n f) (sym parts.1) other.3);
  right = inr (other.1, other.3, subst (λ n. Under rows n e) parts.1 own.3);
  left_most = (let less = own.2 in let grown = under_size rows base size tree a p left.under in let is = ap size left.follows.number in
      let bound = clear.left_most in omega arith);
  right_most = (let less = other.2 in let grown = under_size rows base size tree b q right.under in let is = ap size right.follows.number in
      let bound = clear.right_most in omega arith);
}
  where
    own : Keeps rows base size (suc left.follows.n) left.follows.it.value.origin.up (link.Return e)
    own =
        subst (Keeps rows base size (suc left.follows.n) left.follows.it.value.origin.up) out
        (tree.keeps left.follows.n left.follows.it left.follows.there)

    other : Keeps rows base size (suc right.follows.n) right.follows.it.value.origin.up (link.Return f)
    other =
        subst (Keeps rows base size (suc right.follows.n) right.follows.it.value.origin.up) back
        (tree.keeps right.follows.n right.follows.it right.follows.there)

    parts : (e ≢ f) × (base e ≡ base f)
    parts =
        tree.two left.follows.n right.follows.n e f left.follows.it right.follows.it left.follows.there right.follows.there out back
        (left.follows.after ∙ sym right.follows.after) (λ is. two (left.follows.number ∙ ap (λ n. suc n) is ∙ sym right.follows.number))

abbrev AreEnds : Option (ℕ × ℕ) → ℕ → ℕ → Type 0
AreEnds ends x y = ends ≡ Some (x, y)

pair_clear : (rows : List (Item Reach)) (base size : ℕ → ℕ) (most x y p' q' : ℕ) → AreEnds (Some (x, y)) p' q' → Clear rows base size most x y
    → Clear rows base size most p' q'
pair_clear rows base size most x y p' q' is clear = subst (λ o. At o) is clear
  where
    At : Option (ℕ × ℕ) → Type 0
    At None = ⊥
    At (Some ends) = Clear rows base size most ends.0 ends.1

-- each turn
pub clear_next : (rows : List (Item Reach)) (base size : ℕ → ℕ) (most : ℕ) → IsTree rows base size → AreLower rows → (z a b p q p' q' : ℕ)
    → Clear rows base size most p q → (left : Hangs rows z a p) → (right : Hangs rows z b q) → a ≢ b
    → inner_ends (link_of left.follows.it.value) (link_of right.follows.it.value) p q ≡ Some (p', q') → Clear rows base size most p' q'
clear_next rows base size most tree lower z a b p q p' q' clear left right two is =
    by (link_of left.follows.it.value) (link_of right.follows.it.value) refl refl is
  where
    by : (l r : Link) → link_of left.follows.it.value ≡ l → link_of right.follows.it.value ≡ r → AreEnds (inner_ends l r p q) p' q'
        → Clear rows base size most p' q'
    by link.Step r one other is = absurd cc
    by link.Entry link.Step one other is = absurd cc
    by link.Entry link.Entry one other is = absurd cc
    by link.Entry (link.Return e) one other is =
        pair_clear rows base size most p e p' q' is (clear_in rows base size most tree lower z a b p q e clear left right two one other)
    by (link.Return e) link.Step one other is = absurd cc
    by (link.Return e) link.Entry one other is =
        pair_clear rows base size most e q p' q' is
        (clear_swap rows base size most q e
        (clear_in rows base size most tree lower z b a q p e (clear_swap rows base size most p q clear) right left (λ same. two (sym same)) other one))
    by (link.Return e) (link.Return f) one other is =
        pair_clear rows base size most e f p' q' is (clear_both rows base size most tree z a b p q e f clear left right two one other)

-- ---- at the end

-- the entries at which the chains part are not alike
pub parted_at : (entries : List (Item ℕ)) (rows : List (Item Reach)) → AreParted entries rows → (z a b p q : ℕ) (it its : Item Reach) (l r : Link)
    (ends : Option (ℕ × ℕ)) (x y : Node) → Hangs rows z a p → Hangs rows z b q → a ≢ b → slice_get rows (a - 1) ≡ Some it
    → slice_get rows (b - 1) ≡ Some its → l ≡ link_of it.value → r ≡ link_of its.value → ends ≡ inner_ends l r p q → ends ≡ None
    → x ≡ first_entry entries rows it.value → y ≡ first_entry entries rows its.value → ¬ IsAlike x y
parted_at entries rows parted z a b p q it its l r ends x y left right two at_left at_right l_is r_is ends_are none x_is y_is alike =
    parted (a - 1) (b - 1) p q it its at_left at_right apart up_same
    (ap (λ k. inner_ends k (link_of its.value) p q) (sym l_is) ∙ ap (λ k. inner_ends l k p q) (sym r_is) ∙ sym ends_are ∙ none)
    (subst (λ n. IsAlike n (first_entry entries rows its.value)) x_is (subst (IsAlike x) y_is alike))
  where
    apart : a - 1 ≢ b - 1
    apart = λ is. two (let one = left.follows.number in let other = right.follows.number in let same : a ≡ b = omega arith in same)

    up_same : it.value.origin.up ≡ its.value.origin.up
    up_same =
        ap (λ (o : Item Reach). o.value.origin.up) (sym (read_row rows z a p it left at_left)) ∙ left.follows.after ∙ sym right.follows.after
        ∙ ap (λ (o : Item Reach). o.value.origin.up) (read_row rows z b q its right at_right)

-- and neither row is in the chain of the other
pub not_clear : (rows : List (Item Reach)) (base size : ℕ → ℕ) (most p q : ℕ) → Clear rows base size most p q → Under rows p q ⊎ Under rows q p → ⊥
not_clear rows base size most p q clear (inl over) = clear.above over
not_clear rows base size most p q clear (inr over) = clear.below over
