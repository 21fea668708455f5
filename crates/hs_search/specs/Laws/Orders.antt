-- The order of chains: it is one, and appending keeps it on both sides.
use Rattle.std.proofs.Common.{◌≡◌, ◌≤◌, suc, ◌+◌, List, [], ◌∷◌, ◌++◌, length, inl, inr, refl, ap, sym, ◌∙◌, arith, length-append}
use Rattle.hs_search.specs.Orders.{IsBefore, IsAlike, AtMost, both_end, before, alike, Best}
use Rattle.hs_search.specs.declared.graph.Node.{Node}

-- ---- entries

before_before : (x y z : Node) → IsBefore x y → IsBefore y z → IsBefore x z
before_before x y z (inl less) (inl more) = inl (omega arith)
before_before x y z (inl less) (inr (same, more)) = inl (omega arith)
before_before x y z (inr (same, less)) (inl more) = inl (omega arith)
before_before x y z (inr (same, less)) (inr (again, more)) = inr (same ∙ again, omega arith)

before_alike : (x y z : Node) → IsBefore x y → IsAlike y z → IsBefore x z
before_alike x y z (inl less) (at, fact) = inl (omega arith)
before_alike x y z (inr (same, less)) (at, fact) = inr (same ∙ at, omega arith)

alike_before : (x y z : Node) → IsAlike x y → IsBefore y z → IsBefore x z
alike_before x y z (at, fact) (inl less) = inl (omega arith)
alike_before x y z (at, fact) (inr (same, less)) = inr (at ∙ same, omega arith)

-- ---- lists of as many

AtMost_length : (xs ys : List Node) → AtMost xs ys → length xs ≡ length ys
AtMost_length _ _ both_end = refl
AtMost_length _ _ (before x y xs ys less same) = ap suc same
AtMost_length _ _ (alike x y xs ys same rest) = ap suc (AtMost_length xs ys rest)

AtMost_refl : (xs : List Node) → AtMost xs xs
AtMost_refl [] = both_end
AtMost_refl (x ∷ xs) = alike x x xs xs (refl, refl) (AtMost_refl xs)

appended_length : (xs ys us vs : List Node) → length xs ≡ length ys → length us ≡ length vs → length (xs ++ us) ≡ length (ys ++ vs)
appended_length xs ys us vs first second = length-append xs us ∙ ap (λ n. n + length us) first ∙ ap (λ n. length ys + n) second ∙ sym (length-append ys vs)

AtMost_append : (xs ys us vs : List Node) → AtMost xs ys → AtMost us vs → AtMost (xs ++ us) (ys ++ vs)
AtMost_append _ _ us vs both_end second = second
AtMost_append _ _ us vs (before x y xs ys less same) second =
    before x y (xs ++ us) (ys ++ vs) less (appended_length xs ys us vs same (AtMost_length us vs second))
AtMost_append _ _ us vs (alike x y xs ys same rest) second = alike x y (xs ++ us) (ys ++ vs) same (AtMost_append xs ys us vs rest second)

AtMost_trans : (xs ys zs : List Node) → AtMost xs ys → AtMost ys zs → AtMost xs zs
AtMost_trans _ _ _ both_end both_end = both_end
AtMost_trans _ _ _ (before x y xs ys less same) (before _ z _ zs less' same') =
    before x z xs zs (before_before x y z less less') (same ∙ same')
AtMost_trans _ _ _ (before x y xs ys less same) (alike _ z _ zs equal rest) =
    before x z xs zs (before_alike x y z less equal) (same ∙ AtMost_length ys zs rest)
AtMost_trans _ _ _ (alike x y xs ys equal rest) (before _ z _ zs less same) =
    before x z xs zs (alike_before x y z equal less) (AtMost_length xs ys rest ∙ same)
AtMost_trans _ _ _ (alike x y xs ys equal rest) (alike _ z _ zs equal' rest') =
    alike x z xs zs (equal.0 ∙ equal'.0, equal.1 ∙ equal'.1) (AtMost_trans xs ys zs rest rest')

pub Best_refl : (xs : List Node) → Best xs xs
Best_refl xs = inr (AtMost_refl xs)

-- no longer, in either case
pub Best_length : (xs ys : List Node) → Best xs ys → length xs ≤ length ys
Best_length xs ys (inl less) = omega arith
Best_length xs ys (inr most) = let same = AtMost_length xs ys most in omega arith

pub Best_trans : (xs ys zs : List Node) → Best xs ys → Best ys zs → Best xs zs
Best_trans xs ys zs (inl less) second = let more = Best_length ys zs second in inl (omega arith)
Best_trans xs ys zs (inr most) (inl less) = let same = AtMost_length xs ys most in inl (omega arith)
Best_trans xs ys zs (inr most) (inr most') = inr (AtMost_trans xs ys zs most most')

-- appending keeps it on both sides
pub Best_append : (xs ys us vs : List Node) → Best xs ys → Best us vs → Best (xs ++ us) (ys ++ vs)
Best_append xs ys us vs (inr most) (inr most') = inr (AtMost_append xs ys us vs most most')
Best_append xs ys us vs (inl less) second =
    let more = Best_length us vs second in
    let left = length-append xs us in
    let right = length-append ys vs in
    inl (omega arith)
Best_append xs ys us vs (inr most) (inl less) =
    let same = AtMost_length xs ys most in
    let left = length-append xs us in
    let right = length-append ys vs in
    inl (omega arith)
