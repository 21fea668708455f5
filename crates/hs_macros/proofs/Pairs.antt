-- Two lists, compared one by one.
use Rattle.std.proofs.Common.{◌≡◌, Bool, ◌&&◌, List, [], ◌∷◌, map, zip, length, refl, ap, arith}
use Rattle.std.specs.List.{list_all}
use Rattle.std.specs.Cmp.Lexicographic.{pointwise}

-- lists of one length are alike if each pair is; of each item a part counts
pub pointwise-zip-map : {X Y Z : Type 0} (test : Z → Z → Bool) (part : X → Z) (other : Y → Z) (xs : List X) (ys : List Y) → length xs ≡ length ys
    → list_all (λ (pair : X × Y). test (part pair.0) (other pair.1)) (zip xs ys) ≡ pointwise test (map part xs) (map other ys)
pointwise-zip-map test part other [] [] same = refl
pointwise-zip-map test part other [] (y ∷ ys) same = absurd (omega arith)
pointwise-zip-map test part other (x ∷ xs) [] same = absurd (omega arith)
pointwise-zip-map test part other (x ∷ xs) (y ∷ ys) same =
    let behind : length xs ≡ length ys = omega arith in
    ap (λ answer. test (part x) (other y) && answer) (pointwise-zip-map test part other xs ys behind)
