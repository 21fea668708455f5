-- What the tokens of a macro put in place, token by token.
use Rattle.std.proofs.Common.{◌≡◌, ℕ, ◌+◌, ◌<◌, ◌≤◌, List, [], ◌∷◌, ◌++◌, length, take, drop, get_or, None, sym, ap, ◌∙◌, arith, length-append}
use Rattle.std.specs.List.{flat_map}
use Rattle.std.proofs.lemmas.Bool.Decides.{nat_tests}
use Rattle.std.proofs.lemmas.Grind.{flat_map-append}
use Rattle.std.proofs.lemmas.List.{take_more, take-append-drop}
use Rattle.hs_macros.specs.Stacks.{room_after}

-- the tokens so far, with one more
length_more : {X A : Type 0} (f : X → List A) (xs : List X) (at : ℕ) (x : X) → at < length xs → x ≡ get_or xs at x
    → length (flat_map f (take at xs)) + length (f x) ≤ length (flat_map f xs)
length_more {X} {A} f xs at x within is =
    let more : take (at + 1) xs ≡ take at xs ++ x ∷ [] = take_more xs at x within ∙ ap (λ (y : X). take at xs ++ y ∷ []) (sym is) in
    let front : flat_map f (take (at + 1) xs) ≡ flat_map f (take at xs) ++ (f x ++ []) = ap (flat_map f) more ∙ flat_map-append f (take at xs) (x ∷ []) in
    let whole : flat_map f (take (at + 1) xs) ++ flat_map f (drop (at + 1) xs) ≡ flat_map f xs =
    sym (flat_map-append f (take (at + 1) xs) (drop (at + 1) xs)) ∙ ap (flat_map f) (take-append-drop (at + 1) xs) in
    omega (
      arith,
      ap length whole,
      ap length front,
      length-append (flat_map f (take (at + 1) xs)) (flat_map f (drop (at + 1) xs)),
      length-append (flat_map f (take at xs)) (f x ++ []),
      length-append (f x) [],
    )

-- if the next tokens do not fit, all do not
pub too_many : {X A : Type 0} (f : X → List A) (xs : List X) (at room left : ℕ) (x : X) → at < length xs → x ≡ get_or xs at x
    → left + length (flat_map f (take at xs)) ≡ room → left < length (f x) → room_after room (length (flat_map f xs)) ≡ None
too_many f xs at room left x within is so_far over =
    let passed : room < length (flat_map f xs) = omega (arith, length_more f xs at x within is) in
    none_after room (length (flat_map f xs)) passed
  where
    none_after : (room count : ℕ) → room < count → room_after room count ≡ None
    none_after room count passed = grind (arith, nat_tests)
