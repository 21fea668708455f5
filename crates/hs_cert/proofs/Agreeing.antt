-- Tests that agree everywhere give the same answers over lists, and what the answers over lists say of each element.
use Rattle.std.proofs.Common.{◌≡◌, ℕ, suc, ◌+◌, ◌<◌, ◌≤◌, ℤ, pos, nat_abs, nat_lt, not, Bool, true, false, ◌&&◌, cond, List, [], ◌∷◌, length, get_or, Some, None, refl, sym, ◌∙◌, arith}
use Rattle.std.specs.Prelude.{IsTrue, IsFalse}
use Rattle.std.specs.List.{All, list_all, list_any, position, position_or_len, zip}
use Rattle.std.proofs.lemmas.Bool.Decides.{nat_tests}
use Rattle.std.proofs.lemmas.List.Elements.{All-nil, All-cons}
use Rattle.std.proofs.lemmas.List.Folds.{list_any_none}
use Rattle.std.proofs.lemmas.List.Quantifiers.{position-Some}
use Rattle.std.proofs.lemmas.List.Sums.{AllPass-from_list_all, list_all-from_AllPass}
use Rattle.hs_cut.specs.declared.network.CutEdge.{CutEdge}
use Rattle.hs_cut.specs.declared.network.Network.{Network}
use Rattle.hs_cut.specs.Networks.{Side, crosses, IsCut}
use Rattle.hs_cut.specs.Flows.{most}

-- the two sets have the same vertices
abbrev pub AreAlike : Side → Side → Type 0
AreAlike one other = (vertex : ℕ) → one vertex ≡ other vertex

-- the same edges cross
pub crosses_alike : (one other : Side) → AreAlike one other → (edge : CutEdge) → crosses one edge ≡ crosses other edge
crosses_alike one other same edge = rw (same edge.from, same edge.to) refl

-- what is not a place is past the end
at_end : (place size : ℕ) → cond (nat_lt place size) (Some place) None ≡ None → size ≤ place
at_end place size is = grind (arith, nat_tests)

-- it is past the first element only if that fails
first_fails : (test : Bool) (size place : ℕ) → suc size ≤ cond (not test) (1 + place) 0 → (test ≡ false) × (size ≤ place)
first_fails true size place long = absurd (omega arith)
first_fails false size place long = (refl, omega arith)

-- each element before the place fails
fail_to_end : {X : Type 0} (test : X → Bool) (xs : List X) → length xs ≤ position_or_len test xs → All (λ x. test x ≡ false) xs
fail_to_end test [] long = All-nil (λ x. test x ≡ false)
fail_to_end test (x ∷ xs) long =
    let first = first_fails (test x) (length xs) (position_or_len test xs) long in
    All-cons (λ x. test x ≡ false) x xs first.0 (fail_to_end test xs first.1)

-- if no element passes, each fails
pub all_fail : {X : Type 0} (test : X → Bool) (xs : List X) → position test xs ≡ None → All (λ x. test x ≡ false) xs
all_fail test xs is = fail_to_end test xs (at_end (position_or_len test xs) (length xs) is)

-- what each element passes, each is in
pub all_pass : (one other : Side) → AreAlike one other → (vertices : List ℕ) → list_all one vertices ≡ true
    → All (λ vertex. IsTrue (other vertex)) vertices
all_pass one other same vertices is k d below = sym (same (get_or vertices k d)) ∙ AllPass-from_list_all one vertices is k d below

-- if one fails, not each is in
pub not_all_pass : (one other : Side) → AreAlike one other → (vertices : List ℕ) → list_all one vertices ≡ false
    → ¬ All (λ vertex. IsTrue (other vertex)) vertices
not_all_pass one other same vertices is all =
    let passes = list_all-from_AllPass one vertices (λ k d below. same (get_or vertices k d) ∙ all k d below) in
    cc

-- the same for one set
none_pass : (test : Side) (vertices : List ℕ) → list_any test vertices ≡ false → All (λ vertex. test vertex ≡ false) vertices
none_pass test [] is = All-nil (λ vertex. test vertex ≡ false)
none_pass test (vertex ∷ vertices) is = All-cons (λ vertex. test vertex ≡ false) vertex vertices (grind arith) (none_pass test vertices (grind arith))

-- if no element passes, each is out
pub all_out : (one other : Side) → AreAlike one other → (vertices : List ℕ) → list_any one vertices ≡ false
    → All (λ vertex. IsFalse (other vertex)) vertices
all_out one other same vertices is k d below = sym (same (get_or vertices k d)) ∙ none_pass one vertices is k d below

-- if one passes, not each is out
pub not_all_out : (one other : Side) → AreAlike one other → (vertices : List ℕ) → list_any one vertices ≡ true
    → ¬ All (λ vertex. IsFalse (other vertex)) vertices
not_all_out one other same vertices is all =
    let fails = list_any_none one vertices (λ k d below. same (get_or vertices k d) ∙ all k d below) in
    cc

-- a set that has what it must, and crosses slots alone
pub cut_of : (network : Network) (one other : Side) → AreAlike one other → list_all one network.inside ≡ true
    → list_any one network.outside ≡ false
    → position (λ edge. not edge.slot && crosses one edge) network.edges ≡ None → IsCut network other
cut_of network one other same inside outside slotless = record {
  inside = all_pass one other same network.inside inside;
  outside = all_out one other same network.outside outside;
  slotless = λ k d below no_slot.
      sym (crosses_alike one other same (get_or network.edges k d))
      ∙ crosses_not (get_or network.edges k d).slot _ no_slot
      (all_fail (λ edge. not edge.slot && crosses one edge) network.edges slotless k d below);
}
  where
    crosses_not : (slot cross : Bool) → slot ≡ false → (not slot && cross) ≡ false → cross ≡ false
    crosses_not slot cross no_slot is = grind arith

-- if nothing is too large, each flow is of size
pub of_size : (edges : List CutEdge) (flow : List ℤ) → position (λ it. nat_lt (most it.0) (nat_abs it.1)) (zip edges flow) ≡ None
    → All (λ it. nat_abs it.1 ≤ most it.0) (zip edges flow)
of_size edges flow is k d below =
    let fails = all_fail (λ (it : CutEdge × ℤ). nat_lt (most it.0) (nat_abs it.1)) (zip edges flow) is k d below in grind (arith, nat_tests)

-- pairs are no more than edges
zip_short : (edges : List CutEdge) (flow : List ℤ) → length (zip edges flow) ≤ length edges
zip_short [] flow = omega arith
zip_short (edge ∷ edges) [] = omega arith
zip_short (edge ∷ edges) (amount ∷ flow) = omega (arith, zip_short edges flow)

-- the first edge with too much is an edge
pub place_below : (edges : List CutEdge) (flow : List ℤ) (test : CutEdge × ℤ → Bool) (at : ℕ)
    → position test (zip edges flow) ≡ Some at → at < length edges
place_below edges flow test at is =
    let found = position-Some test (zip edges flow) at (record { from = 0; to = 0; slot = false }, pos 0) is in
    let within : at < length (zip edges flow) = found.0 in
    omega (arith, zip_short edges flow)
