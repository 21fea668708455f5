-- Small networks, worked by hand: what fits, what is not conserved, and what stands in the way of a cut.
--     the_row        0 - 1 - 2 - 3, the last two held together: cut around 1
--     held           the same, if 1 and 2 are held together and 2 must be outside: no cut
--     square         two ways from 0 to 3: two edges cross
--     torn           a vertex that must be inside and outside: no cut
use Rattle.std.proofs.Common.{◌≡◌, ℕ, zero, suc, ◌<◌, ◌≤◌, ℤ, pos, negsuc, nat_abs, true, false, List, [], ◌∷◌, IsTrue, IsFalse, nat_eq, refl, sym, arith, zip, true≢false}
use mathlib.Core.Bool.{xor}
use Rattle.std.proofs.lemmas.List.Elements.{All-from_recursion}
use Rattle.hs_cut.specs.declared.network.CutEdge.{CutEdge}
use Rattle.hs_cut.specs.declared.network.Network.{Network}
use Rattle.hs_cut.specs.Networks.{Side, among, crosses, crossings, HasInside, HasNoOutside, CrossesSlots, IsCut, IsLeast, IsNumbered}
use Rattle.hs_cut.specs.Flows.{most, AreOfSize, IsConserved, Fits}
use Rattle.hs_cut.specs.Walks.{IsObstacle}
use Rattle.hs_cut.specs.Duality.{least, no_obstacle}

-- an edge that a cut may cross
abbrev pub across : ℕ → ℕ → CutEdge
across from to = record { from = from; to = to; slot = true }

-- one that it may not
abbrev pub held_by : ℕ → ℕ → CutEdge
held_by from to = record { from = from; to = to; slot = false }

-- 2 and 3 are held together
abbrev pub the_row : Network
the_row = record { vertices = 4; edges = across 0 1 ∷ across 1 2 ∷ held_by 2 3 ∷ []; inside = 1 ∷ []; outside = 0 ∷ 3 ∷ [] }

-- one unit from 1 to 0, against the edge, and one from 1 over 2 to 3
abbrev pub apart : List ℤ
apart = negsuc 0 ∷ pos 1 ∷ pos 1 ∷ []

-- as much flows into 2 as out of it: the other vertices have demands
pub the_row-conserved : IsConserved the_row apart
the_row-conserved zero low idle = absurd (true≢false idle)
the_row-conserved (suc zero) low idle = absurd (true≢false idle)
the_row-conserved (suc (suc zero)) low idle = refl
the_row-conserved (suc (suc (suc zero))) low idle = absurd (true≢false idle)
the_row-conserved (suc (suc (suc (suc vertex)))) low idle = absurd (omega arith)

-- the set of 1 alone
pub the_row-fits : Fits the_row (nat_eq 1) apart
unfolding xor
the_row-fits = record {
  each = refl;
  inside = All-from_recursion (λ vertex. IsTrue (nat_eq 1 vertex)) (1 ∷ []) (refl, tt);
  outside = All-from_recursion (λ vertex. IsFalse (nat_eq 1 vertex)) (0 ∷ 3 ∷ []) (refl, (refl, tt));
  slotless = All-from_recursion (λ edge. IsFalse edge.slot → IsFalse (crosses (nat_eq 1) edge)) the_row.edges
      ((λ is. absurd (true≢false is)), ((λ is. absurd (true≢false is)), ((λ is. refl), tt)));
  size = All-from_recursion (λ it. nat_abs it.1 ≤ most it.0) (zip the_row.edges apart) (omega arith, (omega arith, (omega arith, tt)));
  conservation = the_row-conserved;
  value = refl;
}

-- the numbers are below 4
pub the_row-numbered : IsNumbered the_row
the_row-numbered = record {
  edges = All-from_recursion (λ edge. (edge.from < 4) × (edge.to < 4)) the_row.edges
      ((omega arith, omega arith), ((omega arith, omega arith), ((omega arith, omega arith), tt)));
  inside = All-from_recursion (λ vertex. vertex < 4) (1 ∷ []) (omega arith, tt);
  outside = All-from_recursion (λ vertex. vertex < 4) (0 ∷ 3 ∷ []) (omega arith, (omega arith, tt));
}

-- so it is a least cut
pub the_row-least : IsLeast the_row (nat_eq 1)
the_row-least = least the_row (nat_eq 1) apart the_row-numbered the_row-fits

-- two edges cross
pub the_row-crossings : crossings (nat_eq 1) the_row.edges ≡ 2
unfolding xor
the_row-crossings = refl

-- what flows into 2 has to flow on
pub the_row-stops : IsConserved the_row (negsuc 0 ∷ pos 1 ∷ pos 0 ∷ []) → ⊥
the_row-stops conserved = let stopped : negsuc 0 ≡ pos 0 = conserved 2 (omega arith) refl in cc

-- an edge that is no slot is not crossed
pub the_row-held : CrossesSlots the_row (among (1 ∷ 2 ∷ [])) → ⊥
unfolding xor
the_row-held slotless = absurd (true≢false (slotless 2 (across 0 0) (omega arith) refl))

-- what must be inside is
pub the_row-inside : HasInside the_row (among (2 ∷ 3 ∷ [])) → ⊥
the_row-inside inside = absurd (true≢false (sym (inside 0 0 (omega arith))))

-- what must be outside is
pub the_row-outside : HasNoOutside the_row (among (1 ∷ 3 ∷ [])) → ⊥
the_row-outside outside = absurd (true≢false (outside 1 0 (omega arith)))

-- no more than one unit flows over a slot
pub the_row-limit : AreOfSize the_row (pos 2 ∷ pos 1 ∷ pos 1 ∷ []) → ⊥
the_row-limit size = let low : 2 ≤ 1 = size 0 (across 0 0, pos 0) (omega arith) in omega arith

-- 1 must be inside, 2 outside
abbrev pub held : Network
held = record { vertices = 4; edges = across 0 1 ∷ held_by 1 2 ∷ held_by 2 3 ∷ []; inside = 1 ∷ []; outside = 2 ∷ [] }

-- 1 and 2 may not be separated, and must be
pub held-obstacle : IsObstacle held (1 ∷ 2 ∷ [])
held-obstacle = record { begins = refl; way = (refl, refl) }

-- so nothing cuts it
pub held-uncut : (side : Side) → IsCut held side → ⊥
held-uncut side cut = no_obstacle held side (1 ∷ 2 ∷ []) cut held-obstacle

-- a slot is no way out
pub the_row-slot : IsObstacle the_row (1 ∷ 0 ∷ []) → ⊥
the_row-slot obstacle = absurd (true≢false (sym obstacle.way.0))

-- 3 need not be outside
pub held-short : IsObstacle held (1 ∷ 2 ∷ 3 ∷ []) → ⊥
held-short obstacle = absurd (true≢false (sym obstacle.way.1.1))

-- 0 to 1 to 3, and 0 to 2 to 3
abbrev pub square : Network
square = record { vertices = 4; edges = across 0 1 ∷ across 0 2 ∷ across 1 3 ∷ across 2 3 ∷ []; inside = 0 ∷ []; outside = 3 ∷ [] }

-- one unit each way
abbrev pub both_ways_round : List ℤ
both_ways_round = pos 1 ∷ pos 1 ∷ pos 1 ∷ pos 1 ∷ []

-- as much flows into 1 and 2 as out of them
pub square-conserved : IsConserved square both_ways_round
square-conserved zero low idle = absurd (true≢false idle)
square-conserved (suc zero) low idle = refl
square-conserved (suc (suc zero)) low idle = refl
square-conserved (suc (suc (suc zero))) low idle = absurd (true≢false idle)
square-conserved (suc (suc (suc (suc vertex)))) low idle = absurd (omega arith)

-- the set of 0 alone
pub square-fits : Fits square (nat_eq 0) both_ways_round
unfolding xor
square-fits = record {
  each = refl;
  inside = All-from_recursion (λ vertex. IsTrue (nat_eq 0 vertex)) (0 ∷ []) (refl, tt);
  outside = All-from_recursion (λ vertex. IsFalse (nat_eq 0 vertex)) (3 ∷ []) (refl, tt);
  slotless = All-from_recursion (λ edge. IsFalse edge.slot → IsFalse (crosses (nat_eq 0) edge)) square.edges
      ((λ is. absurd (true≢false is)), ((λ is. absurd (true≢false is)), ((λ is. absurd (true≢false is)), ((λ is. absurd (true≢false is)), tt))));
  size = All-from_recursion (λ it. nat_abs it.1 ≤ most it.0) (zip square.edges both_ways_round)
      (omega arith, (omega arith, (omega arith, (omega arith, tt))));
  conservation = square-conserved;
  value = refl;
}

-- two edges cross
pub square-crossings : crossings (nat_eq 0) square.edges ≡ 2
unfolding xor
square-crossings = refl

-- what flows into 1 has to flow on
pub square-stops : IsConserved square (pos 1 ∷ pos 1 ∷ pos 0 ∷ pos 0 ∷ []) → ⊥
square-stops conserved = let stopped : negsuc 0 ≡ pos 0 = conserved 1 (omega arith) refl in cc

-- a vertex that must be inside and outside stands in the way by itself
pub common-obstacle : (network : Network) (vertex : ℕ) → IsTrue (among network.inside vertex) → IsTrue (among network.outside vertex)
    → IsObstacle network (vertex ∷ [])
common-obstacle network vertex inside outside = record { begins = inside; way = outside }

-- 1 must be inside and outside
abbrev pub torn : Network
torn = record { vertices = 2; edges = across 0 1 ∷ []; inside = 0 ∷ 1 ∷ []; outside = 1 ∷ [] }

-- so 1 stands in the way
pub torn-obstacle : IsObstacle torn (1 ∷ [])
torn-obstacle = common-obstacle torn 1 refl refl
