-- What flows out of a cut: as much as out of the vertices that must be inside, and no more than edges cross.
--     net_out-idle                        vertices without a demand add nothing
--     net_out-cut, net_out-inside         a cut and the vertices that must be inside
--     cut_carries_out, cut_carries_in     if as much flows out of these as edges cross, each that crosses carries one unit out
use Rattle.std.proofs.Common.{◌≡◌, ℕ, zero, suc, ◌<◌, ◌≤◌, ℤ, pos, negsuc, ◌+ℤ◌, ◌≤ℤ◌, Bool, true, false, not, ◌&&◌, ◌||◌, List, length, IsTrue, IsFalse, nat_eq, nat_lt, get_or, refl, ap, sym, ◌∙◌, subst, arith, All, Any, le_refl}
use Rattle.std.proofs.lemmas.Int.{ints}
use Rattle.std.proofs.lemmas.Bool.{eqb-true}
use Rattle.std.proofs.lemmas.Bool.Decides.{nat_tests}
use Rattle.std.proofs.lemmas.List.Folds.{Any-from_list_any}
use Rattle.hs_cut.specs.declared.network.CutEdge.{CutEdge}
use Rattle.hs_cut.specs.declared.network.Network.{Network}
use Rattle.hs_cut.specs.Networks.{Side, among, crossings, HasInside, HasNoOutside, IsCut, IsNumbered}
use Rattle.hs_cut.specs.Flows.{net_out, has_demand, AreOfSize, IsConserved}
use Rattle.hs_cut.specs.NetOut.{net_out-empty, net_out-same, net_out-same_below, net_out-join, net_out-with, net_out-crossings}
use Rattle.hs_cut.specs.FilledEdges.{carries_out, carries_in}

-- what holds of all the numbers holds of one that is among them
pub holds-among : (P : ℕ → Type 0) (numbers : List ℕ) (vertex : ℕ) → All P numbers → IsTrue (among numbers vertex) → P vertex
holds-among P numbers vertex each is =
    let found : Any (λ it. nat_eq vertex it ≡ true) numbers = Any-from_list_any (nat_eq vertex) numbers is in
    let same : vertex ≡ found.1 = eqb-true vertex found.1 found.4 in
    subst P (sym same) (subst P found.3 (each found.0 found.1 found.2))

-- the vertices of the set below a limit
abbrev pub below : Side → ℕ → Side
below side limit vertex = side vertex && nat_lt vertex limit

below-zero : (side : Side) (vertex : ℕ) → below side 0 vertex ≡ false
below-zero side vertex = by_cases (side vertex) where
  by_cases : (test : Bool) → (test && nat_lt vertex 0) ≡ false
  by_cases true = grind (arith, nat_tests)
  by_cases false = refl

below-taken : (side : Side) (limit : ℕ) → side limit ≡ true → (vertex : ℕ)
    → below side (suc limit) vertex ≡ (below side limit vertex || nat_eq limit vertex)
below-taken side limit taken vertex = grind (arith, nat_tests)

below-left : (side : Side) (limit : ℕ) → side limit ≡ false → (vertex : ℕ) → below side (suc limit) vertex ≡ below side limit vertex
below-left side limit left vertex = grind (arith, nat_tests)

below-itself : (side : Side) (limit : ℕ) → IsFalse (below side limit limit)
below-itself side limit = grind (arith, nat_tests)

below-all : (side : Side) (limit vertex : ℕ) → vertex < limit → side vertex ≡ below side limit vertex
below-all side limit vertex low = grind (arith, nat_tests)

-- those of the vertices below a limit, by induction on it
net_out-below : (network : Network) (flow : List ℤ) (side : Side) → IsConserved network flow
    → ((vertex : ℕ) → vertex < network.vertices → IsTrue (side vertex) → IsFalse (has_demand network vertex))
    → (limit : ℕ) → limit ≤ network.vertices → net_out (below side limit) network.edges flow ≡ pos 0
net_out-below network flow side conserved idle zero low =
    net_out-same (below side 0) (λ vertex. false) (below-zero side) network.edges flow ∙ net_out-empty network.edges flow
net_out-below network flow side conserved idle (suc limit) low =
    by_cases (side limit) refl (net_out-below network flow side conserved idle limit (omega arith)) where
      by_cases : (test : Bool) → side limit ≡ test → net_out (below side limit) network.edges flow ≡ pos 0
          → net_out (below side (suc limit)) network.edges flow ≡ pos 0
      by_cases true taken before =
          let parts = net_out-same (below side (suc limit)) (λ it. below side limit it || nat_eq limit it)
          (below-taken side limit taken) network.edges flow
          ∙ net_out-with (below side limit) limit (below-itself side limit) network.edges flow in
          let at = conserved limit (omega arith) (idle limit (omega arith) taken) in
          rw (parts, before, at) refl
      by_cases false left before =
          net_out-same (below side (suc limit)) (below side limit) (below-left side limit left) network.edges flow ∙ before

-- vertices without a demand add nothing
pub net_out-idle : (network : Network) (flow : List ℤ) (side : Side) → IsNumbered network → IsConserved network flow
    → ((vertex : ℕ) → vertex < network.vertices → IsTrue (side vertex) → IsFalse (has_demand network vertex))
    → net_out side network.edges flow ≡ pos 0
net_out-idle network flow side numbered conserved idle =
    net_out-same_below side (below side network.vertices) network.vertices (below-all side network.vertices) network.edges flow numbered.edges
    ∙ net_out-below network flow side conserved idle network.vertices (le_refl network.vertices)

-- the vertices of the first set that are not in the second
abbrev pub without : Side → Side → Side
without side other vertex = side vertex && not (other vertex)

-- a set with all that must be inside and nothing that must be outside: as much flows out of it as out of the former
pub net_out-cut : (network : Network) (flow : List ℤ) (side : Side) → IsNumbered network → IsConserved network flow
    → HasInside network side → HasNoOutside network side
    → net_out side network.edges flow ≡ net_out (among network.inside) network.edges flow
net_out-cut network flow side numbered conserved inside outside =
    net_out-same side (λ it. among network.inside it || without side (among network.inside) it) together network.edges flow
    ∙ net_out-join (among network.inside) (without side (among network.inside)) (λ it. apart (among network.inside it) (side it)) network.edges flow
    ∙ ap (λ it. net_out (among network.inside) network.edges flow +ℤ it)
    (net_out-idle network flow (without side (among network.inside)) numbered conserved idle)
    ∙ alone (net_out (among network.inside) network.edges flow) where
      parts : (one all : Bool) → (IsTrue one → IsTrue all) → all ≡ (one || (all && not one))
      parts true all within = within refl
      parts false true within = refl
      parts false false within = refl

      together : (vertex : ℕ) → side vertex ≡ (among network.inside vertex || without side (among network.inside) vertex)
      together vertex = parts (among network.inside vertex) (side vertex)
          (holds-among (λ it. IsTrue (side it)) network.inside vertex inside)

      apart : (one all : Bool) → IsFalse (one && (all && not one))
      apart true true = refl
      apart true false = refl
      apart false all = refl

      alone : (one : ℤ) → one +ℤ pos 0 ≡ one
      alone one = omega (arith, ints)

      neither : (one all other : Bool) → IsTrue (all && not one) → (IsTrue other → IsFalse all) → IsFalse (one || other)
      neither true true other is without' = cc
      neither true false other is without' = cc
      neither false all false is without' = refl
      neither false true true is without' = without' refl
      neither false false true is without' = cc

      idle : (vertex : ℕ) → vertex < network.vertices → IsTrue (without side (among network.inside) vertex)
          → IsFalse (has_demand network vertex)
      idle vertex low is = neither (among network.inside vertex) (side vertex) (among network.outside vertex) is
          (holds-among (λ it. IsFalse (side it)) network.outside vertex outside)

-- no more flows out of the vertices that must be inside than edges cross a cut
pub net_out-inside : (network : Network) (flow : List ℤ) (side : Side) → IsNumbered network → AreOfSize network flow
    → IsConserved network flow → IsCut network side
    → net_out (among network.inside) network.edges flow ≤ℤ pos (crossings side network.edges)
net_out-inside network flow side numbered size conserved cut =
    rw (← net_out-cut network flow side numbered conserved cut.inside cut.outside)
    (net_out-crossings side network.edges flow size cut.slotless)

-- the first for a cut with as many crossings as flows out of the vertices that must be inside
pub cut_carries_out : (network : Network) (side : Side) (flow : List ℤ) → IsNumbered network → length flow ≡ length network.edges
    → AreOfSize network flow → IsConserved network flow → IsCut network side
    → net_out (among network.inside) network.edges flow ≡ pos (crossings side network.edges)
    → (i : ℕ) (none : CutEdge) (default : ℤ) → i < length network.edges
    → IsTrue (side (get_or network.edges i none).from) → IsFalse (side (get_or network.edges i none).to) → get_or flow i default ≡ pos 1
cut_carries_out network side flow numbered each size conserved cut value i none default low =
    carries_out side network.edges flow size cut.slotless (net_out-cut network flow side numbered conserved cut.inside cut.outside ∙ value)
    i none default low (omega arith)

-- the second for such a cut
pub cut_carries_in : (network : Network) (side : Side) (flow : List ℤ) → IsNumbered network → length flow ≡ length network.edges
    → AreOfSize network flow → IsConserved network flow → IsCut network side
    → net_out (among network.inside) network.edges flow ≡ pos (crossings side network.edges)
    → (i : ℕ) (none : CutEdge) (default : ℤ) → i < length network.edges
    → IsFalse (side (get_or network.edges i none).from) → IsTrue (side (get_or network.edges i none).to) → get_or flow i default ≡ negsuc 0
cut_carries_in network side flow numbered each size conserved cut value i none default low =
    carries_in side network.edges flow size cut.slotless (net_out-cut network flow side numbered conserved cut.inside cut.outside ∙ value)
    i none default low (omega arith)
