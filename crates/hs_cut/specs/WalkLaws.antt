-- A way out stays on one side of a cut: its edges are no slots, so none of them crosses.
--     alike                           the ends of an edge that does not cross
--     joins-alike, is_joined-alike    the two vertices that such an edge joins
--     way_out-outside                 all of a way out is outside
use Rattle.std.specs.Prelude.{ℕ, ◌≡◌, Bool, ◌&&◌, not, List, [], ◌∷◌, IsTrue, IsFalse, nat_eq}
use Rattle.std.proofs.Common.{true, false, sym, ◌∙◌, refl, ap, subst, inl, inr, Any}
use mathlib.Core.Bool.{xor}
use Rattle.std.proofs.lemmas.Bool.{and_parts, or_cases, eqb-true, not-true}
use Rattle.std.proofs.lemmas.List.Folds.{Any-from_list_any}
use Rattle.hs_cut.specs.declared.network.CutEdge.{CutEdge}
use Rattle.hs_cut.specs.declared.network.Network.{Network}
use Rattle.hs_cut.specs.Networks.{Side, crosses, IsCut}
use Rattle.hs_cut.specs.Walks.{IsWayOut, joins, is_joined}
use Rattle.hs_cut.specs.NetOut.{CrossSlots}
use Rattle.hs_cut.specs.CutFlows.{holds-among}

-- if an edge does not cross, its ends are on one side
pub alike : (one other : Bool) → xor one other ≡ false → one ≡ other
unfolding xor
alike true true apart = refl
alike true false apart = cc
alike false true apart = cc
alike false false apart = refl

-- the two vertices that an edge joins are on one side, if it does not cross
pub joins-alike : (side : Side) (edge : CutEdge) (one other : ℕ) → IsTrue (joins edge one other) → IsFalse (crosses side edge)
    → side one ≡ side other
joins-alike side edge one other is apart =
    elim (or_cases (nat_eq edge.from one && nat_eq edge.to other) (nat_eq edge.from other && nat_eq edge.to one) is) [
      | inl along ↦ forward along
      | inr against ↦ backward against
    ] where
      ends : side edge.from ≡ side edge.to
      ends = alike (side edge.from) (side edge.to) apart

      forward : (nat_eq edge.from one && nat_eq edge.to other) ≡ true → side one ≡ side other
      forward along =
          let both = and_parts (nat_eq edge.from one) (nat_eq edge.to other) along in
          ap side (sym (eqb-true edge.from one both.0)) ∙ ends ∙ ap side (eqb-true edge.to other both.1)

      backward : (nat_eq edge.from other && nat_eq edge.to one) ≡ true → side one ≡ side other
      backward against =
          let both = and_parts (nat_eq edge.from other) (nat_eq edge.to one) against in
          ap side (sym (eqb-true edge.to one both.1)) ∙ sym ends ∙ ap side (eqb-true edge.from other both.0)

-- so are two that an edge without a slot joins
pub is_joined-alike : (side : Side) (edges : List CutEdge) (one other : ℕ) → CrossSlots side edges
    → IsTrue (is_joined edges one other) → side one ≡ side other
is_joined-alike side edges one other slotless is =
    let found : Any (λ edge. (not edge.slot && joins edge one other) ≡ true) edges =
    Any-from_list_any (λ edge. not edge.slot && joins edge one other) edges is in
    let both = and_parts (not found.1.slot) (joins found.1 one other) found.4 in
    let apart : IsFalse found.1.slot → IsFalse (crosses side found.1) =
    subst (λ (edge : CutEdge). IsFalse edge.slot → IsFalse (crosses side edge)) found.3 (slotless found.0 found.1 found.2) in
    joins-alike side found.1 one other both.1 (apart (not-true found.1.slot both.0))

-- all of a way out is on one side, and its end is outside
pub way_out-outside : (network : Network) (side : Side) → IsCut network side → (one : ℕ) (vertices : List ℕ)
    → IsWayOut network (one ∷ vertices) → IsFalse (side one)
way_out-outside network side cut one [] way = holds-among (λ vertex. IsFalse (side vertex)) network.outside one cut.outside way
way_out-outside network side cut one (other ∷ vertices) way =
    is_joined-alike side network.edges one other cut.slotless way.0 ∙ way_out-outside network side cut other vertices way.1
