-- Networks, and the sets of vertices that cut them: cuts as the max-flow min-cut theorem has them (Ford and Fulkerson,
-- Maximal flow through a network, 1956), of edges without a direction. Slots and demands are own.
--     Side                     a set of vertices, by its test
--     among numbers            the set of these numbers
--     crosses side edge        exactly one end of the edge is in the set
--     crossings side edges     how many of the edges cross
--     IsCut network side       the set has what must be inside, nothing that must be outside, and only slots cross
--     IsLeast network side     a cut that no cut has fewer crossings than
--     IsChosen network side    a least cut that every least cut contains
--     IsNumbered network       the numbers of the network are vertices
use Rattle.std.specs.Prelude.{ℕ, ◌<◌, ◌≤◌, Bool, List, IsTrue, IsFalse, nat_eq}
use Rattle.std.specs.Bool.{xor}
use Rattle.std.specs.List.{All, count_by, list_any}
use Rattle.hs_cut.specs.declared.network.CutEdge.{CutEdge}
use Rattle.hs_cut.specs.declared.network.Network.{Network}

-- a set of vertices
abbrev pub Side : Type 0
Side = ℕ → Bool

-- the set of these numbers
abbrev pub among : List ℕ → Side
among numbers vertex = list_any (nat_eq vertex) numbers

-- exactly one end is in the set
abbrev pub crosses : Side → CutEdge → Bool
crosses side edge = xor (side edge.from) (side edge.to)

-- how many edges cross
abbrev pub crossings : Side → List CutEdge → ℕ
crossings side edges = count_by (crosses side) edges

-- the set has each vertex that must be inside
abbrev pub HasInside : Network → Side → Type 0
HasInside network side = All (λ vertex. IsTrue (side vertex)) network.inside

-- it has none that must be outside
abbrev pub HasNoOutside : Network → Side → Type 0
HasNoOutside network side = All (λ vertex. IsFalse (side vertex)) network.outside

-- no edge crosses that is no slot
abbrev pub CrossesSlots : Network → Side → Type 0
CrossesSlots network side = All (λ edge. IsFalse edge.slot → IsFalse (crosses side edge)) network.edges

-- it has what must be inside, nothing that must be outside, and only slots cross
pub record IsCut (network : Network) (side : Side) : Type 0 where
  pub inside : HasInside network side
  pub outside : HasNoOutside network side
  pub slotless : CrossesSlots network side

-- no cut has fewer crossings
pub record IsLeast (network : Network) (side : Side) : Type 0 where
  pub cut : IsCut network side
  pub least : (other : Side) → IsCut network other → crossings side network.edges ≤ crossings other network.edges

-- each vertex of the one set is in the other
abbrev pub IsWithin : Side → Side → Type 0
IsWithin side other = (vertex : ℕ) → IsTrue (side vertex) → IsTrue (other vertex)

-- every least cut contains it
pub record IsChosen (network : Network) (side : Side) : Type 0 where
  pub least : IsLeast network side
  pub within : (other : Side) → IsLeast network other → IsWithin side other

-- the numbers of the network are vertices
pub record IsNumbered (network : Network) : Type 0 where
  pub edges : All (λ edge. (edge.from < network.vertices) × (edge.to < network.vertices)) network.edges
  pub inside : All (λ vertex. vertex < network.vertices) network.inside
  pub outside : All (λ vertex. vertex < network.vertices) network.outside
