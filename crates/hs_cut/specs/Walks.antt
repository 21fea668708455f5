-- What stands in the way of a cut: a path of edges that may not be crossed.
--     joins edge one other            the edge joins the two vertices, in either direction
--     is_joined edges one other       an edge without a slot does
--     IsWayOut network vertices       a walk of such edges, from its first vertex to one that must be outside
--     IsObstacle network vertices     one from a vertex that must be inside: a common vertex is one
--     IsLeastObstacle network vertices    the least of the shortest, compared vertex by vertex
use Rattle.std.specs.Prelude.{◌≡◌, ℕ, ◌≤◌, Bool, false, not, ◌&&◌, ◌||◌, List, [], ◌∷◌, length, IsTrue, nat_eq}
use Rattle.std.specs.List.{list_any}
use Rattle.std.specs.Ordering.{nat_cmp, is_le}
use Rattle.std.specs.Cmp.Lexicographic.{slice_cmp}
use Rattle.hs_cut.specs.declared.network.CutEdge.{CutEdge}
use Rattle.hs_cut.specs.declared.network.Network.{Network}
use Rattle.hs_cut.specs.Networks.{Side, among}

-- in either direction
abbrev pub joins : CutEdge → ℕ → ℕ → Bool
joins edge one other = (nat_eq edge.from one && nat_eq edge.to other) || (nat_eq edge.from other && nat_eq edge.to one)

-- an edge without a slot joins the two
abbrev pub is_joined : List CutEdge → ℕ → ℕ → Bool
is_joined edges one other = list_any (λ edge. not edge.slot && joins edge one other) edges

-- from the first of the vertices to one that must be outside, each joined to the next
abbrev pub IsWayOut : Network → List ℕ → Type 0
IsWayOut network [] = ⊥
IsWayOut network (one ∷ []) = IsTrue (among network.outside one)
IsWayOut network (one ∷ other ∷ vertices) = IsTrue (is_joined network.edges one other) × IsWayOut network (other ∷ vertices)

-- the first of the vertices is in the set
abbrev pub begins_in : Side → List ℕ → Bool
begins_in side [] = false
begins_in side (one ∷ vertices) = side one

-- a way out from a vertex that must be inside
pub record IsObstacle (network : Network) (vertices : List ℕ) : Type 0 where
  pub begins : IsTrue (begins_in (among network.inside) vertices)
  pub way : IsWayOut network vertices

-- No obstacle is shorter, and none of the same length stands before it in the order of words, vertex by vertex.
pub record IsLeastObstacle (network : Network) (vertices : List ℕ) : Type 0 where
  pub obstacle : IsObstacle network vertices
  pub shortest : (other : List ℕ) → IsObstacle network other → length vertices ≤ length other
  pub least : (other : List ℕ) → IsObstacle network other → length other ≡ length vertices → IsTrue (is_le (slice_cmp nat_cmp vertices other))
