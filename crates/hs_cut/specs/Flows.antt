-- Flows, and what fits a cut (Ford and Fulkerson, Maximal flow through a network, 1956). A flow is a whole number for
-- each edge, in the order of the edges: positive along the edge, negative against it.
--     out_over side edge amount     what the edge takes out of the set, less what it brings in
--     net_out side edges flow       what flows out of the set, less what flows in
--     most edge                     the most that may flow over the edge, either way
--     has_demand network vertex     the side of the vertex is given
--     Fits network side flow        the six facts by which the flow shows that the cut is least
use Rattle.std.specs.Prelude.{◌≡◌, ℕ, ℤ, pos, ◌+ℤ◌, ◌-ℤ◌, nat_abs, ◌<◌, ◌≤◌, Bool, ◌||◌, cond, List, [], ◌∷◌, length, IsFalse, nat_eq}
use Rattle.std.specs.List.{All, zip}
use Rattle.hs_cut.specs.declared.network.CutEdge.{CutEdge}
use Rattle.hs_cut.specs.declared.network.Network.{Network}
use Rattle.hs_cut.specs.Networks.{Side, among, crossings, HasInside, HasNoOutside, CrossesSlots}

-- out where the edge begins in the set, in where it ends there
abbrev pub out_over : Side → CutEdge → ℤ → ℤ
out_over side edge amount = cond (side edge.from) amount (pos 0) -ℤ cond (side edge.to) amount (pos 0)

-- what flows out of the set, less what flows in
abbrev pub net_out : Side → List CutEdge → List ℤ → ℤ
net_out side (edge ∷ edges) (amount ∷ flow) = out_over side edge amount +ℤ net_out side edges flow
net_out side [] flow = pos 0
net_out side (edge ∷ edges) [] = pos 0

-- one over a slot; over another edge what a signed number of 32 bits can be
abbrev pub most : CutEdge → ℕ
most edge = cond edge.slot 1 2147483647

-- the side of the vertex is given
abbrev pub has_demand : Network → ℕ → Bool
has_demand network vertex = among network.inside vertex || among network.outside vertex

-- no more flows over an edge than may
abbrev pub AreOfSize : Network → List ℤ → Type 0
AreOfSize network flow = All (λ it. nat_abs it.1 ≤ most it.0) (zip network.edges flow)

-- at each vertex without a demand as much flows in as out
abbrev pub IsConserved : Network → List ℤ → Type 0
IsConserved network flow = (vertex : ℕ) → vertex < network.vertices → IsFalse (has_demand network vertex)
    → net_out (nat_eq vertex) network.edges flow ≡ pos 0

-- as much flows out of the vertices that must be inside as edges cross
abbrev pub HasValue : Network → Side → List ℤ → Type 0
HasValue network side flow = net_out (among network.inside) network.edges flow ≡ pos (crossings side network.edges)

-- the flow has a number for each edge, and fits the set
pub record Fits (network : Network) (side : Side) (flow : List ℤ) : Type 0 where
  pub each : length flow ≡ length network.edges
  pub inside : HasInside network side
  pub outside : HasNoOutside network side
  pub slotless : CrossesSlots network side
  pub size : AreOfSize network flow
  pub conservation : IsConserved network flow
  pub value : HasValue network side flow
