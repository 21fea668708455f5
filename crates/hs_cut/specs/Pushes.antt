-- Flows on the way to the largest, and what is pushed over them.
--     residual edge amount           the ways over the edge by which more may flow
--     residuals edges flow           those of all edges
--     IsPartial network units flow   a flow of so many units
--     IsPushed edges from to ..      one unit more flows from the one vertex to the other
--     IsFull network rows flow distances    no more may flow: no step leads to what must be outside
use Rattle.std.specs.Prelude.{◌≡◌, ℕ, ℤ, pos, negsuc, ◌+◌, ◌+ℤ◌, nat_abs, int_lt, ◌<◌, ◌≤◌, Bool, false, cond, not, ◌||◌, List, length, map, zip, slice_index_or, Option, None, Some, All, IsTrue}
use Rattle.std.specs.declared.vec.Vec.{Vec}
use Rattle.std.specs.declared.alloc.Global.{Global}
use Rattle.hs_cut.specs.Flows.{net_out, most, IsConserved}
use Rattle.hs_cut.specs.Distances.{AreDistances, distance_at, opens, shut}
use Rattle.hs_cut.specs.Networks.{Side, among}
use Rattle.hs_cut.specs.declared.graph.Arc.{Arc}
use Rattle.hs_cut.specs.declared.distances.Gate.{Gate}
use Rattle.hs_cut.specs.declared.network.CutEdge.{CutEdge}
use Rattle.hs_cut.specs.declared.network.Network.{Network}

-- a slot carries one unit at most, either way
abbrev pub residual : CutEdge → ℤ → Gate
residual edge amount = record { along = not edge.slot || int_lt amount (pos 1); against = not edge.slot || int_lt (negsuc 0) amount }

-- edge by edge
abbrev pub residuals : List CutEdge → List ℤ → List Gate
residuals edges flow = map (λ it. residual it.0 it.1) (zip edges flow)

-- stands for what is past the end of the list
abbrev pub no_edge : CutEdge
no_edge = record { from = 0; to = 0; slot = false }

-- the edge of that index
abbrev pub edge_at : List CutEdge → ℕ → CutEdge
edge_at edges index = slice_index_or edges index no_edge

-- what flows over it; nothing past the end of the list
abbrev pub amount_at : List ℤ → ℕ → ℤ
amount_at flow index = slice_index_or flow index (pos 0)

-- no more flows over an edge than may
abbrev pub IsSized : List CutEdge → List ℤ → Type 0
IsSized edges flow = (index : ℕ) → index < length edges → nat_abs (amount_at flow index) ≤ most (edge_at edges index)

-- the arc leads to a vertex of the distance, and more may flow over it from there
abbrev pub LeadsDown : List Gate → List (Option ℕ) → ℕ → Arc → Type 0
LeadsDown gates distances distance arc = (distance_at distances arc.to ≡ Some distance) × IsTrue (opens (slice_index_or gates arc.edge shut) (not arc.along))

-- So many units flow out of what must be inside; over an edge that is no slot no more flow than in all.
pub record IsPartial (network : Network) (units : ℕ) (flow : List ℤ) : Type 0 where
  pub long : length flow ≡ length network.edges
  pub size : (index : ℕ) → index < length network.edges → nat_abs (amount_at flow index) ≤ cond (edge_at network.edges index).slot 1 units
  pub conservation : IsConserved network flow
  pub value : net_out (among network.inside) network.edges flow ≡ pos units

-- the amount with one unit more that way
abbrev pub with_unit : ℤ → Bool → ℤ
with_unit amount along = amount +ℤ cond along (pos 1) (negsuc 0)

-- one if it holds
abbrev pub count : Bool → ℤ
count is = cond is (pos 1) (pos 0)

-- One unit more flows out of the one vertex and into the other; no amount grows by more than one, and no slot carries more.
pub record IsPushed (edges : List CutEdge) (from to : ℕ) (before after : List ℤ) : Type 0 where
  pub long : length after ≡ length before
  pub size : (index : ℕ) → index < length edges → nat_abs (amount_at after index) ≤ nat_abs (amount_at before index) + 1
  pub slots : (index : ℕ) → index < length edges → IsTrue (edge_at edges index).slot → nat_abs (amount_at after index) ≤ 1
  pub net : (side : Side) → net_out side edges after +ℤ count (side to) ≡ net_out side edges before +ℤ count (side from)

-- the distances by steps over which more may flow, from what must be inside: none of what must be outside has one
pub record IsFull (network : Network) (rows : List (Vec Arc Global)) (flow : List ℤ) (distances : List (Option ℕ)) : Type 0 where
  pub partial : (units : ℕ) × IsPartial network units flow
  pub searched : AreDistances (residuals network.edges flow) rows network.inside distances
  pub outside : All (λ vertex. distance_at distances vertex ≡ None) network.outside
