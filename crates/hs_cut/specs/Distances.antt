-- The distances of a search: how few steps lead from a set of vertices to each vertex. A gate says of an edge which ways it
-- can be traversed.
--     opens gate along                            the gate is open that way
--     is_open gates arc                           the gate of the arc's edge is open the arc's way
--     targets gates arcs                          where the open ones of the arcs lead
--     next_to gates rows vertex                   where one step from the vertex leads
--     distance_at distances vertex                the distance of the vertex, if it has one
--     HaveDistances distances vertices            the vertices are those that have a distance
--     IsReached distance vertices ..              the vertices without a distance got this one
--     AreDistances gates rows starts distances    each vertex has as its distance the fewest steps that lead to it
use Rattle.std.specs.Prelude.{◌≡◌, ℕ, suc, ◌+◌, ◌<◌, ◌≤◌, Bool, false, cond, ◌&&◌, ◌||◌, List, length, map, filter, count_by, All, Option, None, Some, is_none, is_some, IsTrue, slice_index_or}
use Rattle.std.specs.declared.vec.Vec.{Vec}
use Rattle.std.specs.declared.alloc.Global.{Global}
use Rattle.hs_cut.specs.Arcs.{arcs_from}
use Rattle.hs_cut.specs.Networks.{among}
use Rattle.hs_cut.specs.declared.graph.Arc.{Arc}
use Rattle.hs_cut.specs.declared.distances.Gate.{Gate}

-- that way
abbrev pub opens : Gate → Bool → Bool
opens gate along = cond along gate.along gate.against

-- shut both ways
abbrev pub shut : Gate
shut = record { along = false; against = false }

-- an edge without a gate is shut
abbrev pub is_open : List Gate → Arc → Bool
is_open gates arc = opens (slice_index_or gates arc.edge shut) arc.along

-- where the open ones lead
abbrev pub targets : List Gate → List Arc → List ℕ
targets gates arcs = map (λ arc. arc.to) (filter (is_open gates) arcs)

-- one step from the vertex
abbrev pub next_to : List Gate → List (Vec Arc Global) → ℕ → List ℕ
next_to gates rows vertex = targets gates (arcs_from rows vertex)

-- none past the end of the list
abbrev pub distance_at : List (Option ℕ) → ℕ → Option ℕ
distance_at distances vertex = slice_index_or distances vertex None

-- the vertices are those that have a distance
abbrev pub HaveDistances : List (Option ℕ) → List ℕ → Type 0
HaveDistances distances vertices = (vertex : ℕ) → among vertices vertex ≡ is_some (distance_at distances vertex)

-- the arc leads to one of so many vertices, over one of so many edges
abbrev pub IsInside : ℕ → ℕ → Arc → Type 0
IsInside vertices edges arc = (arc.to < vertices) × (arc.edge < edges)

-- all arcs do
abbrev pub AreInside : ℕ → List (Vec Arc Global) → Type 0
AreInside edges rows = (vertex : ℕ) → All (IsInside (length rows) edges) (arcs_from rows vertex)

-- the distance that the vertex had, or the new one if it is one of these
abbrev pub distance_after : ℕ → Bool → Option ℕ → Option ℕ
distance_after distance is_one (Some before) = Some before
distance_after distance is_one None = cond is_one (Some distance) None

-- Those of the vertices that had no distance have this one, and are put to the next vertices.
pub record IsReached (distance : ℕ) (vertices : List ℕ) (before : List (Option ℕ)) (next : List ℕ) (after : List (Option ℕ)) (next' : List ℕ) : Type 0 where
  pub long : length after ≡ length before
  pub each : (vertex : ℕ) → distance_at after vertex ≡ distance_after distance (among vertices vertex) (distance_at before vertex)
  pub put : (vertex : ℕ) → among next' vertex ≡ (among next vertex || (is_none (distance_at before vertex) && among vertices vertex))
  pub balance : count_by is_none after + length next' ≡ count_by is_none before + length next

-- the vertex has a distance of at most this
abbrev pub IsWithinDistance : ℕ → Option ℕ → Type 0
IsWithinDistance distance None = ⊥
IsWithinDistance distance (Some own) = own ≤ distance

-- Distance 0 is that of the starts; what has a greater distance is a step from a vertex of the distance below; a step leads at
-- most one distance up.
pub record AreDistances (gates : List Gate) (rows : List (Vec Arc Global)) (starts : List ℕ) (distances : List (Option ℕ)) : Type 0 where
  pub long : length distances ≡ length rows
  pub first : (vertex : ℕ) → IsTrue (among starts vertex) → distance_at distances vertex ≡ Some 0
  pub origin : (vertex : ℕ) → distance_at distances vertex ≡ Some 0 → IsTrue (among starts vertex)
  pub below : (vertex distance : ℕ) → distance_at distances vertex ≡ Some (suc distance)
      → (from : ℕ) × (distance_at distances from ≡ Some distance) × IsTrue (among (next_to gates rows from) vertex)
  pub above : (from vertex distance : ℕ) → distance_at distances from ≡ Some distance → IsTrue (among (next_to gates rows from) vertex)
      → IsWithinDistance (suc distance) (distance_at distances vertex)
