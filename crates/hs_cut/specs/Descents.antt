-- The way down the distances of a search, to the least vertex each time; and the gates of the edges that may not be crossed.
--     uncut_gate edge                      open both ways if the edge is no slot
--     IsLeastAt distances distance vertices ..   the least of the vertices that has this distance, if one has it
--     IsLeastDistance distances vertices ..      the least distance of the vertices, if one has a distance
--     Descends .. distance path               a way from a vertex of this distance, each time to the least vertex of the distance below
use Rattle.std.specs.Prelude.{◌≡◌, ℕ, suc, ◌≤◌, min, not, List, [], ◌∷◌, Option, None, Some, IsTrue}
use Rattle.std.specs.declared.vec.Vec.{Vec}
use Rattle.std.specs.declared.alloc.Global.{Global}
use Rattle.hs_cut.specs.Distances.{is_open, distance_at, next_to}
use Rattle.hs_cut.specs.Networks.{among}
use Rattle.hs_cut.specs.declared.graph.Arc.{Arc}
use Rattle.hs_cut.specs.declared.distances.Gate.{Gate}
use Rattle.hs_cut.specs.declared.network.CutEdge.{CutEdge}

-- what may not be crossed can be traversed, either way
abbrev pub uncut_gate : CutEdge → Gate
uncut_gate edge = record { along = not edge.slot; against = not edge.slot }

-- one of the vertices has this distance
abbrev pub IsAt : List (Option ℕ) → ℕ → List ℕ → ℕ → Type 0
IsAt distances distance vertices vertex = IsTrue (among vertices vertex) × (distance_at distances vertex ≡ Some distance)

-- the vertex is the least of those at this distance, or no vertex is at this distance
abbrev pub IsLeastAt : List (Option ℕ) → ℕ → List ℕ → Option ℕ → Type 0
IsLeastAt distances distance vertices None = (vertex : ℕ) → IsAt distances distance vertices vertex → ⊥
IsLeastAt distances distance vertices (Some least) =
    IsAt distances distance vertices least × ((vertex : ℕ) → IsAt distances distance vertices vertex → least ≤ vertex)

-- the arc can be traversed, and leads to a vertex of the distance
abbrev pub LeadsTo : List Gate → List (Option ℕ) → ℕ → Arc → Type 0
LeadsTo gates distances distance arc = (distance_at distances arc.to ≡ Some distance) × IsTrue (is_open gates arc)

-- no vertex has a lower distance, and one has it; or no vertex has a distance
abbrev pub IsLeastDistance : List (Option ℕ) → List ℕ → Option ℕ → Type 0
IsLeastDistance distances vertices None = (vertex distance : ℕ) → IsAt distances distance vertices vertex → ⊥
IsLeastDistance distances vertices (Some least) =
    ((vertex : ℕ) × IsAt distances least vertices vertex) × ((vertex distance : ℕ) → IsAt distances distance vertices vertex → least ≤ distance)

-- from this distance to distance 0
abbrev pub Descends : List Gate → List (Vec Arc Global) → List (Option ℕ) → ℕ → List ℕ → Type 0
Descends gates rows distances distance [] = ⊥
Descends gates rows distances distance (last ∷ []) = (distance ≡ 0) × (distance_at distances last ≡ Some 0)
Descends gates rows distances distance (vertex ∷ next ∷ path) =
    (below : ℕ) × (distance ≡ suc below) × IsLeastAt distances below (next_to gates rows vertex) (Some next) × Descends gates rows distances below (next ∷ path)

-- the lesser of the number and the least so far
abbrev pub lesser : Option ℕ → ℕ → ℕ
lesser None number = number
lesser (Some before) number = min before number
