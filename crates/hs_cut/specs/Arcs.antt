-- The ways over the edges of a network, kept by the vertex that they leave.
--     start edge along, goal edge along    where a way over the edge begins and ends
--     IsArc edges vertex arc               the arc goes over an edge, out of the vertex
--     own_arcs vertex index edge           the arcs over the edge of that index, out of the vertex
--     arcs_at vertex index edges           those over these edges, the first of which has that index
--     arcs_from rows vertex                those that the rows have
--     IsGraph edges rows                   the rows have the arcs of these edges
use Rattle.std.specs.Prelude.{◌≡◌, ℕ, suc, Bool, true, false, cond, List, [], ◌∷◌, ◌++◌, Option, None, Some, slice_get, nat_eq}
use Rattle.std.specs.declared.vec.Vec.{Vec}
use Rattle.std.specs.declared.alloc.Global.{Global}
use Rattle.hs_cut.specs.declared.graph.Arc.{Arc}
use Rattle.hs_cut.specs.declared.network.CutEdge.{CutEdge}

-- where the way begins
abbrev pub start : CutEdge → Bool → ℕ
start edge along = cond along edge.from edge.to

-- where it ends
abbrev pub goal : CutEdge → Bool → ℕ
goal edge along = cond along edge.to edge.from

-- over an edge, out of the vertex
abbrev pub IsArc : List CutEdge → ℕ → Arc → Type 0
IsArc edges vertex arc = (edge : CutEdge) × (slice_get edges arc.edge ≡ Some edge) × (start edge arc.along ≡ vertex) × (goal edge arc.along ≡ arc.to)

-- along where the edge begins at the vertex, against where it ends there
abbrev pub own_arcs : ℕ → ℕ → CutEdge → List Arc
own_arcs vertex index edge =
    cond (nat_eq vertex edge.from) (record { to = edge.to; edge = index; along = true } ∷ []) []
    ++ cond (nat_eq vertex edge.to) (record { to = edge.from; edge = index; along = false } ∷ []) []

-- edge by edge
abbrev pub arcs_at : ℕ → ℕ → List CutEdge → List Arc
arcs_at vertex index [] = []
arcs_at vertex index (edge ∷ edges) = own_arcs vertex index edge ++ arcs_at vertex (suc index) edges

-- the arcs of a row
abbrev pub row_items : Option (Vec Arc Global) → List Arc
row_items None = []
row_items (Some row) = row.items

-- the row of the vertex
abbrev pub arcs_from : List (Vec Arc Global) → ℕ → List Arc
arcs_from rows vertex = row_items (slice_get rows vertex)

-- each row has the arcs out of its vertex
abbrev pub IsGraph : List CutEdge → List (Vec Arc Global) → Type 0
IsGraph edges rows = (vertex : ℕ) → arcs_from rows vertex ≡ arcs_at vertex 0 edges
