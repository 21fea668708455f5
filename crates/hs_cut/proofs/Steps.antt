-- The steps of a search, as ways over the edges.
use Rattle.std.proofs.Common.{◌≡◌, ℕ, zero, suc, ◌+◌, ◌<◌, List, [], ◌∷◌, Some, Bool, true, false, cond, not, ◌||◌, map, filter, refl, ap, sym, ◌∙◌, inl, inr, ◌⊎◌, arith, Contains, nat_eq, length, get_or}
use Rattle.std.specs.List.{slice_get, slice_index_or}
use Rattle.std.proofs.Common.{All}
use Rattle.std.proofs.lemmas.Option.{slice_get_within, get_or_from_slice_get}
use Rattle.hs_cut.specs.Distances.{AreInside}
use Rattle.std.proofs.Math.Bool.{or-true}
use Rattle.std.proofs.lemmas.Bool.{or_cases, eqb-true, eq-eqb}
use Rattle.std.proofs.lemmas.List.Elements.{Contains-append_cases, Contains-append_left, Contains-append_right, Contains-get_or}
use Rattle.std.specs.declared.vec.Vec.{Vec}
use Rattle.std.specs.declared.alloc.Global.{Global}
use Rattle.hs_cut.specs.Arcs.{IsArc, IsGraph, start, goal, own_arcs, arcs_at, arcs_from}
use Rattle.hs_cut.specs.Distances.{is_open, opens, shut, targets, next_to}
use Rattle.hs_cut.specs.Networks.{among}
use Rattle.hs_cut.specs.declared.graph.Arc.{Arc}
use Rattle.hs_cut.specs.declared.distances.Gate.{Gate}
use Rattle.hs_cut.specs.declared.network.CutEdge.{CutEdge}

-- an edge whose gate is open joins the vertices
pub record IsStep (edges : List CutEdge) (gates : List Gate) (from to : ℕ) : Type 0 where
  pub index : ℕ
  pub edge : CutEdge
  pub along : Bool
  pub found : slice_get edges index ≡ Some edge
  pub begins : start edge along ≡ from
  pub ends : goal edge along ≡ to
  pub opened : opens (slice_index_or gates index shut) along ≡ true

-- the first of a list, or one of the others
Contains-cases : {X : Type 0} (first : X) (rest : List X) (it : X) → Contains (first ∷ rest) it → (first ≡ it) ⊎ Contains rest it
Contains-cases first rest it (zero, below, is) = inl is
Contains-cases first rest it (suc index, below, is) = inr (index, omega arith, is)

-- the others are in the list
Contains-later : {X : Type 0} (first : X) (rest : List X) (it : X) → Contains rest it → Contains (first ∷ rest) it
Contains-later first rest it has = (suc has.0, (let below = has.1 in omega arith), has.2)

-- a list of one, if it is there
Contains-cond : {X : Type 0} (is_there : Bool) (one it : X) → Contains (cond is_there (one ∷ []) []) it → (is_there ≡ true) × (one ≡ it)
Contains-cond true one it has = elim (Contains-cases one [] it has) [ inl same ↦ (refl, same) | inr none ↦ absurd (let below = none.1 in omega arith) ]
Contains-cond false one it has = absurd (let below = has.1 in omega arith)

-- each arc goes over one of the edges, out of the vertex
pub arcs_at-sound : (vertex index : ℕ) (edges : List CutEdge) (arc : Arc) → Contains (arcs_at vertex index edges) arc
    → (offset : ℕ) × (edge : CutEdge) × (arc.edge ≡ index + offset) × (slice_get edges offset ≡ Some edge) × (start edge arc.along ≡ vertex)
    × (goal edge arc.along ≡ arc.to)
arcs_at-sound vertex index [] arc has = absurd (let below = has.1 in omega arith)
arcs_at-sound vertex index (edge ∷ edges) arc has = elim (Contains-append_cases (own_arcs vertex index edge) (arcs_at vertex (suc index) edges) arc has) [
  | inl own ↦
      elim (Contains-append_cases (cond (nat_eq vertex edge.from) (record { to = edge.to; edge = index; along = true } ∷ []) [])
      (cond (nat_eq vertex edge.to) (record { to = edge.from; edge = index; along = false } ∷ []) []) arc own) [
        | inl along ↦
            let is = Contains-cond (nat_eq vertex edge.from) (record { to = edge.to; edge = index; along = true }) arc along in
            rw (← is.1) (0, edge, omega arith, refl, sym (eqb-true vertex edge.from is.0), refl)
        | inr against ↦
            let is = Contains-cond (nat_eq vertex edge.to) (record { to = edge.from; edge = index; along = false }) arc against in
            rw (← is.1) (0, edge, omega arith, refl, sym (eqb-true vertex edge.to is.0), refl)
      ]
  | inr rest ↦
      let later = arcs_at-sound vertex (suc index) edges arc rest in
      (suc later.0, later.1, (let at : arc.edge ≡ suc index + later.0 = later.2 in omega arith), later.3, later.4, later.5)
]

-- a list of one, which is there
Contains-there : {X : Type 0} (is_there : Bool) (one it : X) → is_there ≡ true → one ≡ it → Contains (cond is_there (one ∷ []) []) it
Contains-there true one it there same = (0, omega arith, same)
Contains-there false one it there same = absurd cc

-- an arc of these parts
abbrev arc_of : ℕ → ℕ → Bool → Arc
arc_of to edge along = record { to = to; edge = edge; along = along }

-- and each way out of the vertex is one of them
pub arcs_at-complete : (vertex index : ℕ) (edges : List CutEdge) (offset : ℕ) (edge : CutEdge) (along : Bool) (at : ℕ)
    → at ≡ index + offset → slice_get edges offset ≡ Some edge → start edge along ≡ vertex
    → Contains (arcs_at vertex index edges) (record { to = goal edge along; edge = at; along = along })
arcs_at-complete vertex index [] offset edge along at place found begins = absurd cc
arcs_at-complete vertex index (first ∷ edges) zero edge true at place found begins =
    let same : first ≡ edge = cc in
    let here : index ≡ at = omega arith in
    Contains-append_left (own_arcs vertex index first) (arcs_at vertex (suc index) edges) (arc_of edge.to at true)
    (Contains-append_left (cond (nat_eq vertex first.from) (arc_of first.to index true ∷ []) [])
    (cond (nat_eq vertex first.to) (arc_of first.from index false ∷ []) []) (arc_of edge.to at true)
    (Contains-there (nat_eq vertex first.from) (arc_of first.to index true) (arc_of edge.to at true)
    (eq-eqb vertex first.from (sym begins ∙ ap (λ (edge : CutEdge). edge.from) (sym same)))
    (ap (λ (edge : CutEdge). arc_of edge.to index true) same ∙ ap (λ n. arc_of edge.to n true) here)))
arcs_at-complete vertex index (first ∷ edges) zero edge false at place found begins =
    let same : first ≡ edge = cc in
    let here : index ≡ at = omega arith in
    Contains-append_left (own_arcs vertex index first) (arcs_at vertex (suc index) edges) (arc_of edge.from at false)
    (Contains-append_right (cond (nat_eq vertex first.from) (arc_of first.to index true ∷ []) [])
    (cond (nat_eq vertex first.to) (arc_of first.from index false ∷ []) []) (arc_of edge.from at false)
    (Contains-there (nat_eq vertex first.to) (arc_of first.from index false) (arc_of edge.from at false)
    (eq-eqb vertex first.to (sym begins ∙ ap (λ (edge : CutEdge). edge.to) (sym same)))
    (ap (λ (edge : CutEdge). arc_of edge.from index false) same ∙ ap (λ n. arc_of edge.from n false) here)))
arcs_at-complete vertex index (first ∷ edges) (suc offset) edge along at place found begins =
    Contains-append_right (own_arcs vertex index first) (arcs_at vertex (suc index) edges) (record { to = goal edge along; edge = at; along = along })
    (arcs_at-complete vertex (suc index) edges offset edge along at (omega arith) found begins)

-- an arc of the rows goes over an edge
pub arc-sound : (edges : List CutEdge) (rows : List (Vec Arc Global)) (vertex : ℕ) (arc : Arc) → IsGraph edges rows
    → Contains (arcs_from rows vertex) arc → IsArc edges vertex arc
arc-sound edges rows vertex arc graph has =
    let way = arcs_at-sound vertex 0 edges arc (rw (graph vertex) at has) in
    let at : arc.edge ≡ way.0 = (let place : arc.edge ≡ 0 + way.0 = way.2 in omega arith) in
    (way.1, ap (slice_get edges) at ∙ way.3, way.4, way.5)

-- each edge has an arc out of its end
pub arc-complete : (edges : List CutEdge) (rows : List (Vec Arc Global)) (vertex index : ℕ) (edge : CutEdge) (along : Bool)
    → IsGraph edges rows → slice_get edges index ≡ Some edge → start edge along ≡ vertex
    → Contains (arcs_from rows vertex) (record { to = goal edge along; edge = index; along = along })
arc-complete edges rows vertex index edge along graph found begins =
    rw (graph vertex) (arcs_at-complete vertex 0 edges index edge along index (omega arith) found begins)

-- an open arc of the row leads there
pub targets-sound : (gates : List Gate) (arcs : List Arc) (vertex : ℕ) → among (targets gates arcs) vertex ≡ true
    → (arc : Arc) × Contains arcs arc × (is_open gates arc ≡ true) × (arc.to ≡ vertex)
targets-sound gates [] vertex is = absurd cc
targets-sound gates (first ∷ arcs) vertex is = split (is_open gates first) refl is (targets-sound gates arcs vertex)
  where
    split : (b : Bool) → is_open gates first ≡ b
        → among (map (λ arc. arc.to) (cond b (first ∷ filter (is_open gates) arcs) (filter (is_open gates) arcs))) vertex ≡ true
        → (among (targets gates arcs) vertex ≡ true → (arc : Arc) × Contains arcs arc × (is_open gates arc ≡ true) × (arc.to ≡ vertex))
        → (arc : Arc) × Contains (first ∷ arcs) arc × (is_open gates arc ≡ true) × (arc.to ≡ vertex)
    split true opened is later = elim (or_cases (nat_eq vertex first.to) (among (targets gates arcs) vertex) is) [
      | inl here ↦ (first, (0, omega arith, refl), opened, sym (eqb-true vertex first.to here))
      | inr there ↦ let rest = later there in (rest.0, Contains-later first arcs rest.0 rest.1, rest.2, rest.3)
    ]
    split false closed is later = let rest = later is in (rest.0, Contains-later first arcs rest.0 rest.1, rest.2, rest.3)

-- where an open arc leads
pub targets-complete : (gates : List Gate) (arcs : List Arc) (arc : Arc) → Contains arcs arc → is_open gates arc ≡ true
    → among (targets gates arcs) arc.to ≡ true
targets-complete gates [] arc has is = absurd (let below = has.1 in omega arith)
targets-complete gates (first ∷ arcs) arc has is = elim (Contains-cases first arcs arc has) [
  | inl same ↦
      let opened : is_open gates first ≡ true = ap (is_open gates) same ∙ is in
      ap (λ b. among (map (λ arc. arc.to) (cond b (first ∷ filter (is_open gates) arcs) (filter (is_open gates) arcs))) arc.to) opened
      ∙ ap (λ b. b || among (targets gates arcs) arc.to) (eq-eqb arc.to first.to (ap (λ (arc : Arc). arc.to) (sym same)))
  | inr later ↦ still (is_open gates first) (targets-complete gates arcs arc later is)
]
  where
    still : (b : Bool) → among (targets gates arcs) arc.to ≡ true
        → among (map (λ arc. arc.to) (cond b (first ∷ filter (is_open gates) arcs) (filter (is_open gates) arcs))) arc.to ≡ true
    still true there = ap (λ b. nat_eq arc.to first.to || b) there ∙ or-true (nat_eq arc.to first.to)
    still false there = there

-- a step goes over an open edge
pub step-sound : (edges : List CutEdge) (gates : List Gate) (rows : List (Vec Arc Global)) (from to : ℕ) → IsGraph edges rows
    → among (next_to gates rows from) to ≡ true → IsStep edges gates from to
step-sound edges gates rows from to graph is =
    let way = targets-sound gates (arcs_from rows from) to is in
    let arc = arc-sound edges rows from way.0 graph way.1 in
    record { index = way.0.edge; edge = arc.0; along = way.0.along; found = arc.1; begins = arc.2; ends = arc.3 ∙ way.3; opened = way.2 }

-- each open edge makes a step
pub step-complete : (edges : List CutEdge) (gates : List Gate) (rows : List (Vec Arc Global)) (from to : ℕ) → IsGraph edges rows
    → IsStep edges gates from to → among (next_to gates rows from) to ≡ true
step-complete edges gates rows from to graph step =
    let has = arc-complete edges rows from step.index step.edge step.along graph step.found step.begins in
    rw (← step.ends)
    (targets-complete gates (arcs_from rows from) (record { to = goal step.edge step.along; edge = step.index; along = step.along }) has
    step.opened)

-- the way back over the edge begins where the way ends
pub start-back : (edge : CutEdge) (along : Bool) → start edge (not along) ≡ goal edge along
start-back edge true = refl
start-back edge false = refl

-- and ends where it begins
pub goal-back : (edge : CutEdge) (along : Bool) → goal edge (not along) ≡ start edge along
goal-back edge true = refl
goal-back edge false = refl

-- the arcs of a graph lead to vertices, over edges
pub AreInside-graph : (edges : List CutEdge) (vertices : ℕ) (rows : List (Vec Arc Global)) → IsGraph edges rows → length rows ≡ vertices
    → All (λ edge. (edge.from < vertices) × (edge.to < vertices)) edges → AreInside (length edges) rows
AreInside-graph edges vertices rows graph long known vertex index default below =
    let arc = get_or (arcs_from rows vertex) index default in
    let way = arc-sound edges rows vertex arc graph (Contains-get_or (arcs_from rows vertex) index default below) in
    let within : arc.edge < length edges = slice_get_within edges arc.edge way.0 way.1 in
    let ends : (way.0.from < vertices) × (way.0.to < vertices) =
    rw (sym (get_or_from_slice_get edges arc.edge way.0 way.0 way.1)) (known arc.edge way.0 within) in
    (rw (sym way.3) (rw long (goal-known way.0 arc.along ends)), within)
  where
    goal-known : (edge : CutEdge) (along : Bool) → (edge.from < vertices) × (edge.to < vertices) → goal edge along < vertices
    goal-known edge true ends = ends.1
    goal-known edge false ends = ends.0
