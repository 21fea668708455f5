-- The rows of a graph as they are read and written.
use Rattle.std.proofs.Common.{◌≡◌, ℕ, zero, suc, ◌+◌, ◌<◌, List, [], ◌∷◌, ◌++◌, length, get_or, set, ap, sym, ◌∙◌, refl, cond, nat_eq, arith, append_assoc, append-nil, take}
use Rattle.std.specs.List.{slice_get}
use Rattle.std.proofs.Common.{All, true, false, inl, inr}
use Rattle.std.proofs.Math.ListN.{length-set}
use Rattle.std.proofs.lemmas.Bool.Decides.{eqb_tells}
use Rattle.std.proofs.lemmas.List.{get_or-set_same, take_more, length-take}
use Rattle.std.proofs.lemmas.Option.{slice_get-get_or}
use Rattle.hs_cut.specs.Distances.{AreInside, IsInside}
use Rattle.std.specs.declared.vec.Vec.{Vec}
use Rattle.std.specs.declared.alloc.Global.{Global}
use Rattle.hs_cut.specs.Arcs.{arcs_from, arcs_at, own_arcs, row_items}
use Rattle.hs_cut.specs.declared.graph.Arc.{Arc}
use Rattle.hs_cut.specs.declared.network.CutEdge.{CutEdge}

-- the row that is read
pub arcs_from-row : (rows : List (Vec Arc Global)) (vertex : ℕ) (row : Vec Arc Global) → vertex < length rows → row ≡ get_or rows vertex row
    → arcs_from rows vertex ≡ row.items
arcs_from-row rows vertex row below is =
    ap row_items (slice_get-get_or rows vertex row below) ∙ ap (λ (row : Vec Arc Global). row.items) (sym is)

-- another row stays
row_stays : (rows : List (Vec Arc Global)) (vertex other : ℕ) (after : Vec Arc Global) → (other ≡ vertex → ⊥)
    → slice_get (set rows vertex after) other ≡ slice_get rows other
row_stays [] vertex other after apart = refl
row_stays (row ∷ rows) zero zero after apart = absurd (apart refl)
row_stays (row ∷ rows) zero (suc other) after apart = refl
row_stays (row ∷ rows) (suc vertex) zero after apart = refl
row_stays (row ∷ rows) (suc vertex) (suc other) after apart = row_stays rows vertex other after (λ same. apart (ap (λ n. suc n) same))

-- the row that is written has one arc more
pub arcs_from-put : (rows : List (Vec Arc Global)) (vertex : ℕ) (before after : Vec Arc Global) (arc : Arc) (other : ℕ) → vertex < length rows
    → before ≡ get_or rows vertex before → after.items ≡ before.items ++ arc ∷ []
    → arcs_from (set rows vertex after) other ≡ arcs_from rows other ++ cond (nat_eq other vertex) (arc ∷ []) []
arcs_from-put rows vertex before after arc other below is put = elim (eqb_tells other vertex) [
  | inl same ↦
      ap (arcs_from (set rows vertex after)) same.1
      ∙ (let inside : vertex < length (set rows vertex after) = omega (arith, length-set {A = Vec Arc Global}) in
      arcs_from-row (set rows vertex after) vertex after inside (sym (get_or-set_same rows vertex after after below)))
      ∙ put
      ∙ ap (λ (arcs : List Arc). arcs ++ arc ∷ []) (sym (arcs_from-row rows vertex before below is) ∙ ap (arcs_from rows) (sym same.1))
      ∙ ap (λ b. arcs_from rows other ++ cond b (arc ∷ []) []) (sym same.0)
  | inr apart ↦
      ap row_items (row_stays rows vertex other after apart.1)
      ∙ sym (append-nil (arcs_from rows other))
      ∙ ap (λ b. arcs_from rows other ++ cond b (arc ∷ []) []) (sym apart.0)
]

-- the arcs over one edge more
pub arcs_at-push : (vertex index : ℕ) (edges : List CutEdge) (edge : CutEdge) (at : ℕ) → at ≡ index + length edges
    → arcs_at vertex index (edges ++ edge ∷ []) ≡ arcs_at vertex index edges ++ own_arcs vertex at edge
arcs_at-push vertex index [] edge at is = let same : index ≡ at = omega arith in rw same (append-nil (own_arcs vertex at edge))
arcs_at-push vertex index (first ∷ edges) edge at is =
    ap (λ (arcs : List Arc). own_arcs vertex index first ++ arcs) (arcs_at-push vertex (suc index) edges edge at (omega arith))
    ∙ sym (append_assoc (own_arcs vertex index first) (arcs_at vertex (suc index) edges) (own_arcs vertex at edge))

-- the arcs over the edges so far and one more, which is put to both rows
pub arcs_at-more : (rows mid after : List (Vec Arc Global)) (edges : List CutEdge) (index : ℕ) (edge : CutEdge) → index < length edges
    → edge ≡ get_or edges index edge
    → ((vertex : ℕ) → arcs_from rows vertex ≡ arcs_at vertex 0 (take index edges))
    → ((vertex : ℕ) → arcs_from mid vertex
    ≡ arcs_from rows vertex ++ cond (nat_eq vertex edge.from) (record { to = edge.to; edge = index; along = true } ∷ []) [])
    → ((vertex : ℕ) → arcs_from after vertex
    ≡ arcs_from mid vertex ++ cond (nat_eq vertex edge.to) (record { to = edge.from; edge = index; along = false } ∷ []) [])
    → (vertex : ℕ) → arcs_from after vertex ≡ arcs_at vertex 0 (take (index + 1) edges)
arcs_at-more rows mid after edges index edge below is graph along against vertex =
    let out : List Arc = cond (nat_eq vertex edge.from) (record { to = edge.to; edge = index; along = true } ∷ []) [] in
    let in_ : List Arc = cond (nat_eq vertex edge.to) (record { to = edge.from; edge = index; along = false } ∷ []) [] in
    against vertex
    ∙ ap (λ (arcs : List Arc). arcs ++ in_) (along vertex ∙ ap (λ (arcs : List Arc). arcs ++ out) (graph vertex))
    ∙ append_assoc (arcs_at vertex 0 (take index edges)) out in_
    ∙ sym (arcs_at-push vertex 0 (take index edges) edge index (omega (arith, length-take index edges)))
    ∙ ap (arcs_at vertex 0) (ap (λ (edge : CutEdge). take index edges ++ edge ∷ []) is ∙ sym (take_more edges index edge below))

-- the arcs of a row lead to vertices, over edges
pub inside-row : (rows : List (Vec Arc Global)) (vertex : ℕ) (row : Vec Arc Global) (arcs : List Arc) (edges vertices : ℕ) → AreInside edges rows
    → vertex < length rows → row ≡ get_or rows vertex row → arcs ≡ row.items → length rows ≡ vertices → All (IsInside vertices edges) arcs
inside-row rows vertex row arcs edges vertices inside below is same long =
    let each : All (IsInside vertices edges) (arcs_from rows vertex) = rw (← long) (inside vertex) in
    rw (same ∙ sym (arcs_from-row rows vertex row below is)) each
