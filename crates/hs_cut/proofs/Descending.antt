-- The way down the distances, as far as it has come.
use Rattle.std.proofs.Common.{◌≡◌, ℕ, suc, List, [], ◌∷◌, ◌++◌, Option, Some, refl, ap, ◌∙◌, append_assoc}
use Rattle.std.specs.declared.vec.Vec.{Vec}
use Rattle.std.specs.declared.alloc.Global.{Global}
use Rattle.hs_cut.specs.Descents.{Descends, IsLeastAt}
use Rattle.hs_cut.specs.Distances.{distance_at, next_to}
use Rattle.hs_cut.specs.declared.graph.Arc.{Arc}
use Rattle.hs_cut.specs.declared.distances.Gate.{Gate}

-- What goes on from the vertex, at its distance, completes the path.
pub record IsDescent (gates : List Gate) (rows : List (Vec Arc Global)) (distances : List (Option ℕ)) (first first_distance vertex distance : ℕ)
    (path : List ℕ) : Type 0 where
  pub at : distance_at distances vertex ≡ Some distance
  pub begins : (rest : List ℕ) × (path ≡ first ∷ rest)
  pub front : List ℕ
  pub ends : path ≡ front ++ vertex ∷ []
  pub goes_on : (rest : List ℕ) → Descends gates rows distances distance (vertex ∷ rest) → Descends gates rows distances first_distance (front ++ vertex ∷ rest)

-- one step down
pub IsDescent-step : (gates : List Gate) (rows : List (Vec Arc Global)) (distances : List (Option ℕ)) (first first_distance vertex distance : ℕ)
    (path : List ℕ) (next : ℕ)
    → IsDescent gates rows distances first first_distance vertex (suc distance) path → IsLeastAt distances distance (next_to gates rows vertex) (Some next)
    → IsDescent gates rows distances first first_distance next distance (path ++ next ∷ [])
IsDescent-step gates rows distances first first_distance vertex distance path next down least = record {
  at = least.0.1;
  begins = (down.begins.0 ++ next ∷ [], ap (λ (path : List ℕ). path ++ next ∷ []) down.begins.1);
  front = path;
  ends = refl;
  goes_on = λ rest way.
      let longer : Descends gates rows distances first_distance (down.front ++ vertex ∷ next ∷ rest) =
      down.goes_on (next ∷ rest) (distance, refl, least, way) in
      let joined : path ++ next ∷ rest ≡ down.front ++ vertex ∷ next ∷ rest =
      ap (λ (path : List ℕ). path ++ next ∷ rest) down.ends ∙ append_assoc down.front (vertex ∷ []) (next ∷ rest) in
      rw joined longer;
}
