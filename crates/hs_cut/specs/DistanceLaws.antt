-- What distances say of walks: each vertex has as its distance the steps of the shortest walk to it, and if it has none, no
-- walk leads to it.
--     Reaches gates rows starts vertex steps    a walk of so many steps leads from a start to the vertex
use Rattle.std.specs.Prelude.{◌≡◌, ℕ, zero, suc, ◌≤◌, List, Option, None, Some, IsTrue}
use Rattle.std.proofs.Common.{arith, refl}
use Rattle.std.specs.declared.vec.Vec.{Vec}
use Rattle.std.specs.declared.alloc.Global.{Global}
use Rattle.hs_cut.specs.Distances.{AreDistances, IsWithinDistance, distance_at, next_to}
use Rattle.hs_cut.specs.Networks.{among}
use Rattle.hs_cut.specs.declared.graph.Arc.{Arc}
use Rattle.hs_cut.specs.declared.distances.Gate.{Gate}

-- no step from a start, or one step more
abbrev pub Reaches : List Gate → List (Vec Arc Global) → List ℕ → ℕ → ℕ → Type 0
Reaches gates rows starts vertex zero = IsTrue (among starts vertex)
Reaches gates rows starts vertex (suc steps) = (from : ℕ) × Reaches gates rows starts from steps × IsTrue (among (next_to gates rows from) vertex)

-- a walk of as many steps as its distance leads to a vertex
pub distance-walk : (gates : List Gate) (rows : List (Vec Arc Global)) (starts : List ℕ) (distances : List (Option ℕ))
    → AreDistances gates rows starts distances
    → (distance vertex : ℕ) → distance_at distances vertex ≡ Some distance → Reaches gates rows starts vertex distance
distance-walk gates rows starts distances all zero vertex is = all.origin vertex is
distance-walk gates rows starts distances all (suc distance) vertex is =
    let below = all.below vertex distance is in
    (below.0, distance-walk gates rows starts distances all distance below.0 below.1, below.2)

-- a distance within a number is there
pub further : (own : Option ℕ) (steps : ℕ) → IsWithinDistance steps own → (it : ℕ) × (own ≡ Some it) × (it ≤ steps)
further None steps is = absurd is
further (Some it) steps is = (it, refl, is)

-- it is within a greater number too
within-more : (own : Option ℕ) (steps more_ : ℕ) → IsWithinDistance steps own → steps ≤ more_ → IsWithinDistance more_ own
within-more None steps more_ is low = is
within-more (Some it) steps more_ is low = let below : it ≤ steps = is in omega arith

-- and no walk is shorter; so no walk leads to a vertex that has no distance
pub walk-distance : (gates : List Gate) (rows : List (Vec Arc Global)) (starts : List ℕ) (distances : List (Option ℕ))
    → AreDistances gates rows starts distances
    → (steps vertex : ℕ) → Reaches gates rows starts vertex steps → IsWithinDistance steps (distance_at distances vertex)
walk-distance gates rows starts distances all zero vertex walk = rw (all.first vertex walk) (omega arith)
walk-distance gates rows starts distances all (suc steps) vertex walk =
    let before = further (distance_at distances walk.0) steps (walk-distance gates rows starts distances all steps walk.0 walk.1) in
    let low : before.0 ≤ steps = before.2 in
    within-more (distance_at distances vertex) (suc before.0) (suc steps) (all.above walk.0 vertex before.0 before.1 walk.2) (omega arith)
