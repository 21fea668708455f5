use Rattle.std.proofs.Common.{◌≡◌, ℕ, ◌<◌, take, All, is_some}
use Rattle.std.specs.List.Sorted.{IsStrictlyIncreasing}
use Rattle.hs_cut.specs.Distances.{distance_at}
use Rattle.hs_cut.specs.Networks.{among}
use Rattle.hs_cut.proofs.least.with_distance.Given as goal

-- the vertices so far that have a distance
abbrev pub invariant-loop-vertex : goal.invariant-loop-vertex
invariant-loop-vertex l = record {
  each : (vertex : ℕ) → among l.vertices.items vertex ≡ is_some (distance_at (take l.vertex l.distances) vertex);
  ascends : IsStrictlyIncreasing l.vertices.items;
  known : All (λ vertex. vertex < l.vertex) l.vertices.items;
}
