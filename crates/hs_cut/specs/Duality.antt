-- What a flow that fits shows: no cut has fewer crossings (max-flow min-cut, the half that a reader needs).
use Rattle.std.specs.Prelude.{ℕ, ℤ, pos, ◌≤◌, ◌≤ℤ◌, List, [], ◌∷◌, IsTrue}
use Rattle.std.proofs.Common.{arith}
use Rattle.std.proofs.lemmas.Int.{ints}
use Rattle.std.proofs.lemmas.Bool.{both_ways}
use Rattle.hs_cut.specs.declared.network.Network.{Network}
use Rattle.hs_cut.specs.Networks.{Side, IsNumbered, IsCut, IsLeast, crossings}
use Rattle.hs_cut.specs.Flows.{Fits}
use Rattle.hs_cut.specs.Walks.{IsObstacle}
use Rattle.hs_cut.specs.CutFlows.{net_out-inside, holds-among}
use Rattle.hs_cut.specs.WalkLaws.{way_out-outside}

-- a set that a flow fits has no more crossings than any cut
pub fewest : (network : Network) (side other : Side) (flow : List ℤ) → IsNumbered network → Fits network side flow
    → IsCut network other → crossings side network.edges ≤ crossings other network.edges
fewest network side other flow numbered fits cut =
    let low = net_out-inside network flow other numbered fits.size fits.conservation cut in
    let same : pos (crossings side network.edges) ≤ℤ pos (crossings other network.edges) = rw (← fits.value) low in
    omega (arith, ints)

-- so it is a least cut
pub least : (network : Network) (side : Side) (flow : List ℤ) → IsNumbered network → Fits network side flow → IsLeast network side
least network side flow numbered fits = record {
  cut = record { inside = fits.inside; outside = fits.outside; slotless = fits.slotless };
  least = λ other cut. fewest network side other flow numbered fits cut;
}

-- if there is a cut, nothing stands in its way
pub no_obstacle : (network : Network) (side : Side) (vertices : List ℕ) → IsCut network side → IsObstacle network vertices → ⊥
no_obstacle network side [] cut obstacle = obstacle.way
no_obstacle network side (one ∷ vertices) cut obstacle =
    both_ways (side one) (way_out-outside network side cut one vertices obstacle.way)
    (holds-among (λ vertex. IsTrue (side vertex)) network.inside one cut.inside obstacle.begins)
