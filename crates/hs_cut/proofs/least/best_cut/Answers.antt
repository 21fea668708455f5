use Rattle.std.proofs.Common.{◌≡◌, ℕ, sym, is_some}
use Rattle.hs_cut.specs.Duality.{no_obstacle}
use Rattle.hs_cut.specs.Distances.{distance_at}
use Rattle.hs_cut.specs.Networks.{among}
use Rattle.hs_cut.specs.Pushes.{IsFull}
use Rattle.hs_cut.proofs.Sides.{Fits-reached, IsChosen-reached, IsCut-reached}
use Rattle.hs_cut.proofs.least.best_cut.Goals as goal

-- the set has the vertices that were reached
reached : (c : goal.After-drop-rows-2) (vertex : ℕ) → among c.from_vec-2.result vertex ≡ is_some (distance_at c.in_ok-full.full.distances.items vertex)
reached c vertex = rw (c.from_vec-2.ensures, sym c.as_slice-3.ensures.value) (c.in_ok-inside.ensures.each vertex)

-- no more may flow
filled : (c : goal.After-drop-rows-2) → IsFull c.args.network.now c.in_ok-rows.rows.items c.in_ok-full.full.flow.items c.in_ok-full.full.distances.items
filled c = rw c.as_slice-2.ensures.value at c.in_ok-full.ensures

-- what was reached is the cut that is chosen
pub returns-clause-chosen : goal.returns-clause-chosen
returns-clause-chosen c =
    IsChosen-reached c.args.network.now c.in_ok-rows.rows.items c.in_ok-full.full.flow.items c.in_ok-full.full.distances.items (among c.from_vec-2.result)
    c.requires.numbered c.requires.countable c.in_ok-rows.ensures.graph (filled c) (reached c)

-- the flow fits it
pub returns-clause-fits : goal.returns-clause-fits
returns-clause-fits c =
    rw c.from_vec-3.ensures
    (Fits-reached c.args.network.now c.in_ok-rows.rows.items c.in_ok-full.full.flow.items c.in_ok-full.full.distances.items
    (among c.from_vec-2.result) c.requires.numbered c.requires.countable c.in_ok-rows.ensures.graph (filled c) (reached c))

-- nothing stands in its way
pub returns-clause-open : goal.returns-clause-open
returns-clause-open c path =
    no_obstacle c.args.network.now (among c.from_vec-2.result) path
    (IsCut-reached c.args.network.now c.in_ok-rows.rows.items c.in_ok-full.full.flow.items c.in_ok-full.full.distances.items
    (among c.from_vec-2.result) c.in_ok-rows.ensures.graph (filled c) (reached c))
