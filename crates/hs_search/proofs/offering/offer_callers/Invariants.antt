use Rattle.hs_search.proofs.Gathering.{GathersFrom}
use Rattle.hs_search.specs.Bringing.{MakesCaller}
use Rattle.hs_search.specs.Listing.{IsWalk}
use Rattle.hs_search.proofs.offering.offer_callers.Given as goal

-- the returns to the callers from here on are offered
abbrev pub invariant-callers : goal.invariant-callers
invariant-callers g l = record {
  walk : IsWalk l.calls.callers.items.items l.end.call l.number;
  gathers : GathersFrom l.calls.callers.items.items l.end.call
      (MakesCaller (g.G.Graph.flow l.graph) l.calls.entries.items.items l.rows.items.items l.last l.end_number l.end) l.number l.fn.jumps.items l.jumps.items;
}

abbrev pub decreases-callers : goal.decreases-callers
decreases-callers g l = l.number
