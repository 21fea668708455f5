use Rattle.hs_search.proofs.Gathering.{GathersFrom}
use Rattle.hs_search.specs.Bringing.{MakesEnd}
use Rattle.hs_search.specs.Listing.{IsWalk}
use Rattle.hs_search.proofs.offering.offer_ends.Given as goal

-- the returns from the ends from here on are offered
abbrev pub invariant-ends : goal.invariant-ends
invariant-ends g l = record {
  walk : IsWalk l.calls.ends.items.items l.call l.number;
  gathers : GathersFrom l.calls.ends.items.items l.call
      (MakesEnd (g.G.Graph.flow l.graph) l.calls.entries.items.items l.rows.items.items l.caller l.up l.from) l.number l.fn.jumps.items l.jumps.items;
}

abbrev pub decreases-ends : goal.decreases-ends
decreases-ends g l = l.number
