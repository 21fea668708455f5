use Rattle.std.proofs.Common.{◌≡◌}
use Rattle.hs_search.specs.Listing.{IsWalk, Seen}
use Rattle.hs_search.proofs.calls.find.Given as goal

-- the calls of the operation from here on were entered with other facts
abbrev pub invariant-calls : goal.invariant-calls
invariant-calls l = record {
  walk : IsWalk l.entries.items.items l.entry.at l.number;
  seen : Seen l.entries.items.items l.entry.at l.number (λ n it. it.value ≡ l.entry.fact → ⊥);
}

abbrev pub decreases-calls : goal.decreases-calls
decreases-calls l = l.number
