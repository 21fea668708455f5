use Rattle.std.proofs.Common.{◌≤◌, ◌-◌, suc}
use Rattle.hs_search.specs.States.{IsRound}
use Rattle.hs_search.proofs.searching.rounds.Given as goal

-- the round of the length is next
abbrev pub invariant-rounds : goal.invariant-rounds
invariant-rounds g l = record {
  round : IsRound (g.G.Graph.flow l.graph) l.room l.most l.length l.search;
  within : l.length ≤ suc l.most;
}

abbrev pub decreases-rounds : goal.decreases-rounds
decreases-rounds g l = suc l.most - l.length
