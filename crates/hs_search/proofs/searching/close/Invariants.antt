use Rattle.hs_search.specs.States.{IsPassing}
use Rattle.hs_search.proofs.searching.close.Given as goal

-- a pass is next
abbrev pub invariant-passes : goal.invariant-passes
invariant-passes g l = IsPassing (g.G.Graph.flow l.graph) l.room l.most l.search
