use Rattle.hs_cuts.specs.Cuts.{the_task, Passed}
use Rattle.hs_cuts.proofs.solving.pass.Given as goal

-- so many operations are visited
abbrev pub invariant-ops : goal.invariant-ops
invariant-ops g l =
    Passed (the_task (g.M.Maker.total l.maker) l.code (g.M.Maker.makes l.maker)) l.at l.fn.rows l.rows l.fn.flags l.flags l.changed
