use Rattle.std.proofs.Common.{subst, sym}
use Rattle.std.specs.Bool.{Decides}
use Rattle.hs_chains.specs.Hazards as chains
use Rattle.hs_effects.specs.Calling.{whole_of}
use Rattle.hs_taint.specs.Laws.Hazarding.{hazard_decides, range_there}
use Rattle.hs_taint.specs.Using.{kind_of}
use Rattle.hs_taint.proofs.hazard_list.is_hazard.Goals as goal

-- the operation has its pairs
pub least_bad-requires : goal.least_bad-requires
least_bad-requires c = record {
  range = range_there (whole_of c.args.code.now) c.args.reached.now c.args.function c.args.at c.args.its c.requires.solved c.requires.placed;
}

-- a bad one is a hazard
pub returns : goal.returns
returns c =
    subst (λ is. Decides is (chains.Hazard (whole_of c.args.code.now) c.args.function c.args.at (kind_of c.args.kind))) (sym c.is_some.ensures)
    (hazard_decides (whole_of c.args.code.now) c.requires.solved.known c.args.reached.now c.requires.solved.is_known c.requires.solved.exact
    c.args.function c.args.at c.args.its c.requires.placed (kind_of c.args.kind) c.least_bad.result (c.least_bad.ensures c.args.function))
