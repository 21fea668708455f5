use Rattle.std.proofs.Common.{◌∙◌, sym}
use Rattle.hs_effects.specs.Calling.{whole_of}
use Rattle.hs_taint.specs.Laws.Hazarding.{long_if_past, range_there, short_if_not}
use Rattle.hs_taint.specs.Using.{kind_of}
use Rattle.hs_taint.proofs.hazard_list.is_long.Goals as goal

-- the operation has its pairs
pub least_bad-requires : goal.least_bad-requires
least_bad-requires c = record {
  range = range_there (whole_of c.args.code.now) c.args.reached.now c.args.function c.args.at c.args.its c.requires.solved c.requires.placed;
}

-- the least length says so
pub returns-clause-long : goal.returns-clause-long
returns-clause-long c is =
    long_if_past (whole_of c.args.code.now) c.requires.solved.known c.args.reached.now c.requires.solved.is_known c.requires.solved.exact
    c.args.function c.args.at c.args.its c.requires.placed (kind_of c.args.kind) c.least_bad.result (c.least_bad.ensures c.args.function)
    (sym c.is_past.ensures ∙ is)

pub returns-clause-short : goal.returns-clause-short
returns-clause-short c is =
    short_if_not (whole_of c.args.code.now) c.requires.solved.known c.args.reached.now c.requires.solved.is_known c.requires.solved.exact
    c.args.function c.args.at c.args.its c.requires.placed (kind_of c.args.kind) c.least_bad.result (c.least_bad.ensures c.args.function)
    (sym c.is_past.ensures ∙ is)
