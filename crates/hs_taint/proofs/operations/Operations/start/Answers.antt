use Rattle.std.proofs.Common.{◌∙◌, arith}
use Rattle.hs_taint.proofs.Owners.{start_found}
use Rattle.hs_taint.proofs.operations.Operations.start.Goals as goal

-- each function has a start
pub index-requires : goal.index-requires
index-requires c =
    let below = (start_found c.args.self.now.functions.now c.args.self.now.starts.items c.args.function 0 c.args.self.now.starts_are c.requires.there).0 in
    omega (arith, below)

pub returns : goal.returns
returns c = record {
  start =
      c.index.ensures
      ∙ (start_found c.args.self.now.functions.now c.args.self.now.starts.items c.args.function c.index.result.now
      c.args.self.now.starts_are c.requires.there).1;
}
