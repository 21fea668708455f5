use Rattle.hs_rows.proofs.Changes.{tested}
use Rattle.hs_rows.proofs.rows.Rows.has.Goals as goal

pub returns : goal.returns
returns c = tested c.args.self.now c.self.inside.rows c.self.inside.per c.args.row c.args.bit c.index.result.now c.self.inside.words.items c.self.view_is c.self.invariant.0 c.requires.row_in_range c.requires.bit_in_range c.index.ensures
