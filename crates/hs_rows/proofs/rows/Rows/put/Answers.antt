use Rattle.hs_rows.proofs.Changes.{tested_not, put_there, put_others}
use Rattle.hs_rows.proofs.rows.Rows.put.Goals as goal

pub returns-clause-added : goal.returns-clause-added
returns-clause-added c = tested_not c.args.self.now c.self.inside.rows c.self.inside.per c.args.row c.args.bit c.index-word.result.now c.self.inside.words.items c.self.view_is c.self.invariant.0 c.requires.row_in_range c.requires.bit_in_range c.index-word.ensures

pub returns-clause-there : goal.returns-clause-there
returns-clause-there c = put_there c.args.self.now c.self.inside.rows c.self.inside.per c.args.row c.args.bit c.index-word.result.now c.self.inside.words.items c.self.view_is c.self.invariant.0 c.requires.row_in_range c.requires.bit_in_range

-- the other bits of the word stay
pub returns-clause-others : goal.returns-clause-others
returns-clause-others c = put_others c.args.self.now c.self.inside.rows c.self.inside.per c.args.row c.args.bit c.index-word.result.now c.self.inside.words.items c.self.view_is c.self.invariant.0 c.requires.row_in_range c.requires.bit_in_range c.index-word.ensures
