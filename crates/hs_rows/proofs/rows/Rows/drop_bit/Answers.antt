use Rattle.hs_rows.proofs.Changes.{dropped, drop_others}
use Rattle.hs_rows.proofs.rows.Rows.drop_bit.Goals as goal

pub returns-clause-gone : goal.returns-clause-gone
returns-clause-gone c = dropped c.args.self.now c.self.inside.rows c.self.inside.per c.args.row c.args.bit c.index_mut.result.now c.self.inside.words.items c.self.view_is c.self.invariant.0 c.requires.row_in_range c.requires.bit_in_range

-- the other bits of the word stay
pub returns-clause-others : goal.returns-clause-others
returns-clause-others c = drop_others c.args.self.now c.self.inside.rows c.self.inside.per c.args.row c.args.bit c.index_mut.result.now c.self.inside.words.items c.self.view_is c.self.invariant.0 c.requires.row_in_range c.requires.bit_in_range c.index_mut.ensures.value
