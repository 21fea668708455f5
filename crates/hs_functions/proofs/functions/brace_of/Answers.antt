use Rattle.std.proofs.Common.{rules}
use Rattle.hs_functions.proofs.functions.brace_of.Goals as goal
use Rattle.hs_syntax.specs.StatementLaws.{view_block-out}

-- the place that the tree keeps
pub returns : goal.returns
returns c = rw (view_block-out c.args.it.now) (search rules)
