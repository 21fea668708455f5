-- A body begins with its `{`.
use Rattle.std.proofs.Common.{◌≡◌, refl}
use Rattle.hs_machine.proofs.execution.opening.Goals as goal
use Rattle.hs_meaning.specs.Statements.{opening_of}
use Rattle.hs_tree.specs.Views.{view_block}
use Rattle.hs_tree.specs.declared.statement.Block.{Block, Block'}
use Rattle.hs_tree.specs.declared.statement.Statement.TheViews.{out-Block}

-- by its parts
begins_there : (it : Block) → (out-Block it).opening.pos ≡ opening_of (view_block it)
unfolding out-Block denote.Hole.Carrier.out
begins_there (Block' opening declarations shape its closing) = refl

pub returns : goal.returns
returns c = begins_there c.args.function.now.body
