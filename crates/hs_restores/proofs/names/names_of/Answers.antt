use Rattle.std.proofs.Common.{rules}
use Rattle.hs_restores.specs.Laws.Naming.{names_listed}
use Rattle.hs_restores.proofs.names.names_of.Goals as goal

-- the list of those that are marked
pub returns : goal.returns
returns c =
    rw (← names_listed c.args.program.now.types c.args.code.now.ops c.args.function.now.variables c.args.program.now.globals) (search rules)
