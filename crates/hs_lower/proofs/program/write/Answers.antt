use Rattle.std.proofs.Common.{rules}
use Rattle.hs_lower.specs.Writing.{function_steps}
use Rattle.hs_lower.proofs.Wholes.{end_seen}
use Rattle.hs_lower.proofs.program.write.Goals as goal

-- the place of its end is that of its brace
pub returns-in_err-put_return : goal.returns-in_err-put_return
unfolding function_steps
returns-in_err-put_return c = let closed = end_seen c.args.lowering.now.function.now.body in search (rules, closed)

pub returns : goal.returns
unfolding function_steps
returns c = let closed = end_seen c.args.lowering.now.function.now.body in search (rules, closed)
