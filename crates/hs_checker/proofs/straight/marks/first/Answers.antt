use Rattle.std.proofs.Common.{Some, None}
use Rattle.hs_checker.proofs.Marks.{first_gives}
use Rattle.hs_checker.proofs.straight.marks.first.Goals as goal

pub returns-in_err-source : goal.returns-in_err-source
returns-in_err-source c = rw c.from_residual.ensures (first_gives c.args.tokens.now None c.in_err-source.ensures.cases)

pub returns : goal.returns
returns c = first_gives c.args.tokens.now (Some (c.in_ok-source.source, c.in_ok-source.rest)) c.in_ok-source.ensures.cases
