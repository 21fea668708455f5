use Rattle.hs_syntax.proofs.Commas.{last_comma-split}
use Rattle.hs_syntax.proofs.positions.last_comma.Goals as goal

-- the last operand is after the others
pub returns-in-Some : goal.returns-in-Some
returns-in-Some c other = last_comma-split c.args.lefts.now c.in-Some.field-0-1.now c.in-Some.left.now other c.in-Some.ensures.cases.0
