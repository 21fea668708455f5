-- The texts of the constant are `closing`: they compute.
use Rattle.hs_checker.proofs.Ends.{closing_is, no_closing}
use Rattle.hs_checker.proofs.straight.ends.is_closing.Goals as goal

pub returns-in-Some : goal.returns-in-Some
returns-in-Some c = closing_is c.args.tokens.now c.in-Some.rest.now c.is_empty.result c.in-Some.ensures c.is_empty.ensures

pub returns-in-None : goal.returns-in-None
returns-in-None c = no_closing c.args.tokens.now c.in-None.ensures
