-- The texts of the constant are `opening`: they compute.
use Rattle.hs_checker.specs.Straight.Grammar.{opening}
use Rattle.hs_checker.proofs.Ends.{opening_found, opening_few, opening_none}
use Rattle.hs_checker.proofs.straight.ends.after_opening.Goals as goal

pub returns-clause-found : goal.returns-clause-found
unfolding opening
returns-clause-found c = opening_found c.args.tokens.now c.marks.result c.marks.ensures

pub returns-clause-few : goal.returns-clause-few
unfolding opening
returns-clause-few c = opening_few c.args.tokens.now c.marks.result c.marks.ensures

pub returns-clause-none : goal.returns-clause-none
unfolding opening
returns-clause-none c = opening_none c.args.tokens.now c.marks.result c.marks.ensures
