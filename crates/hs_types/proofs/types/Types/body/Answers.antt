use Rattle.hs_types.specs.LayoutLaws.{body_apart, body_inside, body_aligned}
use Rattle.hs_types.proofs.types.Types.body.Goals as goal

-- the laws of a body
pub returns-clause-apart : goal.returns-clause-apart
returns-clause-apart c = body_apart c.args.self.now c.in_ok-body.body.now c.in_ok-body.ensures.right

pub returns-clause-inside : goal.returns-clause-inside
returns-clause-inside c = body_inside c.args.self.now c.in_ok-body.body.now c.in_ok-body.ensures.right

pub returns-clause-aligned : goal.returns-clause-aligned
returns-clause-aligned c = body_aligned c.args.self.now c.in_ok-body.body.now c.in_ok-body.ensures.right
