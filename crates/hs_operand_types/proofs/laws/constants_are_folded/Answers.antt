use Rattle.hs_operand_types.specs.Folding.{constants_are_folded}
use Rattle.hs_operand_types.proofs.laws.constants_are_folded.Goals as goal

-- the law
pub returns : goal.returns
returns c = constants_are_folded
