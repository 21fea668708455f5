use Rattle.std.proofs.Common.{length}
use Rattle.hs_lower_expressions.specs.Contexts.{value_code}
use Rattle.hs_lower_expressions.specs.Emitting.{right_emitted}
use Rattle.hs_lower_expressions.specs.EmittingLaws.{emits_of}
use Rattle.hs_lower_expressions.proofs.expressions.expression.Goals as goal

-- the steps are those of the code
pub returns-clause-code : goal.returns-clause-code
unfolding right_emitted
returns-clause-code c =
    emits_of c.args.ops.now c.value.new.ops (value_code c.args.context.now c.args.e.now (length c.args.ops.now) c.args.depth) c.value.result
    c.value.ensures.emitted
