use Rattle.std.proofs.Common.{length}
use Rattle.hs_lower_expressions.specs.Contexts.{place_code}
use Rattle.hs_lower_expressions.specs.Emitting.{left_emitted}
use Rattle.hs_lower_expressions.specs.EmittingLaws.{emits_of}
use Rattle.hs_lower_expressions.proofs.expressions.address.Goals as goal

-- the steps are those of the code
pub returns-clause-code : goal.returns-clause-code
unfolding left_emitted
returns-clause-code c =
    emits_of c.args.ops.now c.place.new.ops (place_code c.args.context.now c.args.object.now (length c.args.ops.now) c.args.depth) c.place.result
    c.place.ensures.emitted
