use Rattle.std.proofs.Common.{rules}
use Rattle.hs_frames.proofs.Declaring.{objects_next, bindings_next}
use Rattle.hs_frames.proofs.variables.declare.Goals as goal

-- one variable more was made
pub variables-preserved : goal.variables-preserved
variables-preserved c =
    record {
      objects =
          objects_next c.args.setting.now.types.now c.args.variables.now c.variables.variable-index c.variable-item.result _ _ _
          c.variables-test.true c.variable-item.is c.in_ok-binding.ensures.objects c.variables.invariant.objects;
      locals =
          bindings_next c.args.setting.now.types.now c.args.variables.now c.variables.variable-index c.variable-item.result _ _ _ _ _
          c.in_ok-binding.binding c.variables-test.true c.variable-item.is c.in_ok-binding.ensures.objects c.in_ok-binding.ensures.bindings
          c.in_ok-push.ensures.top c.variables.invariant.locals;
      below = search rules;
    }
