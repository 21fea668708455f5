use Rattle.std.proofs.Common.{◌≡◌, ◌≤◌, length}
use Rattle.hs_lower_expressions.specs.Contexts.{setting_in}
use Rattle.hs_lower_expressions.specs.Emits.{most_ops}
use Rattle.hs_meaning.specs.Scalars.{scalars_of}
use Rattle.hs_lower_starts.specs.Steps.{scalars_steps}
use Rattle.hs_lower_starts.proofs.parts.start_scalars.Given as goal

-- the scalars that are left, after the operations so far, come to what all come to
abbrev pub invariant-scalars : goal.invariant-scalars
invariant-scalars l =
    record {
      same :
          scalars_steps (setting_in l.context) l.to l.parts l.scalars l.ops
          ≡ scalars_steps (setting_in l.context) l.to l.parts (scalars_of l.context.types.now l.to.type_id) l.fn.ops;
      keeps : length l.fn.ops ≤ length l.ops;
      few : length l.ops ≤ most_ops;
    }

-- each turn takes one of them
abbrev pub decreases-scalars : goal.decreases-scalars
decreases-scalars l = length l.scalars
