use Rattle.std.proofs.Common.{◌≡◌, take, fold}
use Rattle.hs_classes.specs.Steps.{value_step}
use Rattle.hs_classes.proofs.expressions.+named.Given as goal

-- the classes of those that are done
abbrev pub invariant-values-loop-e : goal.invariant-values-loop-e
invariant-values-loop-e l = l.classes ≡ fold (value_step l.within) l.fn.classes (take l.e-index l.its)
