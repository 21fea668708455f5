use Rattle.std.proofs.Common.{◌≡◌, take, fold}
use Rattle.hs_classes.specs.Steps.{labelled_step}
use Rattle.hs_classes.proofs.statements.+named_in.Given as goal

-- the classes of those that are done
abbrev pub invariant-statements-loop-it : goal.invariant-statements-loop-it
invariant-statements-loop-it l = l.classes ≡ fold (labelled_step l.within) l.fn.classes (take l.it-index l.its)
