use Rattle.std.proofs.Common.{◌≡◌, take, fold}
use Rattle.hs_classes.specs.Steps.{global_step}
use Rattle.hs_classes.proofs.objects.globals.Given as goal

-- the classes of those that are done
abbrev pub invariant-loop-it : goal.invariant-loop-it
invariant-loop-it l = l.classes ≡ fold (global_step l.program) l.fn.classes (take l.it-index l.its)
