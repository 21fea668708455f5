use Rattle.std.proofs.Common.{◌≡◌, take, fold}
use Rattle.hs_classes.specs.Steps.{declaration_step}
use Rattle.hs_classes.proofs.statements.declarations.Given as goal

-- the classes of those that are done
abbrev pub invariant-loop-it : goal.invariant-loop-it
invariant-loop-it l = l.classes ≡ fold (declaration_step l.within) l.fn.classes (take l.it-index l.its)
