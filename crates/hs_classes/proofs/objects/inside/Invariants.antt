use Rattle.std.proofs.Common.{◌≡◌, fold, length}
use Rattle.hs_meaning.specs.Scalars.{scalars_of}
use Rattle.hs_classes.specs.Naming.{with_scalar}
use Rattle.hs_classes.specs.Steps.{program_in}
use Rattle.hs_classes.proofs.objects.inside.Given as goal

-- those that are left are named after what is done
abbrev pub invariant-scalars : goal.invariant-scalars
invariant-scalars l =
    fold (λ before its. with_scalar (program_in l.program) before its.type_id its.field) l.classes l.left
    ≡ fold (λ before its. with_scalar (program_in l.program) before its.type_id its.field) l.fn.classes (scalars_of l.program.types l.it.type_id)

-- one scalar fewer each time
abbrev pub decreases-scalars : goal.decreases-scalars
decreases-scalars l = length l.left
