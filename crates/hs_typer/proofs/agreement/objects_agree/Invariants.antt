use Rattle.std.proofs.Common.{◌≡◌}
use Rattle.hs_typer.specs.Origins.{objects_agree_within, objects_agree}
use Rattle.hs_typer.proofs.agreement.objects_agree.Given as goal

-- the types inside agree exactly if all do
abbrev pub invariant-inside : goal.invariant-inside
invariant-inside l =
    objects_agree_within l.more l.fn.types l.fn.origins l.inside.left l.inside.right ≡ objects_agree l.fn.types l.fn.origins l.fn.a l.fn.b

abbrev pub decreases-inside : goal.decreases-inside
decreases-inside l = l.more
