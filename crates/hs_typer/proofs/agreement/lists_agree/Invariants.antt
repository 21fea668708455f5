use Rattle.std.proofs.Common.{◌≡◌, suc}
use Rattle.hs_typer.specs.Origins.{lists_agree_within, lists_agree}
use Rattle.hs_typer.proofs.agreement.lists_agree.Given as goal

-- the parameters that are left agree exactly if all do
abbrev pub invariant-lists : goal.invariant-lists
invariant-lists l =
    lists_agree_within (suc l.more) l.fn.types l.fn.origins l.left l.right ≡ lists_agree l.fn.types l.fn.origins l.fn.a l.fn.b

abbrev pub decreases-lists : goal.decreases-lists
decreases-lists l = l.more
