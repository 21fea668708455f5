use Rattle.std.proofs.Common.{subst}
use Rattle.hs_calls.specs.Globals.{GlobalStays, step_keeps_global}
use Rattle.hs_calls.specs.Stacks.{RanTo}
use Rattle.hs_calls.proofs.laws.a_step_sets_no_other_global.Goals as goal

pub returns : goal.returns
returns c g program point next s t sets is =
    subst (RanTo (λ outcome u. Unit {0}) (λ it u. GlobalStays g s.machine u.machine)) is (step_keeps_global g program point s sets)
