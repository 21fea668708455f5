use Rattle.std.proofs.Common.{◌≡◌}
use Rattle.hs_expressions.specs.Roles.{is_filled}
use Rattle.hs_expressions.proofs.roles.is_filled.Given as goal

-- the parameters that are left decide
abbrev pub invariant-parameters : goal.invariant-parameters
invariant-parameters l = is_filled l.fn.types l.left l.list ≡ is_filled l.fn.types l.fn.place l.fn.parameters

abbrev pub decreases-parameters : goal.decreases-parameters
decreases-parameters l = l.left
