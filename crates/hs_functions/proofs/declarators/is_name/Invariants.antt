use Rattle.std.proofs.Common.{◌≡◌}
use Rattle.hs_functions.specs.Functions.{is_name}
use Rattle.hs_syntax.specs.Views.{view_direct}
use Rattle.hs_functions.proofs.declarators.is_name.Given as goal

-- what is left decides
abbrev pub invariant-direct : goal.invariant-direct
invariant-direct l = is_name (view_direct l.direct) ≡ is_name (view_direct l.fn.it)
