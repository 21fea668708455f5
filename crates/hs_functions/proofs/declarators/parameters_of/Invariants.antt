use Rattle.std.proofs.Common.{◌≡◌}
use Rattle.hs_functions.specs.Functions.{parameters_of, parameters_of_direct}
use Rattle.hs_syntax.specs.Views.{view_declarator, view_direct}
use Rattle.hs_functions.proofs.declarators.parameters_of.Given as goal

-- what is left has the parameters
abbrev pub invariant-direct : goal.invariant-direct
invariant-direct l = parameters_of_direct (view_direct l.direct) ≡ parameters_of (view_declarator l.fn.it)
