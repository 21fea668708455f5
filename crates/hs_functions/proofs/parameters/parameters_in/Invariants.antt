use Rattle.std.proofs.Common.{◌≡◌, map, drop}
use Rattle.hs_functions.specs.Functions.{parameters_in}
use Rattle.hs_syntax.specs.RowViews.{view_parameter, parameters_from}
use Rattle.hs_functions.proofs.parameters.parameters_in.Given as goal

-- the parameters that are left are declared as all are
abbrev pub invariant-its : goal.invariant-its
invariant-its l =
    parameters_in l.at (parameters_from (map view_parameter (drop l.it-index l.its))) l.left l.m
    ≡ parameters_in l.at (parameters_from (map view_parameter l.its)) l.fn.list l.fn.m
