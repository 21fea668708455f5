use Rattle.std.proofs.Common.{◌≡◌, ◌≤◌, ◌++◌, map, drop}
use Rattle.hs_lower_expressions.specs.Emits.{most_ops}
use Rattle.hs_lowering.specs.Statements.{functions_code}
use Rattle.hs_tree.specs.Views.{view_function}
use Rattle.hs_lower.specs.Places.{setting_with}
use Rattle.hs_lower.specs.Writing.{count_ops}
use Rattle.hs_lower.proofs.program.functions.Given as goal

-- The code so far, and that of the functions that are left, is all of it.
abbrev pub invariant-loop-function : goal.invariant-loop-function
invariant-loop-function l =
    record {
      same :
          l.done.items ++ functions_code (setting_with l.program l.classes) (map view_function (drop l.function-index l.its))
          ≡ functions_code (setting_with l.program l.classes) (map view_function l.its);
      counted : l.count ≡ count_ops l.done.items;
      few : l.count ≤ most_ops;
    }
