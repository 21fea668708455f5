use Rattle.std.proofs.Common.{◌≡◌, ◌++◌, drop}
use Rattle.hs_restores.specs.Stepping.{part_in, scope_in, steps_by}
use Rattle.hs_tree.specs.Trees.{TypedFunction}
use Rattle.hs_restores.proofs.stepping.steps_by.Given as goal

-- those that are left come after what is done
abbrev pub invariant-ops : goal.invariant-ops
invariant-ops l =
    (function : TypedFunction)
    → l.steps.items ++ steps_by (scope_in l.program function) l.window.names.now (part_in l.window) l.slots (drop l.its-index l.ops)
    ≡ steps_by (scope_in l.program function) l.window.names.now (part_in l.window) l.slots l.ops
