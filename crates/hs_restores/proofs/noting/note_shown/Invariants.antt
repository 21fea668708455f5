use Rattle.hs_restores.specs.Restoring.{AddsShown}
use Rattle.hs_tree.specs.Trees.{TypedFunction}
use Rattle.hs_restores.specs.Stepping.{scope_in}
use Rattle.hs_restores.proofs.noting.note_shown.Given as goal

-- those so far are noted
abbrev pub invariant-ops : goal.invariant-ops
invariant-ops l =
    (function : TypedFunction) → AddsShown (scope_in l.program function) l.plan l.rows l.ops l.at l.fn.restores l.restores
