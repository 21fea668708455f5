use Rattle.std.proofs.Common.{◌≡◌, map, []}
use Rattle.hs_operands.specs.Assignments.{matched}
use Rattle.hs_tree.specs.Views.{view_right}
use Rattle.hs_operands.proofs.calls.matched.Given as goal

-- the arguments so far, and those that are left, are matched as all are
abbrev pub invariant-arguments : goal.invariant-arguments
invariant-arguments l =
    (goal.iterator-arguments).can_next l.argument-iterator
    × (goal.iterator-arguments).is_finite l.argument-iterator
    × (matched l.types l.fn.at (map view_right l.done.items) l.list (map view_right l.argument-iterator.rest.items)
    ≡ matched l.types l.fn.at [] l.fn.parameters (map view_right l.fn.arguments.items))
