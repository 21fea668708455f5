use Rattle.std.proofs.Common.{◌≡◌, ◌≤◌, map, drop, length}
use Rattle.hs_tree.specs.Views.{view_item}
use Rattle.hs_lower.specs.Places.{setting_here, function_here}
use Rattle.hs_lower.specs.Writing.{items_steps}
use Rattle.hs_lower.proofs.statements.items.Given as goal

-- What is left, after the values so far, comes to what all come to.
abbrev pub invariant-loop-item : goal.invariant-loop-item
invariant-loop-item l =
    record {
      same :
          items_steps (setting_here l.lowering) (function_here l.lowering) l.piece (map view_item (drop l.item-index l.its)) l.text
          ≡ items_steps (setting_here l.lowering) (function_here l.lowering) l.piece (map view_item l.its) l.fn.text;
      keeps : length l.fn.text.ops ≤ length l.text.ops;
    }
