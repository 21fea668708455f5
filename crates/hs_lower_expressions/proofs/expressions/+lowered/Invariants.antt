use Rattle.std.proofs.Common.{◌≡◌, ◌≤◌, ◌+◌, map, drop, length}
use Rattle.hs_tree.specs.RowLaws.{rights_from}
use Rattle.hs_tree.specs.Views.{view_right}
use Rattle.hs_lower_expressions.specs.Contexts.{setting_in}
use Rattle.hs_lower_expressions.specs.Emits.{most_ops}
use Rattle.hs_lower_expressions.specs.Emitting.{all_emitted, dropped_emitted, count}
use Rattle.hs_lower_expressions.proofs.expressions.+lowered.Given as goal

-- In each loop what is left, after the operations so far, comes to what all come to.
abbrev pub invariant-arguments-loop-e : goal.invariant-arguments-loop-e
invariant-arguments-loop-e l =
    record {
      same :
          all_emitted (setting_in l.context) l.context.variables.now l.context.piece (rights_from (map view_right (drop l.e-index l.its))) l.above l.ops
          ≡ all_emitted (setting_in l.context) l.context.variables.now l.context.piece (rights_from (map view_right l.its)) l.fn.depth l.fn.ops;
      counted : l.above + count (rights_from (map view_right (drop l.e-index l.its))) ≡ l.fn.depth + count (rights_from (map view_right l.its));
      fits : l.above ≤ length l.ops;
      keeps : length l.fn.ops ≤ length l.ops;
      few : length l.ops ≤ most_ops;
    }

abbrev pub invariant-dropped-loop-e : goal.invariant-dropped-loop-e
invariant-dropped-loop-e l =
    record {
      same :
          dropped_emitted (setting_in l.context) l.context.variables.now l.context.piece l.head
          (rights_from (map view_right (drop l.e-index l.its))) l.depth l.ops
          ≡ dropped_emitted (setting_in l.context) l.context.variables.now l.context.piece l.head (rights_from (map view_right l.its)) l.depth l.fn.ops;
      keeps : length l.fn.ops ≤ length l.ops;
      few : length l.ops ≤ most_ops;
    }
