use Rattle.std.proofs.Common.{◌≡◌, ◌≤◌, ◌++◌, map, drop, length}
use Rattle.hs_lowering.specs.Statements.{list_code}
use Rattle.hs_tree.specs.RowLaws.{statements_from, view_labelled}
use Rattle.hs_lower.specs.Places.{setting_here, function_here}
use Rattle.hs_lower.specs.Writing.{counts_of, unknown, list_steps}
use Rattle.hs_lower.proofs.statements.+written.Given as goal

-- What is left, after the statements so far, comes to what all come to; so do the labels.
abbrev pub invariant-list-loop-it : goal.invariant-list-loop-it
invariant-list-loop-it l =
    record {
      same :
          list_steps (setting_here l.lowering) (function_here l.lowering) (statements_from (map view_labelled (drop l.it-index l.its))) l.text
          ≡ list_steps (setting_here l.lowering) (function_here l.lowering) (statements_from (map view_labelled l.its)) l.fn.text;
      noted :
          l.labels.items
          ++ (list_code (setting_here l.lowering) (function_here l.lowering) (statements_from (map view_labelled (drop l.it-index l.its)))
          (counts_of l.text) unknown (length l.text.ops)).labels
          ≡ (list_code (setting_here l.lowering) (function_here l.lowering) (statements_from (map view_labelled l.its)) (counts_of l.fn.text) unknown
          (length l.fn.text.ops)).labels;
      keeps : length l.fn.text.ops ≤ length l.text.ops;
    }
