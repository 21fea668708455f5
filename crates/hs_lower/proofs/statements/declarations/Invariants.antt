use Rattle.std.proofs.Common.{◌≡◌, ◌≤◌, map, drop, length}
use Rattle.hs_tree.specs.Views.{view_declaration}
use Rattle.hs_lower.specs.Places.{setting_here, function_here}
use Rattle.hs_lower.specs.Writing.{declarations_steps}
use Rattle.hs_lower.proofs.statements.declarations.Given as goal

-- What is left, after the declarations so far, comes to what all come to.
abbrev pub invariant-loop-it : goal.invariant-loop-it
invariant-loop-it l =
    record {
      same :
          declarations_steps (setting_here l.lowering) (function_here l.lowering) (map view_declaration (drop l.it-index l.its)) l.text
          ≡ declarations_steps (setting_here l.lowering) (function_here l.lowering) (map view_declaration l.its) l.fn.text;
      keeps : length l.fn.text.ops ≤ length l.text.ops;
    }
