use Rattle.std.proofs.Common.{◌≡◌, ◌≤◌, ◌++◌, drop, length}
use Rattle.hs_lowering.specs.Statements.{labels_at}
use Rattle.hs_lower.specs.Writing.{labels_steps}
use Rattle.hs_lower.proofs.statements.mark.Given as goal

-- What is left, after the labels so far, comes to what all come to.
abbrev pub invariant-loop-label : goal.invariant-loop-label
invariant-loop-label l =
    record {
      same : labels_steps (drop l.label-index l.its) l.text ≡ labels_steps l.its l.fn.text;
      noted :
          l.labels.items ++ labels_at (drop l.label-index l.its) (length l.text.ops) ≡ l.fn.labels.items ++ labels_at l.its (length l.fn.text.ops);
      keeps : length l.fn.text.ops ≤ length l.text.ops;
    }
