use Rattle.std.proofs.Common.{◌≡◌, length}
use Rattle.hs_tokens.specs.Lines.{unspliced}
use Rattle.hs_tokens.specs.Ahead.{lines_ahead}
use Rattle.hs_tokens.proofs.cursor.Cursor.next_of_lines.Given as goal

abbrev pub invariant-splices : goal.invariant-splices
invariant-splices l = unspliced (lines_ahead l.cursor) ≡ unspliced (lines_ahead l.initial.cursor)

abbrev pub decreases-splices : goal.decreases-splices
decreases-splices l = length l.cursor.rest.now
