use Rattle.std.proofs.Common.{◌≡◌, ◌≤◌, [], map, length}
use Rattle.hs_syntax.specs.Views.{view_label}
use Rattle.hs_decl_parser.specs.Steps.{labels_at}
use Rattle.hs_decl_parser.proofs.labels.labels.Given as goal

-- what is left after the labels so far
abbrev pub invariant-labels : goal.invariant-labels
invariant-labels l = (labels_at l.known (map view_label l.its.items) l.rest ≡ labels_at l.known [] l.tokens) × (length l.rest ≤ length l.tokens)

abbrev pub decreases-labels : goal.decreases-labels
decreases-labels l = length l.rest
