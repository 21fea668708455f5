use Rattle.std.proofs.Common.{◌≡◌, [], map, drop}
use Rattle.hs_branches.specs.Branches.{all_labelled}
use Rattle.hs_syntax.specs.Views.{view_label}
use Rattle.hs_branches.proofs.labels.all_labelled.Given as goal

-- what is left is a label after what is done
abbrev pub invariant-its : goal.invariant-its
invariant-its l =
    all_labelled l.done.items l.left (map view_label (drop l.it-index l.its)) l.m
    ≡ all_labelled [] l.fn.cases (map view_label l.its) l.fn.m
