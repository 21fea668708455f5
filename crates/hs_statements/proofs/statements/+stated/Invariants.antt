use Rattle.std.proofs.Common.{◌≡◌, [], map, drop}
use Rattle.hs_statements.specs.Statements.{all_stated}
use Rattle.hs_syntax.specs.StatementViews as syntax
use Rattle.hs_tree.specs.RowLaws.{view_labelled}
use Rattle.hs_statements.proofs.statements.+stated.Given as goal

-- what is left is typed after what is done
abbrev pub invariant-all_stated-its : goal.invariant-all_stated-its
invariant-all_stated-its l =
    all_stated l.at l.left (map view_labelled l.done.items) (syntax.statements_from (map syntax.view_labelled (drop l.it-index l.its))) l.m
    ≡ all_stated l.at l.fn.cases [] (syntax.statements_from (map syntax.view_labelled l.its)) l.fn.m
