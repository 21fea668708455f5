use Rattle.std.proofs.Common.{◌≡◌, [], map, drop}
use Rattle.hs_statements.specs.Statements.{declared_all}
use Rattle.hs_syntax.specs.Views as syntax
use Rattle.hs_tree.specs.Views.{view_declaration}
use Rattle.hs_statements.proofs.statements.declared_all.Given as goal

-- what is left is declared after what is done
abbrev pub invariant-its : goal.invariant-its
invariant-its l =
    declared_all l.at (map view_declaration l.done.items) (map syntax.view_declaration (drop l.it-index l.its)) l.m
    ≡ declared_all l.at [] (map syntax.view_declaration l.its) l.fn.m
