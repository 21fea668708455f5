use Rattle.std.proofs.Common.{◌≡◌, map, drop, [], Some}
use Rattle.hs_expressions.specs.Expressions.{typed_all, typed_lefts, specified, members_of, members_as, constants_of, parameter_types}
use Rattle.hs_typer.specs.Specifiers.{no_specifiers}
use Rattle.hs_syntax.specs.RowViews.{view_left, view_member, view_constant, view_parameter, expressions_from, lefts_from, members_from, constants_from, declarators_from, parameters_from}
use Rattle.hs_syntax.specs.Views.{view, view_declarator, specification_of}
use Rattle.hs_tree.specs.Views.{view_right}
use Rattle.hs_expressions.proofs.expressions.+typed.Given as goal

-- In each loop those that are left, after those so far, are typed as all are.
abbrev pub invariant-values-its : goal.invariant-values-its
invariant-values-its l =
    typed_all (map view_right l.done.items) (expressions_from (map view (drop l.it-index l.its))) l.typer
    ≡ typed_all [] (expressions_from (map view l.its)) l.fn.typer

abbrev pub invariant-lefts-its : goal.invariant-lefts-its
invariant-lefts-its l =
    typed_lefts (map view_right l.done.items) (lefts_from (map view_left (drop l.it-index l.its))) l.typer
    ≡ typed_lefts [] (lefts_from (map view_left l.its)) l.fn.typer

abbrev pub invariant-specifiers-its : goal.invariant-specifiers-its
invariant-specifiers-its l =
    specified l.stored l.first l.done (specification_of (drop l.it-index l.its)) l.typer
    ≡ specified l.stored l.first no_specifiers (specification_of l.its) l.fn.typer

abbrev pub invariant-all_members-its : goal.invariant-all_members-its
invariant-all_members-its l =
    members_of l.at l.done (members_from (map view_member (drop l.it-index l.its))) l.typer
    ≡ members_of l.at [] (members_from (map view_member l.its)) l.fn.typer

abbrev pub invariant-with_members-its : goal.invariant-with_members-its
invariant-with_members-its l =
    members_as l.first l.id l.all (declarators_from (map view_declarator (drop l.it-index l.its))) l.typer
    ≡ members_as l.first l.id l.fn.done (declarators_from (map view_declarator l.its)) l.fn.typer

abbrev pub invariant-all_constants-its : goal.invariant-all_constants-its
invariant-all_constants-its l =
    constants_of l.done.items l.next (constants_from (map view_constant (drop l.it-index l.its))) l.typer
    ≡ constants_of [] (Some 0) (constants_from (map view_constant l.its)) l.fn.typer

abbrev pub invariant-parameter_types-its : goal.invariant-parameter_types-its
invariant-parameter_types-its l =
    parameter_types l.at l.place l.done.items (parameters_from (map view_parameter (drop l.it-index l.its))) l.typer
    ≡ parameter_types l.at 0 [] (parameters_from (map view_parameter l.its)) l.fn.typer
