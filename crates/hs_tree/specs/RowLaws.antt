-- The view of a row of a list is made of the views of the list's entries.
--     rights_from, statements_from     the list of these entries
--     rights_seen, statements_seen     the row of a vector; statements_row: any row of statements
--     block_seen                       a block that is put together
use Rattle.std.proofs.Common.{◌≡◌, List, [], ◌∷◌, map, refl, ap, ◌∙◌, Vec}
use Rattle.std.specs.Global.{Global}
use Rattle.hs_tokens.specs.declared.place.Place.{Place}
use Rattle.hs_tree.specs.declared.statement.Block.{roll-Block, Row_of-Labelled, end_of-Labelled, more_of-Labelled, items-the_row-Labelled, items_hidden-the_row-Labelled-0}
use Rattle.hs_tree.specs.declared.statement.Declaration.{Declaration}
use Rattle.hs_tree.specs.declared.statement.Label.{Label}
use Rattle.hs_tree.specs.declared.statement.Labelled.{Labelled}
use Rattle.hs_tree.specs.declared.statement.Statement.TheBlock.{hidden-the_row-Labelled-0}
use Rattle.hs_tree.specs.declared.value.Lvalue.TheBlock.{hidden-the_row-Rvalue-0}
use Rattle.hs_tree.specs.declared.value.Rvalue.{Rvalue, Row_of-Rvalue, end_of-Rvalue, more_of-Rvalue, items-the_row-Rvalue, items_hidden-the_row-Rvalue-0}
use Rattle.hs_tree.specs.Trees as tree
use Rattle.hs_tree.specs.Trees.{RightValue, RightValues, TypedStatement, TypedStatements}
use Rattle.hs_tree.specs.Views.{view_right, view_rights, view_declaration, view_statement, view_statements, view_block}

abbrev pub rights_from : List RightValue → RightValues
rights_from [] = tree.no_values
rights_from (e ∷ rest) = tree.more_values e (rights_from rest)

rights_row : (m : _) (row : Row_of-Rvalue m) → view_rights row ≡ rights_from (map view_right (items-the_row-Rvalue m row))
rights_row _ end_of-Rvalue = refl
rights_row _ (more_of-Rvalue e rest) = ap (tree.more_values (view_right e)) (rights_row _ rest)

-- the row of expressions
pub rights_seen : (v : Vec Rvalue Global) → view_rights (hidden-the_row-Rvalue-0 v) ≡ rights_from (map view_right v.items)
rights_seen v = rights_row _ (hidden-the_row-Rvalue-0 v) ∙ ap (λ its. rights_from (map view_right its)) (items_hidden-the_row-Rvalue-0 v)

-- a statement with its labels
pub data OneStatement : Type 0 where
  one_statement : List Label → TypedStatement → OneStatement

abbrev pub view_labelled : Labelled → OneStatement
view_labelled it = one_statement it.labels.items (view_statement it.statement)

abbrev pub statements_from : List OneStatement → TypedStatements
statements_from [] = tree.no_statements
statements_from (one_statement labels it ∷ rest) = tree.more_statements labels it (statements_from rest)

pub statements_row : (m : _) (row : Row_of-Labelled m) → view_statements row ≡ statements_from (map view_labelled (items-the_row-Labelled m row))
statements_row _ end_of-Labelled = refl
statements_row _ (more_of-Labelled labels it rest) = ap (tree.more_statements labels.items (view_statement it)) (statements_row _ rest)

-- the row of labelled statements
pub statements_seen : (v : Vec Labelled Global) → view_statements (hidden-the_row-Labelled-0 v) ≡ statements_from (map view_labelled v.items)
statements_seen v = statements_row _ (hidden-the_row-Labelled-0 v) ∙ ap (λ its. statements_from (map view_labelled its)) (items_hidden-the_row-Labelled-0 v)

-- A block that is put together has the views of its lists.
pub block_seen : (opening closing : Place) (declarations : Vec Declaration Global) (statements : Vec Labelled Global)
    → view_block (roll-Block record { opening = opening; declarations = declarations; statements = statements; closing = closing })
    ≡ tree.compound opening (map view_declaration declarations.items) (statements_from (map view_labelled statements.items)) closing
unfolding roll-Block denote.Hole.Carrier.roll
block_seen opening closing declarations statements =
    ap (λ its. tree.compound opening (map view_declaration declarations.items) its closing) (statements_seen statements)
