-- The view of a row of initialisers or of statements is made of the views of the list's entries.
use Rattle.std.proofs.Common.{◌≡◌, map, refl, ap, sym, ◌∙◌, Vec}
use Rattle.std.specs.Global.{Global}
use Rattle.hs_syntax.specs.declared.decl.Decl.{Decl}
use Rattle.hs_syntax.specs.declared.decl.Initialiser.{Initialiser, Row_of-Initialiser, end_of-Initialiser, more_of-Initialiser, items-the_row-Initialiser, items_hidden-the_row-Initialiser-0}
use Rattle.hs_syntax.specs.declared.decl.Initialiser.TheBlock.{hidden-the_row-Initialiser-0}
use Rattle.hs_syntax.specs.declared.stmt.Block.{Block, Block', out-Block, roll-Block, Row_of-Labelled, end_of-Labelled, more_of-Labelled, items-the_row-Labelled, items_hidden-the_row-Labelled-0}
use Rattle.hs_syntax.specs.declared.stmt.Stmt.TheBlock.{hidden-the_row-Labelled-0, shown-the_row-Labelled-0, items_shown-the_row-Labelled-0}
use Rattle.hs_syntax.specs.declared.stmt.Labelled.{Labelled}
use Rattle.hs_tokens.specs.declared.place.Place.{Place}
use Rattle.hs_syntax.specs.StatementViews.{view_labelled, initialisers_from, statements_from}
use Rattle.hs_syntax.specs.Trees as tree
use Rattle.hs_syntax.specs.Views.{view_initialiser, view_initialisers, view_declaration, view_label, view_statement, view_statements, view_block}

-- each initialiser with its view
initialisers_row : (m : _) (row : Row_of-Initialiser m) → view_initialisers row ≡ initialisers_from (map view_initialiser (items-the_row-Initialiser m row))
initialisers_row _ end_of-Initialiser = refl
initialisers_row _ (more_of-Initialiser it rest) = ap (tree.more_initialisers (view_initialiser it)) (initialisers_row _ rest)

-- the row of initialisers
pub initialisers_seen : (v : Vec Initialiser Global) → view_initialisers (hidden-the_row-Initialiser-0 v) ≡ initialisers_from (map view_initialiser v.items)
initialisers_seen v = initialisers_row _ (hidden-the_row-Initialiser-0 v)
    ∙ ap (λ its. initialisers_from (map view_initialiser its)) (items_hidden-the_row-Initialiser-0 v)

-- each labelled statement with its view
statements_row : (m : _) (row : Row_of-Labelled m) → view_statements row ≡ statements_from (map view_labelled (items-the_row-Labelled m row))
statements_row _ end_of-Labelled = refl
statements_row _ (more_of-Labelled labels it rest) = ap (tree.more_statements (map view_label labels.items) (view_statement it)) (statements_row _ rest)

-- the row of labelled statements
pub statements_seen : (v : Vec Labelled Global) → view_statements (hidden-the_row-Labelled-0 v) ≡ statements_from (map view_labelled v.items)
statements_seen v = statements_row _ (hidden-the_row-Labelled-0 v) ∙ ap (λ its. statements_from (map view_labelled its)) (items_hidden-the_row-Labelled-0 v)

-- The view of a block is made of its lists.
pub view_block-out : (it : Block) → view_block it
    ≡ tree.compound (out-Block it).opening (map view_declaration (out-Block it).declarations.items)
    (statements_from (map view_labelled (out-Block it).statements.items)) (out-Block it).closing
unfolding out-Block shown-the_row-Labelled-0 denote.Hole.Carrier.out denote.Hole.Carrier.shown
view_block-out (Block' opening declarations shape its closing) =
    let stated : view_statements its ≡ statements_from (map view_labelled (shown-the_row-Labelled-0 shape its).items) =
    statements_row _ its ∙ ap (λ its. statements_from (map view_labelled its)) (sym (items_shown-the_row-Labelled-0 shape its)) in
    ap (λ statements. tree.compound opening (map view_declaration declarations.items) statements closing) stated

-- A block that is put together has the views of its lists.
pub block_seen : (opening closing : Place) (declarations : Vec Decl Global) (statements : Vec Labelled Global)
    → view_block (roll-Block record { opening = opening; declarations = declarations; statements = statements; closing = closing })
    ≡ tree.compound opening (map view_declaration declarations.items) (statements_from (map view_labelled statements.items)) closing
unfolding roll-Block denote.Hole.Carrier.roll
block_seen opening closing declarations statements =
    ap (λ its. tree.compound opening (map view_declaration declarations.items) its closing) (statements_seen statements)

-- Lists with the same views have the same view in a row.
pub view_initialisers-same : (v w : Vec Initialiser Global) → map view_initialiser v.items ≡ map view_initialiser w.items
    → view_initialisers (hidden-the_row-Initialiser-0 v) ≡ view_initialisers (hidden-the_row-Initialiser-0 w)
view_initialisers-same v w same = initialisers_seen v ∙ ap initialisers_from same ∙ sym (initialisers_seen w)
