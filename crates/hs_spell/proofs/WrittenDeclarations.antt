-- What is left to write of the lists of declarations and statements, one element on.
use Rattle.std.proofs.Common.{◌≡◌, ℕ, false, List, [], ◌∷◌, ◌++◌, map, refl, sym, ap, append_assoc, append-nil}
use Rattle.std.specs.Prelude.{codes, option_map}
use Rattle.hs_syntax.specs.Forms.{mark, keyword_at}
use Rattle.hs_syntax.specs.Grammar.{initialiser_form, initialisers_form, start_form, items_form, declarator_form, expression_form, labels_form}
use Rattle.hs_syntax.specs.StatementViews.{initialisers_from}
use Rattle.hs_syntax.specs.Parts.{comma_form}
use Rattle.hs_syntax.specs.Views.{view, view_label, view_initialiser, view_item, view_declarator}
use Rattle.hs_syntax.specs.declared.decl.Initialiser.{Initialiser}
use Rattle.hs_syntax.specs.declared.decl.Item.{Item}
use Rattle.hs_syntax.specs.declared.stmt.Label.{Label}
use Rattle.hs_syntax.specs.declared.stmt.Label.TheVariants.{Case, Default}
use Rattle.hs_spell.proofs.Written.{has_more}

-- Initialisers, one on.
pub initialisers_on : (known : List (List ℕ)) (it : Initialiser) (rest : List Initialiser)
    → (initialisers_form known (initialisers_from (map view_initialiser (it ∷ rest)))).pieces
    ≡ (initialiser_form known (view_initialiser it)).pieces
    ++ ((comma_form (has_more rest)).pieces ++ (initialisers_form known (initialisers_from (map view_initialiser rest))).pieces)
initialisers_on known it [] = refl
initialisers_on known it (other ∷ rest) = refl

-- Items, one on.
pub items_on : (known : List (List ℕ)) (it : Item) (rest : List Item) → (items_form known (map view_item (it ∷ rest))).pieces
    ≡ (items_form known (view_item it ∷ [])).pieces ++ ((comma_form (has_more rest)).pieces ++ (items_form known (map view_item rest)).pieces)
items_on known it [] = sym (append-nil (items_form known (view_item it ∷ [])).pieces)
items_on known it (next ∷ rest) =
    sym (append_assoc (declarator_form known false (view_declarator it.declarator)).pieces
    (start_form known (option_map view_initialiser it.initialiser)).pieces
    ((mark (codes ",")).pieces ++ (items_form known (map view_item (next ∷ rest))).pieces))

-- Labels, one on.
pub labels_on : (known : List (List ℕ)) (it : Label) (rest : List Label) → (labels_form known (map view_label (it ∷ rest))).pieces
    ≡ (labels_form known (view_label it ∷ [])).pieces ++ (labels_form known (map view_label rest)).pieces
labels_on known (Case at e) rest =
    ap (λ pieces. (keyword_at at (codes "case")).pieces ++ pieces)
    (sym (append_assoc (expression_form known (view e)).pieces (mark (codes ":")).pieces (labels_form known (map view_label rest)).pieces))
labels_on known (Default at) rest = refl
