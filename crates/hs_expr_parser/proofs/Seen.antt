-- The views of trees with lists, by the views of the lists' entries.
use Rattle.std.proofs.Common.{◌≡◌, List, [], ◌∷◌, map, Vec, refl, ap, ◌∙◌}
use Rattle.std.specs.Global.{Global}
use Rattle.hs_syntax.specs.RowLaws.{specification_of-from, lefts_seen, view_member-rolled}
use Rattle.hs_syntax.specs.RowViews.{view_left, view_member, one_member, lefts_from, specification_from, declarators_from}
use Rattle.hs_syntax.specs.Trees as tree
use Rattle.hs_syntax.specs.Trees.{Expression}
use Rattle.hs_expr_parser.specs.Reading.{joined}
use Rattle.hs_syntax.specs.Views.{view_lefts, view_specifier, view_declarator}
use Rattle.hs_syntax.specs.declared.expr.Constant.TheBlock.{hidden-the_row-Left-3}
use Rattle.hs_syntax.specs.declared.expr.Declarator.{Declarator}
use Rattle.hs_syntax.specs.declared.expr.Left.{Left}
use Rattle.hs_syntax.specs.declared.expr.Member.{roll-Member}
use Rattle.hs_syntax.specs.declared.expr.Specifier.{Specifier}

pub member_seen : (specifiers : Vec Specifier Global) (declarators : Vec Declarator Global)
    → view_member (roll-Member record { specifiers = specifiers; declarators = declarators })
    ≡ one_member (specification_from (map view_specifier specifiers.items)) (declarators_from (map view_declarator declarators.items))
member_seen specifiers declarators =
    view_member-rolled specifiers declarators
    ∙ ap (λ its. one_member its (declarators_from (map view_declarator declarators.items))) (specification_of-from specifiers.items)

-- the expression of left operands, of which there is one
pub sequence_seen : (v : Vec Left Global) (right : Expression) → (v.items ≡ [] → ⊥)
    → tree.comma (view_lefts (hidden-the_row-Left-3 v)) right ≡ joined (map view_left v.items) right
sequence_seen v right some = ap (λ its. tree.comma its right) (lefts_seen v) ∙ by_items v.items some
  where
    by_items : (its : List Left) → (its ≡ [] → ⊥) → tree.comma (lefts_from (map view_left its)) right ≡ joined (map view_left its) right
    by_items [] some = absurd (some refl)
    by_items (it ∷ rest) some = refl
