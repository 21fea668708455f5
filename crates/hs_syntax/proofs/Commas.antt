-- The left operands of commas: the last comma and the first operand.
--     last_comma-split             the last comma is that of the last operand
--     position_of-comma            of commas, in words of the list of operands; first_of-comma likewise
--     first_of_lefts-none          without operands
use Rattle.std.proofs.Common.{◌≡◌, List, [], ◌∷◌, ◌++◌, length, map, refl, sym, ap, ◌∙◌, Vec, arith}
use Rattle.std.specs.Global.{Global}
use Rattle.std.proofs.lemmas.List.{map-append}
use Rattle.hs_syntax.specs.Positions.{position_of, last_comma, first_of, first_of_lefts}
use Rattle.hs_syntax.specs.RowViews.{OneLeft, one_left, view_left, lefts_from}
use Rattle.hs_syntax.specs.RowLaws.{lefts_seen}
use Rattle.hs_syntax.specs.Trees as tree
use Rattle.hs_syntax.specs.Trees.{Expression}
use Rattle.hs_syntax.specs.Views.{view_lefts}
use Rattle.hs_syntax.specs.declared.expr.Constant.TheBlock.{hidden-the_row-Left-3}
use Rattle.hs_syntax.specs.declared.expr.Left.{Left}
use Rattle.hs_tokens.specs.declared.place.Place.{Place}

-- by recursion on the operands in front
behind_all : (its : List OneLeft) (e : Expression) (at other : Place) → last_comma other (lefts_from (its ++ one_left e at ∷ [])) ≡ at
behind_all [] e at other = refl
behind_all (one_left first place ∷ rest) e at other = behind_all rest e at place

-- the last operand is split off
pub last_comma-split : (lefts front : List Left) (left : Left) (other : Place) → lefts ≡ front ++ left ∷ []
    → last_comma other (lefts_from (map view_left lefts)) ≡ left.at
last_comma-split lefts front left other is =
    ap (λ its. last_comma other (lefts_from (map view_left its))) is
    ∙ ap (λ its. last_comma other (lefts_from its)) (map-append view_left front (left ∷ []))
    ∙ behind_all (map view_left front) _ left.at other

module _ (v : Vec Left Global) (its : List Left) (right : Expression) (is : its ≡ v.items) where
  -- the row of the operands is the list of them
  row : view_lefts (hidden-the_row-Left-3 v) ≡ lefts_from (map view_left its)
  row = lefts_seen v ∙ ap (λ its. lefts_from (map view_left its)) (sym is)

  pub position_of-comma : position_of (tree.comma (view_lefts (hidden-the_row-Left-3 v)) right)
      ≡ last_comma (position_of right) (lefts_from (map view_left its))
  position_of-comma = ap (last_comma (position_of right)) row

  pub first_of-comma : first_of (tree.comma (view_lefts (hidden-the_row-Left-3 v)) right)
      ≡ first_of_lefts (first_of right) (lefts_from (map view_left its))
  first_of-comma = ap (first_of_lefts (first_of right)) row

pub first_of_lefts-none : (its : List Left) (other : Place) → length its ≡ 0 → first_of_lefts other (lefts_from (map view_left its)) ≡ other
first_of_lefts-none [] other none = refl
first_of_lefts-none (left ∷ rest) other none = absurd (omega arith)
