-- A list of expressions, one on.
--     all_on, all_next, all_end             the arguments of a call
--     dropped_on, dropped_next, dropped_end     the left operands of a comma
use Rattle.std.proofs.Common.{◌≡◌, ◌≤◌, ◌<◌, ◌+◌, ℕ, suc, List, ◌∷◌, length, map, drop, get_or, Some, sym, ◌∙◌, ap}
use Rattle.std.proofs.lemmas.List.{drop_more, drop_all}
use Rattle.hs_code.specs.declared.function_code.Placed.{Placed}
use Rattle.hs_code.specs.declared.op.Op.TheVariants as op
use Rattle.hs_meaning.specs.Settings.{Setting}
use Rattle.hs_tree.specs.RowLaws.{rights_from}
use Rattle.hs_tree.specs.Views.{view_right}
use Rattle.hs_tree.specs.declared.head.Head.{Head}
use Rattle.hs_tree.specs.declared.head.VariableDecl.{VariableDecl}
use Rattle.hs_tree.specs.declared.value.Rvalue.{Rvalue}
use Rattle.hs_lower_expressions.specs.Emits.{most_ops}
use Rattle.hs_lower_expressions.specs.Emitting.{◌>>=◌, pushed, count, right_emitted, all_emitted, dropped_emitted}
use Rattle.hs_lower_expressions.proofs.Equations.{all_done, all_more, dropped_done, dropped_more}

module _ (setting : Setting) (variables : List VariableDecl) (piece : ℕ) (all : List Rvalue) (i : ℕ) where
  module _ (e : Rvalue) (within : i < length all) (is : e ≡ get_or all i e) where
    -- what is left begins with the element
    here : drop i all ≡ e ∷ drop (i + 1) all
    here = drop_more all i e within ∙ ap (λ first. first ∷ drop (i + 1) all) (sym is)

    pub counted_on : count (rights_from (map view_right (drop i all))) ≡ suc (count (rights_from (map view_right (drop (i + 1) all))))
    counted_on = ap (λ its. count (rights_from (map view_right its))) here

    pub all_on : (depth : ℕ) (ops : List Placed)
        → all_emitted setting variables piece (rights_from (map view_right (drop i all))) depth ops
        ≡ (right_emitted setting variables piece (view_right e) depth ops
        >>= (λ mid. all_emitted setting variables piece (rights_from (map view_right (drop (i + 1) all))) (depth + 1) mid))
    all_on depth ops =
        ap (λ its. all_emitted setting variables piece (rights_from (map view_right its)) depth ops) here
        ∙ all_more setting variables piece (view_right e) (rights_from (map view_right (drop (i + 1) all))) depth ops

    pub all_next : (depth : ℕ) (ops mid : List Placed) → right_emitted setting variables piece (view_right e) depth ops ≡ Some mid
        → all_emitted setting variables piece (rights_from (map view_right (drop (i + 1) all))) (depth + 1) mid
        ≡ all_emitted setting variables piece (rights_from (map view_right (drop i all))) depth ops
    all_next depth ops mid emitted =
        sym (all_on depth ops
        ∙ ap (λ x. x >>= (λ mid. all_emitted setting variables piece (rights_from (map view_right (drop (i + 1) all))) (depth + 1) mid)) emitted)

    pub dropped_on : (head : Head) (depth : ℕ) (ops : List Placed)
        → dropped_emitted setting variables piece head (rights_from (map view_right (drop i all))) depth ops
        ≡ (right_emitted setting variables piece (view_right e) depth ops
        >>= (λ mid. pushed piece head op.Drop (depth + 1) mid
        >>= (λ last. dropped_emitted setting variables piece head (rights_from (map view_right (drop (i + 1) all))) depth last)))
    dropped_on head depth ops =
        ap (λ its. dropped_emitted setting variables piece head (rights_from (map view_right its)) depth ops) here
        ∙ dropped_more setting variables piece head (view_right e) (rights_from (map view_right (drop (i + 1) all))) depth ops

    pub dropped_next : (head : Head) (depth : ℕ) (ops mid last : List Placed) → right_emitted setting variables piece (view_right e) depth ops ≡ Some mid
        → pushed piece head op.Drop (depth + 1) mid ≡ Some last
        → dropped_emitted setting variables piece head (rights_from (map view_right (drop (i + 1) all))) depth last
        ≡ dropped_emitted setting variables piece head (rights_from (map view_right (drop i all))) depth ops
    dropped_next head depth ops mid last emitted dropped =
        sym (dropped_on head depth ops
        ∙ ap (λ x. x >>= (λ mid. pushed piece head op.Drop (depth + 1) mid
        >>= (λ last. dropped_emitted setting variables piece head (rights_from (map view_right (drop (i + 1) all))) depth last))) emitted
        ∙ ap (λ x. x >>= (λ last. dropped_emitted setting variables piece head (rights_from (map view_right (drop (i + 1) all))) depth last)) dropped)

  module _ (past : length all ≤ i) where
    pub all_end : (depth : ℕ) (ops : List Placed) → length ops ≤ most_ops
        → all_emitted setting variables piece (rights_from (map view_right (drop i all))) depth ops ≡ Some ops
    all_end depth ops few =
        ap (λ its. all_emitted setting variables piece (rights_from (map view_right its)) depth ops) (drop_all i all past)
        ∙ all_done setting variables piece depth ops few

    pub dropped_end : (head : Head) (depth : ℕ) (ops : List Placed) → length ops ≤ most_ops
        → dropped_emitted setting variables piece head (rights_from (map view_right (drop i all))) depth ops ≡ Some ops
    dropped_end head depth ops few =
        ap (λ its. dropped_emitted setting variables piece head (rights_from (map view_right its)) depth ops) (drop_all i all past)
        ∙ dropped_done setting variables piece head depth ops few
