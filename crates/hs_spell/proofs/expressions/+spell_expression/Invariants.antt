use Rattle.std.proofs.Common.{◌≡◌, ◌+◌, ℕ, Bool, List, ◌++◌, map, drop, length}
use Rattle.hs_syntax.specs.Grammar.{lefts_form, arguments_form, specification_form, members_form, constants_form, declarators_form, parameters_form}
use Rattle.hs_syntax.specs.RowViews.{view_left, view_member, view_constant, view_parameter, expressions_from, lefts_from, members_from, constants_from, declarators_from, parameters_from}
use Rattle.hs_spell.specs.Spelling.{token_of}
use Rattle.hs_syntax.specs.Views.{view, view_declarator, specification_of}
use Rattle.hs_spell.proofs.expressions.+spell_expression.Given as goal

-- In each loop those that are left make what is to be written.
abbrev pub invariant-expressions-loop-it : goal.invariant-expressions-loop-it
invariant-expressions-loop-it l = (l.left + l.it-index ≡ length l.its) × ((known : List (List ℕ)) →
    l.tokens.items ++ map token_of (arguments_form known (expressions_from (map view (drop l.it-index l.its)))).pieces
    ≡ l.fn.tokens.items ++ map token_of (arguments_form known (expressions_from (map view l.its))).pieces)

abbrev pub invariant-lefts-loop-it : goal.invariant-lefts-loop-it
invariant-lefts-loop-it l = (known : List (List ℕ)) →
    l.tokens.items ++ map token_of (lefts_form known (lefts_from (map view_left (drop l.it-index l.its)))).pieces
    ≡ l.fn.tokens.items ++ map token_of (lefts_form known (lefts_from (map view_left l.its))).pieces

abbrev pub invariant-specifiers-loop-it : goal.invariant-specifiers-loop-it
invariant-specifiers-loop-it l = (known : List (List ℕ)) (typed : Bool) →
    l.tokens.items ++ map token_of (specification_form known typed (specification_of (drop l.it-index l.its))).pieces
    ≡ l.fn.tokens.items ++ map token_of (specification_form known typed (specification_of l.its)).pieces

abbrev pub invariant-members-loop-it : goal.invariant-members-loop-it
invariant-members-loop-it l = (known : List (List ℕ)) →
    l.tokens.items ++ map token_of (members_form known (members_from (map view_member (drop l.it-index l.its)))).pieces
    ≡ l.fn.tokens.items ++ map token_of (members_form known (members_from (map view_member l.its))).pieces

abbrev pub invariant-constants-loop-it : goal.invariant-constants-loop-it
invariant-constants-loop-it l = (l.left + l.it-index ≡ length l.its) × ((known : List (List ℕ)) →
    l.tokens.items ++ map token_of (constants_form known (constants_from (map view_constant (drop l.it-index l.its)))).pieces
    ≡ l.fn.tokens.items ++ map token_of (constants_form known (constants_from (map view_constant l.its))).pieces)

abbrev pub invariant-declarators-loop-it : goal.invariant-declarators-loop-it
invariant-declarators-loop-it l = (l.left + l.it-index ≡ length l.its) × ((known : List (List ℕ)) →
    l.tokens.items ++ map token_of (declarators_form known (declarators_from (map view_declarator (drop l.it-index l.its)))).pieces
    ≡ l.fn.tokens.items ++ map token_of (declarators_form known (declarators_from (map view_declarator l.its))).pieces)

abbrev pub invariant-parameters-loop-it : goal.invariant-parameters-loop-it
invariant-parameters-loop-it l = (l.left + l.it-index ≡ length l.its) × ((known : List (List ℕ)) →
    l.tokens.items ++ map token_of (parameters_form known (parameters_from (map view_parameter (drop l.it-index l.its)))).pieces
    ≡ l.fn.tokens.items ++ map token_of (parameters_form known (parameters_from (map view_parameter l.its))).pieces)
