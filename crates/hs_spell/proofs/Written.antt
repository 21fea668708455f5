-- What is left to write of a list, one element on.
--     twice, behind, after, next, one_on, comma_on      on plain lists
--     arguments_on, constants_on, ..                     of the lists of the grammar
use Rattle.std.proofs.Common.{◌≡◌, ℕ, suc, ◌+◌, ◌-◌, ◌<◌, Bool, get_or, drop, length-drop, arith, true, false, List, [], ◌∷◌, ◌++◌, map, refl, sym, ap, ◌∙◌, append_assoc, append-nil, nat_lt, length}
use Rattle.std.proofs.lemmas.List.{map-append, drop_more}
use Rattle.std.proofs.lemmas.Bool.Decides.{nat_tests}
use Rattle.std.specs.Prelude.{codes, Result, Ok, Err, OnOk}
use Rattle.hs_base.specs.declared.errors.NoMemory.{NoMemory}
use Rattle.hs_tokens.specs.declared.token.Token.{Token}
use Rattle.hs_syntax.specs.Forms.{Piece, mark, mark_at}
use Rattle.hs_syntax.specs.Grammar.{expression_form, lefts_form, arguments_form, specification_form, specifier_form, members_form, constants_form, declarator_form, declarators_form, parameters_form}
use Rattle.hs_syntax.specs.RowViews.{view_left, view_member, view_constant, view_parameter, expressions_from, lefts_from, members_from, constants_from, declarators_from, parameters_from}
use Rattle.hs_syntax.specs.Parts.{comma_form, identifier}
use Rattle.hs_spell.specs.Spelling.{token_of}
use Rattle.hs_syntax.specs.Trees as tree
use Rattle.hs_syntax.specs.Trees.{Expression, Expressions, Specified, Specification, Members, Constants, Declared, Declarators, Parameters}
use Rattle.hs_syntax.specs.Views.{view, view_declarator, specification_of}
use Rattle.hs_syntax.specs.declared.expr.Constant.{Constant, Plain, Valued'}
use Rattle.hs_syntax.specs.declared.expr.Declarator.{Declarator}
use Rattle.hs_syntax.specs.declared.expr.Expr.{Expr}
use Rattle.hs_syntax.specs.declared.expr.Left.{Left}
use Rattle.hs_syntax.specs.declared.expr.Member.{Member, out-Member}
use Rattle.hs_syntax.specs.declared.expr.Parameter.{Parameter}
use Rattle.hs_syntax.specs.RowLaws.{view_member-out}

-- Pieces after pieces are written one after the other.
pub twice : (old : List Token) (first rest : List Piece) → old ++ map token_of (first ++ rest) ≡ (old ++ map token_of first) ++ map token_of rest
twice old first rest = rw (map-append, append_assoc) refl

-- What is written twice follows the old ones.
pub behind : (old mid new : List Token) (first rest : List Piece) → mid ≡ old ++ map token_of first → new ≡ mid ++ map token_of rest
    → new ≡ old ++ map token_of (first ++ rest)
behind old mid new first rest before after = after ∙ ap (λ tokens. tokens ++ map token_of rest) before ∙ sym (twice old first rest)

-- And if the second call alone may have failed.
pub after : (result : Result (Unit {0}) NoMemory) (old mid new : List Token) (first rest : List Piece) → mid ≡ old ++ map token_of first
    → OnOk result (new ≡ mid ++ map token_of rest) → OnOk result (new ≡ old ++ map token_of (first ++ rest))
after (Ok done) old mid new first rest before last = behind old mid new first rest before last
after (Err refused) old mid new first rest before last = tt

-- If the first pieces are written, the others are left.
pub next : (old new whole : List Token) (left first rest : List Piece) → old ++ map token_of left ≡ whole → left ≡ first ++ rest
    → new ≡ old ++ map token_of first → new ++ map token_of rest ≡ whole
next old new whole left first rest before split written =
    ap (λ tokens. tokens ++ map token_of rest) written ∙ sym (twice old first rest) ∙ ap (λ pieces. old ++ map token_of pieces) (sym split) ∙ before

-- The typedef names and type specifiers before do not change the pieces of specifiers.
pub untyped : (known : List (List ℕ)) (typed other : Bool) (its : Specification)
    → (specification_form known typed its).pieces ≡ (specification_form known other its).pieces
untyped known typed other tree.no_specifiers = refl
untyped known typed other (tree.more_specifiers it rest) = ap (λ pieces. (specifier_form known it).pieces ++ pieces) (untyped known _ _ rest)

-- others follow
abbrev pub has_more : {A : Type 0} → List A → Bool
has_more [] = false
has_more (it ∷ rest) = true

-- Others follow if their number is not 0.
has_more-lt : {A : Type 0} (rest : List A) → has_more rest ≡ nat_lt 0 (length rest)
has_more-lt [] = refl
has_more-lt (it ∷ rest) = more (length rest)
  where
    more : (n : ℕ) → true ≡ nat_lt 0 (suc n)
    more n = grind (arith, nat_tests)

module _ {A : Type 0} (pieces : List A → List Piece) (all : List A) (i : ℕ) (it : A) (whole : List Token) (within : i < length all)
    (is : it ≡ get_or all i it) where
  -- What is left begins with the element.
  here : drop i all ≡ it ∷ drop (i + 1) all
  here = drop_more all i it within ∙ ap (λ (first : A). first ∷ drop (i + 1) all) (sym is)

  -- One element is written.
  pub one_on : (old new : List Token) (first : List Piece) → old ++ map token_of (pieces (drop i all)) ≡ whole
      → pieces (it ∷ drop (i + 1) all) ≡ first ++ pieces (drop (i + 1) all) → new ≡ old ++ map token_of first
      → new ++ map token_of (pieces (drop (i + 1) all)) ≡ whole
  one_on old new first before split written = next old new whole _ first _ before (ap pieces here ∙ split) written

  -- One element is written, and a comma if others follow.
  pub comma_on : (left : ℕ) (old mid new : List Token) (first : List Piece) → left + i ≡ length all → old ++ map token_of (pieces (drop i all)) ≡ whole
      → pieces (it ∷ drop (i + 1) all) ≡ first ++ ((comma_form (has_more (drop (i + 1) all))).pieces ++ pieces (drop (i + 1) all))
      → mid ≡ old ++ map token_of first → new ≡ mid ++ map token_of (comma_form (nat_lt 0 (left - 1))).pieces
      → new ++ map token_of (pieces (drop (i + 1) all)) ≡ whole
  comma_on left old mid new first counted before split written comma =
      let rest = drop (i + 1) all in
      let count : length rest ≡ left - 1 = omega (arith, length-drop (i + 1) all) in
      let follow : has_more rest ≡ nat_lt 0 (left - 1) = has_more-lt rest ∙ ap (nat_lt 0) count in
      let behind = next old mid whole _ first _ before
      (ap pieces here ∙ split ∙ ap (λ more. first ++ ((comma_form more).pieces ++ pieces rest)) follow) written in
      next mid new whole _ (comma_form (nat_lt 0 (left - 1))).pieces _ behind refl comma

-- The arguments of a call, one on.
pub arguments_on : (known : List (List ℕ)) (it : Expr) (rest : List Expr) → (arguments_form known (expressions_from (map view (it ∷ rest)))).pieces
    ≡ (expression_form known (view it)).pieces ++ ((comma_form (has_more rest)).pieces ++ (arguments_form known (expressions_from (map view rest))).pieces)
arguments_on known it [] = refl
arguments_on known it (other ∷ rest) = refl

-- The left operands of commas, one on.
pub lefts_on : (known : List (List ℕ)) (it : Left) (rest : List Left) → (lefts_form known (lefts_from (map view_left (it ∷ rest)))).pieces
    ≡ ((expression_form known (view it.operand)).pieces ++ (mark_at it.at (codes ",")).pieces) ++ (lefts_form known (lefts_from (map view_left rest))).pieces
lefts_on known it rest = sym (append_assoc (expression_form known (view it.operand)).pieces (mark_at it.at (codes ",")).pieces _)

-- The declarators of a member, one on.
pub declarators_on : (known : List (List ℕ)) (it : Declarator) (rest : List Declarator)
    → (declarators_form known (declarators_from (map view_declarator (it ∷ rest)))).pieces
    ≡ (declarator_form known false (view_declarator it)).pieces
    ++ ((comma_form (has_more rest)).pieces ++ (declarators_form known (declarators_from (map view_declarator rest))).pieces)
declarators_on known it [] = refl
declarators_on known it (other ∷ rest) = refl

-- The pieces of one member.
abbrev pub member_pieces : List (List ℕ) → Member → List Piece
member_pieces known it =
    (specification_form known false (specification_of (out-Member it).specifiers.items)).pieces
    ++ ((declarators_form known (declarators_from (map view_declarator (out-Member it).declarators.items))).pieces ++ (mark (codes ";")).pieces)

-- Members, one on.
pub members_on : (known : List (List ℕ)) (it : Member) (rest : List Member) → (members_form known (members_from (map view_member (it ∷ rest)))).pieces
    ≡ member_pieces known it ++ (members_form known (members_from (map view_member rest))).pieces
members_on known it rest = ap (λ one. (members_form known (members_from (one ∷ map view_member rest))).pieces) (view_member-out it)

-- Parameters, one on.
pub parameters_on : (known : List (List ℕ)) (it : Parameter) (rest : List Parameter)
    → (parameters_form known (parameters_from (map view_parameter (it ∷ rest)))).pieces
    ≡ ((specification_form known false (specification_of it.specifiers.items)).pieces ++ (declarator_form known true (view_declarator it.declarator)).pieces)
    ++ ((comma_form (has_more rest)).pieces ++ (parameters_form known (parameters_from (map view_parameter rest))).pieces)
parameters_on known it [] = refl
parameters_on known it (other ∷ rest) = refl

-- Nothing stands between.
nothing_between : (first rest : List Piece) → first ++ rest ≡ (first ++ []) ++ rest
nothing_between first rest = ap (λ pieces. pieces ++ rest) (sym (append-nil first))

-- Constants, one on.
pub constants_on : (known : List (List ℕ)) (it : Constant) (rest : List Constant)
    → (constants_form known (constants_from (map view_constant (it ∷ rest)))).pieces
    ≡ (constants_form known (constants_from (map view_constant (it ∷ [])))).pieces
    ++ ((comma_form (has_more rest)).pieces ++ (constants_form known (constants_from (map view_constant rest))).pieces)
constants_on known (Plain name) [] = refl
constants_on known (Plain name) (Plain other ∷ rest) = refl
constants_on known (Plain name) (Valued' other p e ∷ rest) = refl
constants_on known (Valued' name p e) [] =
    ap (λ its. (identifier name).pieces ++ ((mark (codes "=")).pieces ++ its)) (nothing_between (expression_form known (view e)).pieces _)
constants_on known (Valued' name p e) (Plain other ∷ rest) =
    ap (λ its. (identifier name).pieces ++ ((mark (codes "=")).pieces ++ its)) (nothing_between (expression_form known (view e)).pieces _)
constants_on known (Valued' name p e) (Valued' other q e' ∷ rest) =
    ap (λ its. (identifier name).pieces ++ ((mark (codes "=")).pieces ++ its)) (nothing_between (expression_form known (view e)).pieces _)
