-- The rules of expressions give what is in the grammar, over a table that does.
--     primary_found, postfix_found, .., arguments_found      each rule of `Reading.antt`
use Rattle.std.proofs.Common.{◌≡◌, ℕ, suc, ◌+◌, ◌≤◌, ◌<◌, Bool, true, false, List, [], ◌∷◌, ◌++◌, Option, Some, None, refl, sym, ap, subst, ◌∙◌, inl, inr, arith}
use Rattle.std.specs.Prelude.{codes, nat_le, not, is_some, ◌&&◌, if◌then◌else◌}
use Rattle.std.proofs.lemmas.Bool.{and_parts, cases_lt}
use Rattle.std.proofs.lemmas.Bool.Decides.{nat_tests}
use Rattle.hs_constants.specs.Characters.{character_value}
use Rattle.hs_constants.specs.Numbers.{number_value}
use Rattle.hs_constants.specs.Strings.{string_value}
use Rattle.hs_tokens.specs.declared.token.SourceToken.{SourceToken}
use Rattle.hs_tokens.specs.declared.token.TokenKind.{TokenKind}
use Rattle.hs_tokens.specs.declared.token.TokenKind.TheVariants.{Identifier, Number, Character, Literal, Punctuator}
use Rattle.hs_syntax.specs.Forms as form
use Rattle.hs_syntax.specs.Forms.{Form, ◌⨾◌, when, mark, IsOf}
use Rattle.hs_syntax.specs.Grammar.{expression_form, lefts_form, arguments_form, type_form}
use Rattle.hs_syntax.specs.Names.{is_among, is_name}
use Rattle.hs_syntax.specs.Operators.{binary_text, precedence_of, assign_text, prefix_text, postfix_text, access_text}
use Rattle.hs_syntax.specs.Parts.{as_prefixed}
use Rattle.hs_syntax.specs.Phrases.{rank, at_least, as_assignment, as_conditional, as_operand, as_cast, as_unary, as_postfix}
use Rattle.hs_syntax.specs.RowViews.{OneLeft, one_left, expressions_from, lefts_from}
use Rattle.hs_syntax.specs.Trees as tree
use Rattle.hs_syntax.specs.Trees.{Expression, NamedType}
use Rattle.hs_syntax.specs.declared.operators.Access.{Access}
use Rattle.hs_syntax.specs.declared.operators.Access.TheVariants as access
use Rattle.hs_syntax.specs.declared.operators.AssignOperator.{AssignOperator}
use Rattle.hs_syntax.specs.declared.operators.AssignOperator.TheVariants as assigning
use Rattle.hs_syntax.specs.declared.operators.BinaryOperator.{BinaryOperator}
use Rattle.hs_syntax.specs.declared.operators.BinaryOperator.TheVariants as binary
use Rattle.hs_syntax.specs.declared.operators.PostfixOperator.{PostfixOperator}
use Rattle.hs_syntax.specs.declared.operators.PostfixOperator.TheVariants as postfix
use Rattle.hs_syntax.specs.declared.operators.PrefixOperator.{PrefixOperator}
use Rattle.hs_syntax.specs.declared.operators.PrefixOperator.TheVariants as prefix
use Rattle.hs_tokens.specs.declared.place.Place.{Place}
use Rattle.hs_expr_parser.specs.Ahead.{place_of, word_of, is_punctuator, is_keyword, binary_of, assign_of, prefix_of, postfix_of, access_of, is_mark_ahead, literals_at, begins_type}
use Rattle.hs_expr_parser.specs.Goals as goal
use Rattle.hs_expr_parser.specs.Reading.{Known, Shorter, parens_rule, primary_by, primary_rule, index_rule, call_rule, member_rule, suffix_rule, suffixes_rule, postfix_rule, operand_at, type_in_parens, sizeof_rule, unary_by, unary_rule, cast_rule, Operand, operand_by, operand_rule, climb_rule, binary_rule, Branches, branches_rule, conditional_rule, Assigned, value_by, value_rule, assignment_rule, another_rule, joined, commas_rule, expression_rule, arguments_rule}
use Rattle.hs_expr_parser.specs.Found.{IsFound}
use Rattle.hs_expr_parser.specs.Laws.Yields.{Yields, none_gives, some_gives, then_gives, going_gives, if_gives, so_gives}
use Rattle.hs_expr_parser.specs.Laws.Ranks.{precedence_most}
use Rattle.hs_expr_parser.specs.Laws.Spelled.{Begins, Goes, form_again, nothing_begins, then_begins, when_begins, token_begins, place_begins, stays, then_goes, behind_goes, form_goes, goes_form, begins_form, goes_begins}
use Rattle.hs_expr_parser.specs.Laws.Firsts.{token_is, token_of, mark_gives, name_gives, literals_begin}
use Rattle.hs_expr_parser.specs.Laws.Tables.{Grows, one_grows, more_grows, expression_gives, assignment_gives, conditional_gives, binary_gives, cast_gives, unary_gives, commas_gives, climb_gives, suffixes_gives, arguments_gives, type_gives}

-- ---- forms and ranks

-- a phrase but for its condition
pub but_for : (condition : Bool) (it : Form) (sources : List SourceToken) → IsOf (when condition it) sources → IsOf it sources
but_for condition it sources is = ((and_parts condition it.fits is.0).1, is.1)

-- an expression where a looser one may stand
pub looser : (least tight : ℕ) (e : Expression) (it : Form) → least ≤ tight → (sources : List SourceToken) → IsOf (at_least tight e it) sources
    → IsOf (at_least least e it) sources
looser least tight e it loose sources is =
    let tests = and_parts (nat_le tight (rank e)) it.fits is.0 in
    let ranked : nat_le tight (rank e) ≡ true = tests.0 in
    let enough : nat_le least (rank e) ≡ true = grind (arith, nat_tests) in
    let fits : (nat_le least (rank e) && it.fits) ≡ true = rw (enough, tests.1) refl in
    (fits, is.1)

-- the same of the first tokens
looser_begins : (least tight : ℕ) (e : Expression) (it : Form) (tokens rest : List SourceToken) → least ≤ tight → Begins (at_least tight e it) tokens rest
    → Begins (at_least least e it) tokens rest
looser_begins least tight e it tokens rest loose begins = begins_form begins (looser least tight e it loose)

-- a cast is an operand
cast_operand : (least : ℕ) (e : Expression) (it : Form) → least ≤ 11 → (sources : List SourceToken) → IsOf (as_cast e it) sources
    → IsOf (as_operand 10 e (as_operand least e it)) sources
cast_operand least e it within sources is =
    let inner = looser (2 + least) 13 e it (omega arith) sources is in
    let outer = looser 12 13 e it (omega arith) sources is in
    let ranked = (and_parts (nat_le 12 (rank e)) it.fits outer.0).0 in
    let fits : (nat_le 12 (rank e) && (nat_le (2 + least) (rank e) && it.fits)) ≡ true = rw (ranked, inner.0) refl in
    (fits, is.1)

-- an operator with its right operand stands there
record IsOperand (known : Known) (least most : ℕ) (it : Operand) (tokens rest : List SourceToken) : Type 0 where
  above : nat_le least (precedence_of it.operator) ≡ true
  below : nat_le (precedence_of it.operator) most ≡ true
  begins : Begins (form.mark_at it.at (binary_text it.operator) ⨾ as_operand (suc (precedence_of it.operator)) it.right (expression_form known it.right)) tokens
      rest

-- the tokens have a front that is of the form, if there may be an operator of that precedence
pub record BeginsWithin (least : ℕ) (it : Form) (tokens rest : List SourceToken) : Type 0 where
  pub front : List SourceToken
  pub whole : tokens ≡ front ++ rest
  pub is : least ≤ 11 → IsOf it front

-- the same with what is of another form in front of it
pub record GoesWithin (least : ℕ) (it other : Form) (tokens rest : List SourceToken) : Type 0 where
  pub front : List SourceToken
  pub whole : tokens ≡ front ++ rest
  pub is : (before : List SourceToken) → least ≤ 11 → IsOf it before → IsOf other (before ++ front)

-- a left operand takes an operator and its right operand
taken : (least most : ℕ) (left : Expression) (operator : BinaryOperator) (at : Place) (right : Expression) (known : Known)
    → nat_le least (precedence_of operator) ≡ true → nat_le (precedence_of operator) most ≡ true → {tokens rest : List SourceToken}
    → Begins (form.mark_at at (binary_text operator) ⨾ as_operand (suc (precedence_of operator)) right (expression_form known right)) tokens rest
    → let new : Expression = tree.binary left operator at right in
    Goes (as_operand most left (as_operand least left (expression_form known left)))
    (as_operand (precedence_of operator) new (as_operand least new (expression_form known new))) tokens rest
taken least most left operator at right known above below begins =
    let it : Form = expression_form known left in
    let new : Expression = tree.binary left operator at right in
    let loose : (sources : List SourceToken) → IsOf (as_operand most left (as_operand least left it)) sources
    → IsOf (as_operand (precedence_of operator) left it) sources =
    λ sources is.
    let inner = but_for (nat_le (2 + most) (rank left)) (as_operand least left it) sources is in
    let outer = (and_parts (nat_le (2 + most) (rank left)) (nat_le (2 + least) (rank left) && it.fits) is.0).0 in
    let fine = (and_parts (nat_le (2 + least) (rank left)) it.fits inner.0).1 in
    let ranked : nat_le (2 + precedence_of operator) (rank left) ≡ true = grind (arith, nat_tests) in
    let fits : (nat_le (2 + precedence_of operator) (rank left) && it.fits) ≡ true = rw (ranked, fine) refl in
    (fits, is.1) in
    let tight : (sources : List SourceToken) → IsOf (expression_form known new) sources
    → IsOf (as_operand (precedence_of operator) new (as_operand least new (expression_form known new))) sources =
    λ sources is.
    let own : nat_le (2 + precedence_of operator) (2 + precedence_of operator) ≡ true = grind (arith, nat_tests) in
    let lowest : nat_le (2 + least) (2 + precedence_of operator) ≡ true = grind (arith, nat_tests) in
    let fits : (nat_le (2 + precedence_of operator) (2 + precedence_of operator)
    && (nat_le (2 + least) (2 + precedence_of operator) && (expression_form known new).fits)) ≡ true =
    rw (own, lowest) is.0 in
    (fits, is.1) in
    form_goes loose (goes_form (behind_goes (as_operand (precedence_of operator) left it) begins) tight)

-- one more left operand
lefts_more : (known : Known) (lefts : List OneLeft) (right : Expression) (at : Place) → lefts_form known (lefts_from (lefts ++ one_left right at ∷ []))
    ≡ (lefts_form known (lefts_from lefts) ⨾ (as_assignment right (expression_form known right) ⨾ form.mark_at at (codes ",")))
lefts_more known [] right at = refl
lefts_more known (one_left e place ∷ lefts) right at =
    let first : Form = as_assignment e (expression_form known e) in
    let comma : Form = form.mark_at place (codes ",") in
    let last : Form = as_assignment right (expression_form known right) ⨾ form.mark_at at (codes ",") in
    ap (λ (others : Form). first ⨾ (comma ⨾ others)) (lefts_more known lefts right at)
    ∙ sym (form_again first (comma ⨾ lefts_form known (lefts_from lefts)) last)

-- left operands take the last one, if another follows
takes_left : (known : Known) (lefts : List OneLeft) (right : Expression) (at : Place) (e : Form) (sources : List SourceToken)
    → IsOf ((lefts_form known (lefts_from lefts) ⨾ as_assignment right (expression_form known right)) ⨾ (form.mark_at at (codes ",") ⨾ e)) sources
    → IsOf (lefts_form known (lefts_from (lefts ++ one_left right at ∷ [])) ⨾ e) sources
takes_left known lefts right at e sources is =
    let earlier : Form = lefts_form known (lefts_from lefts) in
    let last : Form = as_assignment right (expression_form known right) in
    let comma : Form = form.mark_at at (codes ",") in
    subst (λ (it : Form). IsOf it sources) (form_again earlier last (comma ⨾ e) ∙ ap (λ (it : Form). earlier ⨾ it) (sym (form_again last comma e))
    ∙ sym (form_again earlier (last ⨾ comma) e) ∙ ap (λ (it : Form). it ⨾ e) (sym (lefts_more known lefts right at))) is

-- the operands are an expression
joined_is : (known : Known) (lefts : List OneLeft) (right : Expression) (sources : List SourceToken)
    → IsOf (lefts_form known (lefts_from lefts) ⨾ as_assignment right (expression_form known right)) sources
    → IsOf (expression_form known (joined lefts right)) sources
joined_is known [] right sources is = but_for (nat_le 1 (rank right)) (expression_form known right) sources is
joined_is known (one_left e at ∷ lefts) right sources is = is

-- what follows a test stands there
abbrev IsBranches : Known → Branches → List SourceToken → List SourceToken → Type 0
IsBranches known it tokens rest =
    Begins (form.mark_at it.at (codes "?") ⨾ expression_form known it.taken ⨾ mark (codes ":") ⨾ as_conditional it.otherwise
    (expression_form known it.otherwise))
    tokens rest

-- what is assigned stands there
abbrev IsAssigned : Known → Assigned → List SourceToken → List SourceToken → Type 0
IsAssigned known it tokens rest =
    Begins (form.mark_at it.at (assign_text it.operator) ⨾ as_assignment it.value (expression_form known it.value)) tokens rest

-- a type name in parentheses stands there, alone or with what follows it
record IsTyped (known : Known) (at : Place) (type : NamedType) (tokens rest : List SourceToken) : Type 0 where
  alone : Begins (mark (codes "(") ⨾ type_form known type ⨾ mark (codes ")")) tokens rest
  followed : (other : Form) (after : List SourceToken) → Begins other rest after
      → Begins (form.mark_at at (codes "(") ⨾ type_form known type ⨾ mark (codes ")") ⨾ other) tokens after

module _ (known : Known) (table : Shorter) (found : IsFound known table) where
  -- an expression in parentheses
  parens_found : (source : SourceToken) (rest : List SourceToken) → is_punctuator (codes "(") source ≡ true
      → Yields (λ e after. Begins (as_postfix e (expression_form known e)) (source ∷ rest) after) (parens_rule table (place_of source) rest)
  parens_found source rest is =
      let so = token_is Punctuator (codes "(") source is in
      then_gives _ _ (expression_gives known table found rest) (λ inner middle inside.
      then_gives _ _ (mark_gives (codes ")") middle) (λ close after closing.
      some_gives (tree.parens (place_of source) inner) after (then_begins (place_begins source rest so.0 so.1) (then_begins inside closing.plain))))

  -- a primary expression
  primary_found : (tokens : List SourceToken) → Yields (λ e rest. Begins (as_postfix e (expression_form known e)) tokens rest) (primary_rule known table tokens)
  primary_found [] = none_gives
  primary_found (source ∷ rest) = by_kind source.token.kind refl
    where
      by_kind : (kind : TokenKind) → source.token.kind ≡ kind
          → Yields (λ (e : Expression) after. Begins (as_postfix e (expression_form known e)) (source ∷ rest) after) (primary_by known table kind source rest)
      by_kind Identifier kind = if_gives (is_name source.token.text && not (is_among known source.token.text)) _ _
          (λ is. let tests = and_parts (is_name source.token.text) (not (is_among known source.token.text)) is in
          some_gives (tree.name (word_of source)) rest (when_begins tests.1 (when_begins tests.0 (place_begins source rest kind refl)))) (λ is. none_gives)
      by_kind Number kind = if_gives (is_some (number_value source.token.text)) _ _
          (λ is. some_gives (tree.number (word_of source)) rest (when_begins is (place_begins source rest kind refl))) (λ is. none_gives)
      by_kind Character kind = if_gives (is_some (character_value source.token.text)) _ _
          (λ is. some_gives (tree.character (word_of source)) rest (when_begins is (place_begins source rest kind refl))) (λ is. none_gives)
      by_kind Literal kind = if_gives (is_some (string_value source.token.text)) _ _
          (λ is. some_gives (tree.strings (word_of source) (literals_at rest).0) (literals_at rest).1
          (then_begins (when_begins is (place_begins source rest kind refl)) (literals_begin rest))) (λ is. none_gives)
      by_kind Punctuator kind = if_gives (is_punctuator (codes "(") source) _ _ (λ is. parens_found source rest is) (λ is. none_gives)

  -- an index
  index_found : (base : Expression) (source : SourceToken) (rest : List SourceToken) → is_punctuator (codes "[") source ≡ true
      → Yields (λ e after. Goes (as_postfix base (expression_form known base)) (as_postfix e (expression_form known e)) (source ∷ rest) after)
      (index_rule table base (place_of source) rest)
  index_found base source rest is =
      let so = token_is Punctuator (codes "[") source is in
      then_gives _ _ (expression_gives known table found rest) (λ offset middle inside.
      then_gives _ _ (mark_gives (codes "]") middle) (λ close after closing.
      some_gives (tree.index base (place_of source) offset) after
      (behind_goes (as_postfix base (expression_form known base)) (then_begins (place_begins source rest so.0 so.1) (then_begins inside closing.plain)))))

  -- the arguments of a call
  listed_found : (rest : List SourceToken) → Yields (λ its after. Begins (arguments_form known (expressions_from its)) rest after)
      (if is_mark_ahead (codes ")") rest then Some ([], rest) else table (goal.arguments []) rest)
  listed_found rest = if_gives (is_mark_ahead (codes ")") rest) _ _ (λ is. some_gives [] rest (nothing_begins rest))
      (λ is. so_gives (table (goal.arguments []) rest) (arguments_gives known table found [] rest)
      (λ all after it. subst (λ (its : List Expression). Begins (arguments_form known (expressions_from its)) rest after) (sym it.whole) it.begins))

  -- a call
  call_found : (base : Expression) (source : SourceToken) (rest : List SourceToken) → is_punctuator (codes "(") source ≡ true
      → Yields (λ e after. Goes (as_postfix base (expression_form known base)) (as_postfix e (expression_form known e)) (source ∷ rest) after)
      (call_rule table base rest)
  call_found base source rest is =
      let so = token_is Punctuator (codes "(") source is in
      then_gives _ _ (listed_found rest) (λ its middle inside.
      then_gives _ _ (mark_gives (codes ")") middle) (λ close after closing.
      some_gives (tree.call base (expressions_from its)) after
      (behind_goes (as_postfix base (expression_form known base)) (then_begins (token_begins source rest so.0 so.1) (then_begins inside closing.plain)))))

  -- a member, and an operator after its operand
  member_found : (base : Expression) (source : SourceToken) (rest : List SourceToken) (accessed : Option Access) (operated : Option PostfixOperator)
      → access_of source ≡ accessed → postfix_of source ≡ operated
      → Yields (λ e after. Goes (as_postfix base (expression_form known base)) (as_postfix e (expression_form known e)) (source ∷ rest) after)
      (member_rule base accessed operated (place_of source) rest)
  member_found base source rest (Some it) operated is is_operated =
      let so = token_of Punctuator access_text (access.Dot ∷ access.Arrow ∷ []) source it is in
      then_gives _ _ (name_gives rest) (λ name after naming.
      some_gives (tree.member base it (place_of source) name) after
      (behind_goes (as_postfix base (expression_form known base)) (then_begins (place_begins source rest so.0 so.1) naming)))
  member_found base source rest None (Some it) is is_operated =
      let so = token_of Punctuator postfix_text (postfix.Increment ∷ postfix.Decrement ∷ []) source it is_operated in
      some_gives (tree.postfix base it (place_of source)) rest (behind_goes (as_postfix base (expression_form known base)) (place_begins source rest so.0 so.1))
  member_found base source rest None None is is_operated = none_gives

  -- what follows a postfix expression
  suffix_found : (base : Expression) (tokens : List SourceToken)
      → Yields (λ e rest. Goes (as_postfix base (expression_form known base)) (as_postfix e (expression_form known e)) tokens rest)
      (suffix_rule table base tokens)
  suffix_found base [] = none_gives
  suffix_found base (source ∷ rest) =
      if_gives (is_punctuator (codes "[") source) _ _ (λ is. index_found base source rest is)
      (λ other. if_gives (is_punctuator (codes "(") source) _ _ (λ is. call_found base source rest is)
      (λ neither. member_found base source rest (access_of source) (postfix_of source) refl refl))

  -- the rest of a postfix expression
  pub suffixes_found : (base : Expression) (tokens : List SourceToken)
      → Yields (λ e rest. Goes (as_postfix base (expression_form known base)) (as_postfix e (expression_form known e)) tokens rest)
      (suffixes_rule table base tokens)
  suffixes_found base tokens =
      going_gives _ _ _ (suffix_found base tokens)
      (λ e rest is first. so_gives _ (suffixes_gives known table found e rest) (λ all after second. then_goes first second))
      (λ is. some_gives base tokens (stays (as_postfix base (expression_form known base)) tokens))

  -- a postfix expression
  postfix_found : (tokens : List SourceToken) → Yields (λ e rest. Begins (as_postfix e (expression_form known e)) tokens rest) (postfix_rule known table tokens)
  postfix_found tokens =
      then_gives _ _ (primary_found tokens) (λ e rest first.
      so_gives _ (suffixes_found e rest) (λ all after second. goes_begins first second))

  -- the operand of an operator in front
  operand_found : (operator : PrefixOperator) (rest : List SourceToken)
      → Yields (λ e after. Begins (as_prefixed operator e (expression_form known e)) rest after) (operand_at table operator rest)
  operand_found prefix.Increment rest = unary_gives known table found rest
  operand_found prefix.Decrement rest = unary_gives known table found rest
  operand_found _ rest = cast_gives known table found rest

  -- a type name in parentheses
  type_found : (tokens : List SourceToken) → Yields (λ it rest. IsTyped known it.0 it.1 tokens rest) (type_in_parens table tokens)
  type_found tokens =
      then_gives _ _ (mark_gives (codes "(") tokens) (λ at middle opening.
      then_gives _ _ (type_gives known table found middle) (λ type behind inside.
      then_gives _ _ (mark_gives (codes ")") behind) (λ close rest closing.
      some_gives (at, type) rest (record {
        alone = then_begins opening.plain (then_begins inside closing.plain);
        followed = λ other after it. then_begins opening.placed (then_begins inside (then_begins closing.plain it));
      }))))

  -- `sizeof`
  sizeof_found : (source : SourceToken) (rest : List SourceToken) → is_keyword (codes "sizeof") source ≡ true
      → Yields (λ e after. Begins (as_unary e (expression_form known e)) (source ∷ rest) after) (sizeof_rule known table (place_of source) rest)
  sizeof_found source rest is =
      let so = token_is Identifier (codes "sizeof") source is in
      if_gives (begins_type known rest) _ _
      (λ typed. then_gives _ _ (type_found rest) (λ type after inside.
      some_gives (tree.sizeof_type (place_of source) type.1) after (then_begins (place_begins source rest so.0 so.1) inside.alone)))
      (λ other. then_gives _ _ (unary_gives known table found rest) (λ e after operand.
      some_gives (tree.sizeof_value (place_of source) e) after (then_begins (place_begins source rest so.0 so.1) operand)))

  -- a unary expression
  pub unary_found : (tokens : List SourceToken) → Yields (λ e rest. Begins (as_unary e (expression_form known e)) tokens rest) (unary_rule known table tokens)
  unary_found [] = none_gives
  unary_found (source ∷ rest) = by_first (prefix_of source) (is_keyword (codes "sizeof") source) refl refl
    where
      by_first : (operated : Option PrefixOperator) (is_sizeof : Bool) → prefix_of source ≡ operated → is_keyword (codes "sizeof") source ≡ is_sizeof
          → Yields (λ (e : Expression) after. Begins (as_unary e (expression_form known e)) (source ∷ rest) after)
          (unary_by known table operated is_sizeof source rest)
      by_first (Some it) is_sizeof is is_word =
          let so = token_of Punctuator prefix_text
          (prefix.Increment ∷ prefix.Decrement ∷ prefix.Address ∷ prefix.Dereference ∷ prefix.Plus ∷ prefix.Minus ∷ prefix.Complement ∷ prefix.Not ∷ [])
          source it is in
          then_gives _ _ (operand_found it rest) (λ e after operand.
          some_gives (tree.prefix it (place_of source) e) after (then_begins (place_begins source rest so.0 so.1) operand))
      by_first None true is is_word = sizeof_found source rest is_word
      by_first None false is is_word = so_gives _ (postfix_found (source ∷ rest))
          (λ e after it. looser_begins 14 15 e (expression_form known e) (source ∷ rest) after (omega arith) it)

  -- a cast
  pub cast_found : (tokens : List SourceToken) → Yields (λ e rest. Begins (as_cast e (expression_form known e)) tokens rest) (cast_rule known table tokens)
  cast_found tokens =
      if_gives (begins_type known tokens) _ _
      (λ typed. then_gives _ _ (type_found tokens) (λ type middle inside.
      then_gives _ _ (cast_gives known table found middle) (λ e rest operand.
      some_gives (tree.cast type.0 type.1 e) rest (inside.followed (as_cast e (expression_form known e)) rest operand))))
      (λ other. so_gives _ (unary_found tokens) (λ e rest it. looser_begins 13 14 e (expression_form known e) tokens rest (omega arith) it))

  -- an operator and its right operand
  operator_found : (least most : ℕ) (tokens : List SourceToken)
      → Yields (λ it rest. IsOperand known least most it tokens rest) (operand_rule table least most tokens)
  operator_found least most [] = none_gives
  operator_found least most (source ∷ rest) = by_first (binary_of source) refl
    where
      by_first : (operator : Option BinaryOperator) → binary_of source ≡ operator
          → Yields (λ (it : Operand) after. IsOperand known least most it (source ∷ rest) after) (operand_by table least most operator (place_of source) rest)
      by_first None is = none_gives
      by_first (Some it) is =
          let so = token_of Punctuator binary_text
          (binary.Multiply ∷ binary.Divide ∷ binary.Remainder ∷ binary.Add ∷ binary.Subtract ∷ binary.ShiftLeft ∷ binary.ShiftRight
          ∷ binary.Less ∷ binary.Greater ∷ binary.LessEqual ∷ binary.GreaterEqual ∷ binary.Equal ∷ binary.NotEqual ∷ binary.BitAnd
          ∷ binary.BitXor ∷ binary.BitOr ∷ binary.And ∷ binary.Or ∷ []) source it is in
          let within = precedence_most it in
          if_gives (nat_le least (precedence_of it) && nat_le (precedence_of it) most) _ _
          (λ precedences. let tests = and_parts (nat_le least (precedence_of it)) (nat_le (precedence_of it) most) precedences in
          then_gives _ _ (binary_gives known table found (suc (precedence_of it)) rest (omega arith)) (λ e after operand.
          some_gives (record { operator = it; at = place_of source; right = e }) after
          (record { above = tests.0; below = tests.1; begins = then_begins (place_begins source rest so.0 so.1) operand })))
          (λ precedences. none_gives)

  -- the rest of operators
  climb_found : (least most : ℕ) (left : Expression) (tokens : List SourceToken) → least ≤ 11
      → Yields (λ e rest. Goes (as_operand most left (as_operand least left (expression_form known left)))
      (as_operand least e (expression_form known e)) tokens rest)
      (climb_rule table least most left tokens)
  climb_found least most left tokens within =
      going_gives _ _ _ (operator_found least most tokens)
      (λ it rest is operand.
      let new : Expression = tree.binary left it.operator it.at it.right in
      so_gives _ (climb_gives known table found least (precedence_of it.operator) new rest within) (λ e after others.
      then_goes (taken least most left it.operator it.at it.right known operand.above operand.below operand.begins) others))
      (λ is. some_gives left tokens (goes_form (stays (as_operand most left (as_operand least left (expression_form known left))) tokens)
      (but_for (nat_le (2 + most) (rank left)) (as_operand least left (expression_form known left)))))

  -- binary operators
  binary_found : (least : ℕ) (tokens : List SourceToken) → least ≤ 11
      → Yields (λ e rest. Begins (as_operand least e (expression_form known e)) tokens rest) (binary_rule known table least tokens)
  binary_found least tokens within =
      then_gives _ _ (cast_found tokens) (λ e middle first.
      so_gives _ (climb_found least 10 e middle within) (λ all rest second.
      goes_begins (begins_form first (cast_operand least e (expression_form known e) within)) second))

  -- no operator is tighter than precedence 10
  climb_stops : (least most : ℕ) (left : Expression) (tokens : List SourceToken) → 11 < least
      → Yields (λ e rest. tokens ≡ rest) (climb_rule table least most left tokens)
  climb_stops least most left tokens above =
      going_gives _ _ _ (operator_found least most tokens)
      (λ it rest is operand.
      let within = precedence_most it.operator in
      let reaches : nat_le least (precedence_of it.operator) ≡ true = operand.above in
      absurd (grind (arith, nat_tests)))
      (λ is. some_gives left tokens refl)

  -- the rest of operators, if there may be some
  pub climb_within : (least most : ℕ) (left : Expression) (tokens : List SourceToken)
      → Yields (λ e rest. GoesWithin least (as_operand most left (as_operand least left (expression_form known left)))
      (as_operand least e (expression_form known e)) tokens rest) (climb_rule table least most left tokens)
  climb_within least most left tokens = elim (cases_lt 11 least) [
    | inl above ↦ so_gives _ (climb_stops least most left tokens above)
        (λ e rest same. record { front = []; whole = same; is = λ before within is. absurd (omega arith) })
    | inr within ↦ so_gives _ (climb_found least most left tokens within)
        (λ e rest it. record { front = it.front; whole = it.whole; is = λ before low is. it.is before is })
  ]

  -- binary operators, if there may be some
  pub binary_within : (least : ℕ) (tokens : List SourceToken)
      → Yields (λ e rest. BeginsWithin least (as_operand least e (expression_form known e)) tokens rest) (binary_rule known table least tokens)
  binary_within least tokens = elim (cases_lt 11 least) [
    | inl above ↦ then_gives _ _ (cast_found tokens) (λ e middle first.
        so_gives _ (climb_stops least 10 e middle above) (λ all rest same. record {
          front = first.front;
          whole = first.whole ∙ ap (λ (behind : List SourceToken). first.front ++ behind) same;
          is = λ within. absurd (omega arith);
        }))
    | inr within ↦ so_gives _ (binary_found least tokens within) (λ e rest it. record { front = it.front; whole = it.whole; is = λ low. it.is })
  ]

  -- what follows a test
  branches_found : (tokens : List SourceToken) → Yields (λ it rest. IsBranches known it tokens rest) (branches_rule table tokens)
  branches_found tokens =
      then_gives _ _ (mark_gives (codes "?") tokens) (λ at middle query.
      then_gives _ _ (expression_gives known table found middle) (λ one behind first.
      then_gives _ _ (mark_gives (codes ":") behind) (λ place others colon.
      then_gives _ _ (conditional_gives known table found others) (λ other rest second.
      some_gives (record { at = at; taken = one; otherwise = other }) rest
      (then_begins query.placed (then_begins first (then_begins colon.plain second)))))))

  -- a conditional
  pub conditional_found : (tokens : List SourceToken)
      → Yields (λ e rest. Begins (as_conditional e (expression_form known e)) tokens rest) (conditional_rule known table tokens)
  conditional_found tokens =
      then_gives _ _ (binary_found 1 tokens (omega arith)) (λ test middle first.
      going_gives _ _ _ (branches_found middle)
      (λ it rest is second. some_gives (tree.conditional test it.at it.taken it.otherwise) rest (then_begins first second))
      (λ is. some_gives test middle (looser_begins 2 3 test (expression_form known test) tokens middle (omega arith) first)))

  -- what is assigned
  value_found : (tokens : List SourceToken) → Yields (λ it rest. IsAssigned known it tokens rest) (value_rule table tokens)
  value_found [] = none_gives
  value_found (source ∷ rest) = by_first (assign_of source) refl
    where
      by_first : (operator : Option AssignOperator) → assign_of source ≡ operator
          → Yields (λ (it : Assigned) after. IsAssigned known it (source ∷ rest) after) (value_by table operator (place_of source) rest)
      by_first None is = none_gives
      by_first (Some it) is =
          let so = token_of Punctuator assign_text
          (assigning.Plain ∷ assigning.Multiply ∷ assigning.Divide ∷ assigning.Remainder ∷ assigning.Add ∷ assigning.Subtract
          ∷ assigning.ShiftLeft ∷ assigning.ShiftRight ∷ assigning.BitAnd ∷ assigning.BitXor ∷ assigning.BitOr ∷ []) source it is in
          then_gives _ _ (assignment_gives known table found rest) (λ e after value.
          some_gives (record { operator = it; at = place_of source; value = e }) after (then_begins (place_begins source rest so.0 so.1) value))

  -- an assignment
  pub assignment_found : (tokens : List SourceToken)
      → Yields (λ e rest. Begins (as_assignment e (expression_form known e)) tokens rest) (assignment_rule known table tokens)
  assignment_found tokens =
      then_gives _ _ (conditional_found tokens) (λ target middle first.
      going_gives {Before = λ it rest. (nat_le 14 (rank target) ≡ true) × IsAssigned known it middle rest} _ _ _
      (if_gives (nat_le 14 (rank target)) _ _ (λ is. so_gives _ (value_found middle) (λ it rest value. (is, value))) (λ is. none_gives))
      (λ it rest is value. some_gives (tree.assign target it.operator it.at it.value) rest
      (then_begins (when_begins value.0 (begins_form first (but_for (nat_le 2 (rank target)) (expression_form known target)))) value.1))
      (λ is. some_gives target middle (looser_begins 1 2 target (expression_form known target) tokens middle (omega arith) first)))

  -- a comma and its right operand
  another_found : (tokens : List SourceToken)
      → Yields (λ it rest. Begins (form.mark_at it.0 (codes ",") ⨾ as_assignment it.1 (expression_form known it.1)) tokens rest) (another_rule table tokens)
  another_found tokens =
      then_gives _ _ (mark_gives (codes ",") tokens) (λ at middle comma.
      then_gives _ _ (assignment_gives known table found middle) (λ e rest right.
      some_gives (at, e) rest (then_begins comma.placed right)))

  -- the rest of an expression
  pub commas_found : (lefts : List OneLeft) (right : Expression) (tokens : List SourceToken)
      → Yields (λ e rest. Goes (lefts_form known (lefts_from lefts) ⨾ as_assignment right (expression_form known right)) (expression_form known e) tokens rest)
      (commas_rule table lefts right tokens)
  commas_found lefts right tokens =
      let operands : Form = lefts_form known (lefts_from lefts) ⨾ as_assignment right (expression_form known right) in
      going_gives _ _ _ (another_found tokens)
      (λ it rest is first. so_gives _ (commas_gives known table found (lefts ++ one_left right it.0 ∷ []) it.1 rest) (λ e after second.
      then_goes (goes_form (behind_goes operands first) (takes_left known lefts right it.0 (as_assignment it.1 (expression_form known it.1)))) second))
      (λ is. some_gives (joined lefts right) tokens (goes_form (stays operands tokens) (joined_is known lefts right)))

  -- an expression
  pub expression_found : (tokens : List SourceToken) → Yields (λ e rest. Begins (expression_form known e) tokens rest) (expression_rule known table tokens)
  expression_found tokens =
      then_gives _ _ (assignment_found tokens) (λ e middle first.
      so_gives _ (commas_found [] e middle) (λ all rest second. goes_begins first second))

  -- arguments
  pub arguments_found : (earlier : List Expression) (tokens : List SourceToken)
      → Yields (λ all rest. Grows earlier all (λ its. arguments_form known (expressions_from its)) tokens rest) (arguments_rule known table earlier tokens)
  arguments_found earlier tokens =
      let listed : List Expression → Form = λ its. arguments_form known (expressions_from its) in
      then_gives _ _ (assignment_found tokens) (λ e middle first.
      going_gives _ _ _ (mark_gives (codes ",") middle)
      (λ at rest is comma. so_gives _ (arguments_gives known table found (earlier ++ e ∷ []) rest) (λ all after others.
      more_grows earlier e all listed tokens rest after others (λ next further behind. then_begins first (then_begins comma.plain behind))))
      (λ is. some_gives (earlier ++ e ∷ []) middle (one_grows earlier e listed tokens middle (then_begins first (nothing_begins middle)))))
