-- Each rule reads the same if it may ask the table about shorter lists alone: it asks about no others.
--     rule_alike         a rule over shorter lists alone
--     reads_by_rules     so the reading is a table that reads by the rules
use Rattle.std.proofs.Common.{◌≡◌, ℕ, zero, suc, ◌<◌, ◌≤◌, Bool, true, false, List, [], ◌∷◌, length, Option, Some, None, ◌∙◌, inl, inr, arith}
use Rattle.std.specs.Prelude.{nat_lt, if◌then◌else◌, codes, ◌||◌, ◌++◌}
use Rattle.std.proofs.lemmas.Bool.{cases_Bool}
use Rattle.hs_base.specs.Options.{◌>>=◌}
use Rattle.hs_tokens.specs.declared.token.SourceToken.{SourceToken}
use Rattle.hs_tokens.specs.declared.token.TokenKind.{TokenKind}
use Rattle.hs_tokens.specs.declared.token.TokenKind.TheVariants.{Identifier, Number, Character, Literal, Punctuator}
use Rattle.hs_syntax.specs.Operators.{precedence_of}
use Rattle.hs_syntax.specs.Phrases.{is_type}
use Rattle.hs_syntax.specs.RowViews.{OneLeft, one_left, OneMember, OneConstant, OneParameter}
use Rattle.hs_syntax.specs.Trees as tree
use Rattle.hs_syntax.specs.Trees.{Expression, Specified, Declared, Directly}
use Rattle.hs_syntax.specs.declared.operators.Access.{Access}
use Rattle.hs_syntax.specs.declared.operators.AssignOperator.{AssignOperator}
use Rattle.hs_syntax.specs.declared.operators.Basic.{Basic}
use Rattle.hs_syntax.specs.declared.operators.BinaryOperator.{BinaryOperator}
use Rattle.hs_syntax.specs.declared.operators.Dropped.{Dropped}
use Rattle.hs_syntax.specs.declared.operators.PostfixOperator.{PostfixOperator}
use Rattle.hs_syntax.specs.declared.operators.PrefixOperator.{PrefixOperator}
use Rattle.hs_syntax.specs.declared.operators.PrefixOperator.TheVariants.{Increment, Decrement, Address, Dereference, Plus, Minus, Complement, Not}
use Rattle.hs_syntax.specs.declared.operators.Storage.{Storage}
use Rattle.hs_tokens.specs.declared.place.Place.{Place}
use Rattle.hs_syntax.specs.declared.word.Word.{Word}
use Rattle.hs_expr_parser.specs.Ahead.{place_of, is_mark_ahead, name_of, prefix_of, access_of, postfix_of, binary_of, assign_of, storage_of, dropped_of, basic_of, begins_specifier}
use Rattle.hs_expr_parser.specs.Goals as goal
use Rattle.hs_expr_parser.specs.Goals.{Goal, Tree}
use Rattle.hs_expr_parser.specs.Recursion.{below}
use Rattle.hs_expr_parser.specs.Reading.{Known, Shorter, parens_rule, primary_by, primary_rule, index_rule, call_rule, member_rule, suffix_rule, suffixes_rule, postfix_rule, operand_at, type_in_parens, sizeof_rule, unary_by, unary_rule, cast_rule, operand_by, operand_rule, climb_rule, binary_rule, branches_rule, conditional_rule, value_by, value_rule, assignment_rule, another_rule, commas_rule, expression_rule, arguments_rule, tag_at, tagged, struct_by, enum_by, specifier_by, specifier_rule, specifiers_rule, some_specifiers_rule, pointers_at, filled, inside_rule, nothing_there, base_by, base_rule, length_rule, list_rule, directs_rule, declarator_rule, declarators_rule, parameter_rule, parameters_rule, type_rule, member_rule_of, members_rule, constant_rule, constants_rule, rule, reading}
use Rattle.hs_expr_parser.specs.Laws.Bound.{Alike, alike_none, alike_some, alike_more, alike_bind, alike_going, alike_if, alike_mark, alike_name, alike_void, literals_short, pointers_short, tag_short}
use Rattle.hs_expr_parser.specs.Laws.Recursions.{Short, IsByRules}
use Rattle.hs_expr_parser.specs.Laws.Rounds.{asks, fixed_by_rules}

module _ (known : Known) (limit : ℕ) (table : Shorter) (shorts : Short table) where
  -- an expression in parentheses
  parens : (at : Place) (rest : List SourceToken) → length rest < limit
      → Alike (suc (length rest)) (parens_rule (below limit table) at rest) (parens_rule table at rest)
  parens at rest low =
      alike_bind (asks limit table shorts goal.expression rest low) λ inner short.
      alike_bind (alike_mark _ inner.1) λ close shorter.
      alike_some (omega arith)

  -- a primary expression, by cases
  primary_kind : (kind : TokenKind) (source : SourceToken) (rest : List SourceToken) → length rest < limit
      → Alike (suc (length rest)) (primary_by known (below limit table) kind source rest) (primary_by known table kind source rest)
  primary_kind Identifier source rest low = alike_if _ (alike_some (omega arith)) alike_none
  primary_kind Number source rest low = alike_if _ (alike_some (omega arith)) alike_none
  primary_kind Character source rest low = alike_if _ (alike_some (omega arith)) alike_none
  primary_kind Literal source rest low = alike_if _ (alike_some (omega (arith, literals_short rest))) alike_none
  primary_kind Punctuator source rest low = alike_if _ (parens (place_of source) rest low) alike_none

  -- a primary expression
  primary : (tokens : List SourceToken) → length tokens ≤ limit
      → Alike (length tokens) (primary_rule known (below limit table) tokens) (primary_rule known table tokens)
  primary [] low = alike_none
  primary (source ∷ rest) low = primary_kind source.token.kind source rest (omega arith)

  -- ---- postfix expressions

  -- an index
  index : (base : Expression) (at : Place) (rest : List SourceToken) → length rest < limit
      → Alike (suc (length rest)) (index_rule (below limit table) base at rest) (index_rule table base at rest)
  index base at rest low =
      alike_bind (asks limit table shorts goal.expression rest low) λ offset short.
      alike_bind (alike_mark _ offset.1) λ close shorter.
      alike_some (omega arith)

  -- the arguments of a call
  call_arguments : (rest : List SourceToken) → length rest < limit
      → Alike (suc (length rest)) (if is_mark_ahead (codes ")") rest then Some ([], rest) else below limit table (goal.arguments []) rest)
      (if is_mark_ahead (codes ")") rest then Some ([], rest) else table (goal.arguments []) rest)
  call_arguments rest low = alike_if _ (alike_some (omega arith)) (asks limit table shorts (goal.arguments []) rest low)

  -- a call
  call : (base : Expression) (rest : List SourceToken) → length rest < limit
      → Alike (suc (length rest)) (call_rule (below limit table) base rest) (call_rule table base rest)
  call base rest low =
      alike_bind (call_arguments rest low) λ its short.
      alike_bind (alike_mark _ its.1) λ close shorter.
      alike_some (omega arith)

  -- a member, and an operator after it
  member : (base : Expression) (access : Option Access) (operator : Option PostfixOperator) (at : Place) (rest : List SourceToken)
      → Alike (suc (length rest)) (member_rule base access operator at rest) (member_rule base access operator at rest)
  member base (Some access) operator at rest = alike_bind (alike_name rest) λ name short. alike_some (omega arith)
  member base None (Some operator) at rest = alike_some (omega arith)
  member base None None at rest = alike_none

  -- what follows a postfix expression
  pub suffix : (base : Expression) (tokens : List SourceToken) → length tokens ≤ limit
      → Alike (length tokens) (suffix_rule (below limit table) base tokens) (suffix_rule table base tokens)
  suffix base [] low = alike_none
  suffix base (source ∷ rest) low =
      let low' : length rest < limit = omega arith in
      alike_if _ (index base (place_of source) rest low')
      (alike_if _ (call base rest low') (member base (access_of source) (postfix_of source) (place_of source) rest))

  -- all of it
  suffixes : (base : Expression) (tokens : List SourceToken) → length tokens ≤ limit
      → Alike (suc (length tokens)) (suffixes_rule (below limit table) base tokens) (suffixes_rule table base tokens)
  suffixes base tokens low =
      alike_going (suffix base tokens low) (λ it rest short. alike_more (omega arith) (asks limit table shorts (goal.suffixes it) rest (omega arith)))
      (alike_some (omega arith))

  -- a postfix expression
  postfix : (tokens : List SourceToken) → length tokens ≤ limit
      → Alike (length tokens) (postfix_rule known (below limit table) tokens) (postfix_rule known table tokens)
  postfix tokens low =
      alike_bind (primary tokens low) λ base short.
      alike_more (omega arith) (suffixes base.0 base.1 (omega arith))

  -- ---- unary expressions and casts

  -- the operand of an operator in front
  operand_behind : (operator : PrefixOperator) (rest : List SourceToken) → length rest < limit
      → Alike (suc (length rest)) (operand_at (below limit table) operator rest) (operand_at table operator rest)
  operand_behind Increment rest low = asks limit table shorts goal.unary rest low
  operand_behind Decrement rest low = asks limit table shorts goal.unary rest low
  operand_behind Address rest low = asks limit table shorts goal.cast rest low
  operand_behind Dereference rest low = asks limit table shorts goal.cast rest low
  operand_behind Plus rest low = asks limit table shorts goal.cast rest low
  operand_behind Minus rest low = asks limit table shorts goal.cast rest low
  operand_behind Complement rest low = asks limit table shorts goal.cast rest low
  operand_behind Not rest low = asks limit table shorts goal.cast rest low

  -- a type name in parentheses
  type_inside : (tokens : List SourceToken) → length tokens ≤ limit
      → Alike (length tokens) (type_in_parens (below limit table) tokens) (type_in_parens table tokens)
  type_inside tokens low =
      alike_bind (alike_mark _ tokens) λ opening short.
      alike_bind (asks limit table shorts goal.type_name opening.1 (omega arith)) λ type shorter.
      alike_bind (alike_mark _ type.1) λ close shortest.
      alike_some (omega arith)

  -- `sizeof`
  sizeof : (at : Place) (rest : List SourceToken) → length rest < limit
      → Alike (suc (length rest)) (sizeof_rule known (below limit table) at rest) (sizeof_rule known table at rest)
  sizeof at rest low =
      alike_if _ (alike_bind (type_inside rest (omega arith)) λ type short. alike_some (omega arith))
      (alike_bind (asks limit table shorts goal.unary rest low) λ operand short. alike_some (omega arith))

  -- a unary expression, by cases
  unary_with : (operator : Option PrefixOperator) (is_sizeof : Bool) (source : SourceToken) (rest : List SourceToken) → length rest < limit
      → Alike (suc (length rest)) (unary_by known (below limit table) operator is_sizeof source rest) (unary_by known table operator is_sizeof source rest)
  unary_with (Some operator) is_sizeof source rest low = alike_bind (operand_behind operator rest low) λ operand short. alike_some (omega arith)
  unary_with None true source rest low = sizeof (place_of source) rest low
  unary_with None false source rest low = postfix (source ∷ rest) (omega arith)

  -- a unary expression
  unary : (tokens : List SourceToken) → length tokens ≤ limit
      → Alike (length tokens) (unary_rule known (below limit table) tokens) (unary_rule known table tokens)
  unary [] low = alike_none
  unary (source ∷ rest) low = unary_with (prefix_of source) _ source rest (omega arith)

  -- a cast
  cast : (tokens : List SourceToken) → length tokens ≤ limit
      → Alike (length tokens) (cast_rule known (below limit table) tokens) (cast_rule known table tokens)
  cast tokens low =
      alike_if _
      (alike_bind (type_inside tokens low) λ type short.
      alike_bind (asks limit table shorts goal.cast type.1 (omega arith)) λ operand shorter.
      alike_some (omega arith))
      (unary tokens low)

  -- ---- binary operators

  -- an operator with its right operand, by cases
  operand_with : (least most : ℕ) (operator : Option BinaryOperator) (at : Place) (rest : List SourceToken) → length rest < limit
      → Alike (suc (length rest)) (operand_by (below limit table) least most operator at rest) (operand_by table least most operator at rest)
  operand_with least most None at rest low = alike_none
  operand_with least most (Some operator) at rest low =
      alike_if _ (alike_bind (asks limit table shorts (goal.binary (suc (precedence_of operator))) rest low) λ right short. alike_some (omega arith)) alike_none

  -- an operator with its right operand
  pub operand : (least most : ℕ) (tokens : List SourceToken) → length tokens ≤ limit
      → Alike (length tokens) (operand_rule (below limit table) least most tokens) (operand_rule table least most tokens)
  operand least most [] low = alike_none
  operand least most (source ∷ rest) low = operand_with least most (binary_of source) (place_of source) rest (omega arith)

  -- all of them after a left operand
  climb : (least most : ℕ) (left : Expression) (tokens : List SourceToken) → length tokens ≤ limit
      → Alike (suc (length tokens)) (climb_rule (below limit table) least most left tokens) (climb_rule table least most left tokens)
  climb least most left tokens low =
      alike_going (operand least most tokens low)
      (λ it rest short.
      let goes_on : Goal = goal.climb least (precedence_of it.operator) (tree.binary left it.operator it.at it.right) in
      alike_more (omega arith) (asks limit table shorts goes_on rest (omega arith)))
      (alike_some (omega arith))

  -- an expression of binary operators
  binary : (least : ℕ) (tokens : List SourceToken) → length tokens ≤ limit
      → Alike (length tokens) (binary_rule known (below limit table) least tokens) (binary_rule known table least tokens)
  binary least tokens low =
      alike_bind (cast tokens low) λ left short.
      alike_more (omega arith) (climb least 10 left.0 left.1 (omega arith))

  -- ---- conditionals, assignments and commas

  -- what follows a test
  pub branches : (tokens : List SourceToken) → length tokens ≤ limit
      → Alike (length tokens) (branches_rule (below limit table) tokens) (branches_rule table tokens)
  branches tokens low =
      alike_bind (alike_mark _ tokens) λ query short.
      alike_bind (asks limit table shorts goal.expression query.1 (omega arith)) λ taken shorter.
      alike_bind (alike_mark _ taken.1) λ colon shortest.
      alike_bind (asks limit table shorts goal.conditional colon.1 (omega arith)) λ otherwise least.
      alike_some (omega arith)

  -- a conditional
  pub conditional : (tokens : List SourceToken) → length tokens ≤ limit
      → Alike (length tokens) (conditional_rule known (below limit table) tokens) (conditional_rule known table tokens)
  conditional tokens low =
      alike_bind (binary 1 tokens low) λ test short.
      alike_going (branches test.1 (omega arith)) (λ it rest shorter. alike_some (omega arith)) (alike_some (omega arith))

  -- what is assigned, by cases
  value_with : (operator : Option AssignOperator) (at : Place) (rest : List SourceToken) → length rest < limit
      → Alike (suc (length rest)) (value_by (below limit table) operator at rest) (value_by table operator at rest)
  value_with None at rest low = alike_none
  value_with (Some operator) at rest low = alike_bind (asks limit table shorts goal.assignment rest low) λ value short. alike_some (omega arith)

  -- what is assigned
  pub value : (tokens : List SourceToken) → length tokens ≤ limit
      → Alike (length tokens) (value_rule (below limit table) tokens) (value_rule table tokens)
  value [] low = alike_none
  value (source ∷ rest) low = value_with (assign_of source) (place_of source) rest (omega arith)

  -- an assignment
  pub assignment : (tokens : List SourceToken) → length tokens ≤ limit
      → Alike (length tokens) (assignment_rule known (below limit table) tokens) (assignment_rule known table tokens)
  assignment tokens low =
      alike_bind (conditional tokens low) λ target short.
      alike_going (alike_if _ (value target.1 (omega arith)) alike_none) (λ it rest shorter. alike_some (omega arith)) (alike_some (omega arith))

  -- a comma and its right operand
  pub another : (tokens : List SourceToken) → length tokens ≤ limit
      → Alike (length tokens) (another_rule (below limit table) tokens) (another_rule table tokens)
  another tokens low =
      alike_bind (alike_mark _ tokens) λ comma short.
      alike_bind (asks limit table shorts goal.assignment comma.1 (omega arith)) λ right shorter.
      alike_some (omega arith)

  -- all of them after the first operands
  commas : (lefts : List OneLeft) (right : Expression) (tokens : List SourceToken) → length tokens ≤ limit
      → Alike (suc (length tokens)) (commas_rule (below limit table) lefts right tokens) (commas_rule table lefts right tokens)
  commas lefts right tokens low =
      alike_going (another tokens low)
      (λ it rest short. alike_more (omega arith) (asks limit table shorts (goal.commas (lefts ++ one_left right it.0 ∷ []) it.1) rest (omega arith)))
      (alike_some (omega arith))

  -- an expression
  pub expression : (tokens : List SourceToken) → length tokens ≤ limit
      → Alike (length tokens) (expression_rule known (below limit table) tokens) (expression_rule known table tokens)
  expression tokens low =
      alike_bind (assignment tokens low) λ first short.
      alike_more (omega arith) (commas [] first.0 first.1 (omega arith))

  -- arguments
  arguments : (earlier : List Expression) (tokens : List SourceToken) → length tokens ≤ limit
      → Alike (length tokens) (arguments_rule known (below limit table) earlier tokens) (arguments_rule known table earlier tokens)
  arguments earlier tokens low =
      alike_bind (assignment tokens low) λ it short.
      alike_going (alike_mark _ it.1)
      (λ comma rest shorter. alike_more (omega arith) (asks limit table shorts (goal.arguments (earlier ++ it.0 ∷ [])) rest (omega arith)))
      (alike_some (omega arith))

  -- ---- specifiers

  -- a tag alone
  tag_alone : (of : Word → Specified) (tag : Option Word) (rest : List SourceToken) → Alike (suc (length rest)) (tagged of tag rest) (tagged of tag rest)
  tag_alone of None rest = alike_none
  tag_alone of (Some tag) rest = alike_some (omega arith)

  -- a structure
  structure : (at : Place) (tag : Option Word) (rest : List SourceToken) → length rest < limit
      → Alike (suc (length rest)) (struct_by (below limit table) at tag rest) (struct_by table at tag rest)
  structure at tag rest low =
      alike_if _
      (alike_bind (alike_mark _ rest) λ brace short.
      alike_bind (asks limit table shorts (goal.members []) brace.1 (omega arith)) λ its shorter.
      alike_bind (alike_mark _ its.1) λ close shortest.
      alike_some (omega arith))
      (tag_alone _ tag rest)

  -- an enumeration
  enumeration : (at : Place) (tag : Option Word) (rest : List SourceToken) → length rest < limit
      → Alike (suc (length rest)) (enum_by (below limit table) at tag rest) (enum_by table at tag rest)
  enumeration at tag rest low =
      alike_if _
      (alike_bind (alike_mark _ rest) λ brace short.
      alike_bind (asks limit table shorts (goal.constants []) brace.1 (omega arith)) λ its shorter.
      alike_bind (alike_mark _ its.1) λ close shortest.
      alike_some (omega arith))
      (tag_alone _ tag rest)

  -- a specifier, by cases
  specifier_with : (storage : Option Storage) (dropped : Option Dropped) (basic : Option Basic) (source : SourceToken) (rest : List SourceToken)
      → length rest < limit
      → Alike (suc (length rest)) (specifier_by known (below limit table) storage dropped basic source rest)
      (specifier_by known table storage dropped basic source rest)
  specifier_with (Some it) dropped basic source rest low = alike_some (omega arith)
  specifier_with None (Some it) basic source rest low = alike_some (omega arith)
  specifier_with None None (Some it) source rest low = alike_some (omega arith)
  specifier_with None None None source rest low =
      let short = tag_short rest in
      alike_if _ (alike_more (omega arith) (structure (place_of source) (tag_at rest).0 (tag_at rest).1 (omega arith)))
      (alike_if _ (alike_more (omega arith) (enumeration (place_of source) (tag_at rest).0 (tag_at rest).1 (omega arith)))
      (alike_if _ (alike_some (omega arith)) alike_none))

  -- a specifier
  specifier : (source : SourceToken) (rest : List SourceToken) → length rest < limit
      → Alike (suc (length rest)) (specifier_rule known (below limit table) source rest) (specifier_rule known table source rest)
  specifier source rest low = specifier_with (storage_of source) (dropped_of source) (basic_of source) source rest low

  -- a specifier and the others
  specifiers_behind : (typed : Bool) (earlier : List Specified) (source : SourceToken) (rest : List SourceToken) → length rest < limit
      → Alike (suc (length rest)) (do
        it ← specifier_rule known (below limit table) source rest
        below limit table (goal.specifiers (typed || is_type it.0) (earlier ++ it.0 ∷ [])) it.1)
      (do
        it ← specifier_rule known table source rest
        table (goal.specifiers (typed || is_type it.0) (earlier ++ it.0 ∷ [])) it.1)
  specifiers_behind typed earlier source rest low =
      alike_bind (specifier source rest low) λ it short.
      alike_more (omega arith) (asks limit table shorts (goal.specifiers (typed || is_type it.0) (earlier ++ it.0 ∷ [])) it.1 (omega arith))

  -- all of them
  specifiers : (typed : Bool) (earlier : List Specified) (tokens : List SourceToken) → length tokens ≤ limit
      → Alike (suc (length tokens)) (specifiers_rule known (below limit table) typed earlier tokens) (specifiers_rule known table typed earlier tokens)
  specifiers typed earlier [] low = alike_some (omega arith)
  specifiers typed earlier (source ∷ rest) low =
      alike_if _ (alike_more (omega arith) (specifiers_behind typed earlier source rest (omega arith))) (alike_some (omega arith))

  -- at least one
  pub some_specifiers : (tokens : List SourceToken) → length tokens ≤ limit
      → Alike (length tokens) (some_specifiers_rule known (below limit table) tokens) (some_specifiers_rule known table tokens)
  some_specifiers [] low = alike_none
  some_specifiers (source ∷ rest) low =
      elim (cases_Bool (begins_specifier known false source)) [
        | inl is ↦ rw is (specifiers_behind false [] source rest (omega arith))
        | inr is ↦ rw is alike_none
      ]

  -- ---- declarators

  -- a declarator that is not empty
  full : (it : Declared) (rest : List SourceToken) → Alike (suc (length rest)) (filled it rest) (filled it rest)
  full it rest = alike_if _ alike_none (alike_some (omega arith))

  -- a declarator in parentheses
  inside : (inner : Bool) (rest : List SourceToken) → length rest < limit
      → Alike (suc (length rest)) (inside_rule (below limit table) inner rest) (inside_rule table inner rest)
  inside inner rest low =
      alike_bind (asks limit table shorts (goal.declarator inner) rest low) λ it short.
      alike_bind (alike_mark _ it.1) λ close shorter.
      alike_more (omega arith) (full it.0 close.1)

  -- nothing, if a name may be missing
  missing : (inner : Bool) (tokens : List SourceToken) → Alike (suc (length tokens)) (nothing_there inner tokens) (nothing_there inner tokens)
  missing true tokens = alike_some (omega arith)
  missing false tokens = alike_none

  -- what the rest of a declarator follows, by cases
  base_with : (inner : Bool) (name : Option Word) (source : SourceToken) (rest : List SourceToken) → length rest < limit
      → Alike (suc (suc (length rest))) (base_by known (below limit table) inner name source rest) (base_by known table inner name source rest)
  base_with inner (Some name) source rest low = alike_some (omega arith)
  base_with inner None source rest low = alike_if _ (alike_more (omega arith) (inside inner rest low)) (missing inner (source ∷ rest))

  -- what the rest of a declarator follows
  base_of : (inner : Bool) (tokens : List SourceToken) → length tokens ≤ limit
      → Alike (suc (length tokens)) (base_rule known (below limit table) inner tokens) (base_rule known table inner tokens)
  base_of inner [] low = missing inner []
  base_of inner (source ∷ rest) low = base_with inner (name_of source) source rest (omega arith)

  -- after a `[`
  array : (base : Directly) (rest : List SourceToken) → length rest < limit
      → Alike (suc (length rest)) (length_rule (below limit table) base rest) (length_rule table base rest)
  array base rest low =
      alike_going (alike_mark _ rest) (λ close others short. alike_some (omega arith))
      (alike_bind (asks limit table shorts goal.conditional rest low) λ size short.
      alike_bind (alike_mark _ size.1) λ close shorter.
      alike_some (omega arith))

  -- after a `(`
  listed : (base : Directly) (rest : List SourceToken) → length rest < limit
      → Alike (suc (length rest)) (list_rule (below limit table) base rest) (list_rule table base rest)
  listed base rest low =
      alike_going (alike_mark _ rest) (λ close others short. alike_some (omega arith))
      (alike_going (alike_void rest) (λ void others short. alike_some (omega arith))
      (alike_bind (asks limit table shorts (goal.parameters []) rest low) λ its short.
      alike_bind (alike_mark _ its.1) λ close shorter.
      alike_some (omega arith)))

  -- the rest of a declarator
  directs : (base : Directly) (tokens : List SourceToken) → length tokens ≤ limit
      → Alike (suc (length tokens)) (directs_rule (below limit table) base tokens) (directs_rule table base tokens)
  directs base [] low = alike_some (omega arith)
  directs base (source ∷ rest) low =
      alike_if _
      (alike_bind (array base rest (omega arith)) λ it short. alike_more (omega arith) (asks limit table shorts (goal.directs it.0) it.1 (omega arith)))
      (alike_if _
      (alike_bind (listed base rest (omega arith)) λ it short. alike_more (omega arith) (asks limit table shorts (goal.directs it.0) it.1 (omega arith)))
      (alike_some (omega arith)))

  -- a declarator
  pub declarator : (inner : Bool) (tokens : List SourceToken) → length tokens ≤ limit
      → Alike (suc (length tokens)) (declarator_rule known (below limit table) inner tokens) (declarator_rule known table inner tokens)
  declarator inner tokens low =
      let fewer = pointers_short tokens in
      alike_bind (base_of inner (pointers_at tokens).1 (omega arith)) λ base short.
      alike_bind (directs base.0 base.1 (omega arith)) λ direct shorter.
      alike_some (omega arith)

  -- declarators
  declarators : (earlier : List Declared) (tokens : List SourceToken) → length tokens ≤ limit
      → Alike (suc (length tokens)) (declarators_rule known (below limit table) earlier tokens) (declarators_rule known table earlier tokens)
  declarators earlier tokens low =
      alike_bind (declarator false tokens low) λ it short.
      alike_going (alike_mark _ it.1)
      (λ comma rest shorter. alike_more (omega arith) (asks limit table shorts (goal.declarators (earlier ++ it.0 ∷ [])) rest (omega arith)))
      (alike_some (omega arith))

  -- a parameter
  parameter : (tokens : List SourceToken) → length tokens ≤ limit
      → Alike (length tokens) (parameter_rule known (below limit table) tokens) (parameter_rule known table tokens)
  parameter tokens low =
      alike_bind (some_specifiers tokens low) λ its short.
      alike_bind (declarator true its.1 (omega arith)) λ declared shorter.
      alike_some (omega arith)

  -- parameters
  parameters : (earlier : List OneParameter) (tokens : List SourceToken) → length tokens ≤ limit
      → Alike (length tokens) (parameters_rule known (below limit table) earlier tokens) (parameters_rule known table earlier tokens)
  parameters earlier tokens low =
      alike_bind (parameter tokens low) λ it short.
      alike_going (alike_mark _ it.1)
      (λ comma rest shorter. alike_more (omega arith) (asks limit table shorts (goal.parameters (earlier ++ it.0 ∷ [])) rest (omega arith)))
      (alike_some (omega arith))

  -- a type name
  type_name : (tokens : List SourceToken) → length tokens ≤ limit
      → Alike (length tokens) (type_rule known (below limit table) tokens) (type_rule known table tokens)
  type_name tokens low =
      alike_bind (some_specifiers tokens low) λ its short.
      alike_bind (declarator true its.1 (omega arith)) λ declared shorter.
      alike_if _ alike_none (alike_some (omega arith))

  -- ---- members and enumeration constants

  -- a member
  member_of : (tokens : List SourceToken) → length tokens ≤ limit
      → Alike (length tokens) (member_rule_of known (below limit table) tokens) (member_rule_of known table tokens)
  member_of tokens low =
      alike_bind (some_specifiers tokens low) λ its short.
      alike_bind (asks limit table shorts (goal.declarators []) its.1 (omega arith)) λ declared shorter.
      alike_bind (alike_mark _ declared.1) λ semicolon shortest.
      alike_some (omega arith)

  -- members
  members : (earlier : List OneMember) (tokens : List SourceToken) → length tokens ≤ limit
      → Alike (length tokens) (members_rule known (below limit table) earlier tokens) (members_rule known table earlier tokens)
  members earlier tokens low =
      alike_bind (member_of tokens low) λ it short.
      alike_if _ (alike_some (omega arith)) (alike_more (omega arith) (asks limit table shorts (goal.members (earlier ++ it.0 ∷ [])) it.1 (omega arith)))

  -- an enumeration constant
  constant : (tokens : List SourceToken) → length tokens ≤ limit
      → Alike (length tokens) (constant_rule (below limit table) tokens) (constant_rule table tokens)
  constant tokens low =
      alike_bind (alike_name tokens) λ name short.
      alike_going (alike_mark _ name.1)
      (λ equals rest shorter.
      alike_bind (asks limit table shorts goal.conditional rest (omega arith)) λ value shortest.
      alike_some (omega arith))
      (alike_some (omega arith))

  -- enumeration constants
  constants : (earlier : List OneConstant) (tokens : List SourceToken) → length tokens ≤ limit
      → Alike (length tokens) (constants_rule (below limit table) earlier tokens) (constants_rule table earlier tokens)
  constants earlier tokens low =
      alike_bind (constant tokens low) λ it short.
      alike_going (alike_mark _ it.1)
      (λ comma rest shorter.
      alike_if _ (alike_some (omega arith)) (alike_more (omega arith) (asks limit table shorts (goal.constants (earlier ++ it.0 ∷ [])) rest (omega arith))))
      (alike_some (omega arith))

  -- ---- all of them

  -- each rule, by the goal
  pub rule_alike : (it : Goal) (tokens : List SourceToken) → length tokens ≤ limit
      → Alike (suc (length tokens)) (rule known (below limit table) it tokens) (rule known table it tokens)
  rule_alike goal.expression tokens low = alike_more (omega arith) (expression tokens low)
  rule_alike goal.assignment tokens low = alike_more (omega arith) (assignment tokens low)
  rule_alike goal.conditional tokens low = alike_more (omega arith) (conditional tokens low)
  rule_alike (goal.binary least) tokens low = alike_more (omega arith) (binary least tokens low)
  rule_alike goal.cast tokens low = alike_more (omega arith) (cast tokens low)
  rule_alike goal.unary tokens low = alike_more (omega arith) (unary tokens low)
  rule_alike (goal.commas lefts right) tokens low = commas lefts right tokens low
  rule_alike (goal.climb least most left) tokens low = climb least most left tokens low
  rule_alike (goal.suffixes base) tokens low = suffixes base tokens low
  rule_alike (goal.arguments earlier) tokens low = alike_more (omega arith) (arguments earlier tokens low)
  rule_alike goal.type_name tokens low = alike_more (omega arith) (type_name tokens low)
  rule_alike (goal.specifiers typed earlier) tokens low = specifiers typed earlier tokens low
  rule_alike (goal.members earlier) tokens low = alike_more (omega arith) (members earlier tokens low)
  rule_alike (goal.constants earlier) tokens low = alike_more (omega arith) (constants earlier tokens low)
  rule_alike (goal.declarator inner) tokens low = declarator inner tokens low
  rule_alike (goal.declarators earlier) tokens low = declarators earlier tokens low
  rule_alike (goal.directs base) tokens low = directs base tokens low
  rule_alike (goal.parameters earlier) tokens low = alike_more (omega arith) (parameters earlier tokens low)

-- the reading is a table that reads by the rules
pub reads_by_rules : (known : Known) → IsByRules (rule known) (reading known)
unfolding reading
reads_by_rules known = fixed_by_rules (rule known) (λ limit table shorts it tokens low. rule_alike known limit table shorts it tokens low)
