-- What a table gives for each goal, if what it reads is found.
--     expression_gives, assignment_gives, ..      each goal's own form
use Rattle.std.proofs.Common.{◌≡◌, ℕ, ◌≤◌, Bool, true, false, List, [], ◌∷◌, ◌++◌, refl, ◌∙◌, append_assoc}
use Rattle.std.specs.Prelude.{◌||◌}
use Rattle.hs_tokens.specs.declared.token.SourceToken.{SourceToken}
use Rattle.hs_syntax.specs.Forms.{Form, ◌⨾◌, IsOf}
use Rattle.hs_syntax.specs.Grammar.{expression_form, lefts_form, arguments_form, type_form, specification_form, members_form, constants_form, declarator_form, declarators_form, direct_form, parameters_form}
use Rattle.hs_syntax.specs.Parts.{comma_form}
use Rattle.hs_syntax.specs.Phrases.{as_assignment, as_conditional, as_operand, as_cast, as_unary, as_postfix, is_typed, is_named, names}
use Rattle.hs_syntax.specs.RowViews.{OneLeft, OneMember, OneConstant, OneParameter, expressions_from, lefts_from, specification_from, members_from, constants_from, declarators_from, parameters_from}
use Rattle.hs_syntax.specs.Trees.{Expression, NamedType, Specified, Declared, Directly}
use Rattle.hs_expr_parser.specs.Ahead.{is_ahead, begins_specifier}
use Rattle.hs_expr_parser.specs.Goals as goal
use Rattle.hs_expr_parser.specs.Goals.{Goal, Tree}
use Rattle.hs_expr_parser.specs.Reading.{Known, Shorter}
use Rattle.hs_expr_parser.specs.Found.{Takes, IsFound}
use Rattle.hs_expr_parser.specs.Laws.Yields.{Yields, so_gives, always_gives}
use Rattle.hs_expr_parser.specs.Laws.Spelled.{Begins, Goes}

-- more entries after the earlier ones, at least one, and the tokens have a front that is of their form
pub record Grows {A : Type 0} (earlier all : List A) (form : List A → Form) (tokens rest : List SourceToken) : Type 0 where
  pub first : A
  pub others : List A
  pub whole : all ≡ earlier ++ first ∷ others
  pub begins : Begins (form (first ∷ others)) tokens rest

-- one entry
pub one_grows : {A : Type 0} (earlier : List A) (it : A) (form : List A → Form) (tokens rest : List SourceToken) → Begins (form (it ∷ [])) tokens rest
    → Grows earlier (earlier ++ it ∷ []) form tokens rest
one_grows earlier it form tokens rest begins = record { first = it; others = []; whole = refl; begins = begins }

-- one more in front
pub more_grows : {A : Type 0} (earlier : List A) (it : A) (all : List A) (form : List A → Form) (tokens middle rest : List SourceToken)
    → Grows (earlier ++ it ∷ []) all form middle rest
    → ((first : A) (others : List A) → Begins (form (first ∷ others)) middle rest → Begins (form (it ∷ first ∷ others)) tokens rest)
    → Grows earlier all form tokens rest
more_grows earlier it all form tokens middle rest grown so = record {
  first = it;
  others = grown.first ∷ grown.others;
  whole = grown.whole ∙ append_assoc earlier (it ∷ []) (grown.first ∷ grown.others);
  begins = so grown.first grown.others grown.begins;
}

-- specifiers after the earlier ones, and no other follows
pub record Specifies (known : Known) (typed : Bool) (earlier all : List Specified) (tokens rest : List SourceToken) : Type 0 where
  pub its : List Specified
  pub whole : all ≡ earlier ++ its
  pub begins : Begins (specification_form known typed (specification_from its)) tokens rest
  pub ends : is_ahead (begins_specifier known (typed || is_typed (specification_from its))) rest ≡ false

-- a declarator, which is named but for a parameter or a type name
pub record Declares (known : Known) (inner : Bool) (it : Declared) (tokens rest : List SourceToken) : Type 0 where
  pub begins : Begins (declarator_form known inner it) tokens rest
  pub named : inner ≡ false → is_named it ≡ true

-- the rest of a declarator, which is named as what stands in front
pub record Directs (known : Known) (base direct : Directly) (tokens rest : List SourceToken) : Type 0 where
  pub same : names direct ≡ names base
  pub front : List SourceToken
  pub whole : tokens ≡ front ++ rest
  pub is : (inner : Bool) (before : List SourceToken) → IsOf (direct_form known inner base) before → IsOf (direct_form known inner direct) (before ++ front)

module _ (known : Known) (table : Shorter) (found : IsFound known table) where
  pub expression_gives : (tokens : List SourceToken)
      → Yields (λ (e : Expression) rest. Begins (expression_form known e) tokens rest) (table goal.expression tokens)
  expression_gives tokens = so_gives (table goal.expression tokens) (always_gives (Takes known) table found goal.expression tokens)
      (λ e rest it. record { front = it.0; whole = it.1; is = it.2 })

  pub assignment_gives : (tokens : List SourceToken)
      → Yields (λ (e : Expression) rest. Begins (as_assignment e (expression_form known e)) tokens rest) (table goal.assignment tokens)
  assignment_gives tokens = so_gives (table goal.assignment tokens) (always_gives (Takes known) table found goal.assignment tokens)
      (λ e rest it. record { front = it.0; whole = it.1; is = it.2 })

  pub conditional_gives : (tokens : List SourceToken)
      → Yields (λ (e : Expression) rest. Begins (as_conditional e (expression_form known e)) tokens rest) (table goal.conditional tokens)
  conditional_gives tokens = so_gives (table goal.conditional tokens) (always_gives (Takes known) table found goal.conditional tokens)
      (λ e rest it. record { front = it.0; whole = it.1; is = it.2 })

  pub binary_gives : (least : ℕ) (tokens : List SourceToken) → least ≤ 11
      → Yields (λ (e : Expression) rest. Begins (as_operand least e (expression_form known e)) tokens rest) (table (goal.binary least) tokens)
  binary_gives least tokens most = so_gives (table (goal.binary least) tokens) (always_gives (Takes known) table found (goal.binary least) tokens)
      (λ e rest it. record { front = it.0; whole = it.1; is = it.2 most })

  pub cast_gives : (tokens : List SourceToken)
      → Yields (λ (e : Expression) rest. Begins (as_cast e (expression_form known e)) tokens rest) (table goal.cast tokens)
  cast_gives tokens = so_gives (table goal.cast tokens) (always_gives (Takes known) table found goal.cast tokens)
      (λ e rest it. record { front = it.0; whole = it.1; is = it.2 })

  pub unary_gives : (tokens : List SourceToken)
      → Yields (λ (e : Expression) rest. Begins (as_unary e (expression_form known e)) tokens rest) (table goal.unary tokens)
  unary_gives tokens = so_gives (table goal.unary tokens) (always_gives (Takes known) table found goal.unary tokens)
      (λ e rest it. record { front = it.0; whole = it.1; is = it.2 })

  pub commas_gives : (lefts : List OneLeft) (right : Expression) (tokens : List SourceToken)
      → Yields (λ (e : Expression) rest. Goes (lefts_form known (lefts_from lefts) ⨾ as_assignment right (expression_form known right))
      (expression_form known e) tokens rest)
      (table (goal.commas lefts right) tokens)
  commas_gives lefts right tokens = so_gives (table (goal.commas lefts right) tokens) (always_gives (Takes known) table found (goal.commas lefts right) tokens)
      (λ e rest it. record { front = it.0; whole = it.1; is = it.2 })

  pub climb_gives : (least most : ℕ) (left : Expression) (tokens : List SourceToken) → least ≤ 11
      → Yields (λ (e : Expression) rest. Goes (as_operand most left (as_operand least left (expression_form known left)))
      (as_operand least e (expression_form known e)) tokens rest)
      (table (goal.climb least most left) tokens)
  climb_gives least most left tokens within =
      so_gives (table (goal.climb least most left) tokens) (always_gives (Takes known) table found (goal.climb least most left) tokens)
      (λ e rest it. record { front = it.0; whole = it.1; is = λ before is. it.2 before within is })

  pub suffixes_gives : (base : Expression) (tokens : List SourceToken)
      → Yields (λ (e : Expression) rest. Goes (as_postfix base (expression_form known base)) (as_postfix e (expression_form known e)) tokens rest)
      (table (goal.suffixes base) tokens)
  suffixes_gives base tokens = so_gives (table (goal.suffixes base) tokens) (always_gives (Takes known) table found (goal.suffixes base) tokens)
      (λ e rest it. record { front = it.0; whole = it.1; is = it.2 })

  pub arguments_gives : (earlier : List Expression) (tokens : List SourceToken)
      → Yields (λ (all : List Expression) rest. Grows earlier all (λ its. arguments_form known (expressions_from its)) tokens rest)
      (table (goal.arguments earlier) tokens)
  arguments_gives earlier tokens = so_gives (table (goal.arguments earlier) tokens) (always_gives (Takes known) table found (goal.arguments earlier) tokens)
      (λ all rest it. record {
        first = it.2.0;
        others = it.2.1;
        whole = it.2.2;
        begins = record { front = it.0; whole = it.1; is = it.2.3 };
      })

  pub type_gives : (tokens : List SourceToken) → Yields (λ (type : NamedType) rest. Begins (type_form known type) tokens rest) (table goal.type_name tokens)
  type_gives tokens = so_gives (table goal.type_name tokens) (always_gives (Takes known) table found goal.type_name tokens)
      (λ type rest it. record { front = it.0; whole = it.1; is = it.2 })

  pub specifiers_gives : (typed : Bool) (earlier : List Specified) (tokens : List SourceToken)
      → Yields (λ (all : List Specified) rest. Specifies known typed earlier all tokens rest) (table (goal.specifiers typed earlier) tokens)
  specifiers_gives typed earlier tokens = so_gives (table (goal.specifiers typed earlier) tokens)
      (always_gives (Takes known) table found (goal.specifiers typed earlier) tokens)
      (λ all rest it. record {
        its = it.2.0;
        whole = it.2.1;
        begins = record { front = it.0; whole = it.1; is = it.2.2 };
        ends = it.2.3;
      })

  pub members_gives : (earlier : List OneMember) (tokens : List SourceToken)
      → Yields (λ (all : List OneMember) rest. Grows earlier all (λ its. members_form known (members_from its)) tokens rest)
      (table (goal.members earlier) tokens)
  members_gives earlier tokens = so_gives (table (goal.members earlier) tokens) (always_gives (Takes known) table found (goal.members earlier) tokens)
      (λ all rest it. record {
        first = it.2.0;
        others = it.2.1;
        whole = it.2.2;
        begins = record { front = it.0; whole = it.1; is = it.2.3 };
      })

  pub constants_gives : (earlier : List OneConstant) (tokens : List SourceToken)
      → Yields (λ (all : List OneConstant × Bool) rest. Grows earlier all.0 (λ its. constants_form known (constants_from its) ⨾ comma_form all.1) tokens rest)
      (table (goal.constants earlier) tokens)
  constants_gives earlier tokens = so_gives (table (goal.constants earlier) tokens) (always_gives (Takes known) table found (goal.constants earlier) tokens)
      (λ all rest it. record {
        first = it.2.0;
        others = it.2.1;
        whole = it.2.2;
        begins = record { front = it.0; whole = it.1; is = it.2.3 };
      })

  pub declarator_gives : (inner : Bool) (tokens : List SourceToken)
      → Yields (λ (it : Declared) rest. Declares known inner it tokens rest) (table (goal.declarator inner) tokens)
  declarator_gives inner tokens = so_gives (table (goal.declarator inner) tokens) (always_gives (Takes known) table found (goal.declarator inner) tokens)
      (λ declared rest it. record { begins = record { front = it.0; whole = it.1; is = it.2.0 }; named = it.2.1 })

  pub declarators_gives : (earlier : List Declared) (tokens : List SourceToken)
      → Yields (λ (all : List Declared) rest. Grows earlier all (λ its. declarators_form known (declarators_from its)) tokens rest)
      (table (goal.declarators earlier) tokens)
  declarators_gives earlier tokens = so_gives (table (goal.declarators earlier) tokens)
      (always_gives (Takes known) table found (goal.declarators earlier) tokens)
      (λ all rest it. record {
        first = it.2.0;
        others = it.2.1;
        whole = it.2.2;
        begins = record { front = it.0; whole = it.1; is = it.2.3 };
      })

  pub directs_gives : (base : Directly) (tokens : List SourceToken)
      → Yields (λ (direct : Directly) rest. Directs known base direct tokens rest) (table (goal.directs base) tokens)
  directs_gives base tokens = so_gives (table (goal.directs base) tokens) (always_gives (Takes known) table found (goal.directs base) tokens)
      (λ direct rest it. record { same = it.2.0; front = it.0; whole = it.1; is = it.2.1 })

  pub parameters_gives : (earlier : List OneParameter) (tokens : List SourceToken)
      → Yields (λ (all : List OneParameter) rest. Grows earlier all (λ its. parameters_form known (parameters_from its)) tokens rest)
      (table (goal.parameters earlier) tokens)
  parameters_gives earlier tokens = so_gives (table (goal.parameters earlier) tokens) (always_gives (Takes known) table found (goal.parameters earlier) tokens)
      (λ all rest it. record {
        first = it.2.0;
        others = it.2.1;
        whole = it.2.2;
        begins = record { front = it.0; whole = it.1; is = it.2.3 };
      })
