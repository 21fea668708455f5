-- All that is said of an expression that stands at the front of tokens, put together from what is known at its own rank.
--     AllRead known table e tokens rest      it is read at each rank that it has, and how it begins
--     postfix_all, unary_all, ..             from its own rank
use Rattle.std.proofs.Common.{◌≡◌, ℕ, ◌≤◌, Bool, true, false, List, [], ◌∷◌, Option, Some, None, refl, ap, sym, ◌∙◌, subst, arith}
use Rattle.std.specs.Prelude.{◌||◌, ◌+◌, codes, is_some}
use Rattle.hs_tokens.specs.declared.token.SourceToken.{SourceToken}
use Rattle.hs_syntax.specs.Operators.{precedence_of}
use Rattle.hs_syntax.specs.Phrases.{rank}
use Rattle.hs_syntax.specs.Trees as tree
use Rattle.hs_syntax.specs.Trees.{Expression}
use Rattle.hs_syntax.specs.declared.operators.BinaryOperator.{BinaryOperator}
use Rattle.hs_syntax.specs.declared.operators.BinaryOperator.TheVariants as binary
use Rattle.hs_syntax.specs.declared.operators.PrefixOperator.{PrefixOperator}
use Rattle.hs_expr_parser.specs.Ahead.{stops, begins_type, begins_specifier, is_ahead, prefix_of, is_keyword}
use Rattle.hs_expr_parser.specs.Recursion.{Read}
use Rattle.hs_expr_parser.specs.Reading.{Known, Shorter, suffixes_rule, postfix_rule, unary_by, unary_rule, cast_rule, climb_rule, binary_rule, conditional_rule, assignment_rule, expression_rule}
use Rattle.hs_expr_parser.specs.Laws.Along.{Whole, Longer, Reads, longer_along, reads_along, up_binary, climbs_cast, up_conditional, up_assignment, up_expression, suffixes_longer, suffixes_stop}
use Rattle.hs_expr_parser.specs.Laws.Stopping.{looser}

-- the precedence of its operator, or the tightest one
abbrev pub tightest : Expression → ℕ
tightest (tree.binary left operator at right) = precedence_of operator
tightest _ = 10

-- no binary operator binds more tightly than those of precedence 10
pub precedence_most : (it : BinaryOperator) → precedence_of it ≤ 10
precedence_most binary.Multiply = omega arith
precedence_most _ = omega arith

-- the token begins a unary expression that is no postfix one
abbrev pub is_unary_start : SourceToken → Bool
is_unary_start source = is_some (prefix_of source) || is_keyword (codes "sizeof") source

pub record AllRead (known : Known) (table : Shorter) (e : Expression) (tokens rest : List SourceToken) : Type 0 where
  -- it begins with no specifier; a unary one with no type name in parentheses; a postfix one with no operator
  pub begins : is_ahead (begins_specifier known false) tokens ≡ false
  pub untyped : 14 ≤ rank e → begins_type known tokens ≡ false
  pub plain_start : 15 ≤ rank e → is_ahead is_unary_start tokens ≡ false
  -- what is read after it
  pub suffixed : 15 ≤ rank e → stops 16 rest ≡ true → postfix_rule known table tokens ≡ suffixes_rule table e rest
  pub climbs : (least : ℕ) → 1 ≤ least → least ≤ 11 → 2 + least ≤ rank e → stops (3 + tightest e) rest ≡ true
      → binary_rule known table least tokens ≡ climb_rule table least (tightest e) e rest
  -- at each rank
  pub unary : 14 ≤ rank e → Reads (unary_rule known table tokens) e rest (stops 14 rest)
  pub cast : 13 ≤ rank e → Reads (cast_rule known table tokens) e rest (stops 13 rest)
  pub binary : (least : ℕ) → 1 ≤ least → least ≤ 11 → 2 + least ≤ rank e → Reads (binary_rule known table least tokens) e rest (stops (2 + least) rest)
  pub conditional : 2 ≤ rank e → Reads (conditional_rule known table tokens) e rest (stops 2 rest)
  pub assignment : 1 ≤ rank e → Reads (assignment_rule known table tokens) e rest (stops 1 rest)
  pub expression : Reads (expression_rule known table tokens) e rest (stops 0 rest)

-- a comma
pub expression_all : (known : Known) (table : Shorter) (e : Expression) (tokens rest : List SourceToken) → rank e ≡ 0
    → is_ahead (begins_specifier known false) tokens ≡ false → Reads (expression_rule known table tokens) e rest (stops 0 rest)
    → AllRead known table e tokens rest
expression_all known table e tokens rest is begins reads = record {
  begins = begins;
  untyped = λ tight. absurd (omega (arith, is, tight));
  plain_start = λ tight. absurd (omega (arith, is, tight));
  suffixed = λ tight stopped. absurd (omega (arith, is, tight));
  climbs = λ least some most tight stopped. absurd (omega (arith, is, tight));
  unary = λ tight. absurd (omega (arith, is, tight));
  cast = λ tight. absurd (omega (arith, is, tight));
  binary = λ least some most tight. absurd (omega (arith, is, tight));
  conditional = λ tight. absurd (omega (arith, is, tight));
  assignment = λ tight. absurd (omega (arith, is, tight));
  expression = reads;
}

-- an assignment
pub assignment_all : {known : Known} {table : Shorter} → Whole known table → (e : Expression) (tokens rest : List SourceToken) → rank e ≡ 1
    → is_ahead (begins_specifier known false) tokens ≡ false → Reads (assignment_rule known table tokens) e rest (stops 1 rest)
    → AllRead known table e tokens rest
assignment_all whole e tokens rest is begins reads = record {
  begins = begins;
  untyped = λ tight. absurd (omega (arith, is, tight));
  plain_start = λ tight. absurd (omega (arith, is, tight));
  suffixed = λ tight stopped. absurd (omega (arith, is, tight));
  climbs = λ least some most tight stopped. absurd (omega (arith, is, some, tight));
  unary = λ tight. absurd (omega (arith, is, tight));
  cast = λ tight. absurd (omega (arith, is, tight));
  binary = λ least some most tight. absurd (omega (arith, is, some, tight));
  conditional = λ tight. absurd (omega (arith, is, tight));
  assignment = λ tight. reads;
  expression = up_expression whole tokens e rest reads;
}

-- a conditional
pub conditional_all : {known : Known} {table : Shorter} → Whole known table → (e : Expression) (tokens rest : List SourceToken) → rank e ≡ 2
    → is_ahead (begins_specifier known false) tokens ≡ false → Reads (conditional_rule known table tokens) e rest (stops 2 rest)
    → AllRead known table e tokens rest
conditional_all whole e tokens rest is begins reads = record {
  begins = begins;
  untyped = λ tight. absurd (omega (arith, is, tight));
  plain_start = λ tight. absurd (omega (arith, is, tight));
  suffixed = λ tight stopped. absurd (omega (arith, is, tight));
  climbs = λ least some most tight stopped. absurd (omega (arith, is, some, tight));
  unary = λ tight. absurd (omega (arith, is, tight));
  cast = λ tight. absurd (omega (arith, is, tight));
  binary = λ least some most tight. absurd (omega (arith, is, some, tight));
  conditional = λ tight. reads;
  assignment = λ tight. up_assignment whole tokens e rest reads;
  expression = up_expression whole tokens e rest (up_assignment whole tokens e rest reads);
}

-- binary operators
pub binary_all : {known : Known} {table : Shorter} → Whole known table → (e : Expression) (tokens rest : List SourceToken) → 3 ≤ rank e → rank e ≤ 12
    → is_ahead (begins_specifier known false) tokens ≡ false
    → ((least : ℕ) → 1 ≤ least → least ≤ 11 → 2 + least ≤ rank e → stops (3 + tightest e) rest ≡ true
    → binary_rule known table least tokens ≡ climb_rule table least (tightest e) e rest)
    → ((least : ℕ) → 1 ≤ least → least ≤ 11 → 2 + least ≤ rank e → Reads (binary_rule known table least tokens) e rest (stops (2 + least) rest))
    → AllRead known table e tokens rest
binary_all whole e tokens rest low high begins climbs reads =
    let one = up_conditional whole tokens e rest (reads 1 (omega arith) (omega arith) (omega (arith, low))) in
    record {
      begins = begins;
      untyped = λ tight. absurd (omega (arith, high, tight));
      plain_start = λ tight. absurd (omega (arith, high, tight));
      suffixed = λ tight stopped. absurd (omega (arith, high, tight));
      climbs = climbs;
      unary = λ tight. absurd (omega (arith, high, tight));
      cast = λ tight. absurd (omega (arith, high, tight));
      binary = reads;
      conditional = λ tight. one;
      assignment = λ tight. up_assignment whole tokens e rest one;
      expression = up_expression whole tokens e rest (up_assignment whole tokens e rest one);
    }

-- a cast
pub cast_all : {known : Known} {table : Shorter} → Whole known table → (e : Expression) (tokens rest : List SourceToken) → 13 ≤ rank e → tightest e ≡ 10
    → is_ahead (begins_specifier known false) tokens ≡ false
    → (14 ≤ rank e → begins_type known tokens ≡ false)
    → (15 ≤ rank e → is_ahead is_unary_start tokens ≡ false)
    → (15 ≤ rank e → stops 16 rest ≡ true → postfix_rule known table tokens ≡ suffixes_rule table e rest)
    → (14 ≤ rank e → Reads (unary_rule known table tokens) e rest (stops 14 rest))
    → Reads (cast_rule known table tokens) e rest (stops 13 rest)
    → AllRead known table e tokens rest
cast_all {known = known} {table = table} whole e tokens rest low ten begins untyped plain_start suffixed unary reads =
    let one = up_conditional whole tokens e rest (up_binary whole 1 tokens e rest (omega arith) reads) in
    record {
      begins = begins;
      untyped = untyped;
      plain_start = plain_start;
      suffixed = suffixed;
      climbs = λ least some most tight stopped.
          climbs_cast known table least tokens e rest reads (ap (λ it. stops (3 + it) rest) (sym ten) ∙ stopped)
          ∙ ap (λ it. climb_rule table least it e rest) (sym ten);
      unary = unary;
      cast = λ tight. reads;
      binary = λ least some most tight. up_binary whole least tokens e rest most reads;
      conditional = λ tight. one;
      assignment = λ tight. up_assignment whole tokens e rest one;
      expression = up_expression whole tokens e rest (up_assignment whole tokens e rest one);
    }

-- a reading that stops sooner
stops_sooner : {A : Type 0} {read : Read A} {it : A} {rest : List SourceToken} {one other : Bool} → (one ≡ true → other ≡ true)
    → Reads read it rest other → Reads read it rest one
stops_sooner sooner reads = record { longer = reads.longer; exact = λ is. reads.exact (sooner is) }

-- a unary expression
pub unary_all : {known : Known} {table : Shorter} → Whole known table → (e : Expression) (tokens rest : List SourceToken) → 14 ≤ rank e → tightest e ≡ 10
    → is_ahead (begins_specifier known false) tokens ≡ false
    → begins_type known tokens ≡ false
    → (15 ≤ rank e → is_ahead is_unary_start tokens ≡ false)
    → (15 ≤ rank e → stops 16 rest ≡ true → postfix_rule known table tokens ≡ suffixes_rule table e rest)
    → Reads (unary_rule known table tokens) e rest (stops 14 rest)
    → AllRead known table e tokens rest
unary_all {known = known} {table = table} whole e tokens rest low ten begins untyped plain_start suffixed reads =
    let same : cast_rule known table tokens ≡ unary_rule known table tokens = rw untyped refl in
    cast_all whole e tokens rest (omega (arith, low)) ten begins (λ tight. untyped) plain_start suffixed (λ tight. reads)
    (reads_along same (stops_sooner (looser 13 14 rest (omega arith)) reads))

-- no operator stands in front
plain_unary : (known : Known) (table : Shorter) (found : Option PrefixOperator) (is_sizeof : Bool) (source : SourceToken) (rest : List SourceToken)
    → (is_some found || is_sizeof) ≡ false → unary_by known table found is_sizeof source rest ≡ postfix_rule known table (source ∷ rest)
plain_unary known table None false source rest is = refl
plain_unary known table None true source rest is = absurd cc
plain_unary known table (Some it) is_sizeof source rest is = absurd cc

plain_rule : (known : Known) (table : Shorter) (tokens : List SourceToken) → is_ahead is_unary_start tokens ≡ false
    → unary_rule known table tokens ≡ postfix_rule known table tokens
plain_rule known table [] is = refl
plain_rule known table (source ∷ rest) is = plain_unary known table (prefix_of source) (is_keyword (codes "sizeof") source) source rest is

-- a postfix expression
pub postfix_all : {known : Known} {table : Shorter} → Whole known table → (e : Expression) (tokens rest : List SourceToken) → 15 ≤ rank e → tightest e ≡ 10
    → is_ahead (begins_specifier known false) tokens ≡ false
    → begins_type known tokens ≡ false
    → is_ahead is_unary_start tokens ≡ false
    → (stops 16 rest ≡ true → postfix_rule known table tokens ≡ suffixes_rule table e rest)
    → Longer (postfix_rule known table tokens) rest
    → AllRead known table e tokens rest
postfix_all {known = known} {table = table} whole e tokens rest low ten begins untyped plain_start suffixed longer =
    unary_all whole e tokens rest (omega (arith, low)) ten begins untyped (λ tight. plain_start) (λ tight. suffixed)
    (reads_along (plain_rule known table tokens plain_start) (record {
      longer = longer;
      exact = λ is. suffixed (looser 14 16 rest (omega arith) is) ∙ suffixes_stop table e rest (looser 14 15 rest (omega arith) is);
    }))

-- a postfix expression that nothing makes a longer primary one
pub closed_all : {known : Known} {table : Shorter} → Whole known table → (e : Expression) (tokens rest : List SourceToken) → 15 ≤ rank e → tightest e ≡ 10
    → is_ahead (begins_specifier known false) tokens ≡ false
    → begins_type known tokens ≡ false
    → is_ahead is_unary_start tokens ≡ false
    → postfix_rule known table tokens ≡ suffixes_rule table e rest
    → AllRead known table e tokens rest
closed_all whole e tokens rest low ten begins untyped plain_start suffixed =
    postfix_all whole e tokens rest low ten begins untyped plain_start (λ stopped. suffixed) (longer_along suffixed (suffixes_longer whole e rest))

-- the same of the same tokens
pub all_along : {known : Known} {table : Shorter} {e : Expression} {tokens others rest : List SourceToken} → tokens ≡ others
    → AllRead known table e others rest → AllRead known table e tokens rest
all_along {known = known} {table = table} {e = e} {rest = rest} same all = subst (λ (it : List SourceToken). AllRead known table e it rest) (sym same) all
