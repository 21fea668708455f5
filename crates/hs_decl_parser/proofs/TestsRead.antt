-- The expressions of statements are read.
--     mark_stops                 no expression goes on with some punctuators
--     test_reads                 an expression in parentheses
--     optional_reads             an expression or none, and a punctuator
--     optional_then              the same with a phrase after it
use Rattle.std.proofs.Common.{◌≡◌, ℕ, true, List, [], ◌∷◌, ◌++◌, Option, Some, None, refl, ap, ◌∙◌}
use Rattle.std.specs.Prelude.{codes}
use Rattle.hs_base.specs.Options.{◌>>=◌}
use Rattle.hs_tokens.specs.declared.token.SourceToken.{SourceToken}
use Rattle.hs_tokens.specs.declared.token.TokenKind.TheVariants.{Punctuator}
use Rattle.hs_syntax.specs.Forms.{Form, ◌⨾◌, mark, IsOf}
use Rattle.hs_syntax.specs.Grammar.{expression_form, optional_form, test_form}
use Rattle.hs_syntax.specs.Trees.{Expression}
use Rattle.hs_tokens.specs.declared.place.Place.{Place}
use Rattle.hs_expr_parser.specs.Ahead.{is_mark_ahead, stops, is_below, joins}
use Rattle.hs_expr_parser.specs.Recursion.{Read}
use Rattle.hs_expr_parser.specs.Reading.{Known, going_on}
use Rattle.hs_expr_parser.specs.Steps.{expression_at}
use Rattle.hs_expr_parser.specs.Laws.Apart.{with_text, token_is}
use Rattle.hs_expr_parser.specs.Laws.Enclosed.{headed}
use Rattle.hs_expr_parser.specs.Laws.FirstTokens.{mark_missing}
use Rattle.hs_expr_parser.specs.Laws.Phrases.{expression_reads}
use Rattle.hs_expr_parser.specs.Laws.Primaries.{closing, closes, mark_reads, bracketed, behind}
use Rattle.hs_decl_parser.proofs.NotAhead.{not_ahead}
use Rattle.hs_decl_parser.specs.Reading.{test_rule, optional_rule}

-- an expression of a rank does not go on before a punctuator
pub mark_stops : (text : List ℕ) (rank : ℕ) (tokens : List SourceToken)
    → ((source : SourceToken) → is_below rank (joins (with_text Punctuator text source)) ≡ true) → is_mark_ahead text tokens ≡ true → stops rank tokens ≡ true
mark_stops text rank [] below is = refl
mark_stops text rank (source ∷ rest) below is = ap (λ it. is_below rank (joins it)) (token_is Punctuator text source is) ∙ below source

-- what is read after the `(` of a test
abbrev test_behind : Known → Place × List SourceToken → Read Expression
test_behind known opening = expression_at known opening.1 >>= closing (λ (e : Expression). e) (codes ")")

-- an expression in parentheses
pub test_reads : (known : Known) (e : Expression) (front rest : List SourceToken) → IsOf (test_form known e) front
    → test_rule known (front ++ rest) ≡ Some (e, rest)
test_reads known e front rest fits =
    let its = bracketed (codes "(") (codes ")") None (expression_form known e) front fits in
    let tokens : List SourceToken = its.inside ++ (its.close ∷ rest) in
    ap (test_rule known) (its.whole rest)
    ∙ ap (λ found. found >>= test_behind known) (mark_reads (codes "(") its.opening tokens its.opens)
    ∙ closes (expression_at known tokens) e (codes ")") its.close rest (λ (e : Expression). e)
    (expression_reads known e its.inside (its.close ∷ rest) its.fits (ap (λ it. is_below 0 (joins it)) its.closed)) its.closed

-- what is read if the punctuator is not in front
abbrev some_expression : Known → List ℕ → List SourceToken → Read (Option Expression)
some_expression known text tokens = expression_at known tokens >>= closing (λ (e : Expression). Some e) text

-- what is read, by whether the punctuator is in front
abbrev optional_by : Known → List ℕ → List SourceToken → Read Place → Read (Option Expression)
optional_by known text tokens found = going_on found (λ end rest. Some (None, rest)) (some_expression known text tokens)

-- an expression or none, and the punctuator, with which no expression goes on or begins
pub optional_reads : (known : Known) (text : List ℕ) (e : Option Expression) (front : List SourceToken) (end : SourceToken) (rest : List SourceToken)
    → ((source : SourceToken) → is_below 0 (joins (with_text Punctuator text source)) ≡ true)
    → ((source : SourceToken) (others : List SourceToken) → expression_at known (with_text Punctuator text source ∷ others) ≡ None)
    → IsOf (optional_form known e) front → end ≡ with_text Punctuator text end → optional_rule known text (front ++ (end ∷ rest)) ≡ Some (e, rest)
optional_reads known text None (source ∷ front) end rest below none fits is = absurd fits.1
optional_reads known text None [] end rest below none fits is = ap (optional_by known text (end ∷ rest)) (mark_reads text end rest is)
optional_reads known text (Some e) front end rest below none fits is =
    let tokens : List SourceToken = front ++ (end ∷ rest) in
    let reads = expression_reads known e front (end ∷ rest) fits (ap (λ it. is_below 0 (joins it)) is ∙ below end) in
    ap (optional_by known text tokens) (mark_missing text tokens (not_ahead (expression_at known) Punctuator text e tokens (end ∷ rest) none reads))
    ∙ closes (expression_at known tokens) e text end rest (λ (e : Expression). Some e) reads is

-- an expression or none, its punctuator, and a phrase after them
pub record Optional (known : Known) (text : List ℕ) (e : Option Expression) (form : Form) (sources : List SourceToken) : Type 0 where
  pub others : List SourceToken
  pub reads : (rest : List SourceToken) → optional_rule known text (sources ++ rest) ≡ Some (e, others ++ rest)
  pub fits : IsOf form others

pub optional_then : (known : Known) (text : List ℕ) (e : Option Expression) (form : Form) (sources : List SourceToken)
    → ((source : SourceToken) → is_below 0 (joins (with_text Punctuator text source)) ≡ true)
    → ((source : SourceToken) (others : List SourceToken) → expression_at known (with_text Punctuator text source ∷ others) ≡ None)
    → IsOf (optional_form known e ⨾ mark text ⨾ form) sources → Optional known text e form sources
optional_then known text e form sources below none fits =
    let parts = behind (optional_form known e) (mark text ⨾ form) sources fits in
    let end = headed Punctuator text None form parts.back parts.second in
    record {
      others = end.others;
      reads = λ rest.
          ap (optional_rule known text) (parts.whole rest ∙ ap (λ it. parts.front ++ it) (end.whole rest))
          ∙ optional_reads known text e parts.front end.source (end.others ++ rest) below none parts.first end.is;
      fits = end.fits;
    }
