-- What a phrase does not begin with: a token in front of which nothing is read.
--     not_ahead                          the first token of what is read is no such token
--     brace_no_assignment, ..            nothing is read in front of some punctuators, as an assignment or as an expression
--     keyword_no_expression              nor in front of a keyword
--     no_statement_word                  so an expression begins with no word of a statement
--     expression_starts_one              it stands where a statement may
--     mark_starts, word_starts           so does a punctuator, and a word of a statement
--     case_unclosed, default_unclosed    a label stands there, and no declaration, no `else` and no `}`
use Rattle.std.proofs.Common.{◌≡◌, ℕ, true, false, List, [], ◌∷◌, ◌++◌, Option, Some, None, refl, ap, sym, ◌∙◌, inl, inr}
use Rattle.std.specs.Prelude.{◌||◌, codes}
use Rattle.std.specs.Str.{bytes_eq}
use Rattle.std.proofs.lemmas.Bool.{cases_Bool}
use Rattle.hs_tokens.specs.declared.token.SourceToken.{SourceToken}
use Rattle.hs_tokens.specs.declared.token.TokenKind.{TokenKind}
use Rattle.hs_tokens.specs.declared.token.TokenKind.TheVariants.{Identifier, Punctuator}
use Rattle.hs_syntax.specs.Forms.{IsOf}
use Rattle.hs_syntax.specs.Grammar.{expression_form}
use Rattle.hs_syntax.specs.Names.{is_among, is_name, keywords}
use Rattle.hs_syntax.specs.Phrases.{specifier_words}
use Rattle.hs_syntax.specs.Trees.{Expression}
use Rattle.hs_expr_parser.specs.Ahead.{is_token, is_punctuator, is_keyword, is_ahead, is_mark_ahead, begins_specifier, stops}
use Rattle.hs_expr_parser.specs.Recursion.{Read}
use Rattle.hs_expr_parser.specs.Reading.{Known}
use Rattle.hs_expr_parser.specs.Steps.{expression_at, assignment_at}
use Rattle.hs_expr_parser.specs.Laws.Apart.{with_text, token_is}
use Rattle.hs_expr_parser.specs.Laws.Phrases.{expression_reads, expression_starts}
use Rattle.hs_expr_parser.specs.Laws.Stopping.{operator_is}
use Rattle.hs_decl_parser.proofs.Expected.{Starts}
use Rattle.hs_decl_parser.specs.Words.{statement_text, statement_words, statement_word_of, is_else_ahead, begins_label}
use Rattle.hs_decl_parser.specs.declared.words.StatementWord.{StatementWord}
use Rattle.hs_decl_parser.specs.declared.words.StatementWord.TheVariants.{If, While, Do, For, Switch, Break, Continue, Return}

-- what is read begins with no token in front of which nothing is read
pub not_ahead : {A : Type 0} (read : List SourceToken → Read A) (kind : TokenKind) (text : List ℕ) (it : A) (tokens rest : List SourceToken)
    → ((source : SourceToken) (others : List SourceToken) → read (with_text kind text source ∷ others) ≡ None) → read tokens ≡ Some (it, rest)
    → is_ahead (is_token kind text) tokens ≡ false
not_ahead read kind text it [] rest none is = refl
not_ahead {A = A} read kind text it (source ∷ others) rest none is =
    elim (cases_Bool (is_token kind text source)) [
      | inl same ↦
          let nothing : Read A = None in
          let wrong : nothing ≡ Some (it, rest) =
          sym (none source others) ∙ ap (λ (first : SourceToken). read (first ∷ others)) (sym (token_is kind text source same)) ∙ is in
          absurd cc
      | inr other ↦ other
    ]

-- ---- expressions and assignments

-- a `{` begins no assignment
pub brace_no_assignment : (known : Known) (source : SourceToken) (others : List SourceToken)
    → assignment_at known (with_text Punctuator (codes "{") source ∷ others) ≡ None
unfolding assignment_at
brace_no_assignment known source others = refl

-- nor does a `}`
pub close_no_assignment : (known : Known) (source : SourceToken) (others : List SourceToken)
    → assignment_at known (with_text Punctuator (codes "}") source ∷ others) ≡ None
unfolding assignment_at
close_no_assignment known source others = refl

-- a `{` begins no expression
pub brace_no_expression : (known : Known) (source : SourceToken) (others : List SourceToken)
    → expression_at known (with_text Punctuator (codes "{") source ∷ others) ≡ None
unfolding expression_at
brace_no_expression known source others = refl

-- nor does a `}`
pub close_no_expression : (known : Known) (source : SourceToken) (others : List SourceToken)
    → expression_at known (with_text Punctuator (codes "}") source ∷ others) ≡ None
unfolding expression_at
close_no_expression known source others = refl

-- nor a `;`
pub end_no_expression : (known : Known) (source : SourceToken) (others : List SourceToken)
    → expression_at known (with_text Punctuator (codes ";") source ∷ others) ≡ None
unfolding expression_at
end_no_expression known source others = refl

-- nor a `)`
pub parens_no_expression : (known : Known) (source : SourceToken) (others : List SourceToken)
    → expression_at known (with_text Punctuator (codes ")") source ∷ others) ≡ None
unfolding expression_at
parens_no_expression known source others = refl

-- nor a keyword but `sizeof`
pub keyword_no_expression : (known : Known) (text : List ℕ) (source : SourceToken) (others : List SourceToken) → is_name text ≡ false
    → bytes_eq text (codes "sizeof") ≡ false → expression_at known (with_text Identifier text source ∷ others) ≡ None
unfolding expression_at
keyword_no_expression known text source others named apart = rw apart (rw named refl)

-- the words of statements are no names
words_no_names : (it : StatementWord) → is_name (statement_text it) ≡ false
unfolding keywords
words_no_names If = refl
words_no_names While = refl
words_no_names Do = refl
words_no_names For = refl
words_no_names Switch = refl
words_no_names Break = refl
words_no_names Continue = refl
words_no_names Return = refl

-- and none of them is `sizeof`
words_apart : (it : StatementWord) → bytes_eq (statement_text it) (codes "sizeof") ≡ false
words_apart If = refl
words_apart While = refl
words_apart Do = refl
words_apart For = refl
words_apart Switch = refl
words_apart Break = refl
words_apart Continue = refl
words_apart Return = refl

-- no names either
case_no_name : is_name (codes "case") ≡ false
unfolding keywords
case_no_name = refl

default_no_name : is_name (codes "default") ≡ false
unfolding keywords
default_no_name = refl

else_no_name : is_name (codes "else") ≡ false
unfolding keywords
else_no_name = refl

-- an expression begins with no word of a statement
pub no_statement_word : (known : Known) (e : Expression) (source : SourceToken) (others rest : List SourceToken)
    → expression_at known (source ∷ others) ≡ Some (e, rest) → (found : Option StatementWord) → statement_word_of source ≡ found
    → statement_word_of source ≡ None
no_statement_word known e source others rest is None found = found
no_statement_word known e source others rest is (Some it) found =
    let nothing : Read Expression = None in
    let wrong : nothing ≡ Some (e, rest) =
    sym (keyword_no_expression known (statement_text it) source others (words_no_names it) (words_apart it))
    ∙ ap (λ (first : SourceToken). expression_at known (first ∷ others)) (sym (operator_is Identifier statement_text statement_words source it found)) ∙ is in
    absurd cc

-- ---- where a statement may stand

-- neither of two words, no label
pub no_label : (tokens : List SourceToken) → is_ahead (is_keyword (codes "case")) tokens ≡ false → is_ahead (is_keyword (codes "default")) tokens ≡ false
    → is_ahead begins_label tokens ≡ false
no_label [] case default = refl
no_label (source ∷ rest) case default = rw case default

-- an expression does
pub expression_starts_one : (known : Known) (e : Expression) (front rest : List SourceToken) → IsOf (expression_form known e) front → stops 0 rest ≡ true
    → Starts known (front ++ rest)
expression_starts_one known e front rest fits ends =
    let reads = expression_reads known e front rest fits ends in
    let no_keyword : (text : List ℕ) → is_name text ≡ false → bytes_eq text (codes "sizeof") ≡ false → is_ahead (is_keyword text) (front ++ rest) ≡ false =
    λ text named apart.
    not_ahead (expression_at known) Identifier text e (front ++ rest) rest
    (λ source others. keyword_no_expression known text source others named apart) reads in
    record {
      undeclared = expression_starts known e front rest fits;
      unlabelled = no_label (front ++ rest) (no_keyword (codes "case") case_no_name refl) (no_keyword (codes "default") default_no_name refl);
      no_else = no_keyword (codes "else") else_no_name refl;
      inside = not_ahead (expression_at known) Punctuator (codes "}") e (front ++ rest) rest (close_no_expression known) reads;
    }

-- so does a punctuator but `}`
pub mark_starts : (known : Known) (text : List ℕ) (source : SourceToken) (rest : List SourceToken) → source ≡ with_text Punctuator text source
    → bytes_eq text (codes "}") ≡ false → Starts known (source ∷ rest)
mark_starts known text source rest is apart = record {
  undeclared = ap (begins_specifier known false) is;
  unlabelled = ap begins_label is;
  no_else = ap (is_keyword (codes "else")) is;
  inside = ap (is_punctuator (codes "}")) is ∙ apart;
}

-- a keyword that begins no specifier
keyword_no_specifier : (known : Known) (text : List ℕ) (source : SourceToken) → source ≡ with_text Identifier text source
    → is_among specifier_words text ≡ false → is_name text ≡ false → begins_specifier known false source ≡ false
keyword_no_specifier known text source is apart named = ap (begins_specifier known false) is ∙ rw apart (rw named refl)

-- the words of statements begin no specifiers
words_no_specifiers : (it : StatementWord) → is_among specifier_words (statement_text it) ≡ false
unfolding specifier_words
words_no_specifiers If = refl
words_no_specifiers While = refl
words_no_specifiers Do = refl
words_no_specifiers For = refl
words_no_specifiers Switch = refl
words_no_specifiers Break = refl
words_no_specifiers Continue = refl
words_no_specifiers Return = refl

-- so does a word of a statement
pub word_starts : (known : Known) (it : StatementWord) (source : SourceToken) (rest : List SourceToken)
    → source ≡ with_text Identifier (statement_text it) source → Starts known (source ∷ rest)
word_starts known it source rest is = record {
  undeclared = keyword_no_specifier known (statement_text it) source is (words_no_specifiers it) (words_no_names it);
  unlabelled = ap begins_label is ∙ unlabelled it;
  no_else = ap (is_keyword (codes "else")) is ∙ no_else it;
  inside = ap (is_punctuator (codes "}")) is;
}
  where
    unlabelled : (it : StatementWord) → (bytes_eq (statement_text it) (codes "case") || bytes_eq (statement_text it) (codes "default")) ≡ false
    unlabelled If = refl
    unlabelled While = refl
    unlabelled Do = refl
    unlabelled For = refl
    unlabelled Switch = refl
    unlabelled Break = refl
    unlabelled Continue = refl
    unlabelled Return = refl

    no_else : (it : StatementWord) → bytes_eq (statement_text it) (codes "else") ≡ false
    no_else If = refl
    no_else While = refl
    no_else Do = refl
    no_else For = refl
    no_else Switch = refl
    no_else Break = refl
    no_else Continue = refl
    no_else Return = refl

-- ---- labels

-- no declaration, no `else` and no `}` stands there
pub record Unclosed (known : Known) (tokens : List SourceToken) : Type 0 where
  pub undeclared : is_ahead (begins_specifier known false) tokens ≡ false
  pub no_else : is_else_ahead tokens ≡ false
  pub inside : is_mark_ahead (codes "}") tokens ≡ false

-- a `case` is not one of them
pub case_unclosed : (known : Known) (source : SourceToken) (rest : List SourceToken) → source ≡ with_text Identifier (codes "case") source
    → Unclosed known (source ∷ rest)
unfolding specifier_words
case_unclosed known source rest is = record {
  undeclared = keyword_no_specifier known (codes "case") source is refl case_no_name;
  no_else = ap (is_keyword (codes "else")) is;
  inside = ap (is_punctuator (codes "}")) is;
}

-- nor is a `default`
pub default_unclosed : (known : Known) (source : SourceToken) (rest : List SourceToken) → source ≡ with_text Identifier (codes "default") source
    → Unclosed known (source ∷ rest)
unfolding specifier_words
default_unclosed known source rest is = record {
  undeclared = keyword_no_specifier known (codes "default") source is refl default_no_name;
  no_else = ap (is_keyword (codes "else")) is;
  inside = ap (is_punctuator (codes "}")) is;
}
