-- The tokens of phrases that begin with one token, or end in brackets.
--     Headed, headed           a token, and what it stands before
--     Enclosed, enclosed       a phrase, and another in brackets after it
use Rattle.std.proofs.Common.{◌≡◌, ℕ, List, ◌∷◌, ◌++◌, Option, IfSome, ap, ◌∙◌}
use Rattle.hs_tokens.specs.declared.token.SourceToken.{SourceToken}
use Rattle.hs_tokens.specs.declared.token.TokenKind.{TokenKind}
use Rattle.hs_tokens.specs.declared.token.TokenKind.TheVariants.{Punctuator}
use Rattle.hs_syntax.specs.Forms.{Form, ◌⨾◌, token, mark, IsOf}
use Rattle.hs_tokens.specs.declared.place.Place.{Place}
use Rattle.hs_expr_parser.specs.Ahead.{place_of}
use Rattle.hs_expr_parser.specs.Laws.Apart.{with_text, Split, split, OneToken, one_token}
use Rattle.hs_expr_parser.specs.Laws.Primaries.{Bracketed, bracketed, Behind, behind}

-- a token, and what it stands before
pub record Headed (kind : TokenKind) (text : List ℕ) (place : Option Place) (form : Form) (sources : List SourceToken) : Type 0 where
  pub source : SourceToken
  pub others : List SourceToken
  pub whole : (rest : List SourceToken) → sources ++ rest ≡ source ∷ (others ++ rest)
  pub is : source ≡ with_text kind text source
  pub at : IfSome place (λ it. place_of source ≡ it)
  pub fits : IsOf form others

-- put together of its parts
headed_by : (kind : TokenKind) (text : List ℕ) (place : Option Place) (form : Form) (sources : List SourceToken)
    → (parts : Split (token kind text place) form sources) → OneToken kind text place parts.front → Headed kind text place form sources
headed_by kind text place form sources parts one = record {
  source = one.source;
  others = parts.back;
  whole = λ rest. ap (λ its. its ++ rest) (parts.whole ∙ ap (λ its. its ++ parts.back) one.alone);
  is = one.is;
  at = one.at;
  fits = parts.second;
}

-- the two of a phrase that begins so
pub headed : (kind : TokenKind) (text : List ℕ) (place : Option Place) (form : Form) (sources : List SourceToken) → IsOf (token kind text place ⨾ form) sources
    → Headed kind text place form sources
headed kind text place form sources fits =
    let parts = split (token kind text place) form sources fits in
    headed_by kind text place form sources parts (one_token kind text place parts.front parts.first)

-- a phrase, and another in brackets after it
pub record Enclosed (one : Form) (open' close' : List ℕ) (place : Option Place) (form : Form) (sources : List SourceToken) : Type 0 where
  pub front : List SourceToken
  pub opening : SourceToken
  pub inside : List SourceToken
  pub close : SourceToken
  pub whole : (rest : List SourceToken) → sources ++ rest ≡ front ++ (opening ∷ (inside ++ (close ∷ rest)))
  pub first : IsOf one front
  pub opens : opening ≡ with_text Punctuator open' opening
  pub at : IfSome place (λ it. place_of opening ≡ it)
  pub closed : close ≡ with_text Punctuator close' close
  pub fits : IsOf form inside

-- put together of its parts
enclosed_by : (one : Form) (open' close' : List ℕ) (place : Option Place) (form : Form) (sources : List SourceToken)
    → (parts : Behind one (token Punctuator open' place ⨾ form ⨾ mark close') sources) → Bracketed open' close' place form parts.back
    → Enclosed one open' close' place form sources
enclosed_by one open' close' place form sources parts its = record {
  front = parts.front;
  opening = its.opening;
  inside = its.inside;
  close = its.close;
  whole = λ rest. parts.whole rest ∙ ap (λ it. parts.front ++ it) (its.whole rest);
  first = parts.first;
  opens = its.opens;
  at = its.at;
  closed = its.closed;
  fits = its.fits;
}

-- the two of a phrase that ends so
pub enclosed : (one : Form) (open' close' : List ℕ) (place : Option Place) (form : Form) (sources : List SourceToken)
    → IsOf (one ⨾ token Punctuator open' place ⨾ form ⨾ mark close') sources → Enclosed one open' close' place form sources
enclosed one open' close' place form sources fits =
    let parts = behind one (token Punctuator open' place ⨾ form ⨾ mark close') sources fits in
    enclosed_by one open' close' place form sources parts (bracketed open' close' place form parts.back parts.second)
