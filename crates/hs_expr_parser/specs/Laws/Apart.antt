-- The tokens of a form, taken apart.
--     with_text kind text source     the token with this kind and this text
--     token_is, spelled_is           what a test on a token tells of it
--     split, when_parts, one_token   the parts of phrases one after another, under a condition, of one token
use Rattle.std.proofs.Common.{◌≡◌, ℕ, Bool, true, false, List, [], ◌∷◌, ◌++◌, Option, Some, None, IfSome, refl, ap, sym, ◌∙◌, inl, inr}
use Rattle.std.specs.Prelude.{◌&&◌}
use Rattle.std.specs.Str.{bytes_eq}
use Rattle.std.proofs.lemmas.Bool.{and_parts, cases_Bool}
use Rattle.std.proofs.lemmas.Slice.Eq.{bytes_eq-Decides}
use Rattle.hs_tokens.specs.KindLaws.{kind_is}
use Rattle.hs_tokens.specs.Marks.{is_same_kind}
use Rattle.hs_tokens.specs.declared.token.SourceToken.{SourceToken}
use Rattle.hs_tokens.specs.declared.token.TokenKind.{TokenKind}
use Rattle.hs_tokens.specs.declared.token.TokenKind.TheVariants.{Identifier, Number, Character, Literal, Punctuator}
use Rattle.hs_syntax.specs.Forms.{Piece, Form, ◌⨾◌, when, token, IsAt, Spells, IsOf}
use Rattle.hs_tokens.specs.declared.place.Place.{Place}
use Rattle.hs_expr_parser.specs.Ahead.{place_of, is_token, spelled_so}

-- the token with this kind and this text
abbrev pub with_text : TokenKind → List ℕ → SourceToken → SourceToken
with_text kind text source = record source { token = record source.token { kind = kind; text = text } }

-- a token of this kind and this text is itself with them
pub source_is : (kind : TokenKind) (text : List ℕ) (source : SourceToken) → source.token.kind ≡ kind → source.token.text ≡ text
    → source ≡ with_text kind text source
source_is kind text source same alike = λ i. record source { token = record source.token { kind = same i; text = alike i } }

-- a token that passes the test
pub token_is : (kind : TokenKind) (text : List ℕ) (source : SourceToken) → is_token kind text source ≡ true → source ≡ with_text kind text source
token_is kind text source is =
    let tests = and_parts (is_same_kind source.token.kind kind) (bytes_eq source.token.text text) is in
    source_is kind text source (kind_is source.token.kind kind tests.0) ((bytes_eq-Decides source.token.text text).0 tests.1)

-- the text is the spelling of what it spells
pub spelled_is : {A : Type 0} (spelling : A → List ℕ) (all : List A) (text : List ℕ) (it : A)
    → spelled_so spelling all text ≡ Some it → text ≡ spelling it
spelled_is spelling [] text it is = absurd cc
spelled_is spelling (first ∷ rest) text it is =
    elim (cases_Bool (bytes_eq text (spelling first))) [
      | inl same ↦
          let found : Some first ≡ Some it = sym (rw same refl) ∙ is in
          (bytes_eq-Decides text (spelling first)).0 same ∙ ap spelling cc
      | inr other ↦
          let found : spelled_so spelling rest text ≡ Some it = sym (rw other refl) ∙ is in
          spelled_is spelling rest text it found
    ]

-- tokens of pieces after others
spells_split : (pieces others : List Piece) (sources : List SourceToken) → Spells (pieces ++ others) sources
    → (one : List SourceToken) × (other : List SourceToken) × (sources ≡ one ++ other) × Spells pieces one × Spells others other
spells_split [] others sources spells = ([], sources, refl, tt, spells)
spells_split (piece ∷ pieces) others [] spells = absurd spells
spells_split (piece ∷ pieces) others (source ∷ sources) spells =
    let found = spells_split pieces others sources spells.3 in
    (source ∷ found.0, found.1, ap (λ (rest : List SourceToken). source ∷ rest) found.2, (spells.0, spells.1, spells.2, found.3), found.4)

-- phrases one after another
pub record Split (one other : Form) (sources : List SourceToken) : Type 0 where
  pub front : List SourceToken
  pub back : List SourceToken
  pub whole : sources ≡ front ++ back
  pub first : IsOf one front
  pub second : IsOf other back

pub split : (one other : Form) (sources : List SourceToken) → IsOf (one ⨾ other) sources → Split one other sources
split one other sources is =
    let tests = and_parts one.fits other.fits is.0 in
    let parts = spells_split one.pieces other.pieces sources is.1 in
    record { front = parts.0; back = parts.1; whole = parts.2; first = (tests.0, parts.3); second = (tests.1, parts.4) }

-- a phrase under a condition
pub when_parts : (condition : Bool) (form : Form) (sources : List SourceToken) → IsOf (when condition form) sources → (condition ≡ true) × IsOf form sources
when_parts condition form sources is =
    let tests = and_parts condition form.fits is.0 in
    (tests.0, (tests.1, is.1))

-- one token
pub record OneToken (kind : TokenKind) (text : List ℕ) (place : Option Place) (sources : List SourceToken) : Type 0 where
  pub source : SourceToken
  pub alone : sources ≡ source ∷ []
  pub is : source ≡ with_text kind text source
  pub at : IfSome place (λ it. place_of source ≡ it)

-- the place of a token
pub at_place : (source : SourceToken) (place : Option Place) → IfSome place (IsAt source) → IfSome place (λ it. place_of source ≡ it)
at_place source None is = tt
at_place source (Some it) is = λ i. record { pos = is.0 i; origin = is.1 i }

pub one_token : (kind : TokenKind) (text : List ℕ) (place : Option Place) (sources : List SourceToken) → IsOf (token kind text place) sources
    → OneToken kind text place sources
one_token kind text place [] is = absurd is.1
one_token kind text place (source ∷ []) is =
    record { source = source; alone = refl; is = source_is kind text source is.1.0 is.1.1; at = at_place source place is.1.2 }
one_token kind text place (source ∷ next ∷ rest) is = absurd is.1.3

-- a condition on the first of two phrases
pub first_when : (condition : Bool) (one other : Form) (sources : List SourceToken)
    → IsOf (when condition one ⨾ other) sources → (condition ≡ true) × IsOf (one ⨾ other) sources
first_when true one other sources fits = (refl, fits)
first_when false one other sources fits = absurd (nothing fits.0)
  where
    nothing : false ≡ true → ⊥
    nothing is = cc
