-- What the first tokens are, if a reading takes them.
--     mark_gives, name_gives        a punctuator, a name
--     literals_begin, tag_begins, pointers_begin      string literals, a tag, pointers
--     token_of                      the token of an operator or of a word
use Rattle.std.proofs.Common.{◌≡◌, ℕ, Bool, true, false, List, [], ◌∷◌, Option, Some, None, refl, sym, ap, ◌∙◌, inl, inr}
use Rattle.std.specs.Prelude.{codes, ◌&&◌, if◌then◌else◌, is_some, option_map}
use Rattle.std.specs.Str.{bytes_eq}
use Rattle.std.proofs.lemmas.Bool.{and_parts, cases_Bool}
use Rattle.std.proofs.lemmas.Slice.Eq.{bytes_eq-Decides}
use Rattle.hs_tokens.specs.KindLaws.{kind_is}
use Rattle.hs_constants.specs.Strings.{string_value}
use Rattle.hs_tokens.specs.Marks.{is_same_kind}
use Rattle.hs_tokens.specs.declared.token.SourceToken.{SourceToken}
use Rattle.hs_tokens.specs.declared.token.TokenKind.{TokenKind}
use Rattle.hs_tokens.specs.declared.token.TokenKind.TheVariants.{Identifier, Number, Character, Literal, Punctuator}
use Rattle.hs_syntax.specs.Forms as form
use Rattle.hs_syntax.specs.Forms.{Form, word, keyword_at}
use Rattle.hs_syntax.specs.Names.{is_name}
use Rattle.hs_syntax.specs.Operators.{dropped_text}
use Rattle.hs_syntax.specs.Parts.{identifier, literals, tag_form, pointers_form}
use Rattle.hs_syntax.specs.declared.operators.Dropped.{Dropped}
use Rattle.hs_syntax.specs.declared.operators.Dropped.TheVariants as dropped
use Rattle.hs_syntax.specs.declared.operators.Pointer.{Pointer}
use Rattle.hs_tokens.specs.declared.place.Place.{Place}
use Rattle.hs_syntax.specs.declared.word.Word.{Word}
use Rattle.hs_expr_parser.specs.Ahead.{place_of, word_of, is_token, is_punctuator, spelled_so, token_so, dropped_of, mark_at, place_if, name_at, is_literal, literals_at}
use Rattle.hs_expr_parser.specs.Reading.{going_on, tag_at, pointer_by, with_pointer, pointers_at}
use Rattle.hs_expr_parser.specs.Recursion.{Read}
use Rattle.hs_expr_parser.specs.Laws.Apart.{spelled_is}
use Rattle.hs_expr_parser.specs.Laws.Yields.{Yields, none_gives, some_gives}
use Rattle.hs_expr_parser.specs.Laws.Spelled.{Begins, nothing_begins, then_begins, when_begins, token_begins, place_begins}

-- texts that are the same
pub text_is : (text other : List ℕ) → bytes_eq text other ≡ true → text ≡ other
text_is text other same = (bytes_eq-Decides text other).0 same

-- a token of that kind and that text
pub token_is : (kind : TokenKind) (text : List ℕ) (source : SourceToken) → is_token kind text source ≡ true
    → (source.token.kind ≡ kind) × (source.token.text ≡ text)
token_is kind text source is =
    let tests = and_parts (is_same_kind source.token.kind kind) (bytes_eq source.token.text text) is in
    (kind_is source.token.kind kind tests.0, text_is source.token.text text tests.1)

-- the token of an operator or of a word
pub token_of : {A : Type 0} (kind : TokenKind) (spelling : A → List ℕ) (all : List A) (source : SourceToken) (it : A)
    → token_so kind spelling all source ≡ Some it → (source.token.kind ≡ kind) × (source.token.text ≡ spelling it)
token_of kind spelling all source it is = elim (cases_Bool (is_same_kind source.token.kind kind)) [
  | inl same ↦
      let found : spelled_so spelling all source.token.text ≡ Some it = sym (rw same refl) ∙ is in
      (kind_is source.token.kind kind same, spelled_is spelling all source.token.text it found)
  | inr other ↦ absurd (let none : None ≡ Some it = sym (rw other refl) ∙ is in cc)
]

-- a punctuator stands there, with its place or without
pub record IsMark (text : List ℕ) (tokens : List SourceToken) (at : Place) (rest : List SourceToken) : Type 0 where
  pub placed : Begins (form.mark_at at text) tokens rest
  pub plain : Begins (form.mark text) tokens rest

-- a punctuator
pub mark_gives : (text : List ℕ) (tokens : List SourceToken) → Yields (IsMark text tokens) (mark_at text tokens)
mark_gives text [] = none_gives
mark_gives text (source ∷ rest) = given (is_punctuator text source) refl
  where
    given : (is : Bool) → is_punctuator text source ≡ is
        → Yields (IsMark text (source ∷ rest)) (option_map (λ (it : Place). (it, rest)) (place_if is source))
    given true is =
        let so = token_is Punctuator text source is in
        some_gives (place_of source) rest (record { placed = place_begins source rest so.0 so.1; plain = token_begins source rest so.0 so.1 })
    given false is = none_gives

-- a name
pub name_gives : (tokens : List SourceToken) → Yields (λ name rest. Begins (identifier name) tokens rest) (name_at tokens)
name_gives [] = none_gives
name_gives (source ∷ rest) = given (is_same_kind source.token.kind Identifier && is_name source.token.text) refl
  where
    given : (is : Bool) → (is_same_kind source.token.kind Identifier && is_name source.token.text) ≡ is
        → Yields (λ (name : Word) others. Begins (identifier name) (source ∷ rest) others)
        (option_map (λ (it : Word). (it, rest)) (if is then Some (word_of source) else None))
    given true is =
        let tests = and_parts (is_same_kind source.token.kind Identifier) (is_name source.token.text) is in
        some_gives (word_of source) rest (when_begins tests.1 (place_begins source rest (kind_is source.token.kind Identifier tests.0) refl))
    given false is = none_gives

-- string literals
pub literals_begin : (tokens : List SourceToken) → Begins (literals (literals_at tokens).0) tokens (literals_at tokens).1
literals_begin [] = nothing_begins []
literals_begin (source ∷ rest) = elim (cases_Bool (is_literal source)) [
  | inl is ↦
      let tests = and_parts (is_same_kind source.token.kind Literal) (is_some (string_value source.token.text)) is in
      rw is (then_begins (when_begins tests.1 (place_begins source rest (kind_is source.token.kind Literal tests.0) refl)) (literals_begin rest))
  | inr is ↦ rw is (nothing_begins (source ∷ rest))
]

-- a tag
pub tag_begins : (tokens : List SourceToken) → Begins (tag_form (tag_at tokens).0) tokens (tag_at tokens).1
tag_begins tokens = given (name_at tokens) (name_gives tokens)
  where
    given : (it : Read Word) → Yields (λ name rest. Begins (identifier name) tokens rest) it
        → let tag : Option Word × List SourceToken = going_on it (λ name rest. (Some name, rest)) (None, tokens) in
        Begins (tag_form tag.0) tokens tag.1
    given None gives = nothing_begins tokens
    given (Some (name, rest)) gives = gives.holds name rest refl

-- pointers
pub pointers_begin : (tokens : List SourceToken) → Begins (pointers_form (pointers_at tokens).0) tokens (pointers_at tokens).1
pointers_begin [] = nothing_begins []
pointers_begin (source ∷ rest) = given (is_punctuator (codes "*") source) (dropped_of source) refl refl (pointers_at rest) (pointers_begin rest)
  where
    given : (is_star : Bool) (it : Option Dropped) → is_punctuator (codes "*") source ≡ is_star → dropped_of source ≡ it
        → (others : List Pointer × List SourceToken) → Begins (pointers_form others.0) rest others.1
        → let all : List Pointer × List SourceToken = with_pointer (pointer_by is_star it (place_of source)) source rest others in
        Begins (pointers_form all.0) (source ∷ rest) all.1
    given true it is is_it others behind =
        let so = token_is Punctuator (codes "*") source is in
        then_begins (place_begins source rest so.0 so.1) behind
    given false (Some it) is is_it others behind =
        let so = token_of Identifier dropped_text
        (dropped.Auto ∷ dropped.Register ∷ dropped.Const ∷ dropped.Volatile ∷ dropped.Pascal ∷ []) source it is_it in
        then_begins (place_begins source rest so.0 so.1) behind
    given false None is is_it others behind = nothing_begins (source ∷ rest)
