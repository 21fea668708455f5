-- Where a list of specifiers ends, and which tokens begin one.
--     ends_there        what follows specifiers begins none
--     no_list           what follows a `(` begins no list of parameters
--     named_free        a token that is no word of a specifier, after a type specifier, begins none
use Rattle.std.proofs.Common.{◌≡◌, ℕ, Bool, true, false, List, [], ◌∷◌, ◌++◌, None, refl, sym, ap, subst, ◌∙◌, inl, inr}
use Rattle.std.specs.Prelude.{codes, not, ◌&&◌, ◌||◌}
use Rattle.std.specs.Str.{bytes_eq}
use Rattle.std.proofs.lemmas.Bool.{and_parts, or_parts, or_cases, not-true}
use Rattle.hs_base.specs.Tests.{or_false}
use Rattle.hs_tokens.specs.KindLaws.{kind_is}
use Rattle.hs_tokens.specs.Marks.{is_same_kind}
use Rattle.hs_tokens.specs.declared.token.SourceToken.{SourceToken}
use Rattle.hs_tokens.specs.declared.token.TokenKind.{TokenKind}
use Rattle.hs_tokens.specs.declared.token.TokenKind.TheVariants.{Identifier}
use Rattle.hs_syntax.specs.Forms.{Piece, Form, Spells}
use Rattle.hs_syntax.specs.Names.{is_among, is_type_name}
use Rattle.hs_syntax.specs.Phrases.{specifier_words, dropped_words, begins_none, begins_parameters}
use Rattle.hs_expr_parser.specs.Ahead.{is_keyword, storage_of, dropped_of, basic_of, is_ahead, is_mark_ahead, begins_specifier}
use Rattle.hs_expr_parser.specs.Reading.{Known, begins_list}
use Rattle.hs_expr_parser.specs.Laws.Firsts.{text_is}
use Rattle.hs_expr_parser.specs.Laws.Spelled.{Begins}

-- ---- the first piece is the first token

-- a token of that kind and that text begins a specifier
abbrev begins_by : Known → Bool → TokenKind → List ℕ → Bool
begins_by known typed kind text = is_same_kind kind Identifier && (is_among specifier_words text || (not typed && is_type_name known text))

-- tokens that begin no specifier have pieces that begin none
none_begun : (known : Known) (typed : Bool) (pieces : List Piece) (front rest : List SourceToken) → Spells pieces front
    → is_ahead (begins_specifier known typed) (front ++ rest) ≡ false → begins_none known typed pieces ≡ true
none_begun known typed [] front rest spells is = refl
none_begun known typed (piece ∷ pieces) [] rest spells is = absurd spells
none_begun known typed (piece ∷ pieces) (source ∷ front) rest spells is =
    let same : begins_by known typed source.token.kind source.token.text ≡ begins_by known typed piece.kind piece.text =
    λ i. begins_by known typed (spells.0 i) (spells.1 i) in
    let other : begins_by known typed piece.kind piece.text ≡ false = sym same ∙ is in
    ap not other

-- what follows specifiers begins none
pub ends_there : (known : Known) (typed : Bool) (form : Form) (tokens rest : List SourceToken) → Begins form tokens rest
    → is_ahead (begins_specifier known typed) tokens ≡ false → begins_none known typed form.pieces ≡ true
ends_there known typed form tokens rest begins is =
    none_begun known typed form.pieces begins.front rest begins.is.1 (ap (is_ahead (begins_specifier known typed)) (sym begins.whole) ∙ is)

-- ---- words

-- a dropped word is a word of a specifier
dropped_among : (text : List ℕ) → is_among dropped_words text ≡ true → is_among specifier_words text ≡ true
unfolding specifier_words
dropped_among text is = by_tests (bytes_eq (codes "typedef") text) (bytes_eq (codes "extern") text) (bytes_eq (codes "static") text)
    (bytes_eq (codes "auto") text) (bytes_eq (codes "register") text) (bytes_eq (codes "const") text) (bytes_eq (codes "volatile") text)
    (bytes_eq (codes "pascal") text) _ is
  where
    by_tests : (a b c d e f g h others : Bool) → (d || (e || (f || (g || (h || false))))) ≡ true
        → (a || (b || (c || (d || (e || (f || (g || (h || others)))))))) ≡ true
    by_tests true b c d e f g h others is = refl
    by_tests false true c d e f g h others is = refl
    by_tests false false true d e f g h others is = refl
    by_tests false false false true e f g h others is = refl
    by_tests false false false false true f g h others is = refl
    by_tests false false false false false true g h others is = refl
    by_tests false false false false false false true h others is = refl
    by_tests false false false false false false false true others is = refl
    by_tests false false false false false false false false others is = absurd cc

-- pieces whose tokens begin no specifier begin no list of parameters
none_listed : (known : Known) (pieces : List Piece) (front rest : List SourceToken) → Spells pieces front
    → is_ahead (begins_specifier known false) (front ++ rest) ≡ false → begins_parameters known pieces ≡ false
none_listed known [] front rest spells is = refl
none_listed known (piece ∷ pieces) [] rest spells is = absurd spells
none_listed known (piece ∷ pieces) (source ∷ front) rest spells is =
    let same : begins_by known false source.token.kind source.token.text ≡ begins_by known false piece.kind piece.text =
    λ i. begins_by known false (spells.0 i) (spells.1 i) in
    by_tests (is_same_kind piece.kind Identifier) (is_among specifier_words piece.text) (is_type_name known piece.text) (is_among dropped_words piece.text)
    (sym same ∙ is) (dropped_among piece.text)
  where
    by_tests : (a b c d : Bool) → (a && (b || c)) ≡ false → (d ≡ true → b ≡ true) → (a && (c || d)) ≡ false
    by_tests false b c d is so = refl
    by_tests true true c d is so = absurd cc
    by_tests true false true d is so = absurd cc
    by_tests true false false false is so = refl
    by_tests true false false true is so = absurd (let contrary : false ≡ true = so refl in cc)

-- what follows a `(` begins no list of parameters
pub no_list : (known : Known) (inner : Bool) (form : Form) (tokens rest : List SourceToken) → not (inner && begins_list known tokens) ≡ true
    → Begins form tokens rest → not (inner && begins_parameters known form.pieces) ≡ true
no_list known false form tokens rest is begins = refl
no_list known true form tokens rest is begins =
    let none = not-true (begins_list known tokens) is in
    let parts = or_parts (is_mark_ahead (codes ")") tokens) (is_ahead (begins_specifier known false) tokens) none in
    let other : begins_parameters known form.pieces ≡ false =
    none_listed known form.pieces begins.front rest begins.is.1 (ap (is_ahead (begins_specifier known false)) (sym begins.whole) ∙ parts.1) in
    ap not other

-- it holds of each word
abbrev AllOf : (List ℕ → Type 0) → List (List ℕ) → Type 0
AllOf Holds [] = Unit {0}
AllOf Holds (word ∷ words) = Holds word × AllOf Holds words

-- so it holds of a text that is among them
among_all : (Holds : List ℕ → Type 0) (words : List (List ℕ)) (text : List ℕ) → is_among words text ≡ true → AllOf Holds words → Holds text
among_all Holds [] text is all = absurd cc
among_all Holds (word ∷ words) text is all = elim (or_cases (bytes_eq word text) (is_among words text) is) [
  | inl same ↦ subst Holds (text_is word text same) all.0
  | inr others ↦ among_all Holds words text others all.1
]

-- the token as an identifier of that text
abbrev as_word : SourceToken → List ℕ → SourceToken
as_word source text = record source { token = record source.token { kind = Identifier; text = text } }

-- it is the word of a specifier
IsWord : SourceToken → Type 0
IsWord source = storage_of source ≡ None → dropped_of source ≡ None → basic_of source ≡ None → is_keyword (codes "struct") source ≡ false
    → is_keyword (codes "enum") source ≡ false → ⊥

-- each word is
all_words : (source : SourceToken) → AllOf (λ text. IsWord (as_word source text)) specifier_words
unfolding specifier_words IsWord
all_words source = (
  λ a b c d e. absurd cc,
  (
    λ a b c d e. absurd cc,
    (
      λ a b c d e. absurd cc,
      (
        λ a b c d e. absurd cc,
        (
          λ a b c d e. absurd cc,
          (
            λ a b c d e. absurd cc,
            (
              λ a b c d e. absurd cc,
              (
                λ a b c d e. absurd cc,
                (
                  λ a b c d e. absurd cc,
                  (
                    λ a b c d e. absurd cc,
                    (
                      λ a b c d e. absurd cc,
                      (
                        λ a b c d e. absurd cc,
                        (
                          λ a b c d e. absurd cc,
                          (
                            λ a b c d e. absurd cc,
                            (
                              λ a b c d e. absurd cc,
                              (
                                λ a b c d e. absurd cc,
                                (λ a b c d e. absurd cc, tt),
                              ),
                            ),
                          ),
                        ),
                      ),
                    ),
                  ),
                ),
              ),
            ),
          ),
        ),
      ),
    ),
  ),
)

-- a token that is no word of a specifier begins none after a type specifier
pub named_free : (known : Known) (source : SourceToken) → begins_specifier known true source ≡ true → storage_of source ≡ None → dropped_of source ≡ None
    → basic_of source ≡ None → is_keyword (codes "struct") source ≡ false → is_keyword (codes "enum") source ≡ false → ⊥
unfolding IsWord
named_free known source is =
    let tests = and_parts (is_same_kind source.token.kind Identifier) (is_among specifier_words source.token.text || false) is in
    let kind : source.token.kind ≡ Identifier = kind_is source.token.kind Identifier tests.0 in
    let among : is_among specifier_words source.token.text ≡ true = or_false (is_among specifier_words source.token.text) tests.1 in
    let word = among_all (λ text. IsWord (as_word source text)) specifier_words source.token.text among (all_words source) in
    let same : as_word source source.token.text ≡ source = λ i. record source { token = record source.token { kind = sym kind i } } in
    subst IsWord same word
