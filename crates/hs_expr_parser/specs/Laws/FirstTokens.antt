-- What the first token of a phrase is not.
--     grouped                                   phrases put together again
--     begins_word, opens, opens_direct          the first piece is a word, may open a declarator, or what its pointers stand before
--     word_no_mark, declarator_no_mark, ..      so it is no other punctuator
--     none_begins, no_list                      and begins no specifier
--     ender_no_mark, pointers_stop              nor is what may follow a declarator
use Rattle.std.proofs.Common.{◌≡◌, ℕ, Bool, true, false, List, [], ◌∷◌, ◌++◌, Option, Some, None, refl, ap, sym, ◌∙◌, append_assoc, inl, inr}
use Rattle.std.specs.Prelude.{◌&&◌, ◌||◌, not, codes, if◌then◌else◌}
use Rattle.std.specs.Str.{bytes_eq}
use Rattle.std.proofs.lemmas.Slice.Eq.{bytes_eq-Decides}
use Rattle.std.proofs.lemmas.Bool.{and_parts, cases_Bool, or_parts}
use Rattle.hs_base.specs.Tests.{and_again}
use Rattle.hs_tokens.specs.KindLaws.{kind_is}
use Rattle.hs_tokens.specs.Marks.{is_same_kind}
use Rattle.hs_tokens.specs.declared.token.SourceToken.{SourceToken}
use Rattle.hs_tokens.specs.declared.token.TokenKind.{TokenKind}
use Rattle.hs_tokens.specs.declared.token.TokenKind.TheVariants.{Identifier, Number, Character, Literal, Punctuator}
use Rattle.hs_syntax.specs.Forms.{Piece, Form, ◌⨾◌, Spells}
use Rattle.hs_syntax.specs.Grammar.{specifier_form, specification_form, members_form, constants_form, declarator_form, direct_form}
use Rattle.hs_syntax.specs.Names.{is_among, is_name, is_type_name, keywords}
use Rattle.hs_syntax.specs.Operators.{dropped_text}
use Rattle.hs_syntax.specs.Parts.{pointers_form}
use Rattle.hs_syntax.specs.Phrases.{is_type, begins_none, begins_parameters, dropped_words, specifier_words, has_specifiers, has_members, has_constants, has_declarators}
use Rattle.hs_syntax.specs.Trees as tree
use Rattle.hs_syntax.specs.Trees.{Specified, Specification, Members, Constants, Declared, Directly}
use Rattle.hs_syntax.specs.declared.operators.Dropped.{Dropped}
use Rattle.hs_syntax.specs.declared.operators.Dropped.TheVariants as dropped
use Rattle.hs_syntax.specs.declared.operators.Pointer.{Pointer}
use Rattle.hs_syntax.specs.declared.operators.Pointer.TheVariants as pointer
use Rattle.hs_expr_parser.specs.Ahead.{place_of, word_of, name_of, is_punctuator, spelled_so, is_ahead, is_mark_ahead, mark_at, token_so, dropped_of, begins_specifier}
use Rattle.hs_expr_parser.specs.Ahead as ahead
use Rattle.hs_expr_parser.specs.Reading.{Known, pointer_by, pointer_of, with_pointer, pointers_at}
use Rattle.hs_expr_parser.specs.Expected.{enders, is_ender, ended}
use Rattle.hs_expr_parser.specs.Laws.Primaries.{names_apart}
use Rattle.hs_expr_parser.specs.Laws.Stopping.{operator_is}

-- one of two tests is enough
pub or_true : (one other : Bool) → other ≡ true → (one || other) ≡ true
or_true true other is = refl
or_true false other is = is

-- what is not is false
pub not_true : (it : Bool) → not it ≡ true → it ≡ false
not_true true is = absurd cc
not_true false is = refl

-- a punctuator that is not in front is not read
pub mark_missing : (text : List ℕ) (tokens : List SourceToken) → is_mark_ahead text tokens ≡ false → mark_at text tokens ≡ None
mark_missing text [] is = refl
mark_missing text (source ∷ rest) is = rw is refl

-- ---- phrases put together

-- of three phrases the first two, or the last two, are one
pub grouped : (one other last : Form) → (one ⨾ other ⨾ last) ≡ ((one ⨾ other) ⨾ last)
grouped one other last = λ i. record {
  fits = and_again one.fits other.fits last.fits i;
  pieces = sym (append_assoc one.pieces other.pieces last.pieces) i;
}

-- ---- words

-- the first piece is an identifier or a keyword
abbrev pub begins_word : List Piece → Bool
begins_word [] = false
begins_word (piece ∷ pieces) = is_same_kind piece.kind Identifier

-- more may follow a word
pub word_more : (pieces others : List Piece) → begins_word pieces ≡ true → begins_word (pieces ++ others) ≡ true
word_more [] others is = absurd cc
word_more (piece ∷ pieces) others is = is

-- a word is no punctuator
word_is_none : (kind : TokenKind) (text other : List ℕ) → is_same_kind kind Identifier ≡ true → (is_same_kind kind Punctuator && bytes_eq other text) ≡ false
word_is_none Identifier text other is = refl
word_is_none Number text other is = refl
word_is_none Character text other is = refl
word_is_none Literal text other is = refl
word_is_none Punctuator text other is = absurd cc

-- if a word begins, no punctuator does
pub word_no_mark : (text : List ℕ) (pieces : List Piece) (front rest : List SourceToken) → begins_word pieces ≡ true → Spells pieces front
    → is_mark_ahead text (front ++ rest) ≡ false
word_no_mark text [] front rest is spells = absurd cc
word_no_mark text (piece ∷ pieces) [] rest is spells = absurd spells
word_no_mark text (piece ∷ pieces) (source ∷ front) rest is spells =
    word_is_none source.token.kind text source.token.text (ap (λ kind. is_same_kind kind Identifier) spells.0 ∙ is)

-- if a specifier begins, no punctuator does
pub specifier_no_mark : (known : Known) (typed : Bool) (text : List ℕ) (tokens : List SourceToken) → is_ahead (begins_specifier known typed) tokens ≡ true
    → is_mark_ahead text tokens ≡ false
specifier_no_mark known typed text [] is = refl
specifier_no_mark known typed text (source ∷ rest) is =
    let tests = and_parts (is_same_kind source.token.kind Identifier)
    (is_among specifier_words source.token.text || (not typed && is_type_name known source.token.text)) is in
    word_is_none source.token.kind text source.token.text tests.0

-- a specifier begins with a word
pub specifier_word : (known : Known) (it : Specified) → begins_word (specifier_form known it).pieces ≡ true
specifier_word known (tree.storage it at) = refl
specifier_word known (tree.dropped it at) = refl
specifier_word known (tree.basic it at) = refl
specifier_word known (tree.named it) = refl
specifier_word known (tree.struct_tag at tag) = refl
specifier_word known (tree.struct_body at tag brace its) = refl
specifier_word known (tree.enum_tag at tag) = refl
specifier_word known (tree.enum_body at tag brace its comma) = refl

-- so do specifiers
pub specification_word : (known : Known) (typed : Bool) (its : Specification) → has_specifiers its ≡ true
    → begins_word (specification_form known typed its).pieces ≡ true
specification_word known typed tree.no_specifiers has = absurd cc
specification_word known typed (tree.more_specifiers it rest) has =
    word_more (specifier_form known it).pieces (specification_form known (typed || is_type it) rest).pieces (specifier_word known it)

-- and members
pub members_word : (known : Known) (its : Members) → has_members its ≡ true → (members_form known its).fits ≡ true
    → begins_word (members_form known its).pieces ≡ true
members_word known tree.no_members has fits = absurd cc
members_word known (tree.more_members specification declared rest) has fits =
    let one = and_parts (has_specifiers specification && has_declarators declared) _ (and_parts _ (members_form known rest).fits fits).0 in
    word_more _ (members_form known rest).pieces
    (word_more (specification_form known false specification).pieces _
    (specification_word known false specification (and_parts (has_specifiers specification) (has_declarators declared) one.0).0))

-- and enumeration constants
pub constants_word : (known : Known) (its : Constants) → has_constants its ≡ true → begins_word (constants_form known its).pieces ≡ true
constants_word known tree.no_constants has = absurd cc
constants_word known (tree.constant it rest) has = refl
constants_word known (tree.valued_constant it e rest) has = refl

-- ---- the first token of a declarator

-- a token that may stand first after the pointers of a declarator
abbrev pub opens_direct : TokenKind → List ℕ → Bool
opens_direct Punctuator text = is_among (codes "(" ∷ codes "[" ∷ []) text
opens_direct Identifier text = is_name text
opens_direct _ text = false

-- and one that may stand first in a declarator with pointers
abbrev pub opens : TokenKind → List ℕ → Bool
opens Punctuator text = is_among (codes "*" ∷ codes "(" ∷ codes "[" ∷ []) text
opens Identifier text = is_among dropped_words text || is_name text
opens _ text = false

-- the first piece passes, if there is one
abbrev pub first_passes : (TokenKind → List ℕ → Bool) → List Piece → Bool
first_passes passes [] = true
first_passes passes (piece ∷ pieces) = passes piece.kind piece.text

-- more may follow a first piece
pub passes_more : (passes : TokenKind → List ℕ → Bool) (pieces others : List Piece) → first_passes passes pieces ≡ true → first_passes passes others ≡ true
    → first_passes passes (pieces ++ others) ≡ true
passes_more passes [] others is also = also
passes_more passes (piece ∷ pieces) others is also = is

-- what follows the pointers
pub direct_opens : (known : Known) (inner : Bool) (it : Directly) → (direct_form known inner it).fits ≡ true
    → first_passes opens_direct (direct_form known inner it).pieces ≡ true
direct_opens known inner tree.nothing fits = refl
direct_opens known inner (tree.identifier it) fits = (and_parts (is_name it.text) true fits).0
direct_opens known inner (tree.parens_of it) fits = refl
direct_opens known inner (tree.array base) fits =
    passes_more opens_direct (direct_form known inner base).pieces _
    (direct_opens known inner base (and_parts (direct_form known inner base).fits _ fits).0) refl
direct_opens known inner (tree.sized_array base e) fits =
    passes_more opens_direct (direct_form known inner base).pieces _
    (direct_opens known inner base (and_parts (direct_form known inner base).fits _ fits).0) refl
direct_opens known inner (tree.function base its) fits =
    passes_more opens_direct (direct_form known inner base).pieces _
    (direct_opens known inner base (and_parts (direct_form known inner base).fits _ fits).0) refl
direct_opens known inner (tree.function_of_void base at) fits =
    passes_more opens_direct (direct_form known inner base).pieces _
    (direct_opens known inner base (and_parts (direct_form known inner base).fits _ fits).0) refl

-- pointers stand in front of it
pointers_open : (its : List Pointer) (pieces : List Piece) → first_passes opens_direct pieces ≡ true
    → first_passes opens ((pointers_form its).pieces ++ pieces) ≡ true
pointers_open [] [] is = refl
pointers_open [] (piece ∷ pieces) is = looser piece.kind piece.text is
  where
    looser : (kind : TokenKind) (text : List ℕ) → opens_direct kind text ≡ true → opens kind text ≡ true
    looser Punctuator text is = or_true (bytes_eq (codes "*") text) (is_among (codes "(" ∷ codes "[" ∷ []) text) is
    looser Identifier text is = or_true (is_among dropped_words text) (is_name text) is
    looser Number text is = is
    looser Character text is = is
    looser Literal text is = is
pointers_open (pointer.Star at ∷ its) pieces is = refl
pointers_open (pointer.Dropped it at ∷ its) pieces is = dropped_opens it
  where
    dropped_opens : (it : Dropped) → opens Identifier (dropped_text it) ≡ true
    dropped_opens dropped.Auto = refl
    dropped_opens dropped.Register = refl
    dropped_opens dropped.Const = refl
    dropped_opens dropped.Volatile = refl
    dropped_opens dropped.Pascal = refl

-- what a declarator begins with
pub declarator_opens : (known : Known) (inner : Bool) (it : Declared) → (declarator_form known inner it).fits ≡ true
    → first_passes opens (declarator_form known inner it).pieces ≡ true
declarator_opens known inner (tree.pointing pointers direct) fits =
    pointers_open pointers (direct_form known inner direct).pieces
    (direct_opens known inner direct (and_parts (pointers_form pointers).fits (direct_form known inner direct).fits fits).1)

-- a text that is one of some words differs from a text that is not one of them
pub apart_from : (words : List (List ℕ)) (text other : List ℕ) → is_among words text ≡ true → is_among words other ≡ false → bytes_eq text other ≡ false
apart_from words text other is not_other =
    elim (cases_Bool (bytes_eq text other)) [
      | inl same ↦
          let wrong : false ≡ true = sym not_other ∙ ap (is_among words) (sym ((bytes_eq-Decides text other).0 same)) ∙ is in
          absurd cc
      | inr apart ↦ apart
    ]

-- a token that opens a declarator is no other punctuator
opens_no_mark : (text other : List ℕ) (kind : TokenKind) → is_among (codes "*" ∷ codes "(" ∷ codes "[" ∷ []) text ≡ false → opens kind other ≡ true
    → (is_same_kind kind Punctuator && bytes_eq other text) ≡ false
opens_no_mark text other Punctuator apart is = apart_from (codes "*" ∷ codes "(" ∷ codes "[" ∷ []) other text is apart
opens_no_mark text other Identifier apart is = refl
opens_no_mark text other Number apart is = refl
opens_no_mark text other Character apart is = refl
opens_no_mark text other Literal apart is = refl

-- no other punctuator stands in front of a declarator, nor after one that is empty
pub declarator_no_mark : (text : List ℕ) (pieces : List Piece) (front rest : List SourceToken) → is_among (codes "*" ∷ codes "(" ∷ codes "[" ∷ []) text ≡ false
    → first_passes opens pieces ≡ true → Spells pieces front → is_mark_ahead text rest ≡ false → is_mark_ahead text (front ++ rest) ≡ false
declarator_no_mark text [] [] rest apart is spells after = after
declarator_no_mark text [] (source ∷ front) rest apart is spells after = absurd spells
declarator_no_mark text (piece ∷ pieces) [] rest apart is spells after = absurd spells
declarator_no_mark text (piece ∷ pieces) (source ∷ front) rest apart is spells after =
    opens_no_mark text source.token.text source.token.kind apart ((λ i. opens (spells.0 i) (spells.1 i)) ∙ is)

-- what follows specifiers begins none
pub none_begins : (known : Known) (typed : Bool) (pieces : List Piece) (front rest : List SourceToken) → begins_none known typed pieces ≡ true
    → Spells pieces front
    → is_ahead (begins_specifier known typed) rest ≡ false → is_ahead (begins_specifier known typed) (front ++ rest) ≡ false
none_begins known typed [] [] rest is spells after = after
none_begins known typed [] (source ∷ front) rest is spells after = absurd spells
none_begins known typed (piece ∷ pieces) [] rest is spells after = absurd spells
none_begins known typed (piece ∷ pieces) (source ∷ front) rest is spells after =
    (λ i. is_same_kind (spells.0 i) Identifier && (is_among specifier_words (spells.1 i) || (not typed && is_type_name known (spells.1 i))))
    ∙ not_true (is_same_kind piece.kind Identifier && (is_among specifier_words piece.text || (not typed && is_type_name known piece.text))) is

-- a punctuator begins no specifier
pub mark_no_specifier : (known : Known) (typed : Bool) (text : List ℕ) (tokens : List SourceToken) → is_mark_ahead text tokens ≡ true
    → is_ahead (begins_specifier known typed) tokens ≡ false
mark_no_specifier known typed text [] is = refl
mark_no_specifier known typed text (source ∷ rest) is =
    let tests = and_parts (is_same_kind source.token.kind Punctuator) (bytes_eq source.token.text text) is in
    ap (λ kind. is_same_kind kind Identifier && (is_among specifier_words source.token.text || (not typed && is_type_name known source.token.text)))
    (kind_is source.token.kind Punctuator tests.0)

-- a punctuator is no other one
pub mark_no_mark : (text other : List ℕ) (tokens : List SourceToken) → bytes_eq text other ≡ false → is_mark_ahead text tokens ≡ true
    → is_mark_ahead other tokens ≡ false
mark_no_mark text other [] apart is = refl
mark_no_mark text other (source ∷ rest) apart is =
    let tests = and_parts (is_same_kind source.token.kind Punctuator) (bytes_eq source.token.text text) is in
    ap (λ it. is_same_kind source.token.kind Punctuator && bytes_eq it other) ((bytes_eq-Decides source.token.text text).0 tests.1)
    ∙ rw tests.0 apart

-- in parentheses of a parameter the first token begins no specifier
pub no_list : (known : Known) (pieces : List Piece) (front rest : List SourceToken) → begins_parameters known pieces ≡ false → first_passes opens pieces ≡ true
    → Spells pieces front → is_ahead (begins_specifier known false) rest ≡ false → is_ahead (begins_specifier known false) (front ++ rest) ≡ false
no_list known [] [] rest is passes spells after = after
no_list known [] (source ∷ front) rest is passes spells after = absurd spells
no_list known (piece ∷ pieces) [] rest is passes spells after = absurd spells
no_list known (piece ∷ pieces) (source ∷ front) rest is passes spells after =
    (λ i. is_same_kind (spells.0 i) Identifier && (is_among specifier_words (spells.1 i) || (not false && is_type_name known (spells.1 i))))
    ∙ by_kind piece.kind piece.text is passes
  where
    by_kind : (kind : TokenKind) (text : List ℕ) → (is_same_kind kind Identifier && (is_type_name known text || is_among dropped_words text)) ≡ false
        → opens kind text ≡ true
        → (is_same_kind kind Identifier && (is_among specifier_words text || is_type_name known text)) ≡ false
    by_kind Identifier text is passes =
        let tests = or_parts (is_type_name known text) (is_among dropped_words text) is in
        let named : is_name text ≡ true = ap (λ it. it || is_name text) (sym tests.1) ∙ passes in
        rw (names_apart text named) tests.0
    by_kind Punctuator text is passes = refl
    by_kind Number text is passes = refl
    by_kind Character text is passes = refl
    by_kind Literal text is passes = refl

-- ---- after the pointers

-- a dropped word is a keyword
pub dropped_keyword : (it : Dropped) → is_name (dropped_text it) ≡ false
unfolding keywords
dropped_keyword dropped.Auto = refl
dropped_keyword dropped.Register = refl
dropped_keyword dropped.Const = refl
dropped_keyword dropped.Volatile = refl
dropped_keyword dropped.Pascal = refl

-- a name is no keyword of some kind
pub no_word : {A : Type 0} (spelling : A → List ℕ) (all : List A) (source : SourceToken) (found : Option A) → ((it : A) → is_name (spelling it) ≡ false)
    → token_so Identifier spelling all source ≡ found → (is_same_kind source.token.kind Identifier ≡ true → is_name source.token.text ≡ true)
    → token_so Identifier spelling all source ≡ None
no_word spelling all source None keyword is named = is
no_word spelling all source (Some it) keyword is named =
    let same = operator_is Identifier spelling all source it is in
    let wrong : false ≡ true =
    sym (keyword it) ∙ ap (λ (it : SourceToken). is_name it.token.text) (sym same)
    ∙ named (ap (λ (it : SourceToken). is_same_kind it.token.kind Identifier) same) in
    absurd cc

-- what opens a direct declarator is no pointer
direct_no_pointer : (source : SourceToken) → opens_direct source.token.kind source.token.text ≡ true → pointer_of source ≡ None
direct_no_pointer source is =
    let none = no_word dropped_text dropped_words_all source (dropped_of source) dropped_keyword refl (named source.token.kind source.token.text is) in
    λ i. pointer_by (no_star source.token.kind source.token.text is i) (none i) (place_of source)
  where
    dropped_words_all : List Dropped
    dropped_words_all = ahead.dropped_words

    no_star : (kind : TokenKind) (text : List ℕ) → opens_direct kind text ≡ true → (is_same_kind kind Punctuator && bytes_eq text (codes "*")) ≡ false
    no_star Punctuator text is = apart_from (codes "(" ∷ codes "[" ∷ []) text (codes "*") is refl
    no_star Identifier text is = refl
    no_star Number text is = refl
    no_star Character text is = refl
    no_star Literal text is = refl

    named : (kind : TokenKind) (text : List ℕ) → opens_direct kind text ≡ true → is_same_kind kind Identifier ≡ true → is_name text ≡ true
    named Identifier text is same = is
    named Punctuator text is same = absurd cc
    named Number text is same = absurd cc
    named Character text is same = absurd cc
    named Literal text is same = absurd cc

-- what may follow a declarator is no other punctuator
pub ender_no_mark : (text : List ℕ) (source : SourceToken) → is_among enders text ≡ false → is_ender source ≡ true → is_punctuator text source ≡ false
ender_no_mark text source apart is =
    let tests = and_parts (is_same_kind source.token.kind Punctuator) (is_among enders source.token.text) is in
    ap (λ it. it && bytes_eq source.token.text text) tests.0 ∙ apart_from enders source.token.text text tests.1 apart

-- nor a name
pub ender_no_name : (source : SourceToken) → is_ender source ≡ true → name_of source ≡ None
ender_no_name source is =
    let tests = and_parts (is_same_kind source.token.kind Punctuator) (is_among enders source.token.text) is in
    ap (λ kind. if is_same_kind kind Identifier && is_name source.token.text then Some (word_of source) else None)
    (kind_is source.token.kind Punctuator tests.0)

-- such a punctuator may follow one
pub mark_ender : (text : List ℕ) (tokens : List SourceToken) → is_among enders text ≡ true → is_mark_ahead text tokens ≡ true → ended tokens ≡ true
mark_ender text [] among is = refl
mark_ender text (source ∷ rest) among is =
    let tests = and_parts (is_same_kind source.token.kind Punctuator) (bytes_eq source.token.text text) is in
    rw tests.0 (ap (is_among enders) ((bytes_eq-Decides source.token.text text).0 tests.1) ∙ among)

-- nor a pointer
ender_no_pointer : (source : SourceToken) → is_ender source ≡ true → pointer_of source ≡ None
ender_no_pointer source is =
    let tests = and_parts (is_same_kind source.token.kind Punctuator) (is_among enders source.token.text) is in
    let kind = kind_is source.token.kind Punctuator tests.0 in
    let star = ender_no_mark (codes "*") source refl is in
    let none : dropped_of source ≡ None =
    ap (λ kind. if is_same_kind kind Identifier then spelled_so dropped_text ahead.dropped_words source.token.text else None) kind in
    λ i. pointer_by (star i) (none i) (place_of source)

-- there are no more pointers
no_pointers : (source : SourceToken) (rest : List SourceToken) → pointer_of source ≡ None → pointers_at (source ∷ rest) ≡ ([], source ∷ rest)
no_pointers source rest none = ap (λ it. with_pointer it source rest (pointers_at rest)) none

-- after the last pointer there are no more
pub pointers_stop : (pieces : List Piece) (front rest : List SourceToken) → first_passes opens_direct pieces ≡ true → Spells pieces front → ended rest ≡ true
    → pointers_at (front ++ rest) ≡ ([], front ++ rest)
pointers_stop [] [] [] is spells ends = refl
pointers_stop [] [] (source ∷ rest) is spells ends = no_pointers source rest (ender_no_pointer source ends)
pointers_stop [] (source ∷ front) rest is spells ends = absurd spells
pointers_stop (piece ∷ pieces) [] rest is spells ends = absurd spells
pointers_stop (piece ∷ pieces) (source ∷ front) rest is spells ends =
    no_pointers source (front ++ rest) (direct_no_pointer source ((λ i. opens_direct (spells.0 i) (spells.1 i)) ∙ is))

-- ---- nothing

-- if there is a piece, there is a token
no_pieces : (pieces others : List Piece) (piece : Piece) → Spells (pieces ++ piece ∷ others) [] → ⊥
no_pieces [] others piece spells = spells
no_pieces (first ∷ pieces) others piece spells = spells

-- nothing stands for nothing alone
pub nothing_is : (known : Known) (inner : Bool) (it : Directly) → Spells (direct_form known inner it).pieces [] → it ≡ tree.nothing
nothing_is known inner tree.nothing spells = refl
nothing_is known inner (tree.identifier it) spells = absurd spells
nothing_is known inner (tree.parens_of it) spells = absurd spells
nothing_is known inner (tree.array base) spells = absurd (no_pieces (direct_form known inner base).pieces _ _ spells)
nothing_is known inner (tree.sized_array base e) spells = absurd (no_pieces (direct_form known inner base).pieces _ _ spells)
nothing_is known inner (tree.function base its) spells = absurd (no_pieces (direct_form known inner base).pieces _ _ spells)
nothing_is known inner (tree.function_of_void base at) spells = absurd (no_pieces (direct_form known inner base).pieces _ _ spells)
