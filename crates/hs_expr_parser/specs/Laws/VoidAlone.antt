-- If parameters are not `void` alone, `void` alone is not read.
--     filled_no_mark      a declarator that is not empty begins with no other punctuator
--     void_missing        `void` and a `)` do not stand there
use Rattle.std.proofs.Common.{◌≡◌, ℕ, Bool, true, false, List, [], ◌∷◌, ◌++◌, Option, Some, None, refl, ap, sym, ◌∙◌}
use Rattle.std.specs.Prelude.{◌&&◌, not, codes}
use Rattle.std.specs.Str.{bytes_eq}
use Rattle.std.proofs.lemmas.Bool.{and_parts}
use Rattle.hs_base.specs.Options.{◌>>=◌}
use Rattle.hs_tokens.specs.Marks.{is_same_kind}
use Rattle.hs_tokens.specs.declared.token.SourceToken.{SourceToken}
use Rattle.hs_tokens.specs.declared.token.TokenKind.TheVariants.{Identifier, Punctuator}
use Rattle.hs_syntax.specs.Forms.{Piece, Form, ◌⨾◌, when, Spells, IsOf}
use Rattle.hs_syntax.specs.Grammar.{specifier_form, specification_form, declarator_form, parameters_form}
use Rattle.hs_syntax.specs.Names.{is_among, is_name}
use Rattle.hs_syntax.specs.Parts.{behind_comma}
use Rattle.hs_syntax.specs.Phrases.{is_type, is_named_type, begins_none, is_typed, ends_before, is_empty, is_void, is_void_alone, has_parameters}
use Rattle.hs_syntax.specs.Trees as tree
use Rattle.hs_syntax.specs.Trees.{Specified, Specification, Declared, Parameters}
use Rattle.hs_syntax.specs.declared.operators.Basic.TheVariants as basic
use Rattle.hs_syntax.specs.declared.operators.Dropped.TheVariants as dropped
use Rattle.hs_syntax.specs.declared.operators.Pointer.TheVariants as pointer
use Rattle.hs_syntax.specs.declared.operators.Storage.TheVariants as storage
use Rattle.hs_tokens.specs.declared.place.Place.{Place}
use Rattle.hs_expr_parser.specs.Ahead.{is_keyword, is_mark_ahead, mark_at, place_if}
use Rattle.hs_expr_parser.specs.Recursion.{Read}
use Rattle.hs_expr_parser.specs.Reading.{Known, void_alone}
use Rattle.hs_expr_parser.specs.Laws.Apart.{when_parts, one_token}
use Rattle.hs_expr_parser.specs.Laws.FirstTokens.{mark_missing, declarator_opens, declarator_no_mark, nothing_is, specification_word, word_no_mark}
use Rattle.hs_expr_parser.specs.Laws.Primaries.{behind}
use Rattle.hs_expr_parser.specs.Laws.SpecifiersRead.{no_keyword, void_keyword}

-- a declarator without a token is empty
pub empty_is : (known : Known) (inner : Bool) (it : Declared) → Spells (declarator_form known inner it).pieces [] → is_empty it ≡ true
empty_is known inner (tree.pointing [] direct) spells = ap (λ it. is_empty (tree.pointing [] it)) (nothing_is known inner direct spells)
empty_is known inner (tree.pointing (pointer.Star at ∷ pointers) direct) spells = absurd spells
empty_is known inner (tree.pointing (pointer.Dropped it at ∷ pointers) direct) spells = absurd spells

-- a declarator that is not empty begins with no other punctuator
pub filled_no_mark : (known : Known) (inner : Bool) (text : List ℕ) (it : Declared) (front rest : List SourceToken)
    → is_among (codes "*" ∷ codes "(" ∷ codes "[" ∷ []) text ≡ false → IsOf (declarator_form known inner it) front → is_empty it ≡ false
    → is_mark_ahead text (front ++ rest) ≡ false
filled_no_mark known inner text it [] rest apart fits full =
    let wrong : false ≡ true = sym full ∙ empty_is known inner it fits.1 in
    absurd cc
filled_no_mark known inner text it (source ∷ front) rest apart fits full =
    declarator_no_mark text (declarator_form known inner it).pieces (source ∷ front) [] apart (declarator_opens known inner it fits.0) fits.1 refl

-- ---- the first word

-- the first piece is `void`
abbrev begins_void : List Piece → Bool
begins_void [] = true
begins_void (piece ∷ pieces) = bytes_eq piece.text (codes "void")

-- another word is not `void`
not_void : (pieces : List Piece) (front rest : List SourceToken) → begins_void pieces ≡ false → Spells pieces front → void_alone (front ++ rest) ≡ None
not_void [] front rest is spells = absurd cc
not_void (piece ∷ pieces) [] rest is spells = absurd spells
not_void (piece ∷ pieces) (source ∷ front) rest is spells =
    let other : bytes_eq source.token.text (codes "void") ≡ false = ap (λ text. bytes_eq text (codes "void")) spells.1 ∙ is in
    rw other (rw (and_false (is_same_kind source.token.kind Identifier)) refl)
  where
    and_false : (it : Bool) → (it && false) ≡ false
    and_false true = refl
    and_false false = refl

-- the place of `void`, if a `)` follows
abbrev closed_place : List SourceToken → Place → Read Place
closed_place rest void = do
  close ← mark_at (codes ")") rest
  Some (void, close.1)

-- no `)` after it
not_closed_behind : (source : SourceToken) (rest : List SourceToken) → is_mark_ahead (codes ")") rest ≡ false → void_alone (source ∷ rest) ≡ None
not_closed_behind source rest is = by_place (place_if (is_keyword (codes "void") source) source)
  where
    by_place : (place : Option Place) → (place >>= closed_place rest) ≡ None
    by_place None = refl
    by_place (Some place) =
        let behind : Place × List SourceToken → Read Place = λ close. Some (place, close.1) in
        ap (λ found. found >>= behind) (mark_missing (codes ")") rest is)

-- another specifier begins with another word
another_word : (known : Known) (it : Specified) → (specifier_form known it).fits ≡ true → is_void it ≡ false
    → begins_void (specifier_form known it).pieces ≡ false
another_word known (tree.storage storage.Typedef at) fits other = refl
another_word known (tree.storage storage.Extern at) fits other = refl
another_word known (tree.storage storage.Static at) fits other = refl
another_word known (tree.dropped dropped.Auto at) fits other = refl
another_word known (tree.dropped dropped.Register at) fits other = refl
another_word known (tree.dropped dropped.Const at) fits other = refl
another_word known (tree.dropped dropped.Volatile at) fits other = refl
another_word known (tree.dropped dropped.Pascal at) fits other = refl
another_word known (tree.basic basic.Void at) fits other = absurd cc
another_word known (tree.basic basic.Char at) fits other = refl
another_word known (tree.basic basic.Short at) fits other = refl
another_word known (tree.basic basic.Int at) fits other = refl
another_word known (tree.basic basic.Long at) fits other = refl
another_word known (tree.basic basic.Signed at) fits other = refl
another_word known (tree.basic basic.Unsigned at) fits other = refl
another_word known (tree.named it) fits other =
    no_keyword (codes "void") it.text void_keyword (and_parts (is_name it.text) true (and_parts (is_among known it.text) (is_name it.text && true) fits).1).0
another_word known (tree.struct_tag at tag) fits other = refl
another_word known (tree.struct_body at tag brace its) fits other = refl
another_word known (tree.enum_tag at tag) fits other = refl
another_word known (tree.enum_body at tag brace its comma) fits other = refl

-- a specifier and what follows it
void_specifier : (known : Known) (it : Specified) (front more : List SourceToken) → IsOf (specifier_form known it) front
    → (is_void it ≡ true → is_mark_ahead (codes ")") more ≡ false) → void_alone (front ++ more) ≡ None
void_specifier known (tree.basic basic.Void at) front more fits behind =
    let one = one_token Identifier (codes "void") (Some at) front fits in
    ap (λ its. void_alone (its ++ more)) one.alone ∙ not_closed_behind one.source more (behind refl)
void_specifier known it front more fits behind = not_void (specifier_form known it).pieces front more (another_word known it fits.0 refl) fits.1

-- ---- what follows it

-- if more follows `void`, it is no `)`
more_behind : (known : Known) (typed : Bool) (it : Specified) (specifiers : Specification) (declared : Declared) (others : Parameters)
    (one two three rest : List SourceToken)
    → IsOf (specification_form known typed specifiers) one → IsOf (declarator_form known true declared) two
    → IsOf (behind_comma (has_parameters others) (parameters_form known others)) three
    → is_void_alone (tree.more_parameters (tree.more_specifiers it specifiers) declared others) ≡ false → is_void it ≡ true
    → is_mark_ahead (codes ")") (one ++ (two ++ (three ++ rest))) ≡ false
more_behind known typed it (tree.more_specifiers next specifiers) declared others one two three rest first second third alone void =
    word_no_mark (codes ")") (specification_form known typed (tree.more_specifiers next specifiers)).pieces one (two ++ (three ++ rest))
    (specification_word known typed (tree.more_specifiers next specifiers) refl) first.1
more_behind known typed it tree.no_specifiers declared others (source ∷ one) two three rest first second third alone void = absurd first.1
more_behind known typed it tree.no_specifiers declared others [] (source ∷ two) three rest first second third alone void =
    declarator_no_mark (codes ")") (declarator_form known true declared).pieces (source ∷ two) [] refl
    (declarator_opens known true declared second.0) second.1 refl
more_behind known typed it tree.no_specifiers declared tree.no_parameters [] [] three rest first second third alone void =
    let wrong : false ≡ true = sym alone ∙ (λ i. void i && empty_is known true declared second.1 i) in
    absurd cc
more_behind known typed it tree.no_specifiers declared (tree.more_parameters specification next others) [] [] [] rest first second third alone void =
    absurd third.1
more_behind known typed it tree.no_specifiers declared (tree.more_parameters specification next others) [] []
    (source ∷ three) rest first second third alone void =
    λ i. is_same_kind (third.1.0 i) Punctuator && bytes_eq (third.1.1 i) (codes ")")

-- the tokens of a first specifier, of the others, of a declarator and of other parameters
void_by : (known : Known) (it : Specified) (specifiers : Specification) (declared : Declared) (others : Parameters)
    (tokens first one two three rest : List SourceToken) → tokens ≡ first ++ (one ++ (two ++ (three ++ rest))) → IsOf (specifier_form known it) first
    → IsOf (specification_form known (is_type it) specifiers) one → IsOf (declarator_form known true declared) two
    → IsOf (behind_comma (has_parameters others) (parameters_form known others)) three
    → is_void_alone (tree.more_parameters (tree.more_specifiers it specifiers) declared others) ≡ false → void_alone tokens ≡ None
void_by known it specifiers declared others tokens first one two three rest same fits second third fourth alone =
    ap void_alone same
    ∙ void_specifier known it first (one ++ (two ++ (three ++ rest))) fits
    (more_behind known (is_type it) it specifiers declared others one two three rest second third fourth alone)

-- tokens of four phrases, one after another
four_whole : (front first one two three entry specified rest : List SourceToken)
    → ((rest : List SourceToken) → front ++ rest ≡ entry ++ (three ++ rest)) → ((rest : List SourceToken) → entry ++ rest ≡ specified ++ (two ++ rest))
    → ((rest : List SourceToken) → specified ++ rest ≡ first ++ (one ++ rest)) → front ++ rest ≡ first ++ (one ++ (two ++ (three ++ rest)))
four_whole front first one two three entry specified' rest whole inside specified = whole rest ∙ inside (three ++ rest) ∙ specified (two ++ (three ++ rest))

-- `void` and a `)` do not stand there
pub void_missing : (known : Known) (its : Parameters) (front rest : List SourceToken) → has_parameters its ≡ true
    → IsOf (parameters_form known its) front → is_void_alone its ≡ false → void_alone (front ++ rest) ≡ None
void_missing known tree.no_parameters front rest has fits alone = absurd cc
void_missing known (tree.more_parameters tree.no_specifiers declared others) front rest has fits alone = absurd (nothing fits.0)
  where
    nothing : false ≡ true → ⊥
    nothing is = cc
void_missing known (tree.more_parameters (tree.more_specifiers it specifiers) declared others) front rest has fits alone =
    let entry : Form = specification_form known false (tree.more_specifiers it specifiers)
    ⨾ ends_before known (tree.more_specifiers it specifiers) (declarator_form known true declared) in
    let parts = behind (when true entry) (behind_comma (has_parameters others) (parameters_form known others)) front fits in
    let inside = behind (specification_form known false (tree.more_specifiers it specifiers))
    (ends_before known (tree.more_specifiers it specifiers) (declarator_form known true declared)) parts.front
    (when_parts true entry parts.front parts.first).1 in
    let specified = behind (when (not (false && is_named_type it)) (specifier_form known it))
    (specification_form known (is_type it) specifiers) inside.front inside.first in
    let declarator = when_parts (begins_none known (is_typed (tree.more_specifiers it specifiers)) (declarator_form known true declared).pieces)
    (declarator_form known true declared) inside.back inside.second in
    void_by known it specifiers declared others (front ++ rest) specified.front specified.back inside.back parts.back rest
    (four_whole front specified.front specified.back inside.back parts.back parts.front inside.front rest parts.whole inside.whole specified.whole)
    (when_parts (not (false && is_named_type it)) (specifier_form known it) specified.front specified.first).1 specified.second declarator.1 parts.second alone
