-- Primary and postfix expressions are read.
--     ReadsAll known table e       e is read wherever its tokens stand in front
--     name_all, parens_all, ..     of each form, from its parts
use Rattle.std.proofs.Common.{◌≡◌, ℕ, ◌≤◌, Bool, true, false, List, [], ◌∷◌, ◌++◌, length, Option, Some, None, IfSome, refl, ap, sym, ◌∙◌, subst, append_assoc, inl, inr, arith}
use Rattle.std.specs.Prelude.{◌&&◌, nat_le, not, codes, is_some}
use Rattle.std.specs.List.{list_all}
use Rattle.std.specs.Str.{bytes_eq}
use Rattle.std.proofs.lemmas.List.{append-nil}
use Rattle.std.proofs.lemmas.Slice.Eq.{bytes_eq-Decides}
use Rattle.std.proofs.lemmas.Bool.{and_parts, cases_Bool}
use Rattle.std.proofs.lemmas.Bool.Decides.{nat_tests}
use Rattle.hs_base.specs.Options.{◌>>=◌}
use Rattle.hs_constants.specs.Characters.{character_value}
use Rattle.hs_constants.specs.Numbers.{number_value}
use Rattle.hs_constants.specs.Strings.{string_value}
use Rattle.hs_tokens.specs.Marks.{is_same_kind}
use Rattle.hs_tokens.specs.declared.token.SourceToken.{SourceToken}
use Rattle.hs_tokens.specs.declared.token.TokenKind.{TokenKind}
use Rattle.hs_tokens.specs.declared.token.TokenKind.TheVariants.{Identifier, Number, Character, Literal, Punctuator}
use Rattle.hs_syntax.specs.Forms.{Form, ◌⨾◌, when, token, word, mark, mark_at as mark_form, IsOf}
use Rattle.hs_syntax.specs.Grammar.{expression_form}
use Rattle.hs_syntax.specs.Names.{is_among, is_name, keywords}
use Rattle.hs_syntax.specs.Operators.{access_text, postfix_text}
use Rattle.hs_syntax.specs.Parts.{identifier, literals}
use Rattle.hs_syntax.specs.Phrases.{rank, at_least, as_postfix, specifier_words}
use Rattle.hs_syntax.specs.Trees as tree
use Rattle.hs_syntax.specs.Trees.{Expression}
use Rattle.hs_syntax.specs.declared.operators.Access.{Access}
use Rattle.hs_syntax.specs.declared.operators.Access.TheVariants as access
use Rattle.hs_syntax.specs.declared.operators.PostfixOperator.{PostfixOperator}
use Rattle.hs_syntax.specs.declared.operators.PostfixOperator.TheVariants as postfix
use Rattle.hs_tokens.specs.declared.place.Place.{Place}
use Rattle.hs_syntax.specs.declared.word.Word.{Word}
use Rattle.hs_expr_parser.specs.Ahead.{place_of, word_of, is_punctuator, is_mark_ahead, mark_at, name_at, literals_at, stops, is_below, joins, begins_specifier, is_ahead}
use Rattle.hs_expr_parser.specs.Goals as goal
use Rattle.hs_expr_parser.specs.Recursion.{Read}
use Rattle.hs_expr_parser.specs.Reading.{Known, Shorter, going_on, primary_rule, suffix_rule, suffixes_rule, postfix_rule, expression_rule}
use Rattle.hs_expr_parser.specs.Laws.Along.{Whole, Longer, longer_along, longer_on, suffixes_longer}
use Rattle.hs_expr_parser.specs.Laws.Apart.{with_text, token_is, split, when_parts, one_token}
use Rattle.hs_expr_parser.specs.Laws.Bound.{literals_short}
use Rattle.hs_expr_parser.specs.Laws.Ranks.{AllRead, is_unary_start, closed_all, postfix_all, all_along, tightest}

-- it is read wherever its tokens stand in front
abbrev pub ReadsAll : Known → Shorter → Expression → Type 0
ReadsAll known table e = (front rest : List SourceToken) → IsOf (expression_form known e) front → AllRead known table e (front ++ rest) rest

-- a punctuator in front
pub mark_reads : (text : List ℕ) (source : SourceToken) (rest : List SourceToken) → source ≡ with_text Punctuator text source
    → mark_at text (source ∷ rest) ≡ Some (place_of source, rest)
mark_reads text source rest is =
    let same : bytes_eq text text ≡ true = (bytes_eq-Decides text text).1 refl in
    ap (λ (it : SourceToken). mark_at text (it ∷ rest)) is ∙ rw same refl

-- what is made of a phrase, if this punctuator follows it
abbrev pub closing : {A B : Type 0} → (A → B) → List ℕ → A × List SourceToken → Read B
closing make text it = do
  close ← mark_at text it.1
  Some (make it.0, close.1)

-- a phrase up to a punctuator
pub closes : {A B : Type 0} (read : Read A) (it : A) (text : List ℕ) (close : SourceToken) (rest : List SourceToken) (make : A → B)
    → read ≡ Some (it, close ∷ rest) → close ≡ with_text Punctuator text close → (read >>= closing make text) ≡ Some (make it, rest)
closes {B = B} read it text close rest make is same =
    let made : Place × List SourceToken → Read B = λ mark. Some (make it, mark.1) in
    ap (λ found. found >>= closing make text) is ∙ ap (λ found. found >>= made) (mark_reads text close rest same)

-- a name in front
pub name_reads : (name : Word) (source : SourceToken) (rest : List SourceToken) → source ≡ with_text Identifier name.text source → place_of source ≡ name.place
    → is_name name.text ≡ true → name_at (source ∷ rest) ≡ Some (name, rest)
name_reads name source rest is at named =
    ap (λ (it : SourceToken). name_at (it ∷ rest)) is ∙ rw named (λ i. Some (record { text = name.text; place = at i }, rest))

-- what the first token is like
pub first_is : {A : Type 0} (kind : TokenKind) (text : List ℕ) (source : SourceToken) (of : SourceToken → A) (it : A)
    → source ≡ with_text kind text source → of (with_text kind text source) ≡ it → of source ≡ it
first_is kind text source of it same is = ap of same ∙ is

-- no keyword begins a specifier, and is an operator
abbrev is_bare : Known → SourceToken → Type 0
is_bare known source = (begins_specifier known false source ≡ false) × (is_punctuator (codes "(") source ≡ false) × (is_unary_start source ≡ false)

-- a primary expression of one token
one_all : {known : Known} {table : Shorter} → Whole known table → (e : Expression) (source : SourceToken) (rest : List SourceToken) → 15 ≤ rank e
    → tightest e ≡ 10
    → is_bare known source → primary_rule known table (source ∷ rest) ≡ Some (e, rest) → AllRead known table e (source ∷ rest) rest
one_all {known = known} {table = table} whole e source rest low ten bare reads =
    closed_all whole e (source ∷ rest) rest low ten bare.0 (ap (λ it. it && is_ahead (begins_specifier known false) rest) bare.1) bare.2
    (ap (λ it. it >>= (λ x. suffixes_rule table x.0 x.1)) reads)

-- a text that is no keyword is not one of some keywords
apart : (words : List (List ℕ)) (text : List ℕ) → list_all (λ word. is_among keywords word) words ≡ true → is_name text ≡ true → is_among words text ≡ false
apart [] text all is = refl
apart (first ∷ rest) text all is =
    let parts = and_parts (is_among keywords first) (list_all (λ word. is_among keywords word) rest) all in
    elim (cases_Bool (bytes_eq first text)) [
      | inl same ↦
          let wrong : false ≡ true =
          ap not (sym parts.0) ∙ ap is_name ((bytes_eq-Decides first text).0 same) ∙ is in
          absurd cc
      | inr other ↦ rw other (apart rest text parts.1 is)
    ]

-- a name is no word that begins a specifier
pub names_apart : (text : List ℕ) → is_name text ≡ true → is_among specifier_words text ≡ false
unfolding keywords specifier_words
names_apart text is = apart specifier_words text refl is

pub sizeof_apart : (text : List ℕ) → is_name text ≡ true → bytes_eq text (codes "sizeof") ≡ false
unfolding keywords
sizeof_apart text is =
    elim (cases_Bool (bytes_eq text (codes "sizeof"))) [
      | inl same ↦
          let wrong : false ≡ true = ap is_name (sym ((bytes_eq-Decides text (codes "sizeof")).0 same)) ∙ is in
          absurd cc
      | inr other ↦ other
    ]

-- ---- primary expressions

-- the word that a token is
pub word_is : (kind : TokenKind) (it : Word) (source : SourceToken) → source ≡ with_text kind it.text source → place_of source ≡ it.place
    → word_of (with_text kind it.text source) ≡ it
word_is kind it source same at = λ i. record { text = it.text; place = at i }

name_by : {known : Known} {table : Shorter} → Whole known table → (it : Word) (source : SourceToken) (rest : List SourceToken)
    → source ≡ with_text Identifier it.text source → place_of source ≡ it.place → is_among known it.text ≡ false → is_name it.text ≡ true
    → AllRead known table (tree.name it) (source ∷ rest) rest
name_by {known = known} {table = table} whole it source rest same at unknown named =
    let apart_words = names_apart it.text named in
    let apart_sizeof = sizeof_apart it.text named in
    let begins : begins_specifier known false source ≡ false = ap (begins_specifier known false) same ∙ rw apart_words (rw named unknown) in
    let start : is_unary_start source ≡ false = ap is_unary_start same ∙ rw apart_sizeof refl in
    let reads : primary_rule known table (source ∷ rest) ≡ Some (tree.name it, rest) =
    ap (λ (first : SourceToken). primary_rule known table (first ∷ rest)) same
    ∙ rw named (rw unknown (ap (λ word. Some (tree.name word, rest)) (word_is Identifier it source same at))) in
    one_all whole (tree.name it) source rest (omega arith) refl (begins, ap (is_punctuator (codes "(")) same, start) reads

pub name_all : {known : Known} {table : Shorter} → Whole known table → (it : Word) → ReadsAll known table (tree.name it)
name_all {known = known} {table = table} whole it front rest fits =
    let unknown = when_parts (not (is_among known it.text)) (identifier it) front fits in
    let named = when_parts (is_name it.text) (word Identifier it) front unknown.1 in
    let one = one_token Identifier it.text (Some it.place) front named.1 in
    all_along (ap (λ its. its ++ rest) one.alone) (name_by whole it one.source rest one.is one.at (not_true (is_among known it.text) unknown.0) named.0)
  where
    not_true : (it : Bool) → not it ≡ true → it ≡ false
    not_true true is = absurd cc
    not_true false is = refl

number_by : {known : Known} {table : Shorter} → Whole known table → (it : Word) (source : SourceToken) (rest : List SourceToken)
    → source ≡ with_text Number it.text source → place_of source ≡ it.place → is_some (number_value it.text) ≡ true
    → AllRead known table (tree.number it) (source ∷ rest) rest
number_by {known = known} {table = table} whole it source rest same at valued =
    let reads : primary_rule known table (source ∷ rest) ≡ Some (tree.number it, rest) =
    ap (λ (first : SourceToken). primary_rule known table (first ∷ rest)) same
    ∙ rw valued (ap (λ word. Some (tree.number word, rest)) (word_is Number it source same at)) in
    one_all whole (tree.number it) source rest (omega arith) refl
    (ap (begins_specifier known false) same, ap (is_punctuator (codes "(")) same, ap is_unary_start same) reads

pub number_all : {known : Known} {table : Shorter} → Whole known table → (it : Word) → ReadsAll known table (tree.number it)
number_all {known = known} {table = table} whole it front rest fits =
    let valued = when_parts (is_some (number_value it.text)) (word Number it) front fits in
    let one = one_token Number it.text (Some it.place) front valued.1 in
    all_along (ap (λ its. its ++ rest) one.alone) (number_by whole it one.source rest one.is one.at valued.0)

character_by : {known : Known} {table : Shorter} → Whole known table → (it : Word) (source : SourceToken) (rest : List SourceToken)
    → source ≡ with_text Character it.text source → place_of source ≡ it.place → is_some (character_value it.text) ≡ true
    → AllRead known table (tree.character it) (source ∷ rest) rest
character_by {known = known} {table = table} whole it source rest same at valued =
    let reads : primary_rule known table (source ∷ rest) ≡ Some (tree.character it, rest) =
    ap (λ (first : SourceToken). primary_rule known table (first ∷ rest)) same
    ∙ rw valued (ap (λ word. Some (tree.character word, rest)) (word_is Character it source same at)) in
    one_all whole (tree.character it) source rest (omega arith) refl
    (ap (begins_specifier known false) same, ap (is_punctuator (codes "(")) same, ap is_unary_start same) reads

pub character_all : {known : Known} {table : Shorter} → Whole known table → (it : Word) → ReadsAll known table (tree.character it)
character_all {known = known} {table = table} whole it front rest fits =
    let valued = when_parts (is_some (character_value it.text)) (word Character it) front fits in
    let one = one_token Character it.text (Some it.place) front valued.1 in
    all_along (ap (λ its. its ++ rest) one.alone) (character_by whole it one.source rest one.is one.at valued.0)

-- a literal and those in front
abbrev with_literal : Word → List SourceToken → List Word × List SourceToken
with_literal first tokens = (first ∷ (literals_at tokens).0, (literals_at tokens).1)

-- a literal with a value is one of those in front
literal_reads : (it : Word) (source : SourceToken) (tokens : List SourceToken) → is_some (string_value it.text) ≡ true
    → literals_at (with_text Literal it.text source ∷ tokens) ≡ with_literal (word_of (with_text Literal it.text source)) tokens
literal_reads it source tokens valued = rw valued refl

-- the literals in front, and more that follow
literals_reads : (its : List Word) (front rest : List SourceToken) → IsOf (literals its) front
    → ((literals_at (front ++ rest)).0 ≡ its ++ (literals_at rest).0) × ((literals_at (front ++ rest)).1 ≡ (literals_at rest).1)
literals_reads [] [] rest fits = (refl, refl)
literals_reads [] (source ∷ front) rest fits = absurd fits.1
literals_reads (it ∷ its) front rest fits =
    let parts = split (when (is_some (string_value it.text)) (word Literal it)) (literals its) front fits in
    let valued = when_parts (is_some (string_value it.text)) (word Literal it) parts.front parts.first in
    let one = one_token Literal it.text (Some it.place) parts.front valued.1 in
    let others = literals_reads its parts.back rest parts.second in
    let same : front ++ rest ≡ one.source ∷ (parts.back ++ rest) =
    ap (λ it. it ++ rest) (parts.whole ∙ ap (λ it. it ++ parts.back) one.alone) in
    let first : literals_at (one.source ∷ (parts.back ++ rest)) ≡ with_literal (word_of (with_text Literal it.text one.source)) (parts.back ++ rest) =
    ap (λ (first : SourceToken). literals_at (first ∷ (parts.back ++ rest))) one.is ∙ literal_reads it one.source (parts.back ++ rest) valued.0 in (
      ap (λ its. (literals_at its).0) same ∙ ap (λ pair. pair.0) first
          ∙ (λ i. word_is Literal it one.source one.is one.at i ∷ others.0 i),
      ap (λ its. (literals_at its).1) same ∙ ap (λ pair. pair.1) first ∙ others.1,
    )

-- no literal follows
literals_stop : (tokens : List SourceToken) → stops 16 tokens ≡ true → ((literals_at tokens).0 ≡ []) × ((literals_at tokens).1 ≡ tokens)
literals_stop [] is = (refl, refl)
literals_stop (source ∷ rest) is =
    elim (cases_Bool (is_same_kind source.token.kind Literal)) [
      | inl literal ↦
          let wrong : false ≡ true = sym (rw literal refl) ∙ is in
          absurd cc
      | inr other ↦ rw other (refl, refl)
    ]

-- literals after a first one
strings_by : {known : Known} {table : Shorter} → Whole known table → (first : Word) (others : List Word) (source : SourceToken) (front rest : List SourceToken)
    → source ≡ with_text Literal first.text source → place_of source ≡ first.place → is_some (string_value first.text) ≡ true
    → IsOf (literals others) front → AllRead known table (tree.strings first others) (source ∷ (front ++ rest)) rest
strings_by {known = known} {table = table} whole first others source front rest same at valued fits =
    let found = literals_reads others front rest fits in
    let less = literals_short rest in
    let all : List Word = others ++ (literals_at rest).0 in
    let left : List SourceToken = (literals_at rest).1 in
    let reads : primary_rule known table (source ∷ (front ++ rest)) ≡ Some (tree.strings first all, left) =
    ap (λ (it : SourceToken). primary_rule known table (it ∷ (front ++ rest))) same
    ∙ rw valued (λ i. Some (tree.strings (word_is Literal first source same at i) (found.0 i), found.1 i)) in
    let behind : postfix_rule known table (source ∷ (front ++ rest)) ≡ suffixes_rule table (tree.strings first all) left =
    ap (λ it. it >>= (λ x. suffixes_rule table x.0 x.1)) reads in
    postfix_all whole (tree.strings first others) (source ∷ (front ++ rest)) rest (omega arith) refl
    (ap (begins_specifier known false) same)
    (ap (λ (it : SourceToken). is_punctuator (codes "(") it && is_ahead (begins_specifier known false) (front ++ rest)) same)
    (ap is_unary_start same)
    (λ stopped.
    let none = literals_stop rest stopped in
    behind ∙ (λ i. suffixes_rule table (tree.strings first (others ++ none.0 i)) (none.1 i))
    ∙ ap (λ its. suffixes_rule table (tree.strings first its) rest) (append-nil others))
    (longer_along behind (longer_on less (suffixes_longer whole (tree.strings first all) left)))

pub strings_all : {known : Known} {table : Shorter} → Whole known table → (first : Word) (others : List Word) → ReadsAll known table (tree.strings first others)
strings_all {known = known} {table = table} whole first others front rest fits =
    let parts = split (when (is_some (string_value first.text)) (word Literal first)) (literals others) front fits in
    let valued = when_parts (is_some (string_value first.text)) (word Literal first) parts.front parts.first in
    let one = one_token Literal first.text (Some first.place) parts.front valued.1 in
    let same : front ++ rest ≡ one.source ∷ (parts.back ++ rest) =
    ap (λ it. it ++ rest) (parts.whole ∙ ap (λ it. it ++ parts.back) one.alone) in
    all_along same (strings_by whole first others one.source parts.back rest one.is one.at valued.0 parts.second)

-- an expression in parentheses
parens_by : {known : Known} {table : Shorter} → Whole known table → (inner : Expression) (opening close : SourceToken) (tokens rest : List SourceToken)
    → opening ≡ with_text Punctuator (codes "(") opening → close ≡ with_text Punctuator (codes ")") close
    → AllRead known table inner tokens (close ∷ rest) → AllRead known table (tree.parens (place_of opening) inner) (opening ∷ tokens) rest
parens_by {known = known} {table = table} whole inner opening close tokens rest opens is_close all =
    let stopped : stops 0 (close ∷ rest) ≡ true = ap (λ it. is_below 0 (joins it)) is_close in
    let read : table goal.expression tokens ≡ Some (inner, close ∷ rest) = whole.plain goal.expression tokens ∙ all.expression.exact stopped in
    let reads : primary_rule known table (opening ∷ tokens) ≡ Some (tree.parens (place_of opening) inner, rest) =
    ap (λ (it : SourceToken). primary_rule known table (it ∷ tokens)) opens
    ∙ closes (table goal.expression tokens) inner (codes ")") close rest (tree.parens (place_of opening)) read is_close in
    closed_all whole (tree.parens (place_of opening) inner) (opening ∷ tokens) rest (omega arith) refl
    (ap (begins_specifier known false) opens)
    (ap (λ (it : SourceToken). is_punctuator (codes "(") it && is_ahead (begins_specifier known false) tokens) opens ∙ all.begins)
    (ap is_unary_start opens)
    (ap (λ it. it >>= (λ x. suffixes_rule table x.0 x.1)) reads)

-- ---- postfix expressions

-- a suffix after its base
pub suffix_all : {known : Known} {table : Shorter} → Whole known table → (base e : Expression) (tokens more rest : List SourceToken) → 15 ≤ rank base
    → 15 ≤ rank e
    → tightest e ≡ 10 → AllRead known table base tokens more → stops 16 more ≡ true → suffix_rule table base more ≡ Some (e, rest)
    → AllRead known table e tokens rest
suffix_all {known = known} {table = table} whole base e tokens more rest low tight ten all stopped reads =
    closed_all whole e tokens rest tight ten all.begins (all.untyped (omega (arith, low))) (all.plain_start low)
    (all.suffixed low stopped
    ∙ ap (λ found. going_on found (λ it left. table (goal.suffixes it) left) (Some (base, more))) reads
    ∙ whole.plain (goal.suffixes e) rest)

-- brackets with a phrase between them
pub record Bracketed (open' close' : List ℕ) (place : Option Place) (form : Form) (sources : List SourceToken) : Type 0 where
  pub opening : SourceToken
  pub inside : List SourceToken
  pub close : SourceToken
  pub whole : (rest : List SourceToken) → sources ++ rest ≡ opening ∷ (inside ++ (close ∷ rest))
  pub opens : opening ≡ with_text Punctuator open' opening
  pub at : IfSome place (λ it. place_of opening ≡ it)
  pub closed : close ≡ with_text Punctuator close' close
  pub fits : IsOf form inside

pub bracketed : (open' close' : List ℕ) (place : Option Place) (form : Form) (sources : List SourceToken)
    → IsOf (token Punctuator open' place ⨾ form ⨾ mark close') sources → Bracketed open' close' place form sources
bracketed open' close' place form sources fits =
    let parts = split (token Punctuator open' place) (form ⨾ mark close') sources fits in
    let opening = one_token Punctuator open' place parts.front parts.first in
    let others = split form (mark close') parts.back parts.second in
    let close = one_token Punctuator close' None others.back others.second in
    record {
      opening = opening.source;
      inside = others.front;
      close = close.source;
      whole = λ rest.
          ap (λ it. it ++ rest) (parts.whole ∙ ap (λ it. it ++ parts.back) opening.alone
          ∙ ap (λ it. opening.source ∷ it) (others.whole ∙ ap (λ it. others.front ++ it) close.alone))
          ∙ ap (λ it. opening.source ∷ it) (append_assoc others.front (close.source ∷ []) rest);
      opens = opening.is;
      at = opening.at;
      closed = close.is;
      fits = others.first;
    }

-- if nothing is read after a `)` in front
pub not_closed : {known : Known} {table : Shorter} {e : Expression} {tokens rest : List SourceToken} → AllRead known table e tokens rest
    → is_mark_ahead (codes ")") tokens ≡ false
not_closed {known = known} {table = table} {tokens = tokens} all = no_close tokens all.expression.longer
  where
    no_close : (its : List SourceToken) {rest : List SourceToken} → Longer (expression_rule known table its) rest → is_mark_ahead (codes ")") its ≡ false
    no_close [] longer = refl
    no_close (source ∷ others) longer =
        elim (cases_Bool (is_punctuator (codes ")") source)) [
          | inl is ↦
              let none : expression_rule known table (source ∷ others) ≡ None =
              ap (λ (it : SourceToken). expression_rule known table (it ∷ others)) (token_is Punctuator (codes ")") source is) in
              let nothing : Read Expression = None in
              let wrong : nothing ≡ Some (longer.it, longer.left) = sym none ∙ longer.is in
              absurd cc
          | inr is ↦ is
        ]

-- an element of an array
index_by : {known : Known} {table : Shorter} → Whole known table
    → (base offset : Expression) (opening close : SourceToken) (tokens inside rest : List SourceToken)
    → opening ≡ with_text Punctuator (codes "[") opening → close ≡ with_text Punctuator (codes "]") close → 15 ≤ rank base
    → AllRead known table base tokens (opening ∷ inside) → AllRead known table offset inside (close ∷ rest)
    → AllRead known table (tree.index base (place_of opening) offset) tokens rest
index_by {known = known} {table = table} whole base offset opening close tokens inside rest opens is_close low all other =
    let stopped : stops 0 (close ∷ rest) ≡ true = ap (λ it. is_below 0 (joins it)) is_close in
    let read : table goal.expression inside ≡ Some (offset, close ∷ rest) = whole.plain goal.expression inside ∙ other.expression.exact stopped in
    suffix_all whole base (tree.index base (place_of opening) offset) tokens (opening ∷ inside) rest low (omega arith) refl all
    (ap (λ it. is_below 16 (joins it)) opens)
    (ap (λ (it : SourceToken). suffix_rule table base (it ∷ inside)) opens
    ∙ closes (table goal.expression inside) offset (codes "]") close rest (tree.index base (place_of opening)) read is_close)

-- tokens after a base
pub record Behind (form other : Form) (sources : List SourceToken) : Type 0 where
  pub front : List SourceToken
  pub back : List SourceToken
  pub whole : (rest : List SourceToken) → sources ++ rest ≡ front ++ (back ++ rest)
  pub first : IsOf form front
  pub second : IsOf other back

pub behind : (form other : Form) (sources : List SourceToken) → IsOf (form ⨾ other) sources → Behind form other sources
behind form other sources fits =
    let parts = split form other sources fits in
    record {
      front = parts.front;
      back = parts.back;
      whole = λ rest. ap (λ it. it ++ rest) parts.whole ∙ append_assoc parts.front parts.back rest;
      first = parts.first;
      second = parts.second;
    }

-- of a rank at least
pub ranked : (least : ℕ) (e : Expression) (form : Form) (sources : List SourceToken) → IsOf (at_least least e form) sources
    → (least ≤ rank e) × IsOf form sources
ranked least e form sources fits =
    let parts = when_parts (nat_le least (rank e)) form sources fits in
    (grind (arith, nat_tests), parts.1)

pub index_all : {known : Known} {table : Shorter} → Whole known table → (base : Expression) (at : Place) (offset : Expression)
    → ReadsAll known table base → ReadsAll known table offset → ReadsAll known table (tree.index base at offset)
index_all {known = known} {table = table} whole base at offset reads others front rest fits =
    let parts = behind (as_postfix base (expression_form known base)) (mark_form at (codes "[") ⨾ expression_form known offset ⨾ mark (codes "]")) front fits in
    let low = ranked 15 base (expression_form known base) parts.front parts.first in
    let its = bracketed (codes "[") (codes "]") (Some at) (expression_form known offset) parts.back parts.second in
    let same : front ++ rest ≡ parts.front ++ (its.opening ∷ (its.inside ++ (its.close ∷ rest))) =
    parts.whole rest ∙ ap (λ it. parts.front ++ it) (its.whole rest) in
    let all = index_by whole base offset its.opening its.close (parts.front ++ (its.opening ∷ (its.inside ++ (its.close ∷ rest))))
    (its.inside ++ (its.close ∷ rest)) rest its.opens its.closed low.0
    (reads parts.front (its.opening ∷ (its.inside ++ (its.close ∷ rest))) low.1) (others its.inside (its.close ∷ rest) its.fits) in
    all_along same (subst (λ (place : Place). AllRead known table (tree.index base place offset)
    (parts.front ++ (its.opening ∷ (its.inside ++ (its.close ∷ rest)))) rest) its.at all)

-- a member
member_by : {known : Known} {table : Shorter} → Whole known table
    → (base : Expression) (it : Access) (name : Word) (source next : SourceToken) (tokens rest : List SourceToken)
    → source ≡ with_text Punctuator (access_text it) source → next ≡ with_text Identifier name.text next → place_of next ≡ name.place → is_name name.text ≡ true
    → 15 ≤ rank base → AllRead known table base tokens (source ∷ next ∷ rest) → AllRead known table (tree.member base it (place_of source) name) tokens rest
member_by {known = known} {table = table} whole base it name source next tokens rest is is_next at named low all =
    suffix_all whole base (tree.member base it (place_of source) name) tokens (source ∷ next ∷ rest) rest low (omega arith) refl all
    (ap (λ it. is_below 16 (joins it)) is ∙ goes it source)
    (ap (λ (first : SourceToken). suffix_rule table base (first ∷ next ∷ rest)) is ∙ found it source
    ∙ ap (λ word. word >>= (λ x. Some (tree.member base it (place_of source) x.0, x.1))) name_found)
  where
    goes : (it : Access) (source : SourceToken) → is_below 16 (joins (with_text Punctuator (access_text it) source)) ≡ true
    goes access.Dot source = refl
    goes access.Arrow source = refl

    found : (it : Access) (source : SourceToken) → suffix_rule table base (with_text Punctuator (access_text it) source ∷ next ∷ rest)
        ≡ (name_at (next ∷ rest) >>= (λ x. Some (tree.member base it (place_of source) x.0, x.1)))
    found access.Dot source = refl
    found access.Arrow source = refl

    name_found : name_at (next ∷ rest) ≡ Some (name, rest)
    name_found = name_reads name next rest is_next at named

-- `++` or `--` after it
postfix_by : {known : Known} {table : Shorter} → Whole known table
    → (base : Expression) (it : PostfixOperator) (source : SourceToken) (tokens rest : List SourceToken)
    → source ≡ with_text Punctuator (postfix_text it) source → 15 ≤ rank base → AllRead known table base tokens (source ∷ rest)
    → AllRead known table (tree.postfix base it (place_of source)) tokens rest
postfix_by {known = known} {table = table} whole base it source tokens rest is low all =
    suffix_all whole base (tree.postfix base it (place_of source)) tokens (source ∷ rest) rest low (omega arith) refl all
    (ap (λ it. is_below 16 (joins it)) is ∙ goes it source)
    (ap (λ (first : SourceToken). suffix_rule table base (first ∷ rest)) is ∙ found it source)
  where
    goes : (it : PostfixOperator) (source : SourceToken) → is_below 16 (joins (with_text Punctuator (postfix_text it) source)) ≡ true
    goes postfix.Increment source = refl
    goes postfix.Decrement source = refl

    found : (it : PostfixOperator) (source : SourceToken) → suffix_rule table base (with_text Punctuator (postfix_text it) source ∷ rest)
        ≡ Some (tree.postfix base it (place_of source), rest)
    found postfix.Increment source = refl
    found postfix.Decrement source = refl

pub member_all : {known : Known} {table : Shorter} → Whole known table → (base : Expression) (it : Access) (at : Place) (name : Word)
    → ReadsAll known table base → ReadsAll known table (tree.member base it at name)
member_all {known = known} {table = table} whole base it at name reads front rest fits =
    let parts = behind (as_postfix base (expression_form known base)) (mark_form at (access_text it) ⨾ identifier name) front fits in
    let low = ranked 15 base (expression_form known base) parts.front parts.first in
    let others = split (mark_form at (access_text it)) (identifier name) parts.back parts.second in
    let source = one_token Punctuator (access_text it) (Some at) others.front others.first in
    let named = when_parts (is_name name.text) (word Identifier name) others.back others.second in
    let next = one_token Identifier name.text (Some name.place) others.back named.1 in
    let same : front ++ rest ≡ parts.front ++ (source.source ∷ next.source ∷ rest) =
    parts.whole rest ∙ ap (λ its. parts.front ++ (its ++ rest)) (others.whole ∙ (λ i. source.alone i ++ next.alone i)) in
    let all = member_by whole base it name source.source next.source
    (parts.front ++ (source.source ∷ next.source ∷ rest)) rest source.is next.is next.at named.0 low.0
    (reads parts.front (source.source ∷ next.source ∷ rest) low.1) in
    all_along same (subst (λ (place : Place). AllRead known table (tree.member base it place name)
    (parts.front ++ (source.source ∷ next.source ∷ rest)) rest) source.at all)

pub postfix_form_all : {known : Known} {table : Shorter} → Whole known table → (base : Expression) (it : PostfixOperator) (at : Place)
    → ReadsAll known table base → ReadsAll known table (tree.postfix base it at)
postfix_form_all {known = known} {table = table} whole base it at reads front rest fits =
    let parts = behind (as_postfix base (expression_form known base)) (mark_form at (postfix_text it)) front fits in
    let low = ranked 15 base (expression_form known base) parts.front parts.first in
    let source = one_token Punctuator (postfix_text it) (Some at) parts.back parts.second in
    let same : front ++ rest ≡ parts.front ++ (source.source ∷ rest) =
    parts.whole rest ∙ ap (λ its. parts.front ++ (its ++ rest)) source.alone in
    let all = postfix_by whole base it source.source (parts.front ++ (source.source ∷ rest)) rest source.is low.0
    (reads parts.front (source.source ∷ rest) low.1) in
    all_along same (subst (λ (place : Place). AllRead known table (tree.postfix base it place) (parts.front ++ (source.source ∷ rest)) rest) source.at all)

pub parens_all : {known : Known} {table : Shorter} → Whole known table → (at : Place) (inner : Expression) → ReadsAll known table inner
    → ReadsAll known table (tree.parens at inner)
parens_all {known = known} {table = table} whole at inner reads front rest fits =
    let its = bracketed (codes "(") (codes ")") (Some at) (expression_form known inner) front fits in
    let all = parens_by whole inner its.opening its.close (its.inside ++ (its.close ∷ rest)) rest its.opens its.closed
    (reads its.inside (its.close ∷ rest) its.fits) in
    all_along (its.whole rest)
    (subst (λ (place : Place). AllRead known table (tree.parens place inner) (its.opening ∷ (its.inside ++ (its.close ∷ rest))) rest) its.at all)
