-- Specifiers are read.
--     storage_all, .., enum_body_all        each specifier
--     no_specifiers_all, more_specifiers_all
use Rattle.std.proofs.Common.{◌≡◌, ℕ, Bool, true, false, List, [], ◌∷◌, ◌++◌, Option, Some, None, refl, ap, sym, ◌∙◌, subst, append_assoc, inl, inr}
use Rattle.std.specs.Prelude.{◌&&◌, ◌||◌, not, codes}
use Rattle.std.specs.Str.{bytes_eq}
use Rattle.std.proofs.lemmas.List.{append-nil}
use Rattle.std.proofs.lemmas.Slice.Eq.{bytes_eq-Decides}
use Rattle.std.proofs.lemmas.Bool.{cases_Bool}
use Rattle.hs_base.specs.Options.{◌>>=◌}
use Rattle.hs_base.specs.Tests.{or_again}
use Rattle.hs_tokens.specs.declared.token.SourceToken.{SourceToken}
use Rattle.hs_tokens.specs.declared.token.TokenKind.TheVariants.{Identifier, Punctuator}
use Rattle.hs_syntax.specs.Forms.{Form, ◌⨾◌, when, word, mark, mark_at as mark_form, IsOf}
use Rattle.hs_syntax.specs.Grammar.{specifier_form, specification_form, members_form, constants_form}
use Rattle.hs_syntax.specs.Names.{is_among, is_name, is_type_name, keywords}
use Rattle.hs_syntax.specs.Operators.{storage_text, dropped_text, basic_text}
use Rattle.hs_syntax.specs.Parts.{identifier, tag_form, comma_form}
use Rattle.hs_syntax.specs.Phrases.{is_type, is_typed, is_named_type, specifier_words, has_specifiers, has_members, has_constants}
use Rattle.hs_syntax.specs.RowViews.{OneConstant, members_from, constants_from}
use Rattle.hs_syntax.specs.Trees as tree
use Rattle.hs_syntax.specs.Trees.{Specified, Specification, Members, Constants}
use Rattle.hs_syntax.specs.declared.operators.Basic.{Basic}
use Rattle.hs_syntax.specs.declared.operators.Basic.TheVariants as basic
use Rattle.hs_syntax.specs.declared.operators.Dropped.{Dropped}
use Rattle.hs_syntax.specs.declared.operators.Dropped.TheVariants as dropped
use Rattle.hs_syntax.specs.declared.operators.Storage.{Storage}
use Rattle.hs_syntax.specs.declared.operators.Storage.TheVariants as storage
use Rattle.hs_tokens.specs.declared.place.Place.{Place}
use Rattle.hs_syntax.specs.declared.word.Word.{Word}
use Rattle.hs_expr_parser.specs.Ahead.{place_of, word_of, is_punctuator, is_ahead, is_mark_ahead, name_at, begins_specifier, storage_of, dropped_of, basic_of, storage_words, dropped_words, basic_words}
use Rattle.hs_expr_parser.specs.Goals as goal
use Rattle.hs_expr_parser.specs.Recursion.{Read}
use Rattle.hs_expr_parser.specs.Reading.{Known, Shorter, going_on, tag_at, struct_by, enum_by, specifier_by, specifier_rule, specifiers_rule, members_rule, constants_rule}
use Rattle.hs_expr_parser.specs.Laws.Along.{Whole}
use Rattle.hs_expr_parser.specs.Laws.Apart.{with_text, token_is, when_parts, one_token, first_when}
use Rattle.hs_expr_parser.specs.Laws.Enclosed.{headed, enclosed}
use Rattle.hs_expr_parser.specs.Laws.Entries.{members_again, constants_again}
use Rattle.hs_expr_parser.specs.Expected.{specifiers_in, members_in, constants_in, ReadsSpecifier, ReadsSpecification, ReadsMembers, ReadsConstants}
use Rattle.hs_expr_parser.specs.Laws.FirstTokens.{or_true, not_true, grouped, dropped_keyword, no_word, specifier_no_mark}
use Rattle.hs_expr_parser.specs.Laws.Primaries.{closes, name_reads, word_is, behind}

-- ---- specifiers of one token

-- a storage class
pub storage_all : {known : Known} {table : Shorter} → Whole known table → (it : Storage) (at : Place) → ReadsSpecifier known table (tree.storage it at)
unfolding specifier_words
storage_all {known = known} {table = table} whole it at front rest fits ahead =
    let one = one_token Identifier (storage_text it) (Some at) front fits in (
      one.source,
      rest,
      ap (λ its. its ++ rest) one.alone,
      ap (λ source. specifier_rule known table source rest) one.is ∙ reads it one.source ∙ ap (λ place. Some (tree.storage it place, rest)) one.at,
      λ typed apart. ap (begins_specifier known typed) one.is ∙ begins typed it one.source,
    )
  where
    reads : (it : Storage) (source : SourceToken) → specifier_rule known table (with_text Identifier (storage_text it) source) rest
        ≡ Some (tree.storage it (place_of source), rest)
    reads storage.Typedef source = refl
    reads storage.Extern source = refl
    reads storage.Static source = refl

    begins : (typed : Bool) (it : Storage) (source : SourceToken) → begins_specifier known typed (with_text Identifier (storage_text it) source) ≡ true
    begins typed storage.Typedef source = refl
    begins typed storage.Extern source = refl
    begins typed storage.Static source = refl

-- a dropped word
pub dropped_all : {known : Known} {table : Shorter} → Whole known table → (it : Dropped) (at : Place) → ReadsSpecifier known table (tree.dropped it at)
unfolding specifier_words
dropped_all {known = known} {table = table} whole it at front rest fits ahead =
    let one = one_token Identifier (dropped_text it) (Some at) front fits in (
      one.source,
      rest,
      ap (λ its. its ++ rest) one.alone,
      ap (λ source. specifier_rule known table source rest) one.is ∙ reads it one.source ∙ ap (λ place. Some (tree.dropped it place, rest)) one.at,
      λ typed apart. ap (begins_specifier known typed) one.is ∙ begins typed it one.source,
    )
  where
    reads : (it : Dropped) (source : SourceToken) → specifier_rule known table (with_text Identifier (dropped_text it) source) rest
        ≡ Some (tree.dropped it (place_of source), rest)
    reads dropped.Auto source = refl
    reads dropped.Register source = refl
    reads dropped.Const source = refl
    reads dropped.Volatile source = refl
    reads dropped.Pascal source = refl

    begins : (typed : Bool) (it : Dropped) (source : SourceToken) → begins_specifier known typed (with_text Identifier (dropped_text it) source) ≡ true
    begins typed dropped.Auto source = refl
    begins typed dropped.Register source = refl
    begins typed dropped.Const source = refl
    begins typed dropped.Volatile source = refl
    begins typed dropped.Pascal source = refl

-- a basic type
pub basic_all : {known : Known} {table : Shorter} → Whole known table → (it : Basic) (at : Place) → ReadsSpecifier known table (tree.basic it at)
unfolding specifier_words
basic_all {known = known} {table = table} whole it at front rest fits ahead =
    let one = one_token Identifier (basic_text it) (Some at) front fits in (
      one.source,
      rest,
      ap (λ its. its ++ rest) one.alone,
      ap (λ source. specifier_rule known table source rest) one.is ∙ reads it one.source ∙ ap (λ place. Some (tree.basic it place, rest)) one.at,
      λ typed apart. ap (begins_specifier known typed) one.is ∙ begins typed it one.source,
    )
  where
    reads : (it : Basic) (source : SourceToken) → specifier_rule known table (with_text Identifier (basic_text it) source) rest
        ≡ Some (tree.basic it (place_of source), rest)
    reads basic.Void source = refl
    reads basic.Char source = refl
    reads basic.Short source = refl
    reads basic.Int source = refl
    reads basic.Long source = refl
    reads basic.Signed source = refl
    reads basic.Unsigned source = refl

    begins : (typed : Bool) (it : Basic) (source : SourceToken) → begins_specifier known typed (with_text Identifier (basic_text it) source) ≡ true
    begins typed basic.Void source = refl
    begins typed basic.Char source = refl
    begins typed basic.Short source = refl
    begins typed basic.Int source = refl
    begins typed basic.Long source = refl
    begins typed basic.Signed source = refl
    begins typed basic.Unsigned source = refl

-- ---- typedef names

-- a name is no keyword
pub no_keyword : (keyword text : List ℕ) → is_name keyword ≡ false → is_name text ≡ true → bytes_eq text keyword ≡ false
no_keyword keyword text is named =
    elim (cases_Bool (bytes_eq text keyword)) [
      | inl same ↦
          let wrong : false ≡ true = sym is ∙ ap is_name (sym ((bytes_eq-Decides text keyword).0 same)) ∙ named in
          absurd cc
      | inr other ↦ other
    ]

-- the words of specifiers are keywords
storage_keyword : (it : Storage) → is_name (storage_text it) ≡ false
unfolding keywords
storage_keyword storage.Typedef = refl
storage_keyword storage.Extern = refl
storage_keyword storage.Static = refl

-- and those of basic types
basic_keyword : (it : Basic) → is_name (basic_text it) ≡ false
unfolding keywords
basic_keyword basic.Void = refl
basic_keyword basic.Char = refl
basic_keyword basic.Short = refl
basic_keyword basic.Int = refl
basic_keyword basic.Long = refl
basic_keyword basic.Signed = refl
basic_keyword basic.Unsigned = refl

-- `struct` is a keyword
pub struct_keyword : is_name (codes "struct") ≡ false
unfolding keywords
struct_keyword = refl

-- so is `enum`
pub enum_keyword : is_name (codes "enum") ≡ false
unfolding keywords
enum_keyword = refl

-- and `void`
pub void_keyword : is_name (codes "void") ≡ false
unfolding keywords
void_keyword = refl

-- a typedef name that is no keyword is read as one
named_by : (known : Known) (table : Shorter) (text : List ℕ) (source : SourceToken) (rest : List SourceToken) → is_name text ≡ true → is_among known text ≡ true
    → specifier_rule known table (with_text Identifier text source) rest ≡ Some (tree.named (word_of (with_text Identifier text source)), rest)
named_by known table text source rest named among =
    let it : SourceToken = with_text Identifier text source in
    let no_storage : storage_of it ≡ None = no_word storage_text storage_words it (storage_of it) storage_keyword refl (λ same. named) in
    let no_dropped : dropped_of it ≡ None = no_word dropped_text dropped_words it (dropped_of it) dropped_keyword refl (λ same. named) in
    let no_basic : basic_of it ≡ None = no_word basic_text basic_words it (basic_of it) basic_keyword refl (λ same. named) in
    (λ i. specifier_by known table (no_storage i) (no_dropped i) (no_basic i) it rest)
    ∙ rw (no_keyword (codes "struct") text struct_keyword named) (rw (no_keyword (codes "enum") text enum_keyword named) (rw named (rw among refl)))

-- a typedef name
pub named_all : {known : Known} {table : Shorter} → Whole known table → (it : Word) → ReadsSpecifier known table (tree.named it)
named_all {known = known} {table = table} whole it front rest fits ahead =
    let one_known = when_parts (is_among known it.text) (identifier it) front fits in
    let parts = when_parts (is_name it.text) (word Identifier it) front one_known.1 in
    let one = one_token Identifier it.text (Some it.place) front parts.1 in (
      one.source,
      rest,
      ap (λ its. its ++ rest) one.alone,
      ap (λ source. specifier_rule known table source rest) one.is
          ∙ named_by known table it.text one.source rest parts.0 one_known.0
          ∙ ap (λ word. Some (tree.named word, rest)) (word_is Identifier it one.source one.is one.at),
      λ typed apart. ap (begins_specifier known typed) one.is ∙ begins typed apart parts.0 one_known.0,
    )
  where
    begins : (typed : Bool) → (typed && true) ≡ false → is_name it.text ≡ true → is_among known it.text ≡ true
        → (is_among specifier_words it.text || (not typed && is_type_name known it.text)) ≡ true
    begins true apart named among = absurd cc
    begins false apart named among = or_true (is_among specifier_words it.text) (is_type_name known it.text) (rw named among)

-- ---- structs and enumerations

-- a tag in front
tag_found : (tag : Word) (front rest : List SourceToken) → IsOf (identifier tag) front → tag_at (front ++ rest) ≡ (Some tag, rest)
tag_found tag front rest fits =
    let named = when_parts (is_name tag.text) (word Identifier tag) front fits in
    let one = one_token Identifier tag.text (Some tag.place) front named.1 in
    ap (λ its. tag_at (its ++ rest)) one.alone
    ∙ ap (λ (found : Read Word). going_on {B = Option Word × List SourceToken} found (λ name rest. (Some name, rest)) (None, one.source ∷ rest))
    (name_reads tag one.source rest one.is one.at named.0)

-- a tag, or none, in front of a `{`
tag_reads : (tag : Option Word) (front rest : List SourceToken) → IsOf (tag_form tag) front → is_mark_ahead (codes "{") rest ≡ true
    → tag_at (front ++ rest) ≡ (tag, rest)
tag_reads (Some tag) front rest fits brace = tag_found tag front rest fits
tag_reads None [] [] fits brace = refl
tag_reads None [] (source ∷ rest) fits brace =
    ap (λ (it : SourceToken). going_on {B = Option Word × List SourceToken} (name_at (it ∷ rest)) (λ name rest. (Some name, rest)) (None, source ∷ rest))
    (token_is Punctuator (codes "{") source brace)
tag_reads None (source ∷ front) rest fits brace = absurd fits.1

-- a word in front, and what follows it
struct_by_is : (known : Known) (table : Shorter) (source : SourceToken) (rest : List SourceToken) → source ≡ with_text Identifier (codes "struct") source
    → specifier_rule known table source rest ≡ struct_by table (place_of source) (tag_at rest).0 (tag_at rest).1
struct_by_is known table source rest is = ap (λ (it : SourceToken). specifier_rule known table it rest) is

-- the same of an enumeration
enum_by_is : (known : Known) (table : Shorter) (source : SourceToken) (rest : List SourceToken) → source ≡ with_text Identifier (codes "enum") source
    → specifier_rule known table source rest ≡ enum_by table (place_of source) (tag_at rest).0 (tag_at rest).1
enum_by_is known table source rest is = ap (λ (it : SourceToken). specifier_rule known table it rest) is

-- they begin a specifier
struct_begins : (known : Known) (typed : Bool) (source : SourceToken) → source ≡ with_text Identifier (codes "struct") source
    → begins_specifier known typed source ≡ true
unfolding specifier_words
struct_begins known typed source is = ap (begins_specifier known typed) is

-- so does an enumeration
enum_begins : (known : Known) (typed : Bool) (source : SourceToken) → source ≡ with_text Identifier (codes "enum") source
    → begins_specifier known typed source ≡ true
unfolding specifier_words
enum_begins known typed source is = ap (begins_specifier known typed) is

-- a tag alone
pub struct_tag_all : {known : Known} {table : Shorter} → Whole known table → (at : Place) (tag : Word) → ReadsSpecifier known table (tree.struct_tag at tag)
struct_tag_all {known = known} {table = table} whole at tag front rest fits ahead =
    let parts = headed Identifier (codes "struct") (Some at) (identifier tag) front fits in (
      parts.source,
      parts.others ++ rest,
      parts.whole rest,
      struct_by_is known table parts.source (parts.others ++ rest) parts.is
          ∙ ap (λ found. struct_by table (place_of parts.source) found.0 found.1) (tag_found tag parts.others rest parts.fits)
          ∙ rw ahead (ap (λ place. Some (tree.struct_tag place tag, rest)) parts.at),
      λ typed apart. struct_begins known typed parts.source parts.is,
    )

-- the tag of an enumeration alone
pub enum_tag_all : {known : Known} {table : Shorter} → Whole known table → (at : Place) (tag : Word) → ReadsSpecifier known table (tree.enum_tag at tag)
enum_tag_all {known = known} {table = table} whole at tag front rest fits ahead =
    let parts = headed Identifier (codes "enum") (Some at) (identifier tag) front fits in (
      parts.source,
      parts.others ++ rest,
      parts.whole rest,
      enum_by_is known table parts.source (parts.others ++ rest) parts.is
          ∙ ap (λ found. enum_by table (place_of parts.source) found.0 found.1) (tag_found tag parts.others rest parts.fits)
          ∙ rw ahead (ap (λ place. Some (tree.enum_tag place tag, rest)) parts.at),
      λ typed apart. enum_begins known typed parts.source parts.is,
    )

-- the members between braces
struct_inside : {known : Known} {table : Shorter} → Whole known table
    → (at : Place) (tag : Option Word) (its : Members) (opening close : SourceToken) (inside rest : List SourceToken)
    → opening ≡ with_text Punctuator (codes "{") opening → close ≡ with_text Punctuator (codes "}") close
    → members_rule known table [] (inside ++ (close ∷ rest)) ≡ Some (members_in its, close ∷ rest)
    → struct_by table at tag (opening ∷ (inside ++ (close ∷ rest))) ≡ Some (tree.struct_body at tag (place_of opening) its, rest)
struct_inside {known = known} {table = table} whole at tag its opening close inside rest opens closed reads =
    ap (λ (first : SourceToken). struct_by table at tag (first ∷ (inside ++ (close ∷ rest)))) opens
    ∙ closes (table (goal.members []) (inside ++ (close ∷ rest))) (members_in its) (codes "}") close rest
    (λ found. tree.struct_body at tag (place_of opening) (members_from found)) (whole.plain (goal.members []) (inside ++ (close ∷ rest)) ∙ reads) closed
    ∙ ap (λ found. Some (tree.struct_body at tag (place_of opening) found, rest)) (members_again its)

-- the tokens of a struct
struct_by_all : {known : Known} {table : Shorter} → Whole known table
    → (at brace : Place) (tag : Option Word) (its : Members) (source opening close : SourceToken)
    (tokens tagged' inside rest : List SourceToken) → source ≡ with_text Identifier (codes "struct") source → place_of source ≡ at
    → opening ≡ with_text Punctuator (codes "{") opening → place_of opening ≡ brace → close ≡ with_text Punctuator (codes "}") close
    → tokens ≡ tagged' ++ (opening ∷ (inside ++ (close ∷ rest))) → IsOf (tag_form tag) tagged'
    → members_rule known table [] (inside ++ (close ∷ rest)) ≡ Some (members_in its, close ∷ rest)
    → specifier_rule known table source tokens ≡ Some (tree.struct_body at tag brace its, rest)
struct_by_all {known = known} {table =
    table} whole at brace tag its source opening close tokens tagged' inside rest is place opens open_place closed same fits reads =
    struct_by_is known table source tokens is
    ∙ ap (λ tokens. struct_by table (place_of source) (tag_at tokens).0 (tag_at tokens).1) same
    ∙ ap (λ found. struct_by table (place_of source) found.0 found.1)
    (tag_reads tag tagged' (opening ∷ (inside ++ (close ∷ rest))) fits (ap (is_punctuator (codes "{")) opens))
    ∙ struct_inside whole (place_of source) tag its opening close inside rest opens closed reads
    ∙ (λ i. Some (tree.struct_body (place i) tag (open_place i) its, rest))

-- a struct with its members
pub struct_body_all : {known : Known} {table : Shorter} → Whole known table → (at : Place) (tag : Option Word) (brace : Place) (its : Members)
    → ReadsMembers known table its → ReadsSpecifier known table (tree.struct_body at tag brace its)
struct_body_all {known = known} {table = table} whole at tag brace its reads front rest fits ahead =
    let body : Form = mark_form brace (codes "{") ⨾ when (has_members its) (members_form known its) ⨾ mark (codes "}") in
    let parts = headed Identifier (codes "struct") (Some at) (tag_form tag ⨾ body) front fits in
    let braces = enclosed (tag_form tag) (codes "{") (codes "}") (Some brace) (when (has_members its) (members_form known its)) parts.others parts.fits in
    let has = when_parts (has_members its) (members_form known its) braces.inside braces.fits in (
      parts.source,
      parts.others ++ rest,
      parts.whole rest,
      struct_by_all whole at brace tag its parts.source braces.opening braces.close (parts.others ++ rest) braces.front braces.inside rest parts.is parts.at
          braces.opens braces.at braces.closed (braces.whole rest) braces.first
          (reads [] braces.inside (braces.close ∷ rest) has.0 has.1 (ap (is_punctuator (codes "}")) braces.closed)),
      λ typed apart. struct_begins known typed parts.source parts.is,
    )

-- the constants between braces
enum_inside : {known : Known} {table : Shorter} → Whole known table
    → (at : Place) (tag : Option Word) (its : Constants) (comma : Bool) (opening close : SourceToken)
    (inside rest : List SourceToken) → opening ≡ with_text Punctuator (codes "{") opening → close ≡ with_text Punctuator (codes "}") close
    → constants_rule table [] (inside ++ (close ∷ rest)) ≡ Some ((constants_in its, comma), close ∷ rest)
    → enum_by table at tag (opening ∷ (inside ++ (close ∷ rest))) ≡ Some (tree.enum_body at tag (place_of opening) its comma, rest)
enum_inside {known = known} {table = table} whole at tag its comma opening close inside rest opens closed reads =
    ap (λ (first : SourceToken). enum_by table at tag (first ∷ (inside ++ (close ∷ rest)))) opens
    ∙ closes {A = List OneConstant × Bool} (table (goal.constants []) (inside ++ (close ∷ rest))) (constants_in its, comma) (codes "}") close rest
    (λ found. tree.enum_body at tag (place_of opening) (constants_from found.0) found.1)
    (whole.plain (goal.constants []) (inside ++ (close ∷ rest)) ∙ reads) closed
    ∙ ap (λ found. Some (tree.enum_body at tag (place_of opening) found comma, rest)) (constants_again its)

-- the tokens of an enumeration
enum_by_all : {known : Known} {table : Shorter} → Whole known table → (at brace : Place) (tag : Option Word) (its : Constants) (comma : Bool)
    (source opening close : SourceToken) (tokens tagged' inside rest : List SourceToken) → source ≡ with_text Identifier (codes "enum") source
    → place_of source ≡ at
    → opening ≡ with_text Punctuator (codes "{") opening → place_of opening ≡ brace → close ≡ with_text Punctuator (codes "}") close
    → tokens ≡ tagged' ++ (opening ∷ (inside ++ (close ∷ rest))) → IsOf (tag_form tag) tagged'
    → constants_rule table [] (inside ++ (close ∷ rest)) ≡ Some ((constants_in its, comma), close ∷ rest)
    → specifier_rule known table source tokens ≡ Some (tree.enum_body at tag brace its comma, rest)
enum_by_all {known = known} {table =
    table} whole at brace tag its comma source opening close tokens tagged' inside rest is place opens open_place closed same fits reads =
    enum_by_is known table source tokens is
    ∙ ap (λ tokens. enum_by table (place_of source) (tag_at tokens).0 (tag_at tokens).1) same
    ∙ ap (λ found. enum_by table (place_of source) found.0 found.1)
    (tag_reads tag tagged' (opening ∷ (inside ++ (close ∷ rest))) fits (ap (is_punctuator (codes "{")) opens))
    ∙ enum_inside whole (place_of source) tag its comma opening close inside rest opens closed reads
    ∙ (λ i. Some (tree.enum_body (place i) tag (open_place i) its comma, rest))

-- an enumeration with its constants
pub enum_body_all : {known : Known} {table : Shorter} → Whole known table → (at : Place) (tag : Option Word) (brace : Place) (its : Constants) (comma : Bool)
    → ReadsConstants known table its → ReadsSpecifier known table (tree.enum_body at tag brace its comma)
enum_body_all {known = known} {table = table} whole at tag brace its comma reads front rest fits ahead =
    let constants : Form = when (has_constants its) (constants_form known its) in
    let body : Form = mark_form brace (codes "{") ⨾ constants ⨾ comma_form comma ⨾ mark (codes "}") in
    let parts = headed Identifier (codes "enum") (Some at) (tag_form tag ⨾ body) front fits in
    let regrouped = subst (λ (form : Form). IsOf (tag_form tag ⨾ mark_form brace (codes "{") ⨾ form) parts.others)
    (grouped constants (comma_form comma) (mark (codes "}"))) parts.fits in
    let braces = enclosed (tag_form tag) (codes "{") (codes "}") (Some brace) (constants ⨾ comma_form comma) parts.others regrouped in
    let has = first_when (has_constants its) (constants_form known its) (comma_form comma) braces.inside braces.fits in (
      parts.source,
      parts.others ++ rest,
      parts.whole rest,
      enum_by_all whole at brace tag its comma parts.source braces.opening braces.close (parts.others ++ rest) braces.front braces.inside rest parts.is parts.at
          braces.opens braces.at braces.closed (braces.whole rest) braces.first
          (reads [] comma braces.inside (braces.close ∷ rest) has.0 has.1 (ap (is_punctuator (codes "}")) braces.closed)),
      λ typed apart. enum_begins known typed parts.source parts.is,
    )

-- ---- lists of specifiers

-- none more
pub no_specifiers_all : {known : Known} {table : Shorter} → Whole known table → ReadsSpecification known table tree.no_specifiers
no_specifiers_all {known = known} {table = table} whole typed earlier (source ∷ front) rest fits ends ahead = absurd fits.1
no_specifiers_all {known = known} {table = table} whole typed earlier [] rest fits ends ahead =
    (stop rest (ap (λ it. is_ahead (begins_specifier known it) rest) (sym (or_false typed)) ∙ ends), λ has. absurd cc)
  where
    or_false : (it : Bool) → (it || false) ≡ it
    or_false true = refl
    or_false false = refl

    stop : (tokens : List SourceToken) → is_ahead (begins_specifier known typed) tokens ≡ false
        → specifiers_rule known table typed earlier tokens ≡ Some (earlier ++ [], tokens)
    stop [] is = ap (λ its. Some (its, [])) (sym (append-nil earlier))
    stop (source ∷ others) is = rw is (ap (λ its. Some (its, source ∷ others)) (sym (append-nil earlier)))

-- one after another
one_more : {known : Known} {table : Shorter} → Whole known table
    → (typed : Bool) (it : Specified) (earlier its : List Specified) (source : SourceToken) (others more rest : List SourceToken)
    → begins_specifier known typed source ≡ true → specifier_rule known table source others ≡ Some (it, more)
    → specifiers_rule known table (typed || is_type it) (earlier ++ it ∷ []) more ≡ Some ((earlier ++ it ∷ []) ++ its, rest)
    → specifiers_rule known table typed earlier (source ∷ others) ≡ Some (earlier ++ it ∷ its, rest)
one_more {known = known} {table = table} whole typed it earlier its source others more rest begins reads on =
    rw begins (ap (λ found. found >>= (λ x. table (goal.specifiers (typed || is_type x.0) (earlier ++ x.0 ∷ [])) x.1)) reads
    ∙ whole.plain (goal.specifiers (typed || is_type it) (earlier ++ it ∷ [])) more ∙ on
    ∙ ap (λ all. Some (all, rest)) (append_assoc earlier (it ∷ []) its))

-- specifiers after a first one: no `{` follows it
no_brace_behind : (known : Known) (typed : Bool) (its : Specification) (back rest : List SourceToken) → IsOf (specification_form known typed its) back
    → (has_specifiers its ≡ true → is_ahead (begins_specifier known typed) (back ++ rest) ≡ true) → is_mark_ahead (codes "{") rest ≡ false
    → is_mark_ahead (codes "{") (back ++ rest) ≡ false
no_brace_behind known typed tree.no_specifiers [] rest fits begins ahead = ahead
no_brace_behind known typed tree.no_specifiers (source ∷ back) rest fits begins ahead = absurd fits.1
no_brace_behind known typed (tree.more_specifiers next its) back rest fits begins ahead = specifier_no_mark known typed (codes "{") (back ++ rest) (begins refl)

-- the tokens of a first one and of the others
more_by : {known : Known} {table : Shorter} → Whole known table → (it : Specified) (its : Specification) (typed : Bool) (earlier : List Specified)
    (tokens front back rest : List SourceToken) → ReadsSpecifier known table it → tokens ≡ front ++ (back ++ rest) → IsOf (specifier_form known it) front
    → (typed && is_named_type it) ≡ false → is_mark_ahead (codes "{") (back ++ rest) ≡ false
    → specifiers_rule known table (typed || is_type it) (earlier ++ it ∷ []) (back ++ rest) ≡ Some ((earlier ++ it ∷ []) ++ specifiers_in its, rest)
    → (specifiers_rule known table typed earlier tokens ≡ Some (earlier ++ it ∷ specifiers_in its, rest))
    × (is_ahead (begins_specifier known typed) tokens ≡ true)
more_by {known = known} {table = table} whole it its typed earlier tokens front back rest reads same fits allowed ahead on =
    let one = reads front (back ++ rest) fits ahead in
    let begins = one.4 typed allowed in (
      ap (specifiers_rule known table typed earlier) (same ∙ one.2)
          ∙ one_more whole typed it earlier (specifiers_in its) one.0 one.1 (back ++ rest) rest begins one.3 on,
      ap (is_ahead (begins_specifier known typed)) (same ∙ one.2) ∙ begins,
    )

-- one more in front
pub more_specifiers_all : {known : Known} {table : Shorter} → Whole known table → (it : Specified) (rest : Specification) → ReadsSpecifier known table it
    → ReadsSpecification known table rest → ReadsSpecification known table (tree.more_specifiers it rest)
more_specifiers_all {known = known} {table = table} whole it its reads others typed earlier front rest fits ends ahead =
    let parts = behind (when (not (typed && is_named_type it)) (specifier_form known it)) (specification_form known (typed || is_type it) its) front fits in
    let allowed = when_parts (not (typed && is_named_type it)) (specifier_form known it) parts.front parts.first in
    let on = others (typed || is_type it) (earlier ++ it ∷ []) parts.back rest parts.second
    (ap (λ test. is_ahead (begins_specifier known test) rest) (sym (or_again typed (is_type it) (is_typed its))) ∙ ends) ahead in
    let read = more_by whole it its typed earlier (front ++ rest) parts.front parts.back rest reads (parts.whole rest) allowed.1
    (not_true (typed && is_named_type it) allowed.0) (no_brace_behind known (typed || is_type it) its parts.back rest parts.second on.1 ahead) on.0 in
    (read.0, λ has. read.1)
