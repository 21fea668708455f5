-- The rules of specifiers give what is in the grammar, over a table that does.
--     specifier_found, specifiers_found      one specifier, and more after earlier ones
--     some_found                             at least one
--     SomeSpecified, followed                specifiers, and what follows them
use Rattle.std.proofs.Common.{◌≡◌, Bool, true, false, List, [], ◌∷◌, ◌++◌, Option, Some, None, refl, sym, ap, subst, ◌∙◌, append_assoc}
use Rattle.std.specs.Prelude.{codes, not, ◌&&◌, ◌||◌}
use Rattle.std.proofs.lemmas.Bool.{and_parts, both_ways}
use Rattle.std.proofs.lemmas.List.{append-nil}
use Rattle.std.proofs.Math.Bool.{or_assoc}
use Rattle.hs_tokens.specs.KindLaws.{kind_is}
use Rattle.hs_tokens.specs.Marks.{is_same_kind}
use Rattle.hs_tokens.specs.declared.token.SourceToken.{SourceToken}
use Rattle.hs_tokens.specs.declared.token.TokenKind.TheVariants.{Identifier}
use Rattle.hs_syntax.specs.Forms.{Form, ◌⨾◌, when, mark}
use Rattle.hs_syntax.specs.Grammar.{specification_form, specifier_form, members_form, constants_form}
use Rattle.hs_syntax.specs.Names.{is_among, is_name, is_type_name}
use Rattle.hs_syntax.specs.Operators.{storage_text, dropped_text, basic_text}
use Rattle.hs_syntax.specs.Parts.{tag_form, comma_form}
use Rattle.hs_syntax.specs.Phrases.{specifier_words, is_type, is_typed, is_named_type, ends_before, has_specifiers, has_members, has_constants}
use Rattle.hs_syntax.specs.RowViews.{OneMember, one_member, OneConstant, plain_one, valued_one, specification_from, members_from, constants_from}
use Rattle.hs_syntax.specs.Trees as tree
use Rattle.hs_syntax.specs.Trees.{Specified, Specification}
use Rattle.hs_syntax.specs.declared.operators.Basic.{Basic}
use Rattle.hs_syntax.specs.declared.operators.Basic.TheVariants as basic
use Rattle.hs_syntax.specs.declared.operators.Dropped.{Dropped}
use Rattle.hs_syntax.specs.declared.operators.Dropped.TheVariants as dropped
use Rattle.hs_syntax.specs.declared.operators.Storage.{Storage}
use Rattle.hs_syntax.specs.declared.operators.Storage.TheVariants as storage
use Rattle.hs_syntax.specs.declared.word.Word.{Word}
use Rattle.hs_expr_parser.specs.Ahead.{place_of, word_of, is_keyword, storage_of, dropped_of, basic_of, is_ahead, is_mark_ahead, begins_specifier}
use Rattle.hs_expr_parser.specs.Reading.{Known, Shorter, tag_at, tagged, struct_by, enum_by, specifier_by, specifier_rule, specifiers_rule, some_specifiers_rule}
use Rattle.hs_expr_parser.specs.Found.{IsFound}
use Rattle.hs_expr_parser.specs.Laws.Yields.{Yields, none_gives, some_gives, then_gives, if_gives, so_gives}
use Rattle.hs_expr_parser.specs.Laws.Spelled.{Begins, form_again, nothing_begins, nothing_ends, then_begins, when_begins, place_begins}
use Rattle.hs_expr_parser.specs.Laws.Firsts.{token_is, token_of, mark_gives, tag_begins}
use Rattle.hs_expr_parser.specs.Laws.Ends.{ends_there, named_free}
use Rattle.hs_expr_parser.specs.Laws.Tables.{Specifies, members_gives, constants_gives, specifiers_gives}

-- at least one specifier, and no other follows
pub record SomeSpecified (known : Known) (its : List Specified) (tokens rest : List SourceToken) : Type 0 where
  pub has : has_specifiers (specification_from its) ≡ true
  pub begins : Begins (specification_form known false (specification_from its)) tokens rest
  pub ends : is_ahead (begins_specifier known (is_typed (specification_from its))) rest ≡ false

-- specifiers and what follows them
pub followed : (known : Known) (its : List Specified) (form : Form) (tokens middle rest : List SourceToken) → SomeSpecified known its tokens middle
    → Begins form middle rest
    → Begins (specification_form known false (specification_from its) ⨾ ends_before known (specification_from its) form) tokens rest
followed known its form tokens middle rest specified begins =
    then_begins specified.begins
    (when_begins (ends_there known (is_typed (specification_from its)) form middle rest begins specified.ends) begins)

-- a specifier where its like may stand
abbrev in_list : Known → Bool → Specified → Form
in_list known typed it = when (not (typed && is_named_type it)) (specifier_form known it)

-- it may if it is no typedef name
unnamed : (known : Known) (typed : Bool) (it : Specified) {tokens rest : List SourceToken} → is_named_type it ≡ false
    → Begins (specifier_form known it) tokens rest → Begins (in_list known typed it) tokens rest
unnamed known typed it other begins = when_begins (by_tests typed (is_named_type it) other) begins
  where
    by_tests : (one other : Bool) → other ≡ false → not (one && other) ≡ true
    by_tests true other is = ap not is
    by_tests false other is = refl

-- members that are some
members_some : (first : OneMember) (others : List OneMember) → has_members (members_from (first ∷ others)) ≡ true
members_some (one_member specification its) others = refl

-- enumeration constants that are some
pub constants_some : (first : OneConstant) (others : List OneConstant) → has_constants (constants_from (first ∷ others)) ≡ true
constants_some (plain_one name) others = refl
constants_some (valued_one name e) others = refl

-- a test and none
or_nothing : (one : Bool) → (one || false) ≡ one
or_nothing true = refl
or_nothing false = refl

module _ (known : Known) (table : Shorter) (found : IsFound known table) where
  -- a struct
  struct_found : (typed : Bool) (source : SourceToken) (rest : List SourceToken) (tag : Option Word) (others : List SourceToken)
      → is_keyword (codes "struct") source ≡ true → Begins (tag_form tag) rest others
      → Yields (λ it after. Begins (in_list known typed it) (source ∷ rest) after) (struct_by table (place_of source) tag others)
  struct_found typed source rest tag others is begins =
      let so = token_is Identifier (codes "struct") source is in
      if_gives (is_mark_ahead (codes "{") others) _ _
      (λ braced. then_gives _ _ (mark_gives (codes "{") others) (λ brace middle opening.
      then_gives _ _ (members_gives known table found [] middle) (λ its behind inside.
      then_gives _ _ (mark_gives (codes "}") behind) (λ close after closing.
      let body : Begins (when (has_members (members_from its)) (members_form known (members_from its))) middle behind =
      subst (λ (all : List OneMember). Begins (when (has_members (members_from all)) (members_form known (members_from all))) middle behind)
      (sym inside.whole) (when_begins (members_some inside.first inside.others) inside.begins) in
      some_gives (tree.struct_body (place_of source) tag brace (members_from its)) after
      (unnamed known typed (tree.struct_body (place_of source) tag brace (members_from its)) refl
      (then_begins (place_begins source rest so.0 so.1) (then_begins begins (then_begins opening.placed (then_begins body closing.plain)))))))))
      (λ bare. alone tag begins)
    where
      alone : (tag : Option Word) → Begins (tag_form tag) rest others
          → Yields (λ (it : Specified) after. Begins (in_list known typed it) (source ∷ rest) after) (tagged (tree.struct_tag (place_of source)) tag others)
      alone None begins = none_gives
      alone (Some tag) begins =
          let so = token_is Identifier (codes "struct") source is in
          some_gives (tree.struct_tag (place_of source) tag) others
          (unnamed known typed (tree.struct_tag (place_of source) tag) refl (then_begins (place_begins source rest so.0 so.1) begins))

  -- an enumeration
  enum_found : (typed : Bool) (source : SourceToken) (rest : List SourceToken) (tag : Option Word) (others : List SourceToken)
      → is_keyword (codes "enum") source ≡ true → Begins (tag_form tag) rest others
      → Yields (λ it after. Begins (in_list known typed it) (source ∷ rest) after) (enum_by table (place_of source) tag others)
  enum_found typed source rest tag others is begins =
      let so = token_is Identifier (codes "enum") source is in
      if_gives (is_mark_ahead (codes "{") others) _ _
      (λ braced. then_gives _ _ (mark_gives (codes "{") others) (λ brace middle opening.
      then_gives _ _ (constants_gives known table found [] middle) (λ its behind inside.
      then_gives _ _ (mark_gives (codes "}") behind) (λ close after closing.
      let all : Form = when (has_constants (constants_from its.0)) (constants_form known (constants_from its.0)) in
      let body : Begins (all ⨾ comma_form its.1) middle behind = subst (λ (all : List OneConstant).
      Begins (when (has_constants (constants_from all)) (constants_form known (constants_from all)) ⨾ comma_form its.1) middle behind)
      (sym inside.whole) (subst (λ (has : Bool). Begins
      (when has (constants_form known (constants_from (inside.first ∷ inside.others))) ⨾ comma_form its.1) middle behind)
      (sym (constants_some inside.first inside.others)) inside.begins) in
      let ended : Begins (all ⨾ (comma_form its.1 ⨾ mark (codes "}"))) middle after =
      subst (λ (it : Form). Begins it middle after) (form_again all (comma_form its.1) (mark (codes "}"))) (then_begins body closing.plain) in
      some_gives (tree.enum_body (place_of source) tag brace (constants_from its.0) its.1) after
      (unnamed known typed (tree.enum_body (place_of source) tag brace (constants_from its.0) its.1) refl
      (then_begins (place_begins source rest so.0 so.1) (then_begins begins (then_begins opening.placed ended))))))))
      (λ bare. alone tag begins)
    where
      alone : (tag : Option Word) → Begins (tag_form tag) rest others
          → Yields (λ (it : Specified) after. Begins (in_list known typed it) (source ∷ rest) after) (tagged (tree.enum_tag (place_of source)) tag others)
      alone None begins = none_gives
      alone (Some tag) begins =
          let so = token_is Identifier (codes "enum") source is in
          some_gives (tree.enum_tag (place_of source) tag) others
          (unnamed known typed (tree.enum_tag (place_of source) tag) refl (then_begins (place_begins source rest so.0 so.1) begins))

  -- a specifier
  specifier_found : (typed : Bool) (source : SourceToken) (rest : List SourceToken) → begins_specifier known typed source ≡ true
      → Yields (λ it after. Begins (in_list known typed it) (source ∷ rest) after) (specifier_rule known table source rest)
  specifier_found typed source rest begins = by_first (storage_of source) (dropped_of source) (basic_of source) refl refl refl
    where
      -- a typedef name
      named : storage_of source ≡ None → dropped_of source ≡ None → basic_of source ≡ None → is_keyword (codes "struct") source ≡ false
          → is_keyword (codes "enum") source ≡ false → is_type_name known source.token.text ≡ true
          → Begins (in_list known typed (tree.named (word_of source))) (source ∷ rest) rest
      named a b c d e is =
          let kind = kind_is source.token.kind Identifier
          (and_parts (is_same_kind source.token.kind Identifier)
          (is_among specifier_words source.token.text || (not typed && is_type_name known source.token.text)) begins).0 in
          let tests = and_parts (is_name source.token.text) (is_among known source.token.text) is in
          when_begins (by_typed typed begins) (when_begins tests.1 (when_begins tests.0 (place_begins source rest kind refl)))
        where
          by_typed : (typed : Bool) → begins_specifier known typed source ≡ true → not (typed && true) ≡ true
          by_typed true begins = absurd (named_free known source begins a b c d e)
          by_typed false begins = refl

      by_first : (stored : Option Storage) (ignored : Option Dropped) (simple : Option Basic) → storage_of source ≡ stored → dropped_of source ≡ ignored
          → basic_of source ≡ simple
          → Yields (λ (it : Specified) after. Begins (in_list known typed it) (source ∷ rest) after)
          (specifier_by known table stored ignored simple source rest)
      by_first (Some it) ignored simple a b c =
          let so = token_of Identifier storage_text (storage.Typedef ∷ storage.Extern ∷ storage.Static ∷ []) source it a in
          some_gives (tree.storage it (place_of source)) rest
          (unnamed known typed (tree.storage it (place_of source)) refl (place_begins source rest so.0 so.1))
      by_first None (Some it) simple a b c =
          let so = token_of Identifier dropped_text
          (dropped.Auto ∷ dropped.Register ∷ dropped.Const ∷ dropped.Volatile ∷ dropped.Pascal ∷ []) source it b in
          some_gives (tree.dropped it (place_of source)) rest
          (unnamed known typed (tree.dropped it (place_of source)) refl (place_begins source rest so.0 so.1))
      by_first None None (Some it) a b c =
          let so = token_of Identifier basic_text
          (basic.Void ∷ basic.Char ∷ basic.Short ∷ basic.Int ∷ basic.Long ∷ basic.Signed ∷ basic.Unsigned ∷ []) source it c in
          some_gives (tree.basic it (place_of source)) rest
          (unnamed known typed (tree.basic it (place_of source)) refl (place_begins source rest so.0 so.1))
      by_first None None None a b c =
          if_gives (is_keyword (codes "struct") source) _ _
          (λ d. struct_found typed source rest (tag_at rest).0 (tag_at rest).1 d (tag_begins rest))
          (λ d. if_gives (is_keyword (codes "enum") source) _ _
          (λ e. enum_found typed source rest (tag_at rest).0 (tag_at rest).1 e (tag_begins rest))
          (λ e. if_gives (is_type_name known source.token.text) _ _
          (λ is. some_gives (tree.named (word_of source)) rest (named a b c d e is)) (λ is. none_gives)))

  -- more specifiers
  pub specifiers_found : (typed : Bool) (earlier : List Specified) (tokens : List SourceToken)
      → Yields (λ all rest. Specifies known typed earlier all tokens rest) (specifiers_rule known table typed earlier tokens)
  specifiers_found typed earlier [] =
      some_gives earlier [] (record { its = []; whole = sym (append-nil earlier); begins = nothing_begins []; ends = refl })
  specifiers_found typed earlier (source ∷ rest) =
      if_gives (begins_specifier known typed source) _ _
      (λ is. then_gives _ _ (specifier_found typed source rest is) (λ it middle first.
      so_gives _ (specifiers_gives known table found (typed || is_type it) (earlier ++ it ∷ []) middle) (λ all after others. record {
        its = it ∷ others.its;
        whole = others.whole ∙ append_assoc earlier (it ∷ []) others.its;
        begins = then_begins first others.begins;
        ends = subst (λ (typed : Bool). is_ahead (begins_specifier known typed) after ≡ false)
            (or_assoc typed (is_type it) (is_typed (specification_from others.its))) others.ends;
      })))
      (λ is. some_gives earlier (source ∷ rest) (record {
        its = [];
        whole = sym (append-nil earlier);
        begins = nothing_begins (source ∷ rest);
        ends = subst (λ (typed : Bool). begins_specifier known typed source ≡ false) (sym (or_nothing typed)) is;
      }))

  -- at least one specifier
  pub some_found : (tokens : List SourceToken) → Yields (λ its rest. SomeSpecified known its tokens rest) (some_specifiers_rule known table tokens)
  some_found tokens =
      if_gives (is_ahead (begins_specifier known false) tokens) _ _
      (λ is. so_gives _ (specifiers_found false [] tokens) (λ all rest them.
      subst (λ (its : List Specified). SomeSpecified known its tokens rest) (sym them.whole) (some_of is them.its them.begins them.ends)))
      (λ is. none_gives)
    where
      some_of : {rest : List SourceToken} → is_ahead (begins_specifier known false) tokens ≡ true → (its : List Specified)
          → Begins (specification_form known false (specification_from its)) tokens rest
          → is_ahead (begins_specifier known (is_typed (specification_from its))) rest ≡ false → SomeSpecified known its tokens rest
      some_of {rest = rest} is [] begins ends =
          absurd (both_ways (is_ahead (begins_specifier known false) tokens)
          (ap (is_ahead (begins_specifier known false)) (nothing_ends tokens rest begins) ∙ ends) is)
      some_of is (it ∷ its) begins ends = record { has = refl; begins = begins; ends = ends }
