-- The rules of declarators give what is in the grammar, over a table that does.
--     declarator_found, declarators_found       a declarator, and more after earlier ones
--     directs_found                             the rest of a declarator
--     type_name_found, parameters_found         type names and parameters
--     members_found, constants_found            members and enumeration constants
use Rattle.std.proofs.Common.{◌≡◌, suc, arith, Bool, true, false, List, [], ◌∷◌, ◌++◌, Option, Some, None, refl, sym, ap, subst, ◌∙◌, append_assoc, inl, inr}
use Rattle.std.specs.Prelude.{codes, length, option_map, not, ◌&&◌, ◌==◌}
use Rattle.std.proofs.lemmas.Bool.{and_parts, and_from, cases_Bool}
use Rattle.std.proofs.lemmas.Bool.Decides.{nat_tests}
use Rattle.std.proofs.lemmas.List.{append-nil}
use Rattle.std.specs.Str.{bytes_eq}
use Rattle.hs_base.specs.Options.{◌>>=◌}
use Rattle.hs_tokens.specs.Marks.{is_same_kind}
use Rattle.hs_tokens.specs.declared.token.SourceToken.{SourceToken}
use Rattle.hs_tokens.specs.declared.token.TokenKind.TheVariants.{Identifier, Punctuator}
use Rattle.hs_syntax.specs.Forms.{Form, ◌⨾◌, when, mark, keyword_at, IsOf, Spells}
use Rattle.hs_syntax.specs.Grammar.{expression_form, type_form, specification_form, members_form, constants_form, declarator_form, declarators_form, direct_form, parameters_form}
use Rattle.hs_syntax.specs.Parts.{identifier, comma_form, behind_comma}
use Rattle.hs_syntax.specs.Phrases.{as_conditional, is_named, names, is_nothing, is_empty, is_void, is_void_alone, ends_before, has_specifiers, has_declarators, has_constants}
use Rattle.hs_syntax.specs.RowViews.{OneMember, one_member, OneConstant, plain_one, valued_one, OneParameter, one_parameter, specification_from, members_from, constants_from, declarators_from, parameters_from}
use Rattle.hs_syntax.specs.Trees as tree
use Rattle.hs_syntax.specs.Trees.{Expression, NamedType, Specified, Specification, Declared, Declarators, Directly, Parameters}
use Rattle.hs_syntax.specs.declared.operators.Basic.TheVariants.{Void}
use Rattle.hs_tokens.specs.declared.place.Place.{Place}
use Rattle.hs_syntax.specs.declared.word.Word.{Word}
use Rattle.hs_expr_parser.specs.Ahead.{place_of, is_punctuator, is_keyword, is_mark_ahead, mark_at, place_if, name_of, name_at}
use Rattle.hs_expr_parser.specs.Reading.{Known, Shorter, pointers_at, begins_list, inside_rule, nothing_there, base_by, base_rule, length_rule, void_alone, list_rule, directs_rule, declarator_rule, declarators_rule, parameter_rule, parameters_rule, type_rule, member_rule_of, members_rule, constant_rule, constants_rule}
use Rattle.hs_expr_parser.specs.Found.{IsFound}
use Rattle.hs_expr_parser.specs.Laws.Yields.{Yields, none_gives, some_gives, then_gives, so_then_gives, going_gives, if_gives, so_gives}
use Rattle.hs_expr_parser.specs.Laws.Spelled.{Begins, Goes, is_behind, form_again, nothing_begins, then_begins, when_begins, token_begins, place_begins, goes_begins}
use Rattle.hs_expr_parser.specs.Laws.Firsts.{token_is, mark_gives, name_gives, pointers_begin}
use Rattle.hs_expr_parser.specs.Laws.Ends.{no_list}
use Rattle.hs_expr_parser.specs.Laws.Tables.{Grows, one_grows, more_grows, Declares, Directs, conditional_gives, members_gives, constants_gives, declarator_gives, declarators_gives, directs_gives, parameters_gives}
use Rattle.hs_expr_parser.specs.Laws.SpecifiersFound.{followed, constants_some, some_found}

-- ---- the rest of a declarator

-- nothing more
directs_stay : (known : Known) (base : Directly) (tokens : List SourceToken) → Directs known base base tokens tokens
directs_stay known base tokens = record {
  same = refl;
  front = [];
  whole = refl;
  is = λ inner before is. subst (λ (all : List SourceToken). IsOf (direct_form known inner base) all) (sym (append-nil before)) is;
}

-- more after more
directs_then : (known : Known) (base middle direct : Directly) (tokens between rest : List SourceToken) → Directs known base middle tokens between
    → Directs known middle direct between rest → Directs known base direct tokens rest
directs_then known base middle direct tokens between rest first second = record {
  same = second.same ∙ first.same;
  front = first.front ++ second.front;
  whole = first.whole ∙ ap (λ (behind : List SourceToken). first.front ++ behind) second.whole ∙ sym (append_assoc first.front second.front rest);
  is = λ inner before is. subst (λ (all : List SourceToken). IsOf (direct_form known inner direct) all) (append_assoc before first.front second.front)
      (second.is inner (before ++ first.front) (first.is inner before is));
}

-- what follows the base
directs_more : (known : Known) (base direct : Directly) (tail : Form) (tokens rest : List SourceToken) → names direct ≡ names base
    → ((inner : Bool) → direct_form known inner direct ≡ (direct_form known inner base ⨾ tail)) → Begins tail tokens rest
    → Directs known base direct tokens rest
directs_more known base direct tail tokens rest same forms begins = record {
  same = same;
  front = begins.front;
  whole = begins.whole;
  is = λ inner before is. subst (λ (it : Form). IsOf it (before ++ begins.front)) (sym (forms inner))
      (is_behind (direct_form known inner base) tail before begins.front is begins.is);
}

-- so a declarator goes on with it
directs_go : (known : Known) (inner : Bool) (base direct : Directly) (tokens rest : List SourceToken) → Directs known base direct tokens rest
    → Goes (direct_form known inner base) (direct_form known inner direct) tokens rest
directs_go known inner base direct tokens rest it = record { front = it.front; whole = it.whole; is = it.is inner }

-- ---- `void` alone

-- a specifier that is `void`
void_of : (it : Specified) → is_void it ≡ true → (at : Place) × (it ≡ tree.basic Void at)
void_of (tree.basic Void at) is = (at, refl)
void_of _ is = absurd cc

-- a declarator that is empty
empty_of : (it : Declared) → is_empty it ≡ true → it ≡ tree.pointing [] tree.nothing
empty_of (tree.pointing [] tree.nothing) is = refl
empty_of (tree.pointing [] _) is = absurd cc
empty_of (tree.pointing (first ∷ pointers) direct) is =
    let tests = and_parts (length (first ∷ pointers) == 0) (is_nothing direct) is in
    let none : (suc (length pointers) == 0) ≡ true = tests.0 in
    absurd (grind (arith, nat_tests))

-- `void` before a `)` is read
void_reads : (at : Place) (front middle after : List SourceToken) (close : Place) → Spells (keyword_at at (codes "void")).pieces front
    → mark_at (codes ")") middle ≡ Some (close, after) → void_alone (front ++ middle) ≡ None → ⊥
void_reads at [] middle after close spells closes none = absurd spells
void_reads at (source ∷ next ∷ front) middle after close spells closes none = absurd spells.3
void_reads at (source ∷ []) middle after close spells closes none =
    let word : is_keyword (codes "void") source ≡ true = λ i. is_same_kind (spells.0 i) Identifier && bytes_eq (spells.1 i) (codes "void") in
    let read : void_alone (source ∷ middle) ≡ Some (place_of source, after) = rw (word, closes) refl in
    absurd cc

-- parameters that are `void` alone are read so
void_clash : (known : Known) (its : Parameters) (tokens middle after : List SourceToken) (close : Place) → is_void_alone its ≡ true
    → Begins (parameters_form known its) tokens middle → mark_at (codes ")") middle ≡ Some (close, after) → void_alone tokens ≡ None → ⊥
void_clash known tree.no_parameters tokens middle after close is begins closes none = absurd cc
void_clash known (tree.more_parameters tree.no_specifiers declared others) tokens middle after close is begins closes none = absurd cc
void_clash known (tree.more_parameters (tree.more_specifiers it
    (tree.more_specifiers other further)) declared others) tokens middle after close is begins closes none =
    absurd cc
void_clash known (tree.more_parameters (tree.more_specifiers it tree.no_specifiers) declared
    (tree.more_parameters other further others)) tokens middle after close is
    begins closes none = absurd cc
void_clash known
    (tree.more_parameters (tree.more_specifiers it tree.no_specifiers) declared tree.no_parameters) tokens middle after close is begins closes none =
    let tests = and_parts (is_void it) (is_empty declared) is in
    let word = void_of it tests.0 in
    let empty = empty_of declared tests.1 in
    let alone : Begins (parameters_form known
    (tree.more_parameters (tree.more_specifiers (tree.basic Void word.0) tree.no_specifiers)
    (tree.pointing [] tree.nothing) tree.no_parameters)) tokens middle =
    subst (λ (it : Specified). Begins (parameters_form known
    (tree.more_parameters (tree.more_specifiers it tree.no_specifiers) (tree.pointing [] tree.nothing) tree.no_parameters)) tokens middle) word.1
    (subst (λ (declared : Declared). Begins (parameters_form known
    (tree.more_parameters (tree.more_specifiers it tree.no_specifiers) declared tree.no_parameters)) tokens middle) empty begins) in
    void_reads word.0 alone.front middle after close alone.is.1 closes (ap void_alone (sym alone.whole) ∙ none)

-- ---- entries of lists

-- a parameter
abbrev parameter_form : Known → OneParameter → Form
parameter_form known (one_parameter specification declared) =
    when (has_specifiers specification)
    (specification_form known false specification ⨾ ends_before known specification (declarator_form known true declared))

-- the last parameter
last_parameter : (known : Known) (it : OneParameter) (tokens rest : List SourceToken) → Begins (parameter_form known it) tokens rest
    → Begins (parameters_form known (parameters_from (it ∷ []))) tokens rest
last_parameter known (one_parameter specification declared) tokens rest begins = then_begins begins (nothing_begins rest)

-- a parameter before others
next_parameter : (known : Known) (it first : OneParameter) (others : List OneParameter) (tokens middle between rest : List SourceToken)
    → Begins (parameter_form known it) tokens middle → Begins (mark (codes ",")) middle between
    → Begins (parameters_form known (parameters_from (first ∷ others))) between rest
    → Begins (parameters_form known (parameters_from (it ∷ first ∷ others))) tokens rest
next_parameter known (one_parameter specification declared) (one_parameter other further) others tokens middle between rest begins comma behind =
    then_begins begins (then_begins comma behind)

-- members that are declared together
abbrev member_form : Known → OneMember → Form
member_form known (one_member specification its) =
    when (has_specifiers specification && has_declarators its)
    (specification_form known false specification ⨾ ends_before known specification (declarators_form known its ⨾ mark (codes ";")))

-- they stand before others, or before none
next_member : (known : Known) (it : OneMember) (others : List OneMember) (tokens middle rest : List SourceToken)
    → Begins (member_form known it) tokens middle → Begins (members_form known (members_from others)) middle rest
    → Begins (members_form known (members_from (it ∷ others))) tokens rest
next_member known (one_member specification its) others tokens middle rest begins behind = then_begins begins behind

-- an enumeration constant
abbrev constant_form : Known → OneConstant → Form
constant_form known (plain_one name) = identifier name
constant_form known (valued_one name e) = identifier name ⨾ mark (codes "=") ⨾ as_conditional e (expression_form known e)

-- it stands before others, or before none
constants_head : (known : Known) (it : OneConstant) (others : List OneConstant) → constants_form known (constants_from (it ∷ others))
    ≡ (constant_form known it ⨾ behind_comma (has_constants (constants_from others)) (constants_form known (constants_from others)))
constants_head known (plain_one name) others = refl
constants_head known (valued_one name e) others =
    sym (form_again (identifier name) (mark (codes "=") ⨾ as_conditional e (expression_form known e))
    (behind_comma (has_constants (constants_from others)) (constants_form known (constants_from others))))

-- the last one, with a comma after it or not
last_constant : (known : Known) (it : OneConstant) (comma : Bool) (tokens middle rest : List SourceToken) → Begins (constant_form known it) tokens middle
    → Begins (comma_form comma) middle rest → Begins (constants_form known (constants_from (it ∷ [])) ⨾ comma_form comma) tokens rest
last_constant known it comma tokens middle rest begins behind =
    subst (λ (all : Form). Begins (all ⨾ comma_form comma) tokens rest) (sym (constants_head known it []))
    (then_begins (then_begins begins (nothing_begins middle)) behind)

-- one before others
next_constant : (known : Known) (it first : OneConstant) (others : List OneConstant) (comma : Bool) (tokens middle between rest : List SourceToken)
    → Begins (constant_form known it) tokens middle → Begins (mark (codes ",")) middle between
    → Begins (constants_form known (constants_from (first ∷ others)) ⨾ comma_form comma) between rest
    → Begins (constants_form known (constants_from (it ∷ first ∷ others)) ⨾ comma_form comma) tokens rest
next_constant known it first others comma tokens middle between rest begins separated behind =
    let own : Form = constant_form known it in
    let further : Form = constants_form known (constants_from (first ∷ others)) in
    let split : constants_form known (constants_from (it ∷ first ∷ others)) ≡ (own ⨾ (mark (codes ",") ⨾ further)) =
    constants_head known it (first ∷ others) ∙ ap (λ (has : Bool). own ⨾ behind_comma has further) (constants_some first others) in
    let whole : Begins ((own ⨾ (mark (codes ",") ⨾ further)) ⨾ comma_form comma) tokens rest =
    subst (λ (all : Form). Begins all tokens rest) (sym (form_again own (mark (codes ",") ⨾ further) (comma_form comma)))
    (then_begins begins (then_begins separated behind)) in
    subst (λ (all : Form). Begins (all ⨾ comma_form comma) tokens rest) (sym split) whole

-- what stands in front of the rest of a declarator
record Based (known : Known) (inner : Bool) (base : Directly) (tokens rest : List SourceToken) : Type 0 where
  begins : Begins (direct_form known inner base) tokens rest
  named : inner ≡ false → names base ≡ true

module _ (known : Known) (table : Shorter) (found : IsFound known table) where
  -- a declarator in parentheses
  inside_found : (inner : Bool) (source : SourceToken) (rest : List SourceToken)
      → (is_punctuator (codes "(") source && not (inner && begins_list known rest)) ≡ true
      → Yields (λ base after. Based known inner base (source ∷ rest) after) (inside_rule table inner rest)
  inside_found inner source rest is =
      let tests = and_parts (is_punctuator (codes "(") source) (not (inner && begins_list known rest)) is in
      let so = token_is Punctuator (codes "(") source tests.0 in
      then_gives _ _ (declarator_gives known table found inner rest) (λ it middle declared.
      then_gives _ _ (mark_gives (codes ")") middle) (λ close after closing.
      if_gives (is_empty it) _ _ (λ empty. none_gives)
      (λ full. some_gives (tree.parens_of it) after (record {
        begins = then_begins (token_begins source rest so.0 so.1) (then_begins (when_begins (ap not full)
            (when_begins (no_list known inner (declarator_form known inner it) rest middle tests.1 declared.begins) declared.begins)) closing.plain);
        named = declared.named;
      }))))

  -- nothing
  nothing_found : (inner : Bool) (tokens : List SourceToken) → Yields (λ base rest. Based known inner base tokens rest) (nothing_there inner tokens)
  nothing_found true tokens = some_gives tree.nothing tokens (record { begins = nothing_begins tokens; named = λ is. absurd cc })
  nothing_found false tokens = none_gives

  -- what the rest of a declarator follows
  base_found : (inner : Bool) (tokens : List SourceToken) → Yields (λ base rest. Based known inner base tokens rest) (base_rule known table inner tokens)
  base_found inner [] = nothing_found inner []
  base_found inner (source ∷ rest) = by_first (name_of source) refl
    where
      by_first : (naming : Option Word) → name_of source ≡ naming
          → Yields (λ (base : Directly) after. Based known inner base (source ∷ rest) after) (base_by known table inner naming source rest)
      by_first (Some name) is =
          let read : name_at (source ∷ rest) ≡ Some (name, rest) = ap (option_map (λ (it : Word). (it, rest))) is in
          some_gives (tree.identifier name) rest (record { begins = (name_gives (source ∷ rest)).holds name rest read; named = λ outer. refl })
      by_first None is = if_gives (is_punctuator (codes "(") source && not (inner && begins_list known rest)) _ _
          (λ opens. inside_found inner source rest opens) (λ other. nothing_found inner (source ∷ rest))

  -- after a `[`
  length_found : (base : Directly) (source : SourceToken) (rest : List SourceToken) → is_punctuator (codes "[") source ≡ true
      → Yields (λ direct after. Directs known base direct (source ∷ rest) after) (length_rule table base rest)
  length_found base source rest is =
      let so = token_is Punctuator (codes "[") source is in
      going_gives _ _ _ (mark_gives (codes "]") rest)
      (λ at after read closing. some_gives (tree.array base) after
      (directs_more known base (tree.array base) (mark (codes "[") ⨾ mark (codes "]")) (source ∷ rest) after refl (λ inner. refl)
      (then_begins (token_begins source rest so.0 so.1) closing.plain)))
      (λ none. then_gives _ _ (conditional_gives known table found rest) (λ e middle inside.
      then_gives _ _ (mark_gives (codes "]") middle) (λ close after closing.
      some_gives (tree.sized_array base e) after
      (directs_more known base (tree.sized_array base e) (mark (codes "[") ⨾ (as_conditional e (expression_form known e) ⨾ mark (codes "]")))
      (source ∷ rest) after refl (λ inner. refl) (then_begins (token_begins source rest so.0 so.1) (then_begins inside closing.plain))))))

  -- `void` and a `)`
  void_found : (tokens : List SourceToken) → Yields (λ at rest. Begins (keyword_at at (codes "void") ⨾ mark (codes ")")) tokens rest) (void_alone tokens)
  void_found [] = none_gives
  void_found (source ∷ rest) = by_first (is_keyword (codes "void") source) refl
    where
      by_first : (is_word : Bool) → is_keyword (codes "void") source ≡ is_word
          → Yields (λ at after. Begins (keyword_at at (codes "void") ⨾ mark (codes ")")) (source ∷ rest) after)
          (place_if is_word source >>= (λ (at : Place). mark_at (codes ")") rest >>= (λ (close : Place × List SourceToken). Some (at, close.1))))
      by_first true is =
          let so = token_is Identifier (codes "void") source is in
          then_gives _ _ (mark_gives (codes ")") rest) (λ close after closing.
          some_gives (place_of source) after (then_begins (place_begins source rest so.0 so.1) closing.plain))
      by_first false is = none_gives

  -- after a `(`
  list_found : (base : Directly) (source : SourceToken) (rest : List SourceToken) → is_punctuator (codes "(") source ≡ true
      → Yields (λ direct after. Directs known base direct (source ∷ rest) after) (list_rule table base rest)
  list_found base source rest is =
      let so = token_is Punctuator (codes "(") source is in
      going_gives _ _ _ (mark_gives (codes ")") rest)
      (λ at after read closing. some_gives (tree.function base tree.no_parameters) after
      (directs_more known base (tree.function base tree.no_parameters) (mark (codes "(") ⨾ mark (codes ")")) (source ∷ rest) after refl (λ inner. refl)
      (then_begins (token_begins source rest so.0 so.1) closing.plain)))
      (λ none. going_gives _ _ _ (void_found rest)
      (λ at after read word. some_gives (tree.function_of_void base at) after
      (directs_more known base (tree.function_of_void base at) (mark (codes "(") ⨾ (keyword_at at (codes "void") ⨾ mark (codes ")")))
      (source ∷ rest) after refl (λ inner. refl) (then_begins (token_begins source rest so.0 so.1) word)))
      (λ unread. then_gives _ _ (parameters_gives known table found [] rest) (λ its middle inside.
      so_then_gives _ _ (mark_gives (codes ")") middle) (λ close after closes closing.
      let listed : Begins (parameters_form known (parameters_from its)) rest middle =
      subst (λ (all : List OneParameter). Begins (parameters_form known (parameters_from all)) rest middle) (sym inside.whole) inside.begins in
      let all : Form = when (not (is_void_alone (parameters_from its))) (parameters_form known (parameters_from its)) in
      let several : is_void_alone (parameters_from its) ≡ false = elim (cases_Bool (is_void_alone (parameters_from its))) [
        | inl alone ↦ absurd (void_clash known (parameters_from its) rest middle after close alone listed closes unread)
        | inr several ↦ several
      ] in
      some_gives (tree.function base (parameters_from its)) after
      (directs_more known base (tree.function base (parameters_from its)) (mark (codes "(") ⨾ (all ⨾ mark (codes ")"))) (source ∷ rest) after refl
      (λ inner. refl)
      (then_begins (token_begins source rest so.0 so.1) (then_begins (when_begins (ap not several) listed) closing.plain)))))))

  -- the rest of a declarator
  pub directs_found : (base : Directly) (tokens : List SourceToken)
      → Yields (λ direct rest. Directs known base direct tokens rest) (directs_rule table base tokens)
  directs_found base [] = some_gives base [] (directs_stay known base [])
  directs_found base (source ∷ rest) =
      if_gives (is_punctuator (codes "[") source) _ _
      (λ is. then_gives _ _ (length_found base source rest is) (λ it middle first.
      so_gives _ (directs_gives known table found it middle) (λ direct after second.
      directs_then known base it direct (source ∷ rest) middle after first second)))
      (λ other. if_gives (is_punctuator (codes "(") source) _ _
      (λ is. then_gives _ _ (list_found base source rest is) (λ it middle first.
      so_gives _ (directs_gives known table found it middle) (λ direct after second.
      directs_then known base it direct (source ∷ rest) middle after first second)))
      (λ neither. some_gives base (source ∷ rest) (directs_stay known base (source ∷ rest))))

  -- a declarator
  pub declarator_found : (inner : Bool) (tokens : List SourceToken)
      → Yields (λ it rest. Declares known inner it tokens rest) (declarator_rule known table inner tokens)
  declarator_found inner tokens =
      then_gives _ _ (base_found inner (pointers_at tokens).1) (λ base middle first.
      then_gives _ _ (directs_found base middle) (λ direct rest second.
      some_gives (tree.pointing (pointers_at tokens).0 direct) rest (record {
        begins = then_begins (pointers_begin tokens) (goes_begins first.begins (directs_go known inner base direct middle rest second));
        named = λ outer. second.same ∙ first.named outer;
      })))

  -- declarators
  pub declarators_found : (earlier : List Declared) (tokens : List SourceToken)
      → Yields (λ all rest. Grows earlier all (λ its. declarators_form known (declarators_from its)) tokens rest) (declarators_rule known table earlier tokens)
  declarators_found earlier tokens =
      let listed : List Declared → Form = λ its. declarators_form known (declarators_from its) in
      then_gives _ _ (declarator_found false tokens) (λ it middle first.
      going_gives _ _ _ (mark_gives (codes ",") middle)
      (λ at rest is comma. so_gives _ (declarators_gives known table found (earlier ++ it ∷ []) rest) (λ all after others.
      more_grows earlier it all listed tokens rest after others
      (λ next further behind. then_begins (when_begins (first.named refl) first.begins) (then_begins comma.plain behind))))
      (λ is. some_gives (earlier ++ it ∷ []) middle
      (one_grows earlier it listed tokens middle (then_begins (when_begins (first.named refl) first.begins) (nothing_begins middle)))))

  -- a parameter
  parameter_found : (tokens : List SourceToken) → Yields (λ it rest. Begins (parameter_form known it) tokens rest) (parameter_rule known table tokens)
  parameter_found tokens =
      then_gives _ _ (some_found known table found tokens) (λ its middle specified.
      then_gives _ _ (declarator_found true middle) (λ declared rest second.
      some_gives (one_parameter (specification_from its) declared) rest
      (when_begins specified.has (followed known its (declarator_form known true declared) tokens middle rest specified second.begins))))

  -- parameters
  pub parameters_found : (earlier : List OneParameter) (tokens : List SourceToken)
      → Yields (λ all rest. Grows earlier all (λ its. parameters_form known (parameters_from its)) tokens rest) (parameters_rule known table earlier tokens)
  parameters_found earlier tokens =
      let listed : List OneParameter → Form = λ its. parameters_form known (parameters_from its) in
      then_gives _ _ (parameter_found tokens) (λ it middle first.
      going_gives _ _ _ (mark_gives (codes ",") middle)
      (λ at rest is comma. so_gives _ (parameters_gives known table found (earlier ++ it ∷ []) rest) (λ all after others.
      more_grows earlier it all listed tokens rest after others
      (λ next further behind. next_parameter known it next further tokens middle rest after first comma.plain behind)))
      (λ is. some_gives (earlier ++ it ∷ []) middle (one_grows earlier it listed tokens middle (last_parameter known it tokens middle first))))

  -- a type name
  pub type_name_found : (tokens : List SourceToken) → Yields (λ type rest. Begins (type_form known type) tokens rest) (type_rule known table tokens)
  type_name_found tokens =
      then_gives _ _ (some_found known table found tokens) (λ its middle specified.
      then_gives _ _ (declarator_found true middle) (λ declared rest second.
      if_gives (is_named declared) _ _ (λ named. none_gives)
      (λ abstract. some_gives (tree.typed_as (specification_from its) declared) rest
      (when_begins (and_from (has_specifiers (specification_from its)) (not (is_named declared)) specified.has (ap not abstract))
      (followed known its (declarator_form known true declared) tokens middle rest specified second.begins)))))

  -- members that are declared together
  member_found : (tokens : List SourceToken) → Yields (λ it rest. Begins (member_form known it) tokens rest) (member_rule_of known table tokens)
  member_found tokens =
      then_gives _ _ (some_found known table found tokens) (λ its middle specified.
      then_gives _ _ (declarators_gives known table found [] middle) (λ declared behind second.
      then_gives _ _ (mark_gives (codes ";") behind) (λ at rest closing.
      let member : List Declared → Form =
      λ all. when (has_specifiers (specification_from its) && has_declarators (declarators_from all)) (specification_form known false (specification_from its)
      ⨾ ends_before known (specification_from its) (declarators_form known (declarators_from all) ⨾ mark (codes ";"))) in
      let first : List Declared = second.first ∷ second.others in
      some_gives (one_member (specification_from its) (declarators_from declared)) rest
      (subst (λ (all : List Declared). Begins (member all) tokens rest) (sym second.whole)
      (when_begins (and_from (has_specifiers (specification_from its)) true specified.has refl)
      (followed known its (declarators_form known (declarators_from first) ⨾ mark (codes ";")) tokens middle rest specified
      (then_begins second.begins closing.plain)))))))

  -- members
  pub members_found : (earlier : List OneMember) (tokens : List SourceToken)
      → Yields (λ all rest. Grows earlier all (λ its. members_form known (members_from its)) tokens rest) (members_rule known table earlier tokens)
  members_found earlier tokens =
      let listed : List OneMember → Form = λ its. members_form known (members_from its) in
      then_gives _ _ (member_found tokens) (λ it middle first.
      if_gives (is_mark_ahead (codes "}") middle) _ _
      (λ ends. some_gives (earlier ++ it ∷ []) middle
      (one_grows earlier it listed tokens middle (next_member known it [] tokens middle middle first (nothing_begins middle))))
      (λ further. so_gives _ (members_gives known table found (earlier ++ it ∷ []) middle) (λ all after others.
      more_grows earlier it all listed tokens middle after others
      (λ next others behind. next_member known it (next ∷ others) tokens middle after first behind))))

  -- an enumeration constant
  constant_found : (tokens : List SourceToken) → Yields (λ it rest. Begins (constant_form known it) tokens rest) (constant_rule table tokens)
  constant_found tokens =
      then_gives _ _ (name_gives tokens) (λ name middle naming.
      going_gives _ _ _ (mark_gives (codes "=") middle)
      (λ at rest is equals. then_gives _ _ (conditional_gives known table found rest) (λ e after value.
      some_gives (valued_one name e) after (then_begins naming (then_begins equals.plain value))))
      (λ is. some_gives (plain_one name) middle naming))

  -- enumeration constants
  pub constants_found : (earlier : List OneConstant) (tokens : List SourceToken)
      → Yields (λ all rest. Grows earlier all.0 (λ its. constants_form known (constants_from its) ⨾ comma_form all.1) tokens rest)
      (constants_rule table earlier tokens)
  constants_found earlier tokens =
      let listed : Bool → List OneConstant → Form = λ comma its. constants_form known (constants_from its) ⨾ comma_form comma in
      then_gives _ _ (constant_found tokens) (λ it middle first.
      going_gives _ _ _ (mark_gives (codes ",") middle)
      (λ at rest is comma. if_gives (is_mark_ahead (codes "}") rest) _ _
      (λ ends. some_gives (earlier ++ it ∷ [], true) rest
      (one_grows earlier it (listed true) tokens rest (last_constant known it true tokens middle rest first comma.plain)))
      (λ further. so_gives _ (constants_gives known table found (earlier ++ it ∷ []) rest) (λ all after others.
      more_grows earlier it all.0 (listed all.1) tokens rest after others
      (λ next others behind. next_constant known it next others all.1 tokens middle rest after first comma.plain behind))))
      (λ is. some_gives (earlier ++ it ∷ [], false) middle
      (one_grows earlier it (listed false) tokens middle (last_constant known it false tokens middle middle first (nothing_begins middle)))))
