-- The rules of declarations give what is in the grammar, over a table that does.
--     initialiser_found, initialisers_found      an initialiser, and more after earlier ones
--     items_found                                declarators after earlier ones
--     declared_found, bare_found                 a declaration, after its specifiers
--     declarations_found                         declarations after earlier ones
use Rattle.std.proofs.Common.{◌≡◌, true, false, List, [], ◌∷◌, ◌++◌, Some, None, refl, sym, ap, subst, ◌∙◌}
use Rattle.std.specs.Prelude.{codes, Bool, ◌&&◌}
use Rattle.std.proofs.lemmas.List.{append-nil}
use Rattle.hs_tokens.specs.declared.token.SourceToken.{SourceToken}
use Rattle.hs_syntax.specs.Forms as form
use Rattle.hs_syntax.specs.Forms.{Form, ◌⨾◌, when, nothing_at_all, mark}
use Rattle.hs_syntax.specs.Grammar.{declarator_form, initialiser_form, initialisers_form, start_form, items_form, declaration_form, declarations_form}
use Rattle.hs_syntax.specs.Parts.{comma_form}
use Rattle.hs_syntax.specs.Phrases.{is_named, has_initialisers}
use Rattle.hs_syntax.specs.RowViews.{specification_from}
use Rattle.hs_syntax.specs.StatementViews.{initialisers_from}
use Rattle.hs_syntax.specs.Trees as tree
use Rattle.hs_syntax.specs.Trees.{Specified, Declared, Initialising, Declaring, Declaration}
use Rattle.hs_tokens.specs.declared.place.Place.{Place}
use Rattle.hs_expr_parser.specs.Ahead.{is_ahead, is_mark_ahead, begins_specifier}
use Rattle.hs_expr_parser.specs.Reading.{Known}
use Rattle.hs_expr_parser.specs.Laws.Yields.{Yields, some_gives, then_gives, going_gives, if_gives, so_gives}
use Rattle.hs_expr_parser.specs.Laws.Spelled.{Begins, form_again, nothing_begins, then_begins, when_begins, form_nothing}
use Rattle.hs_expr_parser.specs.Laws.Firsts.{mark_gives}
use Rattle.hs_expr_parser.specs.Laws.Tables.{Grows, one_grows, more_grows, Declares}
use Rattle.hs_expr_parser.specs.Laws.SpecifiersFound.{SomeSpecified, followed}
use Rattle.hs_expr_parser.specs.Laws.Phrases.{assignment_begins, specifiers_begin, declarator_begins}
use Rattle.hs_decl_parser.specs.Found.{item_form, more_items_form, IsFound}
use Rattle.hs_decl_parser.specs.Reading.{Shorter, braces_rule, starting_value, initialiser_rule, initialisers_rule, start_rule, item_behind, item_rule, items_rule, declared_rule, bare, declaration_rule, declarations_rule}
use Rattle.hs_decl_parser.proofs.TablesFound.{Adds, none_added, one_added, initialiser_gives, initialisers_gives, items_gives, declarations_gives}

-- ---- forms

-- three forms, if the first two are found together
pub grouped : (one two three : Form) (tokens middle rest : List SourceToken) → Begins (one ⨾ two) tokens middle → Begins three middle rest
    → Begins (one ⨾ (two ⨾ three)) tokens rest
grouped one two three tokens middle rest first second =
    subst (λ (it : Form). Begins it tokens rest) (form_again one two three) (then_begins first second)

-- declarators of a declaration are the first one, and more
pub items_split : (known : Known) (it : Declaring) (its : List Declaring) → items_form known (it ∷ its) ≡ (item_form known it ⨾ more_items_form known its)
items_split known it [] = sym (form_nothing (item_form known it))
items_split known it (next ∷ rest) =
    let own : Form = when (is_named it.declarator) (declarator_form known false it.declarator) in
    let start : Form = start_form known it.initialiser in
    ap (λ (others : Form). own ⨾ (start ⨾ (mark (codes ",") ⨾ others))) (items_split known next rest)
    ∙ sym (form_again own start (mark (codes ",") ⨾ (item_form known next ⨾ more_items_form known rest)))

-- the last initialiser, with a comma after it or not
last_initialiser : (known : Known) (it : Initialising) (comma : Bool) (tokens middle rest : List SourceToken) → Begins (initialiser_form known it) tokens middle
    → Begins (comma_form comma) middle rest → Begins (initialisers_form known (initialisers_from (it ∷ [])) ⨾ comma_form comma) tokens rest
last_initialiser known it comma tokens middle rest begins behind = then_begins (then_begins begins (nothing_begins middle)) behind

-- one before others
next_initialiser : (known : Known) (it first : Initialising) (others : List Initialising) (comma : Bool) (tokens middle between rest : List SourceToken)
    → Begins (initialiser_form known it) tokens middle → Begins (mark (codes ",")) middle between
    → Begins (initialisers_form known (initialisers_from (first ∷ others)) ⨾ comma_form comma) between rest
    → Begins (initialisers_form known (initialisers_from (it ∷ first ∷ others)) ⨾ comma_form comma) tokens rest
next_initialiser known it first others comma tokens middle between rest begins separated behind =
    let own : Form = initialiser_form known it in
    let further : Form = initialisers_form known (initialisers_from (first ∷ others)) in
    subst (λ (all : Form). Begins all tokens rest) (sym (form_again own (mark (codes ",") ⨾ further) (comma_form comma)))
    (then_begins begins (then_begins separated behind))

module _ (known : Known) (table : Shorter) (found : IsFound known table) where
  -- ---- initialisers

  -- a list of initialisers
  braces_found : (at : Place) (tokens rest : List SourceToken) → Begins (form.mark_at at (codes "{")) tokens rest
      → Yields (λ it after. Begins (initialiser_form known it) tokens after) (braces_rule table at rest)
  braces_found at tokens rest opening =
      then_gives _ _ (initialisers_gives known table found [] rest) (λ its middle inside.
      then_gives _ _ (mark_gives (codes "}") middle) (λ close after closing.
      let all : Form = when (has_initialisers (initialisers_from its.0)) (initialisers_form known (initialisers_from its.0)) in
      let body : Begins (all ⨾ comma_form its.1) rest middle =
      subst (λ (all : List Initialising).
      Begins (when (has_initialisers (initialisers_from all)) (initialisers_form known (initialisers_from all)) ⨾ comma_form its.1) rest middle)
      (sym inside.whole) inside.begins in
      some_gives (tree.list at (initialisers_from its.0) its.1) after
      (then_begins opening (grouped all (comma_form its.1) (mark (codes "}")) rest middle after body closing.plain))))

  -- an expression as an initialiser
  value_found : (tokens : List SourceToken) → Yields (λ it rest. Begins (initialiser_form known it) tokens rest) (starting_value known tokens)
  value_found tokens = then_gives _ _ (assignment_begins known tokens) (λ e rest begins. some_gives (tree.value e) rest begins)

  -- an initialiser
  pub initialiser_found : (tokens : List SourceToken) → Yields (λ it rest. Begins (initialiser_form known it) tokens rest) (initialiser_rule known table tokens)
  initialiser_found tokens =
      going_gives _ _ _ (mark_gives (codes "{") tokens) (λ at rest is opening. braces_found at tokens rest opening.placed) (λ is. value_found tokens)

  -- initialisers
  pub initialisers_found : (earlier : List Initialising) (tokens : List SourceToken)
      → Yields (λ all rest. Grows earlier all.0 (λ its. initialisers_form known (initialisers_from its) ⨾ comma_form all.1) tokens rest)
      (initialisers_rule known table earlier tokens)
  initialisers_found earlier tokens =
      let listed : Bool → List Initialising → Form = λ comma its. initialisers_form known (initialisers_from its) ⨾ comma_form comma in
      then_gives _ _ (initialiser_found tokens) (λ it middle first.
      going_gives _ _ _ (mark_gives (codes ",") middle)
      (λ at rest is comma. if_gives (is_mark_ahead (codes "}") rest) _ _
      (λ ends. some_gives (earlier ++ it ∷ [], true) rest
      (one_grows earlier it (listed true) tokens rest (last_initialiser known it true tokens middle rest first comma.plain)))
      (λ further. so_gives _ (initialisers_gives known table found (earlier ++ it ∷ []) rest) (λ all after others.
      more_grows earlier it all.0 (listed all.1) tokens rest after others
      (λ next others behind. next_initialiser known it next others all.1 tokens middle rest after first comma.plain behind))))
      (λ is. some_gives (earlier ++ it ∷ [], false) middle
      (one_grows earlier it (listed false) tokens middle (last_initialiser known it false tokens middle middle first (nothing_begins middle)))))

  -- ---- declarators with what they start with

  -- what a declarator starts with
  start_found : (tokens : List SourceToken) → Yields (λ start rest. Begins (start_form known start) tokens rest) (start_rule table tokens)
  start_found tokens =
      going_gives _ _ _ (mark_gives (codes "=") tokens)
      (λ at rest is equals. then_gives _ _ (initialiser_gives known table found rest) (λ it after begins.
      some_gives (Some it) after (then_begins equals.plain begins)))
      (λ is. some_gives None tokens (nothing_begins tokens))

  -- a declarator with what it starts with, after the declarator
  behind_found : (declared : Declared) (tokens middle : List SourceToken) → Declares known false declared tokens middle
      → Yields (λ it rest. Begins (item_form known it) tokens rest) (item_behind table declared middle)
  behind_found declared tokens middle declares =
      then_gives _ _ (start_found middle) (λ start rest begins.
      some_gives (record { declarator = declared; initialiser = start }) rest
      (then_begins (when_begins (declares.named refl) declares.begins) begins))

  -- a declarator with what it starts with
  item_found : (tokens : List SourceToken) → Yields (λ it rest. Begins (item_form known it) tokens rest) (item_rule known table tokens)
  item_found tokens = then_gives _ _ (declarator_begins known false tokens) (λ declared middle declares. behind_found declared tokens middle declares)

  -- more of them
  pub items_found : (earlier : List Declaring) (tokens : List SourceToken)
      → Yields (λ all rest. Adds earlier all (more_items_form known) tokens rest) (items_rule known table earlier tokens)
  items_found earlier tokens =
      going_gives _ _ _ (mark_gives (codes ",") tokens)
      (λ at rest is comma. then_gives _ _ (item_found rest) (λ it middle first.
      so_gives _ (items_gives known table found (earlier ++ it ∷ []) middle) (λ all after others.
      one_added earlier it all (more_items_form known) tokens middle after others
      (λ further behind. then_begins comma.plain (then_begins first behind)))))
      (λ is. some_gives earlier tokens (none_added earlier (more_items_form known) tokens (nothing_begins tokens)))

  -- ---- declarations

  -- a declaration, after its specifiers and its first declarator
  pub declared_found : (specifiers : List Specified) (declared : Declared) (tokens between middle : List SourceToken)
      → SomeSpecified known specifiers tokens between → Declares known false declared between middle
      → Yields (λ it rest. Begins (declaration_form known it) tokens rest) (declared_rule known table specifiers declared middle)
  declared_found specifiers declared tokens between middle specified declares =
      then_gives _ _ (behind_found declared between middle declares) (λ it next first.
      then_gives _ _ (items_found (it ∷ []) next) (λ all behind others.
      then_gives _ _ (mark_gives (codes ";") behind) (λ at rest closing.
      let listed : Begins (items_form known all) between behind =
      subst (λ (its : List Declaring). Begins (items_form known its) between behind) (sym others.whole)
      (subst (λ (its : Form). Begins its between behind) (sym (items_split known it others.its)) (then_begins first others.begins)) in
      some_gives (record { specifiers = specification_from specifiers; items = all }) rest
      (when_begins specified.has
      (followed known specifiers (items_form known all ⨾ mark (codes ";")) tokens between rest specified (then_begins listed closing.plain))))))

  -- a declaration of specifiers alone
  pub bare_found : (specifiers : List Specified) (tokens middle rest : List SourceToken) → SomeSpecified known specifiers tokens middle
      → Begins (mark (codes ";")) middle rest → Begins (declaration_form known (bare specifiers)) tokens rest
  bare_found specifiers tokens middle rest specified closing =
      when_begins specified.has
      (followed known specifiers (nothing_at_all ⨾ mark (codes ";")) tokens middle rest specified (then_begins (nothing_begins middle) closing))

  -- a declaration
  declaration_found : (tokens : List SourceToken) → Yields (λ it rest. Begins (declaration_form known it) tokens rest) (declaration_rule known table tokens)
  declaration_found tokens =
      then_gives _ _ (specifiers_begin known tokens) (λ its middle specified.
      going_gives _ _ _ (mark_gives (codes ";") middle)
      (λ at rest is closing. some_gives (bare its) rest (bare_found its tokens middle rest specified closing.plain))
      (λ is. then_gives _ _ (declarator_begins known false middle) (λ declared behind declares.
      declared_found its declared tokens middle behind specified declares)))

  -- declarations
  pub declarations_found : (earlier : List Declaration) (tokens : List SourceToken)
      → Yields (λ all rest. Adds earlier all (declarations_form known) tokens rest) (declarations_rule known table earlier tokens)
  declarations_found earlier tokens =
      if_gives (is_ahead (begins_specifier known false) tokens) _ _
      (λ is. then_gives _ _ (declaration_found tokens) (λ it middle first.
      so_gives _ (declarations_gives known table found (earlier ++ it ∷ []) middle) (λ all rest others.
      one_added earlier it all (declarations_form known) tokens middle rest others (λ further behind. then_begins first behind))))
      (λ is. some_gives earlier tokens (none_added earlier (declarations_form known) tokens (nothing_begins tokens)))
