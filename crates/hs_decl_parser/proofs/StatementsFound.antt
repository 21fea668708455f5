-- The rules of statements give what is in the grammar, over a table that does.
--     statement_found       a statement, and an `else` after it is not its own
--     block_found           a compound statement
--     labels_found          labels after earlier ones
--     statements_found      labelled statements after earlier ones
use Rattle.std.proofs.Common.{◌≡◌, ℕ, true, false, List, [], ◌∷◌, ◌++◌, Some, None, refl, sym, ap, subst, ◌∙◌}
use Rattle.std.specs.Prelude.{codes, Bool, Option, not, ◌||◌, option_map}
use Rattle.hs_tokens.specs.declared.token.SourceToken.{SourceToken}
use Rattle.hs_tokens.specs.declared.token.TokenKind.TheVariants.{Identifier, Punctuator}
use Rattle.hs_syntax.specs.Forms as form
use Rattle.hs_syntax.specs.Forms.{Form, ◌⨾◌, mark, keyword}
use Rattle.hs_syntax.specs.Grammar.{expression_form, declarations_form, labels_form, optional_form, test_form, statement_form, block_form, statements_form}
use Rattle.hs_syntax.specs.Phrases.{as_conditional, ends_open}
use Rattle.hs_syntax.specs.StatementViews.{OneStatement, one_statement, statements_from}
use Rattle.hs_syntax.specs.Trees as tree
use Rattle.hs_syntax.specs.Trees.{Declaration, Labelling, Statement}
use Rattle.hs_tokens.specs.declared.place.Place.{Place}
use Rattle.hs_expr_parser.specs.Ahead.{place_of, is_punctuator, is_keyword, is_mark_ahead, place_if}
use Rattle.hs_expr_parser.specs.Reading.{Known}
use Rattle.hs_expr_parser.specs.Recursion.{Read}
use Rattle.hs_expr_parser.specs.Laws.Yields.{Yields, none_gives, some_gives, then_gives, going_gives, if_gives, so_gives}
use Rattle.hs_expr_parser.specs.Laws.Spelled.{Begins, form_again, nothing_begins, then_begins, when_begins, token_begins, place_begins}
use Rattle.hs_expr_parser.specs.Laws.Firsts.{token_is, token_of, mark_gives}
use Rattle.hs_expr_parser.specs.Laws.Phrases.{expression_begins, conditional_begins}
use Rattle.hs_decl_parser.specs.Found.{IsFound}
use Rattle.hs_decl_parser.specs.Reading.{Shorter, inner_rule, block_rule, test_rule, optional_rule, if_rule, while_rule, do_rule, Controls, controls_rule, for_rule, switch_rule, ended_rule, return_rule, plain_rule, statement_by, statement_rule, label_rule, labels_rule, labelled_rule, statements_rule}
use Rattle.hs_decl_parser.specs.Words.{statement_text, statement_words, statement_word_of, keyword_at, is_else_ahead, begins_label}
use Rattle.hs_decl_parser.specs.declared.words.StatementWord.{StatementWord}
use Rattle.hs_decl_parser.specs.declared.words.StatementWord.TheVariants.{If, While, Do, For, Switch, Break, Continue, Return}
use Rattle.hs_decl_parser.proofs.DeclarationsFound.{grouped}
use Rattle.hs_decl_parser.proofs.TablesFound.{Adds, none_added, one_added, Stated, declarations_gives, labels_gives, statements_gives, statement_gives}

-- ---- words

-- the place of this token, and the others
abbrev place_at : Bool → SourceToken → List SourceToken → Read Place
place_at is source rest = option_map (λ it. (it, rest)) (place_if is source)

-- a word stands there, with its place or without
record IsWord (text : List ℕ) (tokens : List SourceToken) (at : Place) (rest : List SourceToken) : Type 0 where
  placed : Begins (form.keyword_at at text) tokens rest
  plain : Begins (keyword text) tokens rest

-- a word
word_gives : (text : List ℕ) (tokens : List SourceToken) → Yields (IsWord text tokens) (keyword_at text tokens)
word_gives text [] = none_gives
word_gives text (source ∷ rest) = given (is_keyword text source) refl
  where
    given : (is : Bool) → is_keyword text source ≡ is → Yields (IsWord text (source ∷ rest)) (place_at is source rest)
    given true is =
        let so = token_is Identifier text source is in
        some_gives (place_of source) rest (record { placed = place_begins source rest so.0 so.1; plain = token_begins source rest so.0 so.1 })
    given false is = none_gives

-- an `else` that is read stands there
else_there : (tokens : List SourceToken) (at : Place) (rest : List SourceToken) → keyword_at (codes "else") tokens ≡ Some (at, rest)
    → is_else_ahead tokens ≡ true
else_there [] at rest is = absurd cc
else_there (source ∷ others) at rest is = given (is_keyword (codes "else") source) is
  where
    given : (is : Bool) → place_at is source others ≡ Some (at, rest) → is ≡ true
    given true is = refl
    given false is = absurd cc

-- if none is read, none stands there
no_else : (tokens : List SourceToken) → keyword_at (codes "else") tokens ≡ None → is_else_ahead tokens ≡ false
no_else [] is = refl
no_else (source ∷ others) is = given (is_keyword (codes "else") source) is
  where
    given : (is : Bool) → place_at is source others ≡ None → is ≡ false
    given true is = absurd cc
    given false is = refl

-- a statement that an `else` follows does not end open
not_open : (one other : Bool) → (one ≡ true → other ≡ false) → other ≡ true → not one ≡ true
not_open false other closed is = refl
not_open true other closed is = absurd (let contrary : other ≡ false = closed refl in cc)

-- ---- forms

-- a label
abbrev label_form : Known → Labelling → Form
label_form known (tree.case_ at e) = form.keyword_at at (codes "case") ⨾ as_conditional e (expression_form known e) ⨾ mark (codes ":")
label_form known (tree.default_ at) = form.keyword_at at (codes "default") ⨾ mark (codes ":")

-- labels are the first one and the others
labels_split : (known : Known) (it : Labelling) (its : List Labelling) → labels_form known (it ∷ its) ≡ (label_form known it ⨾ labels_form known its)
labels_split known (tree.case_ at e) its =
    let word : Form = form.keyword_at at (codes "case") in
    let own : Form = as_conditional e (expression_form known e) in
    sym (form_again word (own ⨾ mark (codes ":")) (labels_form known its)
    ∙ ap (λ (others : Form). word ⨾ others) (form_again own (mark (codes ":")) (labels_form known its)))
labels_split known (tree.default_ at) its = sym (form_again (form.keyword_at at (codes "default")) (mark (codes ":")) (labels_form known its))

-- a label in front of others
next_label : (known : Known) (it : Labelling) (others : List Labelling) (tokens middle rest : List SourceToken) → Begins (label_form known it) tokens middle
    → Begins (labels_form known others) middle rest → Begins (labels_form known (it ∷ others)) tokens rest
next_label known it others tokens middle rest first behind =
    subst (λ (all : Form). Begins all tokens rest) (sym (labels_split known it others)) (then_begins first behind)

-- a statement with the labels in front of it
abbrev labelled_form : Known → OneStatement → Form
labelled_form known (one_statement labels it) = labels_form known labels ⨾ statement_form known it

-- one in front of others
next_labelled : (known : Known) (it : OneStatement) (others : List OneStatement) (tokens middle rest : List SourceToken)
    → Begins (labelled_form known it) tokens middle → Begins (statements_form known (statements_from others)) middle rest
    → Begins (statements_form known (statements_from (it ∷ others))) tokens rest
next_labelled known (one_statement labels it) others tokens middle rest first behind =
    grouped (labels_form known labels) (statement_form known it) (statements_form known (statements_from others)) tokens middle rest first behind

-- ---- expressions in statements

-- an expression in parentheses
test_found : (known : Known) (tokens : List SourceToken) → Yields (λ e rest. Begins (test_form known e) tokens rest) (test_rule known tokens)
test_found known tokens =
    then_gives _ _ (mark_gives (codes "(") tokens) (λ at rest opening.
    then_gives _ _ (expression_begins known rest) (λ e middle inside.
    then_gives _ _ (mark_gives (codes ")") middle) (λ close after closing.
    some_gives e after (then_begins opening.plain (then_begins inside closing.plain)))))

-- an expression or none, and the punctuator after it
optional_found : (known : Known) (text : List ℕ) (tokens : List SourceToken)
    → Yields (λ e rest. Begins (optional_form known e ⨾ mark text) tokens rest) (optional_rule known text tokens)
optional_found known text tokens =
    going_gives _ _ _ (mark_gives text tokens) (λ at rest is closing. some_gives None rest (then_begins (nothing_begins tokens) closing.plain))
    (λ is. then_gives _ _ (expression_begins known tokens) (λ e middle begins.
    then_gives _ _ (mark_gives text middle) (λ at rest closing. some_gives (Some e) rest (then_begins begins closing.plain))))

-- what stands in the parentheses of a `for`, with what follows it
record IsControlled (known : Known) (it : Controls) (tokens rest : List SourceToken) : Type 0 where
  followed : (other : Form) (after : List SourceToken) → Begins other rest after
      → Begins (mark (codes "(") ⨾ optional_form known it.first ⨾ mark (codes ";") ⨾ optional_form known it.test ⨾ mark (codes ";")
      ⨾ optional_form known it.step ⨾ mark (codes ")") ⨾ other) tokens after

-- what stands in the parentheses of a `for`
controls_found : (known : Known) (tokens : List SourceToken) → Yields (λ it rest. IsControlled known it tokens rest) (controls_rule known tokens)
controls_found known tokens =
    then_gives _ _ (mark_gives (codes "(") tokens) (λ at start opening.
    then_gives _ _ (optional_found known (codes ";") start) (λ first one before.
    then_gives _ _ (optional_found known (codes ";") one) (λ test two inside.
    then_gives _ _ (optional_found known (codes ")") two) (λ turn rest closing.
    some_gives (record { first = first; test = test; step = turn }) rest (record {
      followed = λ other after behind.
          let third = grouped (optional_form known turn) (mark (codes ")")) other two rest after closing behind in
          let second = grouped (optional_form known test) (mark (codes ";")) (optional_form known turn ⨾ mark (codes ")") ⨾ other) one two after inside third in
          then_begins opening.plain (grouped (optional_form known first) (mark (codes ";"))
          (optional_form known test ⨾ mark (codes ";") ⨾ optional_form known turn ⨾ mark (codes ")") ⨾ other) start one after before second);
    })))))

-- a label
label_found : (known : Known) (source : SourceToken) (rest : List SourceToken) → begins_label source ≡ true
    → Yields (λ it after. Begins (label_form known it) (source ∷ rest) after) (label_rule known source rest)
label_found known source rest begins =
    if_gives (is_keyword (codes "case") source) _ _
    (λ is.
    let so = token_is Identifier (codes "case") source is in
    then_gives _ _ (conditional_begins known rest) (λ e middle value.
    then_gives _ _ (mark_gives (codes ":") middle) (λ at after colon.
    some_gives (tree.case_ (place_of source) e) after (then_begins (place_begins source rest so.0 so.1) (then_begins value colon.plain)))))
    (λ is.
    let so = token_is Identifier (codes "default") source (the_other (is_keyword (codes "case") source) (is_keyword (codes "default") source) begins is) in
    then_gives _ _ (mark_gives (codes ":") rest) (λ at after colon.
    some_gives (tree.default_ (place_of source)) after (then_begins (place_begins source rest so.0 so.1) colon.plain)))
  where
    the_other : (one other : Bool) → (one || other) ≡ true → one ≡ false → other ≡ true
    the_other true other either is = absurd cc
    the_other false other either is = either

module _ (known : Known) (table : Shorter) (found : IsFound known table) where
  -- ---- compound statements

  -- after its `{`
  inner_found : (at : Place) (tokens rest : List SourceToken) → Begins (form.mark_at at (codes "{")) tokens rest
      → Yields (λ it after. Begins (block_form known it) tokens after) (inner_rule table at rest)
  inner_found at tokens rest opening =
      then_gives _ _ (declarations_gives known table found [] rest) (λ declarations middle declared.
      then_gives _ _ (statements_gives known table found [] middle) (λ statements behind stated.
      then_gives _ _ (mark_gives (codes "}") behind) (λ close after closing.
      let first : Begins (declarations_form known declarations) rest middle =
      subst (λ (its : List Declaration). Begins (declarations_form known its) rest middle) (sym declared.whole) declared.begins in
      let second : Begins (statements_form known (statements_from statements)) middle behind =
      subst (λ (its : List OneStatement). Begins (statements_form known (statements_from its)) middle behind) (sym stated.whole) stated.begins in
      some_gives (tree.compound at declarations (statements_from statements) close) after
      (then_begins opening (then_begins first (then_begins second closing.placed))))))

  -- a compound statement
  pub block_found : (tokens : List SourceToken) → Yields (λ it rest. Begins (block_form known it) tokens rest) (block_rule table tokens)
  block_found tokens = then_gives _ _ (mark_gives (codes "{") tokens) (λ at rest opening. inner_found at tokens rest opening.placed)

  -- ---- statements

  -- after an `if`
  if_found : (at : Place) (tokens rest : List SourceToken) → Begins (form.keyword_at at (codes "if")) tokens rest
      → Yields (λ it after. Stated known it tokens after) (if_rule known table at rest)
  if_found at tokens rest word =
      then_gives _ _ (test_found known rest) (λ test middle tested.
      then_gives _ _ (statement_gives known table found middle) (λ taken behind first.
      going_gives _ _ _ (word_gives (codes "else") behind)
      (λ place others is separated. then_gives _ _ (statement_gives known table found others) (λ otherwise after second.
      let closed : not (ends_open taken) ≡ true = not_open (ends_open taken) (is_else_ahead behind) first.closed (else_there behind place others is) in
      some_gives (tree.if_else at test taken otherwise) after (record {
        begins = then_begins word (then_begins tested (then_begins (when_begins closed first.begins) (then_begins separated.plain second.begins)));
        closed = second.closed;
      })))
      (λ is. some_gives (tree.if_ at test taken) behind (record {
        begins = then_begins word (then_begins tested first.begins);
        closed = λ ends. no_else behind is;
      }))))

  -- after a `while`
  while_found : (at : Place) (tokens rest : List SourceToken) → Begins (form.keyword_at at (codes "while")) tokens rest
      → Yields (λ it after. Stated known it tokens after) (while_rule known table at rest)
  while_found at tokens rest word =
      then_gives _ _ (test_found known rest) (λ test middle tested.
      then_gives _ _ (statement_gives known table found middle) (λ body after inside.
      some_gives (tree.while_ at test body) after (record {
        begins = then_begins word (then_begins tested inside.begins);
        closed = inside.closed;
      })))

  -- after a `do`
  do_found : (at : Place) (tokens rest : List SourceToken) → Begins (form.keyword_at at (codes "do")) tokens rest
      → Yields (λ it after. Stated known it tokens after) (do_rule known table at rest)
  do_found at tokens rest word =
      then_gives _ _ (statement_gives known table found rest) (λ body middle inside.
      then_gives _ _ (word_gives (codes "while") middle) (λ place others separated.
      then_gives _ _ (test_found known others) (λ test behind tested.
      then_gives _ _ (mark_gives (codes ";") behind) (λ close after closing.
      some_gives (tree.do_ at body test) after (record {
        begins = then_begins word (then_begins inside.begins (then_begins separated.plain (then_begins tested closing.plain)));
        closed = λ ends. absurd cc;
      })))))

  -- after a `for`
  for_found : (at : Place) (tokens rest : List SourceToken) → Begins (form.keyword_at at (codes "for")) tokens rest
      → Yields (λ it after. Stated known it tokens after) (for_rule known table at rest)
  for_found at tokens rest word =
      then_gives _ _ (controls_found known rest) (λ controls middle controlled.
      then_gives _ _ (statement_gives known table found middle) (λ body after inside.
      some_gives (tree.for_ at controls.first controls.test controls.step body) after (record {
        begins = then_begins word (controlled.followed (statement_form known body) after inside.begins);
        closed = inside.closed;
      })))

  -- after a `switch`
  switch_found : (at : Place) (tokens rest : List SourceToken) → Begins (form.keyword_at at (codes "switch")) tokens rest
      → Yields (λ it after. Stated known it tokens after) (switch_rule known table at rest)
  switch_found at tokens rest word =
      then_gives _ _ (test_found known rest) (λ test middle tested.
      then_gives _ _ (block_found middle) (λ body after inside.
      some_gives (tree.switch_ at test body) after (record {
        begins = then_begins word (then_begins tested inside);
        closed = λ ends. absurd cc;
      })))

  -- a word and a semicolon
  ended_found : (it : Statement) (word : Form) (tokens rest : List SourceToken) → statement_form known it ≡ (word ⨾ mark (codes ";"))
      → ends_open it ≡ false → Begins word tokens rest → Yields (λ it after. Stated known it tokens after) (ended_rule it rest)
  ended_found it word tokens rest is ends first =
      then_gives _ _ (mark_gives (codes ";") rest) (λ at after closing.
      some_gives it after (record {
        begins = subst (λ (all : Form). Begins all tokens after) (sym is) (then_begins first closing.plain);
        closed = λ other. absurd (let contrary : false ≡ true = sym ends ∙ other in cc);
      }))

  -- after a `return`
  return_found : (at : Place) (tokens rest : List SourceToken) → Begins (form.keyword_at at (codes "return")) tokens rest
      → Yields (λ it after. Stated known it tokens after) (return_rule known at rest)
  return_found at tokens rest word =
      then_gives _ _ (optional_found known (codes ";") rest) (λ e after value.
      some_gives (tree.return_ at e) after (record { begins = then_begins word value; closed = λ ends. absurd cc }))

  -- a statement that begins with no word of its own
  plain_found : (source : SourceToken) (rest : List SourceToken)
      → Yields (λ it after. Stated known it (source ∷ rest) after) (plain_rule known table source rest)
  plain_found source rest =
      if_gives (is_punctuator (codes "{") source) _ _
      (λ is.
      let so = token_is Punctuator (codes "{") source is in
      then_gives _ _ (inner_found (place_of source) (source ∷ rest) rest (place_begins source rest so.0 so.1)) (λ it after block.
      some_gives (tree.block it) after (record { begins = block; closed = λ ends. absurd cc })))
      (λ other. if_gives (is_punctuator (codes ";") source) _ _
      (λ is.
      let so = token_is Punctuator (codes ";") source is in
      some_gives (tree.empty (place_of source)) rest (record { begins = place_begins source rest so.0 so.1; closed = λ ends. absurd cc }))
      (λ neither. then_gives _ _ (expression_begins known (source ∷ rest)) (λ e middle first.
      then_gives _ _ (mark_gives (codes ";") middle) (λ at after closing.
      some_gives (tree.expression e) after (record { begins = then_begins first closing.plain; closed = λ ends. absurd cc })))))

  -- a statement
  pub statement_found : (tokens : List SourceToken) → Yields (λ it rest. Stated known it tokens rest) (statement_rule known table tokens)
  statement_found [] = none_gives
  statement_found (source ∷ rest) = by_word (statement_word_of source) refl
    where
      -- the token is the word
      begun : (word : StatementWord) → statement_word_of source ≡ Some word
          → Begins (form.keyword_at (place_of source) (statement_text word)) (source ∷ rest) rest
      begun word is =
          let so = token_of Identifier statement_text statement_words source word is in
          place_begins source rest so.0 so.1

      by_word : (word : Option StatementWord) → statement_word_of source ≡ word
          → Yields (λ (it : Statement) after. Stated known it (source ∷ rest) after) (statement_by known table word source rest)
      by_word (Some If) is = if_found (place_of source) (source ∷ rest) rest (begun If is)
      by_word (Some While) is = while_found (place_of source) (source ∷ rest) rest (begun While is)
      by_word (Some Do) is = do_found (place_of source) (source ∷ rest) rest (begun Do is)
      by_word (Some For) is = for_found (place_of source) (source ∷ rest) rest (begun For is)
      by_word (Some Switch) is = switch_found (place_of source) (source ∷ rest) rest (begun Switch is)
      by_word (Some Break) is = ended_found (tree.break_ (place_of source)) (form.keyword_at (place_of source) (codes "break")) (source ∷ rest) rest
          refl refl (begun Break is)
      by_word (Some Continue) is = ended_found (tree.continue_ (place_of source)) (form.keyword_at (place_of source) (codes "continue")) (source ∷ rest) rest
          refl refl (begun Continue is)
      by_word (Some Return) is = return_found (place_of source) (source ∷ rest) rest (begun Return is)
      by_word None is = plain_found source rest

  -- ---- labelled statements

  -- labels
  pub labels_found : (earlier : List Labelling) (tokens : List SourceToken)
      → Yields (λ all rest. Adds earlier all (labels_form known) tokens rest) (labels_rule known table earlier tokens)
  labels_found earlier [] = some_gives earlier [] (none_added earlier (labels_form known) [] (nothing_begins []))
  labels_found earlier (source ∷ rest) =
      if_gives (begins_label source) _ _
      (λ is. then_gives _ _ (label_found known source rest is) (λ it middle first.
      so_gives _ (labels_gives known table found (earlier ++ it ∷ []) middle) (λ all after others.
      one_added earlier it all (labels_form known) (source ∷ rest) middle after others
      (λ further behind. next_label known it further (source ∷ rest) middle after first behind))))
      (λ is. some_gives earlier (source ∷ rest) (none_added earlier (labels_form known) (source ∷ rest) (nothing_begins (source ∷ rest))))

  -- a statement with the labels in front of it
  labelled_found : (tokens : List SourceToken) → Yields (λ it rest. Begins (labelled_form known it) tokens rest) (labelled_rule known table tokens)
  labelled_found tokens =
      then_gives _ _ (labels_found [] tokens) (λ labels middle first.
      then_gives _ _ (statement_found middle) (λ it rest second.
      let listed : Begins (labels_form known labels) tokens middle =
      subst (λ (its : List Labelling). Begins (labels_form known its) tokens middle) (sym first.whole) first.begins in
      some_gives (one_statement labels it) rest (then_begins listed second.begins)))

  -- labelled statements
  pub statements_found : (earlier : List OneStatement) (tokens : List SourceToken)
      → Yields (λ all rest. Adds earlier all (λ its. statements_form known (statements_from its)) tokens rest) (statements_rule known table earlier tokens)
  statements_found earlier tokens =
      let listed : List OneStatement → Form = λ its. statements_form known (statements_from its) in
      if_gives (is_mark_ahead (codes "}") tokens) _ _
      (λ is. some_gives earlier tokens (none_added earlier listed tokens (nothing_begins tokens)))
      (λ is. then_gives _ _ (labelled_found tokens) (λ it middle first.
      so_gives _ (statements_gives known table found (earlier ++ it ∷ []) middle) (λ all rest others.
      one_added earlier it all listed tokens middle rest others (λ further behind. next_labelled known it further tokens middle rest first behind))))
