-- What the reading of declarations and statements gives is in the grammar.
--     rule_found         the rules give what is found, over a table that does
--     reading_found      so does the reading
--     external_found     what is read of an external declaration is one
use Rattle.std.proofs.Common.{◌≡◌, ℕ, zero, suc, true, false, length, List, [], Some, None, refl}
use Rattle.std.specs.Prelude.{codes, Bool, nat_lt, if◌then◌else◌}
use Rattle.hs_tokens.specs.declared.token.SourceToken.{SourceToken}
use Rattle.hs_syntax.specs.Forms.{Form, ◌⨾◌, when}
use Rattle.hs_syntax.specs.Grammar.{declarator_form, block_form, external_form}
use Rattle.hs_syntax.specs.Phrases.{is_named}
use Rattle.hs_syntax.specs.RowViews.{specification_from}
use Rattle.hs_syntax.specs.Trees as tree
use Rattle.hs_syntax.specs.Trees.{Specified, Declared, ExternalDeclaration}
use Rattle.hs_expr_parser.specs.Ahead.{is_ahead, is_mark_ahead, begins_specifier}
use Rattle.hs_expr_parser.specs.Reading.{Known}
use Rattle.hs_expr_parser.specs.Laws.Recursions.{fixed_always}
use Rattle.hs_expr_parser.specs.Laws.Yields.{Yields, some_gives, then_gives, going_gives, if_gives}
use Rattle.hs_expr_parser.specs.Laws.Spelled.{Begins, nothing_begins, then_begins, when_begins}
use Rattle.hs_expr_parser.specs.Laws.Firsts.{mark_gives}
use Rattle.hs_expr_parser.specs.Laws.Ends.{ends_there}
use Rattle.hs_expr_parser.specs.Laws.Tables.{Declares}
use Rattle.hs_expr_parser.specs.Laws.SpecifiersFound.{SomeSpecified, followed}
use Rattle.hs_expr_parser.specs.Laws.Phrases.{specifiers_begin, declarator_begins}
use Rattle.hs_decl_parser.specs.Found.{Takes, IsFound}
use Rattle.hs_decl_parser.specs.Goals as goal
use Rattle.hs_decl_parser.specs.Reading.{Shorter, rule, reading, bare, function_rule, external_behind, specified_rule, external_rule}
use Rattle.hs_decl_parser.proofs.DeclarationsFound.{initialiser_found, initialisers_found, items_found, declared_found, bare_found, declarations_found}
use Rattle.hs_decl_parser.proofs.StatementsFound.{block_found, statement_found, labels_found, statements_found}

-- ---- the goals

-- the rules give what is found, over a table that does
pub rule_found : (known : Known) (table : Shorter) → IsFound known table → IsFound known (rule known table)
rule_found known table found goal.initialiser tokens tree rest is =
    let it = (initialiser_found known table found tokens).holds tree rest is in
    (it.front, it.whole, it.is)
rule_found known table found (goal.initialisers earlier) tokens all rest is =
    let it = (initialisers_found known table found earlier tokens).holds all rest is in
    (it.begins.front, it.begins.whole, (it.first, it.others, it.whole, it.begins.is))
rule_found known table found (goal.items earlier) tokens all rest is =
    let it = (items_found known table found earlier tokens).holds all rest is in
    (it.begins.front, it.begins.whole, (it.its, it.whole, it.begins.is))
rule_found known table found (goal.declarations earlier) tokens all rest is =
    let it = (declarations_found known table found earlier tokens).holds all rest is in
    (it.begins.front, it.begins.whole, (it.its, it.whole, it.begins.is))
rule_found known table found (goal.labels earlier) tokens all rest is =
    let it = (labels_found known table found earlier tokens).holds all rest is in
    (it.begins.front, it.begins.whole, (it.its, it.whole, it.begins.is))
rule_found known table found (goal.statements earlier) tokens all rest is =
    let it = (statements_found known table found earlier tokens).holds all rest is in
    (it.begins.front, it.begins.whole, (it.its, it.whole, it.begins.is))
rule_found known table found goal.statement tokens statement rest is =
    let it = (statement_found known table found tokens).holds statement rest is in
    (it.begins.front, it.begins.whole, (it.begins.is, it.closed))

-- what the reading gives is in the grammar
pub reading_found : (known : Known) → IsFound known (reading known)
unfolding reading
reading_found known = fixed_always (Takes known) (rule known) (rule_found known)

-- ---- external declarations

module _ (known : Known) (table : Shorter) (found : IsFound known table) where
  -- a function, after its specifiers and its declarator
  function_found : (its : List Specified) (declared : Declared) (tokens between middle : List SourceToken) → SomeSpecified known its tokens between
      → Declares known false declared between middle
      → Yields (λ it rest. Begins (external_form known it) tokens rest) (function_rule table its declared middle)
  function_found its declared tokens between middle specified declares =
      then_gives _ _ (block_found known table found middle) (λ body rest block.
      some_gives (tree.function_definition (specification_from its) declared body) rest
      (followed known its (when (is_named declared) (declarator_form known false declared) ⨾ block_form known body) tokens between rest specified
      (then_begins (when_begins (declares.named refl) declares.begins) block)))

  -- a function without specifiers, after its declarator
  unspecified_found : (declared : Declared) (tokens middle : List SourceToken) → is_ahead (begins_specifier known false) tokens ≡ false
      → Declares known false declared tokens middle
      → Yields (λ it rest. Begins (external_form known it) tokens rest) (function_rule table [] declared middle)
  unspecified_found declared tokens middle unbegun declares =
      then_gives _ _ (block_found known table found middle) (λ body rest block.
      let whole : Form = when (is_named declared) (declarator_form known false declared) ⨾ block_form known body in
      let begins : Begins whole tokens rest = then_begins (when_begins (declares.named refl) declares.begins) block in
      some_gives (tree.function_definition tree.no_specifiers declared body) rest
      (then_begins (nothing_begins tokens) (when_begins (ends_there known false whole tokens rest begins unbegun) begins)))

  -- a function or a declaration, after its first declarator
  behind_found : (its : List Specified) (declared : Declared) (tokens between middle : List SourceToken) → SomeSpecified known its tokens between
      → Declares known false declared between middle
      → Yields (λ it rest. Begins (external_form known it) tokens rest) (external_behind known table its declared middle)
  behind_found its declared tokens between middle specified declares =
      if_gives (is_mark_ahead (codes "{") middle) _ _
      (λ is. function_found its declared tokens between middle specified declares)
      (λ is. then_gives _ _ (declared_found known table found its declared tokens between middle specified declares) (λ it rest begins.
      some_gives (tree.declaration it) rest begins))

  -- one that begins with specifiers
  specified_found : (tokens : List SourceToken) → Yields (λ it rest. Begins (external_form known it) tokens rest) (specified_rule known table tokens)
  specified_found tokens =
      then_gives _ _ (specifiers_begin known tokens) (λ its middle specified.
      going_gives _ _ _ (mark_gives (codes ";") middle)
      (λ at rest is closing. some_gives (tree.declaration (bare its)) rest (bare_found known table found its tokens middle rest specified closing.plain))
      (λ is. then_gives _ _ (declarator_begins known false middle) (λ declared behind declares.
      behind_found its declared tokens middle behind specified declares)))

  -- an external declaration
  pub external_rule_found : (tokens : List SourceToken) → Yields (λ it rest. Begins (external_form known it) tokens rest) (external_rule known table tokens)
  external_rule_found tokens =
      if_gives (is_ahead (begins_specifier known false) tokens) _ _
      (λ is. specified_found tokens)
      (λ unbegun. then_gives _ _ (declarator_begins known false tokens) (λ declared middle declares. unspecified_found declared tokens middle unbegun declares))

-- what is read of an external declaration is one
pub external_found : (known : Known) (tokens : List SourceToken)
    → Yields (λ (it : ExternalDeclaration) rest. Begins (external_form known it) tokens rest) (external_rule known (reading known) tokens)
external_found known tokens = external_rule_found known (reading known) (reading_found known) tokens
