-- Each rule reads the same if it may ask the table about shorter lists alone: it asks about no others.
--     rule_alike       a rule over shorter lists alone
--     whole, round     so the reading is a table that reads by the rules
use Rattle.std.proofs.Common.{◌≡◌, ℕ, zero, suc, ◌<◌, ◌≤◌, Bool, true, false, List, [], ◌∷◌, ◌++◌, length, Option, Some, None, ◌∙◌, arith}
use Rattle.std.specs.Prelude.{nat_lt, if◌then◌else◌}
use Rattle.hs_tokens.specs.declared.token.SourceToken.{SourceToken}
use Rattle.hs_syntax.specs.StatementViews.{OneStatement}
use Rattle.hs_syntax.specs.Trees.{Specified, Declared, Initialising, Declaring, Declaration, Labelling, Statement}
use Rattle.hs_tokens.specs.declared.place.Place.{Place}
use Rattle.hs_expr_parser.specs.Ahead.{place_of}
use Rattle.hs_expr_parser.specs.Reading.{Known}
use Rattle.hs_expr_parser.specs.Recursion.{below}
use Rattle.hs_expr_parser.specs.Laws.Bound.{Alike, alike_none, alike_some, alike_more, alike_bind, alike_going, alike_if, alike_mark, alike_first}
use Rattle.hs_expr_parser.specs.Laws.Phrases.{expression_short, assignment_short, conditional_short, specifiers_short, declarator_short}
use Rattle.hs_expr_parser.specs.Laws.Recursions as recursions
use Rattle.hs_expr_parser.specs.Laws.Recursions.{Short, IsByRules}
use Rattle.hs_expr_parser.specs.Laws.Rounds.{asks, fixed_by_rules}
use Rattle.hs_decl_parser.specs.Goals as goal
use Rattle.hs_decl_parser.specs.Goals.{Goal, Tree}
use Rattle.hs_decl_parser.specs.Reading.{Shorter, braces_rule, starting_value, initialiser_rule, initialisers_rule, start_rule, item_behind, item_rule, items_rule, declared_rule, declaration_rule, declarations_rule, inner_rule, block_rule, test_rule, optional_rule, if_rule, while_rule, do_rule, controls_rule, for_rule, switch_rule, ended_rule, return_rule, plain_rule, statement_by, statement_rule, label_rule, labels_rule, labelled_rule, statements_rule, rule, reading}
use Rattle.hs_decl_parser.specs.Words.{statement_word_of, keyword_at}
use Rattle.hs_decl_parser.specs.declared.words.StatementWord.{StatementWord}
use Rattle.hs_decl_parser.specs.declared.words.StatementWord.TheVariants.{If, While, Do, For, Switch, Break, Continue, Return}
use Rattle.hs_decl_parser.proofs.Expected.{Whole}

-- ---- what asks no table

-- a word
alike_keyword : (word : List ℕ) (tokens : List SourceToken) → Alike (length tokens) (keyword_at word tokens) (keyword_at word tokens)
alike_keyword word tokens = alike_first _ tokens

-- an expression as an initialiser
starting : (known : Known) (tokens : List SourceToken) → Alike (length tokens) (starting_value known tokens) (starting_value known tokens)
starting known tokens = alike_bind (assignment_short known tokens) λ e short. alike_some short

-- an expression in parentheses
test : (known : Known) (tokens : List SourceToken) → Alike (length tokens) (test_rule known tokens) (test_rule known tokens)
test known tokens =
    alike_bind (alike_mark _ tokens) λ opening short.
    alike_bind (expression_short known opening.1) λ e shorter.
    alike_bind (alike_mark _ e.1) λ close shortest.
    alike_some (omega arith)

-- an expression or none
optional : (known : Known) (mark : List ℕ) (tokens : List SourceToken)
    → Alike (length tokens) (optional_rule known mark tokens) (optional_rule known mark tokens)
optional known mark tokens =
    alike_going (alike_mark _ tokens) (λ end rest short. alike_some short)
    (alike_bind (expression_short known tokens) λ e short.
    alike_bind (alike_mark _ e.1) λ end shorter.
    alike_some (omega arith))

-- what stands in the parentheses of a `for`
controls : (known : Known) (tokens : List SourceToken) → Alike (length tokens) (controls_rule known tokens) (controls_rule known tokens)
controls known tokens =
    alike_bind (alike_mark _ tokens) λ opening short.
    alike_bind (optional known _ opening.1) λ first shorter.
    alike_bind (optional known _ first.1) λ check shortest.
    alike_bind (optional known _ check.1) λ step least.
    alike_some (omega arith)

-- a word and a semicolon
ended : (it : Statement) (rest : List SourceToken) → Alike (suc (length rest)) (ended_rule it rest) (ended_rule it rest)
ended it rest = alike_bind (alike_mark _ rest) λ end short. alike_some (omega arith)

-- `return`
return_of : (known : Known) (at : Place) (rest : List SourceToken) → Alike (suc (length rest)) (return_rule known at rest) (return_rule known at rest)
return_of known at rest = alike_bind (optional known _ rest) λ value short. alike_some (omega arith)

-- a label
label : (known : Known) (source : SourceToken) (rest : List SourceToken)
    → Alike (suc (length rest)) (label_rule known source rest) (label_rule known source rest)
label known source rest =
    alike_if _
    (alike_bind (conditional_short known rest) λ e short.
    alike_bind (alike_mark _ e.1) λ colon shorter.
    alike_some (omega arith))
    (alike_bind (alike_mark _ rest) λ colon short. alike_some (omega arith))

module _ (known : Known) (limit : ℕ) (table : Shorter) (shorts : Short table) where
  -- ---- declarations

  -- a list of initialisers
  braces : (at : Place) (rest : List SourceToken) → length rest < limit
      → Alike (suc (length rest)) (braces_rule (below limit table) at rest) (braces_rule table at rest)
  braces at rest low =
      alike_bind (asks limit table shorts (goal.initialisers []) rest low) λ its short.
      alike_bind (alike_mark _ its.1) λ close shorter.
      alike_some (omega arith)

  -- an initialiser
  initialiser : (tokens : List SourceToken) → length tokens ≤ limit
      → Alike (length tokens) (initialiser_rule known (below limit table) tokens) (initialiser_rule known table tokens)
  initialiser tokens low =
      alike_going (alike_mark _ tokens) (λ brace rest short. alike_more (omega arith) (braces brace rest (omega arith))) (starting known tokens)

  -- initialisers
  initialisers : (earlier : List Initialising) (tokens : List SourceToken) → length tokens ≤ limit
      → Alike (length tokens) (initialisers_rule known (below limit table) earlier tokens) (initialisers_rule known table earlier tokens)
  initialisers earlier tokens low =
      alike_bind (initialiser tokens low) λ it short.
      alike_going (alike_mark _ it.1)
      (λ comma rest shorter.
      alike_if _ (alike_some (omega arith)) (alike_more (omega arith) (asks limit table shorts (goal.initialisers (earlier ++ it.0 ∷ [])) rest (omega arith))))
      (alike_some (omega arith))

  -- what a declarator starts with
  start : (tokens : List SourceToken) → length tokens ≤ limit
      → Alike (suc (length tokens)) (start_rule (below limit table) tokens) (start_rule table tokens)
  start tokens low =
      alike_going (alike_mark _ tokens)
      (λ equals rest short.
      alike_bind (asks limit table shorts goal.initialiser rest (omega arith)) λ it shorter.
      alike_some (omega arith))
      (alike_some (omega arith))

  -- a declarator with it
  item_of : (declared : Declared) (tokens : List SourceToken) → length tokens ≤ limit
      → Alike (suc (length tokens)) (item_behind (below limit table) declared tokens) (item_behind table declared tokens)
  item_of declared tokens low = alike_bind (start tokens low) λ it short. alike_some (omega arith)

  -- one from its declarator on
  item : (tokens : List SourceToken) → length tokens ≤ limit
      → Alike (suc (length tokens)) (item_rule known (below limit table) tokens) (item_rule known table tokens)
  item tokens low =
      alike_bind (declarator_short known false tokens) λ declared short.
      alike_more (omega arith) (item_of declared.0 declared.1 (omega arith))

  -- the rest of them
  items : (earlier : List Declaring) (tokens : List SourceToken) → length tokens ≤ limit
      → Alike (suc (length tokens)) (items_rule known (below limit table) earlier tokens) (items_rule known table earlier tokens)
  items earlier tokens low =
      alike_going (alike_mark _ tokens)
      (λ comma rest short.
      alike_bind (item rest (omega arith)) λ it shorter.
      alike_more (omega arith) (asks limit table shorts (goal.items (earlier ++ it.0 ∷ [])) it.1 (omega arith)))
      (alike_some (omega arith))

  -- the rest of a declaration
  declared_of : (its : List Specified) (declared : Declared) (tokens : List SourceToken) → length tokens ≤ limit
      → Alike (suc (length tokens)) (declared_rule known (below limit table) its declared tokens) (declared_rule known table its declared tokens)
  declared_of its declared tokens low =
      alike_bind (item_of declared tokens low) λ first short.
      alike_bind (items (first.0 ∷ []) first.1 (omega arith)) λ all shorter.
      alike_bind (alike_mark _ all.1) λ end shortest.
      alike_some (omega arith)

  -- a declaration
  declaration : (tokens : List SourceToken) → length tokens ≤ limit
      → Alike (length tokens) (declaration_rule known (below limit table) tokens) (declaration_rule known table tokens)
  declaration tokens low =
      alike_bind (specifiers_short known tokens) λ its short.
      alike_going (alike_mark _ its.1) (λ end rest shorter. alike_some (omega arith))
      (alike_bind (declarator_short known false its.1) λ declared shorter.
      alike_more (omega arith) (declared_of its.0 declared.0 declared.1 (omega arith)))

  -- declarations
  declarations : (earlier : List Declaration) (tokens : List SourceToken) → length tokens ≤ limit
      → Alike (suc (length tokens)) (declarations_rule known (below limit table) earlier tokens) (declarations_rule known table earlier tokens)
  declarations earlier tokens low =
      alike_if _
      (alike_bind (declaration tokens low) λ it short.
      alike_more (omega arith) (asks limit table shorts (goal.declarations (earlier ++ it.0 ∷ [])) it.1 (omega arith)))
      (alike_some (omega arith))

  -- ---- statements

  -- a compound statement, after its `{`
  inner : (at : Place) (rest : List SourceToken) → length rest < limit
      → Alike (suc (length rest)) (inner_rule (below limit table) at rest) (inner_rule table at rest)
  inner at rest low =
      alike_bind (asks limit table shorts (goal.declarations []) rest low) λ declarations short.
      alike_bind (asks limit table shorts (goal.statements []) declarations.1 (omega arith)) λ statements shorter.
      alike_bind (alike_mark _ statements.1) λ close shortest.
      alike_some (omega arith)

  -- a compound statement
  pub block : (tokens : List SourceToken) → length tokens ≤ limit
      → Alike (length tokens) (block_rule (below limit table) tokens) (block_rule table tokens)
  block tokens low =
      alike_bind (alike_mark _ tokens) λ brace short.
      alike_more (omega arith) (inner brace.0 brace.1 (omega arith))

  -- `if`
  if_of : (at : Place) (rest : List SourceToken) → length rest < limit
      → Alike (suc (length rest)) (if_rule known (below limit table) at rest) (if_rule known table at rest)
  if_of at rest low =
      alike_bind (test known rest) λ check short.
      alike_bind (asks limit table shorts goal.statement check.1 (omega arith)) λ taken shorter.
      alike_going (alike_keyword _ taken.1)
      (λ word others shortest.
      alike_bind (asks limit table shorts goal.statement others (omega arith)) λ otherwise least.
      alike_some (omega arith))
      (alike_some (omega arith))

  -- `while`
  while_of : (at : Place) (rest : List SourceToken) → length rest < limit
      → Alike (suc (length rest)) (while_rule known (below limit table) at rest) (while_rule known table at rest)
  while_of at rest low =
      alike_bind (test known rest) λ check short.
      alike_bind (asks limit table shorts goal.statement check.1 (omega arith)) λ body shorter.
      alike_some (omega arith)

  -- `do`
  do_of : (at : Place) (rest : List SourceToken) → length rest < limit
      → Alike (suc (length rest)) (do_rule known (below limit table) at rest) (do_rule known table at rest)
  do_of at rest low =
      alike_bind (asks limit table shorts goal.statement rest low) λ body short.
      alike_bind (alike_keyword _ body.1) λ word shorter.
      alike_bind (test known word.1) λ check shortest.
      alike_bind (alike_mark _ check.1) λ end least.
      alike_some (omega arith)

  -- `for`
  for_of : (at : Place) (rest : List SourceToken) → length rest < limit
      → Alike (suc (length rest)) (for_rule known (below limit table) at rest) (for_rule known table at rest)
  for_of at rest low =
      alike_bind (controls known rest) λ its short.
      alike_bind (asks limit table shorts goal.statement its.1 (omega arith)) λ body shorter.
      alike_some (omega arith)

  -- `switch`
  switch_of : (at : Place) (rest : List SourceToken) → length rest < limit
      → Alike (suc (length rest)) (switch_rule known (below limit table) at rest) (switch_rule known table at rest)
  switch_of at rest low =
      alike_bind (test known rest) λ value short.
      alike_bind (block value.1 (omega arith)) λ body shorter.
      alike_some (omega arith)

  -- a statement that begins with no word of its own
  plain_of : (source : SourceToken) (rest : List SourceToken) → length rest < limit
      → Alike (suc (length rest)) (plain_rule known (below limit table) source rest) (plain_rule known table source rest)
  plain_of source rest low =
      alike_if _ (alike_bind (inner (place_of source) rest low) λ it short. alike_some (omega arith))
      (alike_if _ (alike_some (omega arith))
      (alike_bind (expression_short known (source ∷ rest)) λ e short.
      alike_bind (alike_mark _ e.1) λ end shorter.
      alike_some (omega arith)))

  -- a statement, by its word
  statement_with : (word : Option StatementWord) (source : SourceToken) (rest : List SourceToken) → length rest < limit
      → Alike (suc (length rest)) (statement_by known (below limit table) word source rest) (statement_by known table word source rest)
  statement_with (Some If) source rest low = if_of (place_of source) rest low
  statement_with (Some While) source rest low = while_of (place_of source) rest low
  statement_with (Some Do) source rest low = do_of (place_of source) rest low
  statement_with (Some For) source rest low = for_of (place_of source) rest low
  statement_with (Some Switch) source rest low = switch_of (place_of source) rest low
  statement_with (Some Break) source rest low = ended _ rest
  statement_with (Some Continue) source rest low = ended _ rest
  statement_with (Some Return) source rest low = return_of known (place_of source) rest
  statement_with None source rest low = plain_of source rest low

  -- a statement
  statement : (tokens : List SourceToken) → length tokens ≤ limit
      → Alike (length tokens) (statement_rule known (below limit table) tokens) (statement_rule known table tokens)
  statement [] low = alike_none
  statement (source ∷ rest) low = statement_with (statement_word_of source) source rest (omega arith)

  -- labels
  labels : (earlier : List Labelling) (tokens : List SourceToken) → length tokens ≤ limit
      → Alike (suc (length tokens)) (labels_rule known (below limit table) earlier tokens) (labels_rule known table earlier tokens)
  labels earlier [] low = alike_some (omega arith)
  labels earlier (source ∷ rest) low =
      alike_if _
      (alike_bind (label known source rest) λ it short.
      alike_more (omega arith) (asks limit table shorts (goal.labels (earlier ++ it.0 ∷ [])) it.1 (omega arith)))
      (alike_some (omega arith))

  -- a statement with its labels
  labelled : (tokens : List SourceToken) → length tokens ≤ limit
      → Alike (length tokens) (labelled_rule known (below limit table) tokens) (labelled_rule known table tokens)
  labelled tokens low =
      alike_bind (labels [] tokens low) λ its short.
      alike_bind (statement its.1 (omega arith)) λ it shorter.
      alike_some (omega arith)

  -- statements
  statements : (earlier : List OneStatement) (tokens : List SourceToken) → length tokens ≤ limit
      → Alike (suc (length tokens)) (statements_rule known (below limit table) earlier tokens) (statements_rule known table earlier tokens)
  statements earlier tokens low =
      alike_if _ (alike_some (omega arith))
      (alike_bind (labelled tokens low) λ it short.
      alike_more (omega arith) (asks limit table shorts (goal.statements (earlier ++ it.0 ∷ [])) it.1 (omega arith)))

  -- ---- all of them

  -- each rule, by the goal
  pub rule_alike : (it : Goal) (tokens : List SourceToken) → length tokens ≤ limit
      → Alike (suc (length tokens)) (rule known (below limit table) it tokens) (rule known table it tokens)
  rule_alike goal.initialiser tokens low = alike_more (omega arith) (initialiser tokens low)
  rule_alike (goal.initialisers earlier) tokens low = alike_more (omega arith) (initialisers earlier tokens low)
  rule_alike (goal.items earlier) tokens low = items earlier tokens low
  rule_alike (goal.declarations earlier) tokens low = declarations earlier tokens low
  rule_alike (goal.labels earlier) tokens low = labels earlier tokens low
  rule_alike (goal.statements earlier) tokens low = statements earlier tokens low
  rule_alike goal.statement tokens low = alike_more (omega arith) (statement tokens low)

-- the reading is a table that reads by the rules
reads_by_rules : (known : Known) → IsByRules (rule known) (reading known)
unfolding reading
reads_by_rules known = fixed_by_rules (rule known) (λ limit table shorts it tokens low. rule_alike known limit table shorts it tokens low)

pub whole : (known : Known) → Whole known (reading known)
whole known = record { plain = (reads_by_rules known).plain; short = (reads_by_rules known).short }

-- one round of it
pub round : (known : Known) → reading known ≡ rule known (reading known)
round known = recursions.round (reads_by_rules known)
