-- How declarations, statements and external declarations are read from left to right (X3.159-1989 3.5.7, 3.6, 3.7): a rule for each
-- phrase, over a table of readings for shorter lists. `Grammar.antt` of hs_syntax says what is right; the clauses of `unit` have that
-- the reading agrees with it.
--     rule known goal         the rule of a goal, if these typedef names are known
--     reading known goal      what is read, and the tokens after it
use Rattle.std.specs.Prelude.{ℕ, Bool, true, false, List, [], ◌∷◌, ◌++◌, codes, Option, Some, None, if◌then◌else◌}
use Rattle.hs_base.specs.Options.{◌>>=◌}
use Rattle.hs_tokens.specs.declared.token.SourceToken.{SourceToken}
use Rattle.hs_syntax.specs.RowViews.{specification_from}
use Rattle.hs_syntax.specs.StatementViews.{OneStatement, one_statement, initialisers_from, statements_from}
use Rattle.hs_syntax.specs.Trees as tree
use Rattle.hs_syntax.specs.Trees.{Expression, Specified, Declared, Initialising, Declaring, Declaration, Labelling, Statement, Compound, ExternalDeclaration}
use Rattle.hs_tokens.specs.declared.place.Place.{Place}
use Rattle.hs_expr_parser.specs.Ahead.{place_of, is_punctuator, is_keyword, is_ahead, is_mark_ahead, mark_at, begins_specifier}
use Rattle.hs_expr_parser.specs.Reading.{Known, going_on}
use Rattle.hs_expr_parser.specs.Recursion.{Read, Table, fixed}
use Rattle.hs_expr_parser.specs.Steps.{expression_at, assignment_at, conditional_at, some_specifiers_at, declarator_at}
use Rattle.hs_decl_parser.specs.Goals as goal
use Rattle.hs_decl_parser.specs.Goals.{Goal, Tree}
use Rattle.hs_decl_parser.specs.Words.{statement_word_of, keyword_at, begins_label}
use Rattle.hs_decl_parser.specs.declared.words.StatementWord.{StatementWord}
use Rattle.hs_decl_parser.specs.declared.words.StatementWord.TheVariants.{If, While, Do, For, Switch, Break, Continue, Return}

-- readings of shorter lists
abbrev pub Shorter : Type 0
Shorter = Table Goal Tree

-- ---- declarations (3.5)

-- a list of initialisers, after its `{`
abbrev pub braces_rule : Shorter → Place → List SourceToken → Read Initialising
braces_rule table at rest = do
  its ← table (goal.initialisers []) rest
  close ← mark_at (codes "}") its.1
  Some (tree.list at (initialisers_from its.0.0) its.0.1, close.1)

-- an expression as an initialiser
abbrev pub starting_value : Known → List SourceToken → Read Initialising
starting_value known tokens = do
  e ← assignment_at known tokens
  Some (tree.value e.0, e.1)

abbrev pub initialiser_rule : Known → Shorter → List SourceToken → Read Initialising
initialiser_rule known table tokens =
    going_on (mark_at (codes "{") tokens) (λ brace rest. braces_rule table brace rest) (starting_value known tokens)

abbrev pub initialisers_rule : Known → Shorter → List Initialising → List SourceToken → Read (List Initialising × Bool)
initialisers_rule known table earlier tokens = do
  it ← initialiser_rule known table tokens
  going_on (mark_at (codes ",") it.1) (λ comma rest. if is_mark_ahead (codes "}") rest then Some ((earlier ++ it.0 ∷ [], true), rest)
      else table (goal.initialisers (earlier ++ it.0 ∷ [])) rest)
      (Some ((earlier ++ it.0 ∷ [], false), it.1))

-- what a declarator starts with, after it
abbrev pub start_rule : Shorter → List SourceToken → Read (Option Initialising)
start_rule table tokens =
    going_on (mark_at (codes "=") tokens) (λ equals rest. (do
      it ← table goal.initialiser rest
      Some (Some it.0, it.1)))
    (Some (None, tokens))

-- a declarator with what it starts with, after the declarator
abbrev pub item_behind : Shorter → Declared → List SourceToken → Read Declaring
item_behind table declared tokens = do
  start ← start_rule table tokens
  Some (record { declarator = declared; initialiser = start.0 }, start.1)

abbrev pub item_rule : Known → Shorter → List SourceToken → Read Declaring
item_rule known table tokens = do
  declared ← declarator_at known false tokens
  item_behind table declared.0 declared.1

-- the rest of a declaration's declarators, after earlier ones
abbrev pub items_rule : Known → Shorter → List Declaring → List SourceToken → Read (List Declaring)
items_rule known table earlier tokens =
    going_on (mark_at (codes ",") tokens) (λ comma rest. (do
      it ← item_rule known table rest
      table (goal.items (earlier ++ it.0 ∷ [])) it.1))
    (Some (earlier, tokens))

-- the rest of a declaration, after its first declarator
abbrev pub declared_rule : Known → Shorter → List Specified → Declared → List SourceToken → Read Declaration
declared_rule known table specifiers declared tokens = do
  first ← item_behind table declared tokens
  its ← items_rule known table (first.0 ∷ []) first.1
  end ← mark_at (codes ";") its.1
  Some (record { specifiers = specification_from specifiers; items = its.0 }, end.1)

-- a declaration that declares no more than its specifiers do
abbrev pub bare : List Specified → Declaration
bare specifiers = record { specifiers = specification_from specifiers; items = [] }

abbrev pub declaration_rule : Known → Shorter → List SourceToken → Read Declaration
declaration_rule known table tokens = do
  its ← some_specifiers_at known tokens
  going_on (mark_at (codes ";") its.1) (λ end rest. Some (bare its.0, rest)) (do
    declared ← declarator_at known false its.1
    declared_rule known table its.0 declared.0 declared.1)

abbrev pub declarations_rule : Known → Shorter → List Declaration → List SourceToken → Read (List Declaration)
declarations_rule known table earlier tokens =
    if is_ahead (begins_specifier known false) tokens then (do
      it ← declaration_rule known table tokens
      table (goal.declarations (earlier ++ it.0 ∷ [])) it.1)
    else Some (earlier, tokens)

-- ---- statements (3.6)

-- a compound statement, after its `{`
abbrev pub inner_rule : Shorter → Place → List SourceToken → Read Compound
inner_rule table at rest = do
  declarations ← table (goal.declarations []) rest
  statements ← table (goal.statements []) declarations.1
  close ← mark_at (codes "}") statements.1
  Some (tree.compound at declarations.0 (statements_from statements.0) close.0, close.1)

abbrev pub block_rule : Shorter → List SourceToken → Read Compound
block_rule table tokens = do
  brace ← mark_at (codes "{") tokens
  inner_rule table brace.0 brace.1

-- an expression in parentheses
abbrev pub test_rule : Known → List SourceToken → Read Expression
test_rule known tokens = do
  opening ← mark_at (codes "(") tokens
  e ← expression_at known opening.1
  close ← mark_at (codes ")") e.1
  Some (e.0, close.1)

-- an expression or none, and the punctuator after it
abbrev pub optional_rule : Known → List ℕ → List SourceToken → Read (Option Expression)
optional_rule known mark tokens =
    going_on (mark_at mark tokens) (λ end rest. Some (None, rest)) (do
      e ← expression_at known tokens
      end ← mark_at mark e.1
      Some (Some e.0, end.1))

abbrev pub if_rule : Known → Shorter → Place → List SourceToken → Read Statement
if_rule known table at rest = do
  test ← test_rule known rest
  taken ← table goal.statement test.1
  going_on (keyword_at (codes "else") taken.1) (λ word others. (do
    otherwise ← table goal.statement others
    Some (tree.if_else at test.0 taken.0 otherwise.0, otherwise.1)))
      (Some (tree.if_ at test.0 taken.0, taken.1))

abbrev pub while_rule : Known → Shorter → Place → List SourceToken → Read Statement
while_rule known table at rest = do
  test ← test_rule known rest
  body ← table goal.statement test.1
  Some (tree.while_ at test.0 body.0, body.1)

abbrev pub do_rule : Known → Shorter → Place → List SourceToken → Read Statement
do_rule known table at rest = do
  body ← table goal.statement rest
  word ← keyword_at (codes "while") body.1
  test ← test_rule known word.1
  end ← mark_at (codes ";") test.1
  Some (tree.do_ at body.0 test.0, end.1)

-- what stands in the parentheses of a `for`
pub record Controls : Type 0 where
  pub first : Option Expression
  pub test : Option Expression
  pub step : Option Expression

abbrev pub controls_rule : Known → List SourceToken → Read Controls
controls_rule known tokens = do
  opening ← mark_at (codes "(") tokens
  first ← optional_rule known (codes ";") opening.1
  test ← optional_rule known (codes ";") first.1
  step ← optional_rule known (codes ")") test.1
  Some (record { first = first.0; test = test.0; step = step.0 }, step.1)

abbrev pub for_rule : Known → Shorter → Place → List SourceToken → Read Statement
for_rule known table at rest = do
  controls ← controls_rule known rest
  body ← table goal.statement controls.1
  Some (tree.for_ at controls.0.first controls.0.test controls.0.step body.0, body.1)

abbrev pub switch_rule : Known → Shorter → Place → List SourceToken → Read Statement
switch_rule known table at rest = do
  value ← test_rule known rest
  body ← block_rule table value.1
  Some (tree.switch_ at value.0 body.0, body.1)

-- a word and a semicolon
abbrev pub ended_rule : Statement → List SourceToken → Read Statement
ended_rule it rest = do
  end ← mark_at (codes ";") rest
  Some (it, end.1)

abbrev pub return_rule : Known → Place → List SourceToken → Read Statement
return_rule known at rest = do
  value ← optional_rule known (codes ";") rest
  Some (tree.return_ at value.0, value.1)

-- a statement that begins with no word of its own
abbrev pub plain_rule : Known → Shorter → SourceToken → List SourceToken → Read Statement
plain_rule known table source rest =
    if is_punctuator (codes "{") source then (do
      it ← inner_rule table (place_of source) rest
      Some (tree.block it.0, it.1))
    else if is_punctuator (codes ";") source then Some (tree.empty (place_of source), rest)
    else (do
      e ← expression_at known (source ∷ rest)
      end ← mark_at (codes ";") e.1
      Some (tree.expression e.0, end.1))

abbrev pub statement_by : Known → Shorter → Option StatementWord → SourceToken → List SourceToken → Read Statement
statement_by known table (Some If) source rest = if_rule known table (place_of source) rest
statement_by known table (Some While) source rest = while_rule known table (place_of source) rest
statement_by known table (Some Do) source rest = do_rule known table (place_of source) rest
statement_by known table (Some For) source rest = for_rule known table (place_of source) rest
statement_by known table (Some Switch) source rest = switch_rule known table (place_of source) rest
statement_by known table (Some Break) source rest = ended_rule (tree.break_ (place_of source)) rest
statement_by known table (Some Continue) source rest = ended_rule (tree.continue_ (place_of source)) rest
statement_by known table (Some Return) source rest = return_rule known (place_of source) rest
statement_by known table None source rest = plain_rule known table source rest

abbrev pub statement_rule : Known → Shorter → List SourceToken → Read Statement
statement_rule known table [] = None
statement_rule known table (source ∷ rest) = statement_by known table (statement_word_of source) source rest

-- a label that begins with that token (3.6.1)
abbrev pub label_rule : Known → SourceToken → List SourceToken → Read Labelling
label_rule known source rest =
    if is_keyword (codes "case") source then (do
      e ← conditional_at known rest
      colon ← mark_at (codes ":") e.1
      Some (tree.case_ (place_of source) e.0, colon.1))
    else (do
      colon ← mark_at (codes ":") rest
      Some (tree.default_ (place_of source), colon.1))

abbrev pub labels_rule : Known → Shorter → List Labelling → List SourceToken → Read (List Labelling)
labels_rule known table earlier [] = Some (earlier, [])
labels_rule known table earlier (source ∷ rest) =
    if begins_label source then (do
      it ← label_rule known source rest
      table (goal.labels (earlier ++ it.0 ∷ [])) it.1)
    else Some (earlier, source ∷ rest)

-- a statement with the labels in front of it
abbrev pub labelled_rule : Known → Shorter → List SourceToken → Read OneStatement
labelled_rule known table tokens = do
  labels ← labels_rule known table [] tokens
  it ← statement_rule known table labels.1
  Some (one_statement labels.0 it.0, it.1)

-- up to a `}`
abbrev pub statements_rule : Known → Shorter → List OneStatement → List SourceToken → Read (List OneStatement)
statements_rule known table earlier tokens =
    if is_mark_ahead (codes "}") tokens then Some (earlier, tokens) else (do
      it ← labelled_rule known table tokens
      table (goal.statements (earlier ++ it.0 ∷ [])) it.1)

-- ---- all of them

abbrev pub rule : Known → Shorter → Shorter
rule known table goal.initialiser tokens = initialiser_rule known table tokens
rule known table (goal.initialisers earlier) tokens = initialisers_rule known table earlier tokens
rule known table (goal.items earlier) tokens = items_rule known table earlier tokens
rule known table (goal.declarations earlier) tokens = declarations_rule known table earlier tokens
rule known table (goal.labels earlier) tokens = labels_rule known table earlier tokens
rule known table (goal.statements earlier) tokens = statements_rule known table earlier tokens
rule known table goal.statement tokens = statement_rule known table tokens

-- what is read, and the tokens after it
unfoldable pub reading : Known → Shorter
reading known = fixed (rule known)

-- ---- external declarations (3.7)

-- a function, after its declarator
abbrev pub function_rule : Shorter → List Specified → Declared → List SourceToken → Read ExternalDeclaration
function_rule table specifiers declared tokens = do
  body ← block_rule table tokens
  Some (tree.function_definition (specification_from specifiers) declared body.0, body.1)

-- a function or a declaration, after its first declarator
abbrev pub external_behind : Known → Shorter → List Specified → Declared → List SourceToken → Read ExternalDeclaration
external_behind known table specifiers declared tokens =
    if is_mark_ahead (codes "{") tokens then function_rule table specifiers declared tokens else (do
      it ← declared_rule known table specifiers declared tokens
      Some (tree.declaration it.0, it.1))

-- one that begins with specifiers
abbrev pub specified_rule : Known → Shorter → List SourceToken → Read ExternalDeclaration
specified_rule known table tokens = do
  its ← some_specifiers_at known tokens
  going_on (mark_at (codes ";") its.1) (λ end rest. Some (tree.declaration (bare its.0), rest)) (do
    declared ← declarator_at known false its.1
    external_behind known table its.0 declared.0 declared.1)

abbrev pub external_rule : Known → Shorter → List SourceToken → Read ExternalDeclaration
external_rule known table tokens =
    if is_ahead (begins_specifier known false) tokens then specified_rule known table tokens else (do
      declared ← declarator_at known false tokens
      function_rule table [] declared.0 declared.1)
