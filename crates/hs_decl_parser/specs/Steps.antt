-- What each function of the parser reads: the rules of `Reading.antt`, each over the reading itself.
--     initialiser_at known tokens, declaration_at, statement_at, external_at, ..
use Rattle.std.specs.Prelude.{ℕ, Bool, List, codes, Option, Some}
use Rattle.hs_base.specs.Options.{◌>>=◌}
use Rattle.hs_tokens.specs.declared.token.SourceToken.{SourceToken}
use Rattle.hs_syntax.specs.StatementViews.{OneStatement}
use Rattle.hs_syntax.specs.Trees as tree
use Rattle.hs_syntax.specs.Trees.{Expression, Specified, Declared, Initialising, Declaring, Declaration, Labelling, Statement, Compound, ExternalDeclaration}
use Rattle.hs_tokens.specs.declared.place.Place.{Place}
use Rattle.hs_expr_parser.specs.Ahead.{mark_at}
use Rattle.hs_expr_parser.specs.Reading.{Known}
use Rattle.hs_expr_parser.specs.Recursion.{Read}
use Rattle.hs_expr_parser.specs.Steps.{expression_at}
use Rattle.hs_decl_parser.specs.Reading.{Controls, reading, braces_rule, initialiser_rule, initialisers_rule, start_rule, item_behind, item_rule, items_rule, declared_rule, declaration_rule, declarations_rule, inner_rule, block_rule, test_rule, optional_rule, if_rule, while_rule, do_rule, controls_rule, for_rule, switch_rule, ended_rule, return_rule, plain_rule, statement_rule, label_rule, labels_rule, labelled_rule, statements_rule, function_rule, external_behind, specified_rule, external_rule}

-- ---- declarations

-- a list of initialisers, after its `{`
unfoldable pub braces_at : Known → Place → List SourceToken → Read Initialising
braces_at known at rest = braces_rule (reading known) at rest

unfoldable pub initialiser_at : Known → List SourceToken → Read Initialising
initialiser_at known tokens = initialiser_rule known (reading known) tokens

-- initialisers after earlier ones
unfoldable pub initialisers_at : Known → List Initialising → List SourceToken → Read (List Initialising × Bool)
initialisers_at known earlier tokens = initialisers_rule known (reading known) earlier tokens

-- what a declarator starts with, after it
unfoldable pub start_at : Known → List SourceToken → Read (Option Initialising)
start_at known tokens = start_rule (reading known) tokens

-- a declarator with what it starts with, after the declarator
unfoldable pub item_from : Known → Declared → List SourceToken → Read Declaring
item_from known declared tokens = item_behind (reading known) declared tokens

unfoldable pub item_at : Known → List SourceToken → Read Declaring
item_at known tokens = item_rule known (reading known) tokens

-- the rest of a declaration's declarators, after earlier ones
unfoldable pub items_at : Known → List Declaring → List SourceToken → Read (List Declaring)
items_at known earlier tokens = items_rule known (reading known) earlier tokens

-- the rest of a declaration, after its first declarator
unfoldable pub declared_at : Known → List Specified → Declared → List SourceToken → Read Declaration
declared_at known specifiers declared tokens = declared_rule known (reading known) specifiers declared tokens

unfoldable pub declaration_at : Known → List SourceToken → Read Declaration
declaration_at known tokens = declaration_rule known (reading known) tokens

-- declarations after earlier ones
unfoldable pub declarations_at : Known → List Declaration → List SourceToken → Read (List Declaration)
declarations_at known earlier tokens = declarations_rule known (reading known) earlier tokens

-- ---- statements

-- a compound statement, after its `{`
unfoldable pub inner_at : Known → Place → List SourceToken → Read Compound
inner_at known at rest = inner_rule (reading known) at rest

unfoldable pub block_at : Known → List SourceToken → Read Compound
block_at known tokens = block_rule (reading known) tokens

-- an expression in parentheses
unfoldable pub test_at : Known → List SourceToken → Read Expression
test_at known tokens = test_rule known tokens

-- an expression or none, and the punctuator after it
unfoldable pub optional_at : Known → List ℕ → List SourceToken → Read (Option Expression)
optional_at known mark tokens = optional_rule known mark tokens

unfoldable pub if_at : Known → Place → List SourceToken → Read Statement
if_at known at rest = if_rule known (reading known) at rest

unfoldable pub while_at : Known → Place → List SourceToken → Read Statement
while_at known at rest = while_rule known (reading known) at rest

unfoldable pub do_at : Known → Place → List SourceToken → Read Statement
do_at known at rest = do_rule known (reading known) at rest

-- what stands in the parentheses of a `for`
unfoldable pub controls_at : Known → List SourceToken → Read Controls
controls_at known tokens = controls_rule known tokens

unfoldable pub for_at : Known → Place → List SourceToken → Read Statement
for_at known at rest = for_rule known (reading known) at rest

unfoldable pub switch_at : Known → Place → List SourceToken → Read Statement
switch_at known at rest = switch_rule known (reading known) at rest

-- a word and a semicolon
unfoldable pub ended_at : Statement → List SourceToken → Read Statement
ended_at it rest = ended_rule it rest

unfoldable pub return_at : Known → Place → List SourceToken → Read Statement
return_at known at rest = return_rule known at rest

-- an expression and its semicolon
unfoldable pub ended_expression_at : Known → List SourceToken → Read Statement
ended_expression_at known tokens = do
  e ← expression_at known tokens
  end ← mark_at (codes ";") e.1
  Some (tree.expression e.0, end.1)

-- a statement that begins with no word of its own
unfoldable pub plain_at : Known → SourceToken → List SourceToken → Read Statement
plain_at known source rest = plain_rule known (reading known) source rest

unfoldable pub statement_at : Known → List SourceToken → Read Statement
statement_at known tokens = statement_rule known (reading known) tokens

-- what follows the `else` of an `if` with that test and that first branch
unfoldable pub else_at : Known → Place → Expression → Statement → List SourceToken → Read Statement
else_at known at test taken rest = do
  otherwise ← statement_at known rest
  Some (tree.if_else at test taken otherwise.0, otherwise.1)

-- a label that begins with that token
unfoldable pub label_at : Known → SourceToken → List SourceToken → Read Labelling
label_at known source rest = label_rule known source rest

-- labels after earlier ones
unfoldable pub labels_at : Known → List Labelling → List SourceToken → Read (List Labelling)
labels_at known earlier tokens = labels_rule known (reading known) earlier tokens

-- a statement with the labels in front of it
unfoldable pub labelled_at : Known → List SourceToken → Read OneStatement
labelled_at known tokens = labelled_rule known (reading known) tokens

-- statements after earlier ones
unfoldable pub statements_at : Known → List OneStatement → List SourceToken → Read (List OneStatement)
statements_at known earlier tokens = statements_rule known (reading known) earlier tokens

-- ---- external declarations

-- a function, after its declarator
unfoldable pub function_at : Known → List Specified → Declared → List SourceToken → Read ExternalDeclaration
function_at known specifiers declared tokens = function_rule (reading known) specifiers declared tokens

-- a function or a declaration, after its first declarator
unfoldable pub external_from : Known → List Specified → Declared → List SourceToken → Read ExternalDeclaration
external_from known specifiers declared tokens = external_behind known (reading known) specifiers declared tokens

-- one that begins with specifiers
unfoldable pub specified_at : Known → List SourceToken → Read ExternalDeclaration
specified_at known tokens = specified_rule known (reading known) tokens

unfoldable pub external_at : Known → List SourceToken → Read ExternalDeclaration
external_at known tokens = external_rule known (reading known) tokens
