-- Each phrase of declarations and statements is read wherever its tokens stand in front. The lemmas of each form, tied together:
-- `Expected.antt` has the statements.
--     all_initialiser, all_initialisers                  initialisers
--     all_start, all_items, all_declaration, all_declarations
--     all_labels, all_statement, all_block, all_statements
--     all_external                                       external declarations
use Rattle.std.proofs.Common.{List, [], ◌∷◌, Option, Some, None, refl}
use Rattle.hs_syntax.specs.Trees as tree
use Rattle.hs_syntax.specs.Trees.{Specification, Declared, Initialising, Initialisers, Declaring, Declaration, Labelling, Statement, Compound, Statements, ExternalDeclaration}
use Rattle.hs_expr_parser.specs.Reading.{Known}
use Rattle.hs_decl_parser.proofs.BranchesRead.{if_all, if_else_all, while_all, do_all, for_all, compound_all}
use Rattle.hs_decl_parser.proofs.DeclarationsRead.{bare_all, declared_all, no_declarations_all, more_declarations_all}
use Rattle.hs_decl_parser.proofs.Expected.{Whole, ReadsInitialiser, ReadsInitialisers, ReadsItems, ReadsDeclaration, ReadsDeclarations, ReadsLabels, ReadsStatement, ReadsBlock, ReadsStatements, ReadsExternal}
use Rattle.hs_decl_parser.proofs.ExternalsRead.{plain_function_all, function_all, external_bare_all, external_declared_all}
use Rattle.hs_decl_parser.proofs.InitialisersRead.{value_all, list_all, no_initialisers_all, more_initialisers_all}
use Rattle.hs_decl_parser.proofs.ItemsRead.{ReadsStart, no_start_all, some_start_all, no_items_all, more_items_all}
use Rattle.hs_decl_parser.proofs.LabelsRead.{no_labels_all, case_label_all, default_label_all, no_statements_all, more_statements_all}
use Rattle.hs_decl_parser.proofs.StatementsRead.{block_all, expression_all, empty_all, switch_all, break_all, continue_all, return_all}
use Rattle.hs_decl_parser.specs.Reading.{Shorter}

-- ---- declarations

mutual
  -- an initialiser
  pub all_initialiser : {known : Known} {table : Shorter} → Whole known table → (it : Initialising) → ReadsInitialiser known table it
  all_initialiser whole (tree.value e) = value_all whole e
  all_initialiser whole (tree.list at its comma) = list_all whole at its comma (all_initialisers whole its)

  -- initialisers
  pub all_initialisers : {known : Known} {table : Shorter} → Whole known table → (its : Initialisers) → ReadsInitialisers known table its
  all_initialisers whole tree.no_initialisers = no_initialisers_all whole
  all_initialisers whole (tree.more_initialisers it rest) = more_initialisers_all whole it rest (all_initialiser whole it) (all_initialisers whole rest)

-- what a declarator starts with
pub all_start : {known : Known} {table : Shorter} → Whole known table → (it : Option Initialising) → ReadsStart known table it
all_start {known = known} {table = table} whole None = no_start_all known table
all_start whole (Some it) = some_start_all whole it (all_initialiser whole it)

-- more declarators of a declaration
pub all_items : {known : Known} {table : Shorter} → Whole known table → (its : List Declaring) → ReadsItems known table its
all_items {known = known} {table = table} whole [] = no_items_all known table
all_items whole (it ∷ rest) = more_items_all whole it rest (all_start whole it.initialiser) (all_items whole rest)

-- a declaration
pub all_declaration : {known : Known} {table : Shorter} → Whole known table → (it : Declaration) → ReadsDeclaration known table it
all_declaration {known = known} {table = table} whole it = by_items it.specifiers it.items
  where
    by_items : (specification : Specification) (its : List Declaring) → ReadsDeclaration known table (record { specifiers = specification; items = its })
    by_items specification [] = bare_all known table specification
    by_items specification (first ∷ rest) =
        declared_all known table specification first rest (all_start whole first.initialiser) (all_items whole rest)

-- declarations
pub all_declarations : {known : Known} {table : Shorter} → Whole known table → (its : List Declaration) → ReadsDeclarations known table its
all_declarations {known = known} {table = table} whole [] = no_declarations_all known table
all_declarations whole (it ∷ rest) = more_declarations_all whole it rest (all_declaration whole it) (all_declarations whole rest)

-- ---- statements

-- labels
pub all_labels : {known : Known} {table : Shorter} → Whole known table → (its : List Labelling) → ReadsLabels known table its
all_labels {known = known} {table = table} whole [] = no_labels_all known table
all_labels whole (tree.case_ at e ∷ rest) = case_label_all whole at e rest (all_labels whole rest)
all_labels whole (tree.default_ at ∷ rest) = default_label_all whole at rest (all_labels whole rest)

mutual
  -- a statement
  pub all_statement : {known : Known} {table : Shorter} → Whole known table → (it : Statement) → ReadsStatement known table it
  all_statement whole (tree.block it) = block_all whole it (all_block whole it)
  all_statement whole (tree.expression e) = expression_all whole e
  all_statement whole (tree.empty at) = empty_all whole at
  all_statement whole (tree.if_ at test body) = if_all whole at test body (all_statement whole body)
  all_statement whole (tree.if_else at test taken otherwise) =
      if_else_all whole at test taken otherwise (all_statement whole taken) (all_statement whole otherwise)
  all_statement whole (tree.while_ at test body) = while_all whole at test body (all_statement whole body)
  all_statement whole (tree.do_ at body test) = do_all whole at body test (all_statement whole body)
  all_statement whole (tree.for_ at first test step body) = for_all whole at first test step body (all_statement whole body)
  all_statement whole (tree.switch_ at e it) = switch_all whole at e it (all_block whole it)
  all_statement whole (tree.break_ at) = break_all whole at
  all_statement whole (tree.continue_ at) = continue_all whole at
  all_statement whole (tree.return_ at e) = return_all whole at e

  -- a compound statement
  pub all_block : {known : Known} {table : Shorter} → Whole known table → (it : Compound) → ReadsBlock known table it
  all_block whole (tree.compound at declarations its closing) =
      compound_all whole at declarations its closing (all_declarations whole declarations) (all_statements whole its)

  -- statements with their labels
  pub all_statements : {known : Known} {table : Shorter} → Whole known table → (its : Statements) → ReadsStatements known table its
  all_statements {known = known} {table = table} whole tree.no_statements = no_statements_all known table
  all_statements whole (tree.more_statements labels it rest) =
      more_statements_all whole labels it rest (all_labels whole labels) (all_statement whole it) (all_statements whole rest)

-- ---- external declarations

-- a function, with specifiers or without
all_function : {known : Known} {table : Shorter} → Whole known table → (specification : Specification) (declared : Declared) (it : Compound)
    → ReadsExternal known table (tree.function_definition specification declared it)
all_function whole tree.no_specifiers declared it = plain_function_all whole declared it (all_block whole it)
all_function whole (tree.more_specifiers first rest) declared it = function_all whole (tree.more_specifiers first rest) declared it refl (all_block whole it)

-- an external declaration
pub all_external : {known : Known} {table : Shorter} → Whole known table → (it : ExternalDeclaration) → ReadsExternal known table it
all_external whole (tree.function_definition specification declared it) = all_function whole specification declared it
all_external {known = known} {table = table} whole (tree.declaration it) = by_items it.specifiers it.items
  where
    by_items : (specification : Specification) (its : List Declaring)
        → ReadsExternal known table (tree.declaration (record { specifiers = specification; items = its }))
    by_items specification [] = external_bare_all known table specification
    by_items specification (first ∷ rest) =
        external_declared_all known table specification first rest (all_start whole first.initialiser) (all_items whole rest)
