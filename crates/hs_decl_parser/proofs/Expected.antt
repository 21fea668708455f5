-- What is shown of each phrase that stands at the front of tokens: it is read, if what follows ends it.
--     Whole known table            a table that reads by the rules
--     initialisers_in, ..          the entries of a list
--     ReadsInitialiser, ..         the phrases
use Rattle.std.proofs.Common.{◌≡◌, Bool, true, false, List, [], ◌∷◌, ◌++◌, length, ◌≤◌, Some}
use Rattle.std.specs.Prelude.{codes}
use Rattle.hs_tokens.specs.declared.token.SourceToken.{SourceToken}
use Rattle.hs_syntax.specs.Forms.{◌⨾◌, IsOf}
use Rattle.hs_syntax.specs.Grammar.{initialiser_form, initialisers_form, declaration_form, declarations_form, labels_form, statement_form, block_form, statements_form, external_form}
use Rattle.hs_syntax.specs.Parts.{comma_form}
use Rattle.hs_syntax.specs.Phrases.{ends_open, has_initialisers}
use Rattle.hs_syntax.specs.StatementViews.{OneStatement, one_statement}
use Rattle.hs_syntax.specs.Trees as tree
use Rattle.hs_syntax.specs.Trees.{Initialising, Initialisers, Declaring, Declaration, Labelling, Statement, Compound, Statements, ExternalDeclaration}
use Rattle.hs_expr_parser.specs.Ahead.{is_ahead, is_mark_ahead, begins_specifier, stops}
use Rattle.hs_expr_parser.specs.Reading.{Known}
use Rattle.hs_expr_parser.specs.Laws.Recursions.{Short}
use Rattle.hs_decl_parser.specs.Found.{more_items_form}
use Rattle.hs_decl_parser.specs.Goals.{Goal, Tree}
use Rattle.hs_decl_parser.specs.Reading.{Shorter, rule, initialiser_rule, initialisers_rule, items_rule, declaration_rule, declarations_rule, labels_rule, statement_rule, block_rule, statements_rule, external_rule}
use Rattle.hs_decl_parser.specs.Words.{is_else_ahead, begins_label}

-- a table that reads by the rules
pub record Whole (known : Known) (table : Shorter) : Type 0 where
  pub plain : (it : Goal) (tokens : List SourceToken) → table it tokens ≡ rule known table it tokens
  pub short : Short table

-- ---- the entries of lists

abbrev pub initialisers_in : Initialisers → List Initialising
initialisers_in tree.no_initialisers = []
initialisers_in (tree.more_initialisers it rest) = it ∷ initialisers_in rest

abbrev pub statements_in : Statements → List OneStatement
statements_in tree.no_statements = []
statements_in (tree.more_statements labels it rest) = one_statement labels it ∷ statements_in rest

-- ---- the phrases

-- an initialiser, up to a token that no assignment goes on with
abbrev pub ReadsInitialiser : Known → Shorter → Initialising → Type 0
ReadsInitialiser known table it =
    (front rest : List SourceToken) → IsOf (initialiser_form known it) front → stops 1 rest ≡ true
    → initialiser_rule known table (front ++ rest) ≡ Some (it, rest)

-- initialisers, and a comma or none, up to a `}`; none of them begins with a `}`
abbrev pub ReadsInitialisers : Known → Shorter → Initialisers → Type 0
ReadsInitialisers known table its =
    (earlier : List Initialising) (comma : Bool) (front rest : List SourceToken) → has_initialisers its ≡ true
    → IsOf (initialisers_form known its ⨾ comma_form comma) front → is_mark_ahead (codes "}") rest ≡ true
    → (initialisers_rule known table earlier (front ++ rest) ≡ Some ((earlier ++ initialisers_in its, comma), rest))
    × (is_mark_ahead (codes "}") (front ++ rest) ≡ false)

-- more declarators of a declaration, up to a `;`
abbrev pub ReadsItems : Known → Shorter → List Declaring → Type 0
ReadsItems known table its =
    (earlier : List Declaring) (front rest : List SourceToken) → IsOf (more_items_form known its) front → is_mark_ahead (codes ";") rest ≡ true
    → items_rule known table earlier (front ++ rest) ≡ Some (earlier ++ its, rest)

-- a declaration; it begins with a specifier
abbrev pub ReadsDeclaration : Known → Shorter → Declaration → Type 0
ReadsDeclaration known table it =
    (front rest : List SourceToken) → IsOf (declaration_form known it) front
    → (declaration_rule known table (front ++ rest) ≡ Some (it, rest)) × (is_ahead (begins_specifier known false) (front ++ rest) ≡ true)

-- declarations, up to a token that begins no specifier
abbrev pub ReadsDeclarations : Known → Shorter → List Declaration → Type 0
ReadsDeclarations known table its =
    (earlier : List Declaration) (front rest : List SourceToken) → IsOf (declarations_form known its) front
    → is_ahead (begins_specifier known false) rest ≡ false → declarations_rule known table earlier (front ++ rest) ≡ Some (earlier ++ its, rest)

-- labels, up to a token that begins none
abbrev pub ReadsLabels : Known → Shorter → List Labelling → Type 0
ReadsLabels known table its =
    (earlier : List Labelling) (front rest : List SourceToken) → IsOf (labels_form known its) front → is_ahead begins_label rest ≡ false
    → labels_rule known table earlier (front ++ rest) ≡ Some (earlier ++ its, rest)

-- the first token begins a statement: no declaration, no label, no `else` and no `}`
pub record Starts (known : Known) (tokens : List SourceToken) : Type 0 where
  pub undeclared : is_ahead (begins_specifier known false) tokens ≡ false
  pub unlabelled : is_ahead begins_label tokens ≡ false
  pub no_else : is_else_ahead tokens ≡ false
  pub inside : is_mark_ahead (codes "}") tokens ≡ false

-- a statement, if an `else` after it is not its own
pub record ReadsOne (known : Known) (table : Shorter) (it : Statement) (tokens rest : List SourceToken) : Type 0 where
  pub starts : Starts known tokens
  pub exact : (ends_open it ≡ true → is_else_ahead rest ≡ false) → statement_rule known table tokens ≡ Some (it, rest)

abbrev pub ReadsStatement : Known → Shorter → Statement → Type 0
ReadsStatement known table it = (front rest : List SourceToken) → IsOf (statement_form known it) front → ReadsOne known table it (front ++ rest) rest

-- a compound statement; it begins with a `{`
abbrev pub ReadsBlock : Known → Shorter → Compound → Type 0
ReadsBlock known table it =
    (front rest : List SourceToken) → IsOf (block_form known it) front
    → (block_rule table (front ++ rest) ≡ Some (it, rest)) × (is_mark_ahead (codes "{") (front ++ rest) ≡ true)

-- statements, up to a `}`; they begin with no declaration and no `else`
abbrev pub ReadsStatements : Known → Shorter → Statements → Type 0
ReadsStatements known table its =
    (earlier : List OneStatement) (front rest : List SourceToken) → IsOf (statements_form known its) front → is_mark_ahead (codes "}") rest ≡ true
    → (statements_rule known table earlier (front ++ rest) ≡ Some (earlier ++ statements_in its, rest))
    × (is_ahead (begins_specifier known false) (front ++ rest) ≡ false) × (is_else_ahead (front ++ rest) ≡ false)

-- an external declaration
abbrev pub ReadsExternal : Known → Shorter → ExternalDeclaration → Type 0
ReadsExternal known table it =
    (front rest : List SourceToken) → IsOf (external_form known it) front → external_rule known table (front ++ rest) ≡ Some (it, rest)
