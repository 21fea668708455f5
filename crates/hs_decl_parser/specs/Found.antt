-- What it means that something was found at a place: the tokens in front are a phrase of the grammar.
--     item_form, more_items_form           a declarator with what it starts with; more of them, each after its comma
--     Found known goal it front rest       `it` is what the tokens of front are, with rest after them
--     IsFound table                        so it is wherever the table reads something
use Rattle.std.specs.Prelude.{◌≡◌, ℕ, true, false, List, [], ◌∷◌, ◌++◌, codes, Some}
use Rattle.hs_tokens.specs.declared.token.SourceToken.{SourceToken}
use Rattle.hs_syntax.specs.Forms.{Form, ◌⨾◌, when, nothing_at_all, mark, IsOf}
use Rattle.hs_syntax.specs.Grammar.{declarator_form, start_form, initialiser_form, initialisers_form, declarations_form, labels_form, statement_form, statements_form}
use Rattle.hs_syntax.specs.Parts.{comma_form}
use Rattle.hs_syntax.specs.Phrases.{is_named, ends_open}
use Rattle.hs_syntax.specs.StatementViews.{initialisers_from, statements_from}
use Rattle.hs_syntax.specs.Trees.{Declaring}
use Rattle.hs_expr_parser.specs.Found.{Grown}
use Rattle.hs_expr_parser.specs.Reading.{Known}
use Rattle.hs_decl_parser.specs.Goals as goal
use Rattle.hs_decl_parser.specs.Goals.{Goal, Tree}
use Rattle.hs_decl_parser.specs.Reading.{Shorter}
use Rattle.hs_decl_parser.specs.Words.{is_else_ahead}

-- declarator [ "=" initialiser ]
abbrev pub item_form : List (List ℕ) → Declaring → Form
item_form known it = when (is_named it.declarator) (declarator_form known false it.declarator) ⨾ start_form known it.initialiser

-- { "," item }
abbrev pub more_items_form : List (List ℕ) → List Declaring → Form
more_items_form known [] = nothing_at_all
more_items_form known (it ∷ rest) = mark (codes ",") ⨾ item_form known it ⨾ more_items_form known rest

-- more entries after the earlier ones, or none
abbrev pub Added : {A : Type 0} → List A → List A → (List A → Type 0) → Type 0
Added {A = A} earlier all Holds = (its : List A) × (all ≡ earlier ++ its) × Holds its

abbrev pub Found : (known : Known) (it : Goal) → Tree it → List SourceToken → List SourceToken → Type 0
Found known goal.initialiser it front rest = IsOf (initialiser_form known it) front
Found known (goal.initialisers earlier) all front rest =
    Grown earlier all.0 (λ its. IsOf (initialisers_form known (initialisers_from its) ⨾ comma_form all.1) front)
Found known (goal.items earlier) all front rest = Added earlier all (λ its. IsOf (more_items_form known its) front)
Found known (goal.declarations earlier) all front rest = Added earlier all (λ its. IsOf (declarations_form known its) front)
Found known (goal.labels earlier) all front rest = Added earlier all (λ its. IsOf (labels_form known its) front)
Found known (goal.statements earlier) all front rest = Added earlier all (λ its. IsOf (statements_form known (statements_from its)) front)
-- an `else` after it is not its own
Found known goal.statement it front rest = IsOf (statement_form known it) front × (ends_open it ≡ true → is_else_ahead rest ≡ false)

-- the tokens have a front that is this, and the others are the rest
abbrev pub Takes : (known : Known) (it : Goal) → Tree it → List SourceToken → List SourceToken → Type 0
Takes known it tree tokens rest = (front : List SourceToken) × (tokens ≡ front ++ rest) × Found known it tree front rest

-- what the table reads is found
abbrev pub IsFound : Known → Shorter → Type 0
IsFound known table =
    (it : Goal) (tokens : List SourceToken) (tree : Tree it) (rest : List SourceToken) → table it tokens ≡ Some (tree, rest) → Takes known it tree tokens rest
