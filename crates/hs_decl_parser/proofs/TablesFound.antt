-- What a table gives for each goal, if what it reads is found.
--     Adds earlier all form tokens rest              more entries after the earlier ones, or none
--     Stated known it tokens rest                    a statement, if an `else` after it is not its own
--     initialiser_gives, initialisers_gives, ..      each goal's own form
use Rattle.std.proofs.Common.{◌≡◌, true, false, List, [], ◌∷◌, ◌++◌, sym, ◌∙◌, append_assoc}
use Rattle.std.specs.Prelude.{Bool}
use Rattle.std.proofs.lemmas.List.{append-nil}
use Rattle.hs_tokens.specs.declared.token.SourceToken.{SourceToken}
use Rattle.hs_syntax.specs.Forms.{Form, ◌⨾◌}
use Rattle.hs_syntax.specs.Grammar.{initialiser_form, initialisers_form, declarations_form, labels_form, statement_form, statements_form}
use Rattle.hs_syntax.specs.Parts.{comma_form}
use Rattle.hs_syntax.specs.Phrases.{ends_open}
use Rattle.hs_syntax.specs.StatementViews.{OneStatement, initialisers_from, statements_from}
use Rattle.hs_syntax.specs.Trees.{Initialising, Declaring, Declaration, Labelling, Statement}
use Rattle.hs_expr_parser.specs.Reading.{Known}
use Rattle.hs_expr_parser.specs.Laws.Yields.{Yields, so_gives, always_gives}
use Rattle.hs_expr_parser.specs.Laws.Spelled.{Begins}
use Rattle.hs_expr_parser.specs.Laws.Tables.{Grows}
use Rattle.hs_decl_parser.specs.Found.{more_items_form, Takes, IsFound}
use Rattle.hs_decl_parser.specs.Goals as goal
use Rattle.hs_decl_parser.specs.Goals.{Goal, Tree}
use Rattle.hs_decl_parser.specs.Reading.{Shorter}
use Rattle.hs_decl_parser.specs.Words.{is_else_ahead}

-- more entries after the earlier ones, or none, and the tokens have a front that is of their form
pub record Adds {A : Type 0} (earlier all : List A) (form : List A → Form) (tokens rest : List SourceToken) : Type 0 where
  pub its : List A
  pub whole : all ≡ earlier ++ its
  pub begins : Begins (form its) tokens rest

-- no entry
pub none_added : {A : Type 0} (earlier : List A) (form : List A → Form) (tokens : List SourceToken) → Begins (form []) tokens tokens
    → Adds earlier earlier form tokens tokens
none_added earlier form tokens begins = record { its = []; whole = sym (append-nil earlier); begins = begins }

-- one more in front
pub one_added : {A : Type 0} (earlier : List A) (it : A) (all : List A) (form : List A → Form) (tokens middle rest : List SourceToken)
    → Adds (earlier ++ it ∷ []) all form middle rest → ((others : List A) → Begins (form others) middle rest → Begins (form (it ∷ others)) tokens rest)
    → Adds earlier all form tokens rest
one_added earlier it all form tokens middle rest added so = record {
  its = it ∷ added.its;
  whole = added.whole ∙ append_assoc earlier (it ∷ []) added.its;
  begins = so added.its added.begins;
}

-- a statement, if an `else` after it is not its own
pub record Stated (known : Known) (it : Statement) (tokens rest : List SourceToken) : Type 0 where
  pub begins : Begins (statement_form known it) tokens rest
  pub closed : ends_open it ≡ true → is_else_ahead rest ≡ false

module _ (known : Known) (table : Shorter) (found : IsFound known table) where
  pub initialiser_gives : (tokens : List SourceToken)
      → Yields (λ (it : Initialising) rest. Begins (initialiser_form known it) tokens rest) (table goal.initialiser tokens)
  initialiser_gives tokens = so_gives (table goal.initialiser tokens) (always_gives (Takes known) table found goal.initialiser tokens)
      (λ tree rest it. record { front = it.0; whole = it.1; is = it.2 })

  pub initialisers_gives : (earlier : List Initialising) (tokens : List SourceToken)
      → Yields (λ (all : List Initialising × Bool) rest.
      Grows earlier all.0 (λ its. initialisers_form known (initialisers_from its) ⨾ comma_form all.1) tokens rest)
      (table (goal.initialisers earlier) tokens)
  initialisers_gives earlier tokens = so_gives (table (goal.initialisers earlier) tokens)
      (always_gives (Takes known) table found (goal.initialisers earlier) tokens)
      (λ all rest it. record {
        first = it.2.0;
        others = it.2.1;
        whole = it.2.2;
        begins = record { front = it.0; whole = it.1; is = it.2.3 };
      })

  pub items_gives : (earlier : List Declaring) (tokens : List SourceToken)
      → Yields (λ (all : List Declaring) rest. Adds earlier all (more_items_form known) tokens rest) (table (goal.items earlier) tokens)
  items_gives earlier tokens = so_gives (table (goal.items earlier) tokens) (always_gives (Takes known) table found (goal.items earlier) tokens)
      (λ all rest it. record { its = it.2.0; whole = it.2.1; begins = record { front = it.0; whole = it.1; is = it.2.2 } })

  pub declarations_gives : (earlier : List Declaration) (tokens : List SourceToken)
      → Yields (λ (all : List Declaration) rest. Adds earlier all (declarations_form known) tokens rest) (table (goal.declarations earlier) tokens)
  declarations_gives earlier tokens = so_gives (table (goal.declarations earlier) tokens)
      (always_gives (Takes known) table found (goal.declarations earlier) tokens)
      (λ all rest it. record { its = it.2.0; whole = it.2.1; begins = record { front = it.0; whole = it.1; is = it.2.2 } })

  pub labels_gives : (earlier : List Labelling) (tokens : List SourceToken)
      → Yields (λ (all : List Labelling) rest. Adds earlier all (labels_form known) tokens rest) (table (goal.labels earlier) tokens)
  labels_gives earlier tokens = so_gives (table (goal.labels earlier) tokens) (always_gives (Takes known) table found (goal.labels earlier) tokens)
      (λ all rest it. record { its = it.2.0; whole = it.2.1; begins = record { front = it.0; whole = it.1; is = it.2.2 } })

  pub statements_gives : (earlier : List OneStatement) (tokens : List SourceToken)
      → Yields (λ (all : List OneStatement) rest. Adds earlier all (λ its. statements_form known (statements_from its)) tokens rest)
      (table (goal.statements earlier) tokens)
  statements_gives earlier tokens = so_gives (table (goal.statements earlier) tokens) (always_gives (Takes known) table found (goal.statements earlier) tokens)
      (λ all rest it. record { its = it.2.0; whole = it.2.1; begins = record { front = it.0; whole = it.1; is = it.2.2 } })

  pub statement_gives : (tokens : List SourceToken) → Yields (λ (it : Statement) rest. Stated known it tokens rest) (table goal.statement tokens)
  statement_gives tokens = so_gives (table goal.statement tokens) (always_gives (Takes known) table found goal.statement tokens)
      (λ tree rest it. record { begins = record { front = it.0; whole = it.1; is = it.2.0 }; closed = it.2.1 })
