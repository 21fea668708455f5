-- A row of declarations or of steps, read one by one while a test says that another begins. What follows the row fails that
-- test.
--     EndsRow begins pieces                       what is spelled so goes on with no further part
--     IsRow spell is_fine begins tokens parts rest   the row at the front of the tokens, and what follows it
--     NoRow spell is_fine begins tokens           no row of fine parts is at the front
--     AreDeclarations, NoDeclarations             the same of declarations
--     AreSteps, NoSteps                           and of steps
use Rattle.std.specs.Prelude.{◌≡◌, Bool, true, false, not, List, [], ◌++◌, codes}
use Rattle.std.specs.List.{flat_map}
use Rattle.hs_tree.specs.Straight.Fine.{are_fine_names, are_fine_steps}
use Rattle.hs_checker.specs.Straight.Grammar.{Piece, declaration_spelling, step_spelling, ended, Spells}
use Rattle.hs_tokens.specs.declared.token.SourceToken.{SourceToken}
use Rattle.hs_tree.specs.declared.straight.tree.Variable.{Variable}
use Rattle.hs_tree.specs.declared.straight.tree.Step.{Step}
use Rattle.hs_checker.specs.Straight.Reading.{is_at}

-- tokens that are spelled so begin no further part of the row
abbrev pub EndsRow : (List SourceToken → Bool) → List Piece → Type 0
EndsRow begins pieces = (tokens : List SourceToken) → Spells pieces tokens → begins tokens ≡ false

module _ {A : Type 0} (spell : A → List Piece) (is_fine : List A → Bool) (begins : List SourceToken → Bool) (tokens : List SourceToken) where
  -- the row is these parts and no others, and the rest follows it
  pub record IsRow (parts : List A) (rest : List SourceToken) : Type 0 where
    pub fine : is_fine parts ≡ true
    pub spelled : (pieces : List Piece) → Spells pieces rest → Spells (flat_map spell parts ++ pieces) tokens
    pub only : (others : List A) (pieces : List Piece) → is_fine others ≡ true → EndsRow begins pieces
        → Spells (flat_map spell others ++ pieces) tokens → (others ≡ parts) × Spells pieces rest

  -- the tokens do not begin with a row
  abbrev pub NoRow : Type 0
  NoRow = (others : List A) (pieces : List Piece) → is_fine others ≡ true → EndsRow begins pieces → Spells (flat_map spell others ++ pieces) tokens → ⊥

-- the pieces of a declaration
abbrev pub declaration : Variable → List Piece
declaration variable = ended (declaration_spelling variable)

-- another declaration begins with `char`
abbrev pub begins_declaration : List SourceToken → Bool
begins_declaration tokens = is_at (codes "char") tokens

-- the declarations at the front of the tokens
abbrev pub AreDeclarations : List SourceToken → List Variable → List SourceToken → Type 0
AreDeclarations tokens variables rest = IsRow declaration (are_fine_names []) begins_declaration tokens variables rest

-- the tokens begin a declaration that does not go on as one, or may not stand there
abbrev pub NoDeclarations : List SourceToken → Type 0
NoDeclarations tokens = NoRow declaration (are_fine_names []) begins_declaration tokens

-- the pieces of a step
abbrev pub statement : List Variable → Step → List Piece
statement variables step = ended (step_spelling variables step)

-- another step begins if no `return` stands
abbrev pub begins_statement : List SourceToken → Bool
begins_statement tokens = not (is_at (codes "return") tokens)

-- the steps at the front of the tokens
abbrev pub AreSteps : List Variable → List SourceToken → List Step → List SourceToken → Type 0
AreSteps variables tokens steps rest = IsRow (statement variables) (are_fine_steps variables []) begins_statement tokens steps rest

-- the tokens begin a step that does not go on as one, or may not stand there
abbrev pub NoSteps : List Variable → List SourceToken → Type 0
NoSteps variables tokens = NoRow (statement variables) (are_fine_steps variables []) begins_statement tokens
