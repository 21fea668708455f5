-- The grammar of straight programs: the relation between a tree and the tokens of a unit. Own, a part of X3.159-1989.
--     straight = prelude "int" "main" "(" "void" ")" "{" { declared } { step } "return" "0" ";" "}"
--     declared = "char" "*" "*" handle ";" | "char" "*" pointer ";" | "char" letter ";"
--     step     = handle "=" "NewHandle" "(" number ")" ";" | "HLock" "(" handle ")" ";" | "HUnlock" "(" handle ")" ";"
--              | pointer "=" "*" handle ";" | letter "=" value ";" | "*" pointer "=" value ";" | "putchar" "(" value ")" ";"
--     value    = letter | "*" pointer | number
-- The prelude is the tokens of the four prototypes. What each form asks of its names and numbers is in `Fine.antt` of
-- `hs_tree`. Its text says what a token is: the texts of two kinds differ.
--     spelling variables steps    the texts of the tokens, in order, and the places that the tree has
--     IsStraight tokens tree      the tokens are spelled so
use Rattle.std.specs.Prelude.{◌≡◌, ℕ, List, [], ◌∷◌, ◌++◌, map, codes, Option, Some, None, IfSome, slice_get}
use Rattle.std.specs.List.{flat_map}
use Rattle.std.specs.Fmt.{decimal}
use Rattle.hs_base.specs.declared.pos.Pos.{Pos}
use Rattle.hs_tokens.specs.declared.token.SourceToken.{SourceToken}
use Rattle.hs_tree.specs.declared.straight.tree.Kind.{Kind}
use Rattle.hs_tree.specs.declared.straight.tree.Kind.TheVariants.{Handle, Pointer, Letter}
use Rattle.hs_tree.specs.declared.straight.tree.Variable.{Variable}
use Rattle.hs_tree.specs.declared.straight.tree.Expr.{Expr}
use Rattle.hs_tree.specs.declared.straight.tree.Expr.TheVariants as expr
use Rattle.hs_tree.specs.declared.straight.tree.Step.{Step}
use Rattle.hs_tree.specs.declared.straight.tree.Step.TheVariants as step
use Rattle.hs_tree.specs.declared.straight.tree.Straight.{Straight}

-- a token as the tree spells it: its text, and its place if the tree has it
pub record Piece : Type 0 where
  pub text : List ℕ
  pub pos : Option Pos

-- a token whose place the tree does not have
abbrev pub word : List ℕ → Piece
word text = record { text = text; pos = None }

-- a token whose place the tree has
abbrev pub placed : Pos → List ℕ → Piece
placed pos text = record { text = text; pos = Some pos }

-- the name of the variable of that number
abbrev pub name_in : Option Variable → List ℕ
name_in None = []
name_in (Some variable) = variable.name

-- the name of a variable, by its number
abbrev pub name_of : List Variable → ℕ → List ℕ
name_of variables number = name_in (slice_get variables number)

-- the tokens of an expression
abbrev pub expr_spelling : List Variable → Expr → List Piece
expr_spelling variables (expr.Letter pos letter) = placed pos (name_of variables letter) ∷ []
expr_spelling variables (expr.Load pos pointer) = placed pos (codes "*") ∷ word (name_of variables pointer) ∷ []
expr_spelling variables (expr.Number value) = word (decimal value) ∷ []

-- a step without its semicolon
abbrev pub step_spelling : List Variable → Step → List Piece
step_spelling variables (step.NewHandle handle size) =
    word (name_of variables handle) ∷ word (codes "=") ∷ word (codes "NewHandle") ∷ word (codes "(") ∷ word (decimal size) ∷ word (codes ")") ∷ []
step_spelling variables (step.HLock pos handle) =
    placed pos (codes "HLock") ∷ word (codes "(") ∷ word (name_of variables handle) ∷ word (codes ")") ∷ []
step_spelling variables (step.HUnlock pos handle) =
    placed pos (codes "HUnlock") ∷ word (codes "(") ∷ word (name_of variables handle) ∷ word (codes ")") ∷ []
step_spelling variables (step.Derive pos pointer handle) =
    word (name_of variables pointer) ∷ word (codes "=") ∷ placed pos (codes "*") ∷ word (name_of variables handle) ∷ []
step_spelling variables (step.Set letter value) =
    word (name_of variables letter) ∷ word (codes "=") ∷ expr_spelling variables value
step_spelling variables (step.Store pos pointer value) =
    word (codes "*") ∷ word (name_of variables pointer) ∷ placed pos (codes "=") ∷ expr_spelling variables value
step_spelling variables (step.Putchar value) =
    word (codes "putchar") ∷ word (codes "(") ∷ (expr_spelling variables value ++ word (codes ")") ∷ [])

-- the stars of a declaration
abbrev pub stars_of : Kind → List Piece
stars_of Handle = word (codes "*") ∷ word (codes "*") ∷ []
stars_of Pointer = word (codes "*") ∷ []
stars_of Letter = []

-- a declaration without its semicolon
abbrev pub declaration_spelling : Variable → List Piece
declaration_spelling variable = word (codes "char") ∷ (stars_of variable.kind ++ word variable.name ∷ [])

-- a declaration or a step, and its semicolon
abbrev pub ended : List Piece → List Piece
ended pieces = pieces ++ word (codes ";") ∷ []

-- the prelude, a line for each prototype, and the beginning of `main`
unfoldable pub opening : List (List ℕ)
opening =
    codes "char" ∷ codes "*" ∷ codes "*" ∷ codes "NewHandle" ∷ codes "(" ∷ codes "long" ∷ codes "n" ∷ codes ")" ∷ codes ";"
    ∷ codes "void" ∷ codes "HLock" ∷ codes "(" ∷ codes "char" ∷ codes "*" ∷ codes "*" ∷ codes "h" ∷ codes ")" ∷ codes ";"
    ∷ codes "void" ∷ codes "HUnlock" ∷ codes "(" ∷ codes "char" ∷ codes "*" ∷ codes "*" ∷ codes "h" ∷ codes ")" ∷ codes ";"
    ∷ codes "int" ∷ codes "putchar" ∷ codes "(" ∷ codes "int" ∷ codes "c" ∷ codes ")" ∷ codes ";"
    ∷ codes "int" ∷ codes "main" ∷ codes "(" ∷ codes "void" ∷ codes ")" ∷ codes "{" ∷ []

-- the end of `main`
abbrev pub closing : List (List ℕ)
closing = codes "return" ∷ codes "0" ∷ codes ";" ∷ codes "}" ∷ []

-- the tokens of a program
abbrev pub spelling : List Variable → List Step → List Piece
spelling variables steps =
    map word opening
    ++ flat_map (λ variable. ended (declaration_spelling variable)) variables
    ++ flat_map (λ step. ended (step_spelling variables step)) steps
    ++ map word closing

-- the tokens have these texts, and the places that are given
abbrev pub Spells : List Piece → List SourceToken → Type 0
Spells [] [] = Unit {0}
Spells (piece ∷ pieces) (source ∷ sources) =
    (source.token.text ≡ piece.text) × IfSome piece.pos (λ pos. source.token.pos ≡ pos) × Spells pieces sources
Spells [] (source ∷ sources) = ⊥
Spells (piece ∷ pieces) [] = ⊥

-- the tokens of a unit spell the tree
abbrev pub IsStraight : List SourceToken → Straight → Type 0
IsStraight tokens tree = Spells (spelling tree.variables tree.steps) tokens
