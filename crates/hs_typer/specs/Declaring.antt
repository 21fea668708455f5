-- Parameters of a prototype (X3.159-1989 3.5.4.3), and objects whose types are not complete yet.
--     note_tentative it                     one such object more
--     list_of ids                           a list of their types
--     parameter first its id it place       the type of one, which is declared if it is named
use Rattle.std.specs.Prelude.{ℕ, List, [], ◌∷◌, ◌++◌, Option, Some, None, Ok}
use Rattle.hs_typer.specs.Declarators.{parameter_type, listed, word_of, place_of, declare}
use Rattle.hs_typer.specs.Steps.{Step, ◌>>=◌, ◌>>◌, give, on_types}
use Rattle.hs_typer.specs.declared.declarators.Derivation.{Derivation}
use Rattle.hs_typer.specs.declared.marks.Tentative.{Tentative}
use Rattle.hs_typer.specs.declared.typer.Entity.TheVariants as entity
use Rattle.hs_syntax.specs.Trees.{Declared}
use Rattle.hs_syntax.specs.declared.word.Word.{Word}
use Rattle.hs_tokens.specs.declared.place.Place.{Place}
use Rattle.hs_tree.specs.declared.head.Variable.TheVariants as variable
use Rattle.hs_types.specs.declared.row.ListId.{ListId}
use Rattle.hs_types.specs.declared.row.TypeId.{TypeId}

-- one more object of file scope whose struct has no body yet (3.7.2)
abbrev pub note_tentative : Tentative → Step (Unit {0})
note_tentative it s = Ok (tt, record s { tentatives = s.tentatives ++ it ∷ [] })

-- in the table of types
abbrev pub list_of : List TypeId → Step ListId
list_of ids = on_types (λ types. Ok (listed ids types))

-- a parameter that is named is declared, by its place
abbrev pub declare_parameter : Option Word → ℕ → TypeId → Step (Unit {0})
declare_parameter None place id = give tt
declare_parameter (Some word) place id = declare word (entity.Variable (variable.Local place) id)

-- its type, made of the specifiers' type
abbrev pub parameter : Place → List Derivation → TypeId → Declared → ℕ → Step TypeId
parameter first its id it place = do
  made ← on_types (parameter_type (place_of first it) its id)
  declare_parameter (word_of it) place made
  give made
