-- Translation units (X3.159-1989 3.7), one after the other: the functions that they define, and what is known then.
--     external number it       an external declaration, after so many functions
--     unit_of done it          a unit; `done` are the functions before it
--     units_of done its        all units
use Rattle.std.specs.Prelude.{ℕ, suc, List, [], ◌∷◌, ◌++◌, length, Option, Some, None, Ok}
use Rattle.hs_declarations.specs.Declarations.{file_declared}
use Rattle.hs_functions.specs.Functions.{defined}
use Rattle.hs_linkage.specs.Linkage.{rechecked}
use Rattle.hs_linkage.specs.Works.{Work, ◌>>=◌, ◌>>◌, pass}
use Rattle.hs_syntax.specs.Positions.{first_of_specifiers}
use Rattle.hs_syntax.specs.Trees as syntax
use Rattle.hs_syntax.specs.Trees.{Declaring, Declaration, ExternalDeclaration}
use Rattle.hs_syntax.specs.declared.word.Word.{Word}
use Rattle.hs_tokens.specs.declared.place.Place.{Place}
use Rattle.hs_tree.specs.Trees.{TypedFunction}
use Rattle.hs_typer.specs.Declarators.{word_of}

-- the place of a word
abbrev pub place_of_word : Option Word → Option Place
place_of_word None = None
place_of_word (Some word) = Some word.place

-- of the first name
abbrev pub first_name : List Declaring → Option Place
first_name [] = None
first_name (it ∷ rest) = place_of_word (word_of it.declarator)

-- the first one, or else the second one
abbrev pub or_place : Option Place → Option Place → Option Place
or_place None other = other
or_place (Some place) other = Some place

-- a declaration has specifiers, or else a name (3.5 and 3.7)
abbrev pub place_of_declaration : Declaration → Option Place
place_of_declaration it = or_place (first_of_specifiers it.specifiers) (first_name it.items)

-- if it has one of them
abbrev pub declared_if : Option Place → Declaration → Work (Unit {0})
declared_if None it = pass tt
declared_if (Some place) it = file_declared place it

-- 3.7: a function, or something else
abbrev pub external : ℕ → ExternalDeclaration → Work (Option TypedFunction)
external number (syntax.function_definition specifiers it body) = defined number specifiers it body >>= (λ its. pass (Some its))
external number (syntax.declaration it) = declared_if (place_of_declaration it) it >> pass None

-- with one more, if there is one
abbrev pub with_function : List TypedFunction → Option TypedFunction → List TypedFunction
with_function done None = done
with_function done (Some it) = done ++ it ∷ []

-- in the order of the text; `done` are the functions before
abbrev pub externals : List TypedFunction → List ExternalDeclaration → Work (List TypedFunction)
externals done [] = pass done
externals done (it ∷ rest) = external (length done) it >>= (λ next. externals (with_function done next) rest)

-- 3.1.2.1 and 3.1.2.2: the names of a unit mean nothing in the next one
abbrev pub unit_ended : Work (Unit {0})
unit_ended m =
    Ok (
      tt,
      record m {
        typer = record m.typer {
          names = record { declarations = []; level = 0 };
          tags = record { declarations = []; level = 0 };
          origins = record m.typer.origins { unit = suc m.typer.origins.unit; times = [] };
          begun = [];
          tentatives = [];
        };
        links = record { declarations = []; level = 0 };
        internals = [];
      },
    )

abbrev pub unit_of : List TypedFunction → List ExternalDeclaration → Work (List TypedFunction)
unit_of done it = do
  all ← externals done it
  rechecked
  unit_ended
  pass all

abbrev pub units_of : List TypedFunction → List (List ExternalDeclaration) → Work (List TypedFunction)
units_of done [] = pass done
units_of done (it ∷ rest) = unit_of done it >>= (λ all. units_of all rest)
