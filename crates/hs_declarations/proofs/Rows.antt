-- Worked declarations on the definition, by computation.
use Rattle.std.proofs.Common.{◌≡◌, ℕ, Bool, true, false, List, [], ◌∷◌, None, Option, Some, Result, Ok, Err, map, refl}
use Rattle.std.specs.Prelude.{codes}
use Rattle.hs_declarations.specs.Declarations.{file_declared, block_declared}
use Rattle.hs_linkage.specs.Works.{Work, ◌>>◌, typing, before_units}
use Rattle.hs_linkage.specs.declared.translator.StaticObject.{StaticObject}
use Rattle.hs_linkage.specs.declared.translator.Translator.{Translator}
use Rattle.hs_expressions.specs.Expressions.{enter}
use Rattle.hs_syntax.specs.Trees as syntax
use Rattle.hs_syntax.specs.Trees.{Declaration, Directly, Expression, Initialising, Specified, Specification}
use Rattle.hs_syntax.specs.declared.operators.Basic.TheVariants as basic
use Rattle.hs_syntax.specs.declared.operators.Storage.TheVariants as storage
use Rattle.hs_syntax.specs.declared.word.Word.{Word}
use Rattle.hs_tokens.specs.declared.place.Place.{Place}
use Rattle.hs_tokens.specs.declared.token.Origin.TheVariants.{Plain}
use Rattle.hs_typer.specs.declared.type_error.TypeError.{TypeError}
use Rattle.hs_typer.specs.declared.type_error.TypeError.TheVariants.{Untyped, Clash}
use Rattle.hs_types.specs.Rows.{integer_id}
use Rattle.hs_types.specs.declared.integer.Integer.TheVariants as kind
use Rattle.hs_types.specs.declared.row.TypeId.{TypeId}

-- a place, by its line and column
abbrev at : ℕ → ℕ → Place
at line column = record { pos = record { file = 0; line = line; col = column }; origin = Plain }

abbrev word : List ℕ → ℕ → ℕ → Word
word text line column = record { text = text; place = at line column }

abbrev number : List ℕ → ℕ → ℕ → Expression
number text line column = syntax.number (word text line column)

-- what `int` says, at the start of a line or after a storage word
abbrev int_alone : ℕ → Specification
int_alone line = syntax.more_specifiers (syntax.basic basic.Int (at line 1)) syntax.no_specifiers

abbrev after : Specified → ℕ → Specification
after it line = syntax.more_specifiers it (syntax.more_specifiers (syntax.basic basic.Int (at line 9)) syntax.no_specifiers)

-- one declarator
abbrev declaration : Specification → Directly → Option Initialising → Declaration
declaration specifiers direct start =
    record { specifiers = specifiers; items = record { declarator = syntax.pointing [] direct; initialiser = start } ∷ [] }

abbrev x_at : ℕ → Directly
x_at line = syntax.identifier (word (codes "x") line 5)

-- `int x;`, and with an initialiser
abbrev x_alone : ℕ → Declaration
x_alone line = declaration (int_alone line) (x_at line) None

abbrev x_with : List ℕ → ℕ → Declaration
x_with text line = declaration (int_alone line) (x_at line) (Some (syntax.value (number text line 9)))

-- a declaration of file scope, before which there is a token at the start of its line
abbrev file : ℕ → Declaration → Work (Unit {0})
file line it = file_declared (at line 1) it

-- the types of the objects, and whether they are defined
abbrev seen : StaticObject → TypeId × Bool
seen it = (it.variable.type_id, it.defined)

abbrev objects_in : {A : Type 0} → Result (A × Translator) TypeError → Result (List (TypeId × Bool)) TypeError
objects_in (Ok p) = Ok (map seen p.1.objects)
objects_in (Err why) = Err why

abbrev objects_after : {A : Type 0} → Work A → Result (List (TypeId × Bool)) TypeError
objects_after work = objects_in (work (before_units [] []))

-- `int x;` twice is one object
two_tentative_definitions : objects_after (file 1 (x_alone 1) >> file 2 (x_alone 2)) ≡ Ok ((integer_id kind.Int, false) ∷ [])
two_tentative_definitions = refl

-- which may get an initialiser
tentative_and_defined : objects_after (file 1 (x_alone 1) >> file 2 (x_with (codes "1") 2)) ≡ Ok ((integer_id kind.Int, true) ∷ [])
tentative_and_defined = refl

-- `int x = 1;` and `int x = 2;`
second_definition : objects_after (file 1 (x_with (codes "1") 1) >> file 2 (x_with (codes "2") 2)) ≡ Err (Clash (at 2 5) (codes "x"))
second_definition = refl

-- `static int a[];`
static_open_array : objects_after
    (file 1 (declaration (after (syntax.storage storage.Static (at 1 1)) 1) (syntax.array (syntax.identifier (word (codes "a") 1 12))) None))
    ≡ Err (Untyped (at 1 12))
static_open_array = refl

-- `int a[];` and `int a[3];`: the type after the basic ones is `int []`, and the next one `int [3]`
abbrev open_array : ℕ → Declaration
open_array line = declaration (int_alone line) (syntax.array (syntax.identifier (word (codes "a") line 5))) None

abbrev array_of_three : ℕ → Declaration
array_of_three line =
    declaration (int_alone line) (syntax.sized_array (syntax.identifier (word (codes "a") line 5)) (number (codes "3") line 7)) None

completed_array : objects_after (file 1 (open_array 1) >> file 2 (array_of_three 2)) ≡ Ok ((record { number = 13 }, false) ∷ [])
completed_array = refl

-- `typedef int T;`, and in a block `int T;`
abbrev type_name : Declaration
type_name = declaration (after (syntax.storage storage.Typedef (at 1 1)) 1) (syntax.identifier (word (codes "T") 1 13)) None

abbrev in_block : Work (Unit {0})
in_block = typing (λ s. Ok (tt, enter s))

hidden_type_name : objects_after
    (file 1 type_name >> (in_block >> block_declared (at 2 1) (declaration (int_alone 2) (syntax.identifier (word (codes "T") 2 5)) None)))
    ≡ Err (Untyped (at 2 5))
hidden_type_name = refl
