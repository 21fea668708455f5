-- Worked initialisers on the definition, by computation.
use Rattle.std.proofs.Common.{◌≡◌, ℕ, suc, false, List, [], ◌∷◌, None, Some, Ok, Err, refl}
use Rattle.std.specs.Prelude.{codes, Result}
use Rattle.hs_typer.specs.Steps.{beginning}
use Rattle.hs_typer.specs.declared.type_error.TypeError.TheVariants.{Untyped}
use Rattle.hs_typer.specs.declared.typer.Typer.{Typer}
use Rattle.hs_aggregates.specs.Aggregates.{most_types}
use Rattle.hs_initialisers.specs.Initialisers.{initialised}
use Rattle.hs_syntax.specs.Trees as syntax
use Rattle.hs_syntax.specs.Trees.{Initialising, Initialisers}
use Rattle.hs_syntax.specs.declared.word.Word.{Word}
use Rattle.hs_tokens.specs.declared.place.Place.{Place}
use Rattle.hs_tokens.specs.declared.token.Origin.TheVariants.{Plain}
use Rattle.hs_tree.specs.declared.constant.Constant.TheVariants as constant
use Rattle.hs_tree.specs.declared.constant.Part.{Part}
use Rattle.hs_types.specs.Rows.{integer_id}
use Rattle.hs_types.specs.TypeTables.{TypeTable, arrayed, with_row, with_struct, completed}
use Rattle.hs_types.specs.declared.integer.Integer.TheVariants as kind
use Rattle.hs_types.specs.declared.row.Row.TheVariants as row
use Rattle.hs_types.specs.declared.row.TypeId.{TypeId}
use Rattle.hs_types.specs.declared.types.TypeEnd.{TypeEnd}

-- a place, by its column
abbrev at : ℕ → Place
at column = record { pos = record { file = 0; line = 1; col = column }; origin = Plain }

abbrev word : List ℕ → ℕ → Word
word text column = record { text = text; place = at column }

abbrev number : List ℕ → ℕ → Initialising
number text column = syntax.value (syntax.number (word text column))

abbrev text : List ℕ → ℕ → Initialising
text bytes column = syntax.value (syntax.strings (word bytes column) [])

abbrev list : ℕ → Initialisers → Initialising
list column its = syntax.list (at column) its false

abbrev known : Typer
known = beginning []

abbrev int : TypeId
int = integer_id kind.Int

abbrev char : TypeId
char = integer_id kind.Char

abbrev part : ℕ → TypeId → ℕ → Part
part offset id bits = record { offset = offset; type_id = id; field = None; value = constant.Number bits }

-- one more array in the table
abbrev array_in : Result (TypeId × TypeTable) TypeEnd → Typer → Typer
array_in (Ok p) s = record s { types = p.1 }
array_in (Err why) s = s

-- the types after the basic ones, by their numbers
abbrev first_new : TypeId
first_new = record { number = 12 }

abbrev second_new : TypeId
second_new = record { number = 13 }

-- `char []`, `char [2]`, `char [1]`, `int [2]` and `int [2][2]`
abbrev open_characters : Typer
open_characters = record known { types = with_row (row.OpenArray char) known.types }

abbrev characters_of : ℕ → Typer
characters_of length = array_in (arrayed char length known.types) known

abbrev pair : Typer
pair = array_in (arrayed int 2 known.types) known

abbrev pairs : Typer
pairs = array_in (arrayed first_new 2 pair.types) pair

-- The limit of types inside one another is far above what these rows need.
abbrev fewer : ℕ
fewer = 3999999996

some_types : most_types ≡ suc (suc (suc (suc fewer)))
unfolding most_types
some_types = refl

-- `int x = {3}`
scalar-in_braces : initialised (at 5) int (list 9 (syntax.more_initialisers (number (codes "3") 10) syntax.no_initialisers)) known
    ≡ Ok ((int, part 0 int 3 ∷ []), known)
scalar-in_braces = rw some_types refl

-- `int x = {{3}}`
scalar-in_two_braces : initialised (at 5) int
    (list 9 (syntax.more_initialisers (list 10 (syntax.more_initialisers (number (codes "3") 11) syntax.no_initialisers)) syntax.no_initialisers)) known
    ≡ Err (Untyped (at 10))
scalar-in_two_braces = refl

-- `char s[] = "ab"`
string-of_its_length : initialised (at 6) first_new (text (codes "\"ab\"") 12) open_characters
    ≡ Ok ((second_new, part 0 char 97 ∷ part 1 char 98 ∷ part 2 char 0 ∷ []), array_in (arrayed char 3 open_characters.types) open_characters)
string-of_its_length = refl

-- `char s[2] = "ab"`
string-without_its_end : initialised (at 6) first_new (text (codes "\"ab\"") 13) (characters_of 2)
    ≡ Ok ((first_new, part 0 char 97 ∷ part 1 char 98 ∷ []), characters_of 2)
string-without_its_end = refl

-- `char s[1] = "ab"`
string-too_long : initialised (at 6) first_new (text (codes "\"ab\"") 13) (characters_of 1) ≡ Err (Untyped (at 13))
string-too_long = refl

-- `int a[2][2] = {1, 2, {3}}`
row-without_braces : initialised (at 5) second_new
    (list 15 (syntax.more_initialisers (number (codes "1") 16) (syntax.more_initialisers (number (codes "2") 19)
    (syntax.more_initialisers (list 22 (syntax.more_initialisers (number (codes "3") 23) syntax.no_initialisers)) syntax.no_initialisers)))) pairs
    ≡ Ok ((second_new, part 0 int 1 ∷ part 4 int 2 ∷ part 8 int 3 ∷ []), pairs)
row-without_braces = rw (some_types, some_types, some_types) refl

-- `int a[2] = {1, 2, 3}`
third-of_two : initialised (at 5) first_new
    (list 12 (syntax.more_initialisers (number (codes "1") 13) (syntax.more_initialisers (number (codes "2") 16)
    (syntax.more_initialisers (number (codes "3") 19) syntax.no_initialisers)))) pair
    ≡ Err (Untyped (at 19))
third-of_two = rw (some_types, some_types) refl

-- `struct { int a; } s = {{3}}`: a member in braces of its own is still the field
abbrev structure_in : Result TypeTable TypeEnd → Typer → Typer
structure_in (Ok types) s = record s { types = with_row (row.Struct 0) types }
structure_in (Err why) s = s

abbrev structure : Typer
structure = structure_in (completed 0 (record { name = codes "a"; type_id = int } ∷ []) (with_struct known.types)) known

member-in_braces : initialised (at 19) first_new
    (list 23 (syntax.more_initialisers (list 24 (syntax.more_initialisers (number (codes "3") 25) syntax.no_initialisers)) syntax.no_initialisers)) structure
    ≡ Ok (
      (first_new, record { offset = 0; type_id = int; field = Some (record { of = 0; place = 0 }); value = constant.Number 3 } ∷ []),
      structure,
    )
member-in_braces = rw some_types refl
