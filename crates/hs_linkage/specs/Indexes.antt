-- How definitions are kept: with the names of external linkage, and the names of each unit.
--     linkage_number static                  the number that says whether a name is declared with `static`
--     linkage_of name its                    that of the first external declaration that declares the name
--     is_kept_static name statics            the index says so of the name
--     own_names unit units                   the names of that unit
--     PutsFirst name place old new           the name has that place, unless it had one, and each other name the one that it had
--     external_by statics unit it            the definition of an external declaration; `statics` has the linkage of names
--     IsIndexed externals units its          the indexes have the first definition of each name
use Rattle.std.specs.Prelude.{◌≡◌, ◌==◌, ◌+◌, ℕ, Bool, true, false, List, [], ◌∷◌, ◌++◌, nat_eq, Option, Some, None, get_or, if◌then◌else◌}
use Rattle.std.specs.Cmp.Lexicographic.{pointwise}
use Rattle.hs_linkage.specs.Definitions.{declares, is_static, first_place, is_definition_of, text_of}
use Rattle.hs_linkage.specs.declared.definitions.Definition.{Definition}
use Rattle.hs_index.specs.Index.{at}
use Rattle.hs_syntax.specs.Trees as syntax
use Rattle.hs_syntax.specs.Trees.{ExternalDeclaration}
use Rattle.hs_typer.specs.Declarators.{word_of}

-- the number that says whether a name is declared with `static`
abbrev pub linkage_number : Bool → ℕ
linkage_number true = 1
linkage_number false = 0

-- the first one, or else the second one
abbrev pub or_first : Option ℕ → Option ℕ → Option ℕ
or_first None later = later
or_first (Some number) later = Some number

-- that number, if the test holds
abbrev pub number_if : Bool → ℕ → Option ℕ
number_if test number = if test then Some number else None

-- the first external declaration that declares the name says its linkage
abbrev pub linkage_of : List ℕ → List ExternalDeclaration → Option ℕ
linkage_of name [] = None
linkage_of name (it ∷ rest) = or_first (number_if (declares name it) (linkage_number (is_static it))) (linkage_of name rest)

-- it is internal
abbrev pub is_static_number : Option ℕ → Bool
is_static_number None = false
is_static_number (Some number) = number == 1

abbrev pub is_kept_static : List ℕ → List (List ℕ × ℕ) → Bool
is_kept_static name statics = is_static_number (at name statics)

abbrev pub own_names : ℕ → List (List (List ℕ × ℕ)) → List (List ℕ × ℕ)
own_names unit units = get_or units unit []

-- the place that is there, or that one
abbrev pub or_place : Option ℕ → ℕ → Option ℕ
or_place None number = Some number
or_place (Some old) number = Some old

abbrev pub PutsFirst : List ℕ → ℕ → List (List ℕ × ℕ) → List (List ℕ × ℕ) → Type 0
PutsFirst name number old new = (text : List ℕ) → at text new ≡ (if pointwise nat_eq name text then or_place (at text old) number else at text old)

-- only a name with external linkage is put
abbrev pub Holds : Bool → List ℕ → ℕ → List (List ℕ × ℕ) → List (List ℕ × ℕ) → Type 0
Holds true name number old new = new ≡ old
Holds false name number old new = PutsFirst name number old new

-- a function that is defined
abbrev pub defined_as : List ℕ → ℕ → Bool → Definition
defined_as name unit internal = record { name = name; unit = unit; internal = internal }

abbrev pub external_by : List (List ℕ × ℕ) → ℕ → ExternalDeclaration → List Definition
external_by statics unit (syntax.function_definition words declarator body) =
    defined_as (text_of (word_of declarator)) unit (is_kept_static (text_of (word_of declarator)) statics) ∷ []
external_by statics unit (syntax.declaration it) = []

-- those of all of them
abbrev pub externals_by : List (List ℕ × ℕ) → ℕ → List ExternalDeclaration → List Definition
externals_by statics unit [] = []
externals_by statics unit (it ∷ rest) = external_by statics unit it ++ externals_by statics unit rest

pub record IsIndexed (externals : List (List ℕ × ℕ)) (units : List (List (List ℕ × ℕ))) (its : List Definition) : Type 0 where
  pub external : (unit : ℕ) (name : List ℕ) → at name externals ≡ first_place (is_definition_of false unit name) its
  pub own : (unit : ℕ) (name : List ℕ) → at name (own_names unit units) ≡ first_place (is_definition_of true unit name) its

-- so many places on
abbrev pub onward : ℕ → Option ℕ → Option ℕ
onward number None = None
onward number (Some place) = Some (number + place)
