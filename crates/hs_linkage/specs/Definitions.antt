-- The functions that units define (X3.159-1989 3.1.2.2 and 3.7).
--     storage_of words                   the storage word that specifiers say
--     declares name it                   an external declaration declares an object or a function of that name
--     is_internal unit name              the name has internal linkage in its unit
--     all_definitions number units       the functions that units define, with their linkage
--     is_definition_of internal unit name it      a declaration with that linkage refers to it
use Rattle.std.specs.Prelude.{ℕ, suc, ◌==◌, Bool, true, false, not, ◌&&◌, List, [], ◌∷◌, ◌++◌, nat_eq, Option, Some, None, if◌then◌else◌}
use Rattle.std.specs.Cmp.Lexicographic.{pointwise}
use Rattle.std.specs.List.{list_any}
use Rattle.hs_linkage.specs.declared.definitions.Definition.{Definition}
use Rattle.hs_syntax.specs.Trees as syntax
use Rattle.hs_syntax.specs.Trees.{Declaring, Specified, Specification, ExternalDeclaration}
use Rattle.hs_syntax.specs.declared.operators.Storage.{Storage}
use Rattle.hs_syntax.specs.declared.operators.Storage.TheVariants as storage
use Rattle.hs_syntax.specs.declared.word.Word.{Word}
use Rattle.hs_typer.specs.Declarators.{word_of}

-- the same bytes
abbrev pub same_name : List ℕ → List ℕ → Bool
same_name a b = pointwise nat_eq a b

-- the storage word that a specifier is
abbrev pub storage_word : Specified → Option Storage
storage_word (syntax.storage word at) = Some word
storage_word (syntax.dropped word at) = None
storage_word (syntax.basic word at) = None
storage_word (syntax.named word) = None
storage_word (syntax.struct_tag at word) = None
storage_word (syntax.struct_body at word brace fields) = None
storage_word (syntax.enum_tag at word) = None
storage_word (syntax.enum_body at word brace its comma) = None

-- the first one, or else the second one
abbrev pub or_storage : Option Storage → Option Storage → Option Storage
or_storage None later = later
or_storage (Some word) later = Some word

-- 3.5.1: there is one among the specifiers at most
abbrev pub storage_of : Specification → Option Storage
storage_of syntax.no_specifiers = None
storage_of (syntax.more_specifiers it rest) = or_storage (storage_word it) (storage_of rest)

abbrev pub says_static : Option Storage → Bool
says_static None = false
says_static (Some storage.Typedef) = false
says_static (Some storage.Extern) = false
says_static (Some storage.Static) = true

abbrev pub says_typedef : Option Storage → Bool
says_typedef None = false
says_typedef (Some storage.Typedef) = true
says_typedef (Some storage.Extern) = false
says_typedef (Some storage.Static) = false

-- `static` is among the specifiers
abbrev pub has_static : Specification → Bool
has_static words = says_static (storage_of words)

-- 3.5: a declaration has specifiers, and without `typedef` it declares objects and functions. A typedef name has no linkage.
abbrev pub declares_with : Specification → Bool
declares_with syntax.no_specifiers = false
declares_with (syntax.more_specifiers it rest) = not (says_typedef (or_storage (storage_word it) (storage_of rest)))

-- the declarator names it
abbrev pub is_named : List ℕ → Option Word → Bool
is_named name None = false
is_named name (Some word) = same_name word.text name

-- one of the declarators names it
abbrev pub is_among : List ℕ → List Declaring → Bool
is_among name its = list_any (λ item. is_named name (word_of item.declarator)) its

-- an external declaration declares an object or a function of that name
abbrev pub declares : List ℕ → ExternalDeclaration → Bool
declares name (syntax.function_definition words declarator body) = is_named name (word_of declarator)
declares name (syntax.declaration it) = declares_with it.specifiers && is_among name it.items

-- with `static`
abbrev pub is_static : ExternalDeclaration → Bool
is_static (syntax.function_definition words declarator body) = has_static words
is_static (syntax.declaration it) = has_static it.specifiers

-- 3.1.2.2: the first declaration at file scope gives a name its linkage in its unit, which is internal if it has `static`
abbrev pub is_internal : List ExternalDeclaration → List ℕ → Bool
is_internal [] name = false
is_internal (it ∷ rest) name = if declares name it then is_static it else is_internal rest name

-- the name of a declarator, or no bytes
abbrev pub text_of : Option Word → List ℕ
text_of None = []
text_of (Some word) = word.text

-- a function that is defined
abbrev pub definition_of : ℕ → List ExternalDeclaration → List ℕ → Definition
definition_of number unit name = record { name = name; unit = number; internal = is_internal unit name }

-- in the order of the text; `unit` is the whole unit
abbrev pub definitions_in : ℕ → List ExternalDeclaration → List ExternalDeclaration → List Definition
definitions_in number unit [] = []
definitions_in number unit (syntax.function_definition words declarator body ∷ rest) =
    definition_of number unit (text_of (word_of declarator)) ∷ definitions_in number unit rest
definitions_in number unit (syntax.declaration it ∷ rest) = definitions_in number unit rest

-- one place on
abbrev pub later : Option ℕ → Option ℕ
later None = None
later (Some place) = Some (suc place)

-- the place of the first one that meets a test
abbrev pub first_place : {A : Type 0} → (A → Bool) → List A → Option ℕ
first_place test [] = None
first_place test (it ∷ rest) = if test it then Some 0 else later (first_place test rest)

-- of all units, the first of which has that number
abbrev pub all_definitions : ℕ → List (List ExternalDeclaration) → List Definition
all_definitions number [] = []
all_definitions number (unit ∷ units) = definitions_in number unit unit ++ all_definitions (suc number) units

-- A function with external linkage is defined in any unit, one with internal linkage in its own.
abbrev pub is_definition_of : Bool → ℕ → List ℕ → Definition → Bool
is_definition_of internal unit name it =
    same_name it.name name && (if internal then it.unit == unit else not it.internal)
