-- The functions that units define have the names of the definitions, in the same order: so the number that a call is bound to is that of a
-- function of the name (X3.159-1989 3.7).
--     FunctionsAreNamed, functions_are_named
use Rattle.std.proofs.Common.{◌≡◌, ℕ, suc, Bool, List, [], ◌∷◌, ◌++◌, length, map, Option, Some, None, Ok, Err, refl, sym, ap, ◌∙◌}
use Rattle.std.proofs.lemmas.List.{append_assoc, append-nil, map-append}
use Rattle.hs_declarations.specs.Declarations.{is_static}
use Rattle.hs_declarations.specs.Fronts.{front, storage_place}
use Rattle.hs_declarations.specs.declared.fronts.Front.{Front}
use Rattle.hs_expressions.specs.Expressions.{first_place}
use Rattle.hs_fitting.specs.Works.{Given, Always, passes_always, stops_always, then_always, next_always}
use Rattle.hs_functions.specs.Functions.{defined_at, defined_said, defined_by, defined_of, defined_with, brace_of, parameters_of, may_store, may_give, is_only, parameters_in, counts, finished}
use Rattle.hs_functions.specs.Opening.{opened_type, named_outside}
use Rattle.hs_functions.specs.Units.{declared_if, place_of_declaration, external, with_function, externals, unit_ended, unit_of, units_of}
use Rattle.hs_linkage.specs.Definitions.{text_of, definitions_in, all_definitions}
use Rattle.hs_linkage.specs.Linkage.{link, may_name, rechecked}
use Rattle.hs_linkage.specs.Works.{before_units, typing}
use Rattle.hs_linkage.specs.declared.definitions.Definition.{Definition}
use Rattle.hs_statements.specs.Statements.{body_of}
use Rattle.hs_syntax.specs.Trees as syntax
use Rattle.hs_syntax.specs.Trees.{Declared, ExternalDeclaration, Parameters, Specification, Compound}
use Rattle.hs_syntax.specs.declared.word.Word.{Word}
use Rattle.hs_table.specs.declared.routine.Routine.{Routine}
use Rattle.hs_tokens.specs.declared.place.Place.{Place}
use Rattle.hs_tree.specs.Trees.{TypedBlock, TypedFunction}
use Rattle.hs_typer.specs.Declarators.{word_of}
use Rattle.hs_types.specs.declared.row.ListId.{ListId}
use Rattle.hs_types.specs.declared.row.Row.{Row}
use Rattle.hs_types.specs.declared.row.Row.TheVariants as row
use Rattle.hs_types.specs.declared.row.TypeId.{TypeId}

-- the names of functions, and of definitions
abbrev pub names_of : List TypedFunction → List (List ℕ)
names_of its = map (λ it. it.name) its

abbrev pub defined_names : List Definition → List (List ℕ)
defined_names its = map (λ it. it.name) its

-- ---- one function

finished_named : (name : List ℕ) (at : Place) (id : TypeId) (count before : ℕ) (it : TypedBlock)
    → Always (finished name at id count before it) (λ its. its.name ≡ name)
finished_named name at id count before it = record { given = λ m. refl }

with_named : (number : ℕ) (static : Bool) (word : Word) (them : Parameters) (id : TypeId) (body : Compound) (its : TypeId) (list : ListId)
    → Always (defined_with number static word them id body its list) (λ it. it.name ≡ word.text)
with_named number static word them id body its list =
    next_always (may_give word its)
    (λ may. next_always (link static word id)
    (λ entity. next_always (is_only number word entity)
    (λ only. next_always (typing (named_outside word entity))
    (λ named. next_always (parameters_in word.place them list)
    (λ declared. next_always counts
    (λ done. next_always (body_of its body) (λ made. finished_named word.text word.place its done.0 done.1 made)))))))

of_named : (number : ℕ) (static : Bool) (word : Word) (them : Parameters) (id : TypeId) (body : Compound) (it : Option Row)
    → Always (defined_of number static word them id body it) (λ its. its.name ≡ word.text)
of_named number static word them id body None = stops_always _ _
of_named number static word them id body (Some row.Void) = stops_always _ _
of_named number static word them id body (Some (row.Integer kind)) = stops_always _ _
of_named number static word them id body (Some (row.Pointer of)) = stops_always _ _
of_named number static word them id body (Some (row.Enumeration tag)) = stops_always _ _
of_named number static word them id body (Some (row.Struct tag)) = stops_always _ _
of_named number static word them id body (Some (row.Array of length layout)) = stops_always _ _
of_named number static word them id body (Some (row.OpenArray of)) = stops_always _ _
of_named number static word them id body (Some (row.Function its list)) = with_named number static word them id body its list

by_named : (number : ℕ) (at : Place) (said : Front) (it : Declared) (body : Compound) (word : Option Word) (them : Option Parameters)
    → Always (defined_by number at said it body word them) (λ its. its.name ≡ text_of word)
by_named number at said it body None them = stops_always _ _
by_named number at said it body (Some word) None = stops_always _ _
by_named number at said it body (Some word) (Some them) =
    next_always (may_name word)
    (λ may. next_always (typing (opened_type at said.type_id it them))
    (λ id. record { given = λ m. (of_named number (is_static said.storage) word them id body _).given m }))

said_named : (number : ℕ) (at stored : Place) (it : Declared) (body : Compound) (said : Front)
    → Always (defined_said number at stored it body said) (λ its. its.name ≡ text_of (word_of it))
said_named number at stored it body said =
    next_always (may_store stored said.storage) (λ may. by_named number at said it body (word_of it) (parameters_of it))

at_named : (number : ℕ) (at : Place) (words : Specification) (it : Declared) (body : Compound)
    → Always (defined_at number at words it body) (λ its. its.name ≡ text_of (word_of it))
at_named number at words it body = next_always (typing (front at words)) (said_named number at (storage_place at words) it body)

-- ---- units

-- with the names of the definitions that an external declaration makes
IsNamed : ℕ → List ExternalDeclaration → ExternalDeclaration → Option TypedFunction → Type 0
IsNamed number unit it its = names_of (with_function [] its) ≡ defined_names (definitions_in number unit (it ∷ []))

external_named : (place number : ℕ) (unit : List ExternalDeclaration) (it : ExternalDeclaration) → Always (external place it) (IsNamed number unit it)
unfolding IsNamed
external_named place number unit (syntax.function_definition words it body) =
    then_always (at_named place (first_place (brace_of body) words) words it body) (λ its is. passes_always _ (Some its) (ap (λ name. name ∷ []) is))
external_named place number unit (syntax.declaration it) =
    next_always (declared_if (place_of_declaration it) it) (λ done. passes_always _ None refl)

-- one more function, and one more definition
names_with : (done : List TypedFunction) (it : Option TypedFunction) → names_of (with_function done it) ≡ names_of done ++ names_of (with_function [] it)
names_with done None = sym (append-nil (names_of done))
names_with done (Some it) = map-append (λ its. its.name) done (it ∷ [])

names_in : (number : ℕ) (unit : List ExternalDeclaration) (it : ExternalDeclaration) (rest : List ExternalDeclaration)
    → defined_names (definitions_in number unit (it ∷ rest))
    ≡ defined_names (definitions_in number unit (it ∷ [])) ++ defined_names (definitions_in number unit rest)
names_in number unit (syntax.function_definition words it body) rest = refl
names_in number unit (syntax.declaration it) rest = refl

-- those of the rest of a unit
abbrev pub AreNamed : List TypedFunction → List (List ℕ) → List TypedFunction → Type 0
AreNamed done names its = names_of its ≡ names_of done ++ names

named_behind : (number : ℕ) (unit : List ExternalDeclaration) (it : ExternalDeclaration) (rest : List ExternalDeclaration) (done : List TypedFunction)
    (next : Option TypedFunction) → IsNamed number unit it next → (all : List TypedFunction)
    → AreNamed (with_function done next) (defined_names (definitions_in number unit rest)) all
    → AreNamed done (defined_names (definitions_in number unit (it ∷ rest))) all
unfolding IsNamed
named_behind number unit it rest done next is all named =
    named
    ∙ ap (λ names. names ++ defined_names (definitions_in number unit rest))
    (names_with done next ∙ ap (λ names. names_of done ++ names) is)
    ∙ append_assoc (names_of done) (defined_names (definitions_in number unit (it ∷ []))) (defined_names (definitions_in number unit rest))
    ∙ ap (λ names. names_of done ++ names) (sym (names_in number unit it rest))

so_always : {A : Type 0} → (work : _) (P Q : A → Type 0) → Always work P → ((it : A) → P it → Q it) → Always work Q
so_always work P Q is so = record { given = λ m. given_so (work m) (is.given m) }
  where
    given_so : (given : _) → Given P given → Given Q given
    given_so (Ok p) holds = so p.0 holds
    given_so (Err why) holds = tt

externals_named : (number : ℕ) (unit its : List ExternalDeclaration) (done : List TypedFunction)
    → Always (externals done its) (AreNamed done (defined_names (definitions_in number unit its)))
externals_named number unit [] done = passes_always _ done (sym (append-nil (names_of done)))
externals_named number unit (it ∷ rest) done =
    then_always (external_named (length done) number unit it)
    (λ next is. so_always (externals (with_function done next) rest) _ _ (externals_named number unit rest (with_function done next))
    (named_behind number unit it rest done next is))

pub unit_named : (number : ℕ) (unit : List ExternalDeclaration) (done : List TypedFunction)
    → Always (unit_of done unit) (AreNamed done (defined_names (definitions_in number unit unit)))
unit_named number unit done =
    then_always (externals_named number unit unit done)
    (λ all is. next_always rechecked (λ again. next_always unit_ended (λ over. passes_always _ all is)))

units_behind : (number : ℕ) (unit : List ExternalDeclaration) (units : List (List ExternalDeclaration)) (done some all : List TypedFunction)
    → AreNamed done (defined_names (definitions_in number unit unit)) some → AreNamed some (defined_names (all_definitions (suc number) units)) all
    → AreNamed done (defined_names (all_definitions number (unit ∷ units))) all
units_behind number unit units done some all is named =
    named
    ∙ ap (λ names. names ++ defined_names (all_definitions (suc number) units)) is
    ∙ append_assoc (names_of done) (defined_names (definitions_in number unit unit)) (defined_names (all_definitions (suc number) units))
    ∙ ap (λ names. names_of done ++ names)
    (sym (map-append (λ it. it.name) (definitions_in number unit unit) (all_definitions (suc number) units)))

units_named : (number : ℕ) (units : List (List ExternalDeclaration)) (done : List TypedFunction)
    → Always (units_of done units) (AreNamed done (defined_names (all_definitions number units)))
units_named number [] done = passes_always _ done (sym (append-nil (names_of done)))
units_named number (unit ∷ units) done =
    then_always (unit_named number unit done)
    (λ some is. so_always (units_of some units) _ _ (units_named (suc number) units some) (λ all named. units_behind number unit units done some all is named))

-- the functions of all units
abbrev pub FunctionsAreNamed : Type 0
FunctionsAreNamed = (table : List Routine) (units : List (List ExternalDeclaration))
    → Given (λ its. names_of its ≡ defined_names (all_definitions 0 units)) (units_of [] units (before_units table (all_definitions 0 units)))

pub functions_are_named : FunctionsAreNamed
functions_are_named table units = (units_named 0 units []).given (before_units table (all_definitions 0 units))
