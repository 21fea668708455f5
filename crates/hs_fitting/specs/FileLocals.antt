-- Declarations of file scope make no automatic variables, and leave the list of definitions as it is (X3.159-1989 3.7).
--     Still work                      from every place of the text, the automatic variables and the definitions stay
--     passes_still, typing_still, ..  one step; then_still, either_still: one after another
--     file_declared_locals            of a declaration of file scope
use Rattle.std.proofs.Common.{◌≡◌, ℕ, Bool, true, false, not, ◌&&◌, List, [], ◌∷◌, ◌++◌, Option, Some, None, Result, Ok, Err, refl, subst, ◌∙◌, if◌then◌else◌}
use Rattle.hs_declarations.specs.Declarations.{is_object, can_start, is_first, object_started, started_as, object_with_start, may_be_tentative, keeps_linkage, awaits_body, tentative_of, tentative, file_object, with_inline_words, function_declared, file_entity, is_static, is_typedef_word, file_item_as, file_item, file_items, typedef_as, typedef_item, typedef_types, typedef_named, typedefs_named, typedef_items, nothing_named, file_declared_at, file_declared}
use Rattle.hs_declarations.specs.Fronts.{front, item_type, tag_alone, lone_tag, declares_any, storage_place, place_of_start}
use Rattle.hs_declarations.specs.declared.fronts.Front.{Front}
use Rattle.hs_expressions.specs.Expressions.{first_place}
use Rattle.hs_initialisers.specs.Initialisers.{initialised}
use Rattle.hs_initialisers.specs.InlineWords.{inline_words}
use Rattle.hs_linkage.specs.Externals.{newest_external, type_of_entity}
use Rattle.hs_linkage.specs.Linkage.{agrees, agrees_if, agrees_with_all, declarations_of, type_seen, may_name, new_object, new_function, new_entity, external_as, clash_of, compatible_externals, linked_as, composite_of, first_link, relinked, next_link, link_as, is_function, compatible_routines, noted, link, object_typed, renamed, linked, completed_link, define_object, with_type_id}
use Rattle.hs_linkage.specs.Works.{Work, work_with, ◌>>=◌, pass, stop, typing, with_typer, knowing, same_work, unless}
use Rattle.hs_linkage.specs.declared.translator.Linked.{Linked}
use Rattle.hs_linkage.specs.declared.translator.Translator.{Translator}
use Rattle.hs_names.specs.Scopes.{find}
use Rattle.hs_syntax.specs.Trees.{Declaring, Declaration, Initialising, Specification}
use Rattle.hs_syntax.specs.declared.word.Word.{Word}
use Rattle.hs_tokens.specs.declared.place.Place.{Place}
use Rattle.hs_tree.specs.declared.constant.Part.{Part}
use Rattle.hs_syntax.specs.declared.operators.Storage.{Storage}
use Rattle.hs_tree.specs.declared.head.Variable.TheVariants as variable
use Rattle.hs_typer.specs.Declarators.{declare, word_of}
use Rattle.hs_typer.specs.Declaring.{note_tentative}
use Rattle.hs_typer.specs.Steps.{Step}
use Rattle.hs_typer.specs.declared.type_error.TypeError.{TypeError}
use Rattle.hs_typer.specs.declared.type_error.TypeError.TheVariants.{Untyped}
use Rattle.hs_typer.specs.declared.typer.Entity.{Entity}
use Rattle.hs_typer.specs.declared.typer.Entity.TheVariants as entity
use Rattle.hs_typer.specs.declared.typer.Typer.{Typer}
use Rattle.hs_types.specs.declared.row.TypeId.{TypeId}

-- ---- steps that make no variable

-- what an answer leaves as it is
abbrev pub Stilled : {A : Type 0} → Translator → Result (A × Translator) TypeError → Type 0
Stilled m (Ok p) = (p.1.locals ≡ m.locals) × (p.1.definitions ≡ m.definitions)
Stilled m (Err why) = Unit {0}

-- from every place of the text
pub record Still {A : Type 0} (work : Work A) : Type 0 where
  pub from : (m : Translator) → Stilled m (work m)

-- an answer after another
stilled_behind : {A B : Type 0} → (m : Translator) (p : A × Translator) (given : Result (B × Translator) TypeError)
    → (p.1.locals ≡ m.locals) × (p.1.definitions ≡ m.definitions) → Stilled p.1 given → Stilled m given
stilled_behind m p (Ok q) before after = (after.0 ∙ before.0, after.1 ∙ before.1)
stilled_behind m p (Err why) before after = tt

-- with the step that comes after it
stilled_with : {A B : Type 0} → (next : A → Work B) (m : Translator) (given : Result (A × Translator) TypeError) → Stilled m given
    → ((it : A) → Still (next it)) → Stilled m (work_with next given)
stilled_with next m (Ok p) before after = stilled_behind m p (next p.0 p.1) before ((after p.0).from p.1)
stilled_with next m (Err why) before after = tt

-- of a step of typing
stilled_typer : {A : Type 0} → (m : Translator) (given : Result (A × Typer) TypeError) → Stilled m (with_typer m given)
stilled_typer m (Ok p) = (refl, refl)
stilled_typer m (Err why) = tt

-- of what changes nothing
stilled_same : {A : Type 0} → (m : Translator) (given : Result A TypeError) → Stilled m (same_work m given)
stilled_same m (Ok it) = (refl, refl)
stilled_same m (Err why) = tt

-- of a test
stilled_unless : (why : TypeError) (b : Bool) (m : Translator) → Stilled {A = Unit {0}} m (if b then Err why else Ok (tt, m))
stilled_unless why true m = tt
stilled_unless why false m = (refl, refl)

-- what changes nothing
pub passes_still : {A : Type 0} → (it : A) → Still (pass it)
passes_still it = record { from = λ m. (refl, refl) }

-- a refusal
pub stops_still : {A : Type 0} → (why : TypeError) → Still {A = A} (stop why)
stops_still why = record { from = λ m. tt }

-- a step of typing
pub typing_still : {A : Type 0} → (step : Step A) → Still (typing step)
typing_still step = record { from = λ m. stilled_typer m (step m.typer) }

-- a look at what is known
pub knowing_still : {A : Type 0} → (f : Translator → Result A TypeError) → Still (knowing f)
knowing_still f = record { from = λ m. stilled_same m (f m) }

-- a test
pub unless_still : (why : TypeError) (test : Translator → Bool) → Still (unless why test)
unless_still why test = record { from = λ m. stilled_unless why (test m) m }

-- one step after another
pub then_still : {A B : Type 0} → {next : A → Work B} → (first : Work A) → Still first → ((it : A) → Still (next it)) → Still (first >>= next)
then_still {next = next} first before after = record { from = λ m. stilled_with next m (first m) (before.from m) after }

-- both ways of a test on what is known
pub either_still : {A : Type 0} → (test : Translator → Bool) (one other : Work A) → Still one → Still other
    → Still (λ m. if test m then one m else other m)
either_still test one other is is' = record { from = λ m. both (test m) m }
  where
    both : (b : Bool) (m : Translator) → Stilled m (if b then one m else other m)
    both true m = is.from m
    both false m = is'.from m

-- ---- names with linkage

-- a new object or function
new_entity_still : (internal : Bool) (word : Word) (id : TypeId) → Still (new_entity internal word id)
new_entity_still internal word id =
    either_still (λ m. is_function m.typer.types id) (new_function internal word id) (new_object word id)
    (record { from = λ m. (refl, refl) }) (record { from = λ m. (refl, refl) })

-- what another unit declared
external_as_still : (word : Word) (id : TypeId) (it : Option Entity) → Still (external_as word id it)
external_as_still word id None = new_entity_still false word id
external_as_still word id (Some it) = passes_still (with_type_id id it)

-- the first declaration in this unit
first_link_still : (static : Bool) (word : Word) (id : TypeId) → Still (first_link static word id)
first_link_still true word id = then_still (new_entity true word id) (new_entity_still true word id) (λ it. passes_still (linked_as true it))
first_link_still false word id =
    then_still (compatible_externals word id) (unless_still _ _)
    (λ fits. then_still (knowing (λ m. Ok (newest_external word.text m.externals))) (knowing_still (λ m. Ok (newest_external word.text m.externals)))
    (λ found. then_still (external_as word id found) (external_as_still word id found) (λ it. passes_still (linked_as false it))))

-- the composite type
relinked_still : (word : Word) (id : TypeId) (it : Linked) → Still (relinked word id it)
relinked_still word id it =
    knowing_still (λ m. Ok (linked_as it.internal (with_type_id (composite_of m.typer.types (type_seen m word it.entity) id) it.entity)))

-- and one more
next_link_still : (static : Bool) (word : Word) (id : TypeId) (it : Linked) → Still (next_link static word id it)
next_link_still static word id it =
    then_still (unless (Untyped word.place) (λ m. static && not it.internal)) (unless_still _ _)
    (λ a. then_still (unless (clash_of word) (λ m. not (agrees_with_all m word.text id (declarations_of it.internal m)))) (unless_still _ _)
    (λ b. then_still (unless (clash_of word) (λ m. not (agrees m id (type_of_entity it.entity)))) (unless_still _ _)
    (λ c. then_still (unless (clash_of word) (λ m. not (agrees_if m id (type_seen m word it.entity)))) (unless_still _ _)
    (λ d. relinked_still word id it))))

-- by what the unit has declared
link_as_still : (static : Bool) (word : Word) (id : TypeId) (it : Option Linked) → Still (link_as static word id it)
link_as_still static word id None = first_link_still static word id
link_as_still static word id (Some it) = next_link_still static word id it

-- which is known then
noted_still : (word : Word) (id : TypeId) (it : Linked) → Still (noted word id it)
noted_still word id it = record { from = λ m. (refl, refl) }

-- the object or the function that a name refers to
link_still : (static : Bool) (word : Word) (id : TypeId) → Still (link static word id)
link_still static word id =
    then_still (knowing (λ m. Ok (find word.text m.links))) (knowing_still (λ m. Ok (find word.text m.links)))
    (λ found. then_still (link_as static word id found) (link_as_still static word id found)
    (λ it. then_still (compatible_routines word id it) (unless_still _ _) (λ fits. noted_still word id it)))

-- the type of an object
object_typed_still : (it : Entity) → Still (object_typed it)
object_typed_still (entity.Constant bits) = record { from = λ m. (refl, refl) }
object_typed_still (entity.Variable (variable.Global place) id) = record { from = λ m. (refl, refl) }
object_typed_still (entity.Variable (variable.Local place) id) = record { from = λ m. (refl, refl) }
object_typed_still (entity.Function id its) = record { from = λ m. (refl, refl) }
object_typed_still (entity.Typedef id) = record { from = λ m. (refl, refl) }

-- a declaration with linkage
linked_still : (static : Bool) (word : Word) (id : TypeId) → Still (linked static word id)
linked_still static word id =
    then_still (may_name word) (unless_still _ _)
    (λ may. then_still (link static word id) (link_still static word id)
    (λ it. then_still (object_typed it) (object_typed_still it)
    (λ done. then_still (typing (renamed word it)) (typing_still (renamed word it)) (λ named. passes_still it))))

-- after its initialiser
completed_link_still : (static : Bool) (word : Word) (id : TypeId) → Still (completed_link static word id)
completed_link_still static word id =
    then_still (link static word id) (link_still static word id)
    (λ it. then_still (typing (renamed word it)) (typing_still (renamed word it)) (λ named. passes_still it))

-- ---- objects and functions

-- what an object starts with
define_object_still : (place : ℕ) (id : TypeId) (parts : List Part) → Still (define_object place id parts)
define_object_still place id parts = record { from = λ m. (refl, refl) }

-- the definition of an object
object_started_still : (static : Bool) (word : Word) (it : Initialising) (place : ℕ) (id : TypeId) → Still (object_started static word it place id)
object_started_still static word it place id =
    then_still (can_start word id) (unless_still _ _)
    (λ may. then_still (is_first word place) (unless_still _ _)
    (λ first. then_still (typing (initialised word.place id it)) (typing_still (initialised word.place id it))
    (λ its. then_still (completed_link static word its.0) (completed_link_still static word its.0)
    (λ again. define_object_still place its.0 its.1))))

-- of what the declaration refers to
started_as_still : (static : Bool) (word : Word) (it : Initialising) (its : Entity) → Still (started_as static word it its)
started_as_still static word it (entity.Constant bits) = passes_still tt
started_as_still static word it (entity.Variable (variable.Global place) id) = object_started_still static word it place id
started_as_still static word it (entity.Variable (variable.Local place) id) = passes_still tt
started_as_still static word it (entity.Function id its) = passes_still tt
started_as_still static word it (entity.Typedef id) = passes_still tt

-- if it has an initialiser
with_start_still : (static : Bool) (word : Word) (it : Option Initialising) (its : Entity) → Still (object_with_start static word it its)
with_start_still static word None its = passes_still tt
with_start_still static word (Some it) its = started_as_still static word it its

-- an object whose type is not complete is noted
tentative_still : (storage : Option Storage) (word : Word) (id : TypeId) (it : Option Initialising) → Still (tentative storage word id it)
tentative_still storage word id it = record { from = λ m. by_test (awaits_body storage id it m) m }
  where
    by_test : (b : Bool) (m : Translator)
        → Stilled {A = Unit {0}} m (if b then typing (note_tentative (tentative_of word id m)) m else Ok (tt, m))
    by_test true m = (typing_still (note_tentative (tentative_of word id m))).from m
    by_test false m = (refl, refl)

-- an object
file_object_still : (storage : Option Storage) (word : Word) (id : TypeId) (it : Option Initialising) → Still (file_object storage word id it)
file_object_still storage word id it =
    then_still (is_object word id) (unless_still _ _)
    (λ may. then_still (may_be_tentative (is_static storage) word id it) (unless_still _ _)
    (λ whole. then_still (keeps_linkage storage word) (unless_still _ _)
    (λ keeps. then_still (tentative storage word id it) (tentative_still storage word id it)
    (λ noted. then_still (linked (is_static storage) word id) (linked_still (is_static storage) word id)
    (λ its. with_start_still (is_static storage) word it its)))))

-- the words of an inline trap
words_still : (it : Option Initialising) → Still (with_inline_words it)
words_still None = passes_still tt
words_still (Some it) = typing_still (inline_words it)

-- a function
function_declared_still : (static : Bool) (word : Word) (id : TypeId) (it : Option Initialising) → Still (function_declared static word id it)
function_declared_still static word id it = then_still (linked static word id) (linked_still static word id) (λ its. words_still it)

-- by its type
file_entity_still : (storage : Option Storage) (word : Word) (id : TypeId) (it : Option Initialising) → Still (file_entity storage word id it)
file_entity_still storage word id it =
    either_still (λ m. is_function m.typer.types id) (function_declared (is_static storage) word id it) (file_object storage word id it)
    (function_declared_still (is_static storage) word id it) (file_object_still storage word id it)

-- a declarator names something
file_item_as_still : (storage : Option Storage) (at : Place) (word : Option Word) (id : TypeId) (it : Option Initialising)
    → Still (file_item_as storage at word id it)
file_item_as_still storage at None id it = stops_still (Untyped at)
file_item_as_still storage at (Some word) id it = file_entity_still storage word id it

-- one declarator
file_item_still : (storage : Option Storage) (at : Place) (base : TypeId) (it : Declaring) → Still (file_item storage at base it)
file_item_still storage at base it =
    then_still (typing (item_type at base it.declarator)) (typing_still (item_type at base it.declarator))
    (λ id. file_item_as_still storage at (word_of it.declarator) id it.initialiser)

-- all of a declaration
file_items_still : (storage : Option Storage) (at : Place) (base : TypeId) (its : List Declaring) → Still (file_items storage at base its)
file_items_still storage at base [] = passes_still tt
file_items_still storage at base (it ∷ rest) =
    then_still (file_item storage at base it) (file_item_still storage at base it) (λ done. file_items_still storage at base rest)

-- ---- typedef names

-- the type of one
typedef_as_still : (at : Place) (word : Option Word) (id : TypeId) (it : Option Initialising) → Still (typedef_as at word id it)
typedef_as_still at None id it = stops_still (Untyped at)
typedef_as_still at (Some word) id None = passes_still id
typedef_as_still at (Some word) id (Some it) = stops_still (Untyped (place_of_start it))

-- of one declarator
typedef_item_still : (at : Place) (base : TypeId) (it : Declaring) → Still (typedef_item at base it)
typedef_item_still at base it =
    then_still (typing (item_type at base it.declarator)) (typing_still (item_type at base it.declarator))
    (λ id. typedef_as_still at (word_of it.declarator) id it.initialiser)

-- of all of them
typedef_types_still : (at : Place) (base : TypeId) (done : List TypeId) (its : List Declaring) → Still (typedef_types at base done its)
typedef_types_still at base done [] = passes_still done
typedef_types_still at base done (it ∷ rest) =
    then_still (typedef_item at base it) (typedef_item_still at base it) (λ id. typedef_types_still at base (done ++ id ∷ []) rest)

-- a name
typedef_named_still : (word : Option Word) (id : TypeId) → Still (typedef_named word id)
typedef_named_still None id = passes_still tt
typedef_named_still (Some word) id = typing_still (declare word (entity.Typedef id))

-- each with its type
typedefs_named_still : (its : List Declaring) (ids : List TypeId) → Still (typedefs_named its ids)
typedefs_named_still [] ids = passes_still tt
typedefs_named_still (it ∷ rest) [] = passes_still tt
typedefs_named_still (it ∷ rest) (id ∷ ids) =
    then_still (typedef_named (word_of it.declarator) id) (typedef_named_still (word_of it.declarator) id) (λ done. typedefs_named_still rest ids)

-- ---- declarations

-- specifiers without a declarator
nothing_named_still : (inside : Bool) (at : Place) (its : Specification) (word : Option Word) → Still (nothing_named inside at its word)
nothing_named_still inside at its None =
    then_still (typing (front at its)) (typing_still (front at its))
    (λ said. then_still (unless (Untyped (storage_place at its)) (λ m. inside && is_typedef_word said.storage)) (unless_still _ _)
    (λ plain. unless_still (Untyped at) (λ m. not (declares_any its))))
nothing_named_still inside at its (Some word) = typing_still (tag_alone word)

-- by the storage word
items_as_still : (b : Bool) (at : Place) (its : List Declaring) (said : Front)
    → Still (if b then typedef_items at said.type_id its else file_items said.storage at said.type_id its)
items_as_still true at its said =
    then_still (typedef_types at said.type_id [] its) (typedef_types_still at said.type_id [] its) (λ ids. typedefs_named_still its ids)
items_as_still false at its said = file_items_still said.storage at said.type_id its

-- with or without declarators
file_declared_at_still : (at : Place) (words : Specification) (its : List Declaring) → Still (file_declared_at at words its)
file_declared_at_still at words [] = nothing_named_still false at words (lone_tag words)
file_declared_at_still at words (it ∷ rest) =
    then_still (typing (front at words)) (typing_still (front at words)) (λ said. items_as_still (is_typedef_word said.storage) at (it ∷ rest) said)

-- a declaration of file scope
pub file_declared_still : (other : Place) (it : Declaration) → Still (file_declared other it)
file_declared_still other it = file_declared_at_still (first_place other it.specifiers) it.specifiers it.items

-- The automatic variables and the definitions are what they were.
pub file_declared_locals : (other : Place) (it : Declaration) (m : Translator) (p : Unit {0} × Translator) → file_declared other it m ≡ Ok p
    → (p.1.locals ≡ m.locals) × (p.1.definitions ≡ m.definitions)
file_declared_locals other it m p given = subst (Stilled m) given ((file_declared_still other it).from m)
