-- Declarations move on what is known of a program.
--     file_declared_moved             a declaration of file scope
--     link_moved, linked_moved, ..    its parts, for those of blocks
use Rattle.std.proofs.Common.{ℕ, Bool, true, false, not, ◌&&◌, List, [], ◌∷◌, ◌++◌, Option, Some, None, Ok, if◌then◌else◌, refl}
use Rattle.hs_declarations.specs.Declarations.{is_object, can_start, is_first, object_started, started_as, object_with_start, may_be_tentative, keeps_linkage, awaits_body, tentative_of, tentative, file_object, with_inline_words, function_declared, file_entity, is_static, is_typedef_word, file_item_as, file_item, file_items, typedef_as, typedef_item, typedef_types, typedef_named, typedefs_named, typedef_items, nothing_named, file_declared_at, file_declared}
use Rattle.hs_declarations.specs.Fronts.{front, item_type, tag_alone, tag_alone_as, lone_tag, declares_any, storage_place, place_of_start}
use Rattle.hs_declarations.specs.declared.fronts.Front.{Front}
use Rattle.hs_expressions.specs.Expressions.{first_place}
use Rattle.hs_expressions.specs.Laws.{IsConstant, IsScoped}
use Rattle.hs_expressions.specs.Laws.Always.{Always, Anything, gives_always, refuses_always, looks_always, on_types_always, then_always}
use Rattle.hs_expressions.specs.Laws.Extending.{specified_always, derivations_always}
use Rattle.hs_expressions.specs.Laws.Grown.{formed_grows}
use Rattle.hs_expressions.specs.Laws.Leaves.{note_tentative_always, tagged_struct_reaches, declare_always}
use Rattle.hs_expressions.specs.Laws.Reached.{IsAllowedAt, more_one, reaches_names}
use Rattle.hs_fitting.specs.Initialising.{initialised_always, inline_words_always}
use Rattle.hs_fitting.specs.Moves.{Moves, moves_self}
use Rattle.hs_fitting.specs.Moving.{Moving, Moved, passes_moved, stops_moved, knowing_moved, unless_moved, then_moved, and_moved, typing_moved}
use Rattle.hs_initialisers.specs.Initialisers.{initialised}
use Rattle.hs_linkage.specs.Externals.{newest_external, type_of_entity}
use Rattle.hs_linkage.specs.Linkage.{agrees, agrees_if, agrees_with_all, declarations_of, type_seen, may_name, new_object, new_function, new_entity, external_as, clash_of, compatible_externals, linked_as, composite_of, first_link, next_link, link_as, is_function, compatible_routines, noted, link, object_typed, renamed, linked, completed_link, define_object, with_type_id}
use Rattle.hs_linkage.specs.Works.{Work, typing, knowing, unless}
use Rattle.hs_linkage.specs.declared.externals.External.{External}
use Rattle.hs_linkage.specs.declared.translator.Linked.{Linked}
use Rattle.hs_linkage.specs.declared.translator.StaticObject.{StaticObject}
use Rattle.hs_linkage.specs.declared.translator.Translator.{Translator}
use Rattle.hs_names.specs.Scopes.{Scoped, find, find_here, declared}
use Rattle.hs_syntax.specs.Trees.{Declared, Declaring, Declaration, Initialising, Specification}
use Rattle.hs_syntax.specs.declared.word.Word.{Word}
use Rattle.hs_tokens.specs.declared.place.Place.{Place}
use Rattle.hs_tree.specs.declared.constant.Part.{Part}
use Rattle.hs_syntax.specs.declared.operators.Storage.{Storage}
use Rattle.hs_tree.specs.declared.head.Variable.TheVariants as variable
use Rattle.hs_typer.specs.Declarators.{declare, formed, place_of, word_of}
use Rattle.hs_typer.specs.Declaring.{note_tentative}
use Rattle.hs_typer.specs.Specifiers.{no_specifiers, type_from, new_tagged_struct}
use Rattle.hs_typer.specs.declared.type_error.TypeError.TheVariants.{Untyped}
use Rattle.hs_typer.specs.declared.typer.Entity.{Entity}
use Rattle.hs_typer.specs.declared.typer.Entity.TheVariants as entity
use Rattle.hs_typer.specs.declared.typer.Tag.{Tag}
use Rattle.hs_typer.specs.declared.typer.Tag.TheVariants as tag
use Rattle.hs_types.specs.declared.row.TypeId.{TypeId}

-- ---- steps of typing

-- what the specifiers say
pub front_always : (at : Place) (its : Specification) → Always IsConstant (front at its)
front_always at its =
    then_always (specified_always true at no_specifiers its)
    (λ said. then_always (looks_always (λ s. type_from at said)) (λ id. gives_always (record { storage = said.storage; type_id = id })))

-- the type of a declarator
pub item_type_always : (at : Place) (base : TypeId) (it : Declared) → Always IsConstant (item_type at base it)
item_type_always at base it =
    then_always (derivations_always at it)
    (λ its. on_types_always (formed (place_of at it) its base) (formed_grows (place_of at it) its base))

-- a name that means something else from here on
pub renamed_always : (word : Word) (it : Entity) → Always Anything (renamed word it)
renamed_always word it =
    record {
      from = λ s scoped. reaches_names Anything s (declared word.text it s.names)
          (more_one (IsAllowedAt Anything s.names.level) word.text it s.names (refl, tt));
    }

-- `struct tag;`
new_tag_always : (word : Word) → Always IsConstant (new_tagged_struct word)
new_tag_always word = record { from = λ s scoped. tagged_struct_reaches IsConstant word s }

tag_as_always : (word : Word) (it : Option Tag) → Always IsConstant (tag_alone_as word it)
tag_as_always word None = then_always (new_tag_always word) (λ number. gives_always tt)
tag_as_always word (Some (tag.Struct number)) = gives_always tt
tag_as_always word (Some (tag.Enumeration number)) = refuses_always (Untyped word.place)

pub tag_always : (word : Word) → Always IsConstant (tag_alone word)
tag_always word = record { from = λ s scoped. (tag_as_always word (find_here word.text s.tags)).from s scoped }

-- ---- steps of programs

-- what is known of objects and of linkage
moves_beside : (m : Translator) (objects : List StaticObject) (links : Scoped Linked) (internals externals routines : List External) → IsScoped m.typer
    → Moves m (record m { objects = objects; links = links; internals = internals; externals = externals; routines = routines })
moves_beside m objects links internals externals routines scoped =
    let still = moves_self m scoped in
    record { typer = still.typer; scoped = still.scoped; definitions = still.definitions; locals = still.locals }

-- both ways of a test on what is known
pub either_moved : {A : Type 0} → (test : Translator → Bool) (here there : Work A) → Moved here → Moved there
    → Moved (λ m. if test m then here m else there m)
either_moved test here there is is' = record { from = λ m scoped. both (test m) m scoped }
  where
    both : (b : Bool) (m : Translator) → IsScoped m.typer → Moving m (if b then here m else there m)
    both true m scoped = is.from m scoped
    both false m scoped = is'.from m scoped

pub declare_moved : (word : Word) (it : Entity) → Moved (typing (declare word it))
declare_moved word it = typing_moved Anything (declare word it) (declare_always word it tt)

pub renamed_moved : (word : Word) (it : Entity) → Moved (typing (renamed word it))
renamed_moved word it = typing_moved Anything (renamed word it) (renamed_always word it)

pub new_object_moved : (word : Word) (id : TypeId) → Moved (new_object word id)
new_object_moved word id = record { from = λ m scoped. moves_beside m _ m.links m.internals m.externals m.routines scoped }

new_entity_moved : (internal : Bool) (word : Word) (id : TypeId) → Moved (new_entity internal word id)
new_entity_moved internal word id =
    either_moved (λ m. is_function m.typer.types id) (new_function internal word id) (new_object word id)
    (record { from = λ m scoped. moves_self m scoped }) (new_object_moved word id)

external_as_moved : (word : Word) (id : TypeId) (it : Option Entity) → Moved (external_as word id it)
external_as_moved word id None = new_entity_moved false word id
external_as_moved word id (Some it) = passes_moved (with_type_id id it)

first_link_moved : (static : Bool) (word : Word) (id : TypeId) → Moved (first_link static word id)
first_link_moved true word id = then_moved (new_entity true word id) (new_entity_moved true word id) (λ it. passes_moved (linked_as true it))
first_link_moved false word id =
    then_moved (compatible_externals word id) (unless_moved _ _)
    (λ fits. then_moved (knowing (λ m. Ok (newest_external word.text m.externals)))
    (knowing_moved (λ m. Ok (newest_external word.text m.externals)))
    (λ found. then_moved (external_as word id found) (external_as_moved word id found) (λ it. passes_moved (linked_as false it))))

next_link_moved : (static : Bool) (word : Word) (id : TypeId) (it : Linked) → Moved (next_link static word id it)
next_link_moved static word id it =
    then_moved (unless (Untyped word.place) (λ m. static && not it.internal)) (unless_moved _ _)
    (λ a. then_moved (unless (clash_of word) (λ m. not (agrees_with_all m word.text id (declarations_of it.internal m)))) (unless_moved _ _)
    (λ b. then_moved (unless (clash_of word) (λ m. not (agrees m id (type_of_entity it.entity)))) (unless_moved _ _)
    (λ c. then_moved (unless (clash_of word) (λ m. not (agrees_if m id (type_seen m word it.entity)))) (unless_moved _ _)
    (λ d. knowing_moved
    (λ m. Ok (linked_as it.internal (with_type_id (composite_of m.typer.types (type_seen m word it.entity) id) it.entity)))))))

link_as_moved : (static : Bool) (word : Word) (id : TypeId) (it : Option Linked) → Moved (link_as static word id it)
link_as_moved static word id None = first_link_moved static word id
link_as_moved static word id (Some it) = next_link_moved static word id it

noted_moved : (word : Word) (id : TypeId) (it : Linked) → Moved (noted word id it)
noted_moved word id it = record { from = λ m scoped. moves_beside m m.objects _ _ _ _ scoped }

pub link_moved : (static : Bool) (word : Word) (id : TypeId) → Moved (link static word id)
link_moved static word id =
    then_moved (knowing (λ m. Ok (find word.text m.links))) (knowing_moved (λ m. Ok (find word.text m.links)))
    (λ found. then_moved (link_as static word id found) (link_as_moved static word id found)
    (λ it. then_moved (compatible_routines word id it) (unless_moved _ _) (λ fits. noted_moved word id it)))

pub object_typed_moved : (it : Entity) → Moved (object_typed it)
object_typed_moved (entity.Constant bits) = record { from = λ m scoped. moves_self m scoped }
object_typed_moved (entity.Variable (variable.Global place) id) =
    record { from = λ m scoped. moves_beside m _ m.links m.internals m.externals m.routines scoped }
object_typed_moved (entity.Variable (variable.Local place) id) = record { from = λ m scoped. moves_self m scoped }
object_typed_moved (entity.Function id its) = record { from = λ m scoped. moves_self m scoped }
object_typed_moved (entity.Typedef id) = record { from = λ m scoped. moves_self m scoped }

pub linked_moved : (static : Bool) (word : Word) (id : TypeId) → Moved (linked static word id)
linked_moved static word id =
    then_moved (may_name word) (unless_moved _ _)
    (λ may. then_moved (link static word id) (link_moved static word id)
    (λ it. then_moved (object_typed it) (object_typed_moved it)
    (λ done. then_moved (typing (renamed word it)) (renamed_moved word it) (λ named. passes_moved it))))

completed_link_moved : (static : Bool) (word : Word) (id : TypeId) → Moved (completed_link static word id)
completed_link_moved static word id =
    then_moved (link static word id) (link_moved static word id)
    (λ it. then_moved (typing (renamed word it)) (renamed_moved word it) (λ named. passes_moved it))

pub define_object_moved : (place : ℕ) (id : TypeId) (parts : List Part) → Moved (define_object place id parts)
define_object_moved place id parts = record { from = λ m scoped. moves_beside m _ m.links m.internals m.externals m.routines scoped }

-- ---- file scope

object_started_moved : (static : Bool) (word : Word) (it : Initialising) (place : ℕ) (id : TypeId) → Moved (object_started static word it place id)
object_started_moved static word it place id =
    then_moved (can_start word id) (unless_moved _ _)
    (λ may. then_moved (is_first word place) (unless_moved _ _)
    (λ first. then_moved (typing (initialised word.place id it)) (typing_moved IsConstant _ (initialised_always word.place id it))
    (λ its. then_moved (completed_link static word its.0) (completed_link_moved static word its.0)
    (λ again. define_object_moved place its.0 its.1))))

started_as_moved : (static : Bool) (word : Word) (it : Initialising) (its : Entity) → Moved (started_as static word it its)
started_as_moved static word it (entity.Constant bits) = passes_moved tt
started_as_moved static word it (entity.Variable (variable.Global place) id) = object_started_moved static word it place id
started_as_moved static word it (entity.Variable (variable.Local place) id) = passes_moved tt
started_as_moved static word it (entity.Function id its) = passes_moved tt
started_as_moved static word it (entity.Typedef id) = passes_moved tt

with_start_moved : (static : Bool) (word : Word) (it : Option Initialising) (its : Entity) → Moved (object_with_start static word it its)
with_start_moved static word None its = passes_moved tt
with_start_moved static word (Some it) its = started_as_moved static word it its

pub tentative_moved : (storage : Option Storage) (word : Word) (id : TypeId) (it : Option Initialising) → Moved (tentative storage word id it)
tentative_moved storage word id it = record { from = λ m scoped. by_test (awaits_body storage id it m) m scoped }
  where
    by_test : (b : Bool) (m : Translator) → IsScoped m.typer
        → Moving {A = Unit {0}} m (if b then typing (note_tentative (tentative_of word id m)) m else Ok (tt, m))
    by_test true m scoped =
        (typing_moved IsConstant (note_tentative (tentative_of word id m)) (note_tentative_always (tentative_of word id m))).from m scoped
    by_test false m scoped = moves_self m scoped

file_object_moved : (storage : Option Storage) (word : Word) (id : TypeId) (it : Option Initialising) → Moved (file_object storage word id it)
file_object_moved storage word id it =
    then_moved (is_object word id) (unless_moved _ _)
    (λ may. then_moved (may_be_tentative (is_static storage) word id it) (unless_moved _ _)
    (λ may'. then_moved (keeps_linkage storage word) (unless_moved _ _)
    (λ keeps. then_moved (tentative storage word id it) (tentative_moved storage word id it)
    (λ noted. then_moved (linked (is_static storage) word id) (linked_moved (is_static storage) word id)
    (λ its. with_start_moved (is_static storage) word it its)))))

words_moved : (it : Option Initialising) → Moved (with_inline_words it)
words_moved None = passes_moved tt
words_moved (Some it) = typing_moved IsConstant _ (inline_words_always it)

pub function_declared_moved : (static : Bool) (word : Word) (id : TypeId) (it : Option Initialising) → Moved (function_declared static word id it)
function_declared_moved static word id it =
    then_moved (linked static word id) (linked_moved static word id) (λ its. words_moved it)

file_entity_moved : (storage : Option Storage) (word : Word) (id : TypeId) (it : Option Initialising) → Moved (file_entity storage word id it)
file_entity_moved storage word id it =
    either_moved (λ m. is_function m.typer.types id) (function_declared (is_static storage) word id it) (file_object storage word id it)
    (function_declared_moved (is_static storage) word id it) (file_object_moved storage word id it)

file_item_as_moved : (storage : Option Storage) (at : Place) (word : Option Word) (id : TypeId) (it : Option Initialising)
    → Moved (file_item_as storage at word id it)
file_item_as_moved storage at None id it = stops_moved (Untyped at)
file_item_as_moved storage at (Some word) id it = file_entity_moved storage word id it

pub item_moved : (at : Place) (base : TypeId) (it : Declared) → Moved (typing (item_type at base it))
item_moved at base it = typing_moved IsConstant _ (item_type_always at base it)

pub front_moved : (at : Place) (its : Specification) → Moved (typing (front at its))
front_moved at its = typing_moved IsConstant _ (front_always at its)

file_items_moved : (storage : Option Storage) (at : Place) (base : TypeId) (its : List Declaring) → Moved (file_items storage at base its)
file_items_moved storage at base [] = passes_moved tt
file_items_moved storage at base (it ∷ rest) =
    and_moved (file_item storage at base it)
    (then_moved (typing (item_type at base it.declarator)) (item_moved at base it.declarator)
    (λ id. file_item_as_moved storage at (word_of it.declarator) id it.initialiser))
    (file_items_moved storage at base rest)

typedef_as_moved : (at : Place) (word : Option Word) (id : TypeId) (it : Option Initialising) → Moved (typedef_as at word id it)
typedef_as_moved at None id it = stops_moved (Untyped at)
typedef_as_moved at (Some word) id None = passes_moved id
typedef_as_moved at (Some word) id (Some it) = stops_moved (Untyped (place_of_start it))

typedef_types_moved : (at : Place) (base : TypeId) (done : List TypeId) (its : List Declaring) → Moved (typedef_types at base done its)
typedef_types_moved at base done [] = passes_moved done
typedef_types_moved at base done (it ∷ rest) =
    then_moved (typedef_item at base it)
    (then_moved (typing (item_type at base it.declarator)) (item_moved at base it.declarator)
    (λ id. typedef_as_moved at (word_of it.declarator) id it.initialiser))
    (λ id. typedef_types_moved at base (done ++ id ∷ []) rest)

typedef_named_moved : (word : Option Word) (id : TypeId) → Moved (typedef_named word id)
typedef_named_moved None id = passes_moved tt
typedef_named_moved (Some word) id = declare_moved word (entity.Typedef id)

typedefs_named_moved : (its : List Declaring) (ids : List TypeId) → Moved (typedefs_named its ids)
typedefs_named_moved [] ids = passes_moved tt
typedefs_named_moved (it ∷ rest) [] = passes_moved tt
typedefs_named_moved (it ∷ rest) (id ∷ ids) =
    and_moved (typedef_named (word_of it.declarator) id) (typedef_named_moved (word_of it.declarator) id) (typedefs_named_moved rest ids)

typedef_items_moved : (at : Place) (base : TypeId) (its : List Declaring) → Moved (typedef_items at base its)
typedef_items_moved at base its = then_moved (typedef_types at base [] its) (typedef_types_moved at base [] its) (typedefs_named_moved its)

pub nothing_named_moved : (inside : Bool) (at : Place) (its : Specification) (word : Option Word) → Moved (nothing_named inside at its word)
nothing_named_moved inside at its None =
    then_moved (typing (front at its)) (front_moved at its)
    (λ said. then_moved (unless (Untyped (storage_place at its)) (λ m. inside && is_typedef_word said.storage)) (unless_moved _ _)
    (λ plain. unless_moved (Untyped at) (λ m. not (declares_any its))))
nothing_named_moved inside at its (Some word) = typing_moved IsConstant _ (tag_always word)

items_as_moved : (b : Bool) (at : Place) (its : List Declaring) (said : Front)
    → Moved (if b then typedef_items at said.type_id its else file_items said.storage at said.type_id its)
items_as_moved true at its said = typedef_items_moved at said.type_id its
items_as_moved false at its said = file_items_moved said.storage at said.type_id its

file_declared_at_moved : (at : Place) (words : Specification) (its : List Declaring) → Moved (file_declared_at at words its)
file_declared_at_moved at words [] = nothing_named_moved false at words (lone_tag words)
file_declared_at_moved at words (it ∷ rest) =
    then_moved (typing (front at words)) (front_moved at words)
    (λ said. items_as_moved (is_typedef_word said.storage) at (it ∷ rest) said)

-- a declaration of file scope
pub file_declared_moved : (other : Place) (it : Declaration) → Moved (file_declared other it)
file_declared_moved other it = file_declared_at_moved (first_place other it.specifiers) it.specifiers it.items
