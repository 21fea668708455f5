-- Declarations of file scope and of blocks (X3.159-1989 3.5 and 3.7.2).
--     file_declared it           a declaration of file scope
--     block_declared it          a declaration of a block: the variables that it gives a value
use Rattle.std.specs.Prelude.{ℕ, Bool, true, false, not, ◌&&◌, ◌||◌, List, [], ◌∷◌, ◌++◌, length, slice_get, Option, Some, None, is_none, Ok, if◌then◌else◌}
use Rattle.hs_declarations.specs.Fronts.{front, item_type, tag_alone, lone_tag, declares_any, storage_place, place_of_start}
use Rattle.hs_linkage.specs.declared.translator.Linked.{Linked}
use Rattle.hs_linkage.specs.declared.translator.Translator.{Translator}
use Rattle.hs_linkage.specs.Linkage.{is_function, clash_of, mark_of, linked, completed_link, define_object, new_object, renamed}
use Rattle.hs_linkage.specs.Objects.{is_defined, local_as}
use Rattle.hs_linkage.specs.Works.{Work, ◌>>=◌, ◌>>◌, pass, stop, typing, unless}
use Rattle.hs_declarations.specs.declared.fronts.Front.{Front}
use Rattle.hs_expressions.specs.Expressions.{first_place}
use Rattle.hs_initialisers.specs.InlineWords.{inline_words}
use Rattle.hs_initialisers.specs.Initialisers.{initialised, starting}
use Rattle.hs_names.specs.Scopes.{find}
use Rattle.hs_operand_types.specs.Types.{designates, is_open}
use Rattle.hs_syntax.specs.Trees.{Declaring, Declaration, Initialising, Specification}
use Rattle.hs_syntax.specs.declared.operators.Storage.{Storage}
use Rattle.hs_syntax.specs.declared.operators.Storage.TheVariants as storage
use Rattle.hs_syntax.specs.declared.word.Word.{Word}
use Rattle.hs_tokens.specs.declared.place.Place.{Place}
use Rattle.hs_tree.specs.Trees.{Starting, TypedItem}
use Rattle.hs_tree.specs.declared.head.Variable.TheVariants as variable
use Rattle.hs_typer.specs.Declarators.{declare, word_of}
use Rattle.hs_typer.specs.Declaring.{note_tentative}
use Rattle.hs_typer.specs.declared.marks.Tentative.{Tentative}
use Rattle.hs_typer.specs.declared.type_error.TypeError.TheVariants.{Untyped}
use Rattle.hs_typer.specs.declared.typer.Entity.{Entity}
use Rattle.hs_typer.specs.declared.typer.Entity.TheVariants as entity
use Rattle.hs_types.specs.TypeTables.{is_complete}
use Rattle.hs_types.specs.declared.row.TypeId.{TypeId}

-- 3.1.2.5: void and functions are no types of objects
abbrev pub is_object : Word → TypeId → Work (Unit {0})
is_object word id = unless (Untyped word.place) (λ m. not (designates m.typer.types id))

-- an object that is made has a complete type
abbrev pub is_whole : Word → TypeId → Work (Unit {0})
is_whole word id = unless (Untyped word.place) (λ m. not (is_complete m.typer.types id))

-- or its initialiser says how many elements it has (3.5.7)
abbrev pub can_start : Word → TypeId → Work (Unit {0})
can_start word id = unless (Untyped word.place) (λ m. not (is_complete m.typer.types id || is_open m.typer.types id))

-- the number of an object of static storage duration
abbrev pub object_place : Entity → Option ℕ
object_place (entity.Constant bits) = None
object_place (entity.Variable (variable.Global place) id) = Some place
object_place (entity.Variable (variable.Local place) id) = None
object_place (entity.Function id its) = None
object_place (entity.Typedef id) = None

-- `static` is the storage word
abbrev pub is_static : Option Storage → Bool
is_static None = false
is_static (Some storage.Typedef) = false
is_static (Some storage.Extern) = false
is_static (Some storage.Static) = true

-- it has no initialiser yet (own: a second one is a Clash)
abbrev pub is_first : Word → ℕ → Work (Unit {0})
is_first word place = unless (clash_of word) (λ m. is_defined (slice_get m.objects place))

-- 3.7.2: the definition of an object with linkage, of that type
abbrev pub object_started : Bool → Word → Initialising → ℕ → TypeId → Work (Unit {0})
object_started static word it place id = do
  can_start word id
  is_first word place
  its ← typing (initialised word.place id it)
  again ← completed_link static word its.0
  define_object place its.0 its.1

-- of the composite type of the declarations that are visible here (3.1.2.6)
abbrev pub started_as : Bool → Word → Initialising → Entity → Work (Unit {0})
started_as static word it (entity.Constant bits) = pass tt
started_as static word it (entity.Variable (variable.Global place) id) = object_started static word it place id
started_as static word it (entity.Variable (variable.Local place) id) = pass tt
started_as static word it (entity.Function id its) = pass tt
started_as static word it (entity.Typedef id) = pass tt

-- with its initialiser, if there is one
abbrev pub object_with_start : Bool → Word → Option Initialising → Entity → Work (Unit {0})
object_with_start static word None its = pass tt
object_with_start static word (Some it) its = started_as static word it its

-- 3.7.2: a tentative definition with internal linkage is of a complete type
abbrev pub may_be_tentative : Bool → Word → TypeId → Option Initialising → Work (Unit {0})
may_be_tentative static word id it =
    unless (Untyped word.place) (λ m. static && is_none it && not (is_complete m.typer.types id))

-- the name has internal linkage
abbrev pub is_internal_link : Option Linked → Bool
is_internal_link None = false
is_internal_link (Some it) = it.internal

-- 3.1.2.2: without a storage word the linkage is external, and a name has one linkage in its unit
abbrev pub keeps_linkage : Option Storage → Word → Work (Unit {0})
keeps_linkage storage word = unless (Untyped word.place) (λ m. is_none storage && is_internal_link (find word.text m.links))

-- `extern` is the storage word
abbrev pub is_extern : Option Storage → Bool
is_extern None = false
is_extern (Some storage.Typedef) = false
is_extern (Some storage.Extern) = true
is_extern (Some storage.Static) = false

-- 3.7.2: an object that a declaration makes, whose struct has no body yet
abbrev pub awaits_body : Option Storage → TypeId → Option Initialising → Translator → Bool
awaits_body storage id it m =
    is_none it && not (is_extern storage) && not (is_complete m.typer.types id || is_open m.typer.types id)

-- where the declaration is, and its type
abbrev pub tentative_of : Word → TypeId → Translator → Tentative
tentative_of word id m = record { at = word.place; mark = mark_of m; type_id = id }

-- It is noted, as the struct may get its body before the end of the unit.
abbrev pub tentative : Option Storage → Word → TypeId → Option Initialising → Work (Unit {0})
tentative storage word id it m =
    if awaits_body storage id it m then typing (note_tentative (tentative_of word id m)) m else Ok (tt, m)

-- an object of file scope; `static` is whether that is the storage word
abbrev pub file_object_as : Bool → Option Storage → Word → TypeId → Option Initialising → Work (Unit {0})
file_object_as static storage word id it = do
  is_object word id
  may_be_tentative static word id it
  keeps_linkage storage word
  tentative storage word id it
  its ← linked static word id
  object_with_start static word it its

-- by its storage word
abbrev pub file_object : Option Storage → Word → TypeId → Option Initialising → Work (Unit {0})
file_object storage word id it = file_object_as (is_static storage) storage word id it

-- the words of an inline trap, if there are some
abbrev pub with_inline_words : Option Initialising → Work (Unit {0})
with_inline_words None = pass tt
with_inline_words (Some it) = typing (inline_words it)

-- a function that is declared, at any level
abbrev pub function_declared : Bool → Word → TypeId → Option Initialising → Work (Unit {0})
function_declared static word id it = do
  its ← linked static word id
  with_inline_words it

-- by its type
abbrev pub file_entity : Option Storage → Word → TypeId → Option Initialising → Work (Unit {0})
file_entity storage word id it m =
    if is_function m.typer.types id then function_declared (is_static storage) word id it m else file_object storage word id it m

abbrev pub is_typedef_word : Option Storage → Bool
is_typedef_word None = false
is_typedef_word (Some storage.Typedef) = true
is_typedef_word (Some storage.Extern) = false
is_typedef_word (Some storage.Static) = false

-- A declarator of a declaration names something.
abbrev pub file_item_as : Option Storage → Place → Option Word → TypeId → Option Initialising → Work (Unit {0})
file_item_as storage at None id it = stop (Untyped at)
file_item_as storage at (Some word) id it = file_entity storage word id it

-- one declarator of file scope
abbrev pub file_item : Option Storage → Place → TypeId → Declaring → Work (Unit {0})
file_item storage at base it = do
  id ← typing (item_type at base it.declarator)
  file_item_as storage at (word_of it.declarator) id it.initialiser

-- those of a declaration, in their order
abbrev pub file_items : Option Storage → Place → TypeId → List Declaring → Work (Unit {0})
file_items storage at base [] = pass tt
file_items storage at base (it ∷ rest) = file_item storage at base it >> file_items storage at base rest

-- 3.5.6: the type of a typedef name, which has no initialiser
abbrev pub typedef_as : Place → Option Word → TypeId → Option Initialising → Work TypeId
typedef_as at None id it = stop (Untyped at)
typedef_as at (Some word) id None = pass id
typedef_as at (Some word) id (Some it) = stop (Untyped (place_of_start it))

-- of one declarator
abbrev pub typedef_item : Place → TypeId → Declaring → Work TypeId
typedef_item at base it = do
  id ← typing (item_type at base it.declarator)
  typedef_as at (word_of it.declarator) id it.initialiser

-- of all of them; `done` are those before
abbrev pub typedef_types : Place → TypeId → List TypeId → List Declaring → Work (List TypeId)
typedef_types at base done [] = pass done
typedef_types at base done (it ∷ rest) = typedef_item at base it >>= (λ id. typedef_types at base (done ++ id ∷ []) rest)

-- a typedef name
abbrev pub typedef_named : Option Word → TypeId → Work (Unit {0})
typedef_named None id = pass tt
typedef_named (Some word) id = typing (declare word (entity.Typedef id))

-- each with its type
abbrev pub typedefs_named : List Declaring → List TypeId → Work (Unit {0})
typedefs_named [] ids = pass tt
typedefs_named (it ∷ rest) [] = pass tt
typedefs_named (it ∷ rest) (id ∷ ids) = typedef_named (word_of it.declarator) id >> typedefs_named rest ids

-- A typedef name is known after the whole declaration that makes it (own).
abbrev pub typedef_items : Place → TypeId → List Declaring → Work (Unit {0})
typedef_items at base its = typedef_types at base [] its >>= typedefs_named its

-- specifiers without a declarator. A typedef in a block is left out (own).
abbrev pub declared_alone : Bool → Place → Specification → Work (Unit {0})
declared_alone inside at its = do
  said ← typing (front at its)
  unless (Untyped (storage_place at its)) (λ m. inside && is_typedef_word said.storage)
  unless (Untyped at) (λ m. not (declares_any its))

-- `struct tag;`, or others; in a block if `inside` is true
abbrev pub nothing_named : Bool → Place → Specification → Option Word → Work (Unit {0})
nothing_named inside at its None = declared_alone inside at its
nothing_named inside at its (Some word) = typing (tag_alone word)

-- by the storage word
abbrev pub file_items_as : Place → List Declaring → Front → Work (Unit {0})
file_items_as at its said =
    if is_typedef_word said.storage then typedef_items at said.type_id its else file_items said.storage at said.type_id its

-- with or without declarators
abbrev pub file_declared_at : Place → Specification → List Declaring → Work (Unit {0})
file_declared_at at specifiers [] = nothing_named false at specifiers (lone_tag specifiers)
file_declared_at at specifiers (it ∷ rest) = typing (front at specifiers) >>= file_items_as at (it ∷ rest)

-- 3.5: a declaration of file scope. It begins with a specifier; `other` is the place of one that does not.
abbrev pub file_declared : Place → Declaration → Work (Unit {0})
file_declared other it = file_declared_at (first_place other it.specifiers) it.specifiers it.items

-- an automatic variable
abbrev pub new_local : Word → TypeId → Work ℕ
new_local word id m =
    Ok (
      length m.locals,
      record m { locals = m.locals ++ record { name = word.text; at = word.place; type_id = id; taken = false } ∷ [] },
    )

-- its type, after its initialiser
abbrev pub local_typed : ℕ → TypeId → Work (Unit {0})
local_typed place id m = Ok (tt, record m { locals = local_as id (slice_get m.locals place) m.locals place })

-- a variable that is given its first value
abbrev pub given : ℕ → Word → Starting → TypedItem
given place word it = record { variable = place; at = word.place; start = it }

-- 3.5.7: the initialiser of an automatic variable
abbrev pub local_started : Word → TypeId → ℕ → Option Initialising → Work (Option TypedItem)
local_started word id place None = is_whole word id >> pass None
local_started word id place (Some it) = do
  can_start word id
  its ← typing (starting word.place id it)
  local_typed place its.0
  typing (renamed word (entity.Variable (variable.Local place) its.0))
  pass (Some (given place word its.1))

-- 3.1.2.4: an object of automatic storage duration
abbrev pub automatic : Word → TypeId → Option Initialising → Work (Option TypedItem)
automatic word id it = do
  is_object word id
  place ← new_local word id
  typing (declare word (entity.Variable (variable.Local place) id))
  local_started word id place it

-- the initialiser of a static local
abbrev pub static_started : Word → TypeId → Option ℕ → Option Initialising → Work (Unit {0})
static_started word id None it = pass tt
static_started word id (Some place) None = is_whole word id
static_started word id (Some place) (Some it) = do
  can_start word id
  its ← typing (initialised word.place id it)
  define_object place its.0 its.1
  typing (renamed word (entity.Variable (variable.Global place) its.0))

-- 3.1.2.4: an object of static storage duration without linkage
abbrev pub static_local : Word → TypeId → Option Initialising → Work (Option TypedItem)
static_local word id it = do
  is_object word id
  its ← new_object word id
  typing (declare word its)
  static_started word id (object_place its) it
  pass None

-- 3.5.7: an object that a block declares with `extern` has no initialiser there
abbrev pub not_started : Option Initialising → Work (Unit {0})
not_started None = pass tt
not_started (Some it) = stop (Untyped (place_of_start it))

-- 3.1.2.2: an object with linkage
abbrev pub extern_object : Word → TypeId → Option Initialising → Work (Option TypedItem)
extern_object word id it = do
  is_object word id
  its ← linked false word id
  not_started it
  pass None

-- by the storage word
abbrev pub block_object : Option Storage → Word → TypeId → Option Initialising → Work (Option TypedItem)
block_object None word id it = automatic word id it
block_object (Some storage.Typedef) word id it = automatic word id it
block_object (Some storage.Extern) word id it = extern_object word id it
block_object (Some storage.Static) word id it = static_local word id it

-- 3.5.1: a function that a block declares is not static; `stored` is the place of the storage word
abbrev pub block_function : Place → Option Storage → Word → TypeId → Option Initialising → Work (Option TypedItem)
block_function stored storage word id it = do
  unless (Untyped stored) (λ m. is_static storage)
  function_declared false word id it
  pass None

-- by its type
abbrev pub block_entity : Place → Option Storage → Word → TypeId → Option Initialising → Work (Option TypedItem)
block_entity stored storage word id it m =
    if is_function m.typer.types id then block_function stored storage word id it m else block_object storage word id it m

-- a declarator names something
abbrev pub block_item_as : Place → Place → Option Storage → Option Word → TypeId → Option Initialising → Work (Option TypedItem)
block_item_as at stored storage None id it = stop (Untyped at)
block_item_as at stored storage (Some word) id it = block_entity stored storage word id it

-- one declarator of a block
abbrev pub block_item : Place → Place → Front → Declaring → Work (Option TypedItem)
block_item at stored said it = do
  id ← typing (item_type at said.type_id it.declarator)
  block_item_as at stored said.storage (word_of it.declarator) id it.initialiser

-- with one more, if it is given a value
abbrev pub with_given : List TypedItem → Option TypedItem → List TypedItem
with_given done None = done
with_given done (Some it) = done ++ it ∷ []

-- those of a declaration, in their order; `done` are those before
abbrev pub block_items : Place → Place → Front → List TypedItem → List Declaring → Work (List TypedItem)
block_items at stored said done [] = pass done
block_items at stored said done (it ∷ rest) = block_item at stored said it >>= (λ next. block_items at stored said (with_given done next) rest)

-- a typedef in a block is left out (own)
abbrev pub block_items_as : Place → Place → List Declaring → Front → Work (List TypedItem)
block_items_as at stored its said = do
  unless (Untyped stored) (λ m. is_typedef_word said.storage)
  block_items at stored said [] its

-- with declarators; `stored` is the place of the storage word
abbrev pub block_fronted : Place → Place → Specification → List Declaring → Work (List TypedItem)
block_fronted at stored specifiers its = typing (front at specifiers) >>= block_items_as at stored its

-- with or without them
abbrev pub block_declared_at : Place → Specification → List Declaring → Work (List TypedItem)
block_declared_at at specifiers [] = nothing_named true at specifiers (lone_tag specifiers) >> pass []
block_declared_at at specifiers (it ∷ rest) = block_fronted at (storage_place at specifiers) specifiers (it ∷ rest)

-- 3.6.2: a declaration of a block: the variables that it gives a value
abbrev pub block_declared : Place → Declaration → Work (List TypedItem)
block_declared other it = block_declared_at (first_place other it.specifiers) it.specifiers it.items
