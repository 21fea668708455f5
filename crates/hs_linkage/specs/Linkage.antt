-- What names with linkage refer to (X3.159-1989 3.1.2.2, 3.1.2.6, 3.5 and 3.7).
--     bound_to internal unit name its table      what the calls of a function are bound to (own)
--     may_name word                      the name may be declared with linkage in the innermost scope
--     link static word id                the object or the function that a declaration with linkage refers to
--     linked static word id              which the name then means in its scope
--     define_object place id parts       the object of that place starts with these parts
--     rechecked                          what is refused at the end of the unit
use Rattle.std.specs.Prelude.{ℕ, ◌+◌, Bool, true, false, not, ◌&&◌, ◌||◌, List, [], ◌∷◌, ◌++◌, length, slice_get, Option, Some, None, Ok, if◌then◌else◌}
use Rattle.hs_linkage.specs.Definitions.{same_name, first_place, is_definition_of}
use Rattle.hs_linkage.specs.Externals.{type_of_entity, agrees_in, all_agree, newest_external, with_external, unfit}
use Rattle.hs_linkage.specs.Late.{earlier, late_clash, unlike, late_body, late_object}
use Rattle.hs_linkage.specs.Objects.{object_as, object_with}
use Rattle.hs_linkage.specs.Works.{Work, ◌>>=◌, ◌>>◌, pass, stop, typing, knowing, unless}
use Rattle.hs_linkage.specs.declared.definitions.Definition.{Definition}
use Rattle.hs_linkage.specs.declared.externals.External.{External}
use Rattle.hs_linkage.specs.declared.late.Late.{Late}
use Rattle.hs_linkage.specs.declared.translator.Linked.{Linked}
use Rattle.hs_linkage.specs.declared.translator.StaticObject.{StaticObject}
use Rattle.hs_linkage.specs.declared.translator.Translator.{Translator}
use Rattle.hs_names.specs.Scopes.{find, find_here, declared}
use Rattle.hs_operand_types.specs.Types.{is_open}
use Rattle.hs_operand_types.specs.declared.operand.Bound.{Bound}
use Rattle.hs_operand_types.specs.declared.operand.Bound.TheVariants as bound
use Rattle.hs_syntax.specs.declared.word.Word.{Word}
use Rattle.hs_table.specs.declared.routine.Routine.{Routine}
use Rattle.hs_tree.specs.contracts.head.VariablePartialEq.TheImpl as variable_eq
use Rattle.hs_tree.specs.declared.constant.Part.{Part}
use Rattle.hs_tree.specs.declared.head.Variable.TheVariants as variable
use Rattle.hs_typer.specs.Declarators.{is_function_row, is_typedef}
use Rattle.hs_typer.specs.Steps.{Step}
use Rattle.hs_typer.specs.declared.marks.Mark.{Mark}
use Rattle.hs_typer.specs.declared.type_error.TypeError.{TypeError}
use Rattle.hs_typer.specs.declared.type_error.TypeError.TheVariants.{Untyped, Clash}
use Rattle.hs_typer.specs.declared.typer.Entity.{Entity}
use Rattle.hs_typer.specs.declared.typer.Entity.TheVariants as entity
use Rattle.hs_types.specs.TypeTables.{TypeTable, row_of}
use Rattle.hs_types.specs.declared.row.TypeId.{TypeId}

-- A definition wins over the table (own).
abbrev pub bound_as : Option ℕ → Option ℕ → Bound
bound_as (Some number) routine = bound.Function number
bound_as None (Some number) = bound.Routine number
bound_as None None = bound.Nothing

abbrev pub bound_to : Bool → ℕ → List ℕ → List Definition → List Routine → Bound
bound_to internal unit name its table =
    bound_as (first_place (is_definition_of internal unit name) its) (first_place (λ it. same_name it.name name) table)

-- the same one, with that type
abbrev pub with_type_id : TypeId → Entity → Entity
with_type_id id (entity.Constant bits) = entity.Constant bits
with_type_id id (entity.Variable its old) = entity.Variable its id
with_type_id id (entity.Function old its) = entity.Function id its
with_type_id id (entity.Typedef old) = entity.Typedef old

-- one object, or two functions of one name
abbrev pub same_entity : Entity → Entity → Bool
same_entity (entity.Variable a id) (entity.Variable b other) = (variable_eq.ghosts).eq a b
same_entity (entity.Function id a) (entity.Function other b) = true
same_entity _ _ = false

-- what the name means in the innermost scope is what it is linked to
abbrev pub is_free : Option Entity → Option Linked → Bool
is_free None link = true
is_free (Some it) None = false
is_free (Some it) (Some link) = same_entity it link.entity

-- the name means that object or function where it stands
abbrev pub sees : Option Entity → Entity → Bool
sees None it = false
sees (Some seen) it = same_entity seen it

-- 3.1.2.2: a name with internal linkage, where another meaning hides it. A declaration there would give it external linkage.
abbrev pub is_hidden : Option Entity → Option Linked → Bool
is_hidden seen None = false
is_hidden seen (Some link) = link.internal && not (sees seen link.entity)

-- The name is a typedef name (own), means something else in its scope (3.5), or would get a second linkage in its unit (3.1.2.2).
abbrev pub is_barred : Word → Translator → Bool
is_barred word m =
    is_typedef (find word.text m.typer.names) || not (is_free (find_here word.text m.typer.names) (find word.text m.links)) ||
    is_hidden (find word.text m.typer.names) (find word.text m.links)

-- A declaration with linkage may declare the name.
abbrev pub may_name : Word → Work (Unit {0})
may_name word = unless (Untyped word.place) (is_barred word)

-- a function
abbrev pub is_function : TypeTable → TypeId → Bool
is_function types id = is_function_row (row_of types id)

-- of two declarations the array whose length is known (3.1.2.6)
abbrev pub composite : TypeTable → TypeId → TypeId → TypeId
composite types old new = if is_open types old then new else old

-- by what is known
abbrev pub agrees : Translator → TypeId → Option TypeId → Bool
agrees m id old = agrees_in m.typer.types m.typer.origins id old

-- by what is known
abbrev pub agrees_with_all : Translator → List ℕ → TypeId → List External → Bool
agrees_with_all m name id its = all_agree m.typer.types m.typer.origins name id its

-- an object that starts as zero bytes
abbrev pub zero_object : Word → TypeId → StaticObject
zero_object word id =
    record { variable = record { name = word.text; at = word.place; type_id = id; taken = false }; parts = []; defined = false }

-- a new object of static storage duration
abbrev pub new_object : Word → TypeId → Work Entity
new_object word id m =
    Ok (
      entity.Variable (variable.Global (length m.objects)) id,
      record m { objects = m.objects ++ zero_object word id ∷ [] },
    )

-- a function, and what its calls are bound to
abbrev pub new_function : Bool → Word → TypeId → Work Entity
new_function internal word id m =
    Ok (entity.Function id (bound_to internal m.typer.origins.unit word.text m.definitions m.typer.table), m)

-- by its type
abbrev pub new_entity : Bool → Word → TypeId → Work Entity
new_entity internal word id m = if is_function m.typer.types id then new_function internal word id m else new_object word id m

-- what another unit declared, with the type that this unit gives it
abbrev pub external_as : Word → TypeId → Option Entity → Work Entity
external_as word id None = new_entity false word id
external_as word id (Some it) = pass (with_type_id id it)

-- the declaration does not fit another one
abbrev pub clash_of : Word → TypeError
clash_of word = Clash word.place word.text

-- declarations of one object or function, in any unit, have compatible types (own; 3.5 in one unit)
abbrev pub compatible_externals : Word → TypeId → Work (Unit {0})
compatible_externals word id = unless (clash_of word) (λ m. not (agrees_with_all m word.text id m.externals))

-- so much is linked
abbrev pub linked_as : Bool → Entity → Linked
linked_as internal it = record { internal = internal; entity = it }

-- the first declaration in this unit
abbrev pub first_link : Bool → Word → TypeId → Work Linked
first_link true word id = new_entity true word id >>= (λ it. pass (linked_as true it))
first_link false word id = do
  compatible_externals word id
  found ← knowing (λ m. Ok (newest_external word.text m.externals))
  it ← external_as word id found
  pass (linked_as false it)

-- the composite type
abbrev pub composite_of : TypeTable → Option TypeId → TypeId → TypeId
composite_of types None id = id
composite_of types (Some old) id = composite types old id

-- the type of the declaration that is visible, if the name means that object or function where it stands
abbrev pub seen_type : Option Entity → Entity → Option TypeId
seen_type None it = None
seen_type (Some seen) it = if same_entity seen it then type_of_entity seen else None

-- by what is known
abbrev pub type_seen : Translator → Word → Entity → Option TypeId
type_seen m word it = seen_type (find word.text m.typer.names) it

-- compatible with that type, if there is one
abbrev pub agrees_if : Translator → TypeId → Option TypeId → Bool
agrees_if m id None = true
agrees_if m id (Some old) = agrees m id (Some old)

-- the declarations with that linkage: of all units, or of this one
abbrev pub declarations_of : Bool → Translator → List External
declarations_of internal m = if internal then m.internals else m.externals

-- the same object or function, declared once more, of the composite type of the declarations that are visible here
abbrev pub relinked : Word → TypeId → Linked → Work Linked
relinked word id it =
    knowing (λ m. Ok (linked_as it.internal (with_type_id (composite_of m.typer.types (type_seen m word it.entity) id) it.entity)))

-- `static` after a declaration with external linkage is refused (own; 3.1.2.2 leaves it open). The type is compatible with that of each earlier
-- declaration, and so with the composite types that they make.
abbrev pub next_link : Bool → Word → TypeId → Linked → Work Linked
next_link static word id it = do
  unless (Untyped word.place) (λ m. static && not it.internal)
  unless (clash_of word) (λ m. not (agrees_with_all m word.text id (declarations_of it.internal m)))
  unless (clash_of word) (λ m. not (agrees m id (type_of_entity it.entity)))
  unless (clash_of word) (λ m. not (agrees_if m id (type_seen m word it.entity)))
  relinked word id it

-- by what the unit has declared
abbrev pub link_as : Bool → Word → TypeId → Option Linked → Work Linked
link_as static word id None = first_link static word id
link_as static word id (Some it) = next_link static word id it

-- the calls of the function are bound to a routine
abbrev pub is_routine : Bound → Bool
is_routine (bound.Function number) = false
is_routine (bound.Routine number) = true
is_routine bound.Nothing = false

abbrev pub is_routine_entity : Entity → Bool
is_routine_entity (entity.Constant bits) = false
is_routine_entity (entity.Variable its id) = false
is_routine_entity (entity.Function id its) = is_routine its
is_routine_entity (entity.Typedef id) = false

-- Declarations that are bound to one routine are of one function, also those with internal linkage (own).
abbrev pub compatible_routines : Word → TypeId → Linked → Work (Unit {0})
compatible_routines word id it =
    unless (clash_of word) (λ m. is_routine_entity it.entity && not (agrees_with_all m word.text id m.routines))

-- how many declarations are kept so far
abbrev pub kept_count : Translator → ℕ
kept_count m = length m.externals + length m.routines + length m.typer.tentatives

-- where a declaration is that comes next
abbrev pub mark_of : Translator → Mark
mark_of m = record { bodies = length m.typer.begun; declarations = kept_count m }

-- one more declaration of an object or a function, with the type that the declaration gives it
abbrev pub declared_as : Word → TypeId → Entity → Translator → List External → List External
declared_as word id it m its = with_external word m.typer.origins.unit (mark_of m) (with_type_id id it) its

-- the declaration is known
abbrev pub noted : Word → TypeId → Linked → Work Entity
noted word id it m =
    Ok (
      it.entity,
      record m {
        links = declared word.text it m.links;
        internals = if it.internal then declared_as word id it.entity m m.internals else m.internals;
        externals = if it.internal then m.externals else declared_as word id it.entity m m.externals;
        routines = if is_routine_entity it.entity then declared_as word id it.entity m m.routines else m.routines;
      },
    )

-- 3.1.2.2: the object or the function that the name refers to
abbrev pub link : Bool → Word → TypeId → Work Entity
link static word id = do
  found ← knowing (λ m. Ok (find word.text m.links))
  it ← link_as static word id found
  compatible_routines word id it
  noted word id it

-- if it is an object
abbrev pub with_object_type : Entity → Translator → Translator
with_object_type (entity.Constant bits) m = m
with_object_type (entity.Variable (variable.Global place) id) m =
    record m { objects = object_as m.typer.types id (slice_get m.objects place) m.objects place }
with_object_type (entity.Variable (variable.Local place) id) m = m
with_object_type (entity.Function id its) m = m
with_object_type (entity.Typedef id) m = m

-- a declaration gives it that type
abbrev pub object_typed : Entity → Work (Unit {0})
object_typed it m = Ok (tt, with_object_type it m)

-- the name means it from here on, in the innermost scope
abbrev pub renamed : Word → Entity → Step (Unit {0})
renamed word it s = Ok (tt, record s { names = declared word.text it s.names })

-- a declaration with linkage
abbrev pub linked : Bool → Word → TypeId → Work Entity
linked static word id = do
  may_name word
  it ← link static word id
  object_typed it
  typing (renamed word it)
  pass it

-- the same one, after its initialiser gave it that type
abbrev pub completed_link : Bool → Word → TypeId → Work Entity
completed_link static word id = do
  it ← link static word id
  typing (renamed word it)
  pass it

-- of the object of that place
abbrev pub define_object : ℕ → TypeId → List Part → Work (Unit {0})
define_object place id parts m = Ok (tt, record m { objects = object_with id parts (slice_get m.objects place) m.objects place })

-- a refusal, if there is one
abbrev pub unless_late : Option Late → Work (Unit {0})
unless_late None = pass tt
unless_late (Some it) = stop it.why

-- of those of this unit
abbrev pub late_external : Translator → List External → Option Late
late_external m its = late_clash (unfit m.typer.types m.typer.origins its its)

-- of its bodies
abbrev pub late_struct : Translator → Option Late
late_struct m = late_body m.typer.types m.typer.origins (kept_count m) (unlike m.typer.types m.typer.origins 0 m.typer.begun)

-- At the end of a unit its tags have got their bodies. So each of its bodies is one with the first one at its brace; each of its declarations with
-- external linkage fits the others of its name, and so does each one of a function that is bound to a routine; and each object that it makes at
-- file scope has a complete type (own; 3.7.2). The first refusal in the text:
abbrev pub first_late : Translator → Option Late
first_late m =
    earlier (late_struct m)
    (earlier (late_external m m.externals) (earlier (late_external m m.routines) (late_object m.typer.types m.typer.tentatives)))

abbrev pub rechecked : Work (Unit {0})
rechecked m = unless_late (first_late m) m
