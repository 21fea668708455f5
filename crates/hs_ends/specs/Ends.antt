-- What units leave at their end: objects, what the program takes the address of, and how routines are declared.
--     finished_object id types         the type of an object (X3.159-1989 3.7.2)
--     globals_of taken place done its types      objects from that place on, marked if their addresses are taken, without their sizes
--     sized_globals types its         the same objects, with the sizes of their types
--     taken_globals, taken_fields      what the program takes the address of, once each
--     first_types done its             of each routine, the type of its declaration at its first call
--     bound_routines types its calls   the routines, each with that declaration
--     passes globals literals          the objects and the strings have more bytes than a program may have
use Rattle.std.specs.Prelude.{ℕ, zero, suc, ◌+◌, Bool, nat_eq, nat_lt, List, [], ◌∷◌, ◌++◌, length, slice_get, slice_set, Option, Some, None, Result, Ok, Err}
use Rattle.std.specs.List.{list_any}
use Rattle.indexmap.specs.IndexSet.{insert_key}
use Rattle.hs_linkage.specs.declared.translator.StaticObject.{StaticObject}
use Rattle.hs_table.specs.declared.routine.Routine.{Routine}
use Rattle.hs_tree.specs.Classes.{same_field}
use Rattle.hs_tree.specs.Representatives.{field_for}
use Rattle.hs_tree.specs.declared.function.BoundRoutine.{BoundRoutine}
use Rattle.hs_tree.specs.declared.function.Prototype.{Prototype}
use Rattle.hs_tree.specs.declared.globals.Global.{Global}
use Rattle.hs_tree.specs.declared.head.Variable.TheVariants as variable
use Rattle.hs_tree.specs.declared.representatives.Representatives.{Representatives}
use Rattle.hs_typer.specs.declared.typer.RoutineCall.{RoutineCall}
use Rattle.hs_typer.specs.declared.typer.Taken.{Taken}
use Rattle.hs_typer.specs.declared.typer.Taken.TheVariants as taken
use Rattle.hs_types.specs.TypeTables.{TypeTable, row_of, arrayed, size_of}
use Rattle.hs_types.specs.declared.row.FieldId.{FieldId}
use Rattle.hs_types.specs.declared.row.ListId.{ListId}
use Rattle.hs_types.specs.declared.row.Parameters.{Parameters}
use Rattle.hs_types.specs.declared.row.Parameters.TheVariants.{Empty, More}
use Rattle.hs_types.specs.declared.row.Row.{Row}
use Rattle.hs_types.specs.declared.row.Row.TheVariants as row
use Rattle.hs_types.specs.declared.row.TypeId.{TypeId}
use Rattle.hs_types.specs.declared.types.TypeEnd.{TypeEnd}

-- the array, or the type as it is
abbrev pub or_same : TypeId → TypeTable → Result (TypeId × TypeTable) TypeEnd → TypeId × TypeTable
or_same id types (Ok p) = p
or_same id types (Err why) = (id, types)

-- by its row
abbrev pub finished_row : TypeId → Option Row → TypeTable → TypeId × TypeTable
finished_row id None types = (id, types)
finished_row id (Some row.Void) types = (id, types)
finished_row id (Some (row.Integer kind)) types = (id, types)
finished_row id (Some (row.Pointer of)) types = (id, types)
finished_row id (Some (row.Enumeration number)) types = (id, types)
finished_row id (Some (row.Struct number)) types = (id, types)
finished_row id (Some (row.Array of length layout)) types = (id, types)
finished_row id (Some (row.OpenArray of)) types = or_same id types (arrayed of 1 types)
finished_row id (Some (row.Function its list)) types = (id, types)

-- 3.7.2: an array whose length is in no declaration has one element
abbrev pub finished_object : TypeId → TypeTable → TypeId × TypeTable
finished_object id types = finished_row id (row_of types id) types

-- an object of that type, without its size
abbrev pub global_of : Bool → StaticObject → TypeId → Global
global_of mark it id = record { variable = record it.variable { type_id = id; taken = mark }; size = 0; parts = it.parts }

-- with one more
abbrev pub with_global : List ℕ → ℕ → List Global → StaticObject → TypeId × TypeTable → List Global × TypeTable
with_global marks place done it p = (done ++ global_of (list_any (nat_eq place) marks) it p.0 ∷ [], p.1)

-- in their order; `done` are those before
abbrev pub globals_of : List ℕ → ℕ → List Global → List StaticObject → TypeTable → List Global × TypeTable
globals_of marks place done [] types = (done, types)
globals_of marks place done (it ∷ rest) types =
    let p = with_global marks place done it (finished_object it.variable.type_id types) in globals_of marks (suc place) p.0 rest p.1

-- an object with the size of its type; it has no bytes if that stays incomplete
abbrev pub sized_global : TypeTable → Global → Global
sized_global types it = record it { size = size_of types it.variable.type_id }

-- 3.7.2: the types are those of the end, so the sizes are measured when all objects have theirs
abbrev pub sized_globals : TypeTable → List Global → List Global
sized_globals types [] = []
sized_globals types (it ∷ rest) = sized_global types it ∷ sized_globals types rest

-- the place of an object, with those before
abbrev pub with_taken_global : List ℕ → Taken → List ℕ
with_taken_global done (taken.Variable (variable.Global place)) = insert_key nat_eq done place
with_taken_global done (taken.Variable (variable.Local place)) = done
with_taken_global done (taken.Field field) = done

-- in the order of the text; `done` are those before
abbrev pub taken_globals : List ℕ → List Taken → List ℕ
taken_globals done [] = done
taken_globals done (it ∷ rest) = taken_globals (with_taken_global done it) rest

-- what stands for a field, with those before
abbrev pub with_taken_field : Representatives → List FieldId → Taken → List FieldId
with_taken_field same done (taken.Variable variable) = done
with_taken_field same done (taken.Field field) = insert_key same_field done (field_for same field)

-- in the order of the text; `done` are those before
abbrev pub taken_fields : Representatives → List FieldId → List Taken → List FieldId
taken_fields same done [] = done
taken_fields same done (it ∷ rest) = taken_fields same (with_taken_field same done it) rest

-- no routine is called yet
abbrev pub no_types : List Routine → List (Option TypeId)
no_types [] = []
no_types (it ∷ rest) = None ∷ no_types rest

-- only the first call of a routine counts
abbrev pub with_call : List (Option TypeId) → RoutineCall → Option (Option TypeId) → List (Option TypeId)
with_call done it None = done
with_call done it (Some None) = slice_set done it.routine (Some it.type_id)
with_call done it (Some (Some id)) = done

-- after all calls; `done` is what those before came to
abbrev pub first_types : List (Option TypeId) → List RoutineCall → List (Option TypeId)
first_types done [] = done
first_types done (it ∷ rest) = first_types (with_call done it (slice_get done it.routine)) rest

-- the first type of a list, and those that follow it
abbrev pub listed_next : (List TypeId → ListId → List TypeId) → List TypeId → Option Parameters → List TypeId
listed_next rest done None = done
listed_next rest done (Some Empty) = done
listed_next rest done (Some (More id others)) = rest (done ++ id ∷ []) others

-- the types of a list of parameters, of which there are no more than so many
abbrev pub listed_in : ℕ → TypeTable → List TypeId → ListId → List TypeId
listed_in zero types done list = done
listed_in (suc fewer) types done list = listed_next (λ next others. listed_in fewer types next others) done (slice_get types.lists list.number)

-- the result and the parameters of a function, of which there are no more than the table has lists
abbrev pub prototype_of_row : TypeTable → Option Row → Option Prototype
prototype_of_row types None = None
prototype_of_row types (Some row.Void) = None
prototype_of_row types (Some (row.Integer kind)) = None
prototype_of_row types (Some (row.Pointer of)) = None
prototype_of_row types (Some (row.Enumeration number)) = None
prototype_of_row types (Some (row.Struct number)) = None
prototype_of_row types (Some (row.Array of length layout)) = None
prototype_of_row types (Some (row.OpenArray of)) = None
prototype_of_row types (Some (row.Function its list)) =
    Some (record { result = its; parameters = listed_in (length types.lists) types [] list })

-- of a routine that is called
abbrev pub prototype_of : TypeTable → Option TypeId → Option Prototype
prototype_of types None = None
prototype_of types (Some id) = prototype_of_row types (row_of types id)

-- a routine, and its declaration
abbrev pub bound_routine : TypeTable → Routine → Option TypeId → BoundRoutine
bound_routine types it id = record { routine = it; prototype = prototype_of types id }

-- all of them; `done` are those before
abbrev pub bound_routines : TypeTable → List BoundRoutine → List Routine → List (Option TypeId) → List BoundRoutine
bound_routines types done [] ids = done
bound_routines types done (it ∷ rest) [] = done
bound_routines types done (it ∷ rest) (id ∷ ids) = bound_routines types (done ++ bound_routine types it id ∷ []) rest ids

-- the bytes of all objects
abbrev pub bytes_of_globals : List Global → ℕ
bytes_of_globals [] = 0
bytes_of_globals (it ∷ rest) = it.size + bytes_of_globals rest

-- the bytes of all strings
abbrev pub bytes_of_literals : List (List ℕ) → ℕ
bytes_of_literals [] = 0
bytes_of_literals (it ∷ rest) = length it + bytes_of_literals rest

-- the limit Objects
abbrev pub passes : List Global → List (List ℕ) → Bool
passes globals literals = nat_lt 16777216 (bytes_of_globals globals + bytes_of_literals literals)
