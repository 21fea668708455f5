-- Whether the declaration of a routine fits its role (own; `Roles.antt` of hs_tree says with which it may be declared).
--     fits_role types table number id     the routine of that number, declared with that type
use Rattle.std.specs.Prelude.{ℕ, zero, suc, Bool, true, false, ◌&&◌, ◌||◌, List, [], ◌∷◌, slice_get, Option, Some, None, is_some, if◌then◌else◌}
use Rattle.hs_expressions.specs.declared.roles.Answer.{Answer}
use Rattle.hs_expressions.specs.declared.roles.Answer.TheVariants as answer
use Rattle.hs_expressions.specs.declared.roles.Next.{Next}
use Rattle.hs_expressions.specs.declared.roles.Shape.{Shape}
use Rattle.hs_expressions.specs.declared.roles.Shape.TheVariants as shape
use Rattle.hs_table.specs.declared.role.Role.{Role}
use Rattle.hs_table.specs.declared.role.Role.TheVariants as role
use Rattle.hs_table.specs.declared.routine.Routine.{Routine}
use Rattle.hs_tree.specs.Kinds.{is_number, is_pointer, is_scalar, is_void, pointed, size_at}
use Rattle.hs_types.specs.TypeTables.{TypeTable, row_of}
use Rattle.hs_types.specs.declared.row.ListId.{ListId}
use Rattle.hs_types.specs.declared.row.Parameters.{Parameters}
use Rattle.hs_types.specs.declared.row.Parameters.TheVariants.{Empty, More}
use Rattle.hs_types.specs.declared.row.Row.{Row}
use Rattle.hs_types.specs.declared.row.Row.TheVariants as row
use Rattle.hs_types.specs.declared.row.TypeId.{TypeId}

-- the parameters of a role; a plain routine has any
abbrev pub shapes_of : Role → List Shape
shapes_of role.NewHandle = shape.Number ∷ []
shapes_of role.DisposeHandle = shape.Pointer ∷ []
shapes_of role.GetSize = shape.Pointer ∷ []
shapes_of role.SetSize = shape.Pointer ∷ shape.Number ∷ []
shapes_of role.Lock = shape.Pointer ∷ []
shapes_of role.Unlock = shape.Pointer ∷ []
shapes_of role.Purge = shape.Pointer ∷ []
shapes_of role.NoPurge = shape.Pointer ∷ []
shapes_of role.GetState = shape.Pointer ∷ []
shapes_of role.SetState = shape.Pointer ∷ shape.Number ∷ []
shapes_of role.Empty = shape.Pointer ∷ []
shapes_of role.Realloc = shape.Pointer ∷ shape.Number ∷ []
shapes_of role.NewPtr = shape.Number ∷ []
shapes_of role.DisposePtr = shape.Pointer ∷ []
shapes_of role.BlockMove = shape.Pointer ∷ shape.Pointer ∷ shape.Number ∷ []
shapes_of role.Getchar = []
shapes_of role.Putchar = shape.Number ∷ []
shapes_of role.Plain = []

-- what a role gives; where it gives nothing, the declaration may say void or a number
abbrev pub answer_of : Role → Answer
answer_of role.NewHandle = answer.Pointer
answer_of role.DisposeHandle = answer.Nothing
answer_of role.GetSize = answer.Number
answer_of role.SetSize = answer.Nothing
answer_of role.Lock = answer.Nothing
answer_of role.Unlock = answer.Nothing
answer_of role.Purge = answer.Nothing
answer_of role.NoPurge = answer.Nothing
answer_of role.GetState = answer.Number
answer_of role.SetState = answer.Nothing
answer_of role.Empty = answer.Nothing
answer_of role.Realloc = answer.Nothing
answer_of role.NewPtr = answer.Pointer
answer_of role.DisposePtr = answer.Nothing
answer_of role.BlockMove = answer.Nothing
answer_of role.Getchar = answer.Number
answer_of role.Putchar = answer.Number
answer_of role.Plain = answer.Scalar

-- a type of that shape
abbrev pub is_shaped : TypeTable → Shape → TypeId → Bool
is_shaped types shape.Pointer id = is_pointer types id
is_shaped types shape.Number id = is_number types id

-- a result that the role may have
abbrev pub is_answer : TypeTable → Answer → TypeId → Bool
is_answer types answer.Pointer id = is_pointer types id
is_answer types answer.Number id = is_number types id
is_answer types answer.Nothing id = is_void types id || is_number types id
is_answer types answer.Scalar id = is_void types id || is_scalar types id

-- no more parameters
abbrev pub is_end : Option Parameters → Bool
is_end None = false
is_end (Some Empty) = true
is_end (Some (More first others)) = false

-- the next parameter, and the list of the others
abbrev pub next_of : Option Parameters → Option Next
next_of None = None
next_of (Some Empty) = None
next_of (Some (More first others)) = Some (record { first = first; others = others })

-- the first one meets a test, and the others another
abbrev pub first_and : (TypeId → Bool) → (ListId → Bool) → Option Next → Bool
first_and test next None = false
first_and test next (Some its) = test its.first && next its.others

-- as many parameters as shapes, each of its shape
abbrev pub are_shaped : TypeTable → List Shape → ListId → Bool
are_shaped types [] list = is_end (slice_get types.lists list.number)
are_shaped types (its ∷ shapes) list = first_and (is_shaped types its) (are_shaped types shapes) (next_of (slice_get types.lists list.number))

-- a pointer to a complete type
abbrev pub points_to_complete : TypeTable → TypeId → Bool
points_to_complete types id = is_some (size_at types (pointed types id))

-- the parameter of that place is one
abbrev pub is_filled : TypeTable → ℕ → ListId → Bool
is_filled types zero list = first_and (points_to_complete types) (λ others. true) (next_of (slice_get types.lists list.number))
is_filled types (suc place) list = first_and (λ id. true) (is_filled types place) (next_of (slice_get types.lists list.number))

-- counted from 1; 0 stands for none
abbrev pub fills : TypeTable → ℕ → ListId → Bool
fills types zero list = true
fills types (suc place) list = is_filled types place list

-- any routine that does nothing to blocks
abbrev pub is_plain : Role → Bool
is_plain role.NewHandle = false
is_plain role.DisposeHandle = false
is_plain role.GetSize = false
is_plain role.SetSize = false
is_plain role.Lock = false
is_plain role.Unlock = false
is_plain role.Purge = false
is_plain role.NoPurge = false
is_plain role.GetState = false
is_plain role.SetState = false
is_plain role.Empty = false
is_plain role.Realloc = false
is_plain role.NewPtr = false
is_plain role.DisposePtr = false
is_plain role.BlockMove = false
is_plain role.Getchar = false
is_plain role.Putchar = false
is_plain role.Plain = true

-- by the role
abbrev pub fits_parameters : TypeTable → Routine → ListId → Bool
fits_parameters types routine list =
    if is_plain routine.role then fills types routine.fills list else are_shaped types (shapes_of routine.role) list

-- the type is a function
abbrev pub fits_row : TypeTable → Routine → Option Row → Bool
fits_row types routine None = false
fits_row types routine (Some row.Void) = false
fits_row types routine (Some (row.Integer kind)) = false
fits_row types routine (Some (row.Pointer of)) = false
fits_row types routine (Some (row.Enumeration number)) = false
fits_row types routine (Some (row.Struct number)) = false
fits_row types routine (Some (row.Array of length layout)) = false
fits_row types routine (Some (row.OpenArray of)) = false
fits_row types routine (Some (row.Function result parameters)) =
    is_answer types (answer_of routine.role) result && fits_parameters types routine parameters

-- the routine is there
abbrev pub fits_routine : TypeTable → TypeId → Option Routine → Bool
fits_routine types id None = false
fits_routine types id (Some routine) = fits_row types routine (row_of types id)

-- by its number
abbrev pub fits_role : TypeTable → List Routine → ℕ → TypeId → Bool
fits_role types table number id = fits_routine types id (slice_get table number)
