-- The handle names of a function, and how many values its operations take from the stack (own).
--     is_handle types variable           a slot whose type points to a pointer
--     names_of scope code                the handle names: parameters and other locals, and the globals that the code gets or sets
--     is_name scope code variable        one of them
--     taken scope op                     how many values an operation takes
--     role_at scope place                the role of a routine
-- A static local is a global here: the tree makes no difference between them.
use Rattle.std.specs.Prelude.{ℕ, suc, ◌==◌, Bool, true, false, ◌&&◌, ◌||◌, List, [], ◌∷◌, ◌++◌, length, slice_get, Option, Some, None}
use Rattle.hs_code.specs.Stacks.{Scope, Signature, variable_in, routine_signature}
use Rattle.hs_code.specs.declared.function_code.FunctionCode.{FunctionCode}
use Rattle.hs_code.specs.declared.function_code.Placed.{Placed}
use Rattle.hs_code.specs.declared.op.Op.{Op}
use Rattle.hs_code.specs.declared.op.Op.TheVariants as op
use Rattle.hs_table.specs.declared.role.Role.{Role}
use Rattle.hs_table.specs.declared.role.Role.TheVariants as role
use Rattle.hs_tree.specs.Classes.{is_slot}
use Rattle.hs_tree.specs.Kinds.{is_pointer, pointed}
use Rattle.hs_tree.specs.declared.function.BoundRoutine.{BoundRoutine}
use Rattle.hs_tree.specs.declared.globals.Global.{Global}
use Rattle.hs_tree.specs.declared.head.Variable.{Variable}
use Rattle.hs_tree.specs.declared.head.Variable.TheVariants as name
use Rattle.hs_tree.specs.declared.head.VariableDecl.{VariableDecl}
use Rattle.hs_types.specs.TypeTables.{TypeTable}
use Rattle.hs_types.specs.declared.row.TypeId.{TypeId}

-- ---- names

-- a pointer, if there is a type
abbrev pub is_pointer_in : TypeTable → Option TypeId → Bool
is_pointer_in types None = false
is_pointer_in types (Some id) = is_pointer types id

-- a pointer to a pointer
abbrev pub points_to_pointer : TypeTable → TypeId → Bool
points_to_pointer types id = is_pointer_in types (pointed types id)

-- a slot that may have a handle
abbrev pub is_handle : TypeTable → Option VariableDecl → Bool
is_handle types None = false
is_handle types (Some variable) = is_slot types variable && points_to_pointer types variable.type_id

-- one and the same variable
abbrev pub same_variable : Variable → Variable → Bool
same_variable (name.Global a) (name.Global b) = a == b
same_variable (name.Global a) (name.Local b) = false
same_variable (name.Local a) (name.Global b) = false
same_variable (name.Local a) (name.Local b) = a == b

-- the operation gets or sets the global
abbrev pub touches : ℕ → Op → Bool
touches place (op.Get (name.Global it)) = it == place
touches place (op.Set (name.Global it)) = it == place
touches place _ = false

-- one of the operations does, whether control reaches it or not
abbrev pub mentions : List Placed → ℕ → Bool
mentions [] place = false
mentions (its ∷ rest) place = touches place its.op || mentions rest place

-- the variable comes first, if it is a name
abbrev pub named_if : Bool → Variable → List Variable → List Variable
named_if true variable rest = variable ∷ rest
named_if false variable rest = rest

-- the parameters and the other locals from that place on
abbrev pub local_names : TypeTable → ℕ → List VariableDecl → List Variable
local_names types place [] = []
local_names types place (it ∷ rest) = named_if (is_handle types (Some it)) (name.Local place) (local_names types (suc place) rest)

-- the globals from that place on that the operations mention
abbrev pub global_names : TypeTable → List Placed → ℕ → List Global → List Variable
global_names types ops place [] = []
global_names types ops place (it ∷ rest) =
    named_if (is_handle types (Some it.variable) && mentions ops place) (name.Global place) (global_names types ops (suc place) rest)

-- in the order in which their numbers count them: the locals by place, and then the globals by place
abbrev pub names_of : Scope → FunctionCode → List Variable
names_of scope code = local_names scope.types 0 scope.variables ++ global_names scope.types code.ops 0 scope.globals

-- a local, or a global that is mentioned
abbrev pub counts_in : FunctionCode → Variable → Bool
counts_in code (name.Local place) = true
counts_in code (name.Global place) = mentions code.ops place

-- one of the names
abbrev pub is_name : Scope → FunctionCode → Variable → Bool
is_name scope code variable = is_handle scope.types (variable_in scope variable) && counts_in code variable

-- ---- values that an operation takes

-- the parameters of a function or a routine that is there
abbrev pub parameter_count : Option Signature → ℕ
parameter_count None = 0
parameter_count (Some its) = length its.parameters

-- How many values an operation takes, so that only what is below them stays as it was. `Dup` takes none, as its operand stays; `Tuck` and `Bring`
-- take those that change places.
abbrev pub taken : Scope → Op → ℕ
taken scope (op.Num bits) = 0
taken scope op.Nil = 0
taken scope (op.Address its) = 0
taken scope (op.Get variable) = 0
taken scope (op.Set variable) = 0
taken scope (op.Load its) = 1
taken scope (op.Store its) = 2
taken scope op.Drop = 1
taken scope op.Dup = 0
taken scope op.Tuck = 2
taken scope (op.Conv kind) = 1
taken scope (op.Unary its) = 1
taken scope (op.Binary its kind) = 2
taken scope op.IsNil = 1
taken scope (op.Compare its) = 2
taken scope (op.Difference size) = 2
taken scope (op.Offset bytes) = 1
taken scope (op.Step stride pointer_first) = 2
taken scope (op.Jump target) = 0
taken scope (op.Zero target) = 1
taken scope (op.Choose goal) = 1
taken scope (op.Shift place) = 0
taken scope (op.Routine place) = parameter_count (routine_signature (slice_get scope.routines place))
taken scope (op.Call place) = parameter_count (slice_get scope.functions place)
taken scope op.Return = 1
taken scope op.Turn = 0
taken scope op.Mark = 0
taken scope (op.Pick target) = 0
taken scope (op.Bring place) = place

-- ---- routines

-- the role of a routine that is there
abbrev pub role_in : Option BoundRoutine → Option Role
role_in None = None
role_in (Some it) = Some it.routine.role

-- the role of the routine of that number
abbrev pub role_at : Scope → ℕ → Option Role
role_at scope place = role_in (slice_get scope.routines place)

-- a role whose first argument is a handle
abbrev pub takes_handle : Option Role → Bool
takes_handle (Some role.DisposeHandle) = true
takes_handle (Some role.GetSize) = true
takes_handle (Some role.SetSize) = true
takes_handle (Some role.Lock) = true
takes_handle (Some role.Unlock) = true
takes_handle (Some role.Purge) = true
takes_handle (Some role.NoPurge) = true
takes_handle (Some role.GetState) = true
takes_handle (Some role.SetState) = true
takes_handle (Some role.Empty) = true
takes_handle (Some role.Realloc) = true
takes_handle _ = false

-- a role whose first argument is a handle that is still one afterwards
abbrev pub uses_handle : Option Role → Bool
uses_handle (Some role.DisposeHandle) = false
uses_handle its = takes_handle its

-- a declared result that points to a pointer
abbrev pub gives_handle : TypeTable → Option Signature → Bool
gives_handle types None = false
gives_handle types (Some its) = points_to_pointer types its.result

-- a role that makes a handle, whatever its result is declared as, or a plain routine with such a result
abbrev pub makes_by : Option Role → Bool → Bool
makes_by (Some role.NewHandle) by_type = true
makes_by (Some role.Plain) by_type = by_type
makes_by _ by_type = false

-- the routine of that number may make a handle
abbrev pub makes_handle : Scope → ℕ → Bool
makes_handle scope place = makes_by (role_at scope place) (gives_handle scope.types (routine_signature (slice_get scope.routines place)))
