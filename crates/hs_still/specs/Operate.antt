-- All operations on the still machine.
--     operate_still            an operation of which no operand that it tests is stale or purged
--     untested_still           an operation that tests no operand
use Rattle.std.proofs.Common.{◌≡◌, Bool, true, false, List, [], ◌∷◌, map, slice_get, Option, Some, None, refl, ap, ◌∙◌}
use Rattle.hs_meaning.specs.Accesses.{unless_stopped}
use Rattle.hs_meaning.specs.Machine.{Machine}
use Rattle.hs_meaning.specs.Operations.{Operation, load, store, routine, operation_stops, operation_value, operation_machine, as_kind, by_role, is_plain, called_by, called_as, called, operate}
use Rattle.hs_meaning.specs.Roles.{role_stops, role_value, role_machine}
use Rattle.hs_meaning.specs.Settings.{Setting}
use Rattle.hs_meaning.specs.Values.{Value, number, pointer, state, structure}
use Rattle.hs_still.specs.Accesses.{loaded_still, stored_still}
use Rattle.hs_still.specs.Machines.{still_value, still_machine, still_done}
use Rattle.hs_still.specs.Operations.{operation_stops_still, operation_value_still, operation_machine_still}
use Rattle.hs_still.specs.Plain.{plain_still}
use Rattle.hs_still.specs.Roles.{role_stops_still, role_value_still, role_machine_still}
use Rattle.hs_still.specs.Tests.{AllUsed, RoleUses, CallUses, RoutineUses, UsedBy, OperationUses, tests, untested}
use Rattle.hs_still.specs.Uses.{unless_still}
use Rattle.hs_table.specs.declared.role.Role.{Role}
use Rattle.hs_table.specs.declared.role.Role.TheVariants as role
use Rattle.hs_table.specs.declared.routine.Routine.{Routine}
use Rattle.hs_tree.specs.Kinds.{number_kind}
use Rattle.hs_tree.specs.declared.function.BoundRoutine.{BoundRoutine}
use Rattle.hs_tree.specs.declared.function.Prototype.{Prototype}
use Rattle.hs_types.specs.TypeTables.{TypeTable}
use Rattle.hs_types.specs.declared.integer.Integer.{Integer}

-- ---- routines

as_kind_still : (kind : Option Integer) (value : Value) → as_kind kind (still_value value) ≡ still_value (as_kind kind value)
as_kind_still None (number bits) = refl
as_kind_still (Some kind) (number bits) = refl
as_kind_still kind (pointer its) = refl
as_kind_still kind (state byte) = refl
as_kind_still kind (structure cells) = refl

by_role_still : (types : TypeTable) (its : Role) (prototype : Prototype) (values : List Value) (machine : Machine) → RoleUses its values machine
    → by_role types its prototype (map still_value values) (still_machine machine) ≡ still_done still_value (by_role types its prototype values machine)
by_role_still types its prototype values machine used =
    unless_still still_value (role_stops its values machine) (role_stops its (map still_value values) (still_machine machine))
    (as_kind (number_kind types prototype.result) (role_value its values machine))
    (as_kind (number_kind types prototype.result) (role_value its (map still_value values) (still_machine machine)))
    (role_machine its values machine) (role_machine its (map still_value values) (still_machine machine)) machine
    (role_stops_still its values machine used)
    (ap (as_kind (number_kind types prototype.result)) (role_value_still its values machine used)
    ∙ as_kind_still (number_kind types prototype.result) (role_value its values machine))
    (role_machine_still its values machine used)

plain_uses : (its : Role) (values : List Value) (machine : Machine) → is_plain its ≡ true → CallUses its values machine → AllUsed values machine
plain_uses role.Plain values machine is used = used
plain_uses its values machine is used = absurd cc

role_uses : (its : Role) (values : List Value) (machine : Machine) → is_plain its ≡ false → CallUses its values machine → RoleUses its values machine
role_uses role.Plain values machine is used = absurd cc
role_uses its values machine is used = used

called_by_still : (z : Bool) (types : TypeTable) (its : Routine) (prototype : Prototype) (values : List Value) (machine : Machine) → is_plain its.role ≡ z
    → CallUses its.role values machine
    → called_by z types its prototype (map still_value values) (still_machine machine)
    ≡ still_done still_value (called_by z types its prototype values machine)
called_by_still true types its prototype values machine is used =
    plain_still types its prototype values machine (plain_uses its.role values machine is used)
called_by_still false types its prototype values machine is used =
    by_role_still types its.role prototype values machine (role_uses its.role values machine is used)

called_as_still : (types : TypeTable) (its : Routine) (prototype : Option Prototype) (values : List Value) (machine : Machine)
    → CallUses its.role values machine
    → called_as types its prototype (map still_value values) (still_machine machine)
    ≡ still_done still_value (called_as types its prototype values machine)
called_as_still types its None values machine used = refl
called_as_still types its (Some prototype) values machine used =
    called_by_still (is_plain its.role) types its prototype values machine refl used

called_still : (types : TypeTable) (it : Option BoundRoutine) (values : List Value) (machine : Machine) → RoutineUses it values machine
    → called types it (map still_value values) (still_machine machine) ≡ still_done still_value (called types it values machine)
called_still types None values machine used = refl
called_still types (Some it) values machine used = called_as_still types it.routine it.prototype values machine used

-- ---- all operations

other_still : (its : Operation) (values : List Value) (machine : Machine) → OperationUses its values machine
    → unless_stopped (operation_stops its (map still_value values) (still_machine machine))
    (operation_value its (map still_value values) (still_machine machine))
    (operation_machine its (map still_value values) (still_machine machine)) (still_machine machine)
    ≡ still_done still_value (unless_stopped (operation_stops its values machine) (operation_value its values machine)
    (operation_machine its values machine) machine)
other_still its values machine used =
    unless_still still_value (operation_stops its values machine) (operation_stops its (map still_value values) (still_machine machine))
    (operation_value its values machine) (operation_value its (map still_value values) (still_machine machine))
    (operation_machine its values machine) (operation_machine its (map still_value values) (still_machine machine)) machine
    (operation_stops_still its values machine used) (operation_value_still its values machine) (operation_machine_still its values machine)

-- an operation of which no operand that it tests is stale or purged
pub operate_still : (setting : Setting) (its : Operation) (values : List Value) (machine : Machine) → UsedBy setting its values machine
    → operate setting its (map still_value values) (still_machine machine) ≡ still_done still_value (operate setting its values machine)
operate_still setting (load access) (pointer its ∷ []) machine used = loaded_still access its machine used
operate_still setting (store access) (pointer its ∷ value ∷ []) machine used = stored_still access its value machine used
operate_still setting (routine place) values machine used = called_still setting.types (slice_get setting.routines place) values machine used
operate_still setting its values machine used = other_still its values machine used

-- an operation that tests no operand
pub untested_still : (setting : Setting) (its : Operation) (values : List Value) (machine : Machine) → tests setting its ≡ false
    → operate setting its (map still_value values) (still_machine machine) ≡ still_done still_value (operate setting its values machine)
untested_still setting its values machine is = operate_still setting its values machine (untested setting its values machine is)
