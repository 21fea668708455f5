-- Operations. Of a routine it is said only if the relation speaks of its role.
--     operate_keeps              the law: each operation, on all values and all machines
use Rattle.std.proofs.Common.{Bool, true, false, List, [], ◌∷◌, slice_get, Option, Some, None}
use Rattle.hs_meaning.specs.Laws.Changes.{Change, Stays, Keeps, same_stay, unless_keeps}
use Rattle.hs_meaning.specs.Laws.Changes.Accesses.{loaded_keeps, stored_keeps}
use Rattle.hs_meaning.specs.Laws.Changes.Plain.{plain_keeps}
use Rattle.hs_meaning.specs.Laws.Changes.Roles.{role_stays}
use Rattle.hs_meaning.specs.Machine.{Machine, with_value}
use Rattle.hs_meaning.specs.Operations.{Operation, set, load, store, routine, operation_stops, operation_value, operation_machine, as_kind, by_role, is_plain, called_by, called_as, called, operate}
use Rattle.hs_meaning.specs.Roles.{role_stops, role_value, role_machine}
use Rattle.hs_meaning.specs.Settings.{Setting}
use Rattle.hs_meaning.specs.Values.{Value, pointer}
use Rattle.hs_table.specs.declared.role.Role.{Role}
use Rattle.hs_table.specs.declared.routine.Routine.{Routine}
use Rattle.hs_tree.specs.Kinds.{number_kind}
use Rattle.hs_tree.specs.declared.function.BoundRoutine.{BoundRoutine}
use Rattle.hs_tree.specs.declared.function.Prototype.{Prototype}
use Rattle.hs_tree.specs.declared.head.Variable.{Variable}
use Rattle.hs_tree.specs.declared.head.Variable.TheVariants as name
use Rattle.hs_types.specs.TypeTables.{TypeTable}

module _ (R : Change) where
  -- ---- slots

  with_value_stays : (variable : Variable) (value : Value) (machine : Machine) → Stays R machine (with_value variable value machine)
  with_value_stays (name.Global place) value machine = same_stay R machine
  with_value_stays (name.Local place) value machine = same_stay R machine

  machine_stays : (its : Operation) (values : List Value) (machine : Machine) → Stays R machine (operation_machine its values machine)
  machine_stays (set variable) (value ∷ []) machine = with_value_stays variable value machine
  machine_stays its values machine = same_stay R machine

  -- ---- routines

  by_role_keeps : (types : TypeTable) (its : Role) (prototype : Prototype) (values : List Value) (machine : Machine) → R.speaks_of its
      → Keeps R machine (by_role types its prototype values machine)
  by_role_keeps types its prototype values machine speaks =
      unless_keeps R (role_stops its values machine) (as_kind (number_kind types prototype.result) (role_value its values machine))
      (role_machine its values machine) machine (role_stays R its values machine speaks)

  called_by_keeps : (b : Bool) (types : TypeTable) (its : Routine) (prototype : Prototype) (values : List Value) (machine : Machine)
      → R.speaks_of its.role → Keeps R machine (called_by b types its prototype values machine)
  called_by_keeps true types its prototype values machine speaks = plain_keeps R types its prototype values machine
  called_by_keeps false types its prototype values machine speaks = by_role_keeps types its.role prototype values machine speaks

  called_as_keeps : (types : TypeTable) (its : Routine) (prototype : Option Prototype) (values : List Value) (machine : Machine)
      → R.speaks_of its.role → Keeps R machine (called_as types its prototype values machine)
  called_as_keeps types its None values machine speaks = same_stay R machine
  called_as_keeps types its (Some prototype) values machine speaks = called_by_keeps (is_plain its.role) types its prototype values machine speaks

  -- the routine has a role of which the relation speaks
  abbrev pub SpeaksOfRoutine : Option BoundRoutine → Type 0
  SpeaksOfRoutine None = Unit {0}
  SpeaksOfRoutine (Some it) = R.speaks_of it.routine.role

  called_keeps : (types : TypeTable) (its : Option BoundRoutine) (values : List Value) (machine : Machine)
      → SpeaksOfRoutine its → Keeps R machine (called types its values machine)
  called_keeps types None values machine speaks = same_stay R machine
  called_keeps types (Some it) values machine speaks = called_as_keeps types it.routine it.prototype values machine speaks

  -- ---- all operations

  -- an operation of which it speaks
  abbrev pub SpeaksOf : Setting → Operation → Type 0
  SpeaksOf setting (routine place) = SpeaksOfRoutine (slice_get setting.routines place)
  SpeaksOf setting its = Unit {0}

  -- each such operation, whether it stops or not
  pub operate_keeps : (setting : Setting) (its : Operation) (values : List Value) (machine : Machine)
      → SpeaksOf setting its → Keeps R machine (operate setting its values machine)
  operate_keeps setting (load access) (pointer its ∷ []) machine speaks = loaded_keeps R access its machine
  operate_keeps setting (store access) (pointer its ∷ value ∷ []) machine speaks = stored_keeps R access its value machine
  operate_keeps setting (routine place) values machine speaks = called_keeps setting.types (slice_get setting.routines place) values machine speaks
  operate_keeps setting its values machine speaks =
      unless_keeps R (operation_stops its values machine) (operation_value its values machine) (operation_machine its values machine) machine
      (machine_stays its values machine)
