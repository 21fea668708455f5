-- No operation of the machine passes on a handle of a block whose handle is in none of its operands and nowhere else, unless it makes the block (own).
--     operate_hands      the law, for each operation, all values and all machines
use Rattle.std.proofs.Common.{◌≡◌, ℕ, pos, ℤ, Bool, true, false, List, [], ◌∷◌, slice_get, Option, Some, None, refl}
use Rattle.std.specs.List.{AllByRecursion}
use Rattle.hs_heap.specs.declared.cell.Pointer.TheVariants.{Nil, Fixed, Handle, Spot}
use Rattle.hs_hiding.specs.Holding.{Gets, OnDone, PointerLacks, Lacks, Lacking, Hands}
use Rattle.hs_hiding.specs.Lists.{unless_so}
use Rattle.hs_hiding.specs.Loading.{loaded_hands}
use Rattle.hs_hiding.specs.PlainRoutines.{plain_hands}
use Rattle.hs_hiding.specs.Roles.{role_hands, kind_lacks}
use Rattle.hs_hiding.specs.Storing.{set_lacks, value_lacks, stored_lacks}
use Rattle.hs_meaning.specs.Accesses.{stored}
use Rattle.hs_meaning.specs.Machine.{Machine, Done, done, stopped, binding_of, value_of_slot}
use Rattle.hs_meaning.specs.Operations.{Operation, get, set, load, store, convert, sign, not_, arithmetic, comparison, is_nil, compare, difference, offset, step, routine, operation_stops, operation_value, operation_machine, as_kind, is_plain, called_by, called_as, called, operate, converted_value}
use Rattle.hs_meaning.specs.Pointers.{moved_by, stride_bytes}
use Rattle.hs_meaning.specs.Roles.{role_stops, role_value, role_machine}
use Rattle.hs_meaning.specs.Settings.{Setting}
use Rattle.hs_meaning.specs.Values.{Value, number, pointer, state, structure, bits_in, pointer_in, or_nothing}
use Rattle.hs_table.specs.declared.routine.Routine.{Routine}
use Rattle.hs_tree.specs.Kinds.{number_kind}
use Rattle.hs_tree.specs.declared.function.BoundRoutine.{BoundRoutine}
use Rattle.hs_tree.specs.declared.function.Prototype.{Prototype}
use Rattle.hs_tree.specs.declared.head.Variable.{Variable}
use Rattle.hs_types.specs.TypeTables.{TypeTable}
use Rattle.hs_types.specs.declared.integer.Integer.{Integer}

module _ (n : ℕ) where
  -- ---- routines

  called_by_hands : (z : Bool) (types : TypeTable) (its : Routine) (prototype : Prototype) (values : List Value) (machine : Machine) → Lacking n machine
      → Hands n machine (called_by z types its prototype values machine)
  called_by_hands true types its prototype values machine are = plain_hands n types its prototype values machine are
  called_by_hands false types its prototype values machine are =
      unless_so (Gets n machine) (role_stops its.role values machine) (as_kind (number_kind types prototype.result) (role_value its.role values machine))
      (role_machine its.role values machine) machine (
        (λ never. kind_lacks n (number_kind types prototype.result) (role_value its.role values machine)
            ((role_hands n its.role values machine are).0 never)),
        (role_hands n its.role values machine are).1,
      )

  called_as_hands : (types : TypeTable) (its : Routine) (prototype : Option Prototype) (values : List Value) (machine : Machine) → Lacking n machine
      → Hands n machine (called_as types its prototype values machine)
  called_as_hands types its None values machine are = tt
  called_as_hands types its (Some prototype) values machine are = called_by_hands (is_plain its.role) types its prototype values machine are

  called_hands : (types : TypeTable) (its : Option BoundRoutine) (values : List Value) (machine : Machine) → Lacking n machine
      → Hands n machine (called types its values machine)
  called_hands types None values machine are = tt
  called_hands types (Some it) values machine are = called_as_hands types it.routine it.prototype values machine are

  -- ---- all operations

  slot_lacks : (x : Variable) (machine : Machine) → Lacking n machine → Lacks n (or_nothing (value_of_slot (binding_of x machine)))
  slot_lacks x machine are = by_value (value_of_slot (binding_of x machine)) refl
    where
      by_value : (found : Option Value) → value_of_slot (binding_of x machine) ≡ found → Lacks n (or_nothing found)
      by_value None is = tt
      by_value (Some v) is = value_lacks n machine x v are is

  converted_lacks : (kind : Integer) (v : Value) → Lacks n v → Lacks n (converted_value kind v)
  converted_lacks kind (number bits) is = tt
  converted_lacks kind (pointer its) is = is
  converted_lacks kind (state byte) is = tt
  converted_lacks kind (structure cells) is = is

  moved_lacks : (bytes : ℤ) (v : Value) → Lacks n v → PointerLacks n (moved_by bytes (pointer_in v))
  moved_lacks bytes (number bits) is = tt
  moved_lacks bytes (state byte) is = tt
  moved_lacks bytes (structure cells) is = tt
  moved_lacks bytes (pointer Nil) is = tt
  moved_lacks bytes (pointer (Fixed object at)) is = tt
  moved_lacks bytes (pointer (Spot s)) is = tt
  moved_lacks bytes (pointer (Handle k)) is = is

  value_gets : (its : Operation) (values : List Value) (machine : Machine) → AllByRecursion (Lacks n) values → Lacking n machine
      → Lacks n (operation_value its values machine)
  value_gets (get x) [] machine lack are = slot_lacks x machine are
  value_gets (set x) (v ∷ []) machine lack are = lack.0
  value_gets (convert kind) (v ∷ []) machine lack are = converted_lacks kind v lack.0
  value_gets (offset bytes) (v ∷ []) machine lack are = moved_lacks (pos bytes) v lack.0
  value_gets (step stride true) (v ∷ by ∷ []) machine lack are = moved_lacks (stride_bytes stride (bits_in by)) v lack.0
  value_gets (step stride false) (by ∷ v ∷ []) machine lack are = moved_lacks (stride_bytes stride (bits_in by)) v lack.1.0
  value_gets (sign o) (v ∷ []) machine lack are = tt
  value_gets not_ (v ∷ []) machine lack are = tt
  value_gets (arithmetic o kind) (a ∷ b ∷ []) machine lack are = tt
  value_gets (comparison o kind) (a ∷ b ∷ []) machine lack are = tt
  value_gets is_nil (v ∷ []) machine lack are = tt
  value_gets (compare o) (a ∷ b ∷ []) machine lack are = tt
  value_gets (difference size) (a ∷ b ∷ []) machine lack are = tt
  value_gets its values machine lack are = tt

  machine_gets : (its : Operation) (values : List Value) (machine : Machine) → AllByRecursion (Lacks n) values → Lacking n machine
      → Lacking n (operation_machine its values machine)
  machine_gets (set x) (v ∷ []) machine lack are = set_lacks n x v machine lack.0 are
  machine_gets its values machine lack are = are

  -- no operation hands on what is nowhere, but for the one that makes it
  pub operate_hands : (setting : Setting) (its : Operation) (values : List Value) (machine : Machine) → AllByRecursion (Lacks n) values → Lacking n machine
      → Hands n machine (operate setting its values machine)
  operate_hands setting (load access) (pointer p ∷ []) machine lack are = loaded_hands n access p machine are
  operate_hands setting (store access) (pointer p ∷ v ∷ []) machine lack are =
      by_done (stored access p v machine) (stored_lacks n access p v machine lack.1.0 are)
    where
      by_done : (its : Done Value) → OnDone (λ it after. Lacks n it × Lacking n after) its → Hands n machine its
      by_done (done it after) is = ((λ never. is.0), is.1)
      by_done (stopped why after) is = tt
  operate_hands setting (routine place) values machine lack are = called_hands setting.types (slice_get setting.routines place) values machine are
  operate_hands setting its values machine lack are =
      unless_so (Gets n machine) (operation_stops its values machine) (operation_value its values machine) (operation_machine its values machine) machine
      ((λ never. value_gets its values machine lack are), machine_gets its values machine lack are)
