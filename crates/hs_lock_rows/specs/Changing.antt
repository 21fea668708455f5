-- The change that an operation is, in numbers (own).
--     change_of scope code names slots unlocks disposes op depth     with so many values on the stack before it
use Rattle.std.specs.Prelude.{ℕ, zero, suc, ◌-◌, Bool, true, false, List, Option, Some, slice_get}
use Rattle.hs_code.specs.Stacks.{Scope, routine_signature}
use Rattle.hs_code.specs.declared.function_code.FunctionCode.{FunctionCode}
use Rattle.hs_code.specs.declared.op.Op.{Op}
use Rattle.hs_code.specs.declared.op.Op.TheVariants as op
use Rattle.hs_fact_rows.specs.Cells.{index_of}
use Rattle.hs_facts.specs.Names.{is_name, taken, role_at, gives_handle}
use Rattle.hs_lock_rows.specs.declared.change.Change.{Change}
use Rattle.hs_lock_rows.specs.declared.change.Change.TheVariants as change
use Rattle.hs_table.specs.declared.role.Role.{Role}
use Rattle.hs_table.specs.declared.role.Role.TheVariants as role
use Rattle.hs_tree.specs.declared.head.Variable.{Variable}

-- by whether the variable is a name
abbrev pub set_change : Bool → ℕ → ℕ → ℕ → Change
set_change true depth name slot = change.SetName depth name slot
set_change false depth name slot = change.SetSlot depth slot

-- a value that is brought from nowhere stays where it is
abbrev pub bring_change : ℕ → ℕ → Change
bring_change depth zero = change.Pop depth
bring_change depth (suc place) = change.Bring depth (depth - suc place)

-- a plain routine makes a handle if its result points to a pointer
abbrev pub plain_change : Bool → ℕ → Change
plain_change true base = change.Make base
plain_change false base = change.Pop base

-- by the role of the routine, and by whether its result points to a pointer
abbrev pub role_change : Option Role → Bool → ℕ → ℕ → Change
role_change (Some role.NewHandle) by_type depth base = change.Make base
role_change (Some role.DisposeHandle) by_type depth base = change.Dispose depth base
role_change (Some role.GetSize) by_type depth base = change.Use depth base
role_change (Some role.SetSize) by_type depth base = change.Use depth base
role_change (Some role.Lock) by_type depth base = change.Lock depth base
role_change (Some role.Unlock) by_type depth base = change.Unlock depth base
role_change (Some role.Purge) by_type depth base = change.Use depth base
role_change (Some role.NoPurge) by_type depth base = change.Use depth base
role_change (Some role.GetState) by_type depth base = change.ReadState depth base
role_change (Some role.SetState) by_type depth base = change.SetState depth base
role_change (Some role.Empty) by_type depth base = change.Use depth base
role_change (Some role.Realloc) by_type depth base = change.Unlock depth base
role_change (Some role.Plain) by_type depth base = plain_change by_type base
role_change _ by_type depth base = change.Pop base

-- what the routine of that number gives points to a pointer
abbrev pub result_is_handle : Scope → ℕ → Bool
result_is_handle scope place = gives_handle scope.types (routine_signature (slice_get scope.routines place))

module _ (scope : Scope) (code : FunctionCode) (names slots : List Variable) (unlocks disposes : ℕ → Bool) where
  abbrev pub change_of : Op → ℕ → Change
  change_of (op.Get v) depth = change.Get depth (index_of slots v)
  change_of (op.Set v) depth = set_change (is_name scope code v) depth (index_of names v) (index_of slots v)
  change_of (op.Load its) depth = change.Use depth (depth - 1)
  change_of op.Dup depth = change.Dup depth
  change_of op.Tuck depth = change.Tuck depth
  change_of (op.Conv kind) depth = change.Conv depth
  change_of (op.Bring place) depth = bring_change depth place
  change_of (op.Routine place) depth = role_change (role_at scope place) (result_is_handle scope place) depth (depth - taken scope (op.Routine place))
  change_of (op.Call f) depth = change.Call (depth - taken scope (op.Call f)) f (unlocks f) (disposes f)
  change_of its depth = change.Pop (depth - taken scope its)
