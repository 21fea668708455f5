-- Hazards: an operation uses a stale pointer, or a handle of a purged block (own).
--     Kind                           Moved, then Purged
--     is_used scope op depth kind place      the operation uses the value of that place for that
--     bad kind                       the status that the value may not have
--     ReachesBad whole known f at kind       a chain leads to such a use
--     Hazard whole f at kind         the same, by what is known in the program
use Rattle.std.specs.Prelude.{◌≡◌, ℕ, suc, ◌-◌, ◌==◌, nat_lt, Bool, true, false, not, ◌&&◌, ◌||◌, List, [], slice_get, Option, Some, None}
use Rattle.hs_chains.specs.Chains.{Chain, Spot}
use Rattle.hs_chains.specs.Knowledge.{Knowledge, IsKnowledge}
use Rattle.hs_code.specs.Stacks.{Scope, Signature, routine_signature}
use Rattle.hs_code.specs.declared.function_code.Placed.{Placed}
use Rattle.hs_code.specs.declared.op.Access.TheVariants as access
use Rattle.hs_code.specs.declared.op.Op.{Op}
use Rattle.hs_code.specs.declared.op.Op.TheVariants as op
use Rattle.hs_facts.specs.Effects.{WholeCode, placed_in}
use Rattle.hs_facts.specs.Names.{is_pointer_in, role_at, taken, takes_handle}
use Rattle.hs_flow.specs.Programs.{scope_at}
use Rattle.hs_flow.specs.declared.fact.FactStatus.{FactStatus}
use Rattle.hs_flow.specs.declared.fact.FactStatus.TheVariants as status
use Rattle.hs_flow.specs.declared.fact.Slot.TheVariants as slot
use Rattle.hs_table.specs.declared.role.Role.{Role}
use Rattle.hs_table.specs.declared.role.Role.TheVariants as role
use Rattle.hs_types.specs.TypeTables.{TypeTable}
use Rattle.hs_types.specs.declared.row.TypeId.{TypeId}

-- a pointer into a block that may have moved is used, or a handle of a block that may have been purged
pub data Kind : Type 0 where
  Moved : Kind
  Purged : Kind

-- the status that makes the use a hazard
abbrev pub bad : Kind → FactStatus
bad Moved = status.Stale
bad Purged = status.Hollow

-- ---- uses

-- the parameters of a routine that is there and declared
abbrev pub parameters_in : Option Signature → List TypeId
parameters_in None = []
parameters_in (Some its) = its.parameters

-- the place has an argument for a parameter of a pointer type, if the arguments are the places from `base` on
abbrev pub is_pointer_argument : TypeTable → List TypeId → ℕ → ℕ → Bool
is_pointer_argument types parameters base place = not (nat_lt place base) && is_pointer_in types (slice_get parameters (place - base))

-- What a routine of that role does with an argument, by whether it is a pointer, and the first one. block_move and plain routines use the memory to
-- which their pointers point. A role on a handle uses the block of its first argument. What a plain routine gets may be a handle too.
abbrev pub is_used_by : Option Role → Kind → Bool → Bool → Bool
is_used_by (Some role.BlockMove) Moved is_pointer is_first = is_pointer
is_used_by (Some role.Plain) kind is_pointer is_first = is_pointer
is_used_by its Purged is_pointer is_first = takes_handle its && is_first
is_used_by its Moved is_pointer is_first = false

-- the top
abbrev pub is_top : ℕ → ℕ → Bool
is_top depth place = suc place == depth

-- the place below the top
abbrev pub is_below_top : ℕ → ℕ → Bool
is_below_top depth place = suc (suc place) == depth

-- A load and a store use their pointer, a comparison and a difference both of theirs. A pointer is loaded from a handle.
abbrev pub is_used : Scope → Op → ℕ → Kind → ℕ → Bool
is_used scope (op.Load its) depth Moved place = is_top depth place
is_used scope (op.Load (access.Pointer class)) depth Purged place = is_top depth place
is_used scope (op.Store its) depth Moved place = is_below_top depth place
is_used scope (op.Compare its) depth Moved place = is_top depth place || is_below_top depth place
is_used scope (op.Difference size) depth Moved place = is_top depth place || is_below_top depth place
is_used scope (op.Routine number) depth kind place =
    is_used_by (role_at scope number) kind
    (is_pointer_argument scope.types (parameters_in (routine_signature (slice_get scope.routines number))) (depth - taken scope (op.Routine number)) place)
    (place == (depth - taken scope (op.Routine number)))
is_used scope _ depth kind place = false

-- ---- hazards

-- a chain comes to the operation with the bad status in a place that the operation uses
pub record ReachesBad (whole : WholeCode) (known : Knowledge) (f at : ℕ) (kind : Kind) : Type 0 where
  pub its : Placed
  pub there : placed_in whole f at ≡ Some its
  pub place : ℕ
  pub used : is_used (scope_at whole f) its.op its.places kind place ≡ true
  pub length : ℕ
  pub stack : List Spot
  pub chain : Chain whole known length (record { function = f; at = at; fact = record { slot = slot.Place place; status = bad kind } }) stack

-- by what is known in the program, of which there is one knowledge
pub record Hazard (whole : WholeCode) (f at : ℕ) (kind : Kind) : Type 0 where
  pub known : Knowledge
  pub is_known : IsKnowledge whole known
  pub reaches : ReachesBad whole known f at kind
