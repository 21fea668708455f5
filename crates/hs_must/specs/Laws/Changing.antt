-- The changes that are made are those of the code, and fit the plan.
--     changes_length, changes_at      one for each operation
--     changes_fit                     their numbers are those of the plan
--     change_is                       each is that of its operation
use Rattle.std.proofs.Common.{◌≡◌, ◌≤◌, ℕ, zero, suc, ◌-◌, Bool, true, false, ap, sym, subst, refl, arith, List, [], ◌∷◌, length, slice_get, Option, Some, None}
use Rattle.hs_code.specs.Stacks.{Scope}
use Rattle.hs_code.specs.declared.function_code.FunctionCode.{FunctionCode}
use Rattle.hs_code.specs.declared.function_code.Placed.{Placed}
use Rattle.hs_code.specs.declared.op.Op.{Op}
use Rattle.hs_code.specs.declared.op.Op.TheVariants as op
use Rattle.hs_fact_rows.specs.Cells.{index_of}
use Rattle.hs_fact_rows.specs.Laws.Numbers.{index_least, some_one}
use Rattle.hs_fact_rows.specs.declared.plan.Plan.{Plan}
use Rattle.hs_facts.specs.Names.{is_name, role_at, taken}
use Rattle.hs_lock_rows.specs.Changing.{change_of, plain_change, result_is_handle, role_change, set_change}
use Rattle.hs_lock_rows.specs.Knowing.{FitsChange}
use Rattle.hs_lock_rows.specs.declared.change.Change.{Change}
use Rattle.hs_must.specs.Changing.{change_by, changes_by}
use Rattle.hs_restores.specs.Laws.Numbering.{is_in}
use Rattle.hs_table.specs.declared.role.Role.{Role}
use Rattle.hs_table.specs.declared.role.Role.TheVariants as role
use Rattle.hs_tree.specs.declared.head.Variable.{Variable}

module _ (scope : Scope) (names slots : List Variable) (unlocks disposes : ℕ → Bool) where
  pub changes_length : (ops : List Placed) → length (changes_by scope names slots unlocks disposes ops) ≡ length ops
  changes_length [] = refl
  changes_length (its ∷ rest) = ap (λ n. suc n) (changes_length rest)

  pub changes_at : (ops : List Placed) (at : ℕ) (its : Placed) → slice_get ops at ≡ Some its
      → slice_get (changes_by scope names slots unlocks disposes ops) at ≡ Some (change_by scope names slots unlocks disposes its.op its.places)
  changes_at [] at its there = absurd cc
  changes_at (it ∷ rest) zero its there =
      ap (λ (p : Placed). Some (change_by scope names slots unlocks disposes p.op p.places)) (some_one it its there)
  changes_at (it ∷ rest) (suc at) its there = changes_at rest at its there

  -- an operation whose change is the one of that number
  change_from : (ops : List Placed) (at : ℕ) (its : Change) → slice_get (changes_by scope names slots unlocks disposes ops) at ≡ Some its
      → (it : Placed) × (slice_get ops at ≡ Some it) × (change_by scope names slots unlocks disposes it.op it.places ≡ its)
  change_from [] at its there = absurd cc
  change_from (it ∷ rest) zero its there = (it, refl, some_one (change_by scope names slots unlocks disposes it.op it.places) its there)
  change_from (it ∷ rest) (suc at) its there = change_from rest at its there

  -- ---- they fit the plan

  module _ (plan : Plan) (listed : plan.slots ≡ length slots) where
    slot_fits : (v : Variable) → index_of slots v ≤ plan.slots
    slot_fits v = let least = index_least slots v in omega (arith, least, listed)

    set_fits : (is : Bool) (depth number : ℕ) (v : Variable) → depth ≤ plan.places → FitsChange plan (set_change is depth number (index_of slots v))
    set_fits true depth number v low = (low, slot_fits v)
    set_fits false depth number v low = (low, slot_fits v)

    plain_fits : (by_type : Bool) (base : ℕ) → FitsChange plan (plain_change by_type base)
    plain_fits true base = tt
    plain_fits false base = tt

    role_fits : (its : Option Role) (by_type : Bool) (depth base : ℕ) → base ≤ depth → depth ≤ plan.places
        → FitsChange plan (role_change its by_type depth base)
    role_fits None t depth base under low = tt
    role_fits (Some role.NewHandle) t depth base under low = tt
    role_fits (Some role.DisposeHandle) t depth base under low = low
    role_fits (Some role.GetSize) t depth base under low = low
    role_fits (Some role.SetSize) t depth base under low = low
    role_fits (Some role.Lock) t depth base under low = low
    role_fits (Some role.Unlock) t depth base under low = low
    role_fits (Some role.Purge) t depth base under low = low
    role_fits (Some role.NoPurge) t depth base under low = low
    role_fits (Some role.GetState) t depth base under low = low
    role_fits (Some role.SetState) t depth base under low = (low, under)
    role_fits (Some role.Empty) t depth base under low = low
    role_fits (Some role.Realloc) t depth base under low = low
    role_fits (Some role.NewPtr) t depth base under low = tt
    role_fits (Some role.DisposePtr) t depth base under low = tt
    role_fits (Some role.BlockMove) t depth base under low = tt
    role_fits (Some role.Getchar) t depth base under low = tt
    role_fits (Some role.Putchar) t depth base under low = tt
    role_fits (Some role.Plain) t depth base under low = plain_fits t base

    change_fits : (its : Op) (depth : ℕ) → depth ≤ plan.places → FitsChange plan (change_by scope names slots unlocks disposes its depth)
    change_fits (op.Num bits) depth low = tt
    change_fits op.Nil depth low = tt
    change_fits (op.Address its) depth low = tt
    change_fits (op.Get v) depth low = slot_fits v
    change_fits (op.Set v) depth low = set_fits (is_in names v) depth (index_of names v) v low
    change_fits (op.Load its) depth low = low
    change_fits (op.Store its) depth low = tt
    change_fits op.Drop depth low = tt
    change_fits op.Dup depth low = low
    change_fits op.Tuck depth low = low
    change_fits (op.Conv kind) depth low = low
    change_fits (op.Unary its) depth low = tt
    change_fits (op.Binary its kind) depth low = tt
    change_fits op.IsNil depth low = tt
    change_fits (op.Compare its) depth low = tt
    change_fits (op.Difference size) depth low = tt
    change_fits (op.Offset bytes) depth low = tt
    change_fits (op.Step stride pointer_first) depth low = tt
    change_fits (op.Jump target) depth low = tt
    change_fits (op.Zero target) depth low = tt
    change_fits (op.Choose goal) depth low = tt
    change_fits (op.Shift place) depth low = tt
    change_fits (op.Routine place) depth low =
        role_fits (role_at scope place) (result_is_handle scope place) depth (depth - taken scope (op.Routine place)) (omega arith) low
    change_fits (op.Call f) depth low = tt
    change_fits op.Return depth low = tt
    change_fits op.Turn depth low = tt
    change_fits op.Mark depth low = tt
    change_fits (op.Pick target) depth low = tt
    change_fits (op.Bring zero) depth low = tt
    change_fits (op.Bring (suc place)) depth low = low

    pub changes_fit : (ops : List Placed) → ((at : ℕ) (its : Placed) → slice_get ops at ≡ Some its → its.places ≤ plan.places) → (at : ℕ) (its : Change)
        → slice_get (changes_by scope names slots unlocks disposes ops) at ≡ Some its → FitsChange plan its
    changes_fit ops low at its there =
        let it = change_from ops at its there in
        subst (FitsChange plan) it.2 (change_fits it.0.op it.0.places (low at it.0 it.1))

  -- ---- they are those of the code, if the names are

  module _ (code : FunctionCode) (are : (v : Variable) → is_name scope code v ≡ is_in names v) where
    pub change_is : (its : Op) (depth : ℕ)
        → change_by scope names slots unlocks disposes its depth ≡ change_of scope code names slots unlocks disposes its depth
    change_is (op.Num bits) depth = refl
    change_is op.Nil depth = refl
    change_is (op.Address its) depth = refl
    change_is (op.Get v) depth = refl
    change_is (op.Set v) depth = ap (λ is. set_change is depth (index_of names v) (index_of slots v)) (sym (are v))
    change_is (op.Load its) depth = refl
    change_is (op.Store its) depth = refl
    change_is op.Drop depth = refl
    change_is op.Dup depth = refl
    change_is op.Tuck depth = refl
    change_is (op.Conv kind) depth = refl
    change_is (op.Unary its) depth = refl
    change_is (op.Binary its kind) depth = refl
    change_is op.IsNil depth = refl
    change_is (op.Compare its) depth = refl
    change_is (op.Difference size) depth = refl
    change_is (op.Offset bytes) depth = refl
    change_is (op.Step stride pointer_first) depth = refl
    change_is (op.Jump target) depth = refl
    change_is (op.Zero target) depth = refl
    change_is (op.Choose goal) depth = refl
    change_is (op.Shift place) depth = refl
    change_is (op.Routine place) depth = refl
    change_is (op.Call f) depth = refl
    change_is op.Return depth = refl
    change_is op.Turn depth = refl
    change_is op.Mark depth = refl
    change_is (op.Pick target) depth = refl
    change_is (op.Bring place) depth = refl
