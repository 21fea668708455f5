-- The step that an operation is, in numbers (own).
--     step_of scope code names slots op depth     with so many values on the stack before it
use Rattle.std.specs.Prelude.{◌≡◌, ◌<◌, ℕ, zero, suc, ◌-◌, Bool, true, false, List, length, Option, Some}
use Rattle.hs_code.specs.Codes.{is_slot_in}
use Rattle.hs_code.specs.Stacks.{Scope, variable_in}
use Rattle.hs_code.specs.declared.function_code.FunctionCode.{FunctionCode}
use Rattle.hs_code.specs.declared.op.Op.{Op}
use Rattle.hs_code.specs.declared.op.Op.TheVariants as op
use Rattle.hs_fact_rows.specs.Cells.{index_of}
use Rattle.hs_fact_rows.specs.declared.step.Step.{Step}
use Rattle.hs_fact_rows.specs.declared.step.Step.TheVariants as step
use Rattle.hs_facts.specs.Names.{is_name, taken, role_at}
use Rattle.hs_table.specs.declared.role.Role.{Role}
use Rattle.hs_table.specs.declared.role.Role.TheVariants as role
use Rattle.hs_tree.specs.declared.head.Variable.{Variable}
use Rattle.hs_tree.specs.declared.head.Variable.TheVariants as name

-- by whether the variable is a name
abbrev pub set_step : Bool → ℕ → ℕ → ℕ → Step
set_step true depth name slot = step.SetName depth name slot
set_step false depth name slot = step.SetSlot depth slot

-- a value that is brought from nowhere stays where it is
abbrev pub bring_step : ℕ → ℕ → Step
bring_step depth zero = step.Pop depth
bring_step depth (suc place) = step.Bring depth (depth - suc place)

-- by the role of the routine
abbrev pub routine_step : Option Role → ℕ → ℕ → Step
routine_step (Some role.GetState) depth base = step.ReadState depth base
routine_step _ depth base = step.Pop base

module _ (scope : Scope) (code : FunctionCode) (names slots : List Variable) where
  abbrev pub step_of : Op → ℕ → Step
  step_of (op.Get v) depth = step.Get depth (index_of slots v) (index_of names v)
  step_of (op.Set v) depth = set_step (is_name scope code v) depth (index_of names v) (index_of slots v)
  step_of op.Dup depth = step.Dup depth
  step_of op.Tuck depth = step.Tuck depth
  step_of (op.Conv kind) depth = step.Conv depth
  step_of (op.Bring place) depth = bring_step depth place
  step_of (op.Routine place) depth = routine_step (role_at scope place) depth (depth - taken scope (op.Routine place))
  step_of (op.Call f) depth = step.Call (depth - taken scope (op.Call f)) f
  step_of its depth = step.Pop (depth - taken scope its)

-- ---- slots that have to be listed

module _ (scope : Scope) (slots : List Variable) (assigned : ℕ → ℕ → Bool) where
  -- each slot that a call of the function may assign
  abbrev pub AreListed : ℕ → Type 0
  AreListed f =
      (g : ℕ) → is_slot_in scope.types (variable_in scope (name.Global g)) ≡ true → assigned f g ≡ true
      → index_of slots (name.Global g) < length slots

  -- what an operation gets is a slot, and what it sets, itself or in a function that it calls, is listed
  abbrev pub OpFits : Op → Type 0
  OpFits (op.Get v) = is_slot_in scope.types (variable_in scope v) ≡ true
  OpFits (op.Set v) = index_of slots v < length slots
  OpFits (op.Call f) = AreListed f
  OpFits _ = Unit {0}
