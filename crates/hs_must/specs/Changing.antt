-- The changes of a function, from its lists (own).
--     may answers n effect f                     the function of that number has the effect, if there is one
--     change_by scope names slots unlocks disposes op depth      the change of an operation, if the names are those of the list
--     changes_by ..                              the changes of operations
use Rattle.std.specs.Prelude.{ℕ, ◌-◌, nat_lt, Bool, ◌&&◌, List, [], ◌∷◌}
use Rattle.hs_code.specs.Stacks.{Scope}
use Rattle.hs_code.specs.declared.function_code.Placed.{Placed}
use Rattle.hs_code.specs.declared.op.Op.{Op}
use Rattle.hs_code.specs.declared.op.Op.TheVariants as op
use Rattle.hs_effects.specs.Answers.{Answers}
use Rattle.hs_effects.specs.Effecting.{number_of}
use Rattle.hs_fact_rows.specs.Cells.{index_of}
use Rattle.hs_facts.specs.Effects.{Effect}
use Rattle.hs_facts.specs.Names.{role_at, taken}
use Rattle.hs_lock_rows.specs.Changing.{bring_change, result_is_handle, role_change, set_change}
use Rattle.hs_lock_rows.specs.declared.change.Change.{Change}
use Rattle.hs_lock_rows.specs.declared.change.Change.TheVariants as change
use Rattle.hs_restores.specs.Laws.Numbering.{is_in}
use Rattle.hs_rows.specs.Sets.{has}
use Rattle.hs_tree.specs.declared.head.Variable.{Variable}

-- the function of that number has the effect, if there are so many
abbrev pub may : Answers → ℕ → Effect → ℕ → Bool
may answers n effect f = nat_lt f n && has answers.effects f (number_of effect)

module _ (scope : Scope) (names slots : List Variable) (unlocks disposes : ℕ → Bool) where
  -- the change of an operation, with so many values on the stack before it
  abbrev pub change_by : Op → ℕ → Change
  change_by (op.Get v) depth = change.Get depth (index_of slots v)
  change_by (op.Set v) depth = set_change (is_in names v) depth (index_of names v) (index_of slots v)
  change_by (op.Load its) depth = change.Use depth (depth - 1)
  change_by op.Dup depth = change.Dup depth
  change_by op.Tuck depth = change.Tuck depth
  change_by (op.Conv kind) depth = change.Conv depth
  change_by (op.Bring place) depth = bring_change depth place
  change_by (op.Routine place) depth = role_change (role_at scope place) (result_is_handle scope place) depth (depth - taken scope (op.Routine place))
  change_by (op.Call f) depth = change.Call (depth - taken scope (op.Call f)) f (unlocks f) (disposes f)
  change_by its depth = change.Pop (depth - taken scope its)

  -- the change of each operation
  abbrev pub changes_by : List Placed → List Change
  changes_by [] = []
  changes_by (its ∷ rest) = change_by its.op its.places ∷ changes_by rest
