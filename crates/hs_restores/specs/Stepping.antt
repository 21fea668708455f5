-- The steps of a function, from its lists (own).
--     scope_in program function                  the scope of a function
--     part_in window                             the names of a window
--     step_by scope names part slots op depth    the step of an operation, if the names are those of the list, and a part of them is numbered
--     steps_by scope names part slots ops        the steps of operations
--     greatest least ops                    the most values that an operation notes, or the other number if that is greater
use Rattle.std.specs.Prelude.{ℕ, ◌-◌, max, List, [], ◌∷◌}
use Rattle.hs_code.specs.Codes.{scope_of, view_program}
use Rattle.hs_code.specs.Stacks.{Scope}
use Rattle.hs_code.specs.declared.function_code.Placed.{Placed}
use Rattle.hs_code.specs.declared.op.Op.{Op}
use Rattle.hs_code.specs.declared.op.Op.TheVariants as op
use Rattle.hs_fact_rows.specs.Cells.{index_of}
use Rattle.hs_fact_rows.specs.Steps.{bring_step, routine_step, set_step}
use Rattle.hs_fact_rows.specs.declared.step.Step.{Step}
use Rattle.hs_fact_rows.specs.declared.step.Step.TheVariants as step
use Rattle.hs_facts.specs.Names.{taken, role_at}
use Rattle.hs_restores.specs.Laws.Numbering.{is_in}
use Rattle.hs_restores.specs.Laws.Windows.{part_of}
use Rattle.hs_restores.specs.declared.stepping.Window.{Window}
use Rattle.hs_tree.specs.Trees.{TypedFunction}
use Rattle.hs_tree.specs.declared.head.Variable.{Variable}
use Rattle.hs_tree.specs.declared.program.Program.{Program}

-- what the kinds of the operations of a function of the program depend on
abbrev pub scope_in : Program → TypedFunction → Scope
scope_in program function = scope_of (view_program program) function

-- the names of a window
abbrev pub part_in : Window → List Variable
part_in its = part_of its.from its.count its.names.now

module _ (scope : Scope) (names part slots : List Variable) where
  -- the step of an operation, with so many values on the stack before it
  abbrev pub step_by : Op → ℕ → Step
  step_by (op.Get v) depth = step.Get depth (index_of slots v) (index_of part v)
  step_by (op.Set v) depth = set_step (is_in names v) depth (index_of part v) (index_of slots v)
  step_by op.Dup depth = step.Dup depth
  step_by op.Tuck depth = step.Tuck depth
  step_by (op.Conv kind) depth = step.Conv depth
  step_by (op.Bring place) depth = bring_step depth place
  step_by (op.Routine place) depth = routine_step (role_at scope place) depth (depth - taken scope (op.Routine place))
  step_by (op.Call f) depth = step.Call (depth - taken scope (op.Call f)) f
  step_by its depth = step.Pop (depth - taken scope its)

  -- the step of each operation
  abbrev pub steps_by : List Placed → List Step
  steps_by [] = []
  steps_by (its ∷ rest) = step_by its.op its.places ∷ steps_by rest

-- how many places there are: the most values that an operation notes
abbrev pub greatest : ℕ → List Placed → ℕ
greatest least [] = least
greatest least (its ∷ rest) = greatest (max least its.places) rest
