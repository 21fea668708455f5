-- What is kept of a function with handle names (own).
--     FunctionAnswers      its rows
use Rattle.std.specs.Prelude.{ℕ, List}
use Rattle.hs_fact_rows.specs.declared.plan.Plan.{Plan}
use Rattle.hs_rows.specs.Sets.{Sets}
use Rattle.hs_tree.specs.declared.head.Variable.{Variable}

-- so many operations, with the rows of With and Saved before them, and the rows of all other facts
pub record FunctionAnswers : Type 0 where
  pub plan : Plan
  pub ops : ℕ
  pub low : Sets
  pub locks : Sets
  pub slots : List Variable
