-- Rows that come down to the facts that hold, in numbers (own): a row loses only what some operation before it does not give.
--     Task                      the steps of a function, and which operations follow one another
--     IsCut task old new        facts were taken out of rows, but none that each operation before gives
--     Cuts task old new         any number of times
--     AgreesFrom, Agrees        what a row has, each operation before it gives
use Rattle.std.specs.Prelude.{◌≡◌, ◌≢◌, ◌<◌, ◌⊎◌, ℕ, Bool, true, false, List, length, slice_get, slice_index_or, Some}
use Rattle.hs_code.specs.Following.{Follows}
use Rattle.hs_code.specs.declared.function_code.FunctionCode.{FunctionCode}
use Rattle.hs_fact_rows.specs.Cells.{Cell, IsIn}
use Rattle.hs_fact_rows.specs.Given.{Facts, facts_in, given_by, FitsStep}
use Rattle.hs_fact_rows.specs.declared.plan.Plan.{Plan}
use Rattle.hs_fact_rows.specs.declared.step.Step.{Step}
use Rattle.hs_fact_rows.specs.Meeting.{Flagged, Quiet}
use Rattle.hs_rows.specs.Sets.{Sets, SameSize}
use Rattle.hs_tree.specs.declared.head.Variable.{Variable}

-- what is computed: the facts of the operations of a function
pub record Task : Type 0 where
  pub plan : Plan
  pub names : List Variable
  pub slots : List Variable
  pub steps : List Step
  pub code : FunctionCode
  pub assigned : ℕ → ℕ → Bool

module _ (task : Task) where
  -- the operations of the function
  abbrev pub ops : ℕ
  ops = length task.code.ops

  -- the facts of a row
  abbrev pub facts_at : Sets → ℕ → Facts
  facts_at sets at = facts_in task.plan sets at

  -- the facts after an operation, from those before it
  abbrev pub after : Step → Facts → Facts
  after its facts = given_by task.assigned task.names task.slots its facts

  -- the operation gives the fact to those that follow it
  abbrev pub GivesFrom : Sets → ℕ → Cell → Type 0
  GivesFrom sets from cell = (its : Step) → slice_get task.steps from ≡ Some its → after its (facts_at sets from) cell ≡ true

  -- facts were taken out of rows, but none that each operation before gives
  pub record IsCut (old new : Sets) : Type 0 where
    pub back : (at : ℕ) (cell : Cell) → at < ops → IsIn task.plan cell → facts_at new at cell ≡ true → facts_at old at cell ≡ true
    pub kept : (at : ℕ) (cell : Cell) → at < ops → IsIn task.plan cell → facts_at old at cell ≡ true
        → ((from : ℕ) → Follows task.code from at → GivesFrom old from cell) → facts_at new at cell ≡ true

  -- any number of times
  pub data Cuts : Sets → Sets → Type 0 where
    uncut : (sets : Sets) → Cuts sets sets
    cut : (old mid new : Sets) → Cuts old mid → IsCut mid new → Cuts old new

  -- what the operation gives is all that those after it have
  abbrev pub AgreesFrom : Sets → ℕ → Type 0
  AgreesFrom sets from = (at : ℕ) (cell : Cell) → at < ops → IsIn task.plan cell → Follows task.code from at → facts_at sets at cell ≡ true
      → GivesFrom sets from cell

  -- each operation agrees, or is flagged
  abbrev pub IsStanding : List Bool → Sets → Type 0
  IsStanding flags sets = (from : ℕ) → from < ops → (slice_index_or flags from false ≡ true) ⊎ AgreesFrom sets from

  -- all facts, but none before the first operation
  pub record IsFull (sets : Sets) : Type 0 where
    pub all : (at : ℕ) (cell : Cell) → at < ops → at ≢ 0 → IsIn task.plan cell → facts_at sets at cell ≡ true
    pub none : (cell : Cell) → 0 < ops → IsIn task.plan cell → facts_at sets 0 cell ≡ false

  -- what the computation comes to
  pub record IsSolved (sets : Sets) : Type 0 where
    pub full : Sets
    pub is_full : IsFull full
    pub cuts : Cuts full sets
    pub agrees : (from : ℕ) → from < ops → AgreesFrom sets from

  -- one step for each operation, and numbers of the plan
  pub record IsTask : Type 0 where
    pub steps : length task.steps ≡ ops
    pub fit : (at : ℕ) (its : Step) → slice_get task.steps at ≡ Some its → FitsStep task.plan its
    pub names : length task.names ≡ task.plan.names
    pub slots : length task.slots ≡ task.plan.slots

-- of these parts
abbrev pub the_task : Plan → List Variable → List Variable → List Step → FunctionCode → (ℕ → ℕ → Bool) → Task
the_task plan names slots steps code assigned =
    record { plan = plan; names = names; slots = slots; steps = steps; code = code; assigned = assigned }

module _ (task : Task) where
  -- an operation is visited: the rows after it are cut to what it gives
  pub record Visit (at : ℕ) (its : Step) (old new : Sets) (flags flags' : List Bool) (changed : Bool) : Type 0 where
    pub cut : IsCut task old new
    pub agrees : (r : ℕ) (cell : Cell) → r < ops task → IsIn task.plan cell → Follows task.code at r → facts_at task new r cell ≡ true
        → after task its (facts_at task old at) cell ≡ true
    pub flagged : Flagged task.plan (ops task) old new flags flags' changed
    pub size : SameSize old new

  -- or it is not, if it is not flagged
  pub record Visited (at : ℕ) (old new : Sets) (flags flags' : List Bool) (changed : Bool) : Type 0 where
    pub cut : IsCut task old new
    pub standing : IsStanding task flags' new
    pub quiet : changed ≡ false
        → (slice_index_or flags' at false ≡ false) × ((r : ℕ) → r ≢ at → slice_index_or flags' r false ≡ slice_index_or flags r false)
    pub size : SameSize old new
    pub len : length flags' ≡ length flags

  -- so many operations are visited
  pub record Passed (count : ℕ) (old new : Sets) (flags flags' : List Bool) (changed : Bool) : Type 0 where
    pub cuts : Cuts task old new
    pub standing : IsStanding task flags' new
    pub quiet : Quiet count flags' changed
    pub size : SameSize old new
    pub len : length flags' ≡ length flags
