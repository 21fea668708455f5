-- Rows that are met with one and the same row, one after the other (own).
--     Met plan ops mask Seen old new                 each row of Seen lost what the mask has not, and nothing else changed
--     Flagged plan ops old new flags flags' changed  each row that changed is flagged
use Rattle.std.specs.Prelude.{◌≡◌, ◌<◌, ◌≤◌, ◌⊎◌, ℕ, Bool, true, false, List, length, slice_index_or, slice_get, Option, Some, None}
use Rattle.hs_code.specs.declared.function_code.Case.{Case}
use Rattle.hs_fact_rows.specs.Cells.{Cell, IsIn}
use Rattle.hs_fact_rows.specs.Given.{Facts, facts_in}
use Rattle.hs_fact_rows.specs.declared.plan.Plan.{Plan}
use Rattle.hs_rows.specs.Sets.{Sets, SameSize}

module _ (plan : Plan) (ops : ℕ) where
  -- the facts of a row
  abbrev pub row_facts : Sets → ℕ → Facts
  row_facts sets row = facts_in plan sets row

  pub record Met (mask : Facts) (Seen : ℕ → Type 0) (old new : Sets) : Type 0 where
    pub back : (r : ℕ) (cell : Cell) → r < ops → IsIn plan cell → row_facts new r cell ≡ true → row_facts old r cell ≡ true
    pub kept : (r : ℕ) (cell : Cell) → r < ops → IsIn plan cell → row_facts old r cell ≡ true → (Seen r → mask cell ≡ true) → row_facts new r cell ≡ true
    pub met : (r : ℕ) (cell : Cell) → r < ops → IsIn plan cell → Seen r → row_facts new r cell ≡ true → mask cell ≡ true
    pub size : SameSize old new
    pub scratch : (cell : Cell) → IsIn plan cell → row_facts new ops cell ≡ row_facts old ops cell

  -- the row is as it was
  abbrev pub SameRow : Sets → Sets → ℕ → Type 0
  SameRow old new r = (cell : Cell) → IsIn plan cell → row_facts new r cell ≡ row_facts old r cell

  abbrev pub flag : List Bool → ℕ → Bool
  flag flags r = slice_index_or flags r false

  pub record Flagged (old new : Sets) (flags flags' : List Bool) (changed : Bool) : Type 0 where
    pub told : (r : ℕ) → r < ops → (flag flags' r ≡ true) ⊎ ((flag flags' r ≡ flag flags r) × SameRow old new r)
    pub still : changed ≡ false → (flags' ≡ flags) × ((r : ℕ) → r < ops → SameRow old new r)
    pub len : length flags' ≡ length flags

-- the target of a case that is there
abbrev pub target_in : Option Case → Option ℕ
target_in None = None
target_in (Some its) = Some its.target

-- the targets of the cases from the first on, before that place
abbrev pub SeenCases : List Case → ℕ → ℕ → ℕ → Type 0
SeenCases cases first count r = (place : ℕ) × (first ≤ place) × (place < count) × (target_in (slice_get cases place) ≡ Some r)

-- no operation before that place is flagged, if nothing changed
abbrev pub Quiet : ℕ → List Bool → Bool → Type 0
Quiet at flags changed = changed ≡ false → (r : ℕ) → r < at → slice_index_or flags r false ≡ false

-- and of these, the targets before another place
abbrev pub SeenBefore : List Case → ℕ → ℕ → ℕ → ℕ → Type 0
SeenBefore cases first end count r = (place : ℕ) × (first ≤ place) × (place < count) × (place < end) × (target_in (slice_get cases place) ≡ Some r)
