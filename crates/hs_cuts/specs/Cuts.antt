-- Rows of bits that come down to a fixed point (own): a row loses only what some operation before it does not make.
--     Task                      what operations make, and which of them follow one another
--     Made task at row made     a row that the operation may make
--     IsCut task old new        bits were taken out of rows, but none that each operation before makes
--     Cuts task old new         any number of times
--     AgreesFrom                what a row has, the operation before it makes
--     IsSolved task sets        what the computation comes to
use Rattle.std.specs.Prelude.{◌≡◌, ◌≢◌, ◌<◌, ◌⊎◌, ℕ, Bool, true, false, List, length, slice_index_or}
use Rattle.hs_code.specs.Following.{Follows}
use Rattle.hs_code.specs.declared.function_code.FunctionCode.{FunctionCode}
use Rattle.hs_cuts.specs.Meeting.{Flagged, Quiet}
use Rattle.hs_rows.specs.Sets.{Sets, SameSize, has}

-- the bits below `total` count; from a row, an operation makes rows by `makes`
pub record Task : Type 1 where
  pub total : ℕ
  pub code : FunctionCode
  pub makes : ℕ → (ℕ → Bool) → (ℕ → Bool) → Type 0

abbrev pub the_task : ℕ → FunctionCode → (ℕ → (ℕ → Bool) → (ℕ → Bool) → Type 0) → Task
the_task total code makes = record { total = total; code = code; makes = makes }

module _ (task : Task) where
  -- the operations of the function
  abbrev pub ops : ℕ
  ops = length task.code.ops

  -- it is made from each row with these bits
  abbrev pub Made : ℕ → (ℕ → Bool) → (ℕ → Bool) → Type 0
  Made at row made = (bits : ℕ → Bool) → ((b : ℕ) → b < task.total → bits b ≡ row b) → task.makes at bits made

  -- whatever the operation makes has the bit
  abbrev pub MakesBit : Sets → ℕ → ℕ → Type 0
  MakesBit sets from b = (made : ℕ → Bool) → Made from (has sets from) made → made b ≡ true

  -- bits were taken out of rows, but none that each operation before makes
  pub record IsCut (old new : Sets) : Type 0 where
    pub back : (at b : ℕ) → at < ops → b < task.total → has new at b ≡ true → has old at b ≡ true
    pub kept : (at b : ℕ) → at < ops → b < task.total → has old at b ≡ true
        → ((from : ℕ) → Follows task.code from at → MakesBit old from b) → has new at b ≡ true

  -- any number of times
  pub data Cuts : Sets → Sets → Type 0 where
    uncut : (sets : Sets) → Cuts sets sets
    cut : (old mid new : Sets) → Cuts old mid → IsCut mid new → Cuts old new

  -- the operation makes a row that has what those after it have
  abbrev pub AgreesFrom : Sets → ℕ → Type 0
  AgreesFrom sets from = (at b : ℕ) → at < ops → b < task.total → Follows task.code from at → has sets at b ≡ true
      → (made : ℕ → Bool) × Made from (has sets from) made × (made b ≡ true)

  -- each operation agrees, or is flagged
  abbrev pub IsStanding : List Bool → Sets → Type 0
  IsStanding flags sets = (from : ℕ) → from < ops → (slice_index_or flags from false ≡ true) ⊎ AgreesFrom sets from

  -- all bits, but none before the first operation
  pub record IsFull (sets : Sets) : Type 0 where
    pub all : (at b : ℕ) → at < ops → at ≢ 0 → b < task.total → has sets at b ≡ true
    pub none : (b : ℕ) → 0 < ops → b < task.total → has sets 0 b ≡ false

  -- what the computation comes to
  pub record IsSolved (sets : Sets) : Type 0 where
    pub full : Sets
    pub is_full : IsFull full
    pub cuts : Cuts full sets
    pub agrees : (from : ℕ) → from < ops → AgreesFrom sets from

  -- an operation is visited: the rows after it are cut to what it makes
  pub record Visit (at : ℕ) (old new : Sets) (flags flags' : List Bool) (changed : Bool) : Type 0 where
    pub cut : IsCut old new
    pub agrees : (r b : ℕ) → r < ops → b < task.total → Follows task.code at r → has new r b ≡ true
        → (made : ℕ → Bool) × Made at (has old at) made × (made b ≡ true)
    pub flagged : Flagged task.total ops old new flags flags' changed
    pub size : SameSize old new

  -- or it is not, if it is not flagged
  pub record Visited (at : ℕ) (old new : Sets) (flags flags' : List Bool) (changed : Bool) : Type 0 where
    pub cut : IsCut old new
    pub standing : IsStanding flags' new
    pub quiet : changed ≡ false
        → (slice_index_or flags' at false ≡ false) × ((r : ℕ) → r ≢ at → slice_index_or flags' r false ≡ slice_index_or flags r false)
    pub size : SameSize old new
    pub len : length flags' ≡ length flags

  -- so many operations are visited
  pub record Passed (count : ℕ) (old new : Sets) (flags flags' : List Bool) (changed : Bool) : Type 0 where
    pub cuts : Cuts old new
    pub standing : IsStanding flags' new
    pub quiet : Quiet count flags' changed
    pub size : SameSize old new
    pub len : length flags' ≡ length flags
