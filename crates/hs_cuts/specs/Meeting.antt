-- Rows that are met with one and the same row, one after the other (own).
--     Met total ops mask Seen old new                 each row of Seen lost what the mask has not, and nothing else changed
--     Flagged total ops old new flags flags' changed  each row that changed is flagged
use Rattle.std.specs.Prelude.{◌≡◌, ◌<◌, ◌≤◌, ◌⊎◌, ℕ, Bool, true, false, List, length, slice_index_or, slice_get, Option, Some, None}
use Rattle.hs_code.specs.declared.function_code.Case.{Case}
use Rattle.hs_rows.specs.Sets.{Sets, SameSize, has}

module _ (total ops : ℕ) where
  pub record Met (mask : ℕ → Bool) (Seen : ℕ → Type 0) (old new : Sets) : Type 0 where
    pub back : (r b : ℕ) → r < ops → b < total → has new r b ≡ true → has old r b ≡ true
    pub kept : (r b : ℕ) → r < ops → b < total → has old r b ≡ true → (Seen r → mask b ≡ true) → has new r b ≡ true
    pub met : (r b : ℕ) → r < ops → b < total → Seen r → has new r b ≡ true → mask b ≡ true
    pub size : SameSize old new
    pub scratch : (b : ℕ) → b < total → has new ops b ≡ has old ops b

  -- the row is as it was
  abbrev pub SameRow : Sets → Sets → ℕ → Type 0
  SameRow old new r = (b : ℕ) → b < total → has new r b ≡ has old r b

  abbrev pub flag : List Bool → ℕ → Bool
  flag flags r = slice_index_or flags r false

  pub record Flagged (old new : Sets) (flags flags' : List Bool) (changed : Bool) : Type 0 where
    pub told : (r : ℕ) → r < ops → (flag flags' r ≡ true) ⊎ ((flag flags' r ≡ flag flags r) × SameRow old new r)
    pub still : changed ≡ false → (flags' ≡ flags) × ((r : ℕ) → r < ops → SameRow old new r)
    pub len : length flags' ≡ length flags

-- the target of a case that is there
abbrev pub target_in : Option Case → Option ℕ
target_in None = None
target_in (Some its) = Some its.target

-- the targets of the cases from the first on, before that place
abbrev pub SeenCases : List Case → ℕ → ℕ → ℕ → Type 0
SeenCases cases first count r = (place : ℕ) × (first ≤ place) × (place < count) × (target_in (slice_get cases place) ≡ Some r)

-- and of these, the targets before another place
abbrev pub SeenBefore : List Case → ℕ → ℕ → ℕ → ℕ → Type 0
SeenBefore cases first end count r = (place : ℕ) × (first ≤ place) × (place < count) × (place < end) × (target_in (slice_get cases place) ≡ Some r)

-- no operation before that place is flagged, if nothing changed
abbrev pub Quiet : ℕ → List Bool → Bool → Type 0
Quiet at flags changed = changed ≡ false → (r : ℕ) → r < at → slice_index_or flags r false ≡ false
