-- Rows without the bits that say that a name is apart from itself: they say nothing (own).
--     own plan name                       the number of that bit
--     ClearedTo plan row name old new     so many of them are out of a row
--     Cleared plan count old new          all of them are out of so many rows
use Rattle.std.specs.Prelude.{◌≡◌, ◌≢◌, ◌<◌, ◌⊎◌, ℕ, false}
use Rattle.hs_fact_rows.specs.declared.plan.Plan.{Plan}
use Rattle.hs_lock_rows.specs.Layout.{number}
use Rattle.hs_lock_rows.specs.declared.field.Field.TheVariants as field
use Rattle.hs_rows.specs.Sets.{Sets, SameSize, has, width}

module _ (plan : Plan) where
  -- that a name is apart from itself
  abbrev pub own : ℕ → ℕ
  own name = number plan (field.Apart name) name

  -- of the names below that one, in a row; each other bit is as it was
  pub record ClearedTo (row below : ℕ) (old new : Sets) : Type 0 where
    pub out : (name : ℕ) → name < below → has new row (own name) ≡ false
    pub others : (r b : ℕ) → r < old.count → b < width old → (r ≢ row) ⊎ ((name : ℕ) → name < below → b ≢ own name) → has new r b ≡ has old r b
    pub size : SameSize old new

  -- of all names, in so many rows; each other bit is as it was
  pub record Cleared (count : ℕ) (old new : Sets) : Type 0 where
    pub out : (row name : ℕ) → row < count → name < plan.names → has new row (own name) ≡ false
    pub others : (r b : ℕ) → r < old.count → b < width old → ((name : ℕ) → name < plan.names → b ≢ own name) → has new r b ≡ has old r b
    pub size : SameSize old new
