-- Numbers of a row that are written one after the other (own).
use Rattle.std.specs.Prelude.{◌≡◌, ◌≢◌, ◌<◌, ◌≤◌, ◌⊎◌, ℕ, ◌+◌, Bool}
use Rattle.hs_rows.specs.Sets.{Sets, has, width, SameSize}

-- so many numbers from the first one on have these values, and all others stay
pub record Writes (row first count : ℕ) (value : ℕ → Bool) (old new : Sets) : Type 0 where
  pub inside : (i : ℕ) → i < count → has new row (first + i) ≡ value i
  pub outside :
      (r b : ℕ) → r < old.count → b < width old → (r ≢ row) ⊎ ((b < first) ⊎ (first + count ≤ b)) → has new r b ≡ has old r b
  pub size : SameSize old new
