-- Rows by operation: their numbers, the newest first, one operation after the other (own).
--     newest key items          the numbers of the items of the key, the newest first
--     IsPart                    the place of one operation's rows among all
use Rattle.std.specs.Prelude.{◌≡◌, ◌<◌, ℕ, suc, ◌+◌, ◌==◌, Bool, true, false, List, [], ◌∷◌, ◌++◌, length, slice_get, slice_index_or, Some}
use Rattle.hs_search.specs.declared.lists.Item.{Item}
use Rattle.hs_search.specs.declared.reach.Reach.{Reach}

-- none or one
abbrev pub only_if : {A : Type 0} → Bool → A → List A
only_if true x = x ∷ []
only_if false x = []

module _ {T : Type 0} where
  -- of items that are numbered from `from` on
  abbrev pub newest_from : ℕ → ℕ → List (Item T) → List ℕ
  newest_from key from [] = []
  newest_from key from (it ∷ items) = newest_from key (suc from) items ++ only_if (it.key == key) from

  -- of all items
  abbrev pub newest : ℕ → List (Item T) → List ℕ
  newest key items = newest_from key 0 items

-- the numbers from the one start to the next are those of the operation
abbrev pub IsPart : List (Item Reach) → List ℕ → List ℕ → ℕ → Type 0
IsPart rows order starts at =
    (slice_index_or starts at 0 + length (newest at rows) ≡ slice_index_or starts (suc at) 0)
    × ((j n : ℕ) → slice_get (newest at rows) j ≡ Some n → slice_get order (slice_index_or starts at 0 + j) ≡ Some n)

-- of each operation below the number
abbrev pub AreParts : ℕ → List (Item Reach) → List ℕ → List ℕ → Type 0
AreParts count rows order starts = (at : ℕ) → at < count → IsPart rows order starts at

-- each row is listed by its operation
abbrev pub AreKeyed : List (Item Reach) → Type 0
AreKeyed rows = (n : ℕ) (it : Item Reach) → slice_get rows n ≡ Some it → it.key ≡ it.value.at
