-- Items by a key: the last item of each key, and before each item the one of the same key (own).
--     last_in key items         the number of the last item of the key, counted from 1, or 0 if there is none
--     IsIndex heads items       the heads and links say so
--     IsWalk items key at       so many items are left of a walk over those of the key, from the last one back
--     Seen items key at P       each item of the key from that place on is P
use Rattle.std.specs.Prelude.{◌≡◌, ◌<◌, ◌≤◌, ℕ, zero, suc, ◌==◌, Bool, true, false, List, [], ◌∷◌, length, take, slice_index_or, slice_get, Some}
use Rattle.hs_search.specs.declared.lists.Item.{Item}

-- this one, if there is no later one
abbrev pub or_first : ℕ → Bool → ℕ
or_first zero true = 1
or_first zero false = 0
or_first (suc later) is = suc (suc later)

module _ {T : Type 0} where
  -- the last item of the key
  abbrev pub last_in : ℕ → List (Item T) → ℕ
  last_in key [] = 0
  last_in key (first ∷ items) = or_first (last_in key items) (first.key == key)

  -- what heads and links say
  pub record IsIndex (heads : List ℕ) (items : List (Item T)) : Type 0 where
    pub head : (key : ℕ) → key < length heads → slice_index_or heads key 0 ≡ last_in key items
    pub link : (n : ℕ) (it : Item T) → slice_get items n ≡ Some it → it.link ≡ last_in it.key (take n items)
    pub below : (n : ℕ) (it : Item T) → slice_get items n ≡ Some it → it.key < length heads

  -- the walk is at an item of the key, or at its end
  pub record IsWalk (items : List (Item T)) (key at : ℕ) : Type 0 where
    pub within : at ≤ length items
    pub own : (n : ℕ) (it : Item T) → at ≡ suc n → slice_get items n ≡ Some it → it.key ≡ key

  -- what holds of the items that the walk has passed
  abbrev pub Seen : List (Item T) → ℕ → ℕ → (ℕ → Item T → Type 0) → Type 0
  Seen items key at P = (n : ℕ) (it : Item T) → at ≤ n → slice_get items n ≡ Some it → it.key ≡ key → P n it
