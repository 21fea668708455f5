-- What is found, as it is stored (own).
--     pair_of, pairs_of         the pair of a stored row, and all of them
--     operations_of             how many operations there are
use Rattle.std.specs.Prelude.{ℕ, List, length, map}
use Rattle.hs_search.specs.Storing.{node_of}
use Rattle.hs_search.specs.declared.found.Found.{Found}
use Rattle.hs_search.specs.declared.found.Pair.{Pair}
use Rattle.hs_search.specs.declared.lists.Item.{Item}
use Rattle.hs_search.specs.declared.reach.Reach.{Reach}

-- the pair of one stored row
abbrev pub pair_of : List (Item ℕ) → Item Reach → Pair
pair_of entries it = record { node = node_of entries it.value; length = it.value.length }

-- those of several
abbrev pub pairs_in : List (Item ℕ) → List (Item Reach) → List Pair
pairs_in entries rows = map (pair_of entries) rows

-- how many operations there are
abbrev pub operations_of : Found → ℕ
operations_of found = length found.rows.heads.items

-- all pairs, in the order in which they were found
abbrev pub pairs_of : Found → List Pair
pairs_of found = pairs_in found.entries.items.items found.rows.items.items
