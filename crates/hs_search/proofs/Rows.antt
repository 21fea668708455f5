-- Worked rows: a graph of two functions, chains in it, and the lists of the search.
use Rattle.std.proofs.Common.{◌≡◌, ℕ, suc, ◌==◌, Bool, if◌then◌else◌, List, [], ◌∷◌, Option, Some, None, refl, inl, inr}
use Rattle.hs_search.specs.Bringing.{origin_back, step_back, step_in, step_on}
use Rattle.hs_search.specs.Chains.{Chain, begins, goes_on, goes_in, goes_back, IsOnce, pairs_at}
use Rattle.hs_search.specs.Graphs.{FlowGraph}
use Rattle.hs_search.specs.Listing.{last_in}
use Rattle.hs_search.specs.Rounds.{Row, entered_by, returned, stepped}
use Rattle.hs_search.specs.Searching.{key_of}
use Rattle.hs_search.specs.Sorting.{newest}
use Rattle.hs_search.specs.Storing.{call_at, capped, node_of}
use Rattle.hs_search.specs.declared.found.Pair.{Pair}
use Rattle.hs_search.specs.declared.graph.Node.{Node}
use Rattle.hs_search.specs.declared.lists.Item.{Item}
use Rattle.hs_search.specs.declared.reach.Reach.{Reach}

-- ---- a graph: `main` is 0 1 2, and calls at 0 and at 1 what is 3 4

abbrev node : ℕ → Node
node at = record { at = at; fact = 7; entered = 7 }

abbrev is_at : ℕ → Node → Bool
is_at at x = x.at == at

abbrev next_of : Node → List Node
next_of x = if is_at 3 x then node 4 ∷ [] else []

abbrev called_by : Node → Option Node
called_by x = if is_at 0 x then Some (node 3) else if is_at 1 x then Some (node 3) else None

abbrev back_to : Node → Node → Option Node
back_to c x = if is_at 4 x then Some (node (suc c.at)) else None

abbrev first_of : Node → Node
first_of x = if is_at 3 x then node 3 else if is_at 4 x then node 3 else node 0

abbrev two : FlowGraph
two = record {
  count = 5;
  start = node 0;
  steps = next_of;
  enters = called_by;
  ends = is_at 4;
  leaves = back_to;
  entry = first_of;
}

-- ---- chains

-- into the first call
in_first : Chain two 2 (node 3) (node 0 ∷ [])
in_first = goes_in 1 (node 0) (node 3) [] begins refl

-- to its end
at_return : Chain two 3 (node 4) (node 0 ∷ [])
at_return = goes_on 2 (node 3) (node 4) (node 0 ∷ []) in_first (inl refl)

-- back to its own caller
after_first : Chain two 4 (node 1) []
after_first = goes_back 3 (node 0) (node 4) (node 1) [] at_return refl

-- and through the second call to the end of `main`
in_second : Chain two 5 (node 3) (node 1 ∷ [])
in_second = goes_in 4 (node 1) (node 3) [] after_first refl

at_end : Chain two 7 (node 2) []
at_end = goes_back 6 (node 1) (node 4) (node 2) [] (goes_on 5 (node 3) (node 4) (node 1 ∷ []) in_second (inl refl)) refl

-- ---- the same by rows: the return after the second call, from the rows of its caller and of the end

abbrev row : ℕ → ℕ → ℕ → Row
row at length level = record { node = node at; length = length; level = level }

entered_row : entered_by (row 0 1 0) (node 3) ≡ row 3 2 0
entered_row = refl

end_row : stepped (row 3 2 0) (node 4) ≡ row 4 3 1
end_row = refl

first_return : returned (row 0 1 0) (row 4 3 1) (node 1) ≡ row 1 4 3
first_return = refl

second_return : returned (row 1 4 3) (row 4 3 1) (node 2) ≡ row 2 7 6
second_return = refl

-- ---- as they are stored

abbrev reach : ℕ → ℕ → ℕ → ℕ → Reach
reach at call length level = record { fact = 7; at = at; call = call; length = length; level = level; origin = record { up = 0; last = 0 } }

abbrev calls : List (Item ℕ)
calls = (record { key = 0; link = 0; value = 7 }) ∷ (record { key = 3; link = 0; value = 7 }) ∷ []

second_call : call_at calls 1 ≡ node 3
second_call = refl

node_of_return : node_of calls (reach 4 1 3 1) ≡ node 4
node_of_return = refl

-- reached from those rows
abbrev from_rows : ℕ → ℕ → Reach → Reach
from_rows up last it = record { fact = it.fact; at = it.at; call = it.call; length = it.length; level = it.level; origin = record { up = up; last = last } }

return_stored : step_back (origin_back 4 3) (reach 1 0 4 3) (reach 4 1 3 1) (node 2) ≡ from_rows 4 3 (reach 2 0 7 6)
return_stored = refl

call_stored : step_in 1 (reach 0 0 1 0) 1 (node 3) ≡ from_rows 1 0 (reach 3 1 2 0)
call_stored = refl

step_stored : step_on 2 (reach 3 1 2 0) (node 4) ≡ from_rows 2 0 (reach 4 1 3 1)
step_stored = refl

-- ---- past the most

within : capped 3 (reach 4 1 3 1) ≡ reach 4 1 3 1
within = refl

past : capped 3 (reach 2 0 7 6) ≡ reach 2 0 4 4
past = refl

keys : (key_of 3 3 ≡ 3) × (key_of 3 7 ≡ 4)
keys = (refl, refl)

-- ---- lists by operation

abbrev item : ℕ → ℕ → Item ℕ
item key value = record { key = key; link = 0; value = value }

abbrev items : List (Item ℕ)
items = item 3 0 ∷ item 4 0 ∷ item 3 0 ∷ item 3 0 ∷ []

last_of_three : last_in 3 items ≡ 4
last_of_three = refl

last_of_four : last_in 4 items ≡ 2
last_of_four = refl

last_of_none : last_in 5 items ≡ 0
last_of_none = refl

newest_of_three : newest 3 items ≡ 3 ∷ 2 ∷ 0 ∷ []
newest_of_three = refl

abbrev pair : ℕ → ℕ → Pair
pair at length = record { node = node at; length = length }

pairs_of_three : pairs_at 3 (pair 0 1 ∷ pair 3 2 ∷ pair 4 3 ∷ pair 3 9 ∷ []) ≡ pair 3 2 ∷ pair 3 9 ∷ []
pairs_of_three = refl

-- a node that is found twice is not once
twice : ¬ IsOnce (node 1 ∷ node 2 ∷ node 1 ∷ [])
twice once = once.0 (inr (inl refl))
