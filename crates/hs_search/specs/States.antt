-- The search as its code keeps it, between its steps (own).
--     IsWide                     the lists are as wide as they must be
--     IsRound                    before the round of a length
--     IsEnded                    no round is left
--     IsPassing                  past the most, before a pass
--     IsComplete                 nothing is left
use Rattle.std.specs.Prelude.{◌≡◌, ◌<◌, ◌≤◌, ◌⊎◌, ℕ, suc, List, [], length, Result, Ok, Err}
use Rattle.hs_search.specs.Bringing.{book_of}
use Rattle.hs_search.specs.Graphs.{FlowGraph, Has}
use Rattle.hs_search.specs.Rounds.{Row}
use Rattle.hs_search.specs.Searching.{IsBetween, IsPast, Stops}
use Rattle.hs_search.specs.declared.reach.SearchEnd.{SearchEnd}
use Rattle.hs_search.specs.declared.searching.Search.{Search}

-- how many keys the lists have
pub record IsWide (graph : FlowGraph) (most : ℕ) (search : Search) : Type 0 where
  pub rows : length search.rows.lists.heads.items ≡ graph.count
  pub calls : length search.calls.entries.heads.items ≡ graph.count

-- what holds before the round of a length
pub record IsRound (graph : FlowGraph) (room most next : ℕ) (search : Search) : Type 0 where
  pub between : IsBetween graph room most next search.latest search.rows.lists.items.items (book_of search.calls) search.near.items search.far.items.items
  pub jumps : search.jumps.items ≡ []
  pub wide : IsWide graph most search

-- the rounds are over: their length is past the most, or nothing is offered
pub record IsEnded (graph : FlowGraph) (room most : ℕ) (search : Search) : Type 0 where
  pub next : ℕ
  pub round : IsRound graph room most next search
  pub last : (next ≡ suc most) ⊎ ((next ≤ most) × (search.near.items ≡ []) × (search.latest < next))

-- what holds before a pass
pub record IsPassing (graph : FlowGraph) (room most : ℕ) (search : Search) : Type 0 where
  -- the rows with lengths up to the most
  pub base : List Row
  pub past : IsPast graph room most base search.rows.lists.items.items (book_of search.calls) (λ s. Has search.near.items s ⊎ Has search.jumps.items s)
  pub wide : IsWide graph most search

-- no offer is left
pub record IsComplete (graph : FlowGraph) (room most : ℕ) (search : Search) : Type 0 where
  pub passing : IsPassing graph room most search
  pub near : search.near.items ≡ []
  pub jumps : search.jumps.items ≡ []

-- what the whole search comes to
abbrev pub Explores : FlowGraph → ℕ → ℕ → Result Search SearchEnd → Type 0
Explores graph room most (Ok search) = IsComplete graph room most search
Explores graph room most (Err end) = Stops graph room end
