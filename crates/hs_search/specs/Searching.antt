-- The state of the search between its rounds (own).
--     Stored entries offers o     some stored offer has the row
--     HasExpanded                 the rows from a place on have brought what they bring
--     IsWaiting far next s        the offer waits for that round or a later one
--     IsBetween                   before a round
--     IsPast                      past the most
use Rattle.std.specs.Prelude.{◌≡◌, ◌≢◌, ◌<◌, ◌≤◌, ◌⊎◌, ℕ, suc, nat_lt, Bool, true, false, List, ◌++◌, map, length, slice_get, take, Some, Result, Ok, Err}
use Rattle.hs_search.specs.Bringing.{Book}
use Rattle.hs_search.specs.Chains.{IsOnce, IsTooMany}
use Rattle.hs_search.specs.Graphs.{FlowGraph, Has}
use Rattle.hs_search.specs.Layout.{Grows, IsLaidOut, IsPlaced}
use Rattle.hs_search.specs.Links.{AreLinked, HasLink, IsFrom, LinkedBy, OfLink}
use Rattle.hs_search.specs.Rounds.{Row, AllBrought, Built, Closed, IsClosing, IsReady, Known}
use Rattle.hs_search.specs.Storing.{IsFull, IsListed, Taking, row_of, rows_of}
use Rattle.hs_search.specs.declared.graph.Node.{Node}
use Rattle.hs_search.specs.declared.lists.Item.{Item}
use Rattle.hs_search.specs.declared.reach.Reach.{Reach}
use Rattle.hs_search.specs.declared.reach.SearchEnd.{SearchEnd}
use Rattle.hs_search.specs.declared.reach.SearchEnd.TheVariants.{Limit, NoMemory}

-- the row of an offer
abbrev pub Stored : List (Item ℕ) → (Reach → Type 0) → Row → Type 0
Stored entries Offers o = (s : Reach) × Offers s × (row_of entries s ≡ o)

-- of the rows of these numbers
pub record HasExpanded (graph : FlowGraph) (rows : List (Item Reach)) (first count : ℕ) (old new : Book) (near jumps : List Reach) : Type 0 where
  pub laid_out : IsLaidOut graph rows new count
  pub grows : Grows old.entries new.entries
  pub placed : (s : Reach) → Has (near ++ jumps) s → IsPlaced graph new.entries s
  pub linked : (s : Reach) → Has (near ++ jumps) s → HasLink graph (rows_of new.entries rows) new.entries s
  pub all : AllBrought graph (rows_of new.entries rows) first count (Stored new.entries (Has (near ++ jumps)))
  pub links : (up last : ℕ) (r : Row) → LinkedBy graph (take count (rows_of new.entries rows)) up last r → IsFrom first up last
      → OfLink new.entries (Has (near ++ jumps)) up last r
  pub long : (s : Reach) → Has near s → (n : ℕ) × (it : Item Reach) × (first ≤ n) × (slice_get rows n ≡ Some it) × (s.length ≡ suc it.value.length)

-- ---- offers that are taken

-- all offers were taken
pub record IsTakenAll (room most : ℕ) (Offers : Reach → Type 0) (old new : List (Item Reach)) : Type 0 where
  pub taken : List Reach
  pub taking : Taking room most taken old new
  pub each : (s : Reach) → Has taken s → Offers s
  pub all : (s : Reach) → Offers s → Has taken s

-- the same with the ends that there may be
abbrev pub TakesAll : ℕ → ℕ → (Reach → Type 0) → List (Item Reach) → List (Item Reach) → Result (Unit {0}) SearchEnd → Type 0
TakesAll room most Offers old new (Ok _) = IsTakenAll room most Offers old new
TakesAll room most Offers old new (Err Limit) = IsFull room most Offers old
TakesAll room most Offers old new (Err NoMemory) = Unit {0}

-- no row has the length of one of these offers, if that is up to the most
abbrev pub AreFresh : ℕ → List (Item Reach) → (Reach → Type 0) → Type 0
AreFresh most rows Offers =
    (s : Reach) → Offers s → s.length ≤ most → (n : ℕ) (it : Item Reach) → slice_get rows n ≡ Some it → it.value.length ≢ s.length

-- those that wait: of the last round, or by their length
abbrev pub Waits : List Reach → List (Item Reach) → ℕ → Reach → Type 0
Waits near far key s = Has near s ⊎ IsListed far key s

-- ---- before a round

-- by which length an offer waits
abbrev pub key_if : Bool → ℕ → ℕ → ℕ
key_if true most length = suc most
key_if false most length = length

-- the number by which an offer of that length is listed
abbrev pub key_of : ℕ → ℕ → ℕ
key_of most length = key_if (nat_lt most length) most length

-- an offer that is listed by the number or by a later one
pub record IsWaiting (far : List (Item Reach)) (next : ℕ) (s : Reach) : Type 0 where
  pub n : ℕ
  pub it : Item Reach
  pub there : slice_get far n ≡ Some it
  pub later : next ≤ it.key
  pub value : it.value ≡ s

-- what holds of a listed offer
pub record IsFarItem (graph : FlowGraph) (most latest : ℕ) (entries : List (Item ℕ)) (it : Item Reach) : Type 0 where
  pub placed : IsPlaced graph entries it.value
  pub key : it.key ≡ key_of most it.value.length
  pub below : it.key ≤ latest

-- of each listed offer
abbrev pub AreFar : FlowGraph → ℕ → ℕ → List (Item ℕ) → List (Item Reach) → Type 0
AreFar graph most latest entries far = (n : ℕ) (it : Item Reach) → slice_get far n ≡ Some it → IsFarItem graph most latest entries it

-- jumps were listed by their lengths
pub record IsPutOff (most : ℕ) (jumps : List Reach) (old new : List (Item Reach)) : Type 0 where
  pub kept : (n : ℕ) (it : Item Reach) → slice_get old n ≡ Some it → slice_get new n ≡ Some it
  pub each : (n : ℕ) (it : Item Reach) → slice_get new n ≡ Some it
      → (slice_get old n ≡ Some it) ⊎ (Has jumps it.value × (it.key ≡ key_of most it.value.length))
  pub all : (s : Reach) → Has jumps s → (n : ℕ) × (it : Item Reach) × (slice_get new n ≡ Some it) × (it.value ≡ s) × (it.key ≡ key_of most s.length)

-- no key of theirs is past that one
abbrev pub AreBelow : ℕ → List (Item Reach) → Type 0
AreBelow latest far = (n : ℕ) (it : Item Reach) → slice_get far n ≡ Some it → it.key ≤ latest

-- the nodes of rows
abbrev pub nodes_in : List Row → List Node
nodes_in rows = map (λ r. r.node) rows

-- what holds before the round of a length
pub record IsBetween (graph : FlowGraph) (room most next latest : ℕ) (rows : List (Item Reach)) (book : Book) (near : List Reach) (far : List (Item Reach))
    : Type 0 where
  pub laid_out : IsLaidOut graph rows book (length rows)
  pub near_placed : (s : Reach) → Has near s → IsPlaced graph book.entries s
  pub near_long : (s : Reach) → Has near s → s.length ≡ next
  pub linked : AreLinked graph most book.entries rows
  pub offers_linked : (s : Reach) → Has near s ⊎ IsWaiting far next s → HasLink graph (rows_of book.entries rows) book.entries s
  pub far_right : AreFar graph most latest book.entries far
  pub short : (r : Row) → Has (rows_of book.entries rows) r → r.length < next
  pub ready : IsReady graph next (rows_of book.entries rows) (Stored book.entries (λ s. Has near s ⊎ IsWaiting far next s))
  -- what each link makes is shorter, or is offered with that link
  pub links : (up last : ℕ) (r : Row) → LinkedBy graph (rows_of book.entries rows) up last r
      → (r.length < next) ⊎ OfLink book.entries (λ s. Has near s ⊎ IsWaiting far next s) up last r
  pub once : IsOnce (nodes_in (rows_of book.entries rows))
  pub fits : length rows ≤ room

-- ---- past the most

-- what holds past the most, with the offers that are left
pub record IsPast (graph : FlowGraph) (room most : ℕ) (base : List Row) (rows : List (Item Reach)) (book : Book) (Offers : Reach → Type 0) : Type 0 where
  -- the rows with lengths
  pub built : Built graph base
  pub closed : Closed graph most base
  pub short : (r : Row) → Has base r → r.length ≤ most
  -- and those after them
  pub past : List Row
  pub split : rows_of book.entries rows ≡ base ++ past
  pub long : (r : Row) → Has past r → (r.length ≡ suc most) × (r.level ≡ suc most) × ¬ (Known base r.node)
  pub laid_out : IsLaidOut graph rows book (length rows)
  pub linked : AreLinked graph most book.entries rows
  pub placed : (s : Reach) → Offers s → IsPlaced graph book.entries s
  pub later : (s : Reach) → Offers s → most < s.length
  pub closing : IsClosing graph (length rows) (rows_of book.entries rows) (Stored book.entries Offers)
  pub once : IsOnce (nodes_in (rows_of book.entries rows))
  pub fits : length rows ≤ room

-- what an end of the search says
abbrev pub Stops : FlowGraph → ℕ → SearchEnd → Type 0
Stops graph room Limit = IsTooMany graph room
Stops graph room NoMemory = Unit {0}

-- what a step of the search comes to
abbrev pub Goes : FlowGraph → ℕ → Type 0 → Result (Unit {0}) SearchEnd → Type 0
Goes graph room Done (Ok _) = Done
Goes graph room Done (Err end) = Stops graph room end
