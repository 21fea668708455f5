-- What one stored row brings: its steps, the call that it enters, and the returns of calls (own).
--     step_on, step_in, step_back   the offers that are made
--     IsFit                         the numbers of a stored row are in range
--     Gathers items key Makes old new   what the items of a key make is put after the old offers
--     CallOffered, EndOffered       what becomes of the call that is entered, and of a call that ends
use Rattle.std.specs.Prelude.{◌≡◌, ◌<◌, ◌≤◌, ℕ, suc, ◌+◌, Bool, true, false, List, [], ◌∷◌, ◌++◌, length, slice_get, Option, Some, None}
use Rattle.hs_search.specs.Calling.{IsNumbered}
use Rattle.hs_search.specs.Graphs.{FlowGraph, Has}
use Rattle.hs_search.specs.Listing.{last_in}
use Rattle.hs_search.specs.Storing.{node_of}
use Rattle.hs_search.specs.declared.calls.Calls.{Calls}
use Rattle.hs_search.specs.declared.graph.Node.{Node}
use Rattle.hs_search.specs.declared.lists.Item.{Item}
use Rattle.hs_search.specs.declared.reach.Origin.{Origin}
use Rattle.hs_search.specs.declared.reach.Reach.{Reach}

-- ---- offers

-- a step
abbrev pub step_on : ℕ → Reach → Node → Reach
step_on up x y =
    record { fact = y.fact; at = y.at; call = x.call; length = suc x.length; level = suc x.level; origin = record { up = up; last = 0 } }

-- into a call of that number
abbrev pub step_in : ℕ → Reach → ℕ → Node → Reach
step_in up x call b = record { fact = b.fact; at = b.at; call = call; length = suc x.length; level = 0; origin = record { up = up; last = 0 } }

-- back to the caller
abbrev pub step_back : Origin → Reach → Reach → Node → Reach
step_back origin c e y = record {
  fact = y.fact;
  at = y.at;
  call = c.call;
  length = suc (suc (c.length + e.level));
  level = suc (suc (c.level + e.level));
  origin = origin;
}

-- the link of a return
abbrev pub origin_back : ℕ → ℕ → Origin
origin_back up last = record { up = up; last = last }

-- none or one, as a list
abbrev pub listed : {A : Type 0} → Option A → List A
listed None = []
listed (Some x) = x ∷ []

-- ---- what is asked of stored rows

-- the numbers of one stored row
pub record IsFit (count calls : ℕ) (reach : Reach) : Type 0 where
  pub at : reach.at < count
  pub call : reach.call < calls
  pub length : reach.length ≤ 1000001
  pub level : reach.level ≤ 1000001

-- of each stored row
abbrev pub AreFit : ℕ → ℕ → List (Item Reach) → Type 0
AreFit count calls rows = (n : ℕ) (it : Item Reach) → slice_get rows n ≡ Some it → IsFit count calls it.value

-- the items name rows
abbrev pub AreRows : List (Item Reach) → List (Item ℕ) → Type 0
AreRows rows items = (n : ℕ) (it : Item ℕ) → slice_get items n ≡ Some it → it.value < length rows

-- ---- returns

-- what a row makes as an end of the call
abbrev pub MakesEnd : FlowGraph → List (Item ℕ) → List (Item Reach) → Node → ℕ → Reach → ℕ → Reach → Type 0
MakesEnd graph entries rows caller up from row made =
    (e : Item Reach) × (y : Node) × (slice_get rows row ≡ Some e) × (graph.leaves caller (node_of entries e.value) ≡ Some y)
    × (step_back (origin_back up (suc row)) from e.value y ≡ made)

-- and as its caller
abbrev pub MakesCaller : FlowGraph → List (Item ℕ) → List (Item Reach) → Node → ℕ → Reach → ℕ → Reach → Type 0
MakesCaller graph entries rows last number end row made =
    (c : Item Reach) × (y : Node) × (slice_get rows row ≡ Some c) × (graph.leaves (node_of entries c.value) last ≡ Some y)
    × (step_back (origin_back (suc row) number) c.value end y ≡ made)

-- each item of the key makes its offers, and nothing else is offered
pub record Gathers (items : List (Item ℕ)) (key : ℕ) (Makes : ℕ → Reach → Type 0) (old new : List Reach) : Type 0 where
  pub added : List Reach
  pub more : new ≡ old ++ added
  pub each : (made : Reach) → Has added made → (n : ℕ) × (it : Item ℕ) × (slice_get items n ≡ Some it) × (it.key ≡ key) × Makes it.value made
  pub all : (n : ℕ) (it : Item ℕ) (made : Reach) → slice_get items n ≡ Some it → it.key ≡ key → Makes it.value made → Has added made

-- ---- the lists of calls

-- the three lists of `Calls`, as lists
pub record Book : Type 0 where
  -- how each call begins
  pub entries : List (Item ℕ)
  -- the rows that enter calls
  pub callers : List (Item ℕ)
  -- the rows at which calls may end
  pub ends : List (Item ℕ)

-- those of the code
abbrev pub book_of : Calls → Book
book_of calls = record { entries = calls.entries.items.items; callers = calls.callers.items.items; ends = calls.ends.items.items }

-- an item that the list gets
abbrev pub item_of : ℕ → ℕ → List (Item ℕ) → Item ℕ
item_of key value items = record { key = key; link = last_in key items; value = value }

-- the row of that number enters the call that begins with b
pub record IsEntering (graph : FlowGraph) (rows : List (Item Reach)) (n : ℕ) (node : Node) (from : Reach) (b : Node) (old new : Book)
    (near near' jumps jumps' : List Reach) : Type 0 where
  pub call : ℕ
  pub numbered : IsNumbered b call old.entries new.entries
  pub offered : near' ≡ near ++ step_in (suc n) from call b ∷ []
  pub caller : new.callers ≡ old.callers ++ item_of call n old.callers ∷ []
  pub ends : new.ends ≡ old.ends
  pub returns : Gathers old.ends call (MakesEnd graph new.entries rows node (suc n) from) jumps jumps'

-- what becomes of the call that is entered, if one is
abbrev pub CallOffered : FlowGraph → List (Item Reach) → ℕ → Node → Reach → Option Node → Book → Book → List Reach → List Reach → List Reach → List Reach
    → Type 0
CallOffered graph rows n node from None old new near near' jumps jumps' = (new ≡ old) × (near' ≡ near) × (jumps' ≡ jumps)
CallOffered graph rows n node from (Some b) old new near near' jumps jumps' = IsEntering graph rows n node from b old new near near' jumps jumps'

-- the call of the row of that number may end there
pub record IsEnding (graph : FlowGraph) (rows : List (Item Reach)) (n : ℕ) (node : Node) (from : Reach) (old new : Book)
    (jumps jumps' : List Reach) : Type 0 where
  pub entries : new.entries ≡ old.entries
  pub callers : new.callers ≡ old.callers
  pub end_ : new.ends ≡ old.ends ++ item_of from.call n old.ends ∷ []
  pub returns : Gathers old.callers from.call (MakesCaller graph old.entries rows node (suc n) from) jumps jumps'

-- what becomes of the call of the row, if it may end there
abbrev pub EndOffered : FlowGraph → List (Item Reach) → ℕ → Node → Reach → Bool → Book → Book → List Reach → List Reach → Type 0
EndOffered graph rows n node from false old new jumps jumps' = (new ≡ old) × (jumps' ≡ jumps)
EndOffered graph rows n node from true old new jumps jumps' = IsEnding graph rows n node from old new jumps jumps'
