-- Rows, and after them an offer to a node that has one of them: both chains are compared before one of them stays (own). Rows are counted from 1.
--     IsRival entries rows it       the offer is not the first row of a call, and has another link than the row of its node
--     IsJoined graph entries rows all   all are these rows, or these rows and such an offer
--     with_offer rows offer         these rows, and the offer after them if there is one
--     OfferFirst, RowFirst          which of the two chains comes first
--     Settles entries offer n old new   the row of that number stays, or the offer replaces it
--     size_of all n                 the length of the row of that number
--     place_of nodes x              the number of the node, or 0 if it is not in the list
--     base_of graph entries rows all n  the row with which the call of that row begins
use Rattle.std.specs.Prelude.{◌≡◌, ◌≢◌, ◌<◌, ◌≤◌, ◌⊎◌, ℕ, zero, suc, Bool, true, false, List, [], ◌∷◌, ◌++◌, Option, Some, None, length, slice_get, take}
use Rattle.hs_search.specs.Chains.{IsOnce}
use Rattle.hs_search.specs.Deciding.{Decides}
use Rattle.hs_search.specs.Graphs.{FlowGraph}
use Rattle.hs_search.specs.Judging.{Told}
use Rattle.hs_search.specs.Laws.Nodes.{same_node}
use Rattle.hs_search.specs.Layout.{IsPlaced}
use Rattle.hs_search.specs.Links.{HasLink}
use Rattle.hs_search.specs.Meeting.{AreLower}
use Rattle.hs_search.specs.Searching.{nodes_in}
use Rattle.hs_search.specs.Storing.{AllKnown, IsReplaced, node_of, rows_of}
use Rattle.hs_search.specs.declared.graph.Node.{Node}
use Rattle.hs_search.specs.declared.lists.Item.{Item}
use Rattle.hs_search.specs.declared.reach.Reach.{Reach}

-- an offer of another link
pub record IsRival (entries : List (Item ℕ)) (rows : List (Item Reach)) (it : Item Reach) : Type 0 where
  pub level : 0 < it.value.level
  pub other : (n : ℕ) (its : Item Reach) → slice_get rows n ≡ Some its → node_of entries its.value ≡ node_of entries it.value
      → its.value.origin ≢ it.value.origin

-- it comes last, if there is one
pub record IsJoined (graph : FlowGraph) (entries : List (Item ℕ)) (rows all : List (Item Reach)) : Type 0 where
  pub once : IsOnce (nodes_in (rows_of entries rows))
  pub placed : (n : ℕ) (it : Item Reach) → slice_get all n ≡ Some it → IsPlaced graph entries it.value
  pub linked : (n : ℕ) (it : Item Reach) → slice_get all n ≡ Some it → HasLink graph (take n (rows_of entries all)) entries it.value
  pub inside : (n : ℕ) (it : Item Reach) → slice_get all n ≡ Some it
      → (slice_get rows n ≡ Some it) ⊎ ((n ≡ length rows) × IsRival entries rows it)

-- ---- both chains

-- the offer as an item
abbrev pub offer_item : Reach → Item Reach
offer_item offer = record { key = offer.at; link = 0; value = offer }

abbrev pub with_offer : List (Item Reach) → Option Reach → List (Item Reach)
with_offer rows None = rows
with_offer rows (Some offer) = rows ++ offer_item offer ∷ []

-- the stored row at a place
abbrev pub IsReachAt : List (Item Reach) → ℕ → Reach → Type 0
IsReachAt all n reach = (it : Item Reach) × (slice_get all n ≡ Some it) × (it.value ≡ reach)

-- of two first rows of a call the chains of their callers are compared, and else those of the row of that number and of the offer
abbrev pub OfferFirst : ℕ → List (Item ℕ) → List (Item Reach) → Reach → ℕ → Reach → Type 0
OfferFirst zero entries rows offer n row = Told entries rows offer.origin.up row.origin.up
OfferFirst (suc level) entries rows offer n row = Told entries (with_offer rows (Some offer)) (suc (length rows)) (suc n)

abbrev pub RowFirst : ℕ → List (Item ℕ) → List (Item Reach) → Reach → ℕ → Reach → Type 0
RowFirst zero entries rows offer n row = Told entries rows row.origin.up offer.origin.up
RowFirst (suc level) entries rows offer n row = Told entries (with_offer rows (Some offer)) (suc n) (suc (length rows))

-- of the row of that number
abbrev pub OfferLeads : List (Item ℕ) → List (Item Reach) → Reach → ℕ → Type 0
OfferLeads entries rows offer n = (it : Item Reach) → slice_get rows n ≡ Some it → OfferFirst offer.level entries rows offer n it.value

-- it is told for certain
abbrev pub IsDecided : ℕ → List (Item ℕ) → List (Item Reach) → Reach → ℕ → Reach → Type 0
IsDecided zero entries rows offer n row = Decides entries rows offer.origin.up row.origin.up
IsDecided (suc level) entries rows offer n row = Decides entries (with_offer rows (Some offer)) (suc (length rows)) (suc n)

abbrev pub RowLeads : List (Item ℕ) → List (Item Reach) → Reach → ℕ → Type 0
RowLeads entries rows offer n =
    (it : Item Reach) → slice_get rows n ≡ Some it → IsDecided offer.level entries rows offer n it.value → RowFirst offer.level entries rows offer n it.value

-- what is asked of an offer that is compared
pub record IsOffered (entries : List (Item ℕ)) (rows : List (Item Reach)) (offer : Reach) : Type 0 where
  pub lower : AreLower rows
  pub known : AllKnown (length entries) rows
  pub call : offer.call < length entries
  pub up : offer.origin.up ≤ length rows
  pub last : offer.origin.last ≤ length rows
  -- rows of its length come after those that its link names
  pub after : (n : ℕ) (it : Item Reach) → slice_get rows n ≡ Some it → it.value.length ≡ offer.length → (offer.origin.up ≤ n) × (offer.origin.last ≤ n)

-- of each of these offers, whose lengths are up to the most
abbrev pub AreOffered : List (Item ℕ) → ℕ → List (Item Reach) → (Reach → Type 0) → Type 0
AreOffered entries most rows Offers = (s : Reach) → Offers s → IsOffered entries rows s × (s.length ≤ most)

-- the row stays: its chain has another length or the same link, or comes first
abbrev pub Stays : List (Item ℕ) → List (Item Reach) → Reach → ℕ → Reach → Type 0
Stays entries rows offer n row =
    (row.length ≢ offer.length) ⊎ (row.origin ≡ offer.origin)
    ⊎ (IsDecided offer.level entries rows offer n row → RowFirst offer.level entries rows offer n row)

-- or the offer comes first, and replaces it
abbrev pub Settles : List (Item ℕ) → Reach → ℕ → List (Item Reach) → List (Item Reach) → Type 0
Settles entries offer n old new =
    ((new ≡ old) × ((it : Item Reach) → slice_get old n ≡ Some it → Stays entries old offer n it.value))
    ⊎ ((is : IsReplaced offer n old new) × OfferFirst offer.level entries old offer n is.row.it.value)

-- ---- lengths and bases

abbrev pub length_in : Option (Item Reach) → ℕ
length_in None = 0
length_in (Some it) = it.value.length

-- there is none before the start
abbrev pub size_of : List (Item Reach) → ℕ → ℕ
size_of all zero = 0
size_of all (suc n) = length_in (slice_get all n)

-- the first one, or a later one
abbrev pub place_if : Bool → ℕ → ℕ
place_if true later = 1
place_if false zero = 0
place_if false (suc later) = suc (suc later)

abbrev pub place_of : List Node → Node → ℕ
place_of [] x = 0
place_of (y ∷ nodes) x = place_if (same_node y x) (place_of nodes x)

-- where the call of a row begins
abbrev pub base_in : FlowGraph → List (Item ℕ) → List (Item Reach) → Option (Item Reach) → ℕ
base_in graph entries rows None = 0
base_in graph entries rows (Some it) = place_of (nodes_in (rows_of entries rows)) (graph.entry (node_of entries it.value))

abbrev pub base_of : FlowGraph → List (Item ℕ) → List (Item Reach) → List (Item Reach) → ℕ → ℕ
base_of graph entries rows all zero = 0
base_of graph entries rows all (suc n) = base_in graph entries rows (slice_get all n)
