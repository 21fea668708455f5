-- What a row offers is what the graph says, as it is stored.
use Rattle.std.proofs.Common.{◌≡◌, ◌<◌, ℕ, zero, suc, List, [], ◌∷◌, ◌++◌, inl, inr, refl, ap, sym, ◌∙◌, Some, arith, length, slice_get, take, map}
use Rattle.hs_search.proofs.Calling.{node_made, placed_made}
use Rattle.hs_search.proofs.Listing.{some_is, get_left, get_end}
use Rattle.hs_search.specs.Bringing.{step_back, step_in, step_on}
use Rattle.hs_search.specs.Graphs.{FlowGraph, Has, IsFramed}
use Rattle.hs_search.specs.Layout.{IsItem, IsPlaced}
use Rattle.hs_search.specs.Rounds.{Row, entered_by, returned, stepped}
use Rattle.hs_search.specs.Storing.{call_at, node_of, row_of, rows_of}
use Rattle.hs_search.specs.declared.graph.Node.{Node}
use Rattle.hs_search.specs.declared.lists.Item.{Item}
use Rattle.hs_search.specs.declared.reach.Origin.{Origin}
use Rattle.hs_search.specs.declared.reach.Reach.{Reach}

-- ---- what is offered is placed, and its row is what the graph says

abbrev row_with : Node → ℕ → ℕ → Row
row_with node length level = record { node = node; length = length; level = level }

abbrev pub IsMade : FlowGraph → List (Item ℕ) → Reach → Row → Type 0
IsMade graph entries made row = IsPlaced graph entries made × (row_of entries made ≡ row)

pub row_is : (a b : Node) (n m : ℕ) → a ≡ b → row_with a n m ≡ row_with b n m
row_is a b n m same = ap (λ (x : Node). row_with x n m) same

pub on_step : (graph : FlowGraph) → IsFramed graph → (entries : List (Item ℕ)) (up : ℕ) (from : Reach) (y : Node) → IsPlaced graph entries from
    → Has (graph.steps (node_of entries from)) y → IsMade graph entries (step_on up from y) (stepped (row_of entries from) y)
on_step graph framed entries up from y placed step =
    let entry : graph.entry y ≡ call_at entries from.call = framed.by_step (node_of entries from) y step ∙ placed.entry in (
      placed_made graph framed entries (step_on up from y) y refl refl entry placed.known (framed.step_within (node_of entries from) y step)
          (let less = placed.level in omega arith),
      row_is (node_of entries (step_on up from y)) y (suc from.length) (suc from.level) (node_made graph framed entries (step_on up from y) y refl refl entry),
    )

pub in_call : (graph : FlowGraph) → IsFramed graph → (entries : List (Item ℕ)) (up : ℕ) (from : Reach) (call : ℕ) (b : Node)
    → graph.enters (node_of entries from) ≡ Some b
    → call < length entries → call_at entries call ≡ b → IsMade graph entries (step_in up from call b) (entered_by (row_of entries from) b)
in_call graph framed entries up from call b enter known begins =
    let entry : graph.entry b ≡ call_at entries call = framed.by_call (node_of entries from) b enter ∙ sym begins in (
      placed_made graph framed entries (step_in up from call b) b refl refl entry known (framed.call_within (node_of entries from) b enter) (omega arith),
      row_is (node_of entries (step_in up from call b)) b (suc from.length) 0 (node_made graph framed entries (step_in up from call b) b refl refl entry),
    )

pub on_return : (graph : FlowGraph) → IsFramed graph → (entries : List (Item ℕ)) (origin : Origin) (c e : Reach) (y : Node) → IsPlaced graph entries c
    → graph.leaves (node_of entries c) (node_of entries e) ≡ Some y
    → IsMade graph entries (step_back origin c e y) (returned (row_of entries c) (row_of entries e) y)
on_return graph framed entries origin c e y placed leave =
    let entry : graph.entry y ≡ call_at entries c.call = framed.by_return (node_of entries c) (node_of entries e) y leave ∙ placed.entry in (
      placed_made graph framed entries (step_back origin c e y) y refl refl entry placed.known
          (framed.return_within (node_of entries c) (node_of entries e) y leave)
          (let less = placed.level in omega arith),
      row_is (node_of entries (step_back origin c e y)) y _ _ (node_made graph framed entries (step_back origin c e y) y refl refl entry),
    )

-- ---- the rows so far

module _ {A B : Type 0} where
  take_map_has : (f : A → B) (xs : List A) (n k : ℕ) (x : A) → slice_get xs k ≡ Some x → k < n → Has (take n (map f xs)) (f x)
  take_map_has f [] n k x there below = absurd cc
  take_map_has f (y ∷ xs) zero k x there below = absurd (omega arith)
  take_map_has f (y ∷ xs) (suc n) zero x there below = inl (ap f (some_is there))
  take_map_has f (y ∷ xs) (suc n) (suc k) x there below = inr (take_map_has f xs n k x there (omega arith))

  take_map_of : (f : A → B) (xs : List A) (n : ℕ) (y : B) → Has (take n (map f xs)) y → (k : ℕ) × (x : A) × (k < n) × (slice_get xs k ≡ Some x) × (f x ≡ y)
  take_map_of f xs zero y has = absurd has
  take_map_of f [] (suc n) y has = absurd has
  take_map_of f (x ∷ xs) (suc n) y (inl is) = (zero, x, omega arith, refl, is)
  take_map_of f (x ∷ xs) (suc n) y (inr has) =
      let its = take_map_of f xs n y has in (suc its.0, its.1, (let below = its.2 in omega arith), its.3, its.4)

abbrev pub Done : List (Item ℕ) → List (Item Reach) → ℕ → List Row
Done entries rows number = take (suc number) (rows_of entries rows)

pub done_has : (entries : List (Item ℕ)) (rows : List (Item Reach)) (number k : ℕ) (x : Item Reach) → slice_get rows k ≡ Some x → k < suc number
    → Has (Done entries rows number) (row_of entries x.value)
done_has entries rows number k x there below = take_map_has (λ (it : Item Reach). row_of entries it.value) rows (suc number) k x there below

pub done_of : (entries : List (Item ℕ)) (rows : List (Item Reach)) (number : ℕ) (r : Row) → Has (Done entries rows number) r
    → (k : ℕ) × (x : Item Reach) × (k < suc number) × (slice_get rows k ≡ Some x) × (row_of entries x.value ≡ r)
done_of entries rows number r has = take_map_of (λ (it : Item Reach). row_of entries it.value) rows (suc number) r has

-- ---- an item more in a list

pub item_more : (items : List (Item ℕ)) (it : Item ℕ) (row : ℕ) (Key : ℕ → Type 0) → IsItem items row Key → IsItem (items ++ it ∷ []) row Key
item_more items it row Key has = record {
  n = has.n;
  it = has.it;
  there = get_left items (it ∷ []) has.n has.it has.there;
  value = has.value;
  key = has.key;
}

pub item_last : (items : List (Item ℕ)) (it : Item ℕ) (Key : ℕ → Type 0) → Key it.key → IsItem (items ++ it ∷ []) it.value Key
item_last items it Key key = record { n = length items; it = it; there = get_end items it; value = refl; key = key }
