-- One row more: the node of an offer is known, or gets a row.
use Rattle.std.proofs.Common.{◌≡◌, ◌<◌, ◌≤◌, ℕ, zero, suc, Bool, true, false, nat_lt, List, [], ◌∷◌, ◌++◌, inl, inr, ◌⊎◌, refl, ap, sym, ◌∙◌, Some, subst, arith, length, slice_get, map}
use Rattle.std.proofs.lemmas.Bool.Decides.{nat_tests}
use Rattle.hs_search.proofs.Listing.{some_is, get_left, get_either}
use Rattle.hs_search.specs.Laws.Membership.{Has-either, Has-map, map-Has}
use Rattle.hs_search.specs.Laws.Nodes.{node_is}
use Rattle.hs_search.specs.Bringing.{Book}
use Rattle.hs_search.specs.Chains.{IsOnce}
use Rattle.hs_search.specs.Graphs.{FlowGraph, Has}
use Rattle.hs_search.specs.Layout.{IsLaidOut, IsPlaced}
use Rattle.hs_search.specs.Rounds.{Row, Known}
use Rattle.hs_search.specs.Searching.{nodes_in}
use Rattle.hs_search.specs.Storing.{HasRow, call_at, capped, capped_if, node_of, row_of, rows_of}
use Rattle.hs_search.specs.declared.graph.Node.{Node}
use Rattle.hs_search.specs.declared.lists.Item.{Item}
use Rattle.hs_search.specs.declared.reach.Reach.{Reach}

-- ---- rows of a node

pub get_of_Has : {A : Type 0} (xs : List A) (x : A) → Has xs x → (n : ℕ) × (slice_get xs n ≡ Some x)
get_of_Has [] x has = absurd has
get_of_Has (y ∷ xs) x (inl is) = (zero, ap (λ z. Some z) is)
get_of_Has (y ∷ xs) x (inr has) = let its = get_of_Has xs x has in (suc its.0, its.1)

pub get_Has : {A : Type 0} (xs : List A) (n : ℕ) (x : A) → slice_get xs n ≡ Some x → Has xs x
get_Has [] n x there = absurd cc
get_Has (y ∷ xs) zero x there = inl (some_is there)
get_Has (y ∷ xs) (suc n) x there = inr (get_Has xs n x there)

-- a stored row is the row of its node
pub known_of_row : (graph : FlowGraph) (rows : List (Item Reach)) (book : Book) (count : ℕ) → IsLaidOut graph rows book count → (s : Reach) → HasRow rows s
    → Known (rows_of book.entries rows) (node_of book.entries s)
known_of_row graph rows book count laid s has =
    let it = has.1.it in (
      row_of book.entries it.value,
      Has-map (λ (i : Item Reach). row_of book.entries i.value) rows it (get_Has rows has.0 it has.1.there),
      node_is (node_of book.entries it.value) (node_of book.entries s) (sym (laid.keys has.0 it has.1.there) ∙ has.1.at) has.1.fact
          (ap (λ c. (call_at book.entries c).entered) has.1.call),
    )

pub row_of_known : (graph : FlowGraph) (rows : List (Item Reach)) (book : Book) (count : ℕ) → IsLaidOut graph rows book count → (s : Reach)
    → IsPlaced graph book.entries s → Known (rows_of book.entries rows) (node_of book.entries s) → HasRow rows s
row_of_known graph rows book count laid s placed known =
    from (map-Has (λ (i : Item Reach). row_of book.entries i.value) rows known.0 known.1)
  where
    from : (it : Item Reach) × Has rows it × (row_of book.entries it.value ≡ known.0) → HasRow rows s
    from its =
        let at = get_of_Has rows its.0 its.1 in
        let same : node_of book.entries its.0.value ≡ node_of book.entries s = ap (λ (r : Row). r.node) its.2 ∙ known.2 in
        let its_placed = laid.placed at.0 its.0 at.1 in (
          at.0,
          record {
            it = its.0;
            there = at.1;
            at = laid.keys at.0 its.0 at.1 ∙ ap (λ (n : Node). n.at) same;
            fact = ap (λ (n : Node). n.fact) same;
            call = laid.calls.once its.0.value.call s.call its_placed.known placed.known (sym its_placed.entry ∙ ap graph.entry same ∙ placed.entry);
          },
        )

-- ---- lengths past the most

-- a test of length
pub past_or : (most : ℕ) (s : Reach) → ((most < s.length) × (capped most s ≡ capped_if true most s)) ⊎ ((s.length ≤ most) × (capped most s ≡ s))
past_or most s = step (nat_lt most s.length) refl
  where
    step : (test : Bool) → nat_lt most s.length ≡ test
        → ((most < s.length) × (capped most s ≡ capped_if true most s)) ⊎ ((s.length ≤ most) × (capped most s ≡ s))
    step true is = inl (grind (arith, nat_tests), ap (λ b. capped_if b most s) is)
    step false is = inr (grind (arith, nat_tests), ap (λ b. capped_if b most s) is)

-- the node stays
pub capped_node : (entries : List (Item ℕ)) (most : ℕ) (s : Reach) → node_of entries (capped most s) ≡ node_of entries s
capped_node entries most s = step (nat_lt most s.length)
  where
    step : (test : Bool) → node_of entries (capped_if test most s) ≡ node_of entries s
    step true = refl
    step false = refl

pub capped_placed : (graph : FlowGraph) (entries : List (Item ℕ)) (most : ℕ) (s : Reach) → IsPlaced graph entries s → IsPlaced graph entries (capped most s)
capped_placed graph entries most s placed = step (nat_lt most s.length)
  where
    step : (test : Bool) → IsPlaced graph entries (capped_if test most s)
    step true = record { known = placed.known; entry = placed.entry; within = placed.within; level = omega arith }
    step false = placed

pub capped_at : (most : ℕ) (s : Reach) → (capped most s).at ≡ s.at
capped_at most s = step (nat_lt most s.length)
  where
    step : (test : Bool) → (capped_if test most s).at ≡ s.at
    step true = refl
    step false = refl

pub capped_short : (most : ℕ) (s : Reach) → most ≤ 1000000 → (capped most s).length ≤ 1000001
capped_short most s short = from (past_or most s)
  where
    from : ((most < s.length) × (capped most s ≡ capped_if true most s)) ⊎ ((s.length ≤ most) × (capped most s ≡ s)) → (capped most s).length ≤ 1000001
    from (inl past) = subst (λ (r : Reach). r.length ≤ 1000001) (sym past.1) (let bound : suc most ≤ 1000001 = omega arith in bound)
    from (inr within) = subst (λ (r : Reach). r.length ≤ 1000001) (sym within.1) (let less = within.0 in omega arith)

-- ---- one row more

pub laid_more : (graph : FlowGraph) (rows : List (Item Reach)) (it : Item Reach) (book : Book) (count : ℕ) → count ≤ length rows
    → IsLaidOut graph rows book count
    → it.key ≡ it.value.at → IsPlaced graph book.entries it.value → it.value.length ≤ 1000001 → IsLaidOut graph (rows ++ it ∷ []) book count
laid_more graph rows it book count below laid key placed short = record {
  calls = laid.calls;
  keys = λ n its at. keys n its (get_either rows it n its at);
  placed = λ n its at. places n its (get_either rows it n its at);
  small = λ n its at. small n its (get_either rows it n its at);
  caller = λ n its at. let is = laid.caller n its at in
      record { row = is.row; there = get_left rows (it ∷ []) its.value is.row is.there; below = is.below; known = is.known; enters = is.enters };
  callers = λ n row b less at. laid.callers n row b less (inside n row less (get_either rows it n row at));
  end_ = λ n its at. let is = laid.end_ n its at in
      record { row = is.row; there = get_left rows (it ∷ []) its.value is.row is.there; below = is.below; call = is.call };
  ends = λ n row less at. laid.ends n row less (inside n row less (get_either rows it n row at));
}
  where
    keys : (n : ℕ) (its : Item Reach) → (slice_get rows n ≡ Some its) ⊎ ((n ≡ length rows) × (it ≡ its)) → its.key ≡ its.value.at
    keys n its (inl at) = laid.keys n its at
    keys n its (inr last) = subst (λ (i : Item Reach). i.key ≡ i.value.at) last.1 key

    places : (n : ℕ) (its : Item Reach) → (slice_get rows n ≡ Some its) ⊎ ((n ≡ length rows) × (it ≡ its)) → IsPlaced graph book.entries its.value
    places n its (inl at) = laid.placed n its at
    places n its (inr last) = subst (λ (i : Item Reach). IsPlaced graph book.entries i.value) last.1 placed

    small : (n : ℕ) (its : Item Reach) → (slice_get rows n ≡ Some its) ⊎ ((n ≡ length rows) × (it ≡ its)) → its.value.length ≤ 1000001
    small n its (inl at) = laid.small n its at
    small n its (inr last) = subst (λ (i : Item Reach). i.value.length ≤ 1000001) last.1 short

    inside : (n : ℕ) (row : Item Reach) → n < count → (slice_get rows n ≡ Some row) ⊎ ((n ≡ length rows) × (it ≡ row)) → slice_get rows n ≡ Some row
    inside n row less (inl at) = at
    inside n row less (inr last) = absurd (let is = last.0 in omega arith)

pub map_more : {A B : Type 0} (f : A → B) (xs ys : List A) → map f (xs ++ ys) ≡ map f xs ++ map f ys
map_more f [] ys = refl
map_more f (x ∷ xs) ys = ap (λ zs. f x ∷ zs) (map_more f xs ys)

pub rows_more : (entries : List (Item ℕ)) (rows layer : List (Item Reach)) → rows_of entries (rows ++ layer) ≡ rows_of entries rows ++ rows_of entries layer
rows_more entries rows layer = map_more (λ (it : Item Reach). row_of entries it.value) rows layer

pub nodes_more : (rows layer : List Row) → nodes_in (rows ++ layer) ≡ nodes_in rows ++ nodes_in layer
nodes_more rows layer = map_more (λ (r : Row). r.node) rows layer

-- a node more that is not in the list
pub once_more : (xs : List Node) (x : Node) → IsOnce xs → (¬ Has xs x) → IsOnce (xs ++ x ∷ [])
once_more [] x once other = ((λ wrong. wrong), tt)
once_more (y ∷ xs) x once other = ((λ has. here (Has-either xs (x ∷ []) y has)), once_more xs x once.1 (λ has. other (inr has)))
  where
    here : Has xs y ⊎ Has (x ∷ []) y → ⊥
    here (inl has) = once.0 has
    here (inr (inl is)) = other (inl (sym is))
    here (inr (inr no_more)) = no_more

pub unknown_node : (rows : List Row) (x : Node) → (¬ Known rows x) → ¬ Has (nodes_in rows) x
unknown_node rows x none has = let its = map-Has (λ (r : Row). r.node) rows x has in none (its.0, its.1, its.2)
