-- What the items of a key make is gathered by a walk.
use Rattle.std.proofs.Common.{◌≡◌, ◌<◌, ◌-◌, ℕ, suc, List, [], ◌++◌, inl, inr, ◌⊎◌, refl, ap, sym, ◌∙◌, Option, Some, None, option_map, arith, slice_get, append_assoc, append-nil}
use Rattle.hs_search.proofs.Listing.{some_is, walk_back, walk_own}
use Rattle.hs_search.specs.Laws.Membership.{Has-left, Has-right, Has-either}
use Rattle.hs_search.specs.Bringing.{Gathers, MakesCaller, MakesEnd, listed, origin_back, step_back}
use Rattle.hs_search.specs.Graphs.{FlowGraph, Has}
use Rattle.hs_search.specs.Listing.{IsIndex, IsWalk, Seen}
use Rattle.hs_search.specs.Storing.{node_of}
use Rattle.hs_search.specs.declared.graph.Node.{Node}
use Rattle.hs_search.specs.declared.lists.Item.{Item}
use Rattle.hs_search.specs.declared.reach.Origin.{Origin}
use Rattle.hs_search.specs.declared.reach.Reach.{Reach}

-- the items of the key from that place on have made theirs
pub record GathersFrom (items : List (Item ℕ)) (key : ℕ) (Makes : ℕ → Reach → Type 0) (at : ℕ) (old new : List Reach) : Type 0 where
  pub added : List Reach
  pub more : new ≡ old ++ added
  pub each : (made : Reach) → Has added made → (n : ℕ) × (it : Item ℕ) × (slice_get items n ≡ Some it) × (it.key ≡ key) × Makes it.value made
  pub seen : Seen items key at (λ n it. (made : Reach) → Makes it.value made → Has added made)

-- at first nothing is made
pub gathers_first : (items : List (Item ℕ)) (key : ℕ) (Makes : ℕ → Reach → Type 0) (at : ℕ) (old : List Reach)
    → Seen items key at (λ n it. (made : Reach) → Makes it.value made → Has [] made) → GathersFrom items key Makes at old old
gathers_first items key Makes at old seen = record { added = []; more = sym (append-nil old); each = λ made has. absurd has; seen = seen }

-- one item more
pub gathers_more : (heads : List ℕ) (items : List (Item ℕ)) (key : ℕ) (Makes : ℕ → Reach → Type 0) (at : ℕ) (it : Item ℕ) (old mid new made_here : List Reach)
    → IsIndex heads items → IsWalk items key at → GathersFrom items key Makes at old mid → 0 < at → slice_get items (at - 1) ≡ Some it
    → new ≡ mid ++ made_here → ((made : Reach) → Has made_here made → Makes it.value made) → ((made : Reach) → Makes it.value made → Has made_here made)
    → GathersFrom items key Makes it.link old new × IsWalk items key it.link × (it.link < at)
gathers_more heads items key Makes at it old mid new made_here right walk from some there is sound complete =
    let own = walk_own items key at it walk some there in
    let wider : Seen items key at (λ n it. (made : Reach) → Makes it.value made → Has (from.added ++ made_here) made) =
    (λ n its low at_its same made makes. Has-left from.added made_here made (from.seen n its low at_its same made makes)) in
    let all = walk_back heads items key at it (λ n it. (made : Reach) → Makes it.value made → Has (from.added ++ made_here) made) right walk wider some there
    (λ made makes. Has-right from.added made_here made (complete made makes)) in (
      record {
        added = from.added ++ made_here;
        more = is ∙ ap (λ rs. rs ++ made_here) from.more ∙ append_assoc old from.added made_here;
        each = λ made has. each made (Has-either from.added made_here made has) own;
        seen = all.1;
      },
      all.0,
      all.2,
    )
  where
    each : (made : Reach) → Has from.added made ⊎ Has made_here made → it.key ≡ key
        → (n : ℕ) × (it : Item ℕ) × (slice_get items n ≡ Some it) × (it.key ≡ key) × Makes it.value made
    each made (inl has) own = from.each made has
    each made (inr has) own = (at - 1, it, there, own, sound made has)

-- all have made theirs
pub gathers_all : (items : List (Item ℕ)) (key : ℕ) (Makes : ℕ → Reach → Type 0) (old new : List Reach) → GathersFrom items key Makes 0 old new
    → Gathers items key Makes old new
gathers_all items key Makes old new from = record {
  added = from.added;
  more = from.more;
  each = from.each;
  all = λ n it made there own makes. from.seen n it (omega arith) there own made makes;
}

-- ---- what one row makes

of_listed : (f : Node → Reach) (to : Option Node) (made : Reach) → Has (listed (option_map f to)) made → (y : Node) × (to ≡ Some y) × (f y ≡ made)
of_listed f None made has = absurd has
of_listed f (Some y) made (inl is) = (y, refl, is)
of_listed f (Some y) made (inr no_more) = absurd no_more

to_listed : (f : Node → Reach) (to : Option Node) (y : Node) (made : Reach) → to ≡ Some y → f y ≡ made → Has (listed (option_map f to)) made
to_listed f to y made is makes = rw is (inl makes)

pub end_sound : (graph : FlowGraph) (entries : List (Item ℕ)) (rows : List (Item Reach)) (caller : Node) (up : ℕ) (from : Reach) (row : ℕ) (e : Item Reach)
    → slice_get rows row ≡ Some e → (made : Reach) → Has (listed (option_map (step_back (origin_back up (suc row)) from e.value)
    (graph.leaves caller (node_of entries e.value)))) made
    → MakesEnd graph entries rows caller up from row made
end_sound graph entries rows caller up from row e there made has =
    let its = of_listed (step_back (origin_back up (suc row)) from e.value) (graph.leaves caller (node_of entries e.value)) made has in
    (e, its.0, there, its.1, its.2)

pub end_complete : (graph : FlowGraph) (entries : List (Item ℕ)) (rows : List (Item Reach)) (caller : Node) (up : ℕ) (from : Reach) (row : ℕ) (e : Item Reach)
    → slice_get rows row ≡ Some e → (made : Reach) → MakesEnd graph entries rows caller up from row made
    → Has (listed (option_map (step_back (origin_back up (suc row)) from e.value) (graph.leaves caller (node_of entries e.value)))) made
end_complete graph entries rows caller up from row e there made makes =
    let same : makes.0 ≡ e = some_is (sym makes.2 ∙ there) in
    to_listed (step_back (origin_back up (suc row)) from e.value) (graph.leaves caller (node_of entries e.value)) makes.1 made
    (ap (λ (it : Item Reach). graph.leaves caller (node_of entries it.value)) (sym same) ∙ makes.3)
    (ap (λ (it : Item Reach). step_back (origin_back up (suc row)) from it.value makes.1) (sym same) ∙ makes.4)

pub caller_sound : (graph : FlowGraph) (entries : List (Item ℕ)) (rows : List (Item Reach)) (last : Node) (number : ℕ) (end_ : Reach) (row : ℕ) (c : Item Reach)
    → slice_get rows row ≡ Some c → (made : Reach) → Has (listed (option_map (step_back (origin_back (suc row) number) c.value end_)
    (graph.leaves (node_of entries c.value) last))) made
    → MakesCaller graph entries rows last number end_ row made
caller_sound graph entries rows last number end_ row c there made has =
    let its = of_listed (step_back (origin_back (suc row) number) c.value end_) (graph.leaves (node_of entries c.value) last) made has in
    (c, its.0, there, its.1, its.2)

pub caller_complete : (graph : FlowGraph) (entries : List (Item ℕ)) (rows : List (Item Reach)) (last : Node) (number : ℕ) (end_ : Reach) (row : ℕ)
    (c : Item Reach)
    → slice_get rows row ≡ Some c → (made : Reach) → MakesCaller graph entries rows last number end_ row made
    → Has (listed (option_map (step_back (origin_back (suc row) number) c.value end_) (graph.leaves (node_of entries c.value) last))) made
caller_complete graph entries rows last number end_ row c there made makes =
    let same : makes.0 ≡ c = some_is (sym makes.2 ∙ there) in
    to_listed (step_back (origin_back (suc row) number) c.value end_) (graph.leaves (node_of entries c.value) last) makes.1 made
    (ap (λ (it : Item Reach). graph.leaves (node_of entries it.value) last) (sym same) ∙ makes.3)
    (ap (λ (it : Item Reach). step_back (origin_back (suc row) number) it.value end_ makes.1) (sym same) ∙ makes.4)

-- ---- one turn of a walk

pub gathers_end : (graph : FlowGraph) (entries : List (Item ℕ)) (rows : List (Item Reach)) (caller : Node) (up : ℕ) (from : Reach) (heads : List ℕ)
    (items : List (Item ℕ)) (key at : ℕ) (it : Item ℕ) (e : Item Reach) (last : Node) (origin : Origin) (old mid new : List Reach) → IsIndex heads items
    → IsWalk items key at
    → GathersFrom items key (MakesEnd graph entries rows caller up from) at old mid → 0 < at → slice_get items (at - 1) ≡ Some it
    → slice_get rows it.value ≡ Some e → last ≡ node_of entries e.value → origin ≡ origin_back up (suc it.value)
    → new ≡ mid ++ listed (option_map (step_back origin from e.value) (graph.leaves caller last))
    → GathersFrom items key (MakesEnd graph entries rows caller up from) it.link old new × IsWalk items key it.link × (it.link < at)
gathers_end graph entries rows caller up from heads items key at it e last origin old mid new right walk gathers some there at_row is origin_is more =
    gathers_more heads items key (MakesEnd graph entries rows caller up from) at it old mid new
    (listed (option_map (step_back (origin_back up (suc it.value)) from e.value) (graph.leaves caller (node_of entries e.value)))) right walk gathers some there
    (more ∙ ap (λ o. mid ++ listed (option_map (step_back o from e.value) (graph.leaves caller last))) origin_is
    ∙ ap (λ n. mid ++ listed (option_map (step_back (origin_back up (suc it.value)) from e.value) (graph.leaves caller n))) is)
    (end_sound graph entries rows caller up from it.value e at_row) (end_complete graph entries rows caller up from it.value e at_row)

pub gathers_caller : (graph : FlowGraph) (entries : List (Item ℕ)) (rows : List (Item Reach)) (last : Node) (number : ℕ) (end_ : Reach) (heads : List ℕ)
    (items : List (Item ℕ)) (key at : ℕ) (it : Item ℕ) (c : Item Reach) (caller : Node) (origin : Origin) (old mid new : List Reach) → IsIndex heads items
    → IsWalk items key at
    → GathersFrom items key (MakesCaller graph entries rows last number end_) at old mid → 0 < at → slice_get items (at - 1) ≡ Some it
    → slice_get rows it.value ≡ Some c → caller ≡ node_of entries c.value → origin ≡ origin_back (suc it.value) number
    → new ≡ mid ++ listed (option_map (step_back origin c.value end_) (graph.leaves caller last))
    → GathersFrom items key (MakesCaller graph entries rows last number end_) it.link old new × IsWalk items key it.link × (it.link < at)
gathers_caller graph entries rows last number end_ heads items key at it c caller origin old mid new right walk gathers some there at_row is origin_is more =
    gathers_more heads items key (MakesCaller graph entries rows last number end_) at it old mid new
    (listed (option_map (step_back (origin_back (suc it.value) number) c.value end_) (graph.leaves (node_of entries c.value) last))) right walk gathers some
    there
    (more ∙ ap (λ o. mid ++ listed (option_map (step_back o c.value end_) (graph.leaves caller last))) origin_is
    ∙ ap (λ n. mid ++ listed (option_map (step_back (origin_back (suc it.value) number) c.value end_) (graph.leaves n last))) is)
    (caller_sound graph entries rows last number end_ it.value c at_row) (caller_complete graph entries rows last number end_ it.value c at_row)
