-- The search before its first round, and what its steps ask.
use Rattle.std.proofs.Common.{◌≡◌, ◌<◌, ◌≤◌, ◌⊎◌, ℕ, zero, suc, List, [], ◌∷◌, ◌++◌, inl, inr, refl, ap, sym, ◌∙◌, subst, arith, length, Err}
use Rattle.hs_search.proofs.Calling.{IsNumberedRight, node_made, numbered_right, placed_made}
use Rattle.hs_search.proofs.Expansions.{row_with}
use Rattle.hs_search.proofs.Passing.{between_full}
use Rattle.hs_search.proofs.Past.{past_full, past_next, past_two}
use Rattle.hs_search.proofs.Rounding.{ready_first, ready_same}
use Rattle.hs_search.proofs.Taking.{grown}
use Rattle.hs_search.specs.Bringing.{Book}
use Rattle.hs_search.specs.Calling.{IsNumbered}
use Rattle.hs_search.specs.Graphs.{FlowGraph, Has, IsFramed}
use Rattle.hs_search.specs.Layout.{IsCalls, IsLaidOut, IsPlaced}
use Rattle.hs_search.specs.Links.{HasLink, LinkedBy, OfLink}
use Rattle.hs_search.specs.Rounds.{Row, first_row}
use Rattle.hs_search.specs.Searching.{AreFresh, HasExpanded, IsBetween, IsPast, IsTakenAll, IsWaiting, Stops, Stored, TakesAll, Waits}
use Rattle.hs_search.specs.Storing.{AllListedBelow, call_at, row_of}
use Rattle.hs_search.specs.declared.graph.Node.{Node}
use Rattle.hs_search.specs.declared.lists.Item.{Item}
use Rattle.hs_search.specs.declared.reach.Reach.{Reach}
use Rattle.hs_search.specs.declared.reach.SearchEnd.{SearchEnd}
use Rattle.hs_search.specs.declared.reach.SearchEnd.TheVariants.{Limit, NoMemory}

-- ---- nothing is found yet

abbrev start_of : FlowGraph → ℕ → Reach
start_of graph call = record { fact = graph.start.fact; at = graph.start.at; call = call; length = 1; level = 0; origin = record { up = 0; last = 0 } }

abbrev book_with : List (Item ℕ) → Book
book_with entries = record { entries = entries; callers = []; ends = [] }

pub begun : (graph : FlowGraph) → IsFramed graph → (room most call latest : ℕ) (entries none : List (Item ℕ)) → none ≡ []
    → IsNumbered graph.start call none entries
    → IsBetween graph room most 1 latest [] (book_with entries) (start_of graph call ∷ []) []
begun graph framed room most call latest entries none is_none numbered = record {
  laid_out = record {
    calls = right.calls;
    keys = λ n it there. absurd cc;
    placed = λ n it there. absurd cc;
    small = λ n it there. absurd cc;
    caller = λ n it there. absurd cc;
    callers = λ n row b below there. absurd cc;
    end_ = λ n it there. absurd cc;
    ends = λ n row below there. absurd cc;
  };
  near_placed = λ s has. placed s has;
  near_long = λ s has. long s has;
  linked = λ n it there. absurd cc;
  offers_linked = λ s offered. link s offered;
  far_right = λ n it there. absurd cc;
  short = λ r has. absurd has;
  ready = ready_same graph 1 [] (λ o. first_row graph ≡ o) (Stored entries (λ s. Has (start_of graph call ∷ []) s ⊎ IsWaiting [] 1 s)) (ready_first graph)
      (λ o is. (start_of graph call, inl (inl refl), row_is ∙ is)) (λ o its. back o its.0 its.1 its.2);
  links = λ up last r is. links up last r is;
  once = tt;
  fits = omega arith;
}
  where
    no_calls : IsCalls graph []
    no_calls = record { own = λ n within. absurd (omega arith); once = λ n m within others same. absurd (omega arith) }

    right : IsNumberedRight graph graph.start call [] entries
    right = numbered_right graph framed graph.start call [] entries framed.at_start no_calls (subst
        (λ es. IsNumbered graph.start call es entries) is_none numbered)

    begins : graph.entry graph.start ≡ call_at entries call
    begins = framed.at_start ∙ sym right.begins

    its_placed : IsPlaced graph entries (start_of graph call)
    its_placed = placed_made graph framed entries (start_of graph call) graph.start refl refl begins right.known framed.start_within (omega arith)

    row_is : row_of entries (start_of graph call) ≡ first_row graph
    row_is = ap (λ (n : Node). row_with n 1 0) (node_made graph framed entries (start_of graph call) graph.start refl refl begins)

    placed : (s : Reach) → (start_of graph call ≡ s) ⊎ ⊥ → IsPlaced graph entries s
    placed s (inl is) = subst (IsPlaced graph entries) is its_placed
    placed s (inr no_more) = absurd no_more

    long : (s : Reach) → (start_of graph call ≡ s) ⊎ ⊥ → s.length ≡ 1
    long s (inl is) = ap (λ (r : Reach). r.length) (sym is)
    long s (inr no_more) = absurd no_more

    link : (s : Reach) → Has (start_of graph call ∷ []) s ⊎ IsWaiting [] 1 s → HasLink graph [] entries s
    link s (inl (inl is)) = subst (HasLink graph [] entries) is (sym row_is)
    link s (inl (inr no_more)) = absurd no_more
    link s (inr waiting) = absurd (let there = waiting.there in cc)

    links : (up last : ℕ) (r : Row) → LinkedBy graph [] up last r
        → (r.length < 1) ⊎ OfLink entries (λ s. Has (start_of graph call ∷ []) s ⊎ IsWaiting [] 1 s) up last r
    links zero zero r is = inr (start_of graph call, inl (inl refl), row_is ∙ is, refl, refl)
    links zero (suc last) r is = absurd is
    links (suc up) zero r is = absurd (let there = is.1 in cc)
    links (suc up) (suc last) r is = absurd (let there = is.2 in cc)

    back : (o : Row) (s : Reach) → Has (start_of graph call ∷ []) s ⊎ IsWaiting [] 1 s → row_of entries s ≡ o → first_row graph ≡ o
    back o s (inl (inl is)) row = sym row_is ∙ ap (row_of entries) is ∙ row
    back o s (inl (inr no_more)) row = absurd no_more
    back o s (inr waiting) row = absurd (let there = waiting.there in cc)

-- as the code has it
pub begun_as : (graph : FlowGraph) → IsFramed graph
    → (room most call latest : ℕ) (start : Node) (rows far : List (Item Reach)) (near old : List Reach) (book : Book)
    (none : List (Item ℕ)) → start ≡ graph.start → rows ≡ [] → far ≡ [] → book.callers ≡ [] → book.ends ≡ [] → none ≡ [] → old ≡ []
    → near ≡ old ++ (record { fact = start.fact; at = start.at; call = call; length = 1; level = 0; origin = record { up = 0; last = 0 } }) ∷ []
    → IsNumbered start call none book.entries
    → IsBetween graph room most 1 latest rows book near far
begun_as graph framed room most call latest start rows far near old book none start_is no_rows no_far no_callers no_ends is_none no_old near_is numbered =
    subst (λ rs. IsBetween graph room most 1 latest rs book near far) (sym no_rows) (
    subst (λ fs. IsBetween graph room most 1 latest [] book near fs) (sym no_far) (
    subst (λ ns. IsBetween graph room most 1 latest [] book ns []) (sym near_start) (
    subst (λ cs. IsBetween graph room most 1 latest [] (the_book cs book.ends) (start_of graph call ∷ []) []) (sym no_callers) (
    subst (λ es. IsBetween graph room most 1 latest [] (the_book [] es) (start_of graph call ∷ []) []) (sym no_ends)
    (begun graph framed room most call latest book.entries none is_none (subst (λ n. IsNumbered n call none book.entries) start_is numbered))))))
  where
    the_book : List (Item ℕ) → List (Item ℕ) → Book
    the_book callers ends = record { entries = book.entries; callers = callers; ends = ends }

    reach_at : Node → Reach
    reach_at n = record { fact = n.fact; at = n.at; call = call; length = 1; level = 0; origin = record { up = 0; last = 0 } }

    near_start : near ≡ start_of graph call ∷ []
    near_start = near_is ∙ ap (λ xs. xs ++ reach_at start ∷ []) no_old ∙ ap (λ n. reach_at n ∷ []) start_is

-- ---- offers that are taken

pub far_below : (graph : FlowGraph) (room most next latest : ℕ) (rows : List (Item Reach)) (book : Book) (near : List Reach) (far : List (Item Reach))
    (width : ℕ)
    → width ≡ graph.count → IsBetween graph room most next latest rows book near far → AllListedBelow width far
far_below graph room most next latest rows book near far width is between n it there =
    subst (λ w. it.value.at < w) (sym is) (between.far_right n it there).placed.within

pub laid_taken : (graph : FlowGraph) (room most : ℕ) (Offers : Reach → Type 0) (old mid : List (Item Reach)) (book : Book) → most ≤ 1000000
    → IsLaidOut graph old book (length old) → AreFresh most old Offers → ((s : Reach) → Offers s → IsPlaced graph book.entries s)
    → IsTakenAll room most Offers old mid → (length old ≤ length mid) × IsLaidOut graph mid book (length old)
laid_taken graph room most Offers old mid book short laid fresh placed taken =
    let its = grown graph room most book (length old) taken.taken old mid short (omega arith) laid (λ s has. placed s (taken.each s has))
    (λ s has. fresh s (taken.each s has)) taken.taking in
    (subst (λ xs. length old ≤ length xs) (sym its.more) (longer its.layer old), its.laid_out)
  where
    longer : (layer xs : List (Item Reach)) → length xs ≤ length (xs ++ layer)
    longer layer [] = omega arith
    longer layer (x ∷ xs) = let rest = longer layer xs in omega arith

pub waits_placed : (graph : FlowGraph) (room most next latest : ℕ) (rows : List (Item Reach)) (book : Book) (near : List Reach) (far : List (Item Reach))
    (key : ℕ)
    → IsBetween graph room most next latest rows book near far → (s : Reach) → Waits near far key s → IsPlaced graph book.entries s
waits_placed graph room most next latest rows book near far key between s (inl has) = between.near_placed s has
waits_placed graph room most next latest rows book near far key between s (inr listed) =
    subst (IsPlaced graph book.entries) listed.value (between.far_right listed.n listed.it listed.there).placed

-- an end of the round
pub round_end : (graph : FlowGraph) → IsFramed graph → (room most next latest : ℕ) (rows new : List (Item Reach)) (book : Book) (near : List Reach)
    (far : List (Item Reach)) (end : SearchEnd) → most ≤ 1000000 → IsBetween graph room most next latest rows book near far
    → TakesAll room most (Waits near far next) rows new (Err end) → Stops graph room end
round_end graph framed room most next latest rows new book near far Limit short between full =
    between_full graph framed room most next latest rows book near far short between full
round_end graph framed room most next latest rows new book near far NoMemory short between full = tt

pub past_end : (graph : FlowGraph) (room most : ℕ) (base : List Row) (rows new : List (Item Reach)) (book : Book) (Offers : Reach → Type 0)
    (end : SearchEnd) → most ≤ 1000000 → IsPast graph room most base rows book Offers → TakesAll room most Offers rows new (Err end)
    → Stops graph room end
past_end graph room most base rows new book Offers Limit short past full = past_full graph room most base rows book Offers short past full
past_end graph room most base rows new book Offers NoMemory short past full = tt

-- ---- a pass

-- as the code has it
pub pass_done : (graph : FlowGraph) → IsFramed graph → (room most : ℕ) (base : List Row) (old mid : List (Item Reach)) (book book' : Book)
    (Offers : Reach → Type 0) (first : ℕ) (near jumps : List Reach) → most ≤ 1000000 → IsPast graph room most base old book Offers
    → IsTakenAll room most Offers old mid → first ≡ length old → HasExpanded graph mid first (length mid) book book' near jumps
    → IsPast graph room most base mid book' (λ s. Has near s ⊎ Has jumps s)
pass_done graph framed room most base old mid book book' Offers first near jumps short past taken is expanded =
    past_two graph room most base mid book' near jumps
    (past_next graph framed room most base old mid book book' Offers near jumps short past taken
    (subst (λ n. HasExpanded graph mid n (length mid) book book' near jumps) is expanded))
