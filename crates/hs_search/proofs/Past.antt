-- Past the most: passes over what is left, and what the whole search has found.
use Rattle.std.proofs.Common.{◌≡◌, ◌<◌, ◌≤◌, ℕ, suc, List, [], ◌∷◌, ◌++◌, inl, inr, ◌⊎◌, refl, ap, sym, ◌∙◌, Some, subst, arith, length, slice_get, append_assoc, append-nil, true}
use Rattle.std.proofs.lemmas.Bool.{cases_order}
use Rattle.hs_search.proofs.Closing.{closing_brought, closing_done, closing_first, closing_taken, reached_within}
use Rattle.hs_search.specs.Laws.Exactness.{known_within, shortest_row}
use Rattle.hs_search.proofs.Expansions.{rows_kept}
use Rattle.hs_search.proofs.Linking.{linked_next}
use Rattle.hs_search.specs.Laws.Membership.{Has-left, Has-right, Has-either, map-Has, Has-map}
use Rattle.hs_search.proofs.Passing.{rows_long}
use Rattle.hs_search.proofs.PuttingOff.{key_or}
use Rattle.hs_search.proofs.Rounding.{behind, ready_closed}
use Rattle.hs_search.proofs.Adding.{capped_node, past_or, rows_more}
use Rattle.hs_search.proofs.Taking.{IsGrown, grown, too_many}
use Rattle.hs_search.specs.Bringing.{Book}
use Rattle.hs_search.specs.Chains.{IsFound, IsLength, IsOnce, IsReached, IsTooMany, Reaches, nodes_of}
use Rattle.hs_search.specs.Finding.{pair_of, pairs_in}
use Rattle.hs_search.specs.Graphs.{FlowGraph, Has, IsFramed}
use Rattle.hs_search.specs.Layout.{IsPlaced}
use Rattle.hs_search.specs.Rounds.{Row, AllBrought, BroughtBy, by_step, by_call, as_caller, as_end, IsClosing, Known}
use Rattle.hs_search.specs.Searching.{AreFresh, HasExpanded, IsBetween, IsPast, IsTakenAll, IsWaiting, Stored, Waits, key_of, nodes_in}
use Rattle.hs_search.specs.Storing.{IsFull, capped, capped_if, node_of, row_of, rows_of}
use Rattle.hs_search.specs.declared.found.Pair.{Pair}
use Rattle.hs_search.specs.declared.graph.Node.{Node}
use Rattle.hs_search.specs.declared.lists.Item.{Item}
use Rattle.hs_search.specs.declared.reach.Reach.{Reach}

-- the offers may be said in another way
closing_same : (graph : FlowGraph) (count : ℕ) (rows : List Row) (Offers Others : Row → Type 0) → IsClosing graph count rows Offers
    → ((o : Row) → Offers o → Others o) → ((o : Row) → Others o → Offers o) → IsClosing graph count rows Others
closing_same graph count rows Offers Others closing there back = record {
  within = closing.within;
  sound = λ o is. closing.sound o (back o is);
  complete = λ o candidate. step o (closing.complete o candidate);
}
  where
    step : (o : Row) → Known rows o.node ⊎ Offers o → Known rows o.node ⊎ Others o
    step o (inl known) = inl known
    step o (inr is) = inr (there o is)

-- ---- the rounds have ended

pub past_first : (graph : FlowGraph) → IsFramed graph → (room most next latest : ℕ) (rows : List (Item Reach)) (book : Book) (near : List Reach)
    (far : List (Item Reach)) → IsBetween graph room most next latest rows book near far → (next ≡ suc most) ⊎ ((next ≤ most) × (near ≡ []) × (latest < next))
    → IsPast graph room most (rows_of book.entries rows) rows book (Waits near far (suc most))
past_first graph framed room most next latest rows book near far between ended = record {
  built = between.ready.built;
  closed = ready_closed graph most next (rows_of book.entries rows) (Stored book.entries (λ s. Has near s ⊎ IsWaiting far next s)) between.ready
      (λ o its. subst (λ (r : Row). most < r.length) its.2 (long its.0 (there_one its.0 its.1 ended)));
  short = λ r has. short r has ended;
  past = [];
  split = sym (append-nil (rows_of book.entries rows));
  long = λ r has. absurd has;
  laid_out = between.laid_out;
  linked = between.linked;
  placed = λ s waits. placed s waits;
  later = λ s waits. long s waits;
  closing = subst (λ n. IsClosing graph n (rows_of book.entries rows) (Stored book.entries (Waits near far (suc most)))) (rows_long book.entries rows)
      (closing_same graph (length (rows_of book.entries rows)) (rows_of book.entries rows) (Stored book.entries (λ s. Has near s ⊎ IsWaiting far next s))
      (Stored book.entries (Waits near far (suc most)))
      (closing_first graph framed next (rows_of book.entries rows) (Stored book.entries (λ s. Has near s ⊎ IsWaiting far next s)) between.ready)
      (λ o its. (its.0, there_one its.0 its.1 ended, its.2)) (λ o its. (its.0, back_one its.0 its.1, its.2)));
  once = between.once;
  fits = between.fits;
}
  where
    key_below : (n : ℕ) (it : Item Reach) → slice_get far n ≡ Some it → it.key ≤ suc most
    key_below n it at = step (between.far_right n it at).key (key_or most it.value.length)
      where
        step : it.key ≡ key_of most it.value.length
            → ((most < it.value.length) × (key_of most it.value.length ≡ suc most)) ⊎ ((it.value.length ≤ most)
            × (key_of most it.value.length ≡ it.value.length))
            → it.key ≤ suc most
        step key (inl past) = let is = past.1 in omega arith
        step key (inr within) = let is = within.1 in let less = within.0 in omega arith

    there_one : (s : Reach) → Has near s ⊎ IsWaiting far next s → (next ≡ suc most) ⊎ ((next ≤ most) × (near ≡ []) × (latest < next))
        → Waits near far (suc most) s
    there_one s (inl has) how = inl has
    there_one s (inr w) (inl same) =
        inr (record { n = w.n; it = w.it; there = w.there; own = (let low = w.later in let high = key_below w.n w.it w.there in omega arith); value = w.value })
    there_one s (inr w) (inr early) =
        absurd (let low = w.later in let high = (between.far_right w.n w.it w.there).below in let less = early.2 in omega arith)

    back_one : (s : Reach) → Waits near far (suc most) s → Has near s ⊎ IsWaiting far next s
    back_one s (inl has) = inl has
    back_one s (inr listed) = inr (record {
      n = listed.n;
      it = listed.it;
      there = listed.there;
      later = low ended;
      value = listed.value;
    })
      where
        low : (next ≡ suc most) ⊎ ((next ≤ most) × (near ≡ []) × (latest < next)) → next ≤ listed.it.key
        low (inl same) = let own = listed.own in omega arith
        low (inr early) = let own = listed.own in let less = early.0 in omega arith

    placed : (s : Reach) → Waits near far (suc most) s → IsPlaced graph book.entries s
    placed s (inl has) = between.near_placed s has
    placed s (inr listed) = subst (IsPlaced graph book.entries) listed.value (between.far_right listed.n listed.it listed.there).placed

    near_far : (s : Reach) → Has near s → (next ≡ suc most) ⊎ ((next ≤ most) × (near ≡ []) × (latest < next)) → most < s.length
    near_far s has (inl same) = let long = between.near_long s has in omega arith
    near_far s has (inr early) = absurd (subst (λ xs. Has xs s) early.1 has)

    long : (s : Reach) → Waits near far (suc most) s → most < s.length
    long s (inl has) = near_far s has ended
    long s (inr listed) = step (sym ((between.far_right listed.n listed.it listed.there).key ∙ ap (λ
        (r : Reach). key_of most r.length) listed.value) ∙ listed.own)
        (key_or most s.length)
      where
        step : key_of most s.length ≡ suc most → ((most < s.length) × (key_of most s.length ≡ suc most)) ⊎ ((s.length ≤ most)
            × (key_of most s.length ≡ s.length))
            → most < s.length
        step key (inl past) = past.0
        step key (inr within) = absurd (let is = within.1 in let less = within.0 in omega arith)

    short : (r : Row) → Has (rows_of book.entries rows) r → (next ≡ suc most) ⊎ ((next ≤ most) × (near ≡ []) × (latest < next)) → r.length ≤ most
    short r has (inl same) = let less = between.short r has in omega arith
    short r has (inr early) = let less = between.short r has in let low = early.0 in omega arith

-- ---- a pass

-- what such a row brings is longer than the most
brought_past : (graph : FlowGraph) (rows : List Row) (most : ℕ) (x o : Row) → x.length ≡ suc most → x.level ≡ suc most → BroughtBy graph rows x o
    → most < o.length
brought_past graph rows most x _ long level (by_step y step) = omega arith
brought_past graph rows most x _ long level (by_call b enter) = omega arith
brought_past graph rows most x _ long level (as_caller e y has enter leave) = omega arith
brought_past graph rows most x _ long level (as_end c y has enter leave) = omega arith

-- the offers are longer than the most
pub past_fresh : (graph : FlowGraph) (room most : ℕ) (base : List Row) (rows : List (Item Reach)) (book : Book) (Offers : Reach → Type 0)
    → IsPast graph room most base rows book Offers → AreFresh most rows Offers
past_fresh graph room most base rows book Offers past s offered short = absurd (let long = past.later s offered in omega arith)

module _ (graph : FlowGraph) (framed : IsFramed graph) (room most : ℕ) (base : List Row) (old mid : List (Item Reach)) (book book' : Book)
    (Offers : Reach → Type 0) (near' jumps : List Reach) (short : most ≤ 1000000) (before : IsPast graph room most base old book Offers)
    (taken : IsTakenAll room most Offers old mid) where
  grows_to : IsGrown graph room most book (length old) taken.taken old mid
  grows_to =
      grown graph room most book (length old) taken.taken old mid short (omega arith) before.laid_out (λ s has. before.placed s (taken.each s has))
      (λ s has. past_fresh graph room most base old book Offers before s (taken.each s has)) taken.taking

  mid_is : rows_of book.entries mid ≡ rows_of book.entries old ++ rows_of book.entries grows_to.layer
  mid_is = ap (rows_of book.entries) grows_to.more ∙ rows_more book.entries old grows_to.layer

  capped_past : (s : Reach) → most < s.length → capped most s ≡ capped_if true most s
  capped_past s long = step (past_or most s)
    where
      step : ((most < s.length) × (capped most s ≡ capped_if true most s)) ⊎ ((s.length ≤ most) × (capped most s ≡ s)) → capped most s ≡ capped_if true most s
      step (inl past) = past.1
      step (inr within) = absurd (let less = within.0 in omega arith)

  layer_of : (r : Row) → Has (rows_of book.entries grows_to.layer) r → (r.length ≡ suc most) × (r.level ≡ suc most) × ¬ (Known base r.node)
  layer_of r has =
      let its = grows_to.each r has in
      let is : row_of book.entries (capped_if true most its.0) ≡ r =
      ap (row_of book.entries) (sym (capped_past its.0 (before.later its.0 (taken.each its.0 its.1)))) ∙ its.2 in (
        ap (λ (x : Row). x.length) (sym is),
        ap (λ (x : Row). x.level) (sym is),
        (λ known. its.3 (known.0, subst (λ rs. Has rs known.0) (sym before.split) (Has-left base before.past known.0 known.1), known.2)),
      )

  layer_past : (it : Item Reach) → Has grows_to.layer it → it.value.length ≤ most → ⊥
  layer_past it has within =
      let its = grows_to.values it has in
      let long = ap (λ (r : Reach). r.length) (its.2 ∙ capped_past its.0 (before.later its.0 (taken.each its.0 its.1))) in
      omega arith

  closing_mid : IsClosing graph (length old) (rows_of book.entries old ++ rows_of book.entries grows_to.layer) (λ o. ⊥)
  closing_mid =
      closing_taken graph (length old) (rows_of book.entries old) (rows_of book.entries grows_to.layer) (Stored book.entries Offers)
      (subst (λ n. length old ≤ n) (sym (rows_long book.entries old)) (omega arith)) before.closing known each
    where
      known : (o : Row) → Stored book.entries Offers o → Known (rows_of book.entries old ++ rows_of book.entries grows_to.layer) o.node
      known o its =
          let row = grows_to.known its.0 (taken.all its.0 its.1) in
          subst (λ rs. Known rs o.node) mid_is (row.0, row.1, row.2 ∙ ap (λ (r : Row). r.node) its.2)

      each : (r : Row) → Has (rows_of book.entries grows_to.layer) r → (o : Row) × Stored book.entries Offers o × (o.node ≡ r.node)
      each r has =
          let its = grows_to.each r has in (
            row_of book.entries its.0,
            (its.0, taken.each its.0 its.1, refl),
            sym (capped_node book.entries most its.0) ∙ ap (λ (x : Row). x.node) its.2,
          )

  pub past_next : HasExpanded graph mid (length old) (length mid) book book' near' jumps → IsPast graph room most base mid book' (Has (near' ++ jumps))
  past_next expanded = record {
    built = before.built;
    closed = before.closed;
    short = before.short;
    past = before.past ++ rows_of book.entries grows_to.layer;
    split = rows_same ∙ mid_is ∙ ap (λ rs. rs ++ rows_of book.entries grows_to.layer) before.split
        ∙ append_assoc base before.past (rows_of book.entries grows_to.layer);
    long = λ r has. long r (Has-either before.past (rows_of book.entries grows_to.layer) r has);
    laid_out = expanded.laid_out;
    linked = linked_next graph most book.entries book'.entries old mid grows_to.layer grows_to.more expanded.grows grows_to.laid_out.placed before.linked
        (λ it has within. absurd (layer_past it has within));
    placed = expanded.placed;
    later = λ s has. later s (expanded.all.from (row_of book'.entries s) (s, has, refl));
    closing = subst (λ n. IsClosing graph n (rows_of book'.entries mid) (Stored book'.entries (Has (near' ++ jumps)))) (rows_long book'.entries mid)
        (closing_brought graph framed (length old) (rows_of book'.entries mid) (Stored book'.entries (Has (near' ++ jumps))) count_below
        (subst (λ rs. IsClosing graph (length old) rs (λ o. ⊥)) (sym (rows_same ∙ mid_is)) closing_mid)
        (subst (λ n. AllBrought graph (rows_of book'.entries mid) (length old) n (Stored book'.entries (Has (near' ++ jumps))))
        (sym (rows_long book'.entries mid)) expanded.all));
    once = subst (λ rs. IsOnce (nodes_in rs)) (sym rows_same) (grows_to.once before.once);
    fits = grows_to.fits before.fits;
  }
    where
      rows_same : rows_of book'.entries mid ≡ rows_of book.entries mid
      rows_same = rows_kept graph book.entries book'.entries expanded.grows mid grows_to.laid_out.placed

      count_below : length old ≤ length (rows_of book'.entries mid)
      count_below =
          subst (λ n. length old ≤ n) (sym (rows_long book'.entries mid)) (subst (λ xs. length old ≤ length xs) (sym grows_to.more) (longer old))
        where
          longer : (xs : List (Item Reach)) → length xs ≤ length (xs ++ grows_to.layer)
          longer [] = omega arith
          longer (x ∷ xs) = let rest = longer xs in omega arith

      long : (r : Row) → Has before.past r ⊎ Has (rows_of book.entries grows_to.layer) r → (r.length ≡ suc most) × (r.level ≡ suc most) × ¬ (Known base r.node)
      long r (inl has) = before.long r has
      long r (inr has) = layer_of r has

      later : (s : Reach) → (n : ℕ) × (x : Row) × (length old ≤ n) × (n < length mid) × (slice_get (rows_of book'.entries mid) n ≡ Some x)
          × BroughtBy graph (rows_of book'.entries mid) x (row_of book'.entries s) → most < s.length
      later s its =
          let in_layer = behind (rows_of book.entries old) (rows_of book.entries grows_to.layer) its.0 its.1
          (subst (λ n. n ≤ its.0) (sym (rows_long book.entries old)) its.2) (subst (λ rs. slice_get rs its.0 ≡ Some its.1) (rows_same ∙ mid_is) its.4) in
          let numbers = layer_of its.1 in_layer in
          brought_past graph (rows_of book'.entries mid) most its.1 (row_of book'.entries s) numbers.0 numbers.1 its.5

-- the offers of the last pass are in two lists
pub past_two : (graph : FlowGraph) (room most : ℕ) (base : List Row) (rows : List (Item Reach)) (book : Book) (near jumps : List Reach)
    → IsPast graph room most base rows book (Has (near ++ jumps)) → IsPast graph room most base rows book (λ s. Has near s ⊎ Has jumps s)
past_two graph room most base rows book near jumps past = record {
  built = past.built;
  closed = past.closed;
  short = past.short;
  past = past.past;
  split = past.split;
  long = past.long;
  laid_out = past.laid_out;
  linked = past.linked;
  placed = λ s has. past.placed s (in_both s has);
  later = λ s has. past.later s (in_both s has);
  closing = closing_same graph (length rows) (rows_of book.entries rows) (Stored book.entries (Has (near ++ jumps)))
      (Stored book.entries (λ s. Has near s ⊎ Has jumps s)) past.closing (λ o its. (its.0, Has-either near jumps its.0 its.1, its.2))
      (λ o its. (its.0, in_both its.0 its.1, its.2));
  once = past.once;
  fits = past.fits;
}
  where
    in_both : (s : Reach) → Has near s ⊎ Has jumps s → Has (near ++ jumps) s
    in_both s (inl has) = Has-left near jumps s has
    in_both s (inr has) = Has-right near jumps s has

-- there was no room
pub past_full : (graph : FlowGraph) (room most : ℕ) (base : List Row) (rows : List (Item Reach)) (book : Book) (Offers : Reach → Type 0) → most ≤ 1000000
    → IsPast graph room most base rows book Offers → IsFull room most Offers rows → IsTooMany graph room
past_full graph room most base rows book Offers short past full =
    too_many graph room most book (length rows) Offers rows short (omega arith) past.laid_out
    (past_fresh graph room most base rows book Offers past) past.placed
    (λ s is. past.closing.sound (row_of book.entries s) (s, is, refl)) past.closing.within past.once full

-- ---- the end

-- the nodes of pairs are those of rows
pub pair_nodes : (entries : List (Item ℕ)) (rows : List (Item Reach)) → nodes_of (pairs_in entries rows) ≡ nodes_in (rows_of entries rows)
pair_nodes entries [] = refl
pair_nodes entries (it ∷ rows) = ap (λ ns. node_of entries it.value ∷ ns) (pair_nodes entries rows)

node_known : (rows : List Row) (x : Node) → Known rows x → Has (nodes_in rows) x
node_known rows x known = subst (Has (nodes_in rows)) known.2 (Has-map (λ (r : Row). r.node) rows known.0 known.1)

-- once nothing is offered, all is found
pub found_right : (graph : FlowGraph) → IsFramed graph → (room most : ℕ) (base : List Row) (rows : List (Item Reach)) (book : Book) (Offers : Reach → Type 0)
    → IsPast graph room most base rows book Offers → ((s : Reach) → ¬ Offers s) → IsFound graph most (pairs_in book.entries rows)
found_right graph framed room most base rows book Offers past none = record {
  reached = λ x has. reached x (map-Has (λ (r : Row). r.node) (rows_of book.entries rows) x (subst (λ ns. Has ns x) (pair_nodes book.entries rows) has));
  all = λ x is. subst (λ ns. Has ns x) (sym (pair_nodes book.entries rows)) (node_known (rows_of book.entries rows) x (known x is));
  once = subst IsOnce (sym (pair_nodes book.entries rows)) past.once;
  lengths = λ p has. pair p (map-Has (pair_of book.entries) rows p has);
}
  where
    reached : (x : Node) → (r : Row) × Has (rows_of book.entries rows) r × (r.node ≡ x) → IsReached graph x
    reached x its = subst (IsReached graph) its.2 (reached_within graph its.0.node (past.closing.within its.0 its.1))

    closing : IsClosing graph (length (rows_of book.entries rows)) (rows_of book.entries rows) (λ o. ⊥)
    closing =
        closing_same graph (length (rows_of book.entries rows)) (rows_of book.entries rows) (Stored book.entries Offers) (λ o. ⊥)
        (subst (λ n. IsClosing graph n (rows_of book.entries rows) (Stored book.entries Offers)) (sym (rows_long book.entries rows)) past.closing)
        (λ o its. none its.0 its.1) (λ o wrong. absurd wrong)

    known : (x : Node) → IsReached graph x → Known (rows_of book.entries rows) x
    known x is = closing_done graph framed (rows_of book.entries rows) closing x is

    far : (r : Row) → Has past.past r → (n : ℕ) → Reaches graph n r.node → most < n
    far r has n reaches = step (cases_order most n)
      where
        wrong : n ≤ most → ⊥
        wrong short = (past.long r has).2 (known_within graph framed most base past.built past.closed n r.node reaches short)

        step : (most ≡ n) ⊎ (most < n) ⊎ (n < most) → most < n
        step (inl same) = absurd (wrong (omega arith))
        step (inr (inl more)) = more
        step (inr (inr less)) = absurd (wrong (omega arith))

    row : (r : Row) → Has base r ⊎ Has past.past r → IsLength graph most r.length r.node
    row r (inl has) = inl (past.short r has, shortest_row graph framed base past.built r has)
    row r (inr has) = inr ((past.long r has).0, far r has)

    pair : (p : Pair) → (it : Item Reach) × Has rows it × (pair_of book.entries it ≡ p) → IsLength graph most p.length p.node
    pair p its =
        subst (λ (q : Pair). IsLength graph most q.length q.node) its.2
        (row (row_of book.entries its.0.value) (Has-either base past.past (row_of book.entries its.0.value)
        (subst (λ rs. Has rs (row_of book.entries its.0.value)) past.split
        (Has-map (λ (i : Item Reach). row_of book.entries i.value) rows its.0 its.1))))

pub found_complete : (graph : FlowGraph) → IsFramed graph → (room most : ℕ) (base : List Row) (rows : List (Item Reach)) (book : Book) (near jumps : List Reach)
    → IsPast graph room most base rows book (λ s. Has near s ⊎ Has jumps s) → near ≡ [] → jumps ≡ [] → IsFound graph most (pairs_in book.entries rows)
found_complete graph framed room most base rows book near jumps past no_near no_jumps =
    found_right graph framed room most base rows book (λ s. Has near s ⊎ Has jumps s) past (λ s has. none s has)
  where
    none : (s : Reach) → Has near s ⊎ Has jumps s → ⊥
    none s (inl has) = subst (λ xs. Has xs s) no_near has
    none s (inr has) = subst (λ xs. Has xs s) no_jumps has
