-- Offers that are taken: the rows grow, and the node of each offer is known.
use Rattle.std.proofs.Common.{◌≡◌, ◌≢◌, ◌<◌, ◌≤◌, ◌-◌, ℕ, zero, suc, true, Some, slice_get, slice_set, List, [], ◌∷◌, ◌++◌, inl, inr, ◌⊎◌, refl, ap, sym, ◌∙◌, subst, arith, length, map, append_assoc, append-nil, Ok, Err, Result}
use Rattle.hs_search.proofs.Closing.{reached_within}
use Rattle.hs_search.proofs.Setting.{set_get, set_has, set_length, set_map, set_right, set_still}
use Rattle.hs_search.specs.Laws.Nodes.{node_is}
use Rattle.hs_search.specs.Laws.Membership.{Has-left, Has-right, Has-either, Has-last, Has-map, map-Has}
use Rattle.hs_search.proofs.Adding.{capped_at, capped_node, get_Has, past_or, capped_placed, capped_short, known_of_row, laid_more, nodes_more, once_more, row_of_known, rows_more, unknown_node}
use Rattle.hs_search.specs.Bringing.{Book}
use Rattle.hs_search.specs.Chains.{IsOnce, IsTooMany}
use Rattle.hs_search.specs.Graphs.{FlowGraph, Has}
use Rattle.hs_search.specs.Layout.{IsLaidOut, IsPlaced}
use Rattle.hs_search.specs.Rounds.{Row, Known, IsWithin}
use Rattle.hs_search.specs.Searching.{AreFresh, IsTakenAll, TakesAll, Waits, nodes_in}
use Rattle.hs_search.specs.Storing.{IsAdded, IsFull, IsListed, Replaces, TakesEach, TakesListed, Taking, none_taken, one_known, one_replaced, one_added, call_at, capped, capped_if, node_of, row_of, rows_of}
use Rattle.hs_search.specs.declared.graph.Node.{Node}
use Rattle.hs_search.specs.declared.lists.Item.{Item}
use Rattle.hs_search.specs.declared.reach.Reach.{Reach}
use Rattle.hs_search.specs.declared.reach.SearchEnd.{SearchEnd}
use Rattle.hs_search.specs.declared.reach.SearchEnd.TheVariants.{Limit, NoMemory}

-- ---- several offers

pub record IsGrown (graph : FlowGraph) (room most : ℕ) (book : Book) (count : ℕ) (taken : List Reach) (old new : List (Item Reach)) : Type 0 where
  pub layer : List (Item Reach)
  pub more : new ≡ old ++ layer
  pub laid_out : IsLaidOut graph new book count
  pub known : (s : Reach) → Has taken s → Known (rows_of book.entries new) (node_of book.entries s)
  pub each : (r : Row) → Has (rows_of book.entries layer) r
      → (s : Reach) × Has taken s × (row_of book.entries (capped most s) ≡ r) × ¬ (Known (rows_of book.entries old) r.node)
  pub values : (it : Item Reach) → Has layer it → (s : Reach) × Has taken s × (it.value ≡ capped most s)
  pub once : IsOnce (nodes_in (rows_of book.entries old)) → IsOnce (nodes_in (rows_of book.entries new))
  pub fits : length old ≤ room → length new ≤ room

last_taken : (xs : List Reach) (x s : Reach) → Has (xs ++ x ∷ []) s → Has xs s ⊎ (x ≡ s)
last_taken xs x s has = step (Has-either xs (x ∷ []) s has)
  where
    step : Has xs s ⊎ Has (x ∷ []) s → Has xs s ⊎ (x ≡ s)
    step (inl front) = inl front
    step (inr (inl is)) = inr is
    step (inr (inr no_more)) = absurd no_more

more_rows : (old new layer : List (Item Reach)) → new ≡ old ++ layer → length old ≤ length new
more_rows old new layer is = subst (λ xs. length old ≤ length xs) (sym is) (longer old)
  where
    longer : (xs : List (Item Reach)) → length xs ≤ length (xs ++ layer)
    longer [] = omega arith
    longer (x ∷ xs) = let rest = longer xs in omega arith

one_long : (xs : List (Item Reach)) (x : Item Reach) → length (xs ++ x ∷ []) ≡ suc (length xs)
one_long [] x = refl
one_long (y ∷ xs) x = ap (λ n. suc n) (one_long xs x)

grown_added : (graph : FlowGraph) (room most : ℕ) (book : Book) (count : ℕ) (taken : List Reach) (s : Reach) (old mid new : List (Item Reach)) → most ≤ 1000000
    → count ≤ length old → IsPlaced graph book.entries s → IsGrown graph room most book count taken old mid → IsAdded room most s mid new
    → IsGrown graph room most book count (taken ++ s ∷ []) old new
grown_added graph room most book count taken s old mid new short below placed grown added = record {
  layer = grown.layer ++ added.it ∷ [];
  more = added.more ∙ ap (λ xs. xs ++ added.it ∷ []) grown.more ∙ append_assoc old grown.layer (added.it ∷ []);
  laid_out = subst (λ xs. IsLaidOut graph xs book count) (sym added.more)
      (laid_more graph mid added.it book count (let long = more_rows old mid grown.layer grown.more in omega arith) grown.laid_out
      (added.key ∙ sym (ap (λ (r : Reach). r.at) added.value ∙ capped_at most s))
      (subst (IsPlaced graph book.entries) (sym added.value) (capped_placed graph book.entries most s placed))
      (subst (λ (r : Reach). r.length ≤ 1000001) (sym added.value) (capped_short most s short)));
  known = λ o has. known o (last_taken taken s o has);
  each = λ r has. each r (Has-either (rows_of book.entries grown.layer) (row_of book.entries added.it.value ∷ []) r
      (subst (λ rs. Has rs r) (rows_more book.entries grown.layer (added.it ∷ [])) has));
  values = λ it has. values it (Has-either grown.layer (added.it ∷ []) it has);
  once = λ once. subst (λ xs. IsOnce (nodes_in xs)) (sym rows_is)
      (subst IsOnce (sym (nodes_more (rows_of book.entries mid) (row_of book.entries added.it.value ∷ [])))
      (once_more (nodes_in (rows_of book.entries mid)) (node_of book.entries added.it.value) (grown.once once)
      (unknown_node (rows_of book.entries mid) (node_of book.entries added.it.value) outside)));
  fits = λ fits. subst (λ xs. length xs ≤ room) (sym added.more)
      (subst (λ n. n ≤ room) (sym (one_long mid added.it)) (let less = added.fits in let more : suc (length mid) ≤ room = omega arith in more));
}
  where
    node_same : node_of book.entries added.it.value ≡ node_of book.entries s
    node_same = ap (node_of book.entries) added.value ∙ capped_node book.entries most s

    rows_is : rows_of book.entries new ≡ rows_of book.entries mid ++ row_of book.entries added.it.value ∷ []
    rows_is = ap (rows_of book.entries) added.more ∙ rows_more book.entries mid (added.it ∷ [])

    outside : ¬ Known (rows_of book.entries mid) (node_of book.entries added.it.value)
    outside has =
        added.outside (row_of_known graph mid book count grown.laid_out s placed (subst (Known (rows_of book.entries mid)) node_same has))

    known : (o : Reach) → Has taken o ⊎ (s ≡ o) → Known (rows_of book.entries new) (node_of book.entries o)
    known o (inl has) =
        let its = grown.known o has in
        (its.0, subst (λ rs. Has rs its.0) (sym rows_is) (Has-left (rows_of book.entries mid) (row_of book.entries added.it.value ∷ []) its.0 its.1), its.2)
    known o (inr is) = (
      row_of book.entries added.it.value,
      subst (λ rs. Has rs (row_of book.entries added.it.value)) (sym rows_is) (Has-last (rows_of book.entries mid) (row_of book.entries added.it.value)),
      node_same ∙ ap (node_of book.entries) is,
    )

    values : (it : Item Reach) → Has grown.layer it ⊎ Has (added.it ∷ []) it → (o : Reach) × Has (taken ++ s ∷ []) o × (it.value ≡ capped most o)
    values it (inl has) = let its = grown.values it has in (its.0, Has-left taken (s ∷ []) its.0 its.1, its.2)
    values it (inr (inl is)) = (s, Has-last taken s, ap (λ (i : Item Reach). i.value) (sym is) ∙ added.value)
    values it (inr (inr no_more)) = absurd no_more

    each : (r : Row) → Has (rows_of book.entries grown.layer) r ⊎ Has (row_of book.entries added.it.value ∷ []) r
        → (o : Reach) × Has (taken ++ s ∷ []) o × (row_of book.entries (capped most o) ≡ r) × ¬ (Known (rows_of book.entries old) r.node)
    each r (inl has) = let its = grown.each r has in (its.0, Has-left taken (s ∷ []) its.0 its.1, its.2, its.3)
    each r (inr (inl is)) = (
      s,
      Has-last taken s,
      ap (row_of book.entries) (sym added.value) ∙ is,
      λ known_one.
          let its : Known (rows_of book.entries old) (node_of book.entries added.it.value) = subst (λ (x : Row). Known (rows_of book.entries old) x.node)
          (sym is) known_one in
          outside (
            its.0,
            subst (λ rs. Has rs its.0) (sym (ap (rows_of book.entries) grown.more ∙ rows_more book.entries old grown.layer))
                (Has-left (rows_of book.entries old) (rows_of book.entries grown.layer) its.0 its.1),
            its.2,
          ),
    )
    each r (inr (inr no_more)) = absurd no_more

-- an offer replaces the row of its node, which the same round has made
laid_set : (graph : FlowGraph) (rows : List (Item Reach)) (n : ℕ) (it its : Item Reach) (book : Book) (count : ℕ) → count ≤ n → slice_get rows n ≡ Some it
    → its.key ≡ its.value.at → IsPlaced graph book.entries its.value → its.value.length ≤ 1000001 → IsLaidOut graph rows book count
    → IsLaidOut graph (slice_set rows n its) book count
laid_set graph rows n it its book count below at key placed short laid = record {
  calls = laid.calls;
  keys = λ m one there. keys m one (set_get rows n m its one there);
  placed = λ m one there. places m one (set_get rows n m its one there);
  small = λ m one there. small m one (set_get rows n m its one there);
  caller = λ m one there. let is = laid.caller m one there in record {
    row = is.row;
    there = set_still rows n one.value its is.row (λ same. absurd (let low = is.below in omega arith)) is.there;
    below = is.below;
    known = is.known;
    enters = is.enters;
  };
  callers = λ m row b less there. laid.callers m row b less (before m row less (set_get rows n m its row there));
  end_ = λ m one there. let is = laid.end_ m one there in record {
    row = is.row;
    there = set_still rows n one.value its is.row (λ same. absurd (let low = is.below in omega arith)) is.there;
    below = is.below;
    call = is.call;
  };
  ends = λ m row less there. laid.ends m row less (before m row less (set_get rows n m its row there));
}
  where
    keys : (m : ℕ) (one : Item Reach) → ((m ≡ n) × (its ≡ one)) ⊎ ((m ≢ n) × (slice_get rows m ≡ Some one)) → one.key ≡ one.value.at
    keys m one (inl here) = subst (λ (i : Item Reach). i.key ≡ i.value.at) here.1 key
    keys m one (inr other) = laid.keys m one other.1

    places : (m : ℕ) (one : Item Reach) → ((m ≡ n) × (its ≡ one)) ⊎ ((m ≢ n) × (slice_get rows m ≡ Some one)) → IsPlaced graph book.entries one.value
    places m one (inl here) = subst (λ (i : Item Reach). IsPlaced graph book.entries i.value) here.1 placed
    places m one (inr other) = laid.placed m one other.1

    small : (m : ℕ) (one : Item Reach) → ((m ≡ n) × (its ≡ one)) ⊎ ((m ≢ n) × (slice_get rows m ≡ Some one)) → one.value.length ≤ 1000001
    small m one (inl here) = subst (λ (i : Item Reach). i.value.length ≤ 1000001) here.1 short
    small m one (inr other) = laid.small m one other.1

    before : (m : ℕ) (row : Item Reach) → m < count → ((m ≡ n) × (its ≡ row)) ⊎ ((m ≢ n) × (slice_get rows m ≡ Some row)) → slice_get rows m ≡ Some row
    before m row less (inl here) = absurd (let same = here.0 in omega arith)
    before m row less (inr other) = other.1

-- its place is past the rows that were there before
front_or : (old layer : List (Item Reach)) (n : ℕ) (it : Item Reach) → slice_get (old ++ layer) n ≡ Some it
    → (slice_get old n ≡ Some it) ⊎ ((length old ≤ n) × (slice_get layer (n - length old) ≡ Some it))
front_or [] layer n it at = inr (omega arith, subst (λ k. slice_get layer k ≡ Some it) (let same : n ≡ n - 0 = omega arith in same) at)
front_or (x ∷ old) layer zero it at = inl at
front_or (x ∷ old) layer (suc n) it at = step (front_or old layer n it at)
  where
    step : (slice_get old n ≡ Some it) ⊎ ((length old ≤ n) × (slice_get layer (n - length old) ≡ Some it))
        → (slice_get old n ≡ Some it) ⊎ ((suc (length old) ≤ suc n) × (slice_get layer (suc n - suc (length old)) ≡ Some it))
    step (inl there) = inl there
    step (inr (low, there)) =
        inr (omega arith, subst (λ k. slice_get layer k ≡ Some it) (let same : n - length old ≡ suc n - suc (length old) = omega arith in same) there)

grown_replaced : (graph : FlowGraph) (room most : ℕ) (book : Book) (count : ℕ) (taken : List Reach) (s : Reach) (old mid new : List (Item Reach))
    → count ≤ length old → IsPlaced graph book.entries s
    → (s.length ≤ most → (n : ℕ) (it : Item Reach) → slice_get old n ≡ Some it → it.value.length ≢ s.length)
    → IsGrown graph room most book count taken old mid → Replaces most s mid new → IsGrown graph room most book count (taken ++ s ∷ []) old new
grown_replaced graph room most book count taken s old mid new below placed fresh grown (n, is, short) =
    from (front_or old grown.layer n is.row.it (subst (λ xs. slice_get xs n ≡ Some is.row.it) grown.more is.row.there))
  where
    its : Item Reach
    its = record is.row.it { value = s }

    node_same : node_of book.entries is.row.it.value ≡ node_of book.entries s
    node_same =
        node_is (node_of book.entries is.row.it.value) (node_of book.entries s)
        (sym (grown.laid_out.keys n is.row.it is.row.there) ∙ is.row.at) is.row.fact (ap (λ c. (call_at book.entries c).entered) is.row.call)

    nodes_same : nodes_in (rows_of book.entries new) ≡ nodes_in (rows_of book.entries mid)
    nodes_same =
        set_map (λ (i : Item Reach). node_of book.entries i.value) mid new n its is.row.it is.row.there (sym node_same) is.more
        (λ xs. nodes_in (rows_of book.entries xs)) (λ z zs. refl)

    known_new : (x : Node) → Known (rows_of book.entries mid) x → Known (rows_of book.entries new) x
    known_new x known =
        let has : Has (nodes_in (rows_of book.entries mid)) x
        = subst (Has (nodes_in (rows_of book.entries mid))) known.2 (Has-map (λ (r : Row). r.node) (rows_of book.entries mid) known.0 known.1) in
        let found = map-Has (λ (r : Row). r.node) (rows_of book.entries new) x
        (subst (λ xs. Has xs x) (sym nodes_same) has) in
        (found.0, found.1, found.2)

    capped_same : capped most s ≡ s
    capped_same = step (past_or most s)
      where
        step : ((most < s.length) × (capped most s ≡ capped_if true most s)) ⊎ ((s.length ≤ most) × (capped most s ≡ s)) → capped most s ≡ s
        step (inl past) = absurd (let more = past.0 in omega arith)
        step (inr within) = within.1

    from : (slice_get old n ≡ Some is.row.it) ⊎ ((length old ≤ n) × (slice_get grown.layer (n - length old) ≡ Some is.row.it))
        → IsGrown graph room most book count (taken ++ s ∷ []) old new
    from (inl there) = absurd (fresh short n is.row.it there is.long)
    from (inr (low, there)) = record {
      layer = slice_set grown.layer (n - length old) its;
      more = is.more ∙ ap (λ xs. slice_set xs n its) grown.more ∙ set_right old grown.layer n its low;
      laid_out = subst (λ xs. IsLaidOut graph xs book count) (sym is.more)
          (laid_set graph mid n is.row.it its book count (omega arith) is.row.there is.row.at placed
          (subst (λ k. k ≤ 1000001) is.long (grown.laid_out.small n is.row.it is.row.there)) grown.laid_out);
      known = λ o has. known o (last_taken taken s o has);
      each = λ r has. each r (map-Has (λ (i : Item Reach). row_of book.entries i.value) (slice_set grown.layer (n - length old) its) r has);
      values = λ it has. values it (set_has grown.layer (n - length old) its it has);
      once = λ once. subst IsOnce (sym nodes_same) (grown.once once);
      fits = λ fits. subst (λ k. k ≤ room) (sym (ap length is.more ∙ set_length mid n its)) (grown.fits fits);
    }
      where
        known : (o : Reach) → Has taken o ⊎ (s ≡ o) → Known (rows_of book.entries new) (node_of book.entries o)
        known o (inl has) = known_new (node_of book.entries o) (grown.known o has)
        known o (inr same) =
            subst (λ (x : Reach). Known (rows_of book.entries new) (node_of book.entries x)) same
            (known_new (node_of book.entries s) (known_of_row graph mid book count grown.laid_out s (n, is.row)))

        outside : ¬ Known (rows_of book.entries old) (node_of book.entries s)
        outside =
            let has = Has-map (λ (i : Item Reach). row_of book.entries i.value) grown.layer is.row.it
            (get_Has grown.layer (n - length old) is.row.it there) in
            subst (λ x. ¬ Known (rows_of book.entries old) x) node_same (grown.each (row_of book.entries is.row.it.value) has).3

        values : (it : Item Reach) → (its ≡ it) ⊎ Has grown.layer it → (o : Reach) × Has (taken ++ s ∷ []) o × (it.value ≡ capped most o)
        values it (inl same) = (s, Has-last taken s, ap (λ (i : Item Reach). i.value) (sym same) ∙ sym capped_same)
        values it (inr has) = let one = grown.values it has in (one.0, Has-left taken (s ∷ []) one.0 one.1, one.2)

        each : (r : Row) → (it : Item Reach) × Has (slice_set grown.layer (n - length old) its) it × (row_of book.entries it.value ≡ r)
            → (o : Reach) × Has (taken ++ s ∷ []) o × (row_of book.entries (capped most o) ≡ r) × ¬ (Known (rows_of book.entries old) r.node)
        each r (it, has, row) = pick (set_has grown.layer (n - length old) its it has)
          where
            pick : (its ≡ it) ⊎ Has grown.layer it
                → (o : Reach) × Has (taken ++ s ∷ []) o × (row_of book.entries (capped most o) ≡ r) × ¬ (Known (rows_of book.entries old) r.node)
            pick (inl same) =
                let value : s ≡ it.value = ap (λ (i : Item Reach). i.value) same in (
                  s,
                  Has-last taken s,
                  ap (row_of book.entries) (capped_same ∙ value) ∙ row,
                  subst (λ x. ¬ Known (rows_of book.entries old) x) (ap (node_of book.entries) value ∙ ap (λ (x : Row). x.node) row) outside,
                )
            pick (inr old_one) =
                let one = grown.each r (subst (Has (rows_of book.entries grown.layer)) row
                (Has-map (λ (i : Item Reach). row_of book.entries i.value) grown.layer it old_one)) in
                (one.0, Has-left taken (s ∷ []) one.0 one.1, one.2, one.3)

pub grown : (graph : FlowGraph) (room most : ℕ) (book : Book) (count : ℕ) (taken : List Reach) (old new : List (Item Reach)) → most ≤ 1000000
    → count ≤ length old → IsLaidOut graph old book count → ((s : Reach) → Has taken s → IsPlaced graph book.entries s) → AreFresh most old (Has taken)
    → Taking room most taken old new → IsGrown graph room most book count taken old new
grown graph room most book count _ old _ short below laid placed fresh (none_taken _) = record {
  layer = [];
  more = sym (append-nil old);
  laid_out = laid;
  known = λ s has. absurd has;
  each = λ r has. absurd has;
  values = λ it has. absurd has;
  once = λ once. once;
  fits = λ fits. fits;
}
grown graph room most book count _ old new short below laid placed fresh (one_known taken s _ _ taking known) =
    let before = grown graph room most book count taken old new short below laid (λ o has. placed o (Has-left taken (s ∷ []) o has))
    (λ o has. fresh o (Has-left taken (s ∷ []) o has)) taking in
    record {
      layer = before.layer;
      more = before.more;
      laid_out = before.laid_out;
      known = λ o has. from before o (last_taken taken s o has);
      each = λ r has. let its = before.each r has in (its.0, Has-left taken (s ∷ []) its.0 its.1, its.2, its.3);
      values = λ it has. let its = before.values it has in (its.0, Has-left taken (s ∷ []) its.0 its.1, its.2);
      once = before.once;
      fits = before.fits;
    }
  where
    from : IsGrown graph room most book count taken old new → (o : Reach) → Has taken o ⊎ (s ≡ o) → Known (rows_of book.entries new) (node_of book.entries o)
    from before o (inl has) = before.known o has
    from before o (inr is) =
        subst (λ (x : Reach). Known (rows_of book.entries new) (node_of book.entries x)) is (known_of_row graph new book count before.laid_out s known)
grown graph room most book count _ old new short below laid placed fresh (one_replaced taken s _ mid _ taking replaced) =
    grown_replaced graph room most book count taken s old mid new below (placed s (Has-last taken s)) (fresh s (Has-last taken s))
    (grown graph room most book count taken old mid short below laid (λ o has. placed o (Has-left taken (s ∷ []) o has))
    (λ o has. fresh o (Has-left taken (s ∷ []) o has)) taking) replaced
grown graph room most book count _ old new short below laid placed fresh (one_added taken s _ mid _ taking added) =
    grown_added graph room most book count taken s old mid new short below (placed s (Has-last taken s))
    (grown graph room most book count taken old mid short below laid (λ o has. placed o (Has-left taken (s ∷ []) o has))
    (λ o has. fresh o (Has-left taken (s ∷ []) o has)) taking) added

-- ---- there was no room

reached_nodes : (graph : FlowGraph) (rows : List Row) → ((r : Row) → Has rows r → IsWithin graph r.node) → (x : Node) → Has (nodes_in rows) x → IsWithin graph x
reached_nodes graph rows within x has =
    let its = map-Has (λ (r : Row). r.node) rows x has in subst (IsWithin graph) its.2 (within its.0 its.1)

map_long : {A B : Type 0} (f : A → B) (xs : List A) → length (map f xs) ≡ length xs
map_long f [] = refl
map_long f (x ∷ xs) = ap (λ n. suc n) (map_long f xs)

node_long : (xs : List Node) (x : Node) → length (xs ++ x ∷ []) ≡ suc (length xs)
node_long [] x = refl
node_long (y ∷ xs) x = ap (λ n. suc n) (node_long xs x)

pub too_many : (graph : FlowGraph) (room most : ℕ) (book : Book) (count : ℕ) (Offers : Reach → Type 0) (old : List (Item Reach)) → most ≤ 1000000
    → count ≤ length old → IsLaidOut graph old book count → AreFresh most old Offers → ((s : Reach) → Offers s → IsPlaced graph book.entries s)
    → ((s : Reach) → Offers s → IsWithin graph (node_of book.entries s)) → ((r : Row) → Has (rows_of book.entries old) r → IsWithin graph r.node)
    → IsOnce (nodes_in (rows_of book.entries old)) → IsFull room most Offers old → IsTooMany graph room
too_many graph room most book count Offers old short below laid fresh placed sound within once full = record {
  nodes = nodes_in rows ++ node_of book.entries full.one ∷ [];
  more = subst (λ n. room < n) (sym (node_long (nodes_in rows) (node_of book.entries full.one)))
      (subst (λ n. room < suc n) (sym (map_long (λ (r : Row). r.node) rows ∙ map_long (λ (it : Item Reach). row_of book.entries it.value) full.mid))
      (let many = full.full in let more : room < suc (length full.mid) = omega arith in more));
  once = once_more (nodes_in rows) (node_of book.entries full.one) (its.once once) (unknown_node rows (node_of book.entries full.one)
      (λ known. full.outside (row_of_known graph full.mid book count its.laid_out full.one (placed full.one full.offered) known)));
  reached = λ x has. reached_within graph x (of x (Has-either (nodes_in rows) (node_of book.entries full.one ∷ []) x has));
}
  where
    rows : List Row
    rows = rows_of book.entries full.mid

    its : IsGrown graph room most book count full.taken old full.mid
    its =
        grown graph room most book count full.taken old full.mid short below laid (λ s has. placed s (full.each s has))
        (λ s has. fresh s (full.each s has)) full.taking

    in_rows : (r : Row) → Has (rows_of book.entries old) r ⊎ Has (rows_of book.entries its.layer) r → IsWithin graph r.node
    in_rows r (inl has) = within r has
    in_rows r (inr has) =
        let one = its.each r has in
        subst (IsWithin graph) (sym (capped_node book.entries most one.0) ∙ ap (λ (x : Row). x.node) one.2) (sound one.0 (full.each one.0 one.1))

    all_within : (r : Row) → Has (rows_of book.entries full.mid) r → IsWithin graph r.node
    all_within r has = in_rows r (Has-either (rows_of book.entries old) (rows_of book.entries its.layer) r
        (subst (λ rs. Has rs r) (ap (rows_of book.entries) its.more ∙ rows_more book.entries old its.layer) has))

    of : (x : Node) → Has (nodes_in rows) x ⊎ Has (node_of book.entries full.one ∷ []) x → IsWithin graph x
    of x (inl has) = reached_nodes graph (rows_of book.entries full.mid) all_within x has
    of x (inr (inl is)) = subst (IsWithin graph) is (sound full.one full.offered)
    of x (inr (inr no_more)) = absurd no_more

-- ---- offers from two places

then_taking : (room most : ℕ) (first second : List Reach) (old mid new : List (Item Reach)) → Taking room most first old mid → Taking room most second mid new
    → Taking room most (first ++ second) old new
then_taking room most first _ old mid _ taking (none_taken _) = subst (λ xs. Taking room most xs old mid) (sym (append-nil first)) taking
then_taking room most first _ old mid new taking (one_known offers s _ _ more known) =
    subst (λ xs. Taking room most xs old new) (append_assoc first offers (s ∷ []))
    (one_known (first ++ offers) s old new (then_taking room most first offers old mid new taking more) known)
then_taking room most first _ old mid new taking (one_replaced offers s _ inner _ more replaced) =
    subst (λ xs. Taking room most xs old new) (append_assoc first offers (s ∷ []))
    (one_replaced (first ++ offers) s old inner new (then_taking room most first offers old mid inner taking more) replaced)
then_taking room most first _ old mid new taking (one_added offers s _ inner _ more added) =
    subst (λ xs. Taking room most xs old new) (append_assoc first offers (s ∷ []))
    (one_added (first ++ offers) s old inner new (then_taking room most first offers old mid inner taking more) added)

-- the first of two lists was full
pub full_left : (room most : ℕ) (First Second : Reach → Type 0) (old : List (Item Reach)) → IsFull room most First old
    → IsFull room most (λ s. First s ⊎ Second s) old
full_left room most First Second old full = record {
  taken = full.taken;
  mid = full.mid;
  taking = full.taking;
  each = λ s has. inl (full.each s has);
  one = full.one;
  offered = inl full.offered;
  outside = full.outside;
  full = full.full;
}

full_right : (room most : ℕ) (First Second : Reach → Type 0) (taken : List Reach) (old mid : List (Item Reach)) → Taking room most taken old mid
    → ((s : Reach) → Has taken s → First s) → IsFull room most Second mid → IsFull room most (λ s. First s ⊎ Second s) old
full_right room most First Second taken old mid taking each full = record {
  taken = taken ++ full.taken;
  mid = full.mid;
  taking = then_taking room most taken full.taken old mid full.mid taking full.taking;
  each = λ s has. from s (Has-either taken full.taken s has);
  one = full.one;
  offered = inr full.offered;
  outside = full.outside;
  full = full.full;
}
  where
    from : (s : Reach) → Has taken s ⊎ Has full.taken s → First s ⊎ Second s
    from s (inl has) = inl (each s has)
    from s (inr has) = inr (full.each s has)

both : (room most : ℕ) (First Second : Reach → Type 0) (taken more : List Reach) (old mid new : List (Item Reach)) → Taking room most taken old mid
    → Taking room most more mid new → ((s : Reach) → Has taken s → First s) → ((s : Reach) → First s → Has taken s)
    → ((s : Reach) → Has more s → Second s) → ((s : Reach) → Second s → Has more s) → IsTakenAll room most (λ s. First s ⊎ Second s) old new
both room most First Second taken more old mid new first second each all each_more all_more = record {
  taken = taken ++ more;
  taking = then_taking room most taken more old mid new first second;
  each = λ s has. from s (Has-either taken more s has);
  all = λ s is. to s is;
}
  where
    from : (s : Reach) → Has taken s ⊎ Has more s → First s ⊎ Second s
    from s (inl has) = inl (each s has)
    from s (inr has) = inr (each_more s has)

    to : (s : Reach) → First s ⊎ Second s → Has (taken ++ more) s
    to s (inl is) = Has-left taken more s (all s is)
    to s (inr is) = Has-right taken more s (all_more s is)

-- the first of them was refused
pub takes_left : (room most : ℕ) (near offers : List Reach) (Second : Reach → Type 0) (old mid new : List (Item Reach)) (end : SearchEnd) → offers ≡ near
    → TakesEach room most offers old mid (Err end) → TakesAll room most (λ s. Has near s ⊎ Second s) old new (Err end)
takes_left room most near offers Second old mid new Limit is full =
    full_left room most (Has near) Second old (subst (λ xs. IsFull room most (Has xs) old) is full)
takes_left room most near offers Second old mid new NoMemory is full = tt

pub takes_listed : (room most : ℕ) (near : List Reach) (far : List (Item Reach)) (key : ℕ) (old mid new : List (Item Reach))
    (result : Result (Unit {0}) SearchEnd) → Taking room most near old mid → TakesListed room most far key mid new result
    → TakesAll room most (Waits near far key) old new result
takes_listed room most near far key old mid new (Ok done) taking listed =
    both room most (Has near) (IsListed far key) near listed.taken old mid new taking listed.taking (λ s has. has) (λ s has. has) listed.each listed.all
takes_listed room most near far key old mid new (Err Limit) taking full = full_right room most (Has near) (IsListed far key) near old mid taking
    (λ s has. has) full
takes_listed room most near far key old mid new (Err NoMemory) taking full = tt

pub takes_second : (room most : ℕ) (near jumps : List Reach) (old mid new : List (Item Reach)) → Taking room most near old mid
    → Taking room most jumps mid new → IsTakenAll room most (λ s. Has near s ⊎ Has jumps s) old new
takes_second room most near jumps old mid new first second =
    both room most (Has near) (Has jumps) near jumps old mid new first second (λ s has. has) (λ s has. has) (λ s has. has) (λ s has. has)

pub takes_second_end : (room most : ℕ) (near jumps offers : List Reach) (old mid new last : List (Item Reach)) (end : SearchEnd) → offers ≡ jumps
    → Taking room most near old mid → TakesEach room most offers mid new (Err end) → TakesAll room most (λ s. Has near s ⊎ Has jumps s) old last (Err end)
takes_second_end room most near jumps offers old mid new last Limit is taking full =
    full_right room most (Has near) (Has jumps) near old mid taking (λ s has. has) (subst (λ xs. IsFull room most (Has xs) mid) is full)
takes_second_end room most near jumps offers old mid new last NoMemory is taking full = tt
