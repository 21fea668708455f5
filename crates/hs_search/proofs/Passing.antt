-- A round of the search, and a pass past the most.
use Rattle.std.proofs.Common.{◌≡◌, ◌<◌, ◌≤◌, ℕ, zero, suc, take, List, [], ◌∷◌, ◌++◌, inl, inr, ◌⊎◌, refl, ap, sym, ◌∙◌, Some, subst, arith, length, slice_get, map, true, ◌≢◌}
use Rattle.std.proofs.lemmas.Bool.{cases_order}
use Rattle.hs_search.proofs.Calling.{placed_kept}
use Rattle.hs_search.proofs.Closing.{built_within, candidate_within}
use Rattle.hs_search.proofs.Expansions.{row_kept, rows_at, rows_kept}
use Rattle.hs_search.proofs.Linking.{link_kept, link_more, linked_next}
use Rattle.hs_search.specs.Laws.Membership.{Has-left, Has-right, Has-either, Has-map}
use Rattle.hs_search.proofs.PuttingOff.{key_or}
use Rattle.hs_search.proofs.Rounding.{behind, ready_next, ready_same}
use Rattle.hs_search.proofs.Adding.{get_Has, past_or, rows_more}
use Rattle.hs_search.proofs.Taking.{IsGrown, grown, too_many}
use Rattle.hs_search.specs.Bringing.{Book}
use Rattle.hs_search.specs.Chains.{IsOnce, IsTooMany}
use Rattle.hs_search.specs.Graphs.{FlowGraph, Has, IsFramed}
use Rattle.hs_search.specs.Layout.{IsPlaced}
use Rattle.hs_search.specs.Links.{HasLink, IsFrom, LinkedBy, OfLink}
use Rattle.hs_search.specs.Rounds.{Row, AllBrought, IsReady, IsTaken, IsWithin, Known}
use Rattle.hs_search.specs.Searching.{AreBelow, AreFresh, HasExpanded, IsBetween, IsFarItem, IsPutOff, IsTakenAll, IsWaiting, Stored, Waits, key_of, nodes_in}
use Rattle.hs_search.specs.Storing.{IsFull, IsListed, capped, capped_if, node_of, row_of, rows_of}
use Rattle.hs_search.specs.declared.lists.Item.{Item}
use Rattle.hs_search.specs.declared.reach.Reach.{Reach}

map_long : {A B : Type 0} (f : A → B) (xs : List A) → length (map f xs) ≡ length xs
map_long f [] = refl
map_long f (x ∷ xs) = ap (λ n. suc n) (map_long f xs)

pub rows_long : (entries : List (Item ℕ)) (rows : List (Item Reach)) → length (rows_of entries rows) ≡ length rows
rows_long entries rows = map_long (λ (it : Item Reach). row_of entries it.value) rows

-- ---- links to the rows in front

take_all : (xs : List Row) (n : ℕ) → length xs ≤ n → take n xs ≡ xs
take_all [] zero low = refl
take_all [] (suc n) low = refl
take_all (x ∷ xs) zero low = absurd (omega arith)
take_all (x ∷ xs) (suc n) low = ap (λ ys. x ∷ ys) (take_all xs n (omega arith))

get_front : (xs ys : List Row) (k : ℕ) (x : Row) → k < length xs → slice_get (xs ++ ys) k ≡ Some x → slice_get xs k ≡ Some x
get_front [] ys k x low at = absurd (omega arith)
get_front (y ∷ xs) ys zero x low at = at
get_front (y ∷ xs) ys (suc k) x low at = get_front xs ys k x (omega arith) at

link_front : (graph : FlowGraph) (xs ys : List Row) (up last : ℕ) (r : Row) → LinkedBy graph (xs ++ ys) up last r → up ≤ length xs → last ≤ length xs
    → LinkedBy graph xs up last r
link_front graph xs ys zero zero r is up_low last_low = is
link_front graph xs ys zero (suc last) r is up_low last_low = is
link_front graph xs ys (suc up) zero r (x, at, after) up_low last_low = (x, get_front xs ys up x (omega arith) at, after)
link_front graph xs ys (suc up) (suc last) r (c, e, at_c, at_e, back) up_low last_low =
    (c, e, get_front xs ys up c (omega arith) at_c, get_front xs ys last e (omega arith) at_e, back)

-- ---- offers that are taken

-- they are longer than the rows
pub waits_fresh : (graph : FlowGraph) (room most next latest : ℕ) (rows : List (Item Reach)) (book : Book) (near : List Reach) (far : List (Item Reach))
    (key : ℕ) → next ≤ key → IsBetween graph room most next latest rows book near far → AreFresh most rows (Waits near far key)
waits_fresh graph room most next latest rows book near far key low between s waits short n it at = by waits
  where
    early : it.value.length < next
    early =
        between.short (row_of book.entries it.value)
        (Has-map (λ (i : Item Reach). row_of book.entries i.value) rows it (get_Has rows n it at))

    far_long : (listed : IsListed far key s) → ((most < s.length) × (key_of most s.length ≡ suc most)) ⊎ ((s.length ≤ most) × (key_of most s.length ≡ s.length))
        → next ≤ s.length
    far_long listed (inl past) = absurd (let more = past.0 in omega arith)
    far_long listed (inr within) =
        let its = between.far_right listed.n listed.it listed.there in
        let is : key_of most s.length ≡ key = sym (its.key ∙ ap (λ (r : Reach). key_of most r.length) listed.value) ∙ listed.own in
        let same = within.1 in
        omega arith

    by : Has near s ⊎ IsListed far key s → it.value.length ≢ s.length
    by (inl has) = λ is. absurd (let less = early in let long = between.near_long s has in omega arith)
    by (inr listed) = λ is. absurd (let less = early in let long = far_long listed (key_or most s.length) in omega arith)

-- ---- a round

module _ (graph : FlowGraph) (framed : IsFramed graph) (room most next latest latest' : ℕ) (old mid : List (Item Reach)) (book book' : Book)
    (near near' jumps : List Reach) (far far' : List (Item Reach)) (short : most ≤ 1000000) (in_most : next ≤ most)
    (between : IsBetween graph room most next latest old book near far) (taken : IsTakenAll room most (Waits near far next) old mid) where
  -- the offers before the round, and those that are left of them
  abbrev Offers : Row → Type 0
  Offers = Stored book.entries (λ s. Has near s ⊎ IsWaiting far next s)

  abbrev Left : Row → Type 0
  Left = Stored book.entries (IsWaiting far (suc next))

  waits_placed : (s : Reach) → Waits near far next s → IsPlaced graph book.entries s
  waits_placed s (inl has) = between.near_placed s has
  waits_placed s (inr listed) = subst (IsPlaced graph book.entries) listed.value (between.far_right listed.n listed.it listed.there).placed

  waits_long : (s : Reach) → Waits near far next s → s.length ≡ next
  waits_long s (inl has) = between.near_long s has
  waits_long s (inr listed) =
      let its = between.far_right listed.n listed.it listed.there in
      let key : key_of most s.length ≡ next = sym (its.key ∙ ap (λ (r : Reach). key_of most r.length) listed.value) ∙ listed.own in
      step key (key_or most s.length)
    where
      step : key_of most s.length ≡ next → ((most < s.length) × (key_of most s.length ≡ suc most)) ⊎ ((s.length ≤ most) × (key_of most s.length ≡ s.length))
          → s.length ≡ next
      step key (inl past) = absurd (let it = past.1 in omega arith)
      step key (inr within) = sym within.1 ∙ key

  waits_offer : (s : Reach) → Waits near far next s → Has near s ⊎ IsWaiting far next s
  waits_offer s (inl has) = inl has
  waits_offer s (inr listed) =
      inr (record { n = listed.n; it = listed.it; there = listed.there; later = (let own = listed.own in omega arith); value = listed.value })

  grows_to : IsGrown graph room most book (length old) taken.taken old mid
  grows_to =
      grown graph room most book (length old) taken.taken old mid short (omega arith) between.laid_out (λ s has. waits_placed s (taken.each s has))
      (λ s has. waits_fresh graph room most next latest old book near far next (omega arith) between s (taken.each s has)) taken.taking

  mid_is : rows_of book.entries mid ≡ rows_of book.entries old ++ rows_of book.entries grows_to.layer
  mid_is = ap (rows_of book.entries) grows_to.more ∙ rows_more book.entries old grows_to.layer

  capped_same : (s : Reach) → s.length ≡ next → capped most s ≡ s
  capped_same s long = step (past_or most s)
    where
      step : ((most < s.length) × (capped most s ≡ capped_if true most s)) ⊎ ((s.length ≤ most) × (capped most s ≡ s)) → capped most s ≡ s
      step (inl past) = absurd (let it = past.0 in omega arith)
      step (inr within) = within.1

  layer_of : (r : Row) → Has (rows_of book.entries grows_to.layer) r
      → Offers r × (r.length ≡ next) × ¬ (Known (rows_of book.entries old) r.node)
  layer_of r has =
      let its = grows_to.each r has in
      let waits = taken.each its.0 its.1 in
      let row_is : row_of book.entries its.0 ≡ r = ap (row_of book.entries) (sym (capped_same its.0 (waits_long its.0 waits))) ∙ its.2 in (
        (its.0, waits_offer its.0 waits, row_is),
        ap (λ (x : Row). x.length) (sym row_is) ∙ waits_long its.0 waits,
        its.3,
      )

  layer_linked : (it : Item Reach) → Has grows_to.layer it → it.value.length ≤ most → HasLink graph (rows_of book.entries old) book.entries it.value
  layer_linked it has within =
      let its = grows_to.values it has in
      let waits = taken.each its.0 its.1 in
      subst (HasLink graph (rows_of book.entries old) book.entries) (sym (its.2 ∙ capped_same its.0 (waits_long its.0 waits)))
      (between.offers_linked its.0 (waits_offer its.0 waits))

  known_at : (o : Row) (s : Reach) → Waits near far next s → row_of book.entries s ≡ o
      → Known (rows_of book.entries old ++ rows_of book.entries grows_to.layer) o.node
  known_at o s waits is =
      let known = grows_to.known s (taken.all s waits) in
      subst (λ rs. Known rs o.node) mid_is (known.0, known.1, known.2 ∙ ap (λ (r : Row). r.node) is)

  kept_offer : (o : Row) → Offers o → Known (rows_of book.entries old ++ rows_of book.entries grows_to.layer) o.node ⊎ Left o
  kept_offer o its = from its.1
    where
      here : (w : IsWaiting far next its.0) → (w.it.key ≡ next) ⊎ (w.it.key < next) ⊎ (next < w.it.key)
          → Known (rows_of book.entries old ++ rows_of book.entries grows_to.layer) o.node ⊎ Left o
      here w (inl same) = inl (known_at o its.0 (inr (record { n = w.n; it = w.it; there = w.there; own = same; value = w.value })) its.2)
      here w (inr (inl less)) = absurd (let later = w.later in omega arith)
      here w (inr (inr more)) = inr (its.0, record { n = w.n; it = w.it; there = w.there; later = omega arith; value = w.value }, its.2)

      from : Has near its.0 ⊎ IsWaiting far next its.0 → Known (rows_of book.entries old ++ rows_of book.entries grows_to.layer) o.node ⊎ Left o
      from (inl has) = inl (known_at o its.0 (inl has) its.2)
      from (inr w) = here w (cases_order w.it.key next)

  left_long : (s : Reach) → IsWaiting far (suc next) s → next < s.length
  left_long s w = step (key_or most s.length)
    where
      key_is : w.it.key ≡ key_of most s.length
      key_is = (between.far_right w.n w.it w.there).key ∙ ap (λ (r : Reach). key_of most r.length) w.value

      step : ((most < s.length) × (key_of most s.length ≡ suc most)) ⊎ ((s.length ≤ most) × (key_of most s.length ≡ s.length)) → next < s.length
      step (inl past) = let it = past.0 in omega arith
      step (inr within) = let it = within.1 in let later = w.later in let same = key_is in omega arith

  is_taken : IsTaken next (rows_of book.entries old) Offers (rows_of book.entries grows_to.layer) Left
  is_taken = record {
    from = λ o its. (
      its.0,
      inr (record {
        n = its.1.n;
        it = its.1.it;
        there = its.1.there;
        later = (let later = its.1.later in omega arith);
        value = its.1.value;
      }),
      its.2,
    );
    kept = kept_offer;
    each = layer_of;
    later = λ o its. subst (λ (r : Row). next < r.length) its.2 (left_long its.0 its.1);
  }

  pub between_next : (expanded : HasExpanded graph mid (length old) (length mid) book book' near' jumps) → IsPutOff most jumps far far'
      → AreBelow latest' far' → IsBetween graph room most (suc next) latest' mid book' near' far'
  between_next expanded put below = record {
    laid_out = expanded.laid_out;
    near_placed = λ s has. expanded.placed s (Has-left near' jumps s has);
    near_long = λ s has. near_long s (expanded.long s has);
    linked = linked_next graph most book.entries book'.entries old mid grows_to.layer grows_to.more expanded.grows grows_to.laid_out.placed between.linked
        layer_linked;
    offers_linked = λ s offered. offer_linked s offered;
    far_right = λ n it there. far_right n it there (put.each n it there);
    short = λ r has. in_rows r (Has-either (rows_of book.entries old) (rows_of book.entries grows_to.layer) r (subst (λ rs. Has rs r)
        (rows_same ∙ mid_is) has));
    ready = subst (λ rs. IsReady graph (suc next) rs (Stored book'.entries (λ s. Has near' s ⊎ IsWaiting far' (suc next) s))) (sym (rows_same ∙ mid_is))
        (ready_same graph (suc next) (rows_of book.entries old ++ rows_of book.entries grows_to.layer) (λ o. Left o ⊎ Stored book'.entries (Has
        (near' ++ jumps)) o)
        (Stored book'.entries (λ s. Has near' s ⊎ IsWaiting far' (suc next) s)) next_ready there back);
    links = λ up last r is. links up last r is (cases_order (length old) up) (cases_order (length old) last);
    once = subst (λ rs. IsOnce (nodes_in rs)) (sym rows_same) (grows_to.once between.once);
    fits = grows_to.fits between.fits;
  }
    where
      rows_same : rows_of book'.entries mid ≡ rows_of book.entries mid
      rows_same = rows_kept graph book.entries book'.entries expanded.grows mid grows_to.laid_out.placed

      all : AllBrought graph (rows_of book.entries old ++ rows_of book.entries grows_to.layer) (length (rows_of book.entries old))
          (length (rows_of book.entries old ++ rows_of book.entries grows_to.layer)) (Stored book'.entries (Has (near' ++ jumps)))
      all =
          subst (λ rs. AllBrought graph rs (length (rows_of book.entries old)) (length rs) (Stored book'.entries (Has (near' ++ jumps)))) (rows_same ∙ mid_is)
          (subst (λ n. AllBrought graph (rows_of book'.entries mid) n (length (rows_of book'.entries mid)) (Stored book'.entries (Has (near' ++ jumps))))
          (sym (rows_long book.entries old))
          (subst (λ n. AllBrought graph (rows_of book'.entries mid) (length old) n (Stored book'.entries (Has (near' ++ jumps))))
          (sym (rows_long book'.entries mid)) expanded.all))

      next_ready : IsReady graph (suc next) (rows_of book.entries old ++ rows_of book.entries grows_to.layer)
          (λ o. Left o ⊎ Stored book'.entries (Has (near' ++ jumps)) o)
      next_ready =
          ready_next graph framed next (rows_of book.entries old) (rows_of book.entries grows_to.layer) Offers Left
          (Stored book'.entries (Has (near' ++ jumps))) between.ready is_taken all

      stays : (s : Reach) → IsPlaced graph book.entries s → row_of book'.entries s ≡ row_of book.entries s
      stays s placed = row_kept book.entries book'.entries expanded.grows s placed.known

      waiting_placed : (s : Reach) (first : ℕ) → IsWaiting far first s → IsPlaced graph book.entries s
      waiting_placed s first w = subst (IsPlaced graph book.entries) w.value (between.far_right w.n w.it w.there).placed

      new_waiting : (s : Reach) → Has jumps s → suc next ≤ s.length → IsWaiting far' (suc next) s
      new_waiting s has long =
          let its = put.all s has in
          record { n = its.0; it = its.1; there = its.2; later = later its.1 its.4 (key_or most s.length); value = its.3 }
        where
          later : (it : Item Reach) → it.key ≡ key_of most s.length
              → ((most < s.length) × (key_of most s.length ≡ suc most)) ⊎ ((s.length ≤ most) × (key_of most s.length ≡ s.length)) → suc next ≤ it.key
          later it key (inl past) = let is = past.1 in omega arith
          later it key (inr within) = let is = within.1 in omega arith

      there_new : (o : Row) → (its : Stored book'.entries (Has (near' ++ jumps)) o) → suc next ≤ o.length → Has near' its.0 ⊎ Has jumps its.0
          → Stored book'.entries (λ s. Has near' s ⊎ IsWaiting far' (suc next) s) o
      there_new o its long (inl has) = (its.0, inl has, its.2)
      there_new o its long (inr has) = (its.0, inr (new_waiting its.0 has (subst (λ (r : Row). suc next ≤ r.length) (sym its.2) long)), its.2)

      there : (o : Row) → Left o ⊎ Stored book'.entries (Has (near' ++ jumps)) o → Stored book'.entries (λ s. Has near' s ⊎ IsWaiting far' (suc next) s) o
      there o (inl its) = (
        its.0,
        inr (record { n = its.1.n; it = its.1.it; there = put.kept its.1.n its.1.it its.1.there; later = its.1.later; value = its.1.value }),
        stays its.0 (waiting_placed its.0 (suc next) its.1) ∙ its.2,
      )
      there o (inr its) = there_new o its (next_ready.later o (inr its)) (Has-either near' jumps its.0 its.1)

      -- what a link makes is shorter, or is offered with it
      links : (up last : ℕ) (r : Row) → LinkedBy graph (rows_of book'.entries mid) up last r
          → (length old ≡ up) ⊎ (length old < up) ⊎ (up < length old) → (length old ≡ last) ⊎ (length old < last) ⊎ (last < length old)
          → (r.length < suc next) ⊎ OfLink book'.entries (λ s. Has near' s ⊎ IsWaiting far' (suc next) s) up last r
      links up last r is = by
        where
          of_new : IsFrom (length old) up last
              → (r.length < suc next) ⊎ OfLink book'.entries (λ s. Has near' s ⊎ IsWaiting far' (suc next) s) up last r
          of_new late =
              let one = expanded.links up last r (subst (λ rs. LinkedBy graph rs up last r)
              (sym (take_all (rows_of book'.entries mid) (length mid) (let same = rows_long book'.entries mid in omega arith))) is) late in
              let long : suc next ≤ one.0.length =
              subst (λ (x : Row). suc next ≤ x.length) (sym one.2) (next_ready.later r (inr (one.0, one.1, one.2))) in
              inr (one.0, pick one.0 long (Has-either near' jumps one.0 one.1), one.2, one.3, one.4)
            where
              pick : (s : Reach) → suc next ≤ s.length → Has near' s ⊎ Has jumps s → Has near' s ⊎ IsWaiting far' (suc next) s
              pick s long (inl has) = inl has
              pick s long (inr has) = inr (new_waiting s has long)

          of_old : up ≤ length old → last ≤ length old
              → (r.length < suc next) ⊎ OfLink book'.entries (λ s. Has near' s ⊎ IsWaiting far' (suc next) s) up last r
          of_old up_low last_low =
              from (between.links up last r
              (link_front graph (rows_of book.entries old) (rows_of book.entries grows_to.layer) up last r
              (subst (λ rs. LinkedBy graph rs up last r) (rows_same ∙ mid_is) is)
              (let same = rows_long book.entries old in omega arith) (let same = rows_long book.entries old in omega arith)))
            where
              at_key : (s : Reach) → row_of book.entries s ≡ r → s.origin.up ≡ up → s.origin.last ≡ last → (w : IsWaiting far next s)
                  → (w.it.key ≡ next) ⊎ (w.it.key < next) ⊎ (next < w.it.key)
                  → (r.length < suc next) ⊎ OfLink book'.entries (λ s. Has near' s ⊎ IsWaiting far' (suc next) s) up last r
              at_key s row ups lasts w (inl same) =
                  inl (let long = waits_long s (inr (record { n = w.n; it = w.it; there = w.there; own = same; value = w.value })) in
                  let is = ap (λ (x : Row). x.length) row in omega arith)
              at_key s row ups lasts w (inr (inl less)) = absurd (let later = w.later in omega arith)
              at_key s row ups lasts w (inr (inr more)) = inr (
                s,
                inr (record { n = w.n; it = w.it; there = put.kept w.n w.it w.there; later = omega arith; value = w.value }),
                stays s (waiting_placed s next w) ∙ row,
                ups,
                lasts,
              )

              from : (r.length < next) ⊎ OfLink book.entries (λ s. Has near s ⊎ IsWaiting far next s) up last r
                  → (r.length < suc next) ⊎ OfLink book'.entries (λ s. Has near' s ⊎ IsWaiting far' (suc next) s) up last r
              from (inl less) = inl (omega arith)
              from (inr (s, inl has, row, ups, lasts)) =
                  inl (let long = between.near_long s has in let is = ap (λ (x : Row). x.length) row in omega arith)
              from (inr (s, inr w, row, ups, lasts)) = at_key s row ups lasts w (cases_order w.it.key next)

          by : (length old ≡ up) ⊎ (length old < up) ⊎ (up < length old) → (length old ≡ last) ⊎ (length old < last) ⊎ (last < length old)
              → (r.length < suc next) ⊎ OfLink book'.entries (λ s. Has near' s ⊎ IsWaiting far' (suc next) s) up last r
          by (inr (inl late)) other = of_new (inl late)
          by (inl low) (inr (inl late)) = of_new (inr late)
          by (inl low) (inl also) = of_old (omega arith) (omega arith)
          by (inl low) (inr (inr also)) = of_old (omega arith) (omega arith)
          by (inr (inr low)) (inr (inl late)) = of_new (inr late)
          by (inr (inr low)) (inl also) = of_old (omega arith) (omega arith)
          by (inr (inr low)) (inr (inr also)) = of_old (omega arith) (omega arith)

      back_waiting : (o : Row) (s : Reach) → row_of book'.entries s ≡ o → (w : IsWaiting far' (suc next) s)
          → (slice_get far w.n ≡ Some w.it) ⊎ (Has jumps w.it.value × (w.it.key ≡ key_of most w.it.value.length))
          → Left o ⊎ Stored book'.entries (Has (near' ++ jumps)) o
      back_waiting o s is w (inl at) =
          let old_one : IsWaiting far (suc next) s = record { n = w.n; it = w.it; there = at; later = w.later; value = w.value } in
          inl (s, old_one, sym (stays s (waiting_placed s (suc next) old_one)) ∙ is)
      back_waiting o s is w (inr new) = inr (s, Has-right near' jumps s (subst (Has jumps) w.value new.0), is)

      back_one : (o : Row) (s : Reach) → row_of book'.entries s ≡ o → Has near' s ⊎ IsWaiting far' (suc next) s
          → Left o ⊎ Stored book'.entries (Has (near' ++ jumps)) o
      back_one o s is (inl has) = inr (s, Has-left near' jumps s has, is)
      back_one o s is (inr w) = back_waiting o s is w (put.each w.n w.it w.there)

      back : (o : Row) → Stored book'.entries (λ s. Has near' s ⊎ IsWaiting far' (suc next) s) o → Left o ⊎ Stored book'.entries (Has (near' ++ jumps)) o
      back o its = back_one o its.0 its.2 its.1

      near_long : (s : Reach) → (n : ℕ) × (it : Item Reach) × (length old ≤ n) × (slice_get mid n ≡ Some it) × (s.length ≡ suc it.value.length)
          → s.length ≡ suc next
      near_long s its =
          let at : slice_get (rows_of book.entries old ++ rows_of book.entries grows_to.layer) its.0 ≡ Some (row_of book.entries its.1.value) =
          subst (λ rs. slice_get rs its.0 ≡ Some (row_of book.entries its.1.value)) mid_is (rows_at book.entries mid its.0 its.1 its.3) in
          let in_layer = behind (rows_of book.entries old) (rows_of book.entries grows_to.layer) its.0 (row_of book.entries its.1.value)
          (subst (λ n. n ≤ its.0) (sym (rows_long book.entries old)) its.2) at in
          its.4 ∙ ap (λ n. suc n) (layer_of (row_of book.entries its.1.value) in_layer).1

      waiting_linked : (s : Reach) → (w : IsWaiting far' (suc next) s)
          → (slice_get far w.n ≡ Some w.it) ⊎ (Has jumps w.it.value × (w.it.key ≡ key_of most w.it.value.length))
          → HasLink graph (rows_of book'.entries mid) book'.entries s
      waiting_linked s w (inl at) =
          let before : IsWaiting far next s = record { n = w.n; it = w.it; there = at; later = (let later = w.later in omega arith); value = w.value } in
          subst (λ rs. HasLink graph rs book'.entries s) (sym (rows_same ∙ mid_is))
          (link_more graph (rows_of book.entries old) (rows_of book.entries grows_to.layer) book'.entries s
          (link_kept graph (rows_of book.entries old) book.entries book'.entries s expanded.grows (waiting_placed s next before)
          (between.offers_linked s (inr before))))
      waiting_linked s w (inr new) = expanded.linked s (Has-right near' jumps s (subst (Has jumps) w.value new.0))

      offer_linked : (s : Reach) → Has near' s ⊎ IsWaiting far' (suc next) s → HasLink graph (rows_of book'.entries mid) book'.entries s
      offer_linked s (inl has) = expanded.linked s (Has-left near' jumps s has)
      offer_linked s (inr w) = waiting_linked s w (put.each w.n w.it w.there)

      far_right : (n : ℕ) (it : Item Reach) → slice_get far' n ≡ Some it
          → (slice_get far n ≡ Some it) ⊎ (Has jumps it.value × (it.key ≡ key_of most it.value.length)) → IsFarItem graph most latest' book'.entries it
      far_right n it at (inl before) =
          let its = between.far_right n it before in
          record { placed = placed_kept graph book.entries book'.entries expanded.grows it.value its.placed; key = its.key; below = below n it at }
      far_right n it at (inr new) = record { placed = expanded.placed it.value (Has-right near' jumps it.value new.0); key = new.1; below = below n it at }

      in_rows : (r : Row) → Has (rows_of book.entries old) r ⊎ Has (rows_of book.entries grows_to.layer) r → r.length < suc next
      in_rows r (inl has) = let less = between.short r has in omega arith
      in_rows r (inr has) = let is = (layer_of r has).1 in omega arith

-- or there was no room
pub between_full : (graph : FlowGraph) → IsFramed graph → (room most next latest : ℕ) (rows : List (Item Reach)) (book : Book) (near : List Reach)
    (far : List (Item Reach)) → most ≤ 1000000 → IsBetween graph room most next latest rows book near far
    → IsFull room most (Waits near far next) rows → IsTooMany graph room
between_full graph framed room most next latest rows book near far short between full =
    too_many graph room most book (length rows) (Waits near far next) rows short (omega arith) between.laid_out
    (waits_fresh graph room most next latest rows book near far next (omega arith) between) placed sound within between.once full
  where
    placed : (s : Reach) → Waits near far next s → IsPlaced graph book.entries s
    placed s (inl has) = between.near_placed s has
    placed s (inr listed) = subst (IsPlaced graph book.entries) listed.value (between.far_right listed.n listed.it listed.there).placed

    within : (r : Row) → Has (rows_of book.entries rows) r → IsWithin graph r.node
    within = built_within graph framed (rows_of book.entries rows) between.ready.built

    offered : (s : Reach) → Waits near far next s → Has near s ⊎ IsWaiting far next s
    offered s (inl has) = inl has
    offered s (inr listed) =
        inr (record { n = listed.n; it = listed.it; there = listed.there; later = (let own = listed.own in omega arith); value = listed.value })

    sound : (s : Reach) → Waits near far next s → IsWithin graph (node_of book.entries s)
    sound s waits =
        candidate_within graph framed (rows_of book.entries rows) within (row_of book.entries s)
        (between.ready.sound (row_of book.entries s) (s, offered s waits, refl))
