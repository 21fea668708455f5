-- A row is expanded: what it brings is offered, and it is listed as a caller or an end.
use Rattle.std.proofs.Common.{◌≡◌, ◌<◌, ℕ, zero, suc, Bool, true, false, List, [], ◌∷◌, ◌++◌, inl, inr, ◌⊎◌, refl, ap, sym, ◌∙◌, Some, subst, arith, length, slice_get, map, append_assoc, append-nil, Result, Ok, Err, OnOk}
use Rattle.std.proofs.lemmas.Bool.{cases_order}
use Rattle.hs_search.proofs.Calling.{node_kept, placed_kept}
use Rattle.hs_search.proofs.Linking.{link_back, link_on}
use Rattle.hs_search.proofs.Listing.{some_is, get_within, get_either}
use Rattle.hs_search.specs.Laws.Membership.{Has-left, Has-right, Has-either, Has-map, map-Has}
use Rattle.hs_search.proofs.Making.{Done, done_has, done_of, item_last, item_more, on_return, on_step}
use Rattle.hs_search.proofs.Parting.{row_there, take_below, take_there}
use Rattle.hs_search.proofs.Entering.{AfterCall, call_offered}
use Rattle.hs_search.specs.Bringing.{AreFit, AreRows, Book, CallOffered, EndOffered, item_of, origin_back, step_back, step_on}
use Rattle.hs_search.specs.Graphs.{FlowGraph, Has, IsFramed}
use Rattle.hs_search.specs.Layout.{IsCaller, IsCalls, IsEnd, IsExpanded, IsItem, IsLaidOut, IsPlaced}
use Rattle.hs_search.specs.Links.{HasLink, IsFrom, LinkedBy, OfLink}
use Rattle.hs_search.specs.Rounds.{Row, BroughtBy, by_step, by_call, as_caller, as_end, entered_by, returned, stepped}
use Rattle.hs_search.specs.Storing.{call_at, node_of, row_of, rows_of}
use Rattle.hs_search.specs.declared.graph.Node.{Node}
use Rattle.hs_search.specs.declared.lists.Item.{Item}
use Rattle.hs_search.specs.declared.reach.Reach.{Reach}

-- ---- the steps, and the call that ends there

-- the rows are laid out with one more
laid_next : (graph : FlowGraph) (rows : List (Item Reach)) (number : ℕ) (it : Item Reach) (old mid new : Book) (near near' jumps jumps' : List Reach)
    → IsLaidOut graph rows old number → AfterCall graph rows number it old mid near near' jumps jumps' → new.entries ≡ mid.entries → new.callers ≡ mid.callers
    → ((n : ℕ) (its : Item ℕ) → slice_get new.ends n ≡ Some its → IsEnd rows (suc number) its)
    → ((n : ℕ) (row : Item Reach) → n < suc number → slice_get rows n ≡ Some row → graph.ends (node_of mid.entries row.value) ≡ true
    → IsItem new.ends n (λ key. key ≡ row.value.call))
    → IsLaidOut graph rows new (suc number)
laid_next graph rows number it old mid new near near' jumps jumps' laid after same_entries same_callers end_ ends = record {
  calls = subst (IsCalls graph) (sym same_entries) after.calls;
  keys = laid.keys;
  placed = λ n its at. subst (λ es. IsPlaced graph es its.value) (sym same_entries)
      (placed_kept graph old.entries mid.entries after.grows its.value (laid.placed n its at));
  small = laid.small;
  caller = λ n its at. subst (λ es. IsCaller graph rows es (suc number) its) (sym same_entries)
      (after.caller n its (subst (λ cs. slice_get cs n ≡ Some its) same_callers at));
  callers = λ n row b below at enter.
      subst (λ es. IsItem new.callers n (λ key. (key < length es) × (call_at es key ≡ b))) (sym same_entries)
      (subst (λ cs. IsItem cs n (λ key. (key < length mid.entries) × (call_at mid.entries key ≡ b))) (sym same_callers)
      (after.callers n row b below at (subst (λ es. graph.enters (node_of es row.value) ≡ Some b) same_entries enter)));
  end_ = end_;
  ends = λ n row below at stops. ends n row below at (subst (λ es. graph.ends (node_of es row.value) ≡ true) same_entries stops);
}

-- everything that the row brings, if its steps and the returns that it makes as an end are offered too
module _ (graph : FlowGraph) (framed : IsFramed graph) (rows : List (Item Reach)) (number : ℕ) (it : Item Reach) (old mid new : Book)
    (near near_on near' jumps jumps_on jumps' : List Reach) (there : slice_get rows number ≡ Some it) (laid : IsLaidOut graph rows old number) where
  all_brought : near_on ≡ near ++ map (step_on (suc number) it.value) (graph.steps (node_of old.entries it.value))
      → (after : AfterCall graph rows number it old mid near_on near' jumps jumps_on) → new.entries ≡ mid.entries → IsLaidOut graph rows new (suc number)
      → (backs : List Reach) → jumps' ≡ jumps_on ++ backs
      → ((s : Reach) → Has backs s → (k : ℕ) × (c : Item Reach) × (y : Node) × (k < suc number) × (slice_get rows k ≡ Some c)
      × (graph.enters (node_of mid.entries c.value) ≡ Some (graph.entry (node_of mid.entries it.value)))
      × (graph.leaves (node_of mid.entries c.value) (node_of mid.entries it.value) ≡ Some y)
      × (step_back (origin_back (suc k) (suc number)) c.value it.value y ≡ s))
      → ((k : ℕ) (c : Item Reach) (y : Node) → k < suc number → slice_get rows k ≡ Some c
      → graph.enters (node_of mid.entries c.value) ≡ Some (graph.entry (node_of mid.entries it.value))
      → graph.leaves (node_of mid.entries c.value) (node_of mid.entries it.value) ≡ Some y
      → Has backs (step_back (origin_back (suc k) (suc number)) c.value it.value y))
      → IsExpanded graph rows number it old new near near' jumps jumps'
  all_brought on after same laid_new backs backs_is each all = record {
    laid_out = laid_new;
    grows = (after.grows.0, same ∙ after.grows.1);
    steps = map (step_on (suc number) it.value) (graph.steps (node_of old.entries it.value)) ++ after.steps;
    returns = after.returns ++ backs;
    near_is = after.near_is ∙ ap (λ ns. ns ++ after.steps) on ∙ append_assoc near (map (step_on (suc number) it.value) (graph.steps
        (node_of old.entries it.value))) after.steps;
    jumps_is = backs_is ∙ ap (λ js. js ++ backs) after.jumps_is ∙ append_assoc jumps after.returns backs;
    placed = λ s has. subst (λ es. IsPlaced graph es s) (sym same) (of s has).0;
    linked = λ s has. linked s has;
    long = λ s has. long s (Has-either (map (step_on (suc number) it.value) (graph.steps (node_of old.entries it.value))) after.steps s has);
    from = λ s has. subst (λ es. BroughtBy graph (Done es rows number) (row_of es it.value) (row_of es s)) (sym same) (of s has).1;
    brought = λ o by. subst (λ es. (s : Reach) × Has ((map (step_on (suc number) it.value) (graph.steps (node_of old.entries it.value)) ++ after.steps)
        ++ (after.returns ++ backs)) s × (row_of es s ≡ o)) (sym same)
        (brought o (subst (λ es. BroughtBy graph (Done es rows number) (row_of es it.value) o) same by));
    links = subst (λ es. (up last : ℕ) (r : Row) → LinkedBy graph (Done es rows number) up last r → IsFrom number up last
        → OfLink es (Has ((map (step_on (suc number) it.value) (graph.steps (node_of old.entries it.value)) ++ after.steps) ++ (after.returns ++ backs)))
        up last r) (sym same) links;
  }
    where
      placed_now : IsPlaced graph mid.entries it.value
      placed_now = placed_kept graph old.entries mid.entries after.grows it.value (laid.placed number it there)

      node_now : node_of mid.entries it.value ≡ node_of old.entries it.value
      node_now = node_kept old.entries mid.entries after.grows it.value (laid.placed number it there).known

      step_of : (s : Reach) → (y : Node) × Has (graph.steps (node_of old.entries it.value)) y × (step_on (suc number) it.value y ≡ s)
          → IsPlaced graph mid.entries s × BroughtBy graph (Done mid.entries rows number) (row_of mid.entries it.value) (row_of mid.entries s)
      step_of s its =
          let step : Has (graph.steps (node_of mid.entries it.value)) its.0 = subst (λ n. Has (graph.steps n) its.0) (sym node_now) its.1 in
          let made = on_step graph framed mid.entries (suc number) it.value its.0 placed_now step in (
            subst (IsPlaced graph mid.entries) its.2 made.0,
            subst (λ (r : Reach). BroughtBy graph (Done mid.entries rows number) (row_of mid.entries it.value) (row_of mid.entries r)) its.2
                (subst (BroughtBy graph (Done mid.entries rows number) (row_of mid.entries it.value)) (sym made.1) (by_step its.0 step)),
          )

      back_of : (s : Reach) → Has backs s
          → IsPlaced graph mid.entries s × BroughtBy graph (Done mid.entries rows number) (row_of mid.entries it.value) (row_of mid.entries s)
      back_of s has =
          let its = each s has in
          let c_placed = placed_kept graph old.entries mid.entries after.grows its.1.value (laid.placed its.0 its.1 its.4) in
          let made = on_return graph framed mid.entries (origin_back (suc its.0) (suc number)) its.1.value it.value its.2 c_placed its.6 in (
            subst (IsPlaced graph mid.entries) its.7 made.0,
            subst (λ (r : Reach). BroughtBy graph (Done mid.entries rows number) (row_of mid.entries it.value) (row_of mid.entries r)) its.7
                (subst (BroughtBy graph (Done mid.entries rows number) (row_of mid.entries it.value)) (sym made.1)
                (as_end (row_of mid.entries its.1.value) its.2 (done_has mid.entries rows number its.0 its.1 its.4 its.3) its.5 its.6)),
          )

      link_step : (s : Reach) → (y : Node) × Has (graph.steps (node_of old.entries it.value)) y × (step_on (suc number) it.value y ≡ s)
          → HasLink graph (rows_of mid.entries rows) mid.entries s
      link_step s its =
          let step : Has (graph.steps (node_of mid.entries it.value)) its.0 = subst (λ n. Has (graph.steps n) its.0) (sym node_now) its.1 in
          subst (HasLink graph (rows_of mid.entries rows) mid.entries) its.2
          (link_on graph mid.entries rows number it its.0 there step (on_step graph framed mid.entries (suc number) it.value its.0 placed_now step).1)

      link_end : (s : Reach) → Has backs s → HasLink graph (rows_of mid.entries rows) mid.entries s
      link_end s has =
          let its = each s has in
          let c_placed = placed_kept graph old.entries mid.entries after.grows its.1.value (laid.placed its.0 its.1 its.4) in
          let made = on_return graph framed mid.entries (origin_back (suc its.0) (suc number)) its.1.value it.value its.2 c_placed its.6 in
          subst (HasLink graph (rows_of mid.entries rows) mid.entries) its.7
          (link_back graph mid.entries rows its.0 number its.1 it its.2 its.4 there its.5 its.6 made.1)

      link_near : (s : Reach) → Has (map (step_on (suc number) it.value) (graph.steps (node_of old.entries it.value))) s ⊎ Has after.steps s
          → HasLink graph (rows_of mid.entries rows) mid.entries s
      link_near s (inl has) = link_step s (map-Has (step_on (suc number) it.value) (graph.steps (node_of old.entries it.value)) s has)
      link_near s (inr has) = after.linked s (Has-left after.steps after.returns s has)

      link_far : (s : Reach) → Has after.returns s ⊎ Has backs s → HasLink graph (rows_of mid.entries rows) mid.entries s
      link_far s (inl has) = after.linked s (Has-right after.steps after.returns s has)
      link_far s (inr has) = link_end s has

      link_either : (s : Reach) → Has (map (step_on (suc number) it.value) (graph.steps (node_of old.entries it.value)) ++ after.steps) s
          ⊎ Has (after.returns ++ backs) s → HasLink graph (rows_of mid.entries rows) mid.entries s
      link_either s (inl has) = link_near s (Has-either (map (step_on (suc number) it.value) (graph.steps (node_of old.entries it.value))) after.steps s has)
      link_either s (inr has) = link_far s (Has-either after.returns backs s has)

      linked : (s : Reach) → Has ((map (step_on (suc number) it.value) (graph.steps (node_of old.entries it.value)) ++ after.steps) ++
          (after.returns ++ backs)) s
          → HasLink graph (rows_of new.entries rows) new.entries s
      linked s has =
          subst (λ es. HasLink graph (rows_of es rows) es s) (sym same)
          (link_either s (Has-either (map (step_on (suc number) it.value) (graph.steps (node_of old.entries it.value)) ++ after.steps)
          (after.returns ++ backs) s has))

      after_of : (s : Reach) → Has (after.steps ++ after.returns) s
          → IsPlaced graph mid.entries s × BroughtBy graph (Done mid.entries rows number) (row_of mid.entries it.value) (row_of mid.entries s)
      after_of s has = (after.placed s has, after.from s has)

      of_near : (s : Reach) → Has (map (step_on (suc number) it.value) (graph.steps (node_of old.entries it.value))) s ⊎ Has after.steps s
          → IsPlaced graph mid.entries s × BroughtBy graph (Done mid.entries rows number) (row_of mid.entries it.value) (row_of mid.entries s)
      of_near s (inl has) = step_of s (map-Has (step_on (suc number) it.value) (graph.steps (node_of old.entries it.value)) s has)
      of_near s (inr has) = after_of s (Has-left after.steps after.returns s has)

      of_far : (s : Reach) → Has after.returns s ⊎ Has backs s
          → IsPlaced graph mid.entries s × BroughtBy graph (Done mid.entries rows number) (row_of mid.entries it.value) (row_of mid.entries s)
      of_far s (inl has) = after_of s (Has-right after.steps after.returns s has)
      of_far s (inr has) = back_of s has

      of_either : (s : Reach) → Has (map (step_on (suc number) it.value) (graph.steps (node_of old.entries it.value)) ++ after.steps) s
          ⊎ Has (after.returns ++ backs) s
          → IsPlaced graph mid.entries s × BroughtBy graph (Done mid.entries rows number) (row_of mid.entries it.value) (row_of mid.entries s)
      of_either s (inl has) = of_near s (Has-either (map (step_on (suc number) it.value) (graph.steps (node_of old.entries it.value))) after.steps s has)
      of_either s (inr has) = of_far s (Has-either after.returns backs s has)

      of : (s : Reach) → Has ((map (step_on (suc number) it.value) (graph.steps (node_of old.entries it.value)) ++ after.steps) ++ (after.returns ++ backs)) s
          → IsPlaced graph mid.entries s × BroughtBy graph (Done mid.entries rows number) (row_of mid.entries it.value) (row_of mid.entries s)
      of s has =
          of_either s (Has-either (map (step_on (suc number) it.value) (graph.steps (node_of old.entries it.value)) ++ after.steps) (after.returns ++ backs)
          s has)

      long_step : (s : Reach) → (y : Node) × Has (graph.steps (node_of old.entries it.value)) y × (step_on (suc number) it.value y ≡ s)
          → s.length ≡ suc it.value.length
      long_step s its = ap (λ (r : Reach). r.length) (sym its.2)

      long : (s : Reach) → Has (map (step_on (suc number) it.value) (graph.steps (node_of old.entries it.value))) s ⊎ Has after.steps s
          → s.length ≡ suc it.value.length
      long s (inl has) = long_step s (map-Has (step_on (suc number) it.value) (graph.steps (node_of old.entries it.value)) s has)
      long s (inr has) = after.long s has

      in_near : (s : Reach) → Has (map (step_on (suc number) it.value) (graph.steps (node_of old.entries it.value)) ++ after.steps) s
          → Has ((map (step_on (suc number) it.value) (graph.steps (node_of old.entries it.value)) ++ after.steps) ++ (after.returns ++ backs)) s
      in_near s has = Has-left (map (step_on (suc number) it.value) (graph.steps (node_of old.entries it.value)) ++ after.steps) (after.returns ++ backs) s has

      in_far : (s : Reach) → Has (after.returns ++ backs) s
          → Has ((map (step_on (suc number) it.value) (graph.steps (node_of old.entries it.value)) ++ after.steps) ++ (after.returns ++ backs)) s
      in_far s has = Has-right (map (step_on (suc number) it.value) (graph.steps (node_of old.entries it.value)) ++ after.steps) (after.returns ++ backs) s has

      in_after : (s : Reach) → Has after.steps s ⊎ Has after.returns s
          → Has ((map (step_on (suc number) it.value) (graph.steps (node_of old.entries it.value)) ++ after.steps) ++ (after.returns ++ backs)) s
      in_after s (inl has) = in_near s (Has-right (map (step_on (suc number) it.value) (graph.steps (node_of old.entries it.value))) after.steps s has)
      in_after s (inr has) = in_far s (Has-left after.returns backs s has)

      made_after : (o : Row) → (s : Reach) × Has (after.steps ++ after.returns) s × (row_of mid.entries s ≡ o)
          → (s : Reach) × Has ((map (step_on (suc number) it.value) (graph.steps (node_of old.entries it.value)) ++ after.steps) ++ (after.returns ++ backs)) s
          × (row_of mid.entries s ≡ o)
      made_after o its = (its.0, in_after its.0 (Has-either after.steps after.returns its.0 its.1), its.2)

      brought : (o : Row) → BroughtBy graph (Done mid.entries rows number) (row_of mid.entries it.value) o
          → (s : Reach) × Has ((map (step_on (suc number) it.value) (graph.steps (node_of old.entries it.value)) ++ after.steps) ++ (after.returns ++ backs)) s
          × (row_of mid.entries s ≡ o)
      brought _ (by_step y step) = (
        step_on (suc number) it.value y,
        in_near (step_on (suc number) it.value y) (Has-left (map (step_on (suc number) it.value) (graph.steps (node_of old.entries it.value))) after.steps
            (step_on (suc number) it.value y)
            (Has-map (step_on (suc number) it.value) (graph.steps (node_of old.entries it.value)) y (subst (λ n. Has (graph.steps n) y) node_now step))),
        (on_step graph framed mid.entries (suc number) it.value y placed_now step).1,
      )
      brought _ (by_call b enter) =
          (let its = after.by_call b enter in made_after (entered_by (row_of mid.entries it.value) b) (its.0, its.1, its.2))
      brought _ (as_caller e y has enter leave) = from_row (done_of mid.entries rows number e has)
        where
          from_row : (k : ℕ) × (x : Item Reach) × (k < suc number) × (slice_get rows k ≡ Some x) × (row_of mid.entries x.value ≡ e)
              → (s : Reach) × Has ((map (step_on (suc number) it.value) (graph.steps (node_of old.entries it.value)) ++ after.steps) ++
              (after.returns ++ backs)) s
              × (row_of mid.entries s ≡ returned (row_of mid.entries it.value) e y)
          from_row its =
              let enter' = subst (λ (r : Row). graph.enters (node_of mid.entries it.value) ≡ Some (graph.entry r.node)) (sym its.4) enter in
              let leave' = subst (λ (r : Row). graph.leaves (node_of mid.entries it.value) r.node ≡ Some y) (sym its.4) leave in
              let one = after.as_caller its.0 its.1 y its.2 its.3 enter' leave' in
              let made = made_after (returned (row_of mid.entries it.value) (row_of mid.entries its.1.value) y) (one.0, one.1, one.2) in
              (made.0, made.1, made.2 ∙ ap (λ (r : Row). returned (row_of mid.entries it.value) r y) its.4)
      brought _ (as_end c y has enter leave) = from_row (done_of mid.entries rows number c has)
        where
          from_row : (k : ℕ) × (x : Item Reach) × (k < suc number) × (slice_get rows k ≡ Some x) × (row_of mid.entries x.value ≡ c)
              → (s : Reach) × Has ((map (step_on (suc number) it.value) (graph.steps (node_of old.entries it.value)) ++ after.steps) ++
              (after.returns ++ backs)) s
              × (row_of mid.entries s ≡ returned c (row_of mid.entries it.value) y)
          from_row its =
              let enter' = subst (λ (r : Row). graph.enters r.node ≡ Some (graph.entry (node_of mid.entries it.value))) (sym its.4) enter in
              let leave' = subst (λ (r : Row). graph.leaves r.node (node_of mid.entries it.value) ≡ Some y) (sym its.4) leave in
              let c_placed = placed_kept graph old.entries mid.entries after.grows its.1.value (laid.placed its.0 its.1 its.3) in (
                step_back (origin_back (suc its.0) (suc number)) its.1.value it.value y,
                in_far (step_back (origin_back (suc its.0) (suc number)) its.1.value it.value y)
                    (Has-right after.returns backs (step_back (origin_back (suc its.0) (suc number)) its.1.value it.value y)
                    (all its.0 its.1 y its.2 its.3 enter' leave')),
                (on_return graph framed mid.entries (origin_back (suc its.0) (suc number)) its.1.value it.value y c_placed leave').1
                    ∙ ap (λ (r : Row). returned r (row_of mid.entries it.value) y) its.4,
              )

      -- the row itself
      own : (k : ℕ) (x : Row) → slice_get (Done mid.entries rows number) k ≡ Some x → number < suc k → (k ≡ number) × (row_of mid.entries it.value ≡ x)
      own k x at low =
          let below = take_below (rows_of mid.entries rows) (suc number) k x at in
          let its = row_there mid.entries rows k x (take_there (rows_of mid.entries rows) (suc number) k x at) in
          let same : k ≡ number = omega arith in
          (same, ap (λ (i : Item Reach). row_of mid.entries i.value) (some_is (sym there ∙ ap (slice_get rows) (sym same) ∙ its.1)) ∙ its.2)

      -- or one before it
      done : (k : ℕ) (x : Row) → slice_get (Done mid.entries rows number) k ≡ Some x
          → (its : Item Reach) × (k < suc number) × (slice_get rows k ≡ Some its) × (row_of mid.entries its.value ≡ x)
      done k x at =
          let its = row_there mid.entries rows k x (take_there (rows_of mid.entries rows) (suc number) k x at) in
          (its.0, take_below (rows_of mid.entries rows) (suc number) k x at, its.1, its.2)

      links : (up last : ℕ) (r : Row) → LinkedBy graph (Done mid.entries rows number) up last r → IsFrom number up last
          → OfLink mid.entries (Has ((map (step_on (suc number) it.value) (graph.steps (node_of old.entries it.value)) ++ after.steps) ++
          (after.returns ++ backs))) up last r
      links zero zero r is (inl low) = absurd (omega arith)
      links zero zero r is (inr low) = absurd (omega arith)
      links zero (suc last) r is from = absurd is
      links (suc up) zero r is (inr low) = absurd (omega arith)
      links (suc up) zero r (x, at, inl (y, step, made)) (inl low) =
          let its = own up x at low in
          let step' : Has (graph.steps (node_of mid.entries it.value)) y = subst (λ (z : Row). Has (graph.steps z.node) y) (sym its.1) step in (
            step_on (suc number) it.value y,
            in_near (step_on (suc number) it.value y) (Has-left (map (step_on (suc number) it.value) (graph.steps (node_of old.entries it.value))) after.steps
                (step_on (suc number) it.value y)
                (Has-map (step_on (suc number) it.value) (graph.steps (node_of old.entries it.value)) y (subst (λ n. Has (graph.steps n) y) node_now step'))),
            (on_step graph framed mid.entries (suc number) it.value y placed_now step').1 ∙ ap (λ z. stepped z y) its.1 ∙ made,
            ap (λ n. suc n) (sym its.0),
            refl,
          )
      links (suc up) zero r (x, at, inr (b, enter, made)) (inl low) =
          let its = own up x at low in
          let one = after.by_call b (subst (λ (z : Row). graph.enters z.node ≡ Some b) (sym its.1) enter) in (
            one.0,
            in_after one.0 (Has-either after.steps after.returns one.0 one.1),
            one.2 ∙ ap (λ z. entered_by z b) its.1 ∙ made,
            one.3 ∙ ap (λ n. suc n) (sym its.0),
            one.4,
          )
      links (suc up) (suc last) r (c, e, at_c, at_e, (y, enter, leave, made)) (inl low) =
          let its = own up c at_c low in
          let end_ = done last e at_e in
          let enter' : graph.enters (node_of mid.entries it.value) ≡ Some (graph.entry (node_of mid.entries end_.0.value)) =
          subst (λ (z : Row). graph.enters z.node ≡ Some (graph.entry (node_of mid.entries end_.0.value))) (sym its.1)
          (subst (λ (z : Row). graph.enters c.node ≡ Some (graph.entry z.node)) (sym end_.3) enter) in
          let leave' : graph.leaves (node_of mid.entries it.value) (node_of mid.entries end_.0.value) ≡ Some y =
          subst (λ (z : Row). graph.leaves z.node (node_of mid.entries end_.0.value) ≡ Some y) (sym its.1)
          (subst (λ (z : Row). graph.leaves c.node z.node ≡ Some y) (sym end_.3) leave) in
          let one = after.as_caller last end_.0 y end_.1 end_.2 enter' leave' in (
            one.0,
            in_after one.0 (Has-either after.steps after.returns one.0 one.1),
            one.2 ∙ ap (λ z. returned z (row_of mid.entries end_.0.value) y) its.1 ∙ ap (λ z. returned c z y) end_.3 ∙ made,
            one.3 ∙ ap (λ n. suc n) (sym its.0),
            one.4,
          )
      links (suc up) (suc last) r (c, e, at_c, at_e, (y, enter, leave, made)) (inr low) =
          let its = own last e at_e low in
          let caller = done up c at_c in
          let enter' : graph.enters (node_of mid.entries caller.0.value) ≡ Some (graph.entry (node_of mid.entries it.value)) =
          subst (λ (z : Row). graph.enters z.node ≡ Some (graph.entry (node_of mid.entries it.value))) (sym caller.3)
          (subst (λ (z : Row). graph.enters c.node ≡ Some (graph.entry z.node)) (sym its.1) enter) in
          let leave' : graph.leaves (node_of mid.entries caller.0.value) (node_of mid.entries it.value) ≡ Some y =
          subst (λ (z : Row). graph.leaves z.node (node_of mid.entries it.value) ≡ Some y) (sym caller.3)
          (subst (λ (z : Row). graph.leaves c.node z.node ≡ Some y) (sym its.1) leave) in
          let c_placed = placed_kept graph old.entries mid.entries after.grows caller.0.value (laid.placed up caller.0 caller.2) in (
            step_back (origin_back (suc up) (suc number)) caller.0.value it.value y,
            in_far (step_back (origin_back (suc up) (suc number)) caller.0.value it.value y)
                (Has-right after.returns backs (step_back (origin_back (suc up) (suc number)) caller.0.value it.value y)
                (all up caller.0 y caller.1 caller.2 enter' leave')),
            (on_return graph framed mid.entries (origin_back (suc up) (suc number)) caller.0.value it.value y c_placed leave').1
                ∙ ap (λ z. returned z (row_of mid.entries it.value) y) caller.3 ∙ ap (λ z. returned c z y) its.1 ∙ made,
            refl,
            ap (λ n. suc n) (sym its.0),
          )

-- a row is expanded
pub expanded : (graph : FlowGraph) → IsFramed graph → (rows : List (Item Reach)) (number : ℕ) (it : Item Reach) (node : Node) (old mid new : Book)
    (near near_on near' jumps jumps_on jumps' : List Reach) → slice_get rows number ≡ Some it → IsLaidOut graph rows old number
    → node ≡ node_of old.entries it.value
    → near_on ≡ near ++ map (step_on (suc number) it.value) (graph.steps node)
    → CallOffered graph rows number node it.value (graph.enters node) old mid near_on near' jumps jumps_on
    → EndOffered graph rows number node it.value (graph.ends node) mid new jumps_on jumps'
    → IsExpanded graph rows number it old new near near' jumps jumps'
expanded graph framed rows number it node old mid new near near_on near' jumps jumps_on jumps' there laid node_is on call_part end_part =
    by_end (graph.ends (node_of old.entries it.value)) refl (subst (λ n. EndOffered graph rows number n it.value
    (graph.ends n) mid new jumps_on jumps') node_is end_part)
  where
    after : AfterCall graph rows number it old mid near_on near' jumps jumps_on
    after =
        call_offered graph framed rows number it (graph.enters (node_of old.entries it.value)) old mid near_on near' jumps jumps_on there laid refl
        (subst (λ n. CallOffered graph rows number n it.value (graph.enters n) old mid near_on near' jumps jumps_on) node_is call_part)

    on_old : near_on ≡ near ++ map (step_on (suc number) it.value) (graph.steps (node_of old.entries it.value))
    on_old = subst (λ n. near_on ≡ near ++ map (step_on (suc number) it.value) (graph.steps n)) node_is on

    node_now : node_of mid.entries it.value ≡ node_of old.entries it.value
    node_now = node_kept old.entries mid.entries after.grows it.value (laid.placed number it there).known

    placed_now : IsPlaced graph mid.entries it.value
    placed_now = placed_kept graph old.entries mid.entries after.grows it.value (laid.placed number it there)

    end_wider : (its : Item ℕ) → IsEnd rows number its → IsEnd rows (suc number) its
    end_wider its is = record { row = is.row; there = is.there; below = (let below = is.below in omega arith); call = is.call }

    old_ends : (n : ℕ) (row : Item Reach) → n < number → slice_get rows n ≡ Some row → graph.ends (node_of mid.entries row.value) ≡ true
        → IsItem old.ends n (λ key. key ≡ row.value.call)
    old_ends n row less at stops =
        laid.ends n row less at
        (ap graph.ends (sym (node_kept old.entries mid.entries after.grows row.value (laid.placed n row at).known)) ∙ stops)

    is_row : (n : ℕ) (row : Item Reach) → slice_get rows n ≡ Some row → n ≡ number → it ≡ row
    is_row n row at same = some_is (sym there ∙ subst (λ k. slice_get rows k ≡ Some row) same at)

    by_end : (stops : Bool) → graph.ends (node_of old.entries it.value) ≡ stops
        → EndOffered graph rows number (node_of old.entries it.value) it.value stops mid new jumps_on jumps'
        → IsExpanded graph rows number it old new near near' jumps jumps'
    by_end false is same =
        all_brought graph framed rows number it old mid new near near_on near' jumps jumps_on jumps' there laid on_old after (ap (λ
        (b : Book). b.entries) same.0)
        (laid_next graph rows number it old mid new near_on near' jumps jumps_on laid after (ap (λ (b : Book). b.entries) same.0) (ap (λ
        (b : Book). b.callers) same.0)
        (λ n its at. end_wider its (laid.end_ n its (subst (λ es. slice_get es n ≡ Some its) ends_same at)))
        (λ n row below at stops. subst (λ es. IsItem es n (λ key. key ≡ row.value.call)) (sym ends_same) (ends n row below at stops (cases_order n number))))
        [] (same.1 ∙ sym (append-nil jumps_on)) (λ s has. absurd has) (λ k c y below at enter leave. absurd (wrong c y leave))
      where
        ends_same : new.ends ≡ old.ends
        ends_same = ap (λ (b : Book). b.ends) same.0 ∙ after.ends

        ends : (n : ℕ) (row : Item Reach) → n < suc number → slice_get rows n ≡ Some row → graph.ends (node_of mid.entries row.value) ≡ true
            → (n ≡ number) ⊎ (n < number) ⊎ (number < n) → IsItem old.ends n (λ key. key ≡ row.value.call)
        ends n row below at stops (inr (inr more)) = absurd (omega arith)
        ends n row below at stops (inr (inl less)) = old_ends n row less at stops
        ends n row below at stops (inl here) =
            let own : graph.ends (node_of mid.entries it.value) ≡ true =
            subst (λ (r : Item Reach). graph.ends (node_of mid.entries r.value) ≡ true) (sym (is_row n row at here)) stops in
            let apart : true ≡ false = sym own ∙ ap graph.ends node_now ∙ is in
            absurd cc

        wrong : (c : Item Reach) (y : Node) → graph.leaves (node_of mid.entries c.value) (node_of mid.entries it.value) ≡ Some y → ⊥
        wrong c y leave =
            let apart : true ≡ false = sym (framed.ended (node_of mid.entries c.value) (node_of mid.entries it.value) y leave) ∙ ap graph.ends node_now ∙ is in
            cc
    by_end true is ending =
        all_brought graph framed rows number it old mid new near near_on near' jumps jumps_on jumps' there laid on_old after ending.entries
        (laid_next graph rows number it old mid new near_on near' jumps jumps_on laid after ending.entries ending.callers
        (λ n its at. end_of n its (get_either mid.ends (item_of it.value.call number mid.ends) n its (subst (λ es. slice_get es n ≡ Some its) ending.end_ at)))
        (λ n row below at stops. subst (λ es. IsItem es n (λ key. key ≡ row.value.call)) (sym ending.end_) (ends n row below at stops (cases_order n number))))
        ending.returns.added ending.returns.more (λ s has. each s has) (λ k c y below at enter leave. all k c y below at enter leave)
      where
        end_of : (n : ℕ) (its : Item ℕ) → (slice_get mid.ends n ≡ Some its) ⊎ ((n ≡ length mid.ends) × (item_of it.value.call number mid.ends ≡ its))
            → IsEnd rows (suc number) its
        end_of n its (inl at) = end_wider its (laid.end_ n its (subst (λ es. slice_get es n ≡ Some its) after.ends at))
        end_of n its (inr last) =
            subst (IsEnd rows (suc number)) last.1 (record {
              row = it;
              there = there;
              below =
                  (let less : number < suc number = omega arith in less);
              call = refl;
            })

        ends : (n : ℕ) (row : Item Reach) → n < suc number → slice_get rows n ≡ Some row → graph.ends (node_of mid.entries row.value) ≡ true
            → (n ≡ number) ⊎ (n < number) ⊎ (number < n)
            → IsItem (mid.ends ++ item_of it.value.call number mid.ends ∷ []) n (λ key. key ≡ row.value.call)
        ends n row below at stops (inr (inr more)) = absurd (omega arith)
        ends n row below at stops (inr (inl less)) =
            item_more mid.ends (item_of it.value.call number mid.ends) n (λ key. key ≡ row.value.call)
            (subst (λ es. IsItem es n (λ key. key ≡ row.value.call)) (sym after.ends) (old_ends n row less at stops))
        ends n row below at stops (inl here) =
            subst (λ k. IsItem (mid.ends ++ item_of it.value.call number mid.ends ∷ []) k (λ key. key ≡ row.value.call)) (sym here)
            (item_last mid.ends (item_of it.value.call number mid.ends) (λ key. key ≡ row.value.call)
            (ap (λ (r : Item Reach). r.value.call) (is_row n row at here)))

        each : (s : Reach) → Has ending.returns.added s → (k : ℕ) × (c : Item Reach) × (y : Node) × (k < suc number) × (slice_get rows k ≡ Some c)
            × (graph.enters (node_of mid.entries c.value) ≡ Some (graph.entry (node_of mid.entries it.value)))
            × (graph.leaves (node_of mid.entries c.value) (node_of mid.entries it.value) ≡ Some y)
            × (step_back (origin_back (suc k) (suc number)) c.value it.value y ≡ s)
        each s has =
            let its = ending.returns.each s has in
            let is_caller = after.caller its.0 its.1 its.2 in
            let c_is : its.4.0 ≡ is_caller.row = some_is (sym its.4.2 ∙ is_caller.there) in (
              its.1.value,
              its.4.0,
              its.4.1,
              is_caller.below,
              its.4.2,
              ap (λ (c : Item Reach). graph.enters (node_of mid.entries c.value)) c_is ∙ is_caller.enters
                  ∙ ap (λ n. Some n) (ap (call_at mid.entries) its.3 ∙ sym placed_now.entry),
              ap (graph.leaves (node_of mid.entries its.4.0.value)) node_now ∙ its.4.3,
              its.4.4,
            )

        all : (k : ℕ) (c : Item Reach) (y : Node) → k < suc number → slice_get rows k ≡ Some c
            → graph.enters (node_of mid.entries c.value) ≡ Some (graph.entry (node_of mid.entries it.value))
            → graph.leaves (node_of mid.entries c.value) (node_of mid.entries it.value) ≡ Some y
            → Has ending.returns.added (step_back (origin_back (suc k) (suc number)) c.value it.value y)
        all k c y below at enter leave =
            let has = after.callers k c (graph.entry (node_of mid.entries it.value)) below at enter in
            let key_is : has.it.key ≡ it.value.call =
            after.calls.once has.it.key it.value.call has.key.0 placed_now.known (has.key.1 ∙ placed_now.entry) in
            ending.returns.all has.n has.it (step_back (origin_back (suc k) (suc number)) c.value it.value y) has.there key_is (
              c,
              y,
              subst (λ j. slice_get rows j ≡ Some c) (sym has.value) at,
              ap (graph.leaves (node_of mid.entries c.value)) (sym node_now) ∙ leave,
              ap (λ j. step_back (origin_back (suc j) (suc number)) c.value it.value y) has.value,
            )

-- ---- what is asked of the calls

pub fit_of : (graph : FlowGraph) (rows : List (Item Reach)) (book : Book) (count : ℕ) → IsLaidOut graph rows book count
    → AreFit graph.count (length book.entries) rows
fit_of graph rows book count laid n it there = record {
  at = (laid.placed n it there).within;
  call = (laid.placed n it there).known;
  length = laid.small n it there;
  level = (let short = laid.small n it there in let less = (laid.placed n it there).level in omega arith);
}

pub ends_rows : (graph : FlowGraph) (rows : List (Item Reach)) (book : Book) (count : ℕ) → IsLaidOut graph rows book count → AreRows rows book.ends
ends_rows graph rows book count laid n it there = let is = laid.end_ n it there in get_within rows it.value is.row is.there

pub after_fit : (graph : FlowGraph) (rows : List (Item Reach)) (number : ℕ) (it : Item Reach) (old mid : Book) (near near' jumps jumps' : List Reach)
    → IsLaidOut graph rows old number → AfterCall graph rows number it old mid near near' jumps jumps' → AreFit graph.count (length mid.entries) rows
after_fit graph rows number it old mid near near' jumps jumps' laid after n its there =
    let placed = placed_kept graph old.entries mid.entries after.grows its.value (laid.placed n its there) in
    let short = laid.small n its there in
    let less = placed.level in
    record { at = placed.within; call = placed.known; length = short; level = omega arith }

pub after_rows : (graph : FlowGraph) (rows : List (Item Reach)) (number : ℕ) (it : Item Reach) (old mid : Book) (near near' jumps jumps' : List Reach)
    → AfterCall graph rows number it old mid near near' jumps jumps' → AreRows rows mid.callers
after_rows graph rows number it old mid near near' jumps jumps' after n its there = let is = after.caller n its there in get_within rows its.value is.row
    is.there

pub OnOk-then : {A E : Type 0} (P Q : Type 0) → (P → Q) → (result : Result A E) → OnOk result P → OnOk result Q
OnOk-then P Q then (Ok x) p = then p
OnOk-then P Q then (Err e) p = tt
