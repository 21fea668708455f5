-- The call that a row enters: its number, the caller, and the returns of its ends.
use Rattle.std.proofs.Common.{◌≡◌, ◌<◌, ℕ, suc, true, List, [], ◌∷◌, ◌++◌, inl, inr, ◌⊎◌, refl, ap, sym, ◌∙◌, Option, Some, None, subst, arith, length, slice_get, append-nil}
use Rattle.std.proofs.lemmas.Bool.{cases_order}
use Rattle.hs_search.proofs.Calling.{call_kept, node_kept, grows_none, grows_long, placed_kept, numbered_right, IsNumberedRight}
use Rattle.hs_search.proofs.Linking.{link_back, link_in}
use Rattle.hs_search.proofs.Listing.{some_is, get_either}
use Rattle.hs_search.proofs.Making.{Done, IsMade, done_has, in_call, item_last, item_more, on_return}
use Rattle.hs_search.specs.Bringing.{Book, CallOffered, IsEntering, item_of, origin_back, step_back, step_in}
use Rattle.hs_search.specs.Graphs.{FlowGraph, Has, IsFramed}
use Rattle.hs_search.specs.Layout.{Grows, IsCaller, IsCalls, IsItem, IsLaidOut, IsPlaced}
use Rattle.hs_search.specs.Links.{HasLink, OfLink}
use Rattle.hs_search.specs.Rounds.{BroughtBy, by_call, as_caller, entered_by, returned}
use Rattle.hs_search.specs.Storing.{call_at, node_of, row_of, rows_of}
use Rattle.hs_search.specs.declared.graph.Node.{Node}
use Rattle.hs_search.specs.declared.lists.Item.{Item}
use Rattle.hs_search.specs.declared.reach.Reach.{Reach}

-- ---- the call that it enters

-- after it, the row is listed as a caller and its returns are offered
pub record AfterCall (graph : FlowGraph) (rows : List (Item Reach)) (number : ℕ) (it : Item Reach) (old mid : Book)
    (near near' jumps jumps' : List Reach) : Type 0 where
  pub grows : Grows old.entries mid.entries
  pub calls : IsCalls graph mid.entries
  pub ends : mid.ends ≡ old.ends
  pub caller : (n : ℕ) (its : Item ℕ) → slice_get mid.callers n ≡ Some its → IsCaller graph rows mid.entries (suc number) its
  pub callers : (n : ℕ) (row : Item Reach) (b : Node) → n < suc number → slice_get rows n ≡ Some row → graph.enters (node_of mid.entries row.value) ≡ Some b
      → IsItem mid.callers n (λ key. (key < length mid.entries) × (call_at mid.entries key ≡ b))
  pub steps : List Reach
  pub returns : List Reach
  pub near_is : near' ≡ near ++ steps
  pub jumps_is : jumps' ≡ jumps ++ returns
  pub placed : (s : Reach) → Has (steps ++ returns) s → IsPlaced graph mid.entries s
  pub long : (s : Reach) → Has steps s → s.length ≡ suc it.value.length
  pub linked : (s : Reach) → Has (steps ++ returns) s → HasLink graph (rows_of mid.entries rows) mid.entries s
  pub from : (s : Reach) → Has (steps ++ returns) s
      → BroughtBy graph (Done mid.entries rows number) (row_of mid.entries it.value) (row_of mid.entries s)
  pub by_call : (b : Node) → graph.enters (node_of mid.entries it.value) ≡ Some b
      → OfLink mid.entries (Has (steps ++ returns)) (suc number) 0 (entered_by (row_of mid.entries it.value) b)
  pub as_caller : (k : ℕ) (e : Item Reach) (y : Node) → k < suc number → slice_get rows k ≡ Some e
      → graph.enters (node_of mid.entries it.value) ≡ Some (graph.entry (node_of mid.entries e.value))
      → graph.leaves (node_of mid.entries it.value) (node_of mid.entries e.value) ≡ Some y
      → OfLink mid.entries (Has (steps ++ returns)) (suc number) (suc k) (returned (row_of mid.entries it.value) (row_of mid.entries e.value) y)

none_entered : (graph : FlowGraph) (rows : List (Item Reach)) (number : ℕ) (it : Item Reach) (old : Book) (near jumps : List Reach)
    → slice_get rows number ≡ Some it → IsLaidOut graph rows old number → graph.enters (node_of old.entries it.value) ≡ None
    → AfterCall graph rows number it old old near near jumps jumps
none_entered graph rows number it old near jumps there laid none = record {
  grows = grows_none old.entries;
  calls = laid.calls;
  ends = refl;
  caller = λ n its at. caller (laid.caller n its at);
  callers = λ n row b below at enter. callers n row b below at enter (cases_order n number);
  steps = [];
  returns = [];
  near_is = sym (append-nil near);
  jumps_is = sym (append-nil jumps);
  placed = λ s has. absurd has;
  long = λ s has. absurd has;
  linked = λ s has. absurd has;
  from = λ s has. absurd has;
  by_call = λ b enter. absurd (wrong b enter);
  as_caller = λ k e y below at enter leave. absurd (wrong (graph.entry (node_of old.entries e.value)) enter);
}
  where
    wrong : (b : Node) → graph.enters (node_of old.entries it.value) ≡ Some b → ⊥
    wrong b enter = let apart : None ≡ Some b = sym none ∙ enter in cc

    caller : {its : Item ℕ} → IsCaller graph rows old.entries number its → IsCaller graph rows old.entries (suc number) its
    caller is = record { row = is.row; there = is.there; below = (let below = is.below in omega arith); known = is.known; enters = is.enters }

    callers : (n : ℕ) (row : Item Reach) (b : Node) → n < suc number → slice_get rows n ≡ Some row → graph.enters (node_of old.entries row.value) ≡ Some b
        → (n ≡ number) ⊎ (n < number) ⊎ (number < n) → IsItem old.callers n (λ key. (key < length old.entries) × (call_at old.entries key ≡ b))
    callers n row b below at enter (inr (inl less)) = laid.callers n row b less at enter
    callers n row b below at enter (inr (inr more)) = absurd (omega arith)
    callers n row b below at enter (inl same) =
        let is : it ≡ row = some_is (sym there ∙ subst (λ k. slice_get rows k ≡ Some row) same at) in
        absurd (wrong b (subst (λ (r : Item Reach). graph.enters (node_of old.entries r.value) ≡ Some b) (sym is) enter))

one_entered : (graph : FlowGraph) → IsFramed graph → (rows : List (Item Reach)) (number : ℕ) (it : Item Reach) (old mid : Book)
    (near near' jumps jumps' : List Reach) → slice_get rows number ≡ Some it → IsLaidOut graph rows old number → (b : Node)
    → graph.enters (node_of old.entries it.value) ≡ Some b
    → (entering : IsEntering graph rows number (node_of old.entries it.value) it.value b old mid near near' jumps jumps')
    → IsNumberedRight graph b entering.call old.entries mid.entries
    → AfterCall graph rows number it old mid near near' jumps jumps'
one_entered graph framed rows number it old mid near near' jumps jumps' there laid b enter entering numbered = record {
  grows = numbered.grows;
  calls = numbered.calls;
  ends = entering.ends;
  caller = λ n its at. caller n its (get_either old.callers (item_of entering.call number old.callers) n its (subst
      (λ cs. slice_get cs n ≡ Some its) entering.caller at));
  callers = λ n row b' below at enter'. subst (λ cs. IsItem cs n (λ key. (key < length mid.entries) × (call_at mid.entries key ≡ b'))) (sym entering.caller)
      (callers n row b' below at enter' (cases_order n number));
  steps = step_in (suc number) it.value entering.call b ∷ [];
  returns = entering.returns.added;
  near_is = entering.offered;
  jumps_is = entering.returns.more;
  placed = λ s has. placed s has;
  long = λ s has. long s has;
  linked = λ s has. linked s has;
  from = λ s has. from s has;
  by_call = λ b' enter'. (
    step_in (suc number) it.value entering.call b,
    inl refl,
    made_call.1 ∙ ap (entered_by (row_of mid.entries it.value)) (some_is (sym enters_now ∙ enter')),
    refl,
    refl,
  );
  as_caller = λ k e y below at enter' leave. as_caller_of k e y below at enter' leave;
}
  where
    placed_old : IsPlaced graph old.entries it.value
    placed_old = laid.placed number it there

    placed_now : IsPlaced graph mid.entries it.value
    placed_now = placed_kept graph old.entries mid.entries numbered.grows it.value placed_old

    node_now : node_of mid.entries it.value ≡ node_of old.entries it.value
    node_now = node_kept old.entries mid.entries numbered.grows it.value placed_old.known

    enters_now : graph.enters (node_of mid.entries it.value) ≡ Some b
    enters_now = ap graph.enters node_now ∙ enter

    made_call : IsMade graph mid.entries (step_in (suc number) it.value entering.call b) (entered_by (row_of mid.entries it.value) b)
    made_call = in_call graph framed mid.entries (suc number) it.value entering.call b enters_now numbered.known numbered.begins

    caller : (n : ℕ) (its : Item ℕ) → (slice_get old.callers n ≡ Some its) ⊎ ((n ≡ length old.callers) × (item_of entering.call number old.callers ≡ its))
        → IsCaller graph rows mid.entries (suc number) its
    caller n its (inl at) =
        let is = laid.caller n its at in
        let row_placed = laid.placed its.value is.row is.there in
        record {
          row = is.row;
          there = is.there;
          below = (let below = is.below in omega arith);
          known = (let known = is.known in let long = grows_long old.entries mid.entries numbered.grows in omega arith);
          enters = ap graph.enters (node_kept old.entries mid.entries numbered.grows is.row.value row_placed.known) ∙ is.enters
              ∙ ap (λ c. Some c) (sym (call_kept old.entries mid.entries numbered.grows its.key is.known));
        }
    caller n its (inr last) = subst (IsCaller graph rows mid.entries (suc number)) last.1 (record {
      row = it;
      there = there;
      below = omega arith;
      known = numbered.known;
      enters = enters_now ∙ ap (λ c. Some c) (sym numbered.begins);
    })

    callers : (n : ℕ) (row : Item Reach) (b' : Node) → n < suc number → slice_get rows n ≡ Some row → graph.enters (node_of mid.entries row.value) ≡ Some b'
        → (n ≡ number) ⊎ (n < number) ⊎ (number < n)
        → IsItem (old.callers ++ item_of entering.call number old.callers ∷ []) n (λ key. (key < length mid.entries) × (call_at mid.entries key ≡ b'))
    callers n row b' below at enter' (inr (inr more)) = absurd (omega arith)
    callers n row b' below at enter' (inr (inl less)) =
        let row_placed = laid.placed n row at in
        let has = laid.callers n row b' less at (ap graph.enters (sym
        (node_kept old.entries mid.entries numbered.grows row.value row_placed.known)) ∙ enter') in
        item_more old.callers (item_of entering.call number old.callers) n (λ key. (key < length mid.entries) × (call_at mid.entries key ≡ b')) (record {
          n = has.n;
          it = has.it;
          there = has.there;
          value = has.value;
          key = (
            (let known = has.key.0 in let long = grows_long old.entries mid.entries numbered.grows in omega arith),
            call_kept old.entries mid.entries numbered.grows has.it.key has.key.0 ∙ has.key.1,
          );
        })
    callers n row b' below at enter' (inl same) =
        let is : it ≡ row = some_is (sym there ∙ subst (λ k. slice_get rows k ≡ Some row) same at) in
        let b_is : b ≡ b' = some_is (sym enters_now ∙ subst (λ (r : Item Reach). graph.enters (node_of mid.entries r.value) ≡ Some b') (sym is) enter') in
        subst (λ k. IsItem (old.callers ++ item_of entering.call number old.callers ∷ []) k (λ key. (key < length mid.entries)
        × (call_at mid.entries key ≡ b')))
        (sym same) (item_last old.callers (item_of entering.call number old.callers) (λ key. (key < length mid.entries) × (call_at mid.entries key ≡ b'))
        (numbered.known, numbered.begins ∙ b_is))

    -- a return is what an end makes
    return_of : (s : Reach) → Has entering.returns.added s
        → IsPlaced graph mid.entries s × BroughtBy graph (Done mid.entries rows number) (row_of mid.entries it.value) (row_of mid.entries s)
    return_of s has =
        let its = entering.returns.each s has in
        let is = laid.end_ its.0 its.1 its.2 in
        let e_is : its.4.0 ≡ is.row = some_is (sym its.4.2 ∙ is.there) in
        let e_placed = placed_kept graph old.entries mid.entries numbered.grows is.row.value (laid.placed its.1.value is.row is.there) in
        let leave : graph.leaves (node_of mid.entries it.value) (node_of mid.entries is.row.value) ≡ Some its.4.1 =
        ap (λ n. graph.leaves n (node_of mid.entries is.row.value)) node_now
        ∙ ap (λ (e : Item Reach). graph.leaves (node_of old.entries it.value) (node_of mid.entries e.value)) (sym e_is) ∙ its.4.3 in
        let call_is : is.row.value.call ≡ entering.call = sym is.call ∙ its.3 in
        let entry_is : graph.entry (node_of mid.entries is.row.value) ≡ b = e_placed.entry ∙ ap (call_at mid.entries) call_is ∙ numbered.begins in
        let origin = origin_back (suc number) (suc its.1.value) in
        let made = on_return graph framed mid.entries origin it.value is.row.value its.4.1 placed_now leave in
        let s_is : step_back origin it.value is.row.value its.4.1 ≡ s =
        ap (λ (e : Item Reach). step_back origin it.value e.value its.4.1) (sym e_is) ∙ its.4.4 in (
          subst (IsPlaced graph mid.entries) s_is made.0,
          subst (λ (r : Reach). BroughtBy graph (Done mid.entries rows number) (row_of mid.entries it.value) (row_of mid.entries r)) s_is
              (subst (BroughtBy graph (Done mid.entries rows number) (row_of mid.entries it.value)) (sym made.1)
              (as_caller (row_of mid.entries is.row.value) its.4.1
              (done_has mid.entries rows number its.1.value is.row is.there (let below = is.below in omega arith))
              (enters_now ∙ ap (λ n. Some n) (sym entry_is)) leave)),
        )

    linked_return : (s : Reach) → Has entering.returns.added s → HasLink graph (rows_of mid.entries rows) mid.entries s
    linked_return s has =
        let its = entering.returns.each s has in
        let is = laid.end_ its.0 its.1 its.2 in
        let e_is : its.4.0 ≡ is.row = some_is (sym its.4.2 ∙ is.there) in
        let e_placed = placed_kept graph old.entries mid.entries numbered.grows is.row.value (laid.placed its.1.value is.row is.there) in
        let leave : graph.leaves (node_of mid.entries it.value) (node_of mid.entries is.row.value) ≡ Some its.4.1 =
        ap (λ n. graph.leaves n (node_of mid.entries is.row.value)) node_now
        ∙ ap (λ (e : Item Reach). graph.leaves (node_of old.entries it.value) (node_of mid.entries e.value)) (sym e_is) ∙ its.4.3 in
        let call_is : is.row.value.call ≡ entering.call = sym is.call ∙ its.3 in
        let entry_is : graph.entry (node_of mid.entries is.row.value) ≡ b = e_placed.entry ∙ ap (call_at mid.entries) call_is ∙ numbered.begins in
        let origin = origin_back (suc number) (suc its.1.value) in
        let made = on_return graph framed mid.entries origin it.value is.row.value its.4.1 placed_now leave in
        subst (HasLink graph (rows_of mid.entries rows) mid.entries)
        (ap (λ (e : Item Reach). step_back origin it.value e.value its.4.1) (sym e_is) ∙ its.4.4)
        (link_back graph mid.entries rows number its.1.value it is.row its.4.1 there is.there (enters_now ∙ ap (λ n. Some n) (sym entry_is)) leave made.1)

    linked : (s : Reach) → (step_in (suc number) it.value entering.call b ≡ s) ⊎ Has entering.returns.added s
        → HasLink graph (rows_of mid.entries rows) mid.entries s
    linked s (inl is) =
        subst (HasLink graph (rows_of mid.entries rows) mid.entries) is
        (link_in graph mid.entries rows number it entering.call b there enters_now made_call.1)
    linked s (inr has) = linked_return s has

    call_of : (s : Reach) → step_in (suc number) it.value entering.call b ≡ s
        → IsPlaced graph mid.entries s × BroughtBy graph (Done mid.entries rows number) (row_of mid.entries it.value) (row_of mid.entries s)
    call_of s is = (
      subst (IsPlaced graph mid.entries) is made_call.0,
      subst (λ (r : Reach). BroughtBy graph (Done mid.entries rows number) (row_of mid.entries it.value) (row_of mid.entries r)) is
          (subst (BroughtBy graph (Done mid.entries rows number) (row_of mid.entries it.value)) (sym made_call.1) (by_call b enters_now)),
    )

    placed : (s : Reach) → (step_in (suc number) it.value entering.call b ≡ s) ⊎ Has entering.returns.added s → IsPlaced graph mid.entries s
    placed s (inl is) = (call_of s is).0
    placed s (inr has) = (return_of s has).0

    from : (s : Reach) → (step_in (suc number) it.value entering.call b ≡ s) ⊎ Has entering.returns.added s
        → BroughtBy graph (Done mid.entries rows number) (row_of mid.entries it.value) (row_of mid.entries s)
    from s (inl is) = (call_of s is).1
    from s (inr has) = (return_of s has).1

    long : (s : Reach) → (step_in (suc number) it.value entering.call b ≡ s) ⊎ ⊥ → s.length ≡ suc it.value.length
    long s (inl is) = ap (λ (r : Reach). r.length) (sym is)
    long s (inr no_more) = absurd no_more

    as_caller_of : (k : ℕ) (e : Item Reach) (y : Node) → k < suc number → slice_get rows k ≡ Some e
        → graph.enters (node_of mid.entries it.value) ≡ Some (graph.entry (node_of mid.entries e.value))
        → graph.leaves (node_of mid.entries it.value) (node_of mid.entries e.value) ≡ Some y
        → (s : Reach) × ((step_in (suc number) it.value entering.call b ≡ s) ⊎ Has entering.returns.added s)
        × (row_of mid.entries s ≡ returned (row_of mid.entries it.value) (row_of mid.entries e.value) y) × (s.origin.up ≡ suc number)
        × (s.origin.last ≡ suc k)
    as_caller_of k e y below at enter' leave = at_end (cases_order k number)
      where
        e_placed : IsPlaced graph old.entries e.value
        e_placed = laid.placed k e at

        e_node : node_of mid.entries e.value ≡ node_of old.entries e.value
        e_node = node_kept old.entries mid.entries numbered.grows e.value e_placed.known

        stops : graph.ends (node_of mid.entries e.value) ≡ true
        stops = framed.ended (node_of mid.entries it.value) (node_of mid.entries e.value) y leave

        at_end : (k ≡ number) ⊎ (k < number) ⊎ (number < k)
            → (s : Reach) × ((step_in (suc number) it.value entering.call b ≡ s) ⊎ Has entering.returns.added s)
            × (row_of mid.entries s ≡ returned (row_of mid.entries it.value) (row_of mid.entries e.value) y) × (s.origin.up ≡ suc number)
            × (s.origin.last ≡ suc k)
        at_end (inr (inr more)) = absurd (omega arith)
        at_end (inl same) =
            let is : it ≡ e = some_is (sym there ∙ subst (λ j. slice_get rows j ≡ Some e) same at) in
            let own : graph.ends (node_of mid.entries it.value) ≡ true = subst (λ (r : Item Reach). graph.ends (node_of mid.entries r.value) ≡ true)
            (sym is) stops in
            let apart : None ≡ Some b = sym (framed.stops (node_of mid.entries it.value) own).1 ∙ enters_now in
            absurd cc
        at_end (inr (inl less)) =
            let has = laid.ends k e less at (ap graph.ends (sym e_node) ∙ stops) in
            let e_call = placed_kept graph old.entries mid.entries numbered.grows e.value e_placed in
            let same_call : call_at mid.entries e.value.call ≡ call_at mid.entries entering.call =
            sym e_call.entry ∙ some_is (sym enter' ∙ enters_now) ∙ sym numbered.begins in
            let call_is : e.value.call ≡ entering.call =
            numbered.calls.once e.value.call entering.call e_call.known numbered.known same_call in
            let added = entering.returns.all has.n has.it (step_back (origin_back (suc number) (suc has.it.value)) it.value e.value y) has.there
            (has.key ∙ call_is) (
              e,
              y,
              (subst (λ j. slice_get rows j ≡ Some e) (sym has.value) at),
              (ap (λ n. graph.leaves n (node_of mid.entries e.value))
                  (sym node_now) ∙ leave),
              refl,
            ) in (
              step_back (origin_back (suc number) (suc has.it.value)) it.value e.value y,
              inr added,
              (on_return graph framed mid.entries (origin_back (suc number) (suc has.it.value)) it.value e.value y placed_now leave).1,
              refl,
              ap (λ n. suc n) has.value,
            )

pub call_offered : (graph : FlowGraph) → IsFramed graph → (rows : List (Item Reach)) (number : ℕ) (it : Item Reach) (to : Option Node) (old mid : Book)
    (near near' jumps jumps' : List Reach) → slice_get rows number ≡ Some it → IsLaidOut graph rows old number
    → graph.enters (node_of old.entries it.value) ≡ to
    → CallOffered graph rows number (node_of old.entries it.value) it.value to old mid near near' jumps jumps'
    → AfterCall graph rows number it old mid near near' jumps jumps'
call_offered graph framed rows number it None old mid near near' jumps jumps' there laid enter offered =
    subst (λ m. AfterCall graph rows number it old m near near' jumps jumps') (sym offered.0) (
    subst (λ ns. AfterCall graph rows number it old old near ns jumps jumps') (sym offered.1) (
    subst (λ js. AfterCall graph rows number it old old near near jumps js) (sym offered.2)
    (none_entered graph rows number it old near jumps there laid enter)))
call_offered graph framed rows number it (Some b) old mid near near' jumps jumps' there laid enter entering =
    one_entered graph framed rows number it old mid near near' jumps jumps' there laid b enter entering
    (numbered_right graph framed b entering.call old.entries mid.entries (framed.by_call (node_of old.entries it.value) b enter) laid.calls entering.numbered)
