-- Rows that are linked stand for traces, and rows of one call share what leads down to it.
use Rattle.std.proofs.Common.{◌≡◌, ◌<◌, ◌≤◌, ℕ, zero, suc, List, [], ◌∷◌, ◌++◌, inl, inr, ◌⊎◌, refl, ap, sym, ◌∙◌, Some, subst, arith, length, slice_get, take, length-append, ◌+◌, append_assoc}
use Rattle.std.proofs.lemmas.Bool.{cases_order}
use Rattle.hs_search.proofs.Listing.{get_end, get_left, get_there, get_within, some_is}
use Rattle.hs_search.proofs.Parting.{one_place, row_there, take_below, take_there}
use Rattle.hs_search.specs.Graphs.{FlowGraph, Has, IsFramed}
use Rattle.hs_search.specs.Judging.{call_of, entry_by, first_entry, link_by, link_of}
use Rattle.hs_search.specs.Layout.{IsPlaced}
use Rattle.hs_search.specs.Links.{HasLink, IsAfter, LinkedBy}
use Rattle.hs_search.specs.Rivals.{IsJoined, IsRival}
use Rattle.hs_search.specs.Rounds.{Row, entered_by, returned, stepped}
use Rattle.hs_search.specs.Storing.{row_of, rows_of}
use Rattle.hs_search.specs.Traces.{Trace, first_trace, trace_on, trace_in, trace_back}
use Rattle.hs_search.specs.Tracing.{AreTraced, Makes, Stands, trace_at}
use Rattle.hs_search.specs.declared.graph.Node.{Node}
use Rattle.hs_search.specs.declared.judging.Link.{Link}
use Rattle.hs_search.specs.declared.judging.Link.TheVariants as link
use Rattle.hs_search.specs.declared.lists.Item.{Item}
use Rattle.hs_search.specs.declared.reach.Reach.{Reach}

-- ---- one trace more

at_left : (traces more : List Trace) (n : ℕ) (t : Trace) → trace_at traces n ≡ Some t → trace_at (traces ++ more) n ≡ Some t
at_left traces more zero t is = absurd cc
at_left traces more (suc n) t is = get_left traces more n t is

pub makes_more : (graph : FlowGraph) (traces more : List Trace) (up : ℕ) (l : Link) (first : Node) (t : Trace) → Makes graph traces up l first t
    → Makes graph (traces ++ more) up l first t
makes_more graph traces more zero l first t made = made
makes_more graph traces more (suc up) link.Step first t made = (made.0, made.1, get_left traces more up made.0 made.2, made.3, made.4, made.5)
makes_more graph traces more (suc up) link.Entry first t made =
    (made.0, made.1, get_left traces more up made.0 made.2, made.3, made.4, made.5, made.6)
makes_more graph traces more (suc up) (link.Return end) first t made = (
  made.0,
  made.1,
  made.2,
  made.3,
  get_left traces more up made.0 made.4,
  at_left traces more end made.1 made.5,
  made.6,
  made.7,
  made.8,
  made.9,
  made.10,
)

abbrev pub AllStand : FlowGraph → List (Item ℕ) → List (Item Reach) → List Trace → ℕ → Type 0
AllStand graph entries rows traces n = (k : ℕ) (it : Item Reach) → k < n → slice_get rows k ≡ Some it → Stands graph entries rows traces k it

stands_more : (graph : FlowGraph) (entries : List (Item ℕ)) (rows : List (Item Reach)) (traces more : List Trace) (n : ℕ) (it : Item Reach)
    → Stands graph entries rows traces n it → Stands graph entries rows (traces ++ more) n it
stands_more graph entries rows traces more n it s = record {
  t = s.t;
  there = get_left traces more n s.t s.there;
  row = s.row;
  made = makes_more graph traces more it.value.origin.up (link_of it.value) (first_entry entries rows it.value) s.t s.made;
  base = s.base;
  u = s.u;
  at_base = get_left traces more s.base s.u s.at_base;
  own = s.own;
  down = s.down;
  low = s.low;
}

-- it begins its call, or that row has a trace
abbrev pub Base : FlowGraph → List Trace → Trace → Type 0
Base graph traces t =
    ((graph.entry t.row.node ≡ t.row.node) × (t.row.level ≡ 0))
    ⊎ ((b : ℕ) × (u : Trace) × (slice_get traces b ≡ Some u) × (u.row.node ≡ graph.entry t.row.node) × (t.down ≡ u.down) × (u.row.level ≡ 0))

abbrev pub IsNew : FlowGraph → List (Item ℕ) → List (Item Reach) → List Trace → Item Reach → ℕ → ℕ → ℕ → Type 0
IsNew graph entries rows traces it up last level =
    (t : Trace) × (t.row ≡ row_of entries it.value) × Makes graph traces up (link_by last level) (entry_by entries rows last it.value) t × Base graph traces t

-- the trace of the next row
pub new_trace : (graph : FlowGraph) → IsFramed graph → (entries : List (Item ℕ)) (rows : List (Item Reach))
    → ((n : ℕ) (it : Item Reach) → slice_get rows n ≡ Some it → IsPlaced graph entries it.value) → (traces : List Trace) (n : ℕ)
    → AllStand graph entries rows traces n → (it : Item Reach) → HasLink graph (take n (rows_of entries rows)) entries it.value
    → IsNew graph entries rows traces it it.value.origin.up it.value.origin.last it.value.level
new_trace graph framed entries rows placed traces n all it linked = by it.value.origin.up it.value.origin.last it.value.level refl linked
  where
    -- the row of a link, with its trace
    found : (k : ℕ) (x : Row) → slice_get (take n (rows_of entries rows)) k ≡ Some x
        → (xs : Item Reach) × (slice_get rows k ≡ Some xs) × (s : Stands graph entries rows traces k xs) × (s.t.row ≡ x)
    found k x at =
        let its = row_there entries rows k x (take_there (rows_of entries rows) n k x at) in
        let s = all k its.0 (take_below (rows_of entries rows) n k x at) its.1 in
        (its.0, its.1, s, s.row ∙ its.2)

    after : (up level : ℕ) (x : Row) → it.value.level ≡ level → slice_get (take n (rows_of entries rows)) up ≡ Some x
        → IsAfter graph x (row_of entries it.value) → IsNew graph entries rows traces it (suc up) 0 level
    after up zero x is at (inl (y, step, made)) = absurd (let level : suc x.level ≡ 0 = ap (λ (r : Row). r.level) made ∙ is in cc)
    after up (suc level) x is at (inl (y, step, made)) =
        let its = found up x at in
        let s = its.2 in
        let step' : Has (graph.steps s.t.row.node) y = subst (λ (r : Row). Has (graph.steps r.node) y) (sym its.3) step in (
          trace_on s.t y,
          ap (λ r. stepped r y) its.3 ∙ made,
          (s.t, y, s.there, step', ap (λ (r : Row). r.node) (sym made), refl),
          inr (s.base, s.u, s.at_base, s.own ∙ sym (framed.by_step s.t.row.node y step'), s.down, s.low),
        )
    after up zero x is at (inr (b, enter, made)) =
        let its = found up x at in
        let s = its.2 in
        let enter' : graph.enters s.t.row.node ≡ Some b = subst (λ (r : Row). graph.enters r.node ≡ Some b) (sym its.3) enter in
        let begins = framed.by_call s.t.row.node b enter' in (
          trace_in s.t b,
          ap (λ r. entered_by r b) its.3 ∙ made,
          (s.t, b, s.there, enter', begins, ap (λ (r : Row). r.node) (sym made), refl),
          inl (begins, refl),
        )
    after up (suc level) x is at (inr (b, enter, made)) = absurd (let level : 0 ≡ suc level = ap (λ (r : Row). r.level) made ∙ is in cc)

    by : (up last level : ℕ) → it.value.level ≡ level → LinkedBy graph (take n (rows_of entries rows)) up last (row_of entries it.value)
        → IsNew graph entries rows traces it up last level
    by zero zero zero is linked =
        (first_trace graph, linked, (refl, ap (λ (r : Row). r.node) (sym linked), refl), inl (framed.at_start, refl))
    by zero zero (suc level) is linked = absurd (let wrong : 0 ≡ suc level = ap (λ (r : Row). r.level) linked ∙ is in cc)
    by zero (suc last) level is linked = absurd linked
    by (suc up) zero level is linked = after up level linked.0 is linked.1 linked.2
    by (suc up) (suc last) level is linked =
        let caller = found up linked.0 linked.2 in
        let end = found last linked.1 linked.3 in
        let c = caller.2 in
        let e = end.2 in
        let back = linked.4 in
        let enter : graph.enters c.t.row.node ≡ Some (graph.entry e.t.row.node) =
        subst (λ (r : Row). graph.enters r.node ≡ Some (graph.entry e.t.row.node)) (sym caller.3)
        (subst (λ (r : Row). graph.enters linked.0.node ≡ Some (graph.entry r.node)) (sym end.3) back.1) in
        let leave : graph.leaves c.t.row.node e.t.row.node ≡ Some back.0 =
        subst (λ (r : Row). graph.leaves r.node e.t.row.node ≡ Some back.0) (sym caller.3)
        (subst (λ (r : Row). graph.leaves linked.0.node r.node ≡ Some back.0) (sym end.3) back.2) in
        let call : call_of entries (slice_get rows last) ≡ graph.entry e.t.row.node =
        ap (call_of entries) end.1 ∙ sym (placed last end.0 end.1).entry ∙ ap (λ (r : Row). graph.entry r.node) (sym e.row) in (
          trace_back c.t e.t (graph.entry e.t.row.node) back.0,
          ap (λ r. returned r e.t.row back.0) caller.3 ∙ ap (λ r. returned linked.0 r back.0) end.3 ∙ back.3,
          (c.t, e.t, graph.entry e.t.row.node, back.0, c.there, e.there, enter, refl, leave, call, refl),
          inr (c.base, c.u, c.at_base, c.own ∙ sym (framed.by_return c.t.row.node e.t.row.node back.0 leave), c.down, c.low),
        )

-- ---- all rows

stands_last : (graph : FlowGraph) (entries : List (Item ℕ)) (rows : List (Item Reach)) (traces : List Trace) (n : ℕ) (it : Item Reach)
    → length traces ≡ n → (new : IsNew graph entries rows traces it it.value.origin.up it.value.origin.last it.value.level)
    → Stands graph entries rows (traces ++ new.0 ∷ []) n it
stands_last graph entries rows traces n it long new = by new.3
  where
    last : slice_get (traces ++ new.0 ∷ []) n ≡ Some new.0
    last = subst (λ k. slice_get (traces ++ new.0 ∷ []) k ≡ Some new.0) long (get_end traces new.0)

    made : Makes graph (traces ++ new.0 ∷ []) it.value.origin.up (link_of it.value) (first_entry entries rows it.value) new.0
    made = makes_more graph traces (new.0 ∷ []) it.value.origin.up (link_of it.value) (first_entry entries rows it.value) new.0 new.2

    by : Base graph traces new.0 → Stands graph entries rows (traces ++ new.0 ∷ []) n it
    by (inl (own, low)) = record {
      t = new.0;
      there = last;
      row = new.1;
      made = made;
      base = n;
      u = new.0;
      at_base = last;
      own = sym own;
      down = refl;
      low = low;
    }
    by (inr (b, u, at, own, down, low)) = record {
      t = new.0;
      there = last;
      row = new.1;
      made = made;
      base = b;
      u = u;
      at_base = get_left traces (new.0 ∷ []) b u at;
      own = own;
      down = down;
      low = low;
    }

stand_on : (graph : FlowGraph) → IsFramed graph → (entries : List (Item ℕ)) (rows : List (Item Reach))
    → ((n : ℕ) (it : Item Reach) → slice_get rows n ≡ Some it → IsPlaced graph entries it.value)
    → ((n : ℕ) (it : Item Reach) → slice_get rows n ≡ Some it → HasLink graph (take n (rows_of entries rows)) entries it.value)
    → (traces : List Trace) (n : ℕ) → length traces ≡ n → AllStand graph entries rows traces n → (it : Item Reach) → slice_get rows n ≡ Some it
    → (t : Trace) × AllStand graph entries rows (traces ++ t ∷ []) (suc n)
stand_on graph framed entries rows placed linked traces n long all it there = (new.0, λ k its below at. pick k its below at (cases_order k n))
  where
    new : IsNew graph entries rows traces it it.value.origin.up it.value.origin.last it.value.level
    new = new_trace graph framed entries rows placed traces n all it (linked n it there)

    pick : (k : ℕ) (its : Item Reach) → k < suc n → slice_get rows k ≡ Some its → (k ≡ n) ⊎ (k < n) ⊎ (n < k)
        → Stands graph entries rows (traces ++ new.0 ∷ []) k its
    pick k its below at (inl same) =
        subst (λ j. Stands graph entries rows (traces ++ new.0 ∷ []) j its) (sym same)
        (subst (Stands graph entries rows (traces ++ new.0 ∷ []) n) (some_is (sym there ∙ subst (λ j. slice_get rows j ≡ Some its) same at))
        (stands_last graph entries rows traces n it long new))
    pick k its below at (inr (inl less)) = stands_more graph entries rows traces (new.0 ∷ []) k its (all k its less at)
    pick k its below at (inr (inr past)) = absurd (omega arith)

-- so many rows more
pub stand_from : (graph : FlowGraph) → IsFramed graph → (entries : List (Item ℕ)) (rows : List (Item Reach))
    → ((n : ℕ) (it : Item Reach) → slice_get rows n ≡ Some it → IsPlaced graph entries it.value)
    → ((n : ℕ) (it : Item Reach) → slice_get rows n ≡ Some it → HasLink graph (take n (rows_of entries rows)) entries it.value)
    → (d n : ℕ) (traces : List Trace) → length traces ≡ n → n + d ≤ length rows → AllStand graph entries rows traces n
    → (more : List Trace) × (length (traces ++ more) ≡ n + d) × AllStand graph entries rows (traces ++ more) (n + d)
stand_from graph framed entries rows placed linked zero n traces long within all = (
  [],
  (let sum = length-append traces [] in let same : length (traces ++ []) ≡ n + 0 = omega arith in same),
  λ k it below at. stands_more graph entries rows traces [] k it (all k it (omega arith) at),
)
stand_from graph framed entries rows placed linked (suc d) n traces long within all =
    let its = get_there rows n (omega arith) in
    let one = stand_on graph framed entries rows placed linked traces n long all its.0 its.1 in
    let sum = length-append traces (one.0 ∷ []) in
    let rest = stand_from graph framed entries rows placed linked d (suc n) (traces ++ one.0 ∷ []) (omega arith) (omega arith) one.1 in (
      one.0 ∷ rest.0,
      ap length (sym (append_assoc traces (one.0 ∷ []) rest.0)) ∙ rest.1 ∙ (let same : suc n + d ≡ n + suc d = omega arith in same),
      λ k it below at. subst (λ ts. Stands graph entries rows ts k it) (append_assoc traces (one.0 ∷ []) rest.0) (rest.2 k it (omega arith) at),
    )

-- rows that stand for traces share what leads down to their calls, and an offer after them does
pub traced_stands : (graph : FlowGraph) (entries : List (Item ℕ)) (rows all : List (Item Reach)) (traces : List Trace) → IsJoined graph entries rows all
    → length traces ≡ length all → AllStand graph entries all traces (length all) → AreTraced graph entries all traces
traced_stands graph entries rows all traces joined long stand = record {
  has = λ n it there. let s = stand n it (get_within all n it there) there in (s.t, s.there, s.made);
  shared = λ n m t u at other same. shared n m t u at other same;
}
  where
    standing : (n : ℕ) (t : Trace) → slice_get traces n ≡ Some t
        → (it : Item Reach) × (slice_get all n ≡ Some it) × (s : Stands graph entries all traces n it) × (s.t ≡ t)
    standing n t at =
        let within : n < length all = subst (λ k. n < k) long (get_within traces n t at) in
        let its = get_there all n within in
        let s = stand n its.0 within its.1 in
        (its.0, its.1, s, some_is (sym s.there ∙ at))

    -- what begins a call is no offer
    in_rows : (n : ℕ) (it : Item Reach) → slice_get all n ≡ Some it → it.value.level ≡ 0 → slice_get rows n ≡ Some it
    in_rows n it at low = from (joined.inside n it at)
      where
        from : (slice_get rows n ≡ Some it) ⊎ ((n ≡ length rows) × IsRival entries rows it) → slice_get rows n ≡ Some it
        from (inl there) = there
        from (inr rival) = absurd (let high = rival.1.level in omega arith)

    shared : (n m : ℕ) (t u : Trace) → trace_at traces n ≡ Some t → trace_at traces m ≡ Some u → graph.entry t.row.node ≡ graph.entry u.row.node
        → t.down ≡ u.down
    shared zero m t u at other same = absurd cc
    shared (suc n) zero t u at other same = absurd cc
    shared (suc n) (suc m) t u at other same =
        let one = standing n t at in
        let two = standing m u other in
        let s = one.2 in
        let r = two.2 in
        let base = standing s.base s.u s.at_base in
        let base' = standing r.base r.u r.at_base in
        let node : s.u.row.node ≡ r.u.row.node =
        s.own ∙ ap (λ (x : Trace). graph.entry x.row.node) one.3 ∙ same ∙ ap (λ (x : Trace). graph.entry x.row.node) (sym two.3) ∙ sym r.own in
        let mine : s.u.row ≡ row_of entries base.0.value = ap (λ (x : Trace). x.row) (sym base.3) ∙ base.2.row in
        let theirs : r.u.row ≡ row_of entries base'.0.value = ap (λ (x : Trace). x.row) (sym base'.3) ∙ base'.2.row in
        let place = one_place entries rows joined.once s.base r.base base.0 base'.0
        (in_rows s.base base.0 base.1 (ap (λ (x : Row). x.level) (sym mine) ∙ s.low))
        (in_rows r.base base'.0 base'.1 (ap (λ (x : Row). x.level) (sym theirs) ∙ r.low))
        (ap (λ (x : Row). x.node) (sym mine) ∙ node ∙ ap (λ (x : Row). x.node) theirs) in
        let trace : s.u ≡ r.u = some_is (sym s.at_base ∙ subst (λ k. slice_get traces k ≡ Some r.u) (sym place) r.at_base) in
        ap (λ (x : Trace). x.down) (sym one.3) ∙ s.down ∙ ap (λ (x : Trace). x.down) trace ∙ sym r.down ∙ ap (λ (x : Trace). x.down) two.3

-- each row of the search stands for a trace, and an offer after them does
pub traced_joined : (graph : FlowGraph) → IsFramed graph → (entries : List (Item ℕ)) (rows all : List (Item Reach)) → IsJoined graph entries rows all
    → (traces : List Trace) × AreTraced graph entries all traces
traced_joined graph framed entries rows all joined =
    let its = stand_from graph framed entries all joined.placed joined.linked (length all) 0 [] refl (omega arith) (λ k it below at. absurd (omega arith)) in
    let count : 0 + length all ≡ length all = omega arith in
    (its.0, traced_stands graph entries rows all its.0 joined (its.1 ∙ count) (subst (AllStand graph entries all its.0) count its.2))
