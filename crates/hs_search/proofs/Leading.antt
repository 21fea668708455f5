-- The traces that links make from those of earlier rounds.
use Rattle.std.proofs.Common.{◌≡◌, ◌<◌, ◌≤◌, ◌+◌, ℕ, zero, suc, List, [], ◌∷◌, ◌++◌, Some, length, slice_get, refl, ap, sym, ◌∙◌, subst, arith, inl, inr, length-append}
use Rattle.hs_search.proofs.Adding.{get_Has, get_of_Has}
use Rattle.hs_search.proofs.Listing.{get_left, get_there, get_within, some_is}
use Rattle.hs_search.proofs.Standing.{AllStand, stand_from, traced_stands}
use Rattle.hs_search.proofs.Tracing.{Differs-told}
use Rattle.hs_search.specs.Comparing.{Differs}
use Rattle.hs_search.specs.Graphs.{FlowGraph, Has, IsFramed}
use Rattle.hs_search.specs.Judging.{IsEndBelow, Told, call_of, entry_by, first_entry, link_by, link_of}
use Rattle.hs_search.specs.Links.{LinkedBy}
use Rattle.hs_search.specs.Meeting.{AreLower}
use Rattle.hs_search.specs.Rivals.{IsJoined}
use Rattle.hs_search.specs.Rounds.{Row}
use Rattle.hs_search.specs.Storing.{row_of}
use Rattle.hs_search.specs.Traces.{Trace, entries_of, rows_in, trace_on, trace_in, trace_back, Continues, starts, goes, enters, leaves}
use Rattle.hs_search.specs.Tracing.{Makes, Stands, trace_at}
use Rattle.hs_search.specs.declared.graph.Node.{Node}
use Rattle.hs_search.specs.declared.judging.Link.{Link}
use Rattle.hs_search.specs.declared.judging.Link.TheVariants as link
use Rattle.hs_search.specs.declared.lists.Item.{Item}
use Rattle.hs_search.specs.declared.reach.Reach.{Reach}

-- the trace that the link of an offer makes
pub record IsTraceOf (graph : FlowGraph) (entries : List (Item ℕ)) (old : List (Item Reach)) (traces : List Trace) (s : Reach) (t : Trace) : Type 0 where
  pub row : t.row ≡ row_of entries s
  pub made : Makes graph traces s.origin.up (link_of s) (first_entry entries old s) t

some_node : {a b : Node} → Some a ≡ Some b → a ≡ b
some_node h = cc

-- ---- one link makes one trace of a node

pub makes_same : (graph : FlowGraph) (traces : List Trace) (up : ℕ) (l : Link) (first first' : Node) (t u : Trace) → Makes graph traces up l first t
    → Makes graph traces up l first' u → t.row.node ≡ u.row.node → t ≡ u
makes_same graph traces zero l first first' t u one other node = sym one.2 ∙ other.2
makes_same graph traces (suc up) link.Step first first' t u one other node =
    let x : one.0 ≡ other.0 = some_is (sym one.2 ∙ other.2) in
    let y : one.1 ≡ other.1 = ap (λ (v : Trace). v.row.node) one.5 ∙ node ∙ ap (λ (v : Trace). v.row.node) (sym other.5) in
    sym one.5 ∙ (λ i. trace_on (x i) (y i)) ∙ other.5
makes_same graph traces (suc up) link.Entry first first' t u one other node =
    let x : one.0 ≡ other.0 = some_is (sym one.2 ∙ other.2) in
    let b : one.1 ≡ other.1 = ap (λ (v : Trace). v.row.node) one.6 ∙ node ∙ ap (λ (v : Trace). v.row.node) (sym other.6) in
    sym one.6 ∙ (λ i. trace_in (x i) (b i)) ∙ other.6
makes_same graph traces (suc up) (link.Return end) first first' t u one other node =
    let c : one.0 ≡ other.0 = some_is (sym one.4 ∙ other.4) in
    let e : one.1 ≡ other.1 = some_is (sym one.5 ∙ other.5) in
    let b : one.2 ≡ other.2 = some_node (sym one.6 ∙ ap (λ (v : Trace). graph.enters v.row.node) c ∙ other.6) in
    let y : one.3 ≡ other.3 = ap (λ (v : Trace). v.row.node) one.10 ∙ node ∙ ap (λ (v : Trace). v.row.node) (sym other.10) in
    sym one.10 ∙ (λ i. trace_back (c i) (e i) (b i) (y i)) ∙ other.10

-- ---- the traces in front

get_front : {A : Type 0} → (xs ys : List A) (k : ℕ) (x : A) → k < length xs → slice_get (xs ++ ys) k ≡ Some x → slice_get xs k ≡ Some x
get_front [] ys k x low at = absurd (omega arith)
get_front (y ∷ xs) ys zero x low at = at
get_front (y ∷ xs) ys (suc k) x low at = get_front xs ys k x (omega arith) at

trace_front : (traces more : List Trace) (n : ℕ) (t : Trace) → n ≤ length traces → trace_at (traces ++ more) n ≡ Some t → trace_at traces n ≡ Some t
trace_front traces more zero t low at = absurd cc
trace_front traces more (suc n) t low at = get_front traces more n t (omega arith) at

pub makes_front : (graph : FlowGraph) (traces more : List Trace) (up : ℕ) (l : Link) (first : Node) (t : Trace) → up ≤ length traces
    → IsEndBelow l (length traces) → Makes graph (traces ++ more) up l first t → Makes graph traces up l first t
makes_front graph traces more zero l first t low end_low made = made
makes_front graph traces more (suc up) link.Step first t low end_low made =
    (made.0, made.1, get_front traces more up made.0 (omega arith) made.2, made.3, made.4, made.5)
makes_front graph traces more (suc up) link.Entry first t low end_low made =
    (made.0, made.1, get_front traces more up made.0 (omega arith) made.2, made.3, made.4, made.5, made.6)
makes_front graph traces more (suc up) (link.Return end) first t low end_low made = (
  made.0,
  made.1,
  made.2,
  made.3,
  get_front traces more up made.0 (omega arith) made.4,
  trace_front traces more end made.1 end_low made.5,
  made.6,
  made.7,
  made.8,
  made.9,
  made.10,
)

-- ---- lengths

pub record IsLong (t : Trace) : Type 0 where
  pub sum : t.row.length ≡ length t.down + length t.way
  pub level : t.row.level ≡ length t.way

trace_has : (traces : List Trace) (n : ℕ) (t : Trace) → trace_at traces n ≡ Some t → Has traces t
trace_has traces zero t at = absurd cc
trace_has traces (suc n) t at = get_Has traces n t at

pub makes_long : (graph : FlowGraph) (traces : List Trace) → ((t : Trace) → Has traces t → IsLong t) → (up : ℕ) (l : Link) (first : Node) (t : Trace)
    → Makes graph traces up l first t → IsLong t
makes_long graph traces all zero l first t made = subst IsLong made.2 (record { sum = omega arith; level = refl })
makes_long graph traces all (suc up) link.Step first t made = subst IsLong made.5 (
    let x = all made.0 (get_Has traces up made.0 made.2) in
    let sum = x.sum in
    let level = x.level in
    let more = length-append made.0.way (made.1 ∷ []) in
    record { sum = omega arith; level = omega arith })
makes_long graph traces all (suc up) link.Entry first t made = subst IsLong made.6 (
    let x = all made.0 (get_Has traces up made.0 made.2) in
    let sum = x.sum in
    let both = length-append made.0.down made.0.way in
    let more = length-append (made.0.down ++ made.0.way) (made.1 ∷ []) in
    record { sum = omega arith; level = refl })
makes_long graph traces all (suc up) (link.Return end) first t made = subst IsLong made.10 (
    let c = all made.0 (get_Has traces up made.0 made.4) in
    let e = all made.1 (trace_has traces end made.1 made.5) in
    let sum = c.sum in
    let level = c.level in
    let inner = e.level in
    let outer = length-append made.0.way (made.2 ∷ (made.1.way ++ made.3 ∷ [])) in
    let back = length-append made.1.way (made.3 ∷ []) in
    record { sum = omega arith; level = omega arith })

-- ---- links and steps

rows_at : (traces : List Trace) (n : ℕ) (t : Trace) → slice_get traces n ≡ Some t → slice_get (rows_in traces) n ≡ Some t.row
rows_at [] n t at = absurd cc
rows_at (u ∷ traces) zero t at = ap (λ (v : Trace). Some v.row) (some_is at)
rows_at (u ∷ traces) (suc n) t at = rows_at traces n t at

pub makes_continues : (graph : FlowGraph) (traces : List Trace) (up : ℕ) (l : Link) (first : Node) (t : Trace) → Makes graph traces up l first t
    → Continues graph traces t
makes_continues graph traces zero l first t made = subst (Continues graph traces) made.2 starts
makes_continues graph traces (suc up) link.Step first t made =
    subst (Continues graph traces) made.5 (goes made.0 made.1 (get_Has traces up made.0 made.2) made.3)
makes_continues graph traces (suc up) link.Entry first t made =
    subst (Continues graph traces) made.6 (enters made.0 made.1 (get_Has traces up made.0 made.2) made.3)
makes_continues graph traces (suc up) (link.Return end) first t made =
    subst (Continues graph traces) made.10
    (leaves made.0 made.1 made.2 made.3 (get_Has traces up made.0 made.4) (trace_has traces end made.1 made.5) made.6 made.7 made.8)

-- each step from the traces is a link
pub record IsOfLink (graph : FlowGraph) (traces : List Trace) (o : Trace) : Type 0 where
  pub up : ℕ
  pub last : ℕ
  pub first : Node
  pub linked : LinkedBy graph (rows_in traces) up last o.row
  pub made : Makes graph traces up (link_by last o.row.level) first o

pub continues_link : (graph : FlowGraph) → IsFramed graph → (traces : List Trace) (o : Trace) → Continues graph traces o → IsOfLink graph traces o
continues_link graph framed traces _ starts = record { up = 0; last = 0; first = graph.start; linked = refl; made = (refl, refl, refl) }
continues_link graph framed traces _ (goes x y has step) =
    let k = get_of_Has traces x has in
    record {
      up = suc k.0;
      last = 0;
      first = y;
      linked = (x.row, rows_at traces k.0 x k.1, inl (y, step, refl));
      made = (x, y, k.1, step, refl, refl);
    }
continues_link graph framed traces _ (enters x b has enter) =
    let k = get_of_Has traces x has in
    record {
      up = suc k.0;
      last = 0;
      first = b;
      linked = (x.row, rows_at traces k.0 x k.1, inr (b, enter, refl));
      made = (x, b, k.1, enter, framed.by_call x.row.node b enter, refl, refl);
    }
continues_link graph framed traces _ (leaves c e b y has_c has_e enter own leave) =
    let k = get_of_Has traces c has_c in
    let j = get_of_Has traces e has_e in
    record {
      up = suc k.0;
      last = suc j.0;
      first = b;
      linked = (c.row, e.row, rows_at traces k.0 c k.1, rows_at traces j.0 e j.1, (y, enter ∙ ap (λ n. Some n) (sym own), leave, refl));
      made = (c, e, b, y, k.1, j.1, enter, own, leave, refl, refl);
    }

-- ---- what is told of rows that follow those of earlier rounds

-- the first entry that a link to those rows adds
first_same : (entries : List (Item ℕ)) (old items : List (Item Reach)) (s : Reach) → s.origin.last ≤ length old
    → first_entry entries (old ++ items) s ≡ first_entry entries old s
first_same entries old items s low = by s.origin.last low
  where
    by : (last : ℕ) → last ≤ length old → entry_by entries (old ++ items) last s ≡ entry_by entries old last s
    by zero low = refl
    by (suc e) low =
        let row = get_there old e (omega arith) in
        ap (call_of entries) (get_left old items e row.0 row.1 ∙ sym row.1)

end_within : (last level n : ℕ) → last ≤ n → IsEndBelow (link_by last level) n
end_within (suc last) level n low = low
end_within zero zero n low = tt
end_within zero (suc level) n low = tt

-- its link names rows of earlier rounds
pub record IsLate (old : List (Item Reach)) (s : Reach) : Type 0 where
  pub up : s.origin.up ≤ length old
  pub last : s.origin.last ≤ length old

module _ (graph : FlowGraph) (framed : IsFramed graph) (entries : List (Item ℕ)) (old items rows : List (Item Reach)) (traces : List Trace)
    (long : length traces ≡ length old) (lower : AreLower old)
    (stands : (n : ℕ) (it : Item Reach) → slice_get old n ≡ Some it → Stands graph entries old traces n it)
    (joined : IsJoined graph entries rows (old ++ items)) where
  -- the old rows stand among all of them
  stands_wider : (n : ℕ) (it : Item Reach) → n < length old → slice_get (old ++ items) n ≡ Some it → Stands graph entries (old ++ items) traces n it
  stands_wider n it low at =
      let there = get_front old items n it low at in
      let s = stands n it there in
      let last : it.value.origin.last ≤ length old = (let below = (lower n it there).1 in omega arith) in
      record {
        t = s.t;
        there = s.there;
        row = s.row;
        made = subst (λ first. Makes graph traces it.value.origin.up (link_of it.value) first s.t) (sym (first_same entries old items it.value last)) s.made;
        base = s.base;
        u = s.u;
        at_base = s.at_base;
        own = s.own;
        down = s.down;
        low = s.low;
      }

  -- so what is told by links is so of the traces of links to old rows
  pub differs_late : (a b : ℕ) (x y : Item Reach) → slice_get (old ++ items) a ≡ Some x → slice_get (old ++ items) b ≡ Some y → IsLate old x.value
      → IsLate old y.value → Told entries (old ++ items) (suc a) (suc b) → (t u : Trace) → IsTraceOf graph entries old traces x.value t
      → IsTraceOf graph entries old traces y.value u → Differs (entries_of t) (entries_of u)
  differs_late a b x y at_a at_b late late' told t u one other =
      let all_long = length-append old items in
      let its = stand_from graph framed entries (old ++ items) joined.placed joined.linked (length items) (length old) traces long (omega arith) stands_wider in
      let count : length old + length items ≡ length (old ++ items) = omega arith in
      let stand = subst (AllStand graph entries (old ++ items) (traces ++ its.0)) count its.2 in
      let traced = traced_stands graph entries rows (old ++ items) (traces ++ its.0) joined (its.1 ∙ count) stand in
      let p = stand a x (get_within (old ++ items) a x at_a) at_a in
      let q = stand b y (get_within (old ++ items) b y at_b) at_b in
      let first = same its.0 a x p late t one in
      let second = same its.0 b y q late' u other in
      subst (λ v. Differs (entries_of v) (entries_of u)) first
      (subst (λ v. Differs (entries_of p.t) (entries_of v)) second
      (Differs-told graph entries (old ++ items) (traces ++ its.0) traced (suc a) (suc b) p.t q.t told p.there q.there))
    where
      same : (more : List Trace) (n : ℕ) (z : Item Reach) (s : Stands graph entries (old ++ items) (traces ++ more) n z) → IsLate old z.value → (v : Trace)
          → IsTraceOf graph entries old traces z.value v → s.t ≡ v
      same more n z s late v is =
          makes_same graph traces z.value.origin.up (link_of z.value) (first_entry entries (old ++ items) z.value) (first_entry entries old z.value) s.t v
          (makes_front graph traces more z.value.origin.up (link_of z.value) (first_entry entries (old ++ items) z.value) s.t
          (let up = late.up in omega arith)
          (end_within z.value.origin.last z.value.level (length traces) (let last = late.last in omega arith)) s.made) is.made
          (ap (λ (r : Row). r.node) (s.row ∙ sym is.row))
