-- What is traced round by round are the least shortest chains.
--     IsBest graph t            both parts of the chain of t are the best
--     all_best                  so is each trace of rounds
--     IsLeastTrail-traced       and its entries are those of the least shortest chain
use Rattle.std.proofs.Common.{◌≡◌, ◌≤◌, ℕ, suc, ◌+◌, List, [], ◌∷◌, ◌++◌, length, inl, inr, ◌⊎◌, refl, ap, sym, ◌∙◌, subst, arith, length-append}
use Rattle.hs_search.specs.Graphs.{FlowGraph, Has, IsFramed}
use Rattle.hs_search.specs.Laws.Exactness.{IsRight, AllRight, Front, frontier, right_next}
use Rattle.hs_search.specs.Laws.Membership.{Has-either}
use Rattle.hs_search.specs.Laws.Orders.{Best_refl, Best_trans, Best_append}
use Rattle.hs_search.specs.Laws.Trailing.{level_of_way, depth_of_down, way_entry, down_entry, Split, split_of_trail, trail_of_split}
use Rattle.hs_search.specs.Levels.{Level, here, Depth, main, entered}
use Rattle.hs_search.specs.Orders.{both_end, Best}
use Rattle.hs_search.specs.Rounds.{Row, Known, IsNext}
use Rattle.hs_search.specs.Traces.{Trace, rows_in, entries_of, first_trace, trace_on, trace_in, trace_back, Continues, starts, goes, enters, leaves, IsBestNext, Traced, nothing, round}
use Rattle.hs_search.specs.Trails.{Way, stays, walks, calls, Down, at_main, deeper, IsLeastTrail}
use Rattle.hs_search.specs.declared.graph.Node.{Node}

-- the chain is one to the node, and no other has a better beginning or a better way inside its call
pub record IsBest (graph : FlowGraph) (t : Trace) : Type 0 where
  pub base : Node
  pub own : graph.entry t.row.node ≡ base
  pub down : Down graph t.down base
  pub way : Way graph base t.way t.row.node
  pub level : t.row.level ≡ length t.way
  pub sum : t.row.length ≡ length t.down + length t.way
  pub best_down : (d : List Node) → Down graph d base → Best t.down d
  pub best_way : (s : List Node) → Way graph base s t.row.node → Best t.way s

abbrev pub AllBest : FlowGraph → List Trace → Type 0
AllBest graph traces = (t : Trace) → Has traces t → IsBest graph t

-- ---- the rows of traces

trace_of_row : (traces : List Trace) (r : Row) → Has (rows_in traces) r → (t : Trace) × Has traces t × (t.row ≡ r)
trace_of_row [] r has = absurd has
trace_of_row (t ∷ traces) r (inl is) = (t, inl refl, is)
trace_of_row (t ∷ traces) r (inr has) = let found = trace_of_row traces r has in (found.0, inr found.1, found.2)

known_trace : (traces : List Trace) (x : Node) → Known (rows_in traces) x → (t : Trace) × Has traces t × (t.row.node ≡ x)
known_trace traces x known =
    let found = trace_of_row traces known.0 known.1 in (found.0, found.1, ap (λ r. r.node) found.2 ∙ known.2)

all_right : (graph : FlowGraph) → IsFramed graph → (traces : List Trace) → Traced graph traces → AllRight graph (rows_in traces)
all_right graph framed _ nothing = λ r has. absurd has
all_right graph framed _ (round traces layer before tops) =
    λ r has. from r (trace_of_row (traces ++ layer) r has) (all_right graph framed traces before)
  where
    old : (t : Trace) → Has traces t → AllRight graph (rows_in traces) → IsRight graph t.row
    old t has right = right t.row (row_in traces has)
      where
        row_in : (ts : List Trace) → Has ts t → Has (rows_in ts) t.row
        row_in [] has = absurd has
        row_in (u ∷ ts) (inl is) = inl (ap (λ v. v.row) is)
        row_in (u ∷ ts) (inr has) = inr (row_in ts has)

    either : (t : Trace) → Has traces t ⊎ Has layer t → AllRight graph (rows_in traces) → IsRight graph t.row
    either t (inl has) right = old t has right
    either t (inr has) right = right_next graph framed (rows_in traces) right t.row (tops t has).next

    from : (r : Row) → (t : Trace) × Has (traces ++ layer) t × (t.row ≡ r) → AllRight graph (rows_in traces) → IsRight graph r
    from r found right = subst (IsRight graph) found.2 (either found.0 (Has-either traces layer found.0 found.1) right)

-- ---- what is known of one trace, at a node by another name

way_at : (graph : FlowGraph) (t : Trace) (its : IsBest graph t) (x e : Node) (s : List Node) → t.row.node ≡ x
    → graph.entry x ≡ e → Way graph e s x → Best t.way s
way_at graph t its x e s is own way =
    its.best_way s (subst (λ b. Way graph b s t.row.node) (sym own ∙ ap graph.entry (sym is) ∙ its.own) (subst (Way graph e s) (sym is) way))

down_at : (graph : FlowGraph) (t : Trace) (its : IsBest graph t) (x e : Node) (d : List Node) → t.row.node ≡ x
    → graph.entry x ≡ e → Down graph d e → Best t.down d
down_at graph t its x e d is own down =
    its.best_down d (subst (Down graph d) (sym own ∙ ap graph.entry (sym is) ∙ its.own) down)

-- a new row is no longer than what is on the frontier
past_front : (graph : FlowGraph) (rows : List Row) (r : Row) (n : ℕ) → IsNext graph rows r → Front graph rows n → r.length ≤ n
past_front graph rows r n next front = step (next.least front.0 front.1)
  where
    step : Known rows front.0.node ⊎ (r.length ≤ front.0.length) → r.length ≤ n
    step (inl known) = absurd (front.2 known)
    step (inr less) = let bound = front.3 in omega arith

down_some : (graph : FlowGraph) (d : List Node) (e : Node) → Down graph d e → 1 ≤ length d
down_some graph _ _ at_main = omega arith
down_some graph _ _ (deeper e c b d s down way enter) = let all = length-append (d ++ s) (b ∷ []) in omega arith

-- ---- the way of a new row is the best inside its call

best_way : (graph : FlowGraph) → IsFramed graph → (traces : List Trace) → AllBest graph traces
    → AllRight graph (rows_in traces) → (t : Trace) → IsBestNext graph traces t → (e y : Node) (s : List Node) → t.row.node ≡ y → Down graph t.down e
    → t.row.length ≡ length t.down + length t.way → Way graph e s y → Best t.way s
best_way graph framed traces best right t top _ _ _ is down sum (stays e) = none t.way (no_longer (right_next graph framed (rows_in traces) right t.row top.next))
  where
    no_longer : IsRight graph t.row → length t.way ≤ 0
    no_longer its =
        let own = sym (ap graph.entry is ∙ down_entry graph framed t.down e down) in
        let bound = its.least (length t.down) 0 (subst (Depth graph (length t.down)) own (depth_of_down graph e t.down down))
        (subst (λ b. Level graph b 0 t.row.node) own (subst (Level graph e 0) (sym is) (here e))) in
        omega arith

    none : (s : List Node) → length s ≤ 0 → Best s []
    none [] less = inr both_end
    none (x ∷ s) less = absurd (omega arith)
best_way graph framed traces best right t top _ _ _ is down sum (walks e x y s way step) =
    from (frontier graph framed (rows_in traces) right e x (length t.down) (length s) (depth_of_down graph e t.down down) (level_of_way graph e x s way))
  where
    at_trace : (u : Trace) → Has traces u → u.row.node ≡ x → Best t.way (s ++ y ∷ [])
    at_trace u has same =
        let mine = top.way (trace_on u y) (goes u y has (subst (λ n. Has (graph.steps n) y) (sym same) step)) (sym is) in
        let theirs = way_at graph u (best u has) x e s same (way_entry graph framed e x s way (down_entry graph framed t.down e down)) way in
        Best_trans t.way (u.way ++ y ∷ []) (s ++ y ∷ []) mine
        (Best_append u.way s (y ∷ []) (y ∷ []) theirs (Best_refl (y ∷ [])))

    from : Known (rows_in traces) x ⊎ Front graph (rows_in traces) (length t.down + length s) → Best t.way (s ++ y ∷ [])
    from (inl known) = let found = known_trace traces x known in at_trace found.0 found.1 found.2
    from (inr front) =
        let bound = past_front graph (rows_in traces) t.row (length t.down + length s) top.next front in
        let all = length-append s (y ∷ []) in
        inl (omega arith)
best_way graph framed traces best right t top _ _ _ is down sum (calls e c b x y s u way enter inner leave) =
    from (frontier graph framed (rows_in traces) right e c (length t.down) (length s) deep (level_of_way graph e c s way))
    (frontier graph framed (rows_in traces) right b x (suc (length t.down + length s)) (length u)
    (entered (length t.down) (length s) (suc (length t.down + length s)) e c b deep (level_of_way graph e c s way) enter refl)
    (level_of_way graph b x u inner))
  where
    deep : Depth graph (length t.down) e
    deep = depth_of_down graph e t.down down

    whole : length (s ++ b ∷ (u ++ y ∷ [])) ≡ suc (suc (length s + length u))
    whole = let outer = length-append s (b ∷ (u ++ y ∷ [])) in let back = length-append u (y ∷ []) in omega arith

    at_traces : (v w : Trace) → Has traces v → Has traces w → v.row.node ≡ c → w.row.node ≡ x → Best t.way (s ++ b ∷ (u ++ y ∷ []))
    at_traces v w has_v has_w same_v same_w =
        let own = way_entry graph framed b x u inner (framed.by_call c b enter) in
        let mine = top.way (trace_back v w b y)
        (leaves v w b y has_v has_w (ap graph.enters same_v ∙ enter) (ap graph.entry same_w ∙ own)
        (ap (λ n. graph.leaves n w.row.node) same_v ∙ ap (graph.leaves c) same_w ∙ leave)) (sym is) in
        let outer = way_at graph v (best v has_v) c e s same_v (way_entry graph framed e c s way (down_entry graph framed t.down e down)) way in
        let inside = way_at graph w (best w has_w) x b u same_w own inner in
        Best_trans t.way (v.way ++ b ∷ (w.way ++ y ∷ [])) (s ++ b ∷ (u ++ y ∷ [])) mine
        (Best_append v.way s (b ∷ (w.way ++ y ∷ [])) (b ∷ (u ++ y ∷ [])) outer
        (Best_append (b ∷ []) (b ∷ []) (w.way ++ y ∷ []) (u ++ y ∷ []) (Best_refl (b ∷ []))
        (Best_append w.way u (y ∷ []) (y ∷ []) inside (Best_refl (y ∷ [])))))

    from : Known (rows_in traces) c ⊎ Front graph (rows_in traces) (length t.down + length s)
        → Known (rows_in traces) x ⊎ Front graph (rows_in traces) (suc (length t.down + length s) + length u) → Best t.way (s ++ b ∷ (u ++ y ∷ []))
    from (inl known) (inl ended) =
        let at_call = known_trace traces c known in
        let at_end = known_trace traces x ended in
        at_traces at_call.0 at_end.0 at_call.1 at_end.1 at_call.2 at_end.2
    from (inr front) ended =
        let bound = past_front graph (rows_in traces) t.row (length t.down + length s) top.next front in
        let all = whole in
        inl (omega arith)
    from (inl known) (inr front) =
        let bound = past_front graph (rows_in traces) t.row (suc (length t.down + length s) + length u) top.next front in
        let all = whole in
        inl (omega arith)

-- ---- and what leads down to a call is the best

best_first : (graph : FlowGraph) → (d : List Node) (e : Node) → graph.start ≡ e → Down graph d e
    → Best (graph.start ∷ []) d
best_first graph _ _ is at_main = Best_refl (graph.start ∷ [])
best_first graph _ _ is (deeper e c b d s down way enter) =
    let all = length-append (d ++ s) (b ∷ []) in
    let both = length-append d s in
    let one = down_some graph d e down in
    inl (omega arith)

best_in : (graph : FlowGraph) → IsFramed graph → (traces : List Trace) → AllBest graph traces
    → AllRight graph (rows_in traces) → (t : Trace) → IsBestNext graph traces t → t.row.length ≡ length t.down → 2 ≤ length t.down
    → (b : Node) (d : List Node) → t.row.node ≡ b → graph.entry b ≡ b → Down graph d b → Best t.down d
best_in graph framed traces best right t top sum long _ _ is own at_main =
    absurd (shorter (right_next graph framed (rows_in traces) right t.row top.next))
  where
    shorter : IsRight graph t.row → ⊥
    shorter its =
        let entry_is : graph.start ≡ graph.entry t.row.node = sym (ap graph.entry is ∙ own) in
        let bound = its.least 1 0 (subst (Depth graph 1) entry_is main)
        (subst (λ b. Level graph b 0 t.row.node) entry_is (subst (Level graph graph.start 0) (sym is) (here graph.start))) in
        omega arith
best_in graph framed traces best right t top sum long _ _ is own (deeper e c b d s down way enter) =
    from (frontier graph framed (rows_in traces) right e c (length d) (length s) (depth_of_down graph e d down) (level_of_way graph e c s way))
  where
    at_trace : (v : Trace) → Has traces v → v.row.node ≡ c → Best t.down ((d ++ s) ++ b ∷ [])
    at_trace v has same =
        let entry_c = way_entry graph framed e c s way (down_entry graph framed d e down) in
        let mine = top.down (trace_in v b) (enters v b has (ap graph.enters same ∙ enter)) (sym is) in
        let above = down_at graph v (best v has) c e d same entry_c down in
        let beside = way_at graph v (best v has) c e s same entry_c way in
        Best_trans t.down ((v.down ++ v.way) ++ b ∷ []) ((d ++ s) ++ b ∷ []) mine
        (Best_append (v.down ++ v.way) (d ++ s) (b ∷ []) (b ∷ []) (Best_append v.down d v.way s above beside) (Best_refl (b ∷ [])))

    from : Known (rows_in traces) c ⊎ Front graph (rows_in traces) (length d + length s) → Best t.down ((d ++ s) ++ b ∷ [])
    from (inl known) = let found = known_trace traces c known in at_trace found.0 found.1 found.2
    from (inr front) =
        let bound = past_front graph (rows_in traces) t.row (length d + length s) top.next front in
        let all = length-append (d ++ s) (b ∷ []) in
        let both = length-append d s in
        inl (omega arith)

-- ---- so a new row is the best

best_top : (graph : FlowGraph) → IsFramed graph → (traces : List Trace) → AllBest graph traces
    → AllRight graph (rows_in traces) → (t : Trace) → IsBestNext graph traces t → Continues graph traces t → IsBest graph t
best_top graph framed traces best right _ top starts = record {
  base = graph.start;
  own = framed.at_start;
  down = at_main;
  way = stays graph.start;
  level = refl;
  sum = refl;
  best_down = λ d down. best_first graph d graph.start refl down;
  best_way = λ s way. best_way graph framed traces best right (first_trace graph) top graph.start graph.start s refl at_main refl way;
}
best_top graph framed traces best right _ top (goes x y has step) =
    let its = best x has in
    let way' = walks its.base x.row.node y x.way its.way step in
    let sum' : suc x.row.length ≡ length x.down + length (x.way ++ y ∷ []) =
    (let all = length-append x.way (y ∷ []) in let own = its.sum in omega arith) in
    record {
      base = its.base;
      own = framed.by_step x.row.node y step ∙ its.own;
      down = its.down;
      way = way';
      level = (let all = length-append x.way (y ∷ []) in let own = its.level in omega arith);
      sum = sum';
      best_down = its.best_down;
      best_way = λ s way. best_way graph framed traces best right (trace_on x y) top its.base y s refl its.down sum' way;
    }
best_top graph framed traces best right _ top (enters x b has enter) =
    let its = best x has in
    let own_b = framed.by_call x.row.node b enter in
    let down' = deeper its.base x.row.node b x.down x.way its.down its.way enter in
    let long : length ((x.down ++ x.way) ++ b ∷ []) ≡ suc x.row.length =
    (let all = length-append (x.down ++ x.way) (b ∷ []) in let both = length-append x.down x.way in let own = its.sum in omega arith) in
    let some = down_some graph x.down its.base its.down in
    let total = its.sum in
    record {
      base = b;
      own = own_b;
      down = down';
      way = stays b;
      level = refl;
      sum = omega arith;
      best_down = λ d down. best_in graph framed traces best right (trace_in x b) top (sym long) (omega arith) b d refl own_b down;
      best_way = λ s way. best_way graph framed traces best right (trace_in x b) top b b s refl down' (omega arith) way;
    }
best_top graph framed traces best right _ top (leaves c e b y has_c has_e enter own leave) =
    let its = best c has_c in
    let last = best e has_e in
    let inner : Way graph b e.way e.row.node = subst (λ n. Way graph n e.way e.row.node) (sym last.own ∙ own) last.way in
    let way' = calls its.base c.row.node b e.row.node y c.way e.way its.way enter inner leave in
    let longer : length (c.way ++ b ∷ (e.way ++ y ∷ [])) ≡ suc (suc (c.row.level + e.row.level)) =
    (let outer = length-append c.way (b ∷ (e.way ++ y ∷ [])) in let back = length-append e.way (y ∷ []) in let at_call = its.level in let at_end = last.level in omega arith) in
    let sum' : suc (suc (c.row.length + e.row.level)) ≡ length c.down + length (c.way ++ b ∷ (e.way ++ y ∷ [])) =
    (let at_call = its.sum in let level = its.level in omega arith) in
    record {
      base = its.base;
      own = framed.by_return c.row.node e.row.node y leave ∙ its.own;
      down = its.down;
      way = way';
      level = sym longer;
      sum = sum';
      best_down = its.best_down;
      best_way = λ s way. best_way graph framed traces best right (trace_back c e b y) top its.base y s refl its.down sum' way;
    }

pub all_best : (graph : FlowGraph) → IsFramed graph → (traces : List Trace) → Traced graph traces
    → AllBest graph traces
all_best graph framed _ nothing = λ t has. absurd has
all_best graph framed _ (round traces layer before tops) =
    λ t has. from t (Has-either traces layer t has) (all_best graph framed traces before) (all_right graph framed traces before)
  where
    from : (t : Trace) → Has traces t ⊎ Has layer t → AllBest graph traces → AllRight graph (rows_in traces) → IsBest graph t
    from t (inl old) best right = best t old
    from t (inr new) best right = best_top graph framed traces best right t (tops t new) (tops t new).continues

-- ---- the theorem

pub IsLeastTrail-traced : (graph : FlowGraph) → IsFramed graph → (traces : List Trace) → Traced graph traces
    → (t : Trace) → Has traces t → IsLeastTrail graph t.row.node (entries_of t)
IsLeastTrail-traced graph framed traces traced t has =
    let its = all_best graph framed traces traced t has in
    let mine = trail_of_split graph its.base t.row.node t.down t.way its.down its.way in
    record {
      stack = mine.0;
      trail = mine.1;
      least = λ other stack trail. from its other (split_of_trail graph other t.row.node stack trail);
    }
  where
    from : IsBest graph t → (other : List Node) → Split graph other t.row.node → Best (t.down ++ t.way) other
    from its other parts =
        let own = way_entry graph framed parts.0 t.row.node parts.2 parts.4 (down_entry graph framed parts.1 parts.0 parts.3) in
        subst (Best (t.down ++ t.way)) (sym parts.5)
        (Best_append t.down parts.1 t.way parts.2
        (down_at graph t its t.row.node parts.0 parts.1 refl own parts.3)
        (way_at graph t its t.row.node parts.0 parts.2 refl own parts.4))
