-- Past the most: what is left of the search is a plain closure.
use Rattle.std.proofs.Common.{◌≡◌, ◌≤◌, ◌+◌, ℕ, suc, List, ◌++◌, inl, inr, ◌⊎◌, refl, ap, sym, ◌∙◌, Some, subst, arith, length}
use Rattle.hs_search.specs.Laws.Chaining.{tabulated_from_chain, chain_from_tabulated, level_entry, depth_entry}
use Rattle.hs_search.specs.Laws.Exactness.{all_right}
use Rattle.hs_search.specs.Laws.Membership.{Has-either}
use Rattle.hs_search.proofs.Rounding.{take_all, get_Has, take_front_of, Known-more, AllBrought-complete}
use Rattle.hs_search.specs.Chains.{IsReached}
use Rattle.hs_search.specs.Graphs.{FlowGraph, Has, IsFramed}
use Rattle.hs_search.specs.Levels.{Level, here, on, call, Depth, main, entered}
use Rattle.hs_search.specs.Rounds.{Row, Known, Candidate, starts, goes, enters, leaves, Built, stepped, entered_by, returned, first_row, IsReady, BroughtBy, by_step, by_call, as_caller, as_end, AllBrought, IsWithin, IsClosing}
use Rattle.hs_search.specs.declared.graph.Node.{Node}

-- a chain reaches what is within
pub reached_within : (graph : FlowGraph) (x : Node) → IsWithin graph x → IsReached graph x
reached_within graph x within =
    let its = chain_from_tabulated graph (graph.entry x) x within.0 within.1 (within.0 + within.1) within.2 within.3 refl in
    (within.0 + within.1, its)

-- a candidate over such rows is within
pub candidate_within : (graph : FlowGraph) → IsFramed graph → (rows : List Row) → ((r : Row) → Has rows r → IsWithin graph r.node)
    → (o : Row) → Candidate graph rows o → IsWithin graph o.node
candidate_within graph framed rows all _ starts =
    (1, 0, subst (Depth graph 1) (sym framed.at_start) main, subst (λ e. Level graph e 0 graph.start) (sym framed.at_start) (here graph.start))
candidate_within graph framed rows all _ (goes x y has step) =
    let its = all x has in
    let own = framed.by_step x.node y step in (
      its.0,
      suc its.1,
      subst (Depth graph its.0) (sym own) its.2,
      subst (λ e. Level graph e (suc its.1) y) (sym own) (on (graph.entry x.node) x.node y its.1 its.3 step),
    )
candidate_within graph framed rows all _ (enters x b has enter) =
    let its = all x has in
    let own = framed.by_call x.node b enter in (
      suc (its.0 + its.1),
      0,
      subst (Depth graph (suc (its.0 + its.1))) (sym own)
          (entered its.0 its.1 (suc (its.0 + its.1)) (graph.entry x.node) x.node b its.2 its.3 enter refl),
      subst (λ e. Level graph e 0 b) (sym own) (here b),
    )
candidate_within graph framed rows all _ (leaves c e y at_call at_end enter leave) =
    let its = all c at_call in
    let last = all e at_end in
    let own = framed.by_return c.node e.node y leave in (
      its.0,
      suc (suc (its.1 + last.1)),
      subst (Depth graph its.0) (sym own) its.2,
      subst (λ it. Level graph it (suc (suc (its.1 + last.1))) y) (sym own)
          (call (graph.entry c.node) c.node (graph.entry e.node) e.node y its.1 last.1 (suc (suc (its.1 + last.1))) its.3 enter last.3 leave refl),
    )

-- rows that are built are within
pub built_within : (graph : FlowGraph) → IsFramed graph → (rows : List Row) → Built graph rows → (r : Row) → Has rows r → IsWithin graph r.node
built_within graph framed rows built r has =
    let right = all_right graph framed rows built r has in
    (right.d, r.level, right.depth, right.level)

-- ---- the closure

pub closing_first : (graph : FlowGraph) → IsFramed graph → (next : ℕ) (rows : List Row) (Offers : Row → Type 0) → IsReady graph next rows Offers
    → IsClosing graph (length rows) rows Offers
closing_first graph framed next rows Offers ready = record {
  within = built_within graph framed rows ready.built;
  sound = λ o is. candidate_within graph framed rows (built_within graph framed rows ready.built) o (ready.sound o is);
  complete = λ o candidate. ready.complete o (subst (λ rs. Candidate graph rs o) (take_all rows) candidate);
}

-- the offers are taken, each by a row of its node
pub closing_taken : (graph : FlowGraph) (count : ℕ) (rows layer : List Row) (Offers : Row → Type 0) → count ≤ length rows → IsClosing graph count rows Offers
    → ((o : Row) → Offers o → Known (rows ++ layer) o.node)
    → ((r : Row) → Has layer r → (o : Row) × Offers o × (o.node ≡ r.node))
    → IsClosing graph count (rows ++ layer) (λ o. ⊥)
closing_taken graph count rows layer Offers below closing kept each = record {
  within = λ r has. within r (Has-either rows layer r has);
  sound = λ o wrong. absurd wrong;
  complete = λ o candidate. complete o (closing.complete o (subst (λ rs. Candidate graph rs o) (take_front_of count rows layer below) candidate));
}
  where
    within : (r : Row) → Has rows r ⊎ Has layer r → IsWithin graph r.node
    within r (inl old) = closing.within r old
    within r (inr new) = let its = each r new in subst (IsWithin graph) its.2 (closing.sound its.0 its.1)

    complete : (o : Row) → Known rows o.node ⊎ Offers o → Known (rows ++ layer) o.node ⊎ ⊥
    complete o (inl known) = inl (Known-more rows layer o.node known)
    complete o (inr is) = inl (kept o is)

-- and these bring their offers
pub closing_brought : (graph : FlowGraph) → IsFramed graph → (count : ℕ) (rows : List Row) (New : Row → Type 0) → count ≤ length rows
    → IsClosing graph count rows (λ o. ⊥) → AllBrought graph rows count (length rows) New → IsClosing graph (length rows) rows New
closing_brought graph framed count rows New below closing all = record {
  within = closing.within;
  sound = λ o new. let its = all.from o new in
      candidate_within graph framed rows closing.within o (by_candidate its.1 (get_Has rows its.0 its.1 its.4) o its.5);
  complete = λ o candidate. pick o (AllBrought-complete graph rows count (length rows) (λ o. ⊥) New below (omega arith) all closing.complete o candidate);
}
  where
    by_candidate : (x : Row) → Has rows x → (o : Row) → BroughtBy graph rows x o → Candidate graph rows o
    by_candidate x has _ (by_step y step) = goes x y has step
    by_candidate x has _ (by_call b is) = enters x b has is
    by_candidate x has _ (as_caller e y at_end enter leave) = leaves x e y has at_end enter leave
    by_candidate x has _ (as_end c y at_call enter leave) = leaves c x y at_call has enter leave

    pick : (o : Row) → Known rows o.node ⊎ (⊥ ⊎ New o) → Known rows o.node ⊎ New o
    pick o (inl known) = inl known
    pick o (inr (inl wrong)) = absurd wrong
    pick o (inr (inr new)) = inr new

-- ---- once nothing is offered, everything that a chain reaches is known

shut_level : (graph : FlowGraph) → IsFramed graph → (rows : List Row) → ((o : Row) → Candidate graph rows o → Known rows o.node) → (e x : Node) (m : ℕ)
    → Level graph e m x → graph.entry e ≡ e → Known rows e → Known rows x
shut_level graph framed rows shut _ _ _ (here e) own known = known
shut_level graph framed rows shut _ _ _ (on e x y n level step) own known =
    let its = shut_level graph framed rows shut e x n level own known in
    shut (stepped its.0 y) (goes its.0 y its.1 (subst (λ it. Has (graph.steps it) y) (sym its.2) step))
shut_level graph framed rows shut _ _ _ (call e c b x y n m k level enter inner leave is) own known =
    let caller = shut_level graph framed rows shut e c n level own known in
    let first = shut (entered_by caller.0 b) (enters caller.0 b caller.1 (ap graph.enters caller.2 ∙ enter)) in
    let last = shut_level graph framed rows shut b x m inner (framed.by_call c b enter) first in
    let entry_x : graph.entry last.0.node ≡ b = ap graph.entry last.2 ∙ level_entry graph framed b x m inner (framed.by_call c b enter) in
    shut (returned caller.0 last.0 y)
    (leaves caller.0 last.0 y caller.1 last.1 (ap graph.enters caller.2 ∙ enter ∙ ap (λ n. Some n) (sym entry_x))
    (ap (λ it. graph.leaves it last.0.node) caller.2 ∙ ap (graph.leaves c) last.2 ∙ leave))

shut_depth : (graph : FlowGraph) → IsFramed graph → (rows : List Row) → ((o : Row) → Candidate graph rows o → Known rows o.node) → (e : Node) (k : ℕ)
    → Depth graph k e → Known rows e
shut_depth graph framed rows shut _ _ main = shut (first_row graph) starts
shut_depth graph framed rows shut _ _ (entered n m k e c b depth level enter is) =
    let its = shut_level graph framed rows shut e c m level (depth_entry graph framed e n depth) (shut_depth graph framed rows shut e n depth) in
    shut (entered_by its.0 b) (enters its.0 b its.1 (ap graph.enters its.2 ∙ enter))

pub closing_done : (graph : FlowGraph) → IsFramed graph → (rows : List Row) → IsClosing graph (length rows) rows (λ o. ⊥)
    → (x : Node) → IsReached graph x → Known rows x
closing_done graph framed rows closing x reached =
    let tab = tabulated_from_chain graph reached.0 x reached.1.0 reached.1.1 in
    shut_level graph framed rows shut tab.0 x tab.2 tab.4 (depth_entry graph framed tab.0 tab.1 tab.3)
    (shut_depth graph framed rows shut tab.0 tab.1 tab.3)
  where
    pick : (o : Row) → Known rows o.node ⊎ ⊥ → Known rows o.node
    pick o (inl known) = known
    pick o (inr wrong) = absurd wrong

    shut : (o : Row) → Candidate graph rows o → Known rows o.node
    shut o candidate = pick o (closing.complete o (subst (λ rs. Candidate graph rs o) (sym (take_all rows)) candidate))
