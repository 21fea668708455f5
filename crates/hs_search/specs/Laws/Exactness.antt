-- Rows that are built by taking the shortest candidates have the lengths of shortest chains (after Dijkstra and Knuth).
use Rattle.std.proofs.Common.{◌≡◌, ◌<◌, ◌≤◌, ℕ, suc, ◌+◌, List, [], ◌∷◌, inl, inr, ◌⊎◌, refl, ap, sym, ◌∙◌, Some, subst, arith}
use Rattle.hs_search.specs.Laws.Chaining.{tabulated_from_chain, chain_from_tabulated, level_entry, depth_entry}
use Rattle.hs_search.specs.Laws.Membership.{Has-either}
use Rattle.hs_search.specs.Laws.Nodes.{node_or}
use Rattle.hs_search.specs.Chains.{Reaches, IsShortest}
use Rattle.hs_search.specs.Graphs.{FlowGraph, Has, IsFramed}
use Rattle.hs_search.specs.Levels.{Level, here, on, call, Depth, main, entered}
use Rattle.hs_search.specs.Rounds.{Row, Known, Candidate, starts, goes, enters, leaves, IsNext, Built, nothing, round, Closed, stepped, entered_by, returned, first_row}
use Rattle.hs_search.specs.declared.graph.Node.{Node}

-- ---- what is known of a row

pub record IsRight (graph : FlowGraph) (r : Row) : Type 0 where
  pub d : ℕ
  pub depth : Depth graph d (graph.entry r.node)
  pub level : Level graph (graph.entry r.node) r.level r.node
  pub sum : r.length ≡ d + r.level
  pub least : (k m : ℕ) → Depth graph k (graph.entry r.node) → Level graph (graph.entry r.node) m r.node → r.length ≤ k + m

abbrev pub AllRight : FlowGraph → List Row → Type 0
AllRight graph rows = (r : Row) → Has rows r → IsRight graph r

-- a node has a row or not
pub known_or : (rows : List Row) (node : Node) → Known rows node ⊎ (¬ Known rows node)
known_or [] node = inr (λ known. known.1)
known_or (r ∷ rows) node = step (node_or r.node node) (known_or rows node)
  where
    wrong : (¬ (r.node ≡ node)) → (¬ Known rows node) → (s : Row) → Has (r ∷ rows) s → s.node ≡ node → ⊥
    wrong apart none s (inl first) same = apart (ap (λ t. t.node) first ∙ same)
    wrong apart none s (inr has) same = none (s, has, same)

    step : (r.node ≡ node) ⊎ (¬ (r.node ≡ node)) → Known rows node ⊎ (¬ Known rows node) → Known (r ∷ rows) node ⊎ (¬ Known (r ∷ rows) node)
    step (inl is) rest = inl (r, inl refl, is)
    step (inr apart) (inl known) = inl (known.0, inr known.1, known.2)
    step (inr apart) (inr none) = inr (λ known. wrong apart none known.0 known.1 known.2)

-- ---- the frontier: a candidate that is not known and no longer

abbrev pub Front : FlowGraph → List Row → ℕ → Type 0
Front graph rows n = (o : Row) × Candidate graph rows o × (¬ Known rows o.node) × (o.length ≤ n)

front_more : (graph : FlowGraph) (rows : List Row) (n m : ℕ) → n ≤ m → Front graph rows n → Front graph rows m
front_more graph rows n m less front = (front.0, front.1, front.2, (let own = front.3 in omega arith))

-- a candidate is known or on the frontier
reach : (graph : FlowGraph) (rows : List Row) (o : Row) (x : Node) (n : ℕ) → Candidate graph rows o → o.node ≡ x → o.length ≤ n
    → Known rows x ⊎ Front graph rows n
reach graph rows o x n candidate is less = step (known_or rows x)
  where
    step : Known rows x ⊎ (¬ Known rows x) → Known rows x ⊎ Front graph rows n
    step (inl known) = inl known
    step (inr none) = inr (o, candidate, (λ known. none (known.0, known.1, known.2 ∙ is)), less)

-- what an end adds is no more than its level
level_least : (graph : FlowGraph) (w : Row) (b : Node) (m : ℕ) → IsRight graph w → graph.entry w.node ≡ b → Level graph b m w.node → w.level ≤ m
level_least graph w b m right own level =
    let bound = right.least right.d m right.depth (subst (λ e. Level graph e m w.node) (sym own) level) in
    let sum = right.sum in
    omega arith

frontier_level : (graph : FlowGraph) (framed : IsFramed graph) (rows : List Row) → AllRight graph rows → (e x : Node) (k m : ℕ) → Depth graph k e
    → Level graph e m x → Known rows e ⊎ Front graph rows k → Known rows x ⊎ Front graph rows (k + m)
frontier_level graph framed rows right e _ k _ depth (here _) (inl known) = inl known
frontier_level graph framed rows right e _ k _ depth (here _) (inr front) = inr (front_more graph rows k (k + 0) (omega arith) front)
frontier_level graph framed rows right e _ k _ depth (on _ x y m level step) first =
    from (frontier_level graph framed rows right e x k m depth level first)
  where
    from : Known rows x ⊎ Front graph rows (k + m) → Known rows y ⊎ Front graph rows (k + suc m)
    from (inr front) = inr (front_more graph rows (k + m) (k + suc m) (omega arith) front)
    from (inl known) =
        let row = known.0 in
        let own = right row known.1 in
        let level' : Level graph (graph.entry row.node) m row.node =
        (let entry_is : graph.entry row.node ≡ e = ap graph.entry known.2 ∙ level_entry graph framed e x m level (depth_entry graph framed e k depth) in
        subst (λ it. Level graph it m row.node) (sym entry_is) (subst (Level graph e m) (sym known.2) level)) in
        let depth' : Depth graph k (graph.entry row.node) =
        (let entry_is : graph.entry row.node ≡ e = ap graph.entry known.2 ∙ level_entry graph framed e x m level (depth_entry graph framed e k depth) in
        subst (Depth graph k) (sym entry_is) depth) in
        let bound = own.least k m depth' level' in
        reach graph rows (stepped row y) y (k + suc m)
        (goes row y known.1 (subst (λ it. Has (graph.steps it) y) (sym known.2) step)) refl (omega arith)
frontier_level graph framed rows right e _ k _ depth (call _ c b x y n m whole level enter inner leave is) first =
    from (frontier_level graph framed rows right e c k n depth level first)
    (λ begun. frontier_level graph framed rows right b x (suc (k + n)) m (entered k n (suc (k + n)) e c b depth level enter refl) inner begun)
  where
    entry_c : graph.entry c ≡ e
    entry_c = level_entry graph framed e c n level (depth_entry graph framed e k depth)

    entry_x : graph.entry x ≡ b
    entry_x = level_entry graph framed b x m inner (framed.by_call c b enter)

    bound_c : (row : Row) → Has rows row → row.node ≡ c → row.length ≤ k + n
    bound_c row has same =
        (right row has).least k n (subst (Depth graph k) (sym (ap graph.entry same ∙ entry_c)) depth)
        (subst (λ it. Level graph it n row.node) (sym (ap graph.entry same ∙ entry_c)) (subst (Level graph e n) (sym same) level))

    at_end : (row : Row) → Has rows row → row.node ≡ c → Known rows x ⊎ Front graph rows (suc (k + n) + m) → Known rows y ⊎ Front graph rows (k + whole)
    at_end row has same (inr front) = inr (front_more graph rows (suc (k + n) + m) (k + whole) (omega arith) front)
    at_end row has same (inl known) =
        let last = known.0 in
        let bound = bound_c row has same in
        let added : last.level ≤ m =
        level_least graph last b m (right last known.1) (ap graph.entry known.2 ∙ entry_x) (subst (Level graph b m) (sym known.2) inner) in
        reach graph rows (returned row last y) y (k + whole)
        (leaves row last y has known.1 (ap graph.enters same ∙ enter ∙ ap (λ n. Some n) (sym (ap graph.entry known.2 ∙ entry_x)))
        (ap (λ it. graph.leaves it last.node) same ∙ ap (graph.leaves c) known.2 ∙ leave))
        refl (omega arith)

    from : Known rows c ⊎ Front graph rows (k + n)
        → (Known rows b ⊎ Front graph rows (suc (k + n)) → Known rows x ⊎ Front graph rows (suc (k + n) + m))
        → Known rows y ⊎ Front graph rows (k + whole)
    from (inr front) inside = inr (front_more graph rows (k + n) (k + whole) (omega arith) front)
    from (inl known) inside =
        let bound = bound_c known.0 known.1 known.2 in
        at_end known.0 known.1 known.2 (inside (
        reach graph rows (entered_by known.0 b) b (suc (k + n)) (enters known.0 b known.1 (ap graph.enters known.2 ∙ enter)) refl (omega arith)))

frontier_depth : (graph : FlowGraph) (framed : IsFramed graph) (rows : List Row) → AllRight graph rows → (e : Node) (k : ℕ) → Depth graph k e
    → Known rows e ⊎ Front graph rows k
frontier_depth graph framed rows right _ _ main = reach graph rows (first_row graph) graph.start 1 starts refl (omega arith)
frontier_depth graph framed rows right _ _ (entered n m k e c b depth level enter is) =
    from (frontier_level graph framed rows right e c n m depth level (frontier_depth graph framed rows right e n depth))
  where
    from : Known rows c ⊎ Front graph rows (n + m) → Known rows b ⊎ Front graph rows k
    from (inr front) = inr (front_more graph rows (n + m) k (omega arith) front)
    from (inl known) =
        let entry_c = ap graph.entry known.2 ∙ level_entry graph framed e c m level (depth_entry graph framed e n depth) in
        let bound = (right known.0 known.1).least n m (subst (Depth graph n) (sym entry_c) depth)
        (subst (λ it. Level graph it m known.0.node) (sym entry_c) (subst (Level graph e m) (sym known.2) level)) in
        reach graph rows (entered_by known.0 b) b k (enters known.0 b known.1 (ap graph.enters known.2 ∙ enter)) refl (omega arith)

-- whatever a chain reaches is known, or a candidate that is no longer is not
pub frontier : (graph : FlowGraph) (framed : IsFramed graph) (rows : List Row) → AllRight graph rows → (e x : Node) (k m : ℕ) → Depth graph k e
    → Level graph e m x → Known rows x ⊎ Front graph rows (k + m)
frontier graph framed rows right e x k m depth level =
    frontier_level graph framed rows right e x k m depth level (frontier_depth graph framed rows right e k depth)

-- ---- each new row is right

-- what a chain gives of the row, apart from its being shortest
Owned : FlowGraph → Row → Type 0
Owned graph r = (d : ℕ) × Depth graph d (graph.entry r.node) × Level graph (graph.entry r.node) r.level r.node × (r.length ≡ d + r.level)

owned : (graph : FlowGraph) → IsFramed graph → (rows : List Row) → AllRight graph rows → (r : Row) → Candidate graph rows r → Owned graph r
unfolding Owned
owned graph framed rows right _ starts =
    (1, subst (Depth graph 1) (sym framed.at_start) main, subst (λ e. Level graph e 0 graph.start) (sym framed.at_start) (here graph.start), refl)
owned graph framed rows right _ (goes x y has step) =
    let its = right x has in
    let own = framed.by_step x.node y step in (
      its.d,
      subst (Depth graph its.d) (sym own) its.depth,
      subst (λ e. Level graph e (suc x.level) y) (sym own) (on (graph.entry x.node) x.node y x.level its.level step),
      (let sum = its.sum in omega arith),
    )
owned graph framed rows right _ (enters x b has enter) =
    let its = right x has in
    let own = framed.by_call x.node b enter in (
      suc x.length,
      subst (Depth graph (suc x.length)) (sym own)
          (entered its.d x.level (suc x.length) (graph.entry x.node) x.node b its.depth its.level enter (let sum = its.sum in omega arith)),
      subst (λ e. Level graph e 0 b) (sym own) (here b),
      omega arith,
    )
owned graph framed rows right _ (leaves c e y at_call at_end enter leave) =
    let its = right c at_call in
    let last = right e at_end in
    let own = framed.by_return c.node e.node y leave in (
      its.d,
      subst (Depth graph its.d) (sym own) its.depth,
      subst (λ it. Level graph it (suc (suc (c.level + e.level))) y) (sym own)
          (call (graph.entry c.node) c.node (graph.entry e.node) e.node y c.level e.level (suc (suc
          (c.level + e.level))) its.level enter last.level leave refl),
      (let sum = its.sum in omega arith),
    )

pub right_next : (graph : FlowGraph) → IsFramed graph → (rows : List Row) → AllRight graph rows → (r : Row) → IsNext graph rows r → IsRight graph r
unfolding Owned
right_next graph framed rows right r step =
    let own = owned graph framed rows right r step.candidate in
    record {
      d = own.0;
      depth = own.1;
      level = own.2;
      sum = own.3;
      least = λ k m depth level. from k m (frontier graph framed rows right (graph.entry r.node) r.node k m depth level);
    }
  where
    on_front : (k m : ℕ) (o : Row) → (¬ Known rows o.node) → o.length ≤ k + m → Known rows o.node ⊎ (r.length ≤ o.length) → r.length ≤ k + m
    on_front k m o none less (inl known) = absurd (none known)
    on_front k m o none less (inr least) = omega arith

    from : (k m : ℕ) → Known rows r.node ⊎ Front graph rows (k + m) → r.length ≤ k + m
    from k m (inl known) = absurd (step.outside known)
    from k m (inr front) = on_front k m front.0 front.2 front.3 (step.least front.0 front.1)

pub all_right : (graph : FlowGraph) → IsFramed graph → (rows : List Row) → Built graph rows → AllRight graph rows
all_right graph framed _ nothing = λ r has. absurd has
all_right graph framed _ (round rows layer built each) = λ r has. from r (Has-either rows layer r has) (all_right graph framed rows built)
  where
    from : (r : Row) → Has rows r ⊎ Has layer r → AllRight graph rows → IsRight graph r
    from r (inl before) right = right r before
    from r (inr new) right = right_next graph framed rows right r (each r new)

-- ---- what the search needs of it

-- what a row brings is longer than the row
pub call_longer : (graph : FlowGraph) → IsFramed graph → (rows : List Row) → Built graph rows → (c e : Row) → Has rows c → Has rows e
    → graph.enters c.node ≡ Some (graph.entry e.node) → e.length < suc (suc (c.length + e.level))
call_longer graph framed rows built c e at_call at_end enter =
    let its = all_right graph framed rows built c at_call in
    let last = all_right graph framed rows built e at_end in
    let sum = its.sum in
    let begins = entered its.d c.level (suc c.length) (graph.entry c.node) c.node (graph.entry e.node) its.depth its.level enter (omega arith) in
    let bound = last.least (suc c.length) e.level begins last.level in
    omega arith

-- each row has the length of a shortest chain
pub shortest_row : (graph : FlowGraph) → IsFramed graph → (rows : List Row) → Built graph rows → (r : Row) → Has rows r → IsShortest graph r.length r.node
shortest_row graph framed rows built r has =
    let right = all_right graph framed rows built r has in
    let its = chain_from_tabulated graph (graph.entry r.node) r.node right.d r.level r.length right.depth right.level right.sum in
    record {
      reaches = its;
      least = λ n other.
          let tab = tabulated_from_chain graph n r.node other.0 other.1 in
          let own = level_entry graph framed tab.0 r.node tab.2 tab.4 (depth_entry graph framed tab.0 tab.1 tab.3) in
          let bound = right.least tab.1 tab.2 (subst (Depth graph tab.1) (sym own) tab.3)
          (subst (λ e. Level graph e tab.2 r.node) (sym own) tab.4) in
          let sum = tab.5 in
          omega arith;
    }

-- and no node is left out that a chain reaches which is not longer
pub known_within : (graph : FlowGraph) → IsFramed graph → (most : ℕ) (rows : List Row) → Built graph rows → Closed graph most rows
    → (n : ℕ) (x : Node) → Reaches graph n x → n ≤ most → Known rows x
known_within graph framed most rows built closed n x reaches short = found (tabulated_from_chain graph n x reaches.0 reaches.1)
  where
    past : (o : Row) → (¬ Known rows o.node) → o.length ≤ n → Known rows o.node ⊎ (most < o.length) → Known rows x
    past o none less (inl known) = absurd (none known)
    past o none less (inr long) = absurd (omega arith)

    from : Known rows x ⊎ Front graph rows n → Known rows x
    from (inl known) = known
    from (inr front) = past front.0 front.2 front.3 (closed front.0 front.1)

    found : (e : Node) × (k : ℕ) × (m : ℕ) × Depth graph k e × Level graph e m x × (n ≡ k + m) → Known rows x
    found tab =
        from (subst (λ it. Known rows x ⊎ Front graph rows it) (sym tab.5)
        (frontier graph framed rows (all_right graph framed rows built) tab.0 x tab.1 tab.2 tab.3 tab.4))
