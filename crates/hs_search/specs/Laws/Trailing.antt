-- Chains by their entries are ways over what leads down to their call.
--     level_of_way, depth_of_down   with as many entries as are counted
--     split_of_trail            a chain is a way down, and a way inside the call that it leads to
--     trail_of_split            and these two are a chain
--     way_entry, down_entry     the call that its nodes are in
use Rattle.std.proofs.Common.{◌≡◌, suc, List, [], ◌∷◌, ◌++◌, length, refl, ap, sym, ◌∙◌, Some, subst, arith, append_assoc, append-nil, length-append}
use Rattle.hs_search.specs.Graphs.{FlowGraph, Has, IsFramed}
use Rattle.hs_search.specs.Levels.{Level, here, on, call, Depth, main, entered}
use Rattle.hs_search.specs.Trails.{Way, stays, walks, calls, Down, at_main, deeper, Trail, trail_begins, trail_goes, trail_enters, trail_leaves}
use Rattle.hs_search.specs.declared.graph.Node.{Node}

-- ---- the numbers of entries

pub level_of_way : (graph : FlowGraph) (e x : Node) (s : List Node) → Way graph e s x → Level graph e (length s) x
level_of_way graph _ _ _ (stays e) = here e
level_of_way graph _ _ _ (walks e x y s way step) =
    subst (λ n. Level graph e n y) (let is = length-append s (y ∷ []) in let same : suc (length s) ≡ length (s ++ y ∷ []) = omega arith in same)
    (on e x y (length s) (level_of_way graph e x s way) step)
level_of_way graph _ _ _ (calls e c b x y s t way enter inner leave) =
    call e c b x y (length s) (length t) (length (s ++ b ∷ (t ++ y ∷ []))) (level_of_way graph e c s way) enter (level_of_way graph b x t inner) leave
    (let outer = length-append s (b ∷ (t ++ y ∷ [])) in let back = length-append t (y ∷ []) in omega arith)

pub depth_of_down : (graph : FlowGraph) (e : Node) (d : List Node) → Down graph d e → Depth graph (length d) e
depth_of_down graph _ _ at_main = main
depth_of_down graph _ _ (deeper e c b d s down way enter) =
    entered (length d) (length s) (length ((d ++ s) ++ b ∷ [])) e c b (depth_of_down graph e d down) (level_of_way graph e c s way) enter
    (let all = length-append (d ++ s) (b ∷ []) in let both = length-append d s in omega arith)

-- ---- a chain is parted at the beginning of its call

abbrev Parted : FlowGraph → List Node → Node → List Node → Type 0
Parted graph t x [] = (s : List Node) × Way graph graph.start s x × (t ≡ graph.start ∷ s)
Parted graph t x (c ∷ stack) =
    (b : Node) × (u : List Node) × (s : List Node) × (graph.enters c ≡ Some b) × Parted graph u c stack × Way graph b s x × (t ≡ u ++ b ∷ s)

parted_on : (graph : FlowGraph) (t : List Node) (x y : Node) (stack : List Node) → Parted graph t x stack → Has (graph.steps x) y
    → Parted graph (t ++ y ∷ []) y stack
parted_on graph t x y [] parts step = (parts.0 ++ y ∷ [], walks graph.start x y parts.0 parts.1 step, ap (λ l. l ++ y ∷ []) parts.2)
parted_on graph t x y (c ∷ stack) parts step = (
  parts.0,
  parts.1,
  parts.2 ++ y ∷ [],
  parts.3,
  parts.4,
  walks parts.0 x y parts.2 parts.5 step,
  ap (λ l. l ++ y ∷ []) parts.6 ∙ append_assoc parts.1 (parts.0 ∷ parts.2) (y ∷ []),
)

parted_back : (graph : FlowGraph) (t u s : List Node) (c b x y : Node) (stack : List Node) → Parted graph u c stack → graph.enters c ≡ Some b
    → Way graph b s x → graph.leaves c x ≡ Some y → t ≡ u ++ b ∷ s → Parted graph (t ++ y ∷ []) y stack
parted_back graph t u s c b x y [] parts enter way leave is = (
  parts.0 ++ b ∷ (s ++ y ∷ []),
  calls graph.start c b x y parts.0 s parts.1 enter way leave,
  ap (λ l. l ++ y ∷ []) is ∙ append_assoc u (b ∷ s) (y ∷ []) ∙ ap (λ l. l ++ b ∷ (s ++ y ∷ [])) parts.2,
)
parted_back graph t u s c b x y (d ∷ stack) parts enter way leave is = (
  parts.0,
  parts.1,
  parts.2 ++ b ∷ (s ++ y ∷ []),
  parts.3,
  parts.4,
  calls parts.0 c b x y parts.2 s parts.5 enter way leave,
  ap (λ l. l ++ y ∷ []) is ∙ append_assoc u (b ∷ s) (y ∷ []) ∙ ap (λ l. l ++ b ∷ (s ++ y ∷ [])) parts.6
      ∙ append_assoc parts.1 (parts.0 ∷ parts.2) (b ∷ (s ++ y ∷ [])),
)

parts_of : (graph : FlowGraph) (t : List Node) (x : Node) (stack : List Node) → Trail graph t x stack → Parted graph t x stack
parts_of graph _ _ _ trail_begins = ([], stays graph.start, refl)
parts_of graph _ _ _ (trail_goes t x y stack trail step) = parted_on graph t x y stack (parts_of graph t x stack trail) step
parts_of graph _ _ _ (trail_enters t x y stack trail enter) = (y, t, [], enter, parts_of graph t x stack trail, stays y, refl)
parts_of graph _ _ _ (trail_leaves t c x y stack trail leave) =
    let parts = parts_of graph t x (c ∷ stack) trail in
    parted_back graph t parts.1 parts.2 c parts.0 x y stack parts.4 parts.3 parts.5 leave parts.6

abbrev pub Split : FlowGraph → List Node → Node → Type 0
Split graph t x = (e : Node) × (d : List Node) × (s : List Node) × Down graph d e × Way graph e s x × (t ≡ d ++ s)

split_parts : (graph : FlowGraph) (t : List Node) (x : Node) (stack : List Node) → Parted graph t x stack → Split graph t x
split_parts graph t x [] parts = (graph.start, graph.start ∷ [], parts.0, at_main, parts.1, parts.2)
split_parts graph t x (c ∷ stack) parts =
    let below = split_parts graph parts.1 c stack parts.4 in (
      parts.0,
      (below.1 ++ below.2) ++ parts.0 ∷ [],
      parts.2,
      deeper below.0 c parts.0 below.1 below.2 below.3 below.4 parts.3,
      parts.5,
      parts.6 ∙ ap (λ l. l ++ parts.0 ∷ parts.2) below.5 ∙ sym (append_assoc (below.1 ++ below.2) (parts.0 ∷ []) parts.2),
    )

pub split_of_trail : (graph : FlowGraph) (t : List Node) (x : Node) (stack : List Node) → Trail graph t x stack → Split graph t x
split_of_trail graph t x stack trail = split_parts graph t x stack (parts_of graph t x stack trail)

-- ---- and put together again, over any stack

trail_along : (graph : FlowGraph) (e x : Node) (t s : List Node) (stack : List Node) → Way graph e s x → Trail graph t e stack → Trail graph (t ++ s) x stack
trail_along graph _ _ t _ stack (stays e) trail = subst (λ l. Trail graph l e stack) (sym (append-nil t)) trail
trail_along graph _ _ t _ stack (walks e x y s way step) trail =
    subst (λ l. Trail graph l y stack) (append_assoc t s (y ∷ [])) (trail_goes (t ++ s) x y stack (trail_along graph e x t s stack way trail) step)
trail_along graph _ _ t _ stack (calls e c b x y s u way enter inner leave) trail =
    let at_call = trail_along graph e c t s stack way trail in
    let inside = trail_along graph b x ((t ++ s) ++ b ∷ []) u (c ∷ stack) inner (trail_enters (t ++ s) c b stack at_call enter) in
    subst (λ l. Trail graph l y stack)
    (append_assoc ((t ++ s) ++ b ∷ []) u (y ∷ []) ∙ append_assoc (t ++ s) (b ∷ []) (u ++ y ∷ []) ∙ append_assoc t s (b ∷ (u ++ y ∷ [])))
    (trail_leaves (((t ++ s) ++ b ∷ []) ++ u) c x y stack inside leave)

trail_down : (graph : FlowGraph) (d : List Node) (e : Node) → Down graph d e → (stack : List Node) × Trail graph d e stack
trail_down graph _ _ at_main = ([], trail_begins)
trail_down graph _ _ (deeper e c b d s down way enter) =
    let below = trail_down graph d e down in
    (c ∷ below.0, trail_enters (d ++ s) c b below.0 (trail_along graph e c d s below.0 way below.1) enter)

pub trail_of_split : (graph : FlowGraph) (e x : Node) (d s : List Node) → Down graph d e → Way graph e s x → (stack : List Node) × Trail graph (d ++ s) x stack
trail_of_split graph e x d s down way =
    let below = trail_down graph d e down in (below.0, trail_along graph e x d s below.0 way below.1)

-- the call of a way
pub way_entry : (graph : FlowGraph) → IsFramed graph → (e x : Node) (s : List Node) → Way graph e s x → graph.entry e ≡ e → graph.entry x ≡ e
way_entry graph framed _ _ _ (stays e) own = own
way_entry graph framed _ _ _ (walks e x y s way step) own = framed.by_step x y step ∙ way_entry graph framed e x s way own
way_entry graph framed _ _ _ (calls e c b x y s t way enter inner leave) own = framed.by_return c x y leave ∙ way_entry graph framed e c s way own

pub down_entry : (graph : FlowGraph) → IsFramed graph → (d : List Node) (e : Node) → Down graph d e → graph.entry e ≡ e
down_entry graph framed _ _ at_main = framed.at_start
down_entry graph framed _ _ (deeper e c b d s down way enter) = framed.by_call c b enter
