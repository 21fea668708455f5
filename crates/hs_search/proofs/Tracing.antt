-- What is told by links is so of the chains.
use Rattle.std.proofs.Common.{◌≡◌, ◌<◌, ℕ, zero, suc, List, [], ◌∷◌, ◌++◌, Option, Some, None, slice_get, sym, ◌∙◌, subst, append_assoc, append-nil, arith}
use Rattle.hs_search.specs.Comparing.{Differs, IsMadeFrom, by_step, by_call, by_return, IsBelow, itself, through, Judged, apart, in_through, through_in, through_both}
use Rattle.hs_search.specs.Graphs.{FlowGraph}
use Rattle.hs_search.specs.Judging.{Told, first_entry, inner_ends, link_of, told_apart, told_inside}
use Rattle.hs_search.specs.Laws.Comparing.{Differs-judged, not_before}
use Rattle.hs_search.specs.Meeting.{Hangs, Under}
use Rattle.hs_search.specs.Meeting as meeting
use Rattle.hs_search.specs.Orders.{IsBefore}
use Rattle.hs_search.specs.Traces.{Trace, entries_of, trace_in, trace_back}
use Rattle.hs_search.specs.Tracing.{AreTraced, Makes, trace_at}
use Rattle.hs_search.specs.declared.graph.Node.{Node}
use Rattle.hs_search.specs.declared.judging.Link.{Link}
use Rattle.hs_search.specs.declared.judging.Link.TheVariants as link
use Rattle.hs_search.specs.declared.lists.Item.{Item}
use Rattle.hs_search.specs.declared.reach.Reach.{Reach}

some_same : (o : Option Trace) (a b : Trace) → o ≡ Some a → o ≡ Some b → a ≡ b
some_same o a b left right = let both = sym left ∙ right in cc

-- one link more, at the end
below_more : (graph : FlowGraph) (z t c : Trace) (es more : List Node) → IsBelow graph z t es → IsMadeFrom graph t c more
    → IsBelow graph z c (es ++ more)
below_more graph _ _ c _ more (itself t) made = subst (IsBelow graph t c) (append-nil more) (through t c c more [] made (itself c))
below_more graph _ _ c _ more (through z d t es rest first below) made =
    subst (IsBelow graph z c) (sym (append_assoc es rest more)) (through z d c es (rest ++ more) first (below_more graph d t c rest more below made))

-- the trace of a row, and that of the one before it
abbrev Step : FlowGraph → List Trace → ℕ → Node → Trace → Type 0
Step graph traces up first t =
    (z : Trace) × (x : Node) × (es : List Node) × (trace_at traces up ≡ Some z) × IsMadeFrom graph z t (x ∷ es) × (first ≡ x)

step_of : (graph : FlowGraph) (traces : List Trace) (up : ℕ) (l : Link) (first : Node) (t : Trace) → 0 < up → Makes graph traces up l first t
    → Step graph traces up first t
step_of graph traces zero l first t some made = absurd (omega arith)
step_of graph traces (suc up) link.Step first t some made =
    (made.0, made.1, [], made.2, subst (λ t. IsMadeFrom graph made.0 t (made.1 ∷ [])) made.5 (by_step made.0 made.1 made.3), made.4)
step_of graph traces (suc up) link.Entry first t some made =
    (made.0, made.1, [], made.2, subst (λ t. IsMadeFrom graph made.0 t (made.1 ∷ [])) made.6 (by_call made.0 made.1 made.3), made.5)
step_of graph traces (suc up) (link.Return end) first t some made = (
  made.0,
  made.2,
  made.1.way ++ made.3 ∷ [],
  made.4,
  subst (λ t. IsMadeFrom graph made.0 t (made.2 ∷ (made.1.way ++ made.3 ∷ []))) made.10 (by_return made.0 made.1 made.2 made.3 made.6 made.8),
  made.9,
)

-- what is below a row has a number
above_zero : (rows : List (Item Reach)) (k t : ℕ) → Under rows (suc k) t → 0 < t
above_zero rows k _ (meeting.itself _) = omega arith
above_zero rows k _ (meeting.before _ n it there under) = omega arith

below_under : (graph : FlowGraph) (entries : List (Item ℕ)) (rows : List (Item Reach)) (traces : List Trace) → AreTraced graph entries rows traces
    → (k p : ℕ) (t : Trace) → trace_at traces p ≡ Some t → Under rows (suc k) p
    → (s : Trace) × (slice_get traces k ≡ Some s) × (es : List Node) × IsBelow graph s t es
below_under graph entries rows traces traced k _ t is (meeting.itself _) = (t, is, [], itself t)
below_under graph entries rows traces traced k _ t is (meeting.before _ n it there under) =
    let own = traced.has n it there in
    let same = some_same (slice_get traces n) own.0 t own.1 is in
    let step = step_of graph traces it.value.origin.up (link_of it.value) (first_entry entries rows it.value) own.0
    (above_zero rows k it.value.origin.up under) own.2 in
    let below = below_under graph entries rows traces traced k it.value.origin.up step.0 step.3 under in (
      below.0,
      below.1,
      below.2 ++ step.1 ∷ step.2,
      subst (λ t. IsBelow graph below.0 t (below.2 ++ step.1 ∷ step.2)) same
          (below_more graph below.0 step.0 own.0 below.2 (step.1 ∷ step.2) below.3 step.4),
    )

-- the trace of the row after a meeting, above that of the end
record Hung (graph : FlowGraph) (traces : List Trace) (z : ℕ) (l : Link) (first : Node) (t : Trace) : Type 0 where
  pub a : Trace
  pub number : ℕ
  pub its : trace_at traces number ≡ Some a
  pub made : Makes graph traces z l first a
  pub rest : List Node
  pub below : IsBelow graph a t rest

hung : (graph : FlowGraph) (entries : List (Item ℕ)) (rows : List (Item Reach)) (traces : List Trace) → AreTraced graph entries rows traces
    → (z a p : ℕ) (t : Trace) → trace_at traces p ≡ Some t → (left : Hangs rows z a p)
    → Hung graph traces z (link_of left.follows.it.value) (first_entry entries rows left.follows.it.value) t
hung graph entries rows traces traced z a p t is left =
    let own = traced.has left.follows.n left.follows.it left.follows.there in
    let down = below_under graph entries rows traces traced left.follows.n p t is (subst (λ x. Under rows x p) left.follows.number left.under) in
    let same = some_same (slice_get traces left.follows.n) own.0 down.0 own.1 down.1 in
    record {
      a = own.0;
      number = suc left.follows.n;
      its = own.1;
      made = subst (λ z. Makes graph traces z (link_of left.follows.it.value) (first_entry entries rows left.follows.it.value) own.0) left.follows.after
          own.2;
      rest = down.2;
      below = subst (λ s. IsBelow graph s t down.2) (sym same) down.3;
    }

judged_apart : (graph : FlowGraph) (traces : List Trace) (z : ℕ) (l r : Link) (first first' : Node) (t u : Trace) → Hung graph traces z l first t
    → Hung graph traces z r first' u → IsBefore first first' → Judged graph t u
judged_apart graph traces zero l r first first' t u left right less =
    absurd (not_before graph.start (subst (λ n. IsBefore n graph.start) left.made.1 (subst (IsBefore first) right.made.1 less)))
judged_apart graph traces (suc z) l r first first' t u left right less =
    let one = step_of graph traces (suc z) l first left.a (omega arith) left.made in
    let two = step_of graph traces (suc z) r first' right.a (omega arith) right.made in
    let same = some_same (slice_get traces z) two.0 one.0 two.3 one.3 in
    apart one.0 left.a right.a t u one.1 two.1 one.2 two.2 left.rest right.rest one.4 left.below
    (subst (λ s. IsMadeFrom graph s right.a (two.1 ∷ two.2)) same two.4) right.below
    (subst (λ n. IsBefore n two.1) one.5 (subst (IsBefore first) two.5 less))

-- a call that is left, from that row and into that call
record Backed (graph : FlowGraph) (traces : List Trace) (x : Trace) (b : Node) (end : ℕ) (a : Trace) : Type 0 where
  pub e : Trace
  pub y : Node
  pub at_e : trace_at traces end ≡ Some e
  pub own : graph.entry e.row.node ≡ b
  pub leave : graph.leaves x.row.node e.row.node ≡ Some y
  pub is : trace_back x e b y ≡ a

some_node : (o : Option Node) (a b : Node) → o ≡ Some a → o ≡ Some b → a ≡ b
some_node o a b left right = let both = sym left ∙ right in cc

backed : (graph : FlowGraph) (traces : List Trace) (z end : ℕ) (first : Node) (a x : Trace) (b : Node) → Makes graph traces (suc z) (link.Return end) first a
    → slice_get traces z ≡ Some x → graph.enters x.row.node ≡ Some b → Backed graph traces x b end a
backed graph traces z end first a x b made at_x enter =
    let same = some_same (slice_get traces z) made.0 x made.4 at_x in
    let call = some_node (graph.enters x.row.node) made.2 b (subst (λ (c : Trace). graph.enters c.row.node ≡ Some made.2) same made.6) enter in
    record {
      e = made.1;
      y = made.3;
      at_e = made.5;
      own = made.7 ∙ call;
      leave = subst (λ (c : Trace). graph.leaves c.row.node made.1.row.node ≡ Some made.3) same made.8;
      is = subst (λ c. trace_back c made.1 b made.3 ≡ a) same (subst (λ n. trace_back made.0 made.1 n made.3 ≡ a) call made.10);
    }

judged_in : (graph : FlowGraph) (entries : List (Item ℕ)) (rows : List (Item Reach)) (traces : List Trace) → AreTraced graph entries rows traces
    → (z end : ℕ) (first first' : Node) (t u v : Trace) → Hung graph traces (suc z) link.Entry first t
    → Hung graph traces (suc z) (link.Return end) first' u → trace_at traces end ≡ Some v
    → (Judged graph t v → Judged graph t u) × (Judged graph v t → Judged graph u t)
judged_in graph entries rows traces traced z end first first' t u v left right at_v =
    let into = left.made in
    let back = backed graph traces z end first' right.a into.0 into.1 right.made into.2 into.3 in
    let same = some_same (trace_at traces end) back.e v back.at_e at_v in
    let below = subst (λ s. IsBelow graph s t left.rest) (sym into.6) left.below in
    let below' = subst (λ s. IsBelow graph s u right.rest) (sym back.is) right.below in
    let shared = traced.shared end left.number back.e (trace_in into.0 into.1) back.at_e
    (subst (λ s. trace_at traces left.number ≡ Some s) (sym into.6) left.its) (back.own ∙ sym into.4) in (
      (λ judged. in_through into.0 t back.e u into.1 back.y left.rest right.rest into.3 below back.leave below' shared
          (subst (Judged graph t) (sym same) judged)),
      (λ judged. through_in into.0 u back.e t into.1 back.y right.rest left.rest into.3 below back.leave below' shared
          (subst (λ w. Judged graph w t) (sym same) judged)),
    )

judged_both : (graph : FlowGraph) (entries : List (Item ℕ)) (rows : List (Item Reach)) (traces : List Trace) → AreTraced graph entries rows traces
    → (z end other : ℕ) (first first' : Node) (t u v w : Trace) → Hung graph traces (suc z) (link.Return end) first t
    → Hung graph traces (suc z) (link.Return other) first' u → trace_at traces end ≡ Some v → trace_at traces other ≡ Some w → Judged graph v w
    → Judged graph t u
judged_both graph entries rows traces traced z end other first first' t u v w left right at_v at_w judged =
    let own = left.made in
    let back = backed graph traces z end first left.a own.0 own.2 own own.4 own.6 in
    let two = backed graph traces z other first' right.a own.0 own.2 right.made own.4 own.6 in
    let same = some_same (trace_at traces end) v back.e at_v back.at_e in
    let same' = some_same (trace_at traces other) w two.e at_w two.at_e in
    through_both own.0 t u back.e two.e own.2 back.y two.y left.rest right.rest own.6 back.leave
    (subst (λ s. IsBelow graph s t left.rest) (sym back.is) left.below) two.leave
    (subst (λ s. IsBelow graph s u right.rest) (sym two.is) right.below)
    (traced.shared end other back.e two.e back.at_e two.at_e (back.own ∙ sym two.own))
    (subst (Judged graph back.e) same' (subst (λ x. Judged graph x w) same judged))

-- ---- the ends of what both go through are rows, with their traces

abbrev AreEnds : Option (ℕ × ℕ) → ℕ → ℕ → Type 0
AreEnds ends x y = ends ≡ Some (x, y)

abbrev Judges : FlowGraph → List Trace → ℕ → ℕ → Type 0
Judges graph traces p q = (t u : Trace) → trace_at traces p ≡ Some t → trace_at traces q ≡ Some u → Judged graph t u

pair_is : (P : ℕ → ℕ → Type 0) (a b x y : ℕ) → AreEnds (Some (a, b)) x y → P x y → P a b
pair_is P a b x y is own = subst (λ o. At o) (sym is) own
  where
    At : Option (ℕ × ℕ) → Type 0
    At None = ⊥
    At (Some ends) = P ends.0 ends.1

no_ends : (x y : ℕ) → AreEnds None x y → ⊥
no_ends x y is = cc

judged_inside : (graph : FlowGraph) (entries : List (Item ℕ)) (rows : List (Item Reach)) (traces : List Trace) → AreTraced graph entries rows traces
    → (z p q p' q' : ℕ) (first first' : Node) (l r : Link) (t u : Trace) → trace_at traces p ≡ Some t → trace_at traces q ≡ Some u
    → Hung graph traces z l first t → Hung graph traces z r first' u → AreEnds (inner_ends l r p q) p' q' → Judges graph traces p' q' → Judged graph t u
judged_inside graph entries rows traces traced zero p q p' q' first first' l r t u at_t at_u left right is judges =
    absurd (no_ends p' q' (subst (λ k. AreEnds (inner_ends link.Entry k p q) p' q') right.made.0
    (subst (λ k. AreEnds (inner_ends k r p q) p' q') left.made.0 is)))
judged_inside graph entries rows traces traced (suc z) p q p' q' first first' link.Step r t u at_t at_u left right is judges = absurd cc
judged_inside graph entries rows traces traced (suc z) p q p' q' first first' link.Entry link.Step t u at_t at_u left right is judges = absurd cc
judged_inside graph entries rows traces traced (suc z) p q p' q' first first' link.Entry link.Entry t u at_t at_u left right is judges = absurd cc
judged_inside graph entries rows traces traced (suc z) p q p' q' first first' link.Entry (link.Return e) t u at_t at_u left right is judges =
    let back = right.made in
    (judged_in graph entries rows traces traced z e first first' t u back.1 left right back.5).0
    (pair_is (Judges graph traces) p e p' q' is judges t back.1 at_t back.5)
judged_inside graph entries rows traces traced (suc z) p q p' q' first first' (link.Return e) link.Step t u at_t at_u left right is judges = absurd cc
judged_inside graph entries rows traces traced (suc z) p q p' q' first first' (link.Return e) link.Entry t u at_t at_u left right is judges =
    let back = left.made in
    (judged_in graph entries rows traces traced z e first' first u t back.1 right left back.5).1
    (pair_is (Judges graph traces) e q p' q' is judges back.1 u back.5 at_u)
judged_inside graph entries rows traces traced (suc z) p q p' q' first first' (link.Return e) (link.Return f) t u at_t at_u left right is judges =
    let back = left.made in
    let two = right.made in
    judged_both graph entries rows traces traced z e f first first' t u back.1 two.1 left right back.5 two.5
    (pair_is (Judges graph traces) e f p' q' is judges back.1 two.1 back.5 two.5)

judged_told : (graph : FlowGraph) (entries : List (Item ℕ)) (rows : List (Item Reach)) (traces : List Trace) → AreTraced graph entries rows traces
    → (p q : ℕ) → Told entries rows p q → Judges graph traces p q
judged_told graph entries rows traces traced _ _ (told_apart z a b p q left right less) =
    λ t u at_t at_u. judged_apart graph traces z (link_of left.follows.it.value) (link_of right.follows.it.value)
    (first_entry entries rows left.follows.it.value) (first_entry entries rows right.follows.it.value) t u
    (hung graph entries rows traces traced z a p t at_t left) (hung graph entries rows traces traced z b q u at_u right) less
judged_told graph entries rows traces traced _ _ (told_inside z a b p q p' q' left right is told) =
    λ t u at_t at_u. judged_inside graph entries rows traces traced z p q p' q' (first_entry entries rows left.follows.it.value)
    (first_entry entries rows right.follows.it.value) (link_of left.follows.it.value) (link_of right.follows.it.value) t u at_t at_u
    (hung graph entries rows traces traced z a p t at_t left) (hung graph entries rows traces traced z b q u at_u right) is
    (judged_told graph entries rows traces traced p' q' told)

-- so the chain of the one comes before that of the other
pub Differs-told : (graph : FlowGraph) (entries : List (Item ℕ)) (rows : List (Item Reach)) (traces : List Trace) → AreTraced graph entries rows traces
    → (p q : ℕ) (t u : Trace) → Told entries rows p q → trace_at traces p ≡ Some t → trace_at traces q ≡ Some u
    → Differs (entries_of t) (entries_of u)
Differs-told graph entries rows traces traced p q t u told at_t at_u =
    Differs-judged graph t u (judged_told graph entries rows traces traced p q told t u at_t at_u)
