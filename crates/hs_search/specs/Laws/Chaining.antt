-- Chains are levels over a depth.
use Rattle.std.proofs.Common.{◌≡◌, ℕ, suc, ◌+◌, List, [], ◌∷◌, refl, sym, ◌∙◌, Some, subst, arith}
use Rattle.hs_search.specs.Chains.{Chain, begins, goes_on, goes_in, goes_back}
use Rattle.hs_search.specs.Graphs.{FlowGraph, Has, IsFramed}
use Rattle.hs_search.specs.Levels.{Level, here, on, call, Depth, main, entered}
use Rattle.hs_search.specs.declared.graph.Node.{Node}

-- the calls of the stack, each with the level that its caller has reached
abbrev Held : FlowGraph → ℕ → Node → List Node → Type 0
Held graph n x [] = (m : ℕ) × Level graph graph.start m x × (n ≡ suc m)
Held graph n x (c ∷ stack) =
    (b : Node) × (m : ℕ) × (k : ℕ) × (graph.enters c ≡ Some b) × Level graph b m x × Held graph k c stack × (n ≡ suc (k + m))

held_on : (graph : FlowGraph) (n : ℕ) (x y : Node) (stack : List Node) → Held graph n x stack → Has (graph.steps x) y → Held graph (suc n) y stack
held_on graph n x y [] held step = (suc held.0, on graph.start x y held.0 held.1 step, (let is = held.2 in omega arith))
held_on graph n x y (c ∷ stack) held step =
    (held.0, suc held.1, held.2, held.3, on held.0 x y held.1 held.4 step, held.5, (let is = held.6 in omega arith))

held_back : (graph : FlowGraph) (n k m : ℕ) (c b x y : Node) (stack : List Node) → Held graph k c stack → graph.enters c ≡ Some b → Level graph b m x
    → graph.leaves c x ≡ Some y → n ≡ suc (k + m) → Held graph (suc n) y stack
held_back graph n k m c b x y [] held enters level leaves is = (
  suc (suc (held.0 + m)),
  call graph.start c b x y held.0 m (suc (suc (held.0 + m))) held.1 enters level leaves refl,
  (let own = held.2 in omega arith),
)
held_back graph n k m c b x y (d ∷ stack) held enters level leaves is = (
  held.0,
  suc (suc (held.1 + m)),
  held.2,
  held.3,
  call held.0 c b x y held.1 m (suc (suc (held.1 + m))) held.4 enters level leaves refl,
  held.5,
  (let own = held.6 in omega arith),
)

holds : (graph : FlowGraph) (n : ℕ) (x : Node) (stack : List Node) → Chain graph n x stack → Held graph n x stack
holds graph _ _ _ begins = (0, here graph.start, refl)
holds graph _ _ _ (goes_on n x y stack chain step) = held_on graph n x y stack (holds graph n x stack chain) step
holds graph _ _ _ (goes_in n x y stack chain is) = (y, 0, n, is, here y, holds graph n x stack chain, omega arith)
holds graph _ _ _ (goes_back n c x y stack chain is) =
    let held = holds graph n x (c ∷ stack) chain in
    held_back graph n held.2 held.1 c held.0 x y stack held.5 held.3 held.4 is held.6

-- a depth and a level
abbrev pub Tabulated : FlowGraph → ℕ → Node → Type 0
Tabulated graph n x = (e : Node) × (k : ℕ) × (m : ℕ) × Depth graph k e × Level graph e m x × (n ≡ k + m)

tabulated : (graph : FlowGraph) (n : ℕ) (x : Node) (stack : List Node) → Held graph n x stack → Tabulated graph n x
tabulated graph n x [] held = (graph.start, 1, held.0, main, held.1, (let is = held.2 in omega arith))
tabulated graph n x (c ∷ stack) held =
    let below = tabulated graph held.2 c stack held.5 in (
      held.0,
      suc held.2,
      held.1,
      entered below.1 below.2 (suc held.2) below.0 c held.0 below.3 below.4 held.3 (let is = below.5 in omega arith),
      held.4,
      (let is = held.6 in omega arith),
    )

pub tabulated_from_chain : (graph : FlowGraph) (n : ℕ) (x : Node) (stack : List Node) → Chain graph n x stack → Tabulated graph n x
tabulated_from_chain graph n x stack chain = tabulated graph n x stack (holds graph n x stack chain)

-- along a level, over any stack
along : (graph : FlowGraph) (e x : Node) (k m : ℕ) (stack : List Node) → Level graph e m x → Chain graph k e stack
    → (n : ℕ) → n ≡ k + m → Chain graph n x stack
along graph e _ k _ stack (here _) chain n is = subst (λ n. Chain graph n e stack) (let same : k ≡ n = omega arith in same) chain
along graph e _ k _ stack (on _ x y m level step) chain n is =
    subst (λ n. Chain graph n y stack) (let same : suc (k + m) ≡ n = omega arith in same)
    (goes_on (k + m) x y stack (along graph e x k m stack level chain (k + m) refl) step)
along graph e _ k _ stack (call _ c b x y n m whole level enters inner leaves sum) chain total is =
    let at_call = along graph e c k n stack level chain (k + n) refl in
    let inside = along graph b x (suc (k + n)) m (c ∷ stack) inner (goes_in (k + n) c b stack at_call enters) (suc (k + n) + m) refl in
    subst (λ n. Chain graph n y stack) (let same : suc (suc (k + n) + m) ≡ total = omega arith in same)
    (goes_back (suc (k + n) + m) c x y stack inside leaves)

-- a chain to the beginning of a call
down : (graph : FlowGraph) (k : ℕ) (e : Node) → Depth graph k e → (stack : List Node) × Chain graph k e stack
down graph _ _ main = ([], begins)
down graph _ _ (entered n m k e c b depth level enters is) =
    let below = down graph n e depth in (
      c ∷ below.0,
      subst (λ n. Chain graph n b (c ∷ below.0)) (sym is)
          (goes_in (n + m) c b below.0 (along graph e c n m below.0 level below.1 (n + m) refl) enters),
    )

pub chain_from_tabulated : (graph : FlowGraph) (e x : Node) (k m n : ℕ) → Depth graph k e → Level graph e m x → n ≡ k + m
    → (stack : List Node) × Chain graph n x stack
chain_from_tabulated graph e x k m n depth level is =
    let below = down graph k e depth in (below.0, along graph e x k m below.0 level below.1 n is)

-- a level stays in its call
pub level_entry : (graph : FlowGraph) → IsFramed graph → (e x : Node) (m : ℕ) → Level graph e m x → graph.entry e ≡ e → graph.entry x ≡ e
level_entry graph framed _ _ _ (here e) own = own
level_entry graph framed _ _ _ (on e x y n level step) own = framed.by_step x y step ∙ level_entry graph framed e x n level own
level_entry graph framed _ _ _ (call e c b x y n m k level enters inner leaves is) own =
    framed.by_return c x y leaves ∙ level_entry graph framed e c n level own

pub depth_entry : (graph : FlowGraph) → IsFramed graph → (e : Node) (k : ℕ) → Depth graph k e → graph.entry e ≡ e
depth_entry graph framed _ _ main = framed.at_start
depth_entry graph framed _ _ (entered n m k e c b depth level enters is) = framed.by_call c b enters
