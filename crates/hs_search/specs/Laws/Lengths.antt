-- Chains by their entries are the chains that are counted, and a least one is a shortest one.
use Rattle.std.proofs.Common.{◌≡◌, ℕ, suc, List, [], ◌∷◌, ◌++◌, length, refl, ap, sym, ◌∙◌, subst, arith, length-append}
use Rattle.hs_search.specs.Chains.{Chain, begins, goes_on, goes_in, goes_back, IsShortest}
use Rattle.hs_search.specs.Graphs.{FlowGraph}
use Rattle.hs_search.specs.Laws.Orders.{Best_length}
use Rattle.hs_search.specs.Trails.{Trail, trail_begins, trail_goes, trail_enters, trail_leaves, IsLeastTrail}
use Rattle.hs_search.specs.declared.graph.Node.{Node}

one_more : (t : List Node) (y : Node) → suc (length t) ≡ length (t ++ y ∷ [])
one_more t y = let is = length-append t (y ∷ []) in omega arith

-- a chain has as many entries as are listed
pub chain_of_trail : (graph : FlowGraph) (t : List Node) (x : Node) (stack : List Node) → Trail graph t x stack → Chain graph (length t) x stack
chain_of_trail graph _ _ _ trail_begins = begins
chain_of_trail graph _ _ _ (trail_goes t x y stack trail step) =
    subst (λ n. Chain graph n y stack) (one_more t y) (goes_on (length t) x y stack (chain_of_trail graph t x stack trail) step)
chain_of_trail graph _ _ _ (trail_enters t x y stack trail enter) =
    subst (λ n. Chain graph n y (x ∷ stack)) (one_more t y) (goes_in (length t) x y stack (chain_of_trail graph t x stack trail) enter)
chain_of_trail graph _ _ _ (trail_leaves t c x y stack trail leave) =
    subst (λ n. Chain graph n y stack) (one_more t y) (goes_back (length t) c x y stack (chain_of_trail graph t x (c ∷ stack) trail) leave)

-- and each chain has a list of its entries
abbrev pub Listed : FlowGraph → ℕ → Node → List Node → Type 0
Listed graph n x stack = (t : List Node) × Trail graph t x stack × (length t ≡ n)

pub trail_of_chain : (graph : FlowGraph) (n : ℕ) (x : Node) (stack : List Node) → Chain graph n x stack → Listed graph n x stack
trail_of_chain graph _ _ _ begins = (graph.start ∷ [], trail_begins, refl)
trail_of_chain graph _ _ _ (goes_on n x y stack chain step) =
    let its = trail_of_chain graph n x stack chain in
    (its.0 ++ y ∷ [], trail_goes its.0 x y stack its.1 step, sym (one_more its.0 y) ∙ ap suc its.2)
trail_of_chain graph _ _ _ (goes_in n x y stack chain enter) =
    let its = trail_of_chain graph n x stack chain in
    (its.0 ++ y ∷ [], trail_enters its.0 x y stack its.1 enter, sym (one_more its.0 y) ∙ ap suc its.2)
trail_of_chain graph _ _ _ (goes_back n c x y stack chain leave) =
    let its = trail_of_chain graph n x (c ∷ stack) chain in
    (its.0 ++ y ∷ [], trail_leaves its.0 c x y stack its.1 leave, sym (one_more its.0 y) ∙ ap suc its.2)

-- the least chain is a shortest one
pub shortest_of_least : (graph : FlowGraph) (x : Node) (t : List Node) → IsLeastTrail graph x t → IsShortest graph (length t) x
shortest_of_least graph x t its = record {
  reaches = (its.stack, chain_of_trail graph t x its.stack its.trail);
  least = λ n reaches.
      let other = trail_of_chain graph n x reaches.0 reaches.1 in
      let bound = Best_length t other.0 (its.least other.0 reaches.0 other.1) in
      let long = other.2 in
      omega arith;
}
