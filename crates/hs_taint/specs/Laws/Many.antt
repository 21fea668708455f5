-- Too many nodes are too many pairs.
--     many_if_too_many              in the graph of a program
use Rattle.hs_chains.specs.Knowledge.{Knowledge}
use Rattle.hs_facts.specs.Effects.{WholeCode}
use Rattle.hs_flow.specs.Among.{Among}
use Rattle.hs_search.specs.Chains.{IsOnce, IsReached, IsTooMany}
use Rattle.hs_search.specs.Graphs.{Has}
use Rattle.hs_search.specs.declared.graph.Node.{Node}
use Rattle.hs_taint.specs.Coding.{code_of}
use Rattle.hs_taint.specs.Laws.Chains.{reach_ends}
use Rattle.hs_taint.specs.Laws.SmallCalls.{IsSmallProgram}
use Rattle.hs_taint.specs.Points.{is_there}
use Rattle.hs_taint.specs.Reaching.{most_pairs}
use Rattle.hs_taint.specs.Routes.{flow_of, node_at}
use Rattle.hs_taint.specs.Solving.{AreDistinct, HasManyPairs, IsEndOf, PairAt}
use Rattle.std.proofs.Common.{◌≡◌, ◌<◌, ◌∙◌, inl, inr, suc, true, List, [], ◌∷◌, length, ap, sym, subst, refl}

module _ (whole : WholeCode) (known : Knowledge) (fits : IsSmallProgram whole known) (main : is_there whole.functions whole.program.main 0 ≡ true) where
  -- the node of a pair
  abbrev node_for : PairAt → Node
  node_for p = node_at whole p.function p.at (code_of p.entry) p.fact

  -- a list of pairs whose nodes are those
  data ArePairsOf : List Node → List PairAt → Type 0 where
    none : ArePairsOf [] []
    more : (x : Node) (nodes : List Node) (p : PairAt) (pairs : List PairAt) → x ≡ node_for p → IsEndOf whole known p → ArePairsOf nodes pairs
        → ArePairsOf (x ∷ nodes) (p ∷ pairs)

  pairs_for : (nodes : List Node) → ((x : Node) → Has nodes x → IsReached (flow_of whole known) x) → (pairs : List PairAt) × ArePairsOf nodes pairs
  pairs_for [] reached = ([], none)
  pairs_for (x ∷ nodes) reached =
      let here = reached x (inl refl) in
      let it = reach_ends whole known fits main here.0 x here.1 in
      let p : PairAt = record { function = it.f; at = it.at; entry = it.entry; fact = it.fact } in
      let later = pairs_for nodes (λ y has. reached y (inr has)) in
      (p ∷ later.0, more x nodes p later.0 it.is (record { there = it.there; length = here.0; ends = it.ends }) later.1)

  as_long : (nodes : List Node) (pairs : List PairAt) → ArePairsOf nodes pairs → length nodes ≡ length pairs
  as_long _ _ none = refl
  as_long _ _ (more x nodes p pairs is ends rest) = ap suc (as_long nodes pairs rest)

  all_end : (nodes : List Node) (pairs : List PairAt) → ArePairsOf nodes pairs → (p : PairAt) → Among pairs p → IsEndOf whole known p
  all_end _ _ none p among = absurd among
  all_end _ _ (more x nodes q pairs is ends rest) p (inl same) = subst (IsEndOf whole known) (sym same) ends
  all_end _ _ (more x nodes q pairs is ends rest) p (inr among) = all_end nodes pairs rest p among

  -- the node of a pair is there
  has_node : (nodes : List Node) (pairs : List PairAt) → ArePairsOf nodes pairs → (p : PairAt) → Among pairs p → Has nodes (node_for p)
  has_node _ _ none p among = absurd among
  has_node _ _ (more x nodes q pairs is ends rest) p (inl same) = inl (is ∙ ap node_for (sym same))
  has_node _ _ (more x nodes q pairs is ends rest) p (inr among) = inr (has_node nodes pairs rest p among)

  distinct : (nodes : List Node) (pairs : List PairAt) → ArePairsOf nodes pairs → IsOnce nodes → AreDistinct pairs
  distinct _ _ none once = tt
  distinct _ _ (more x nodes p pairs is ends rest) once =
      ((λ among. once.0 (subst (Has nodes) (sym is) (has_node nodes pairs rest p among))), distinct nodes pairs rest once.1)

  -- so chains end in too many pairs
  pub many_if_too_many : IsTooMany (flow_of whole known) most_pairs → HasManyPairs whole known
  many_if_too_many many =
      let it = pairs_for many.nodes many.reached in
      record {
        pairs = it.0;
        more = subst (λ n. most_pairs < n) (as_long many.nodes it.0 it.1) many.more;
        distinct = distinct many.nodes it.0 it.1 many.once;
        ends = all_end many.nodes it.0 it.1;
      }
