use Rattle.std.proofs.Common.{◌≡◌, ◌≤◌, ◌∙◌, Err, Result, ap, arith, length, rules, subst, sym}
use Rattle.hs_search.specs.Chains.{IsFound, IsTooMany}
use Rattle.hs_search.specs.Finding.{operations_of, pairs_of}
use Rattle.hs_search.specs.declared.found.Found.{Found}
use Rattle.hs_search.specs.declared.reach.SearchEnd.{SearchEnd}
use Rattle.hs_search.specs.declared.reach.SearchEnd.TheVariants as search
use Rattle.hs_taint.specs.Flowing.{flow_in, known_in, whole_in}
use Rattle.hs_taint.specs.Laws.Fitting.{small_program}
use Rattle.hs_taint.specs.Laws.Many.{many_if_too_many}
use Rattle.hs_taint.specs.Laws.Points.{owners_length}
use Rattle.hs_taint.specs.Laws.Sizes.{values_at}
use Rattle.hs_taint.specs.Laws.SmallCalls.{IsSmallProgram}
use Rattle.hs_taint.specs.Laws.Solved.{exact_if_found}
use Rattle.hs_taint.specs.Points.{count_of, starts_from}
use Rattle.hs_taint.specs.Reaching.{AreExact, most_pairs, most_steps}
use Rattle.hs_taint.specs.Sizes.{most_values}
use Rattle.hs_taint.specs.Solving.{Finds}
use Rattle.hs_taint.specs.declared.graph.ProgramGraph.{ProgramGraph}
use Rattle.hs_taint.proofs.solving.reached_in.Goals as goal

module _ (graph : ProgramGraph) where
  -- the numbers of the program fit
  small : IsSmallProgram (whole_in graph) (known_in graph)
  small =
      small_program (whole_in graph) graph.effects.now graph.must.now (most_values 0 graph.code.now.functions.items) graph.code.now.whole graph.numbered
      graph.deep (values_at 0 graph.code.now.functions.items) (λ f many. let few = graph.few_names f in absurd (omega (arith, few, many)))

  -- there are as many operations as owners
  count_few : count_of graph.code.now.functions.items ≤ 4294967295
  count_few =
      let long = ap length graph.operations.owners_are ∙ owners_length 0 graph.operations.functions.now in
      let same = ap count_of graph.functions_are in
      let few = graph.operations.few in
      omega (arith, long, same, few)

  -- what is found is exact
  exact : (found : Found) (few : operations_of found ≤ 4294967295) → operations_of found ≡ (flow_in graph).count
      → IsFound (flow_in graph) most_steps (pairs_of found) → length (pairs_of found) ≤ most_pairs
      → AreExact (whole_in graph) (known_in graph) (record { found = found; starts = graph.operations.starts; few = few })
  exact found few count is_found fits =
      exact_if_found (whole_in graph) (known_in graph) small graph.starts (record { found = found; starts = graph.operations.starts; few = few })
      (graph.operations.starts_are ∙ ap (starts_from 0) graph.functions_are) count is_found fits

  -- and why nothing is
  finds_err : (end : SearchEnd) (result : Result Found SearchEnd) → result ≡ Err end
      → (result ≡ Err search.Limit → IsTooMany (flow_in graph) most_pairs) → Finds (whole_in graph) (known_in graph) (Err end)
  finds_err search.Limit result is many = many_if_too_many (whole_in graph) (known_in graph) small graph.starts (many is)
  finds_err search.NoMemory result is many = tt

pub returns-in_err-found : goal.returns-in_err-found
returns-in_err-found c =
    let same : c.from_residual.result ≡ Err c.in_err-found.field-0.0 = search (rules, c.from_residual.ensures) in
    subst (Finds (whole_in c.args.graph) (known_in c.args.graph)) (sym same)
    (finds_err c.args.graph c.in_err-found.field-0.0 c.search.result c.in_err-found.was c.search.ensures.limit)

-- operations have numbers of 32 bits
pub invariant_of-result : goal.invariant_of-result
invariant_of-result c =
    let few = count_few c.args.graph in
    let count = c.in_ok-found.ensures.operations in
    record { few = omega (arith, few, count) }

pub returns : goal.returns
returns c = exact c.args.graph c.in_ok-found.found _ c.in_ok-found.ensures.operations c.in_ok-found.ensures.found c.in_ok-found.ensures.fits
