use Rattle.std.proofs.Common.{◌≡◌, ◌∙◌, ap, length, subst, sym, suc}
use Rattle.hs_search.proofs.Past.{found_complete}
use Rattle.hs_search.specs.Bringing.{book_of}
use Rattle.hs_search.specs.Sorting.{AreParts}
use Rattle.hs_search.proofs.finding.search.Goals as goal

pub invariant_of-result : goal.invariant_of-result
invariant_of-result g c =
    let wide : c.count.result ≡ length c.in_ok-search.search.rows.lists.heads.items = c.count.ensures ∙ sym c.in_ok-search.ensures.passing.wide.rows in
    rw c.into_lists.ensures (record {
      known = λ n it there. (c.in_ok-search.ensures.passing.past.laid_out.placed n it there).known;
      keyed = λ n it there. c.in_ok-search.ensures.passing.past.laid_out.keys n it there;
      parts = subst (λ n. AreParts n c.in_ok-search.search.rows.lists.items.items c.in_ok-sorted.sorted.order.items c.in_ok-sorted.sorted.starts.items) wide
          c.in_ok-sorted.ensures.parts;
      long = c.in_ok-sorted.ensures.long ∙ ap (λ n. suc n) wide;
    })

pub returns-clause-found : goal.returns-clause-found
returns-clause-found g c =
    rw c.into_lists.ensures (found_complete (g.G.Graph.flow c.args.graph.now) (g.G.Graph.framed c.args.graph.now) c.args.room c.args.most c.in_ok-search.ensures.passing.base
    c.in_ok-search.search.rows.lists.items.items (book_of c.in_ok-search.search.calls) c.in_ok-search.search.near.items c.in_ok-search.search.jumps.items
    c.in_ok-search.ensures.passing.past c.in_ok-search.ensures.near c.in_ok-search.ensures.jumps)
