use Rattle.std.proofs.Common.{◌∙◌}
use Rattle.hs_search.proofs.Beginning.{begun_as}
use Rattle.hs_search.specs.Bringing.{book_of}
use Rattle.hs_search.proofs.searching.begin.Goals as goal

pub returns : goal.returns
returns g c = record {
  round = λ room. record {
    between = begun_as (g.G.Graph.flow c.args.graph.now) (g.G.Graph.framed c.args.graph.now) room c.args.most c.in_ok-call.call 0 c.start-start.result
        c.in_ok-new.field-0.lists.items.items c.in_ok-new-2.field-0.items.items c.push.new.self.items c.new-near.result.items (book_of c.number.new.self)
        c.in_ok-calls.calls.entries.items.items c.start-start.ensures c.in_ok-new.ensures.items c.in_ok-new-2.ensures.items
        (c.number.ensures.callers ∙ c.in_ok-calls.ensures.callers) (c.number.ensures.ends ∙ c.in_ok-calls.ensures.ends) c.in_ok-calls.ensures.entries
        c.new-near.ensures.items c.in_ok-push.ensures.items c.in_ok-call.ensures.numbered;
    jumps = c.new-4.ensures.items;
    wide = record {
      rows = c.in_ok-new.ensures.wide ∙ c.count-count.ensures;
      calls = c.number.ensures.wide ∙ c.in_ok-calls.ensures.wide ∙ c.count-count.ensures;
    };
  };
}
