use Rattle.std.proofs.Common.{rules, ◌≡◌, ◌⊎◌, ◌∙◌, Err, subst, sym}
use Rattle.hs_search.proofs.Beginning.{laid_taken, pass_done, past_end}
use Rattle.hs_search.proofs.Past.{past_fresh}
use Rattle.hs_search.specs.Bringing.{book_of}
use Rattle.hs_search.specs.Graphs.{Has}
use Rattle.hs_search.specs.Layout.{IsLaidOut}
use Rattle.hs_search.proofs.searching.pass.Goals as goal

pub returns-in_err-take_offers : goal.returns-in_err-take_offers
returns-in_err-take_offers g c =
    let is : c.from_residual.result ≡ Err c.in_err-take_offers.field-0.0 = search rules in
    rw is (past_end (g.G.Graph.flow c.args.graph.now) c.args.room c.args.most c.requires.passing.base c.args.search.now.rows.lists.items.items
    c.take_offers.new.rows.lists.items.items (book_of c.args.search.now.calls) (λ s. Has c.args.search.now.near.items s ⊎ Has c.args.search.now.jumps.items s)
    c.in_err-take_offers.field-0.0 c.requires.short c.requires.passing.past c.in_err-take_offers.ensures.taken)

pub expand_from-requires-clause-first : goal.expand_from-requires-clause-first
expand_from-requires-clause-first g c =
    rw c.len-first.ensures (laid_taken (g.G.Graph.flow c.args.graph.now) c.args.room c.args.most
    (λ s. Has c.args.search.now.near.items s ⊎ Has c.args.search.now.jumps.items s) c.args.search.now.rows.lists.items.items c.take_offers.new.rows.lists.items.items
    (book_of c.args.search.now.calls) c.requires.short c.requires.passing.past.laid_out
    (past_fresh (g.G.Graph.flow c.args.graph.now) c.args.room c.args.most c.requires.passing.base c.args.search.now.rows.lists.items.items
    (book_of c.args.search.now.calls) (λ s. Has c.args.search.now.near.items s ⊎ Has c.args.search.now.jumps.items s) c.requires.passing.past)
    c.requires.passing.past.placed c.in_ok-take_offers.ensures.taken).0

pub expand_from-requires-clause-laid_out : goal.expand_from-requires-clause-laid_out
expand_from-requires-clause-laid_out g c =
    subst (IsLaidOut (g.G.Graph.flow c.args.graph.now) c.take_offers.new.rows.lists.items.items (book_of c.args.search.now.calls)) (sym c.len-first.ensures)
    (laid_taken (g.G.Graph.flow c.args.graph.now) c.args.room c.args.most (λ s. Has c.args.search.now.near.items s ⊎ Has c.args.search.now.jumps.items s)
    c.args.search.now.rows.lists.items.items c.take_offers.new.rows.lists.items.items (book_of c.args.search.now.calls) c.requires.short
    c.requires.passing.past.laid_out
    (past_fresh (g.G.Graph.flow c.args.graph.now) c.args.room c.args.most c.requires.passing.base c.args.search.now.rows.lists.items.items
    (book_of c.args.search.now.calls) (λ s. Has c.args.search.now.near.items s ⊎ Has c.args.search.now.jumps.items s) c.requires.passing.past)
    c.requires.passing.past.placed c.in_ok-take_offers.ensures.taken).1

pub returns : goal.returns
returns g c = record {
  base = c.requires.passing.base;
  past = pass_done (g.G.Graph.flow c.args.graph.now) (g.G.Graph.framed c.args.graph.now) c.args.room c.args.most c.requires.passing.base
      c.args.search.now.rows.lists.items.items c.take_offers.new.rows.lists.items.items (book_of c.args.search.now.calls) (book_of c.expand_from.new.calls)
      (λ s. Has c.args.search.now.near.items s ⊎ Has c.args.search.now.jumps.items s) c.len-first.result c.expand_from.new.near.items
      c.expand_from.new.jumps.items c.requires.short c.requires.passing.past c.in_ok-take_offers.ensures.taken c.len-first.ensures
      c.in_ok-expand_from.ensures.expanded;
  wide = record {
    rows = c.take_offers.ensures.wide ∙ c.requires.passing.wide.rows;
    calls = c.expand_from.ensures.operations ∙ c.requires.passing.wide.calls;
  };
}
