use Rattle.std.proofs.Common.{rules, arith, ◌≡◌, length, ◌∙◌, Err, subst, sym}
use Rattle.hs_search.proofs.Beginning.{far_below, laid_taken, round_end, waits_placed}
use Rattle.hs_search.proofs.Passing.{between_next, waits_fresh}
use Rattle.hs_search.proofs.Tying.{waits_offered}
use Rattle.hs_search.specs.Bringing.{book_of}
use Rattle.hs_search.specs.Layout.{IsLaidOut}
use Rattle.hs_search.specs.Searching.{HasExpanded, Waits}
use Rattle.hs_search.proofs.searching.round.Goals as goal

pub take_waiting-requires-clause-far : goal.take_waiting-requires-clause-far
take_waiting-requires-clause-far g c =
    far_below (g.G.Graph.flow c.args.graph.now) c.args.room c.args.most c.args.length c.args.search.now.latest c.args.search.now.rows.lists.items.items
    (book_of c.args.search.now.calls) c.args.search.now.near.items c.args.search.now.far.items.items (length c.args.search.now.rows.lists.heads.items)
    c.requires.round.wide.rows c.requires.round.between

pub returns-in_err-take_waiting : goal.returns-in_err-take_waiting
returns-in_err-take_waiting g c =
    let is : c.from_residual.result ≡ Err c.in_err-take_waiting.field-0.0 = search rules in
    rw is (round_end (g.G.Graph.flow c.args.graph.now) (g.G.Graph.framed c.args.graph.now) c.args.room c.args.most c.args.length c.args.search.now.latest
    c.args.search.now.rows.lists.items.items c.take_waiting.new.rows.lists.items.items (book_of c.args.search.now.calls) c.args.search.now.near.items
    c.args.search.now.far.items.items c.in_err-take_waiting.field-0.0 c.requires.short c.requires.round.between c.in_err-take_waiting.ensures.taken)

pub expand_from-requires-clause-first : goal.expand_from-requires-clause-first
expand_from-requires-clause-first g c =
    rw c.len-first.ensures (laid_taken (g.G.Graph.flow c.args.graph.now) c.args.room c.args.most
    (Waits c.args.search.now.near.items c.args.search.now.far.items.items c.args.length) c.args.search.now.rows.lists.items.items
    c.take_waiting.new.rows.lists.items.items (book_of c.args.search.now.calls) c.requires.short c.requires.round.between.laid_out
    (waits_fresh (g.G.Graph.flow c.args.graph.now) c.args.room c.args.most c.args.length c.args.search.now.latest c.args.search.now.rows.lists.items.items
    (book_of c.args.search.now.calls) c.args.search.now.near.items c.args.search.now.far.items.items c.args.length (omega arith) c.requires.round.between)
    (waits_placed (g.G.Graph.flow c.args.graph.now) c.args.room c.args.most c.args.length c.args.search.now.latest c.args.search.now.rows.lists.items.items
    (book_of c.args.search.now.calls) c.args.search.now.near.items c.args.search.now.far.items.items c.args.length c.requires.round.between)
    c.in_ok-take_waiting.ensures.taken).0

pub expand_from-requires-clause-laid_out : goal.expand_from-requires-clause-laid_out
expand_from-requires-clause-laid_out g c =
    subst (IsLaidOut (g.G.Graph.flow c.args.graph.now) c.take_waiting.new.rows.lists.items.items (book_of c.args.search.now.calls)) (sym c.len-first.ensures)
    (laid_taken (g.G.Graph.flow c.args.graph.now) c.args.room c.args.most
    (Waits c.args.search.now.near.items c.args.search.now.far.items.items c.args.length) c.args.search.now.rows.lists.items.items
    c.take_waiting.new.rows.lists.items.items (book_of c.args.search.now.calls) c.requires.short c.requires.round.between.laid_out
    (waits_fresh (g.G.Graph.flow c.args.graph.now) c.args.room c.args.most c.args.length c.args.search.now.latest c.args.search.now.rows.lists.items.items
    (book_of c.args.search.now.calls) c.args.search.now.near.items c.args.search.now.far.items.items c.args.length (omega arith) c.requires.round.between)
    (waits_placed (g.G.Graph.flow c.args.graph.now) c.args.room c.args.most c.args.length c.args.search.now.latest c.args.search.now.rows.lists.items.items
    (book_of c.args.search.now.calls) c.args.search.now.near.items c.args.search.now.far.items.items c.args.length c.requires.round.between)
    c.in_ok-take_waiting.ensures.taken).1

pub put_off-requires-clause-below : goal.put_off-requires-clause-below
put_off-requires-clause-below g c = λ n it there. (c.requires.round.between.far_right n it there).below

pub returns : goal.returns
returns g c =
    let graph = g.G.Graph.flow c.args.graph.now in
    let expanded = subst (λ n. HasExpanded graph c.take_waiting.new.rows.lists.items.items n (length c.take_waiting.new.rows.lists.items.items)
    (book_of c.args.search.now.calls) (book_of c.expand_from.new.calls) c.expand_from.new.near.items c.expand_from.new.jumps.items) c.len-first.ensures
    c.in_ok-expand_from.ensures.expanded in
    record {
      between = between_next graph (g.G.Graph.framed c.args.graph.now) c.args.room c.args.most c.args.length c.args.search.now.latest c.in_ok-search.field-0
          c.args.search.now.rows.lists.items.items c.take_waiting.new.rows.lists.items.items (book_of c.args.search.now.calls) (book_of c.expand_from.new.calls)
          c.args.search.now.near.items c.expand_from.new.near.items c.expand_from.new.jumps.items c.args.search.now.far.items.items
          c.put_off.new.far.items.items c.requires.short c.requires.within c.requires.round.between c.in_ok-take_waiting.ensures.taken expanded
          c.in_ok-search.ensures.put c.in_ok-search.ensures.below;
      jumps = c.in_ok-search.ensures.empty;
      wide = record {
        rows = c.take_waiting.ensures.wide ∙ c.requires.round.wide.rows;
        calls = c.expand_from.ensures.operations ∙ c.requires.round.wide.calls;
      };
    }

pub take_waiting-requires-clause-offered : goal.take_waiting-requires-clause-offered
take_waiting-requires-clause-offered g c =
    waits_offered (g.G.Graph.flow c.args.graph.now) c.args.room c.args.most c.args.length c.args.search.now.latest c.args.search.now.rows.lists.items.items
    (book_of c.args.search.now.calls) c.args.search.now.near.items c.args.search.now.far.items.items c.requires.within c.requires.round.between
