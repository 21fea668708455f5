use Rattle.std.proofs.Common.{rules, arith, add-one, ◌+◌, ◌≡◌, ◌∙◌, Err, length, suc, subst, sym}
use Rattle.hs_search.proofs.Beginning.{far_below, laid_taken, pass_done, past_end, waits_placed}
use Rattle.hs_search.proofs.Passing.{waits_fresh}
use Rattle.hs_search.proofs.Past.{past_first}
use Rattle.hs_search.proofs.Tying.{ended_within}
use Rattle.hs_search.specs.Bringing.{book_of}
use Rattle.hs_search.specs.Layout.{IsLaidOut}
use Rattle.hs_search.specs.Searching.{TakesAll, Waits}
use Rattle.hs_search.specs.Storing.{rows_of}
use Rattle.hs_search.proofs.searching.first_pass.Goals as goal

pub take_waiting-requires-clause-far : goal.take_waiting-requires-clause-far
take_waiting-requires-clause-far g c =
    far_below (g.G.Graph.flow c.args.graph.now) c.args.room c.args.most c.requires.ended.next c.args.search.now.latest c.args.search.now.rows.lists.items.items
    (book_of c.args.search.now.calls) c.args.search.now.near.items c.args.search.now.far.items.items (length c.args.search.now.rows.lists.heads.items)
    c.requires.ended.round.wide.rows c.requires.ended.round.between

pub returns-in_err-take_waiting : goal.returns-in_err-take_waiting
returns-in_err-take_waiting g c =
    let is : c.from_residual.result ≡ Err c.in_err-take_waiting.field-0.0 = search rules in
    let one : c.args.most + 1 ≡ suc c.args.most = omega arith in
    let past = past_first (g.G.Graph.flow c.args.graph.now) (g.G.Graph.framed c.args.graph.now) c.args.room c.args.most c.requires.ended.next
    c.args.search.now.latest c.args.search.now.rows.lists.items.items (book_of c.args.search.now.calls) c.args.search.now.near.items
    c.args.search.now.far.items.items c.requires.ended.round.between c.requires.ended.last in
    rw is (past_end (g.G.Graph.flow c.args.graph.now) c.args.room c.args.most
    (rows_of c.args.search.now.calls.entries.items.items c.args.search.now.rows.lists.items.items) c.args.search.now.rows.lists.items.items
    c.take_waiting.new.rows.lists.items.items (book_of c.args.search.now.calls)
    (Waits c.args.search.now.near.items c.args.search.now.far.items.items (suc c.args.most)) c.in_err-take_waiting.field-0.0 c.requires.short past
    (subst (λ k. TakesAll c.args.room c.args.most (Waits c.args.search.now.near.items c.args.search.now.far.items.items k) c.args.search.now.rows.lists.items.items
    c.take_waiting.new.rows.lists.items.items (Err c.in_err-take_waiting.field-0.0)) one c.in_err-take_waiting.ensures.taken))

pub expand_from-requires-clause-first : goal.expand_from-requires-clause-first
expand_from-requires-clause-first g c =
    rw c.len-first.ensures (laid_taken (g.G.Graph.flow c.args.graph.now) c.args.room c.args.most
    (Waits c.args.search.now.near.items c.args.search.now.far.items.items (c.args.most + 1)) c.args.search.now.rows.lists.items.items
    c.take_waiting.new.rows.lists.items.items (book_of c.args.search.now.calls) c.requires.short c.requires.ended.round.between.laid_out
    (waits_fresh (g.G.Graph.flow c.args.graph.now) c.args.room c.args.most c.requires.ended.next c.args.search.now.latest
    c.args.search.now.rows.lists.items.items (book_of c.args.search.now.calls) c.args.search.now.near.items c.args.search.now.far.items.items
    (c.args.most + 1) (ended_within c.args.most c.requires.ended.next c.args.search.now.latest c.args.search.now.near.items c.requires.ended.last)
    c.requires.ended.round.between)
    (waits_placed (g.G.Graph.flow c.args.graph.now) c.args.room c.args.most c.requires.ended.next c.args.search.now.latest
    c.args.search.now.rows.lists.items.items (book_of c.args.search.now.calls) c.args.search.now.near.items c.args.search.now.far.items.items (c.args.most + 1)
    c.requires.ended.round.between) c.in_ok-take_waiting.ensures.taken).0

pub expand_from-requires-clause-laid_out : goal.expand_from-requires-clause-laid_out
expand_from-requires-clause-laid_out g c =
    subst (IsLaidOut (g.G.Graph.flow c.args.graph.now) c.take_waiting.new.rows.lists.items.items (book_of c.args.search.now.calls)) (sym c.len-first.ensures)
    (laid_taken (g.G.Graph.flow c.args.graph.now) c.args.room c.args.most
    (Waits c.args.search.now.near.items c.args.search.now.far.items.items (c.args.most + 1)) c.args.search.now.rows.lists.items.items
    c.take_waiting.new.rows.lists.items.items (book_of c.args.search.now.calls) c.requires.short c.requires.ended.round.between.laid_out
    (waits_fresh (g.G.Graph.flow c.args.graph.now) c.args.room c.args.most c.requires.ended.next c.args.search.now.latest
    c.args.search.now.rows.lists.items.items (book_of c.args.search.now.calls) c.args.search.now.near.items c.args.search.now.far.items.items
    (c.args.most + 1) (ended_within c.args.most c.requires.ended.next c.args.search.now.latest c.args.search.now.near.items c.requires.ended.last)
    c.requires.ended.round.between)
    (waits_placed (g.G.Graph.flow c.args.graph.now) c.args.room c.args.most c.requires.ended.next c.args.search.now.latest
    c.args.search.now.rows.lists.items.items (book_of c.args.search.now.calls) c.args.search.now.near.items c.args.search.now.far.items.items (c.args.most + 1)
    c.requires.ended.round.between) c.in_ok-take_waiting.ensures.taken).1

pub returns : goal.returns
returns g c =
    let past = past_first (g.G.Graph.flow c.args.graph.now) (g.G.Graph.framed c.args.graph.now) c.args.room c.args.most c.requires.ended.next
    c.args.search.now.latest c.args.search.now.rows.lists.items.items (book_of c.args.search.now.calls) c.args.search.now.near.items
    c.args.search.now.far.items.items c.requires.ended.round.between c.requires.ended.last in
    record {
      base = rows_of c.args.search.now.calls.entries.items.items c.args.search.now.rows.lists.items.items;
      past = pass_done (g.G.Graph.flow c.args.graph.now) (g.G.Graph.framed c.args.graph.now) c.args.room c.args.most
          (rows_of c.args.search.now.calls.entries.items.items c.args.search.now.rows.lists.items.items) c.args.search.now.rows.lists.items.items
          c.take_waiting.new.rows.lists.items.items (book_of c.args.search.now.calls) (book_of c.expand_from.new.calls)
          (Waits c.args.search.now.near.items c.args.search.now.far.items.items (suc c.args.most)) c.len-first.result c.expand_from.new.near.items
          c.expand_from.new.jumps.items c.requires.short past (rw add-one at c.in_ok-take_waiting.ensures.taken) c.len-first.ensures
          c.in_ok-expand_from.ensures.expanded;
      wide = record {
        rows = c.take_waiting.ensures.wide ∙ c.requires.ended.round.wide.rows;
        calls = c.expand_from.ensures.operations ∙ c.requires.ended.round.wide.calls;
      };
    }
