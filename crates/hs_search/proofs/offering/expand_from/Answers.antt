use Rattle.std.proofs.Common.{rules, arith, ◌≡◌, ◌<◌, ◌≤◌, length, refl, ◌∙◌, add-one, suc, subst}
use Rattle.hs_search.proofs.Expansions.{expanded_none, expanded_next}
use Rattle.hs_search.proofs.Listing.{get_there}
use Rattle.hs_search.specs.Bringing.{book_of}
use Rattle.hs_search.specs.Searching.{HasExpanded}
use Rattle.hs_search.proofs.offering.expand_from.Goals as goal

pub loop-number-init : goal.loop-number-init
loop-number-init g c = record {
  expanded = expanded_none (g.G.Graph.flow c.args.graph.now) c.args.rows.now.items.items c.args.first (book_of c.args.calls.now) c.args.near.now.items
      c.args.jumps.now.items c.requires.near c.requires.jumps c.requires.laid_out;
  operations = refl;
  from = omega arith;
}

pub loop-number-preserved : goal.loop-number-preserved
loop-number-preserved g c =
    let below : c.loop-number.number < length c.args.rows.now.items.items = search rules in
    let its = get_there c.args.rows.now.items.items c.loop-number.number below in
    let from = c.loop-number.invariant.from in
    rw add-one (record {
      expanded = expanded_next (g.G.Graph.flow c.args.graph.now) c.args.rows.now.items.items c.args.first c.loop-number.number its.0 (book_of c.args.calls.now)
          (book_of c.loop-number.calls) (book_of c.expand.new.calls) c.loop-number.near.items c.expand.new.near.items c.loop-number.jumps.items
          c.expand.new.jumps.items from its.1 c.loop-number.invariant.expanded (c.in_ok-expand.ensures.expanded its.0 its.1);
      operations = c.expand.ensures.operations ∙ c.loop-number.invariant.operations;
      from = (let more : c.args.first ≤ suc c.loop-number.number = omega arith in more);
    })

pub returns-clause-expanded : goal.returns-clause-expanded
returns-clause-expanded g c =
    let done : c.loop-number.number ≡ length c.args.rows.now.items.items = search rules in
    subst (λ n. HasExpanded (g.G.Graph.flow c.args.graph.now) c.args.rows.now.items.items c.args.first n (book_of c.args.calls.now)
    (book_of c.loop-number.calls) c.loop-number.near.items c.loop-number.jumps.items) done c.loop-number.invariant.expanded
