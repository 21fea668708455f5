use Rattle.std.proofs.Common.{◌≡◌, sym, ◌∙◌, subst, refl, add-one}
use Rattle.hs_search.proofs.Calling.{placed_kept}
use Rattle.hs_search.proofs.Entering.{call_offered}
use Rattle.hs_search.proofs.Expanding.{OnOk-then, after_fit, after_rows, ends_rows, expanded, fit_of}
use Rattle.hs_search.proofs.Listing.{some_is}
use Rattle.hs_search.specs.Bringing.{book_of}
use Rattle.hs_search.specs.Layout.{IsExpanded}
use Rattle.hs_search.specs.declared.lists.Item.{Item}
use Rattle.hs_search.specs.declared.reach.Reach.{Reach}
use Rattle.hs_search.proofs.offering.expand.Goals as goal

pub node-node-requires : goal.node-node-requires
node-node-requires g c = record { known = (c.requires.laid_out.placed c.args.number c.item.result.now c.item.ensures).known }

pub offer_steps-requires-clause-within : goal.offer_steps-requires-clause-within
offer_steps-requires-clause-within g c =
    rw c.node-node.ensures (c.requires.laid_out.placed c.args.number c.item.result.now c.item.ensures).within

pub offer_call-requires-clause-within : goal.offer_call-requires-clause-within
offer_call-requires-clause-within g c =
    rw c.node-node.ensures (c.requires.laid_out.placed c.args.number c.item.result.now c.item.ensures).within

pub offer_call-requires-clause-fit : goal.offer_call-requires-clause-fit
offer_call-requires-clause-fit g c =
    fit_of (g.G.Graph.flow c.args.graph.now) c.args.rows.now.items.items (book_of c.args.calls.now) c.args.number c.requires.laid_out

pub offer_call-requires-clause-rows : goal.offer_call-requires-clause-rows
offer_call-requires-clause-rows g c =
    ends_rows (g.G.Graph.flow c.args.graph.now) c.args.rows.now.items.items (book_of c.args.calls.now) c.args.number c.requires.laid_out

pub offer_end-requires-clause-within : goal.offer_end-requires-clause-within
offer_end-requires-clause-within g c =
    rw c.node-node.ensures (c.requires.laid_out.placed c.args.number c.item.result.now c.item.ensures).within

pub offer_end-requires-clause-known : goal.offer_end-requires-clause-known
offer_end-requires-clause-known g c =
    let graph = g.G.Graph.flow c.args.graph.now in
    let after = call_offered graph (g.G.Graph.framed c.args.graph.now) c.args.rows.now.items.items c.args.number c.item.result.now _ (book_of c.args.calls.now)
    (book_of c.offer_call.new.calls) _ _ _ _ c.item.ensures c.requires.laid_out refl (rw c.node-node.ensures at c.in_ok-offer_call.ensures.offered) in
    (placed_kept graph c.args.calls.now.entries.items.items c.offer_call.new.calls.entries.items.items after.grows c.item.result.now.value
    (c.requires.laid_out.placed c.args.number c.item.result.now c.item.ensures)).known

pub offer_end-requires-clause-fit : goal.offer_end-requires-clause-fit
offer_end-requires-clause-fit g c =
    let graph = g.G.Graph.flow c.args.graph.now in
    let after = call_offered graph (g.G.Graph.framed c.args.graph.now) c.args.rows.now.items.items c.args.number c.item.result.now _ (book_of c.args.calls.now)
    (book_of c.offer_call.new.calls) _ _ _ _ c.item.ensures c.requires.laid_out refl (rw c.node-node.ensures at c.in_ok-offer_call.ensures.offered) in
    after_fit graph c.args.rows.now.items.items c.args.number c.item.result.now (book_of c.args.calls.now) (book_of c.offer_call.new.calls) _ _ _ _
    c.requires.laid_out after

pub offer_end-requires-clause-rows : goal.offer_end-requires-clause-rows
offer_end-requires-clause-rows g c =
    let graph = g.G.Graph.flow c.args.graph.now in
    let after = call_offered graph (g.G.Graph.framed c.args.graph.now) c.args.rows.now.items.items c.args.number c.item.result.now _ (book_of c.args.calls.now)
    (book_of c.offer_call.new.calls) _ _ _ _ c.item.ensures c.requires.laid_out refl (rw c.node-node.ensures at c.in_ok-offer_call.ensures.offered) in
    after_rows graph c.args.rows.now.items.items c.args.number c.item.result.now (book_of c.args.calls.now) (book_of c.offer_call.new.calls) _ _ _ _ after

pub returns-clause-expanded : goal.returns-clause-expanded
returns-clause-expanded g c =
    let graph = g.G.Graph.flow c.args.graph.now in
    OnOk-then _ _ (λ ended it there.
    let is : c.item.result.now ≡ it = some_is (sym c.item.ensures ∙ there) in
    subst (λ (x : Item Reach). IsExpanded graph c.args.rows.now.items.items c.args.number x (book_of c.args.calls.now) (book_of c.offer_end.new.calls)
    c.args.near.now.items c.offer_call.new.near.items c.args.jumps.now.items c.offer_end.new.jumps.items) is
    (expanded graph (g.G.Graph.framed c.args.graph.now) c.args.rows.now.items.items c.args.number c.item.result.now c.node-node.result
    (book_of c.args.calls.now) (book_of c.offer_call.new.calls) (book_of c.offer_end.new.calls) c.args.near.now.items c.offer_steps.new.near.items
    c.offer_call.new.near.items c.args.jumps.now.items c.offer_call.new.jumps.items c.offer_end.new.jumps.items c.item.ensures c.requires.laid_out
    c.node-node.ensures (rw add-one at c.in_ok-offer_steps.ensures) c.in_ok-offer_call.ensures.offered ended)) c.offer_end.result c.offer_end.ensures.offered

pub offer_steps-requires-clause-small : goal.offer_steps-requires-clause-small
offer_steps-requires-clause-small g c =
    let fit = fit_of (g.G.Graph.flow c.args.graph.now) c.args.rows.now.items.items (book_of c.args.calls.now) c.args.number c.requires.laid_out c.args.number
    c.item.result.now c.item.ensures in
    (fit.length, fit.level)

pub offer_call-requires-clause-small : goal.offer_call-requires-clause-small
offer_call-requires-clause-small g c =
    let fit = fit_of (g.G.Graph.flow c.args.graph.now) c.args.rows.now.items.items (book_of c.args.calls.now) c.args.number c.requires.laid_out c.args.number
    c.item.result.now c.item.ensures in
    (fit.length, fit.level)

pub offer_end-requires-clause-small : goal.offer_end-requires-clause-small
offer_end-requires-clause-small g c =
    (fit_of (g.G.Graph.flow c.args.graph.now) c.args.rows.now.items.items (book_of c.args.calls.now) c.args.number c.requires.laid_out c.args.number
    c.item.result.now c.item.ensures).level
