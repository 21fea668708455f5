use Rattle.std.proofs.Common.{rules, arith, ap, ◌≡◌, ◌<◌, ◌+◌, suc, []}
use Rattle.hs_search.proofs.Gathering.{gathers_first, gathers_end, gathers_all}
use Rattle.hs_search.proofs.Listing.{walk_first}
use Rattle.hs_search.specs.Bringing.{MakesEnd, origin_back}
use Rattle.hs_search.specs.Graphs.{Has}
use Rattle.hs_search.specs.declared.reach.Reach.{Reach}
use Rattle.hs_search.proofs.offering.offer_ends.Goals as goal

pub ends-init : goal.ends-init
ends-init g c =
    let Makes = MakesEnd (g.G.Graph.flow c.args.graph.now) c.args.calls.now.entries.items.items c.args.rows.now.items.items c.args.caller c.args.up
    c.args.from in
    let all = walk_first c.args.calls.now.ends.items.items c.args.call c.last-number.result (λ n it. (made : Reach) → Makes it.value made → Has [] made)
    c.last-number.ensures in
    record {
      walk = all.0;
      gathers = gathers_first c.args.calls.now.ends.items.items c.args.call Makes c.last-number.result c.args.jumps.now.items all.1;
    }

pub ends-smaller : goal.ends-smaller
ends-smaller g c =
    let some : 0 < c.ends.number = search rules in
    let one_more : c.item-end.result.now.value + 1 ≡ suc c.item-end.result.now.value = omega arith in
    (gathers_end (g.G.Graph.flow c.args.graph.now) c.args.calls.now.entries.items.items c.args.rows.now.items.items c.args.caller c.args.up c.args.from
    c.args.calls.now.ends.heads.items c.args.calls.now.ends.items.items c.args.call c.ends.number c.item-end.result.now c.item.result.now c.node.result
    _ c.args.jumps.now.items c.ends.jumps.items c.offer_return.new.jumps.items c.args.calls.now.ends.right c.ends.invariant.walk c.ends.invariant.gathers some
    c.item-end.ensures c.item.ensures c.node.ensures (ap (origin_back c.args.up) one_more) c.in_ok-offer_return.ensures).2

pub ends-preserved : goal.ends-preserved
ends-preserved g c =
    let some : 0 < c.ends.number = search rules in
    let one_more : c.item-end.result.now.value + 1 ≡ suc c.item-end.result.now.value = omega arith in
    let all = gathers_end (g.G.Graph.flow c.args.graph.now) c.args.calls.now.entries.items.items c.args.rows.now.items.items c.args.caller c.args.up c.args.from
    c.args.calls.now.ends.heads.items c.args.calls.now.ends.items.items c.args.call c.ends.number c.item-end.result.now c.item.result.now c.node.result
    _ c.args.jumps.now.items c.ends.jumps.items c.offer_return.new.jumps.items c.args.calls.now.ends.right c.ends.invariant.walk c.ends.invariant.gathers some
    c.item-end.ensures c.item.ensures c.node.ensures (ap (origin_back c.args.up) one_more) c.in_ok-offer_return.ensures in
    record { walk = all.1; gathers = all.0 }

pub returns : goal.returns
returns g c =
    gathers_all c.args.calls.now.ends.items.items c.args.call
    (MakesEnd (g.G.Graph.flow c.args.graph.now) c.args.calls.now.entries.items.items c.args.rows.now.items.items c.args.caller c.args.up c.args.from) _ _
    (search rules)
