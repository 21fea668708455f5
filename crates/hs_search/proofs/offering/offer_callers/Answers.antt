use Rattle.std.proofs.Common.{rules, arith, ap, ◌≡◌, ◌<◌, ◌+◌, suc, []}
use Rattle.hs_search.proofs.Gathering.{gathers_first, gathers_caller, gathers_all}
use Rattle.hs_search.proofs.Listing.{walk_first}
use Rattle.hs_search.specs.Bringing.{MakesCaller, origin_back}
use Rattle.hs_search.specs.Graphs.{Has}
use Rattle.hs_search.specs.declared.reach.Reach.{Reach}
use Rattle.hs_search.proofs.offering.offer_callers.Goals as goal

pub callers-init : goal.callers-init
callers-init g c =
    let Makes = MakesCaller (g.G.Graph.flow c.args.graph.now) c.args.calls.now.entries.items.items c.args.rows.now.items.items c.args.last c.args.end_number
    c.args.end in
    let all = walk_first c.args.calls.now.callers.items.items c.args.end.call c.last-number.result
    (λ n it. (made : Reach) → Makes it.value made → Has [] made) c.last-number.ensures in
    record {
      walk = all.0;
      gathers = gathers_first c.args.calls.now.callers.items.items c.args.end.call Makes c.last-number.result c.args.jumps.now.items all.1;
    }

pub callers-smaller : goal.callers-smaller
callers-smaller g c =
    let some : 0 < c.callers.number = search rules in
    let one_more : c.item-call.result.now.value + 1 ≡ suc c.item-call.result.now.value = omega arith in
    (gathers_caller (g.G.Graph.flow c.args.graph.now) c.args.calls.now.entries.items.items c.args.rows.now.items.items c.args.last c.args.end_number c.args.end
    c.args.calls.now.callers.heads.items c.args.calls.now.callers.items.items c.args.end.call c.callers.number c.item-call.result.now c.item.result.now
    c.node.result _ c.args.jumps.now.items c.callers.jumps.items c.offer_return.new.jumps.items c.args.calls.now.callers.right c.callers.invariant.walk
    c.callers.invariant.gathers some c.item-call.ensures c.item.ensures c.node.ensures (ap (λ n. origin_back n c.args.end_number) one_more)
    c.in_ok-offer_return.ensures).2

pub callers-preserved : goal.callers-preserved
callers-preserved g c =
    let some : 0 < c.callers.number = search rules in
    let one_more : c.item-call.result.now.value + 1 ≡ suc c.item-call.result.now.value = omega arith in
    let all = gathers_caller (g.G.Graph.flow c.args.graph.now) c.args.calls.now.entries.items.items c.args.rows.now.items.items c.args.last
    c.args.end_number c.args.end
    c.args.calls.now.callers.heads.items c.args.calls.now.callers.items.items c.args.end.call c.callers.number c.item-call.result.now c.item.result.now
    c.node.result _ c.args.jumps.now.items c.callers.jumps.items c.offer_return.new.jumps.items c.args.calls.now.callers.right c.callers.invariant.walk
    c.callers.invariant.gathers some c.item-call.ensures c.item.ensures c.node.ensures (ap (λ n. origin_back n c.args.end_number) one_more)
    c.in_ok-offer_return.ensures in
    record { walk = all.1; gathers = all.0 }

pub returns : goal.returns
returns g c =
    gathers_all c.args.calls.now.callers.items.items c.args.end.call
    (MakesCaller (g.G.Graph.flow c.args.graph.now) c.args.calls.now.entries.items.items c.args.rows.now.items.items c.args.last c.args.end_number
    c.args.end) _ _ (search rules)
