use Rattle.std.proofs.Common.{rules, ◌<◌, ◌≡◌}
use Rattle.hs_search.proofs.Listing.{walk_first, walk_back}
use Rattle.hs_search.proofs.calls.find.Goals as goal

pub calls-init : goal.calls-init
calls-init c =
    let all = walk_first c.args.entries.now.items.items c.args.entry.at c.last-number.result (λ n it. it.value ≡ c.args.entry.fact → ⊥) c.last-number.ensures in
    record { walk = all.0; seen = all.1 }

pub calls-smaller : goal.calls-smaller
calls-smaller c =
    let some : 0 < c.calls.number = search rules in
    (walk_back c.args.entries.now.heads.items c.args.entries.now.items.items c.args.entry.at c.calls.number c.item-call.result.now
    (λ n it. it.value ≡ c.args.entry.fact → ⊥) c.args.entries.now.right c.calls.invariant.walk c.calls.invariant.seen some c.item-call.ensures
    (search rules)).2

pub calls-preserved : goal.calls-preserved
calls-preserved c =
    let some : 0 < c.calls.number = search rules in
    let all = walk_back c.args.entries.now.heads.items c.args.entries.now.items.items c.args.entry.at c.calls.number c.item-call.result.now
    (λ n it. it.value ≡ c.args.entry.fact → ⊥) c.args.entries.now.right c.calls.invariant.walk c.calls.invariant.seen some c.item-call.ensures
    (search rules) in
    record { walk = all.0; seen = all.1 }
