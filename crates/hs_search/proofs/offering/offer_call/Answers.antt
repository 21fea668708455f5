use Rattle.std.proofs.Common.{rules, arith, ◌≡◌, ◌+◌, ◌++◌, ◌∷◌, [], suc, sym, ◌∙◌, ap, add-one}
use Rattle.hs_search.proofs.Expanding.{OnOk-then}
use Rattle.hs_search.specs.Bringing.{Gathers, step_in}
use Rattle.hs_search.proofs.offering.offer_call.Goals as goal

-- src/offering.rt:137:1
pub returns-clause-offered : goal.returns-clause-offered
returns-clause-offered g c =
    let graph = g.G.Graph.flow c.args.graph.now in
    let entered = sym c.enters.ensures ∙ c.in-Some.is in
    let up : c.args.number + 1 ≡ suc c.args.number = omega arith in
    rw entered (OnOk-then _ _ (λ gathers. record {
      call = c.in_ok-call.call;
      numbered = c.in_ok-call.ensures.numbered;
      offered = (let pushed : c.push.new.self.items ≡ c.args.near.now.items ++ step_in (c.args.number + 1) c.args.from c.in_ok-call.call c.in-Some.entry ∷ [] =
          rw add-one at c.in_ok-push.ensures.items in
          pushed ∙ ap (λ n. c.args.near.now.items ++ step_in n c.args.from c.in_ok-call.call c.in-Some.entry ∷ []) up);
      caller = search rules;
      ends = c.in_ok-call.ensures.ends;
      returns = (let on : Gathers c.args.calls.now.ends.items.items c.in_ok-call.call _ _ _ = rw c.in_ok-call.ensures.ends at gathers in rw up at on);
    }) c.offer_ends.result c.offer_ends.ensures)
