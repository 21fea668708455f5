use Rattle.std.proofs.Common.{rules, ◌≡◌, Err, inl, inr}
use Rattle.hs_search.proofs.Taking.{takes_left, takes_listed}
use Rattle.hs_search.proofs.Tying.{choice_waits, if_both, if_some, offered_taken}
use Rattle.hs_search.proofs.Expanding.{OnOk-then}
use Rattle.hs_search.specs.Storing.{IsListed}
use Rattle.hs_search.proofs.searching.take_waiting.Goals as goal

pub returns-in_err-take_each-clause-taken : goal.returns-in_err-take_each-clause-taken
returns-in_err-take_each-clause-taken c =
    let is : c.from_residual.result ≡ Err c.in_err-take_each.field-0.0 = search rules in
    rw is (takes_left c.args.room c.args.most c.args.near.now.items c.as_slice.result.now
    (IsListed c.args.far.now.items.items c.args.key) c.args.rows.now.lists.items.items
    c.take_each.new.rows.lists.items.items c.take_each.new.rows.lists.items.items c.in_err-take_each.field-0.0
    c.as_slice.ensures.value c.in_err-take_each.ensures.taken)

pub returns-clause-taken : goal.returns-clause-taken
returns-clause-taken c =
    takes_listed c.args.room c.args.most c.args.near.now.items c.args.far.now.items.items c.args.key c.args.rows.now.lists.items.items
    c.take_each.new.rows.lists.items.items c.take_listed.new.rows.lists.items.items c.take_listed.result
    (rw c.as_slice.ensures.value at c.in_ok-take_each.ensures.taken) c.take_listed.ensures.taken

pub take_listed-requires-clause-offered : goal.take_listed-requires-clause-offered
take_listed-requires-clause-offered c =
    if_some c.args.ties _ _ c.requires.offered (λ calls all s listed.
    let own = all s (inr listed) in (
      offered_taken calls.now.entries.items.items c.args.room c.args.most c.args.near.now.items c.args.rows.now.lists.items.items
          c.take_each.new.rows.lists.items.items (rw c.as_slice.ensures.value at c.in_ok-take_each.ensures.taken) (λ o has. all o (inl has)) s own.0,
      own.1,
    ))

pub returns-clause-chosen : goal.returns-clause-chosen
returns-clause-chosen c =
    OnOk-then _ _ (λ listed. if_both c.args.ties _ _ _ c.in_ok-take_each.ensures.chosen listed (λ calls first second.
    choice_waits calls.now.entries.items.items c.args.room c.args.most c.args.near.now.items c.args.far.now.items.items c.args.key
    c.args.rows.now.lists.items.items c.take_each.new.rows.lists.items.items c.take_listed.new.rows.lists.items.items
    (rw c.as_slice.ensures.value at first) second)) c.take_listed.result c.take_listed.ensures.chosen
