use Rattle.std.proofs.Common.{rules, ◌≡◌, Err}
use Rattle.hs_search.proofs.Taking.{takes_left, takes_second, takes_second_end}
use Rattle.hs_search.specs.Graphs.{Has}
use Rattle.hs_search.proofs.searching.take_offers.Goals as goal

pub returns-in_err-take_each-clause-taken : goal.returns-in_err-take_each-clause-taken
returns-in_err-take_each-clause-taken c =
    let is : c.from_residual.result ≡ Err c.in_err-take_each.field-0.0 = search rules in
    rw is (takes_left c.args.room c.args.most c.args.near.now.items c.as_slice.result.now (Has c.args.jumps.now.items) c.args.rows.now.lists.items.items
    c.take_each.new.rows.lists.items.items c.take_each.new.rows.lists.items.items c.in_err-take_each.field-0.0
    c.as_slice.ensures.value c.in_err-take_each.ensures.taken)

pub returns-in_err-take_each-2-clause-taken : goal.returns-in_err-take_each-2-clause-taken
returns-in_err-take_each-2-clause-taken c =
    let is : c.from_residual-in_err-take_each-2.result ≡ Err c.in_err-take_each-2.field-0.0 = search rules in
    rw is (takes_second_end c.args.room c.args.most c.args.near.now.items c.args.jumps.now.items c.as_slice-2.result.now c.args.rows.now.lists.items.items
    c.take_each.new.rows.lists.items.items c.take_each-2.new.rows.lists.items.items c.take_each-2.new.rows.lists.items.items c.in_err-take_each-2.field-0.0
    c.as_slice-2.ensures.value (rw c.as_slice.ensures.value at c.in_ok-take_each.ensures.taken) c.in_err-take_each-2.ensures.taken)

pub returns-clause-taken : goal.returns-clause-taken
returns-clause-taken c =
    takes_second c.args.room c.args.most c.args.near.now.items c.args.jumps.now.items c.args.rows.now.lists.items.items c.take_each.new.rows.lists.items.items
    c.take_each-2.new.rows.lists.items.items (rw c.as_slice.ensures.value at c.in_ok-take_each.ensures.taken)
    (rw c.as_slice-2.ensures.value at c.in_ok-take_each-2.ensures.taken)
