-- After the two clearings each place is 0 at a demand, and the balance of its vertex elsewhere.
use Rattle.std.proofs.Common.{◌≡◌, arith, length}
use Rattle.hs_cert.proofs.Balances.{IsBalance, first_of, none_of, balance_of}
use Rattle.hs_cert.proofs.verifier.first_unbalanced.Goals as goal

pub returns-clause-found : goal.returns-clause-found
returns-clause-found c =
    let long : length c.clear-2.new.sums ≡ c.args.network.now.vertices = omega arith in
    let balance : IsBalance c.args.network.now c.args.flow.now c.clear-2.new.sums =
    balance_of c.args.network.now c.args.flow.now c.balance.new.sums c.clear.new.sums c.clear-2.new.sums
    (rw c.items.ensures at c.balance.ensures.sums) (rw c.items-2.ensures at c.clear.ensures.sums) (rw c.items-3.ensures at c.clear-2.ensures.sums) in
    first_of c.args.network.now c.args.flow.now c.clear-2.new.sums long balance c.first_unequal.result c.first_unequal.ensures

pub returns-clause-none : goal.returns-clause-none
returns-clause-none c =
    let long : length c.clear-2.new.sums ≡ c.args.network.now.vertices = omega arith in
    let balance : IsBalance c.args.network.now c.args.flow.now c.clear-2.new.sums =
    balance_of c.args.network.now c.args.flow.now c.balance.new.sums c.clear.new.sums c.clear-2.new.sums
    (rw c.items.ensures at c.balance.ensures.sums) (rw c.items-2.ensures at c.clear.ensures.sums) (rw c.items-3.ensures at c.clear-2.ensures.sums) in
    none_of c.args.network.now c.args.flow.now c.clear-2.new.sums long balance c.first_unequal.result c.first_unequal.ensures
