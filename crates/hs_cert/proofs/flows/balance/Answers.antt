-- One edge more: what it takes out of each vertex moves from what is left to the sums.
use Rattle.std.proofs.Common.{◌≡◌, ◌≤◌, ◌<◌, ℤ, pos, ◌-ℤ◌, get_or, length, arith, false, w64, to_z, of_z, rules}
use Rattle.std.specs.Prelude.{nat_abs}
use Rattle.std.proofs.lemmas.Int.{ints}
use Rattle.hs_cut.specs.declared.network.CutEdge.{CutEdge}
use Rattle.hs_cert.proofs.Sums.{balance_more, half_small}
use Rattle.hs_cert.proofs.flows.balance.Goals as goal

pub add-requires-clause-low : goal.add-requires-clause-low
add-requires-clause-low c =
    let low = (c.loop-at.invariant (get_or c.args.edges.now c.loop-at.at (record { from = 0; to = 0; slot = false })).from).1 in
    omega arith

pub add-requires-in-loop-at-clause-low : goal.add-requires-in-loop-at-clause-low
add-requires-in-loop-at-clause-low c =
    let edge : CutEdge = get_or c.args.edges.now c.loop-at.at (record { from = 0; to = 0; slot = false }) in
    let amount : ℤ = get_or c.args.flow.now c.loop-at.at (pos 0) in
    let small : nat_abs amount ≤ 2147483647 = c.requires.small c.loop-at.at (pos 0) (omega arith) in
    let first : to_z w64 (of_z w64 amount) ≡ amount = omega (arith, ints) in
    let within : edge.from < length c.loop-at.sums = search rules in
    let low =
    half_small c.loop-at.sums c.add.new.sums edge.from edge.to c.loop-at.at 2147483647 amount within (rw first at c.add.ensures) small
    (λ other. (c.loop-at.invariant other).1) in
    omega arith

pub loop-at-preserved : goal.loop-at-preserved
loop-at-preserved c =
    let edge : CutEdge = get_or c.args.edges.now c.loop-at.at (record { from = 0; to = 0; slot = false }) in
    let amount : ℤ = get_or c.args.flow.now c.loop-at.at (pos 0) in
    let small : nat_abs amount ≤ 2147483647 = c.requires.small c.loop-at.at (pos 0) (omega arith) in
    let first : to_z w64 (of_z w64 amount) ≡ amount = omega (arith, ints) in
    let second : to_z w64 (of_z w64 (pos 0 -ℤ to_z w64 (of_z w64 amount))) ≡ pos 0 -ℤ amount = omega (arith, ints) in
    λ vertex.
    balance_more c.args.edges.now c.args.flow.now c.loop-at.sums c.add.new.sums c.add-in-loop-at.new.sums c.loop-at.at 2147483647
    (record { from = 0; to = 0; slot = false })
    (to_z w64 (of_z w64 (pos 0 -ℤ to_z w64 (of_z w64 amount)))) (omega arith) (omega arith) (search rules) (search rules) second
    (rw first at c.add.ensures) c.add-in-loop-at.ensures small vertex (c.loop-at.invariant vertex).0 (c.loop-at.invariant vertex).1
