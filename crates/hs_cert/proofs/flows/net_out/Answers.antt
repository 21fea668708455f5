-- One edge more: the total takes what the rest loses.
use Rattle.std.proofs.Common.{◌≡◌, ◌*◌, ◌≤◌, arith, ℤ, pos, ◌+ℤ◌, get_or, false, w64, to_z, of_z}
use Rattle.std.specs.Prelude.{nat_abs}
use Rattle.std.proofs.lemmas.Int.{ints}
use Rattle.hs_cut.specs.declared.network.CutEdge.{CutEdge}
use Rattle.hs_cut.specs.Flows.{out_over}
use Rattle.hs_cert.specs.Flags.{flagged}
use Rattle.hs_cut.specs.NetOut.{out_over-size}
use Rattle.hs_cert.proofs.Sums.{net_out_more, total_more, total_small}
use Rattle.hs_cert.proofs.flows.net_out.Goals as goal

pub loop-at-preserved : goal.loop-at-preserved
loop-at-preserved c =
    let edge : CutEdge = get_or c.args.edges.now c.loop-at.at (record { from = 0; to = 0; slot = false }) in
    let amount : ℤ = get_or c.args.flow.now c.loop-at.at (pos 0) in
    let bounded : nat_abs amount ≤ 2147483647 = c.requires.small c.loop-at.at (pos 0) (omega arith) in
    let out : ℤ = out_over (flagged c.args.flags.now) edge amount in
    let total : ℤ = to_z w64 c.loop-at.total-bits in
    let first : to_z w64 (of_z w64 amount) ≡ amount = omega (arith, ints) in
    let is : c.out_over-total.result ≡ out = rw first at c.out_over-total.ensures in
    let small : nat_abs out ≤ 2147483647 = out_over-size (flagged c.args.flags.now) edge amount 2147483647 bounded in
    let low : nat_abs total ≤ c.loop-at.at * 2147483647 = c.loop-at.invariant.1 in
    let now : to_z w64 (of_z w64 (total +ℤ to_z w64 (of_z w64 c.out_over-total.result))) ≡ total +ℤ out = omega (arith, ints, is) in
    let left =
    net_out_more (flagged c.args.flags.now) c.args.edges.now c.args.flow.now c.loop-at.at (record { from = 0; to = 0; slot = false }) (pos 0)
    (omega arith) (omega arith) in
    (rw now (total_more total out _ _ (rw (← left) c.loop-at.invariant.0)), rw now (total_small total out c.loop-at.at 2147483647 low small))
