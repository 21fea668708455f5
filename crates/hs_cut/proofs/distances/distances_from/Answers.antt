use Rattle.std.proofs.Common.{◌≡◌, ◌<◌, length, arith, sym, add-one, replicate, None, rules}
use Rattle.std.proofs.Math.ListN.{length-replicate}
use Rattle.std.proofs.lemmas.Bool.{eqb-true}
use Rattle.std.proofs.lemmas.Bool.Decides.{nat_tests}
use Rattle.hs_cut.proofs.Search.{IsFrontier-starts, IsFrontier-next, IsFrontier-within, AreDistances-done, no_vertex, written, distance-blank}
use Rattle.hs_cut.proofs.distances.distances_from.Goals as goal

-- the frontier has vertices alone
pub reach_next-requires-clause-known : goal.reach_next-requires-clause-known
reach_next-requires-clause-known c =
    rw c.as_slice.ensures.value
    (IsFrontier-within c.args.gates.now c.args.rows.now c.args.starts.now c.rounds.distances.items c.rounds.frontier.items c.rounds.distance
    c.rounds.invariant)

-- the starts are reached
pub rounds-init : goal.rounds-init
rounds-init c =
    let long : c.in_ok-distances.distances.len ≡ length c.reach_starts.new.distances = omega arith in
    let blank = c.in_ok-distances.ensures.items_if_clones_equal (λ y h. search rules) in
    let reached = rw (c.as_mut_slice.ensures.value, blank, c.new-frontier.ensures.items) at c.in_ok-reach_starts.ensures in
    rw (written c.in_ok-distances.distances.items c.reach_starts.new.distances c.in_ok-distances.distances.len long) (
    IsFrontier-starts c.args.gates.now c.args.rows.now c.args.starts.now (replicate (length c.args.rows.now) None) c.reach_starts.new.distances
    c.reach_starts.new.next.items (length-replicate (length c.args.rows.now) None) (distance-blank (length c.args.rows.now)) reached)

-- one round more
pub rounds-preserved : goal.rounds-preserved
rounds-preserved c =
    let long : c.rounds.distances.len ≡ length c.reach_next.new.distances = omega arith in
    let some : 0 < length c.rounds.frontier.items = grind (arith, nat_tests) in
    let reached = rw (c.as_slice.ensures.value, c.as_mut_slice-in-rounds.ensures.value, c.new-next.ensures.items, add-one) at c.in_ok-reach_next.ensures in
    rw (written c.rounds.distances.items c.reach_next.new.distances c.rounds.distances.len long, add-one) (
    IsFrontier-next c.args.gates.now c.args.rows.now c.args.starts.now c.rounds.distances.items c.rounds.frontier.items c.rounds.distance
    c.reach_next.new.distances c.reach_next.new.next.items c.rounds.invariant some reached)

-- no vertex was found in the last round
pub returns : goal.returns
returns c =
    let empty : c.rounds.frontier.len ≡ 0 = eqb-true c.rounds.frontier.len 0 (sym c.rounds-test.ensures) in
    let none : length c.rounds.frontier.items ≡ 0 = omega arith in
    let all = rw (no_vertex c.rounds.frontier.items none) at c.rounds.invariant in
    AreDistances-done c.args.gates.now c.args.rows.now c.args.starts.now c.rounds.distances.items c.rounds.distance all
