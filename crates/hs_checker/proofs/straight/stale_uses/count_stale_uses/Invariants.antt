-- The uses so far were counted, and those of the steps to come are left.
use Rattle.std.proofs.Common.{◌≡◌, ◌+◌, ◌*◌, ◌≤◌, reverse, take, drop, []}
use Rattle.hs_meaning.specs.Straight.StaleUses.{uses_after}
use Rattle.hs_checker.specs.Straight.Count.{stale_uses}
use Rattle.hs_checker.proofs.straight.stale_uses.count_stale_uses.Given as goal

abbrev pub invariant-loop-place : goal.invariant-loop-place
invariant-loop-place l =
    (l.count + stale_uses (uses_after (reverse (take l.place l.steps)) (drop l.place l.steps)) ≡ stale_uses (uses_after [] l.steps))
    × (l.count ≤ 2 * l.place)
