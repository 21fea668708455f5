use Rattle.std.proofs.Common.{◌≡◌, ◌++◌, map, take}
use Rattle.hs_search.specs.Bringing.{step_on}
use Rattle.hs_search.proofs.offering.offer_steps.Given as goal

-- the nodes so far are offered
abbrev pub invariant-loop-next : goal.invariant-loop-next
invariant-loop-next g l = l.near.items ≡ l.fn.near.items ++ map (step_on l.up l.from) (take l.next-index l.next-items)
