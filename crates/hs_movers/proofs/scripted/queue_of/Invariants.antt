use Rattle.std.proofs.Common.{◌≡◌, take}
use Rattle.hs_movers.proofs.scripted.queue_of.Given as goal

abbrev pub invariant-loop-decision : goal.invariant-loop-decision
invariant-loop-decision l = l.queue.items ≡ take l.decision-index l.given
