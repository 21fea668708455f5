use Rattle.std.proofs.Common.{◌≡◌, true, take}
use Rattle.hs_heap.specs.Passes.{purged, with_each}
use Rattle.hs_heap.specs.declared.decision.Which.TheVariants.{These}
use Rattle.hs_heap.proofs.pass.purge_these.Given as goal

abbrev pub invariant-loop-number : goal.invariant-loop-number
invariant-loop-number l = l.rows.items ≡ with_each true (These (take l.number-index l.numbers)) purged l.fn.rows.items
