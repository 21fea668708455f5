use Rattle.std.proofs.Common.{◌≡◌, true, length, take}
use Rattle.hs_heap.proofs.Passing.{AreMarked}
use Rattle.hs_heap.specs.Passes.{relocated, with_each}
use Rattle.hs_heap.specs.declared.decision.Which.TheVariants.{These}
use Rattle.hs_heap.proofs.pass.relocate_these.Given as goal

abbrev pub invariant-loop-number : goal.invariant-loop-number
invariant-loop-number l =
    (l.rows.items ≡ with_each true (These (take l.number-index l.numbers)) relocated l.fn.rows.items)
    × AreMarked (length l.fn.rows.items) l.shift (take l.number-index l.numbers) l.marks.items
