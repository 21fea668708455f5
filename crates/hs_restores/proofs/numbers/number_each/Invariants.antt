use Rattle.std.proofs.Common.{◌≡◌, ◌++◌, length, drop}
use Rattle.hs_restores.specs.Marks.{listed_from, numbered}
use Rattle.hs_restores.proofs.numbers.number_each.Given as goal

-- those that are left come after what is done
abbrev pub invariant-marks : goal.invariant-marks
invariant-marks l = record {
  list : l.list.items ++ listed_from l.whose l.place (drop l.place l.marks) ≡ l.fn.list.items ++ listed_from l.whose 0 l.marks;
  numbers : l.numbers.items ++ numbered (length l.list.items) (drop l.place l.marks) ≡ numbered (length l.fn.list.items) l.marks;
}
