use Rattle.std.proofs.Common.{◌+◌, length}
use Rattle.hs_macros.proofs.Subsets.{Decides}
use Rattle.hs_macros.proofs.hide_set.HideSet.is_subset.Given as goal

-- what is left of the two rows decides
abbrev pub invariant-rows : goal.invariant-rows
invariant-rows l = Decides l.own l.others l.self l.other

-- each turn takes a number from the row of the others
abbrev pub decreases-rows : goal.decreases-rows
decreases-rows l = length l.own + length l.others
