use Rattle.std.proofs.Common.{◌+◌, length}
use Rattle.hs_macros.proofs.Found.{FindsBoth}
use Rattle.hs_macros.proofs.hide_set.HideSet.common.Given as goal

-- with what both rows still have, the numbers so far are all that both sets hold
abbrev pub invariant-rows : goal.invariant-rows
invariant-rows l = FindsBoth l.numbers.items l.own l.others l.self l.other

-- each turn takes a number from one of the rows
abbrev pub decreases-rows : goal.decreases-rows
decreases-rows l = length l.own + length l.others
