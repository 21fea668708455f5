use Rattle.std.proofs.Common.{◌+◌, length}
use Rattle.hs_macros.proofs.Found.{FindsEither}
use Rattle.hs_macros.proofs.hide_set.HideSet.merged.Given as goal

-- with what the rows still have, the numbers so far are all that one of the sets holds
abbrev pub invariant-rows : goal.invariant-rows
invariant-rows l = FindsEither l.numbers.items l.own l.others l.self l.other

-- each turn takes a number from one of the rows
abbrev pub decreases-rows : goal.decreases-rows
decreases-rows l = length l.own + length l.others
