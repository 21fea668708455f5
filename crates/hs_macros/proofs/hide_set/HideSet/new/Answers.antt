use Rattle.hs_macros.proofs.Rising.{IsRising-none}
use Rattle.hs_macros.proofs.hide_set.HideSet.new.Goals as goal

-- no numbers rise
pub invariant_of-result : goal.invariant_of-result
invariant_of-result c = rw c.new.ensures.items IsRising-none
