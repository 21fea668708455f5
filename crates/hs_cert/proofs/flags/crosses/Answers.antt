-- `!=` of two tests is exactly one of them.
use Rattle.hs_cert.proofs.Places.{unequal_is_xor}
use Rattle.hs_cert.proofs.flags.crosses.Goals as goal

pub returns : goal.returns
returns c = rw (← c.is_flagged.ensures, ← c.is_flagged-2.ensures) (unequal_is_xor c.is_flagged.result c.is_flagged-2.result)
