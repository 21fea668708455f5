use Rattle.hs_effects.specs.Calling.{whole_of}
use Rattle.hs_must.proofs.Found.{all_exact}
use Rattle.hs_must.proofs.whole.must.Goals as goal

-- all functions are found
pub returns-in-Ok-Some : goal.returns-in-Ok-Some
returns-in-Ok-Some c = all_exact (whole_of c.args.code.now) c.in-Ok-Some.functions.items (rw c.in-Ok-Some.field-0-is at c.in-Ok-Some.ensures)
