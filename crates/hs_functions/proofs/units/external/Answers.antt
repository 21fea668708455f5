use Rattle.std.proofs.Common.{rules}
use Rattle.hs_functions.proofs.units.external.Goals as goal

-- a function
pub returns-in_err-defined-in-Function : goal.returns-in_err-defined-in-Function
returns-in_err-defined-in-Function c = rw (c.in-Function.is, ← c.deref.ensures.value) (search rules)

pub returns-in_ok-defined-in-Function : goal.returns-in_ok-defined-in-Function
returns-in_ok-defined-in-Function c = rw (c.in-Function.is, ← c.deref.ensures.value) (search rules)
