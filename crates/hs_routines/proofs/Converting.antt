-- What a role gives, as another value.
use Rattle.std.proofs.Common.{Option, Some, None, Ok, ap}
use Rattle.hs_meaning.specs.Accesses.{by_stop}
use Rattle.hs_meaning.specs.Machine.{Machine}
use Rattle.hs_meaning.specs.Values.{Value}
use Rattle.hs_meaning.specs.declared.outcome.Stop.{Stop}
use Rattle.hs_state.specs.Machines.{Does}

-- the machine after it is the same
pub converted : (convert : Value → Value) (stop : Option Stop) (it value : Value) (after before now : Machine)
    → Does (by_stop stop it after before) now (Ok value) → Does (by_stop stop (convert it) after before) now (Ok (convert value))
converted convert None it value after before now is = (ap convert is.0, is.1)
converted convert (Some why) it value after before now is = absurd is
