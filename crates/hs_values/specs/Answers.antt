-- What calls of the machine answer (own): what the definition gives, or why it stops.
--     or_stop why it                the answer, unless there is a stop
--     or_first stops it             the same of a list of stops, of which the first that applies counts
--     Halts wanted result           the same where memory may run out, of which nothing is said
use Rattle.std.specs.Prelude.{◌≡◌, Option, Some, None, Result, Ok, Err}
use Rattle.hs_meaning.specs.Stops.{Stops, first_stop}
use Rattle.hs_meaning.specs.declared.outcome.Stop.{Stop}
use Rattle.hs_values.specs.declared.halt.Halt.{Halt}
use Rattle.hs_values.specs.declared.halt.Halt.TheVariants.{Stopped, NoMemory}

-- the answer, unless there is a stop
abbrev pub or_stop : {A : Type 0} → Option Stop → A → Result A Stop
or_stop None it = Ok it
or_stop (Some why) it = Err why

-- unless one of them applies
abbrev pub or_first : {A : Type 0} → Stops → A → Result A Stop
or_first stops it = or_stop (first_stop stops) it

-- what was wanted, or memory ran out
abbrev pub Halts : {A : Type 0} → Result A Stop → Result A Halt → Type 0
Halts (Ok it) (Ok given) = given ≡ it
Halts (Err why) (Ok given) = ⊥
Halts (Ok it) (Err (Stopped given)) = ⊥
Halts (Err why) (Err (Stopped given)) = given ≡ why
Halts wanted (Err NoMemory) = Unit {0}
