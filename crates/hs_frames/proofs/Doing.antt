-- One operation after another.
use Rattle.std.proofs.Common.{◌≡◌, Ok, Err}
use Rattle.hs_meaning.specs.Machine.{Machine, Done, done, stopped, and_then}
use Rattle.hs_state.specs.Machines.{Does}
use Rattle.hs_values.specs.declared.halt.Halt.{Halt}
use Rattle.hs_values.specs.declared.halt.Halt.TheVariants.{Stopped, NoMemory}

-- the first one is done, and the other follows
pub goes_on : {A B : Type 0} (first : Done A) (next : A → Machine → Done B) (now : Machine) (given : A) → Does first now (Ok given)
    → and_then first next ≡ next given now
goes_on (done it after) next now given (same, left) = cc
goes_on (stopped why after) next now given impossible = absurd impossible

-- the first one has no value, and nothing follows
pub ends : {A B : Type 0} (first : Done A) (next : A → Machine → Done B) (now : Machine) (why : Halt) → Does first now (Err why)
    → Does (and_then first next) now (Err why)
ends (done it after) next now (Stopped why) impossible = absurd impossible
ends (done it after) next now NoMemory _ = no_memory (next it after)
  where
    no_memory : {B : Type 0} (wanted : Done B) → Does wanted now (Err NoMemory)
    no_memory (done it after) = tt
    no_memory (stopped why after) = tt
ends (stopped why after) next now (Stopped given) stops = stops
ends (stopped why after) next now NoMemory _ = tt
