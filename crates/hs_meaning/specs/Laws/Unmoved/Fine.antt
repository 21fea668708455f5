-- Stops that are no misuse, and what operations with such stops come to.
--     IsFine stop, AreFine stops        a stop that is no misuse if it applies; all stops of an operation
--     Anything                          nothing is said of what an operation gives
--     unless_still, then_still          an operation with such stops, and one after another
use Rattle.std.proofs.Common.{Bool, true, false, [], ◌∷◌, Option, Some, None}
use Rattle.std.specs.List.{AllByRecursion}
use Rattle.hs_meaning.specs.Accesses.{by_stop, unless_stopped}
use Rattle.hs_meaning.specs.Runs.{IsMisuseStop}
use Rattle.hs_meaning.specs.Laws.Unmoved.{IsStillMachine, IsStillDone}
use Rattle.hs_meaning.specs.Machine.{Machine, Done, done, stopped, and_then}
use Rattle.hs_meaning.specs.Plain.{then_unless}
use Rattle.hs_meaning.specs.Stops.{Stops, stops_if, first_stop}
use Rattle.hs_meaning.specs.Values.{Value, number, pointer, state, structure, number_stop, pointer_stop}
use Rattle.hs_meaning.specs.declared.outcome.Stop.{Stop}

-- it does not apply, or is no misuse
abbrev pub IsFine : Option Stop → Type 0
IsFine None = Unit {0}
IsFine (Some why) = ¬ (IsMisuseStop why)

abbrev pub AreFine : Stops → Type 0
AreFine stops = AllByRecursion IsFine stops

-- a stop of a test
pub if_fine : (test : Bool) (why : Stop) → ¬ (IsMisuseStop why) → IsFine (stops_if test why)
if_fine true why fine = fine
if_fine false why fine = tt

-- the first that applies
pub first_fine : (stops : Stops) → AreFine stops → IsFine (first_stop stops)
first_fine [] are = tt
first_fine (Some why ∷ rest) are = are.0
first_fine (None ∷ rest) are = first_fine rest are.1

-- a value that is no number
pub number_fine : (value : Value) → IsFine (number_stop value)
number_fine (number bits) = tt
number_fine (pointer its) = λ is. is
number_fine (state byte) = λ is. is
number_fine (structure cells) = λ is. is

-- or no pointer
pub pointer_fine : (value : Value) → IsFine (pointer_stop value)
pointer_fine (number bits) = λ is. is
pointer_fine (pointer its) = tt
pointer_fine (state byte) = λ is. is
pointer_fine (structure cells) = λ is. is

-- ---- operations

-- nothing is said of what an operation gives
abbrev pub Anything : {A : Type 0} → A → Type 0
Anything it = Unit {0}

module _ {A : Type 0} (fact : A → Type 0) where
  -- what it gives, if its stop does not apply
  pub by_stop_still : (why : Option Stop) (it : A) (after before : Machine) → IsFine why → fact it → IsStillMachine after
      → IsStillDone fact (by_stop why it after before)
  by_stop_still None it after before fine is still = (is, still)
  by_stop_still (Some why) it after before fine is still = fine

  -- what it gives, if none of its stops applies
  pub unless_still : (stops : Stops) (it : A) (after before : Machine) → AreFine stops → fact it → IsStillMachine after
      → IsStillDone fact (unless_stopped stops it after before)
  unless_still stops it after before fine is still = by_stop_still (first_stop stops) it after before (first_fine stops fine) is still

  -- the rest, if a stop does not apply
  pub then_unless_still : (why : Option Stop) (machine : Machine) (rest : Done A) → IsFine why → IsStillDone fact rest
      → IsStillDone fact (then_unless why machine rest)
  then_unless_still None machine rest fine is = is
  then_unless_still (Some why) machine rest fine is = fine

  -- one operation after the other
  pub then_still : {B : Type 0} → (other : B → Type 0) (its : Done A) (next : A → Machine → Done B) → IsStillDone fact its
      → ((a : A) (machine : Machine) → fact a → IsStillMachine machine → IsStillDone other (next a machine))
      → IsStillDone other (and_then its next)
  then_still other (done it machine) next is follows = follows it machine is.0 is.1
  then_still other (stopped why machine) next is follows = is
