-- A run in steps: a step gives something or ends the run (own).
--     State                          the machine, the decisions still to come, and the turns that are left
--     Ran A, Step A                  what a step comes to; a step
--     give it, first >>= next, first >> next      a step that does nothing, and one after the other
--     ends outcome                   the run ends
--     perform setting at operation values         an operation, at a place of the text
--     used at value                  the number of a condition
--     operands first second          two operands, from the left; arguments are operands too
--     shifted_by powers              a routine that moves or purges takes the next decision
--     turn                           one turn is taken
use Rattle.std.specs.Prelude.{ℕ, zero, suc, ◌==◌, Bool, true, false, not, ◌||◌, List, [], ◌∷◌}
use Rattle.hs_base.specs.declared.pos.Pos.{Pos}
use Rattle.hs_heap.specs.Shift.{Powers, shift}
use Rattle.hs_heap.specs.declared.decision.Decision.{Decision}
use Rattle.hs_heap.specs.declared.decision.Which.TheVariants.{These}
use Rattle.hs_meaning.specs.Accesses.{by_stop}
use Rattle.hs_meaning.specs.Machine.{Machine, Done, done, stopped, with_blocks}
use Rattle.hs_meaning.specs.Operations.{Operation, operate}
use Rattle.hs_meaning.specs.Settings.{Setting}
use Rattle.hs_meaning.specs.Values.{Value, bits_in, number_stop}
use Rattle.hs_meaning.specs.declared.outcome.Outcome.{Outcome}
use Rattle.hs_meaning.specs.declared.outcome.Outcome.TheVariants.{Stopped, TurnsSpent}

-- where a run is
pub record State : Type 0 where
  pub machine : Machine
  pub schedule : List Decision
  pub turns : ℕ

-- what a step comes to
pub data Ran (A : Type 0) : Type 0 where
  went : A → State → Ran A
  over : Outcome → State → Ran A

-- a step of a run
abbrev pub Step : Type 0 → Type 0
Step A = State → Ran A

-- a step that does nothing
abbrev pub give : {A : Type 0} → A → Step A
give it s = went it s

-- the run ends
abbrev pub ends : {A : Type 0} → Outcome → Step A
ends outcome s = over outcome s

-- the next step, unless the run has ended
abbrev pub then_with : {A B : Type 0} → (A → Step B) → Ran A → Ran B
then_with next (went it s) = next it s
then_with next (over outcome s) = over outcome s

infixl 10 ◌>>=◌
-- with what the first one gives
abbrev pub ◌>>=◌ : {A B : Type 0} → Step A → (A → Step B) → Step B
(first >>= next) s = then_with next (first s)

infixl 10 ◌>>◌
-- what the first one gives is dropped
abbrev pub ◌>>◌ : {A B : Type 0} → Step A → Step B → Step B
first >> next = first >>= (λ it. next)

-- one of two steps
abbrev pub either : {A : Type 0} → Bool → Step A → Step A → Step A
either true first second = first
either false first second = second

-- ---- operations

-- what an operation comes to, at its place
abbrev pub ran_at : {A : Type 0} → Pos → State → Done A → Ran A
ran_at at s (done it machine) = went it (record s { machine = machine })
ran_at at s (stopped why machine) = over (Stopped why at) (record s { machine = machine })

-- something that the machine does
abbrev pub acts : {A : Type 0} → Pos → (Machine → Done A) → Step A
acts at act s = ran_at at s (act s.machine)

-- an operation on values
abbrev pub perform : Setting → Pos → Operation → List Value → Step Value
perform setting at operation values = acts at (operate setting operation values)

-- a value that is used as a number
abbrev pub number_used : Value → Machine → Done ℕ
number_used value machine = by_stop (number_stop value) (bits_in value) machine machine

-- as a step
abbrev pub used : Pos → Value → Step ℕ
used at value = acts at (number_used value)

-- a condition: it is true if it is not 0
abbrev pub condition : Pos → Value → Step Bool
condition at value = used at value >>= (λ bits. give (not (bits == 0)))

-- ---- operands

-- Two operands are evaluated from the left.
abbrev pub operands : {A B : Type 0} → Step A → Step B → Step (A × B)
operands first second = first >>= (λ a. second >>= (λ b. give (a, b)))

-- ---- the schedule and the turns

-- past the end of the schedule nothing moves
abbrev pub next_decision : List Decision → Decision
next_decision [] = record { moves = These []; purges = These [] }
next_decision (decision ∷ rest) = decision

-- those after the next one
abbrev pub later_decisions : List Decision → List Decision
later_decisions [] = []
later_decisions (decision ∷ rest) = rest

-- the state after a decision
abbrev pub after_decision : Powers → State → State
after_decision powers s =
    record s {
      machine = with_blocks (shift powers (next_decision s.schedule) s.machine.blocks) s.machine;
      schedule = later_decisions s.schedule;
    }

-- the next decision is taken
abbrev pub decided : Powers → Step (Unit {0})
decided powers s = went tt (after_decision powers s)

-- by a routine that moves or purges
abbrev pub shifted_by : Powers → Step (Unit {0})
shifted_by powers = either (powers.moves || powers.purges) (decided powers) (give tt)

-- A run that needs one turn more than it has is spent.
abbrev pub turn_from : ℕ → Step (Unit {0})
turn_from zero s = over TurnsSpent s
turn_from (suc left) s = went tt (record s { turns = left })

-- one turn is taken
abbrev pub turn : Step (Unit {0})
turn s = turn_from s.turns s
