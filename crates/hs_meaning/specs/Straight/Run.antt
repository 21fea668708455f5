-- The run of a straight tree, and when it is safe (X3.159-1989 3.3 and 3.6; the machine is own).
-- Operands are evaluated from left to right, the left side of an assignment first.
--     after input state step           the state after a step, or the stop
--     run tree input schedule turns    what the run of the tree puts out, and how it ends
--     still_run tree input turns       the run on the heap that never moves: its schedule is empty
--     IsSafe tree                      every run equals the still one, and uses no stale pointer and no purged handle
use Rattle.std.specs.Prelude.{◌≡◌, ℕ, ◌+◌, ◌==◌, pos as integer, Bool, true, false, ◌||◌, List, [], ◌∷◌, ◌++◌, length, Option, Some, None, Result, Ok, Err, if◌then◌else◌}
use Rattle.std.specs.List.{list_any}
use Rattle.hs_base.specs.declared.pos.Pos.{Pos}
use Rattle.hs_tree.specs.declared.straight.tree.Expr.{Expr}
use Rattle.hs_tree.specs.declared.straight.tree.Expr.TheVariants as expr
use Rattle.hs_tree.specs.declared.straight.tree.Step.{Step}
use Rattle.hs_tree.specs.declared.straight.tree.Step.TheVariants as step
use Rattle.hs_tree.specs.declared.straight.tree.Straight.{Straight}
use Rattle.hs_meaning.specs.Straight.Value.{Value, number, nil, handle, spot, byte_of, char_of}
use Rattle.hs_heap.specs.Blocks.{Block, new_block}
use Rattle.hs_heap.specs.Memory.{has_room}
use Rattle.hs_heap.specs.Shift.{Powers, shift}
use Rattle.hs_heap.specs.declared.decision.Decision.{Decision}
use Rattle.hs_heap.specs.declared.decision.Which.TheVariants.{These}
use Rattle.hs_meaning.specs.Straight.Heap.{load_char, store_byte, master, set_lock}
use Rattle.hs_meaning.specs.declared.input.Input.{Input}
use Rattle.hs_meaning.specs.declared.outcome.Stop.{Stop}
use Rattle.hs_meaning.specs.declared.outcome.Stop.TheVariants as stop
use Rattle.hs_meaning.specs.declared.outcome.Outcome.{Outcome}
use Rattle.hs_meaning.specs.declared.outcome.Outcome.TheVariants.{Finished, Stopped}

-- The built-in table: NewHandle may move and may purge, HLock, HUnlock and putchar do neither.
abbrev pub new_handle_powers : Powers
new_handle_powers = record { moves = true; purges = true }

-- a run, between two steps
pub record State : Type 0 where
  -- the values of the variables, newest first
  pub variables : List (ℕ × Value)
  pub heap : List Block
  -- the decisions still to come
  pub schedule : List Decision
  -- how many allocations were asked for
  pub allocations : ℕ
  pub output : List ℕ

-- a stop, and its place
pub record Halt : Type 0 where
  pub kind : Stop
  pub pos : Pos

-- a stop ends what follows
infixl 10 ◌>>=◌
abbrev pub ◌>>=◌ : {A B : Type 0} → Result A Halt → (A → Result B Halt) → Result B Halt
(Ok x) >>= f = f x
(Err halt) >>= f = Err halt

-- a stop at that place
abbrev pub at_place : {A : Type 0} → Pos → Result A Stop → Result A Halt
at_place pos (Ok x) = Ok x
at_place pos (Err kind) = Err (record { kind = kind; pos = pos })

-- the value of a variable, if it has one
abbrev pub lookup : List (ℕ × Value) → ℕ → Option Value
lookup [] variable = None
lookup (entry ∷ entries) variable = if entry.0 == variable then Some entry.1 else lookup entries variable

-- a variable without a value is undefined
abbrev pub defined : Option Value → Result Value Stop
defined None = Err stop.Undefined
defined (Some value) = Ok value

-- the value of a variable, or the stop
abbrev pub value_of : State → ℕ → Result Value Stop
value_of state variable = defined (lookup state.variables variable)

-- the state with that value in the variable
abbrev pub assigned : State → ℕ → Value → State
assigned state variable value = record state { variables = (variable, value) ∷ state.variables }

-- a load of a char through a pointer
abbrev pub load_through : List Block → Value → Result Value Stop
load_through heap nil = Err stop.Nil
load_through heap (handle block) = Err stop.BadLoad
load_through heap (spot s) = load_char heap s
load_through heap (number n) = Err stop.BadPointer

-- a store of a byte through a pointer
abbrev pub store_through : List Block → Value → ℕ → Result (List Block) Stop
store_through heap nil byte = Err stop.Nil
store_through heap (handle block) byte = Err stop.BadLoad
store_through heap (spot s) byte = store_byte heap s byte
store_through heap (number n) byte = Err stop.BadPointer

-- a load of a pointer through a handle
abbrev pub derive_through : List Block → Value → Result Value Stop
derive_through heap nil = Err stop.Nil
derive_through heap (handle block) = master heap block
derive_through heap (spot s) = Err stop.BadLoad
derive_through heap (number n) = Err stop.BadPointer

-- HLock or HUnlock of a value: NIL is ignored
abbrev pub lock_through : Bool → List Block → Value → Result (List Block) Stop
lock_through on heap nil = Ok heap
lock_through on heap (handle block) = set_lock on heap block
lock_through on heap (spot s) = Err stop.BadHandle
lock_through on heap (number n) = Err stop.BadHandle

-- the value of an expression, or the stop at its place
abbrev pub eval : State → Expr → Result Value Halt
eval state (expr.Letter pos letter) = at_place pos (value_of state letter)
eval state (expr.Load pos pointer) = do
  from ← at_place pos (value_of state pointer)
  at_place pos (load_through state.heap from)
eval state (expr.Number value) = Ok (number (integer value))

-- the next decision: past the end of the schedule nothing moves
abbrev pub next_decision : List Decision → Decision
next_decision [] = record { moves = These []; purges = These [] }
next_decision (decision ∷ later) = decision

-- the decisions after the next one
abbrev pub later_decisions : List Decision → List Decision
later_decisions [] = []
later_decisions (decision ∷ later) = later

-- a routine that moves or purges takes one decision, before it does anything else
abbrev pub shifted_by : Powers → State → State
shifted_by powers state =
    if powers.moves || powers.purges
    then record state { heap = shift powers (next_decision state.schedule) state.heap; schedule = later_decisions state.schedule }
    else state

-- the allocation of that number is not refused, and the block fits
abbrev pub is_granted : Input → State → ℕ → Bool
is_granted input state size = if list_any (λ refused. refused == state.allocations + 1) input.refused then false else has_room state.heap size

-- a new block and its handle in the variable, or NIL
abbrev pub allocated : Input → State → ℕ → ℕ → State
allocated input state variable size =
    if is_granted input state size
    then record state {
      variables = (variable, handle (length state.heap + 1)) ∷ state.variables;
      heap = state.heap ++ new_block size ∷ [];
      allocations = state.allocations + 1;
    }
    else record state { variables = (variable, nil) ∷ state.variables; allocations = state.allocations + 1 }

-- HLock and HUnlock of a variable
abbrev pub locked_by : Bool → State → Pos → ℕ → Result State Halt
locked_by on state pos variable = do
  value ← at_place pos (value_of state variable)
  heap ← at_place pos (lock_through on state.heap value)
  Ok (record state { heap = heap })

-- one step
abbrev pub after : Input → State → Step → Result State Halt
after input state (step.NewHandle variable size) = Ok (allocated input (shifted_by new_handle_powers state) variable size)
after input state (step.HLock pos variable) = locked_by true state pos variable
after input state (step.HUnlock pos variable) = locked_by false state pos variable
after input state (step.Derive pos pointer variable) = do
  from ← at_place pos (value_of state variable)
  value ← at_place pos (derive_through state.heap from)
  Ok (assigned state pointer value)
after input state (step.Set letter value) = do
  got ← eval state value
  Ok (assigned state letter (char_of (byte_of got)))
after input state (step.Store pos pointer value) = do
  to ← at_place pos (value_of state pointer)
  got ← eval state value
  heap ← at_place pos (store_through state.heap to (byte_of got))
  Ok (record state { heap = heap })
after input state (step.Putchar value) = do
  got ← eval state value
  Ok (record state { output = state.output ++ byte_of got ∷ [] })

-- what a run put out, and how it ended
pub record Ending : Type 0 where
  pub output : List ℕ
  pub outcome : Outcome

-- a stop ends the run, with the output so far
abbrev pub going_on : State → Result State Halt → (State → Ending) → Ending
going_on state (Ok next) go = go next
going_on state (Err halt) go = record { output = state.output; outcome = Stopped halt.kind halt.pos }

-- the steps, one after another
abbrev pub run_from : Input → State → List Step → Ending
run_from input state [] = record { output = state.output; outcome = Finished (integer 0) }
run_from input state (step ∷ steps) = going_on state (after input state step) (λ next. run_from input next steps)

-- before the first step
abbrev pub start : List Decision → State
start schedule = record { variables = []; heap = []; schedule = schedule; allocations = 0; output = [] }

-- A straight run has no loop and calls no defined function, so it needs none of its turns.
abbrev pub run : Straight → Input → List Decision → ℕ → Ending
run tree input schedule turns = run_from input (start schedule) tree.steps

-- the run on the heap that never moves
abbrev pub still_run : Straight → Input → ℕ → Ending
still_run tree input turns = run tree input [] turns

-- the run stopped at a use of a stale pointer or of a purged handle
abbrev pub IsMisuse : Outcome → Type 0
IsMisuse (Stopped stop.Stale pos) = Unit {0}
IsMisuse (Stopped stop.Purged pos) = Unit {0}
IsMisuse _ = ⊥

-- no schedule changes a run, and no run uses a stale pointer or a purged handle
abbrev pub IsSafe : Straight → Type 0
IsSafe tree =
    (input : Input) (schedule : List Decision) (turns : ℕ)
    → (run tree input schedule turns ≡ still_run tree input turns) × ¬ (IsMisuse (run tree input schedule turns).outcome)
