-- The run of a program, and when it is safe (X3.159-1989 3.1.2.4, 3.3 and 3.6; the machine is own).
--     work setting functions again job    what a job does: it takes its turn first
--     again_within setting functions fuel jobs inside one another, down to that depth
--     Ending                              what a run put out, and how it ended
--     ran program input schedule turns    the run, as a step
--     run program input schedule turns    its ending
--     still_run program input turns       the run on the heap that never moves: its schedule is empty
--     IsMisuse outcome                    it stopped at a use of a stale pointer or of a purged handle
--     IsSafe program                      no schedule changes a run, and no run ends in a misuse
use Rattle.std.specs.Prelude.{◌≡◌, ℤ, ℕ, zero, suc, pos, List, [], slice_get, Option, Some, None}
use Rattle.hs_base.specs.declared.pos.Pos.{Pos}
use Rattle.hs_heap.specs.declared.decision.Decision.{Decision}
use Rattle.hs_meaning.specs.Evaluation.{Flow, onward, breaks, continues, returned, Job, turn_of, call_of}
use Rattle.hs_meaning.specs.Frames.{opened, closed}
use Rattle.hs_meaning.specs.Machine.{Machine, Binding, Done, done}
use Rattle.hs_meaning.specs.Numbers.{signed}
use Rattle.hs_meaning.specs.Objects.{starting_machine}
use Rattle.hs_meaning.specs.Settings.{Setting, setting_of}
use Rattle.hs_meaning.specs.Statements.{next_turn, body_of, opening_of}
use Rattle.hs_meaning.specs.Steps.{State, Ran, went, over, Step, ◌>>=◌, ◌>>◌, give, ends, acts, used, turn}
use Rattle.hs_meaning.specs.Values.{Value}
use Rattle.hs_meaning.specs.declared.input.Input.{Input}
use Rattle.hs_meaning.specs.declared.outcome.Outcome.{Outcome}
use Rattle.hs_meaning.specs.declared.outcome.Outcome.TheVariants.{Finished, Stopped, TurnsSpent}
use Rattle.hs_meaning.specs.declared.outcome.Stop.{Stop}
use Rattle.hs_meaning.specs.declared.outcome.Stop.TheVariants as stop
use Rattle.hs_tree.specs.Trees.{TypedFunction, TypedProgram}

-- ---- jobs

-- the variables of the function that runs
abbrev pub own_locals : Machine → Done (List Binding)
own_locals machine = done machine.locals machine

-- the variables of the caller again
abbrev pub closes : List Binding → Machine → Done (Unit {0})
closes caller machine = done tt (closed caller machine)

-- a function is called: it begins with its parameters, and ends with what it returned
abbrev pub called : Setting → (Job → Step Flow) → Pos → List Value → Option TypedFunction → Step Flow
called setting again at values None = ends (Stopped stop.BadPointer at)
called setting again at values (Some function) =
    acts at own_locals >>= (λ caller. acts at (opened setting function.parameters function.variables values)
    >> (body_of setting again function >>= (λ flow. acts at (closes caller) >> give flow)))

-- One loop turn and one call of a defined function are one turn each.
abbrev pub work : Setting → List TypedFunction → (Job → Step Flow) → Job → Step Flow
work setting functions again (turn_of function it) = turn >> next_turn setting again function it
work setting functions again (call_of place values at) = turn >> called setting again at values (slice_get functions place)

-- A job inside a job has one turn less, so the fuel that is one more than the turns is enough. Fuel that ends is a turn that is not there.
abbrev pub again_within : Setting → List TypedFunction → ℕ → Job → Step Flow
again_within setting functions zero job = ends TurnsSpent
again_within setting functions (suc fuel) job = work setting functions (again_within setting functions fuel) job

-- ---- runs

-- what `main` returned: a number, as an int; a state byte is no number
abbrev pub finished : Flow → Step ℤ
finished (returned value at) = used at value >>= (λ bits. give (signed bits))
finished onward = give (pos 0)
finished breaks = give (pos 0)
finished continues = give (pos 0)

-- the call of `main`, which takes no turn
abbrev pub main_called : Setting → (Job → Step Flow) → Option TypedFunction → Step ℤ
main_called setting again None = give (pos 0)
main_called setting again (Some function) = called setting again (opening_of function.body) [] (Some function) >>= finished

-- before the first step
abbrev pub starting : Setting → Input → List Decision → ℕ → State
starting setting input schedule turns = record { machine = starting_machine setting input; schedule = schedule; turns = turns }

-- the run of functions in a setting, with jobs down to that depth
abbrev pub ran_in : Setting → List TypedFunction → ℕ → ℕ → Input → List Decision → ℕ → Ran ℤ
ran_in setting functions main fuel input schedule turns =
    main_called setting (again_within setting functions fuel) (slice_get functions main) (starting setting input schedule turns)

-- of a program
abbrev pub ran_within : ℕ → TypedProgram → Input → List Decision → ℕ → Ran ℤ
ran_within fuel program input schedule turns = ran_in (setting_of program) program.functions program.main fuel input schedule turns

-- with one job more inside one another than there are turns
abbrev pub ran : TypedProgram → Input → List Decision → ℕ → Ran ℤ
ran program input schedule turns = ran_within (suc turns) program input schedule turns

-- what a run put out, and how it ended
pub record Ending : Type 0 where
  pub output : List ℕ
  pub outcome : Outcome

-- of what the run has come to
abbrev pub ending_of : Ran ℤ → Ending
ending_of (went value s) = record { output = s.machine.output; outcome = Finished value }
ending_of (over outcome s) = record { output = s.machine.output; outcome = outcome }

-- with that input, that list of decisions, and so many turns
abbrev pub run : TypedProgram → Input → List Decision → ℕ → Ending
run program input schedule turns = ending_of (ran program input schedule turns)

-- on the heap that never moves
abbrev pub still_run : TypedProgram → Input → ℕ → Ending
still_run program input turns = run program input [] turns

-- a use of a stale pointer or of a purged handle
abbrev pub IsMisuseStop : Stop → Type 0
IsMisuseStop stop.Stale = Unit {0}
IsMisuseStop stop.Purged = Unit {0}
IsMisuseStop _ = ⊥

-- the run stopped at one
abbrev pub IsMisuse : Outcome → Type 0
IsMisuse (Finished value) = ⊥
IsMisuse (Stopped why at) = IsMisuseStop why
IsMisuse TurnsSpent = ⊥

-- for every input, every schedule and every number of turns
abbrev pub IsSafe : TypedProgram → Type 0
IsSafe program =
    (input : Input) (schedule : List Decision) (turns : ℕ)
    → (run program input schedule turns ≡ still_run program input turns) × ¬ (IsMisuse (run program input schedule turns).outcome)
