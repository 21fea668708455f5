-- What a run on the machine shows (own): the run of the code under the decisions that were recorded.
--     reaches, comes                     how far the run comes under a schedule, from its start, and how it ends
--     RunsTo script outcome after left   under the script, the run ends so, in that machine, with so many turns left
--     IsReached script point machine left
--                                        under the script, the run is at that point after some operations
--     HasRun program input turns its     a transcript is that of such a run
--     PassesOutput, PassesScript         why a run is given up: the limit that it passes first
--     EndsWithin told                    it is not: it ends within both limits
--     IsCause why                        by the limit
use Rattle.std.specs.Prelude.{◌≡◌, ◌<◌, ◌≤◌, ℕ, Bool, true, false, ◌||◌, List, [], ◌∷◌, ◌++◌, length, slice_get, Option, Some, None}
use Rattle.hs_base.specs.Limit.{number_of}
use Rattle.hs_base.specs.declared.limit.LimitKind.{LimitKind}
use Rattle.hs_base.specs.declared.limit.LimitKind.TheVariants as kind
use Rattle.hs_code.specs.declared.function_code.Placed.{Placed}
use Rattle.hs_code.specs.declared.op.Op.TheVariants.{Shift}
use Rattle.hs_code_run.specs.Codes.{CodeFunction, CodeProgram, Point}
use Rattle.hs_code_run.specs.Runs.{ComesWith, begun}
use Rattle.hs_heap.specs.declared.decision.Decision.{Decision}
use Rattle.hs_machine.specs.Reaching.{Reaches}
use Rattle.hs_machine.specs.Recording.{IsTold, size_of}
use Rattle.hs_machine.specs.declared.transcript.MachineEnd.{MachineEnd}
use Rattle.hs_machine.specs.declared.transcript.MachineEnd.TheVariants.{Limit, NoMemory}
use Rattle.hs_machine.specs.declared.transcript.Transcript.{Transcript}
use Rattle.hs_meaning.specs.Machine.{Machine}
use Rattle.hs_meaning.specs.Runs.{starting}
use Rattle.hs_meaning.specs.Steps.{State, Ran, went, over}
use Rattle.hs_meaning.specs.declared.input.Input.{Input}
use Rattle.hs_meaning.specs.declared.outcome.Outcome.{Outcome}
use Rattle.hs_tree.specs.declared.function.BoundRoutine.{BoundRoutine}

-- the routine moves or purges
abbrev pub takes_decision : Option BoundRoutine → Bool
takes_decision None = false
takes_decision (Some it) = it.routine.moves || it.routine.purges

-- the next operation asks for a decision
pub record AsksDecision (program : CodeProgram) (point : Point) : Type 0 where
  pub its : Placed
  pub there : slice_get point.frame.code.ops point.frame.at ≡ Some its
  pub routine : ℕ
  pub shifts : its.op ≡ Shift routine
  pub takes : takes_decision (slice_get program.setting.routines routine) ≡ true

-- more bytes of output, or more decisions and block numbers, than a run may have
abbrev pub most_output : ℕ
most_output = 16777216

abbrev pub most_script : ℕ
most_script = 4000000

-- ---- a run, from wherever it starts

module _ (program : CodeProgram) (reaches : List Decision → Point → State → Type 0) (comes : List Decision → Outcome → State → Type 0) where
  -- Whatever follows the script is left over: the run takes one decision of it for each call of a routine that moves or purges, and no more.
  abbrev pub RunsTo : List Decision → Outcome → Machine → ℕ → Type 0
  RunsTo script outcome after left =
      (rest : List Decision) → comes (script ++ rest) outcome (record { machine = after; schedule = rest; turns = left })

  -- the run under the script is at that point, in that machine, with so many turns left
  abbrev pub IsReached : List Decision → Point → Machine → ℕ → Type 0
  IsReached script point machine left =
      (rest : List Decision) → reaches (script ++ rest) point (record { machine = machine; schedule = rest; turns = left })

  -- the run has more output than it may: on its way, or at its end
  pub data HasMuchOutput (script : List Decision) : Type 0 where
    on_the_way : (point : Point) (machine : Machine) (left : ℕ) → IsReached script point machine left → most_output < length machine.output
        → HasMuchOutput script
    at_the_end : (outcome : Outcome) (after : Machine) (left : ℕ) → RunsTo script outcome after left → most_output < length after.output
        → HasMuchOutput script

  -- under decisions that the mover told, which are no more than a script may have
  pub record PassesOutput (told : Option (List Decision)) : Type 0 where
    pub script : List Decision
    pub is_told : IsTold told script
    pub few : size_of script ≤ most_script
    pub much : HasMuchOutput script

  -- The run asks for one decision more than its script may have, or for one with too many block numbers. It has not more output than it may have there.
  pub record PassesScript (told : Option (List Decision)) : Type 0 where
    pub script : List Decision
    pub next : Decision
    pub is_told : IsTold told (script ++ next ∷ [])
    pub point : Point
    pub machine : Machine
    pub left : ℕ
    pub reached : IsReached script point machine left
    pub few : length machine.output ≤ most_output
    pub asks : AsksDecision program point
    pub much : most_script < size_of (script ++ next ∷ [])

  -- The run ends under decisions that the mover told, within both limits.
  pub record EndsWithin (told : Option (List Decision)) : Type 0 where
    pub script : List Decision
    pub is_told : IsTold told script
    pub outcome : Outcome
    pub after : Machine
    pub left : ℕ
    pub run : RunsTo script outcome after left
    pub few_bytes : length after.output ≤ most_output
    pub few_decisions : size_of script ≤ most_script

  -- by the kind of the limit
  abbrev pub Passes : LimitKind → Option (List Decision) → Type 0
  Passes kind.Output told = PassesOutput told
  Passes kind.Script told = PassesScript told
  Passes _ told = ⊥

  -- Of memory nothing is said.
  abbrev pub IsCause : Option (List Decision) → MachineEnd → Type 0
  IsCause told (Limit its) = (its.reached ≡ number_of its.kind) × Passes its.kind told
  IsCause told NoMemory = Unit {0}

-- ---- the run of a program

-- from what the call of `main` has come to
abbrev pub ReachesFrom : CodeProgram → Ran Point → Point → State → Type 0
ReachesFrom program (went point s) last u = Reaches program point s last u
ReachesFrom program (over outcome s) last u = ⊥

-- with `main`
abbrev pub ReachesWith : CodeProgram → Input → ℕ → Option CodeFunction → List Decision → Point → State → Type 0
ReachesWith program input turns None schedule last u = ⊥
ReachesWith program input turns (Some function) schedule last u =
    ReachesFrom program (begun program [] function (starting program.setting input schedule turns)) last u

module _ (program : CodeProgram) (input : Input) (turns : ℕ) where
  -- how far it comes under that schedule
  abbrev pub reaches_under : List Decision → Point → State → Type 0
  reaches_under = ReachesWith program input turns (slice_get program.functions program.main)

  -- and how it ends
  abbrev pub comes_under : List Decision → Outcome → State → Type 0
  comes_under schedule outcome after = ComesWith program input schedule [] turns (slice_get program.functions program.main) outcome after

  -- Its output, its outcome and its heap are those of the run of the code under the script.
  pub record HasRun (its : Transcript) : Type 0 where
    pub after : Machine
    pub left : ℕ
    pub run : RunsTo program reaches_under comes_under its.script.decisions its.outcome after left
    pub output : after.output ≡ its.output
    pub blocks : after.blocks ≡ its.heap.blocks

  -- Why a run is given up.
  abbrev pub GivesUp : Option (List Decision) → MachineEnd → Type 0
  GivesUp told why = IsCause program reaches_under comes_under told why

  -- Or it is not.
  abbrev pub IsWithin : Option (List Decision) → Type 0
  IsWithin told = EndsWithin program reaches_under comes_under told
