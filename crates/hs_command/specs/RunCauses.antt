-- The causes of each status of a run. Own to this project.
-- What is said of files is said of the bytes that the reads of the call gave, and `AsksRun` and `AsksRunOf` of those of a listing that is known.
--     AsksRun call outcome             the words ask for a run, and of files that are known its table, script and input are so
--     AsksRunOf call settings outcome  they are there, and reading the sources gives this outcome
--     IsLimitedTo, IsMissed, IsFaulted     which line was put
--     IsToldRun ..                     the sources are a program, and the mover tells its decisions
--     HasRunCauses call it answer      when each status of a run comes, and when it must come
use Rattle.std.specs.Prelude.{◌≡◌, ◌⊎◌, ℕ, List, Option, Some, Result, Ok, Err}
use Rattle.hs_base.specs.Count.{HasRisen, IsSteady}
use Rattle.hs_base.specs.Files.{Listing}
use Rattle.hs_base.specs.declared.limit.Limit.{Limit}
use Rattle.hs_base.specs.declared.pos.Pos.{Pos}
use Rattle.hs_directives.specs.Preprocessing.{preprocessed}
use Rattle.hs_directives.specs.declared.error.ReadError.{ReadError}
use Rattle.hs_directives.specs.declared.error.ReadError.TheVariants as reading
use Rattle.hs_directives.specs.declared.source.Source.{Source}
use Rattle.hs_heap.specs.declared.decision.Decision.{Decision}
use Rattle.hs_machine.specs.declared.transcript.MachineEnd.TheVariants as machine
use Rattle.hs_runner.specs.Runs.{EndsInTime, HasFewOps, IsGivenUp, PassesOps}
use Rattle.hs_settings.specs.Listed.{settings_in}
use Rattle.hs_settings.specs.declared.settings.Settings.{Settings}
use Rattle.hs_settings.specs.declared.settings.SettingsError.{SettingsError}
use Rattle.hs_source.specs.Source.{AreTyped, HasSyntaxAt, IsLimitOf}
use Rattle.hs_tree.specs.Trees.{TypedProgram}
use Rattle.hs_typer.specs.declared.type_error.TypeError.{TypeError}
use Rattle.hs_typing.specs.declared.program.ProgramError.TheVariants as program
use Rattle.hs_words.specs.Words.{Asked, IsRun}
use Rattle.hs_report.specs.Faults.{placed_by, typed_by}
use Rattle.hs_command.specs.Movers.{Telling, first_of, told_with}
use Rattle.hs_command.specs.Report.{Call, IsBut, IsPutAs}
use Rattle.hs_report.specs.Texts.{run_status, status_of_outcome, text_of}
use Rattle.hs_command.specs.Runs.{HasSettings, IsRunVerdict, report_of}
use Rattle.hs_report.specs.declared.fault.Fault.{Fault}
use Rattle.hs_report.specs.declared.report.Report.TheVariants.{Limited, Missing, NoMemory, Unread}
use Rattle.hs_report.specs.declared.run_report.Ran.{Ran}
use Rattle.hs_report.specs.declared.run_report.RunReport.{RunReport}
use Rattle.hs_report.specs.declared.run_report.RunReport.TheVariants.{Shown}
use Rattle.hs_report.specs.declared.status.Status.{Status}
use Rattle.hs_report.specs.declared.status.Status.TheVariants as status

-- The words ask for a run, the listing is known, the table, the script and the input that it names are this or fail so, and no fault rose in
-- the call.
pub record AsksRun (call : Call) (outcome : Result Settings SettingsError) : Type 0 where
  pub files : Listing
  pub it : Asked
  pub is_told : call.told ≡ Some files
  pub is_run : IsRun call.words it
  pub are_given : settings_in files it ≡ outcome
  pub is_steady : IsSteady call.before.faults call.now.faults

-- They are there, and reading the sources gives this outcome.
pub record AsksRunOf (call : Call) (settings : Settings) (outcome : Result Source ReadError) : Type 0 where
  pub asks : AsksRun call (Ok settings)
  pub is_read : preprocessed asks.files asks.it.names ≡ outcome

-- a status that a run which is shown may have
abbrev pub IsEnd : Status → Type 0
IsEnd status.Done = Unit {0}
IsEnd status.RanStale = Unit {0}
IsEnd status.RanStopped = Unit {0}
IsEnd status.RanOut = Unit {0}
IsEnd _ = ⊥

-- a run is shown that ended with this status, of what the reads gave
abbrev pub IsRanSo : Call → Asked → Status → Type 0
IsRanSo call it came =
    (mover : Telling) × (first_of it.mover call.movers ≡ Some mover)
    × ((ran : Ran) × HasSettings mover it call.reads (Shown ran) × (status_of_outcome ran.outcome ≡ came))

-- a report that is right of what the reads gave has this status
abbrev pub IsAnsweredSo : Call → Asked → Status → Type 0
IsAnsweredSo call it came =
    (mover : Telling) × (first_of it.mover call.movers ≡ Some mover)
    × ((report : RunReport) × IsRunVerdict mover it call.reads report × (run_status report ≡ came))

-- the line of that limit was put, or the line that memory ran out; or the write failed, with a front of the line written
abbrev pub IsLimitedTo : Call → Limit → Status → Type 0
IsLimitedTo call limit answer =
    IsPutAs (text_of (Limited limit)) status.Limited call.old call.new answer ⊎ IsPutAs (text_of NoMemory) status.NoMemory call.old call.new answer

-- the line was put that a file is missing, and a miss was counted
abbrev pub IsMissed : Call → Status → Type 0
IsMissed call answer =
    (name : List ℕ) × IsPutAs (text_of (Missing name)) status.Unread call.old call.new answer × HasRisen call.before.misses call.now.misses

-- the line was put that a file was not read, and a fault was counted
abbrev pub IsFaulted : Call → Status → Type 0
IsFaulted call answer =
    (name : List ℕ) × IsPutAs (text_of (Unread name)) status.Unread call.old call.new answer × HasRisen call.before.faults call.now.faults

-- The sources are that typed program, whose code is not too long, and the mover of the words tells these decisions of its run.
pub record IsToldRun (call : Call) (it : Asked) (settings : Settings) (typed : TypedProgram) (told : List Decision) : Type 0 where
  pub source : Source
  pub asks : AsksRunOf call settings (Ok source)
  pub are : AreTyped settings.table source.units (Ok typed)
  pub few_ops : HasFewOps typed
  pub mover : Telling
  pub chosen : first_of it.mover call.movers ≡ Some mover
  pub tells : told_with settings.script mover ≡ Some told

-- The causes of each status of a run. A field with `only` in its name says what is so where the status came; the others say where a status must
-- come, unless the write failed or memory ran out.
pub record HasRunCauses (call : Call) (it : Asked) (answer : Status) : Type 0 where
  -- Done, RanStale, RanStopped, RanOut: a run is shown that ended so
  pub ended_only : IsEnd answer → IsRanSo call it answer
  -- all but Unwritten and NoMemory: what was read is so, as a report says
  pub only : (answer ≡ status.Unwritten → ⊥) → (answer ≡ status.NoMemory → ⊥) → IsAnsweredSo call it answer
  -- Unread: a file is missing, or was not read
  pub unread_only : answer ≡ status.Unread → IsMissed call answer ⊎ IsFaulted call answer
  -- the table, the script or the input is not there, is too long or is wrong
  pub given : (error : SettingsError) → AsksRun call (Err error) → IsBut (run_status (report_of error)) answer
  -- reading refuses the sources, or a unit is not in the grammar, or typing refuses the units, or they have no `main`
  pub refused : (settings : Settings) (error : ReadError) (place : Fault × Pos) → AsksRunOf call settings (Err error)
      → placed_by error ≡ Some place → IsBut status.Refused answer
  pub syntax : (settings : Settings) (source : Source) (pos : Pos) → AsksRunOf call settings (Ok source) → HasSyntaxAt source.units pos
      → IsBut status.Refused answer
  pub untyped : (settings : Settings) (source : Source) (why : TypeError) (place : Fault × Pos × Option (List ℕ))
      → AsksRunOf call settings (Ok source) → AreTyped settings.table source.units (Err (program.Refused why)) → typed_by why ≡ Some place
      → IsBut status.Refused answer
  pub no_main : (settings : Settings) (source : Source) → AsksRunOf call settings (Ok source)
      → AreTyped settings.table source.units (Err program.NoMain) → IsBut status.Refused answer
  -- a file of the sources is not there
  pub missing : (settings : Settings) (name : List ℕ) → AsksRunOf call settings (Err (reading.Missing name)) → IsBut status.Unread answer
  -- a quantity passed its limit in reading, or a unit nests too deeply, or the objects have too many bytes
  pub limited : (settings : Settings) (limit : Limit) → AsksRunOf call settings (Err (reading.Limit limit)) → IsBut status.Limited answer
  pub past : (settings : Settings) (source : Source) (limit : Limit) → AsksRunOf call settings (Ok source)
      → IsLimitOf settings.table source.units limit → IsBut status.Limited answer
  -- the sources are a typed program: its run is shown, or a quantity passed its limit in it
  pub completes : (settings : Settings) (source : Source) (typed : TypedProgram) → AsksRunOf call settings (Ok source)
      → AreTyped settings.table source.units (Ok typed) → IsEnd answer ⊎ IsBut status.Limited answer
  -- Limited: the code has too many operations; or it has not, and the run passes the limit of its output or of its script first
  pub ops : (settings : Settings) (source : Source) (typed : TypedProgram) (limit : Limit) → AsksRunOf call settings (Ok source)
      → AreTyped settings.table source.units (Ok typed) → PassesOps typed limit → IsLimitedTo call limit answer
  pub gives_up : (settings : Settings) (typed : TypedProgram) (told : List Decision) (limit : Limit) → IsToldRun call it settings typed told
      → IsGivenUp typed settings.input it.turns (Some told) (machine.Limit limit) → IsLimitedTo call limit answer
  -- or it passes neither, and is shown
  pub ends : (settings : Settings) (typed : TypedProgram) (told : List Decision) → IsToldRun call it settings typed told
      → EndsInTime typed settings.input it.turns (Some told) → IsEnd answer ⊎ (answer ≡ status.Unwritten) ⊎ (answer ≡ status.NoMemory)
