-- What the report of a run says, and what a call did. Own to this project.
-- The text of each report and its status are in `hs_report/specs/Texts.antt`.
--     ShowsRun ..             the run of a program, as it is shown
--     IsRunOfProgram ..       what the report says of the run of a program
--     IsRunOfSources ..       what the report says of the sources, once the table, the script and the input are there
--     IsRunVerdict ..         what it says of all that was read
--     IsRunAnswer             what a call did that runs a program
--     IsAnswered              what a call did
use Rattle.std.specs.Prelude.{◌≡◌, ◌≤◌, ◌⊎◌, ℕ, List, [], ◌++◌, length, Option, Some, IfSome, IsSomeAnd, Ok, Err, slice_get}
use Rattle.hs_base.specs.Files.{Read}
use Rattle.hs_base.specs.Reads.{AreRight}
use Rattle.hs_directives.specs.Reads.{AreFirstReads, IsReadAs}
use Rattle.hs_directives.specs.declared.source.Source.{Source}
use Rattle.hs_heap.specs.declared.decision.Decision.{Decision}
use Rattle.hs_machine.specs.Recording.{IsTold, size_of}
use Rattle.hs_machine.specs.declared.transcript.MachineEnd.TheVariants as machine
use Rattle.hs_machine.specs.declared.transcript.Transcript.{Transcript}
use Rattle.hs_meaning.specs.declared.input.Input.{Input}
use Rattle.hs_meaning.specs.declared.outcome.Outcome.{Outcome}
use Rattle.hs_meaning.specs.declared.outcome.Outcome.TheVariants.{Finished, Stopped, TurnsSpent}
use Rattle.hs_movers.specs.ScriptTexts as scripts
use Rattle.hs_movers.specs.ScriptTexts.{IsPrintable}
use Rattle.hs_run_text.specs.RunTexts as runs
use Rattle.hs_runner.specs.Runs.{HasFewOps, IsGivenUp, IsRunOf, PassesOps, RunsExactly}
use Rattle.hs_settings.specs.Settings.{IsSettings}
use Rattle.hs_settings.specs.declared.settings.Settings.{Settings}
use Rattle.hs_settings.specs.declared.settings.SettingsError.{SettingsError}
use Rattle.hs_settings.specs.declared.settings.SettingsError.TheVariants as given
use Rattle.hs_source.specs.Source.{AreTyped}
use Rattle.hs_table.specs.declared.routine.Routine.{Routine}
use Rattle.hs_tree.specs.Trees.{TypedProgram}
use Rattle.hs_words.specs.Words.{Asked, IsRun}
use Rattle.hs_command.specs.Movers.{Telling, first_of, told_with}
use Rattle.hs_command.specs.Names.{Names}
use Rattle.hs_report.specs.Texts.{text_of, run_text, run_status}
use Rattle.hs_command.specs.Report.{Call, IsCheckAnswer, IsNoProgram, IsPutAs, Written, names_of}
use Rattle.hs_report.specs.declared.report.Report.TheVariants.{Missing, Unread, Limited, NoMemory}
use Rattle.hs_report.specs.declared.run_report.Ran.{Ran}
use Rattle.hs_report.specs.declared.run_report.RunReport.{RunReport}
use Rattle.hs_report.specs.declared.run_report.RunReport.TheVariants.{NotToml, BadVersion, BadEntry, BadScript, BadInput, Plain, Shown}
use Rattle.hs_report.specs.declared.status.Status.{Status}
use Rattle.hs_report.specs.declared.status.Status.TheVariants as status

-- ---- what is said of the sources

-- the name of the file in which a run was stopped, by its number; a run that was not stopped names none
abbrev pub IsFileOf : List (List ℕ) → Outcome → List ℕ → Type 0
IsFileOf names (Finished number) file = file ≡ []
IsFileOf names (Stopped why at) file = slice_get names at.file ≡ Some file
IsFileOf names TurnsSpent file = file ≡ []

-- What was shown is the text of the run of that program with that input and so many turns, under the script that it shows. The run took exactly the
-- decisions of that script: one for each call of a routine that moves or purges, no more and no fewer. If the mover tells its decisions, the script
-- is those. The run passes no limit, and its script can be read back.
pub record ShowsRun (program : TypedProgram) (input : Input) (turns : ℕ) (told : Option (List Decision)) (names : List (List ℕ)) (ran : Ran) : Type 0 where
  pub its : Transcript
  pub file : List ℕ
  pub is_run : IsRunOf program input turns its
  pub exactly : RunsExactly program input turns its
  pub is_told : IsTold told its.script.decisions
  pub no_seed : its.script.seed ≡ 0
  pub few_ops : HasFewOps program
  pub few_bytes : length its.output ≤ 16777216
  pub few_decisions : size_of its.script.decisions ≤ 4000000
  pub printable : IsPrintable its.script
  pub reads_back : scripts.reading (scripts.text_of its.script) ≡ Ok its.script
  pub is_outcome : ran.outcome ≡ its.outcome
  pub is_file : IsFileOf names its.outcome file
  pub is_text : ran.text ≡ runs.text_of its.output file its.outcome its.script

-- what a report says of the run of a program
abbrev pub IsRunOfProgram : TypedProgram → Input → ℕ → Option (List Decision) → List (List ℕ) → RunReport → Type 0
IsRunOfProgram program input turns told names (Shown ran) = ShowsRun program input turns told names ran
-- the code passes its limit; or it does not, and the run passes that of its output or that of its script, whichever it passes first
IsRunOfProgram program input turns told names (Plain (Limited limit)) =
    PassesOps program limit ⊎ (HasFewOps program × IsGivenUp program input turns told (machine.Limit limit))
IsRunOfProgram program input turns told names (Plain NoMemory) = Unit {0}
IsRunOfProgram program input turns told names _ = ⊥

-- the same of the names that were noted
abbrev pub IsFileIn : Names → Outcome → List ℕ → Type 0
IsFileIn noted (Finished number) file = file ≡ []
IsFileIn noted (Stopped why at) file = IsSomeAnd noted (λ names. slice_get names at.file ≡ Some file)
IsFileIn noted TurnsSpent file = file ≡ []

-- a transcript, as it is shown; or that memory ran out
abbrev pub IsShownAs : Names → Transcript → RunReport → Type 0
IsShownAs noted its (Shown ran) =
    (ran.outcome ≡ its.outcome)
    × (scripts.reading (scripts.text_of its.script) ≡ Ok its.script)
    × ((file : List ℕ) × IsFileIn noted its.outcome file × (ran.text ≡ runs.text_of its.output file its.outcome its.script))
IsShownAs noted its report = report ≡ Plain NoMemory

-- the report of the run of a program, if the names that were noted are these
abbrev pub IsReportOfRun : TypedProgram → Input → ℕ → Option (List Decision) → Names → RunReport → Type 0
IsReportOfRun program input turns told noted report =
    (names : List (List ℕ)) → IfSome noted (λ its. its ≡ names) → IsRunOfProgram program input turns told names report

-- with that table the sources are a typed program, and the report says this of its run
abbrev pub HaveRun : List Routine → Input → ℕ → Option (List Decision) → List (List ℕ) → List Read → RunReport → Type 0
HaveRun table input turns told names reads report =
    (source : Source) × IsReadAs reads names source
    × ((program : TypedProgram) × AreTyped table source.units (Ok program) × IsRunOfProgram program input turns told (names_of reads) report)

-- with that table the sources are not a typed program, and the report says why
abbrev pub HaveNoProgram : List Routine → List (List ℕ) → List Read → RunReport → Type 0
HaveNoProgram table names reads (Plain report) = IsNoProgram table reads names report
HaveNoProgram table names reads _ = ⊥

-- what a report says of the sources
abbrev pub IsRunOfSources : List Routine → Input → ℕ → Option (List Decision) → List (List ℕ) → List Read → RunReport → Type 0
IsRunOfSources table input turns told names reads report =
    AreFirstReads names reads × (HaveNoProgram table names reads report ⊎ HaveRun table input turns told names reads report)

-- ---- what is said of all that was read

-- the report of a table, a script or an input that is not there or is wrong
abbrev pub report_of : SettingsError → RunReport
report_of (given.Missing name) = Plain (Missing name)
report_of (given.Unread name) = Plain (Unread name)
report_of (given.Limit limit) = Plain (Limited limit)
report_of given.NotToml = NotToml
report_of given.BadVersion = BadVersion
report_of (given.BadEntry name) = BadEntry name
report_of (given.BadScript number) = BadScript number
report_of (given.BadInput number) = BadInput number
report_of given.NoMemory = Plain NoMemory

-- the table, the script or the input is not there, or is wrong, and nothing else was read; or memory ran out for the line that says so
abbrev pub HasNoSettings : Asked → List Read → RunReport → Type 0
HasNoSettings it reads report =
    (error : SettingsError) × IsSettings it reads (Err error) × ((report ≡ report_of error) ⊎ (report ≡ Plain NoMemory))

-- they are there, and what follows is said of the reads after theirs
pub record HasSettings (mover : Telling) (it : Asked) (reads : List Read) (report : RunReport) : Type 0 where
  pub front : List Read
  pub rest : List Read
  pub settings : Settings
  pub all : reads ≡ front ++ rest
  pub is_given : IsSettings it front (Ok settings)
  pub follows : IsRunOfSources settings.table settings.input it.turns (told_with settings.script mover) it.names rest report

-- what a report says of all that was read
abbrev pub IsRunVerdict : Telling → Asked → List Read → RunReport → Type 0
IsRunVerdict mover it reads report = HasNoSettings it reads report ⊎ HasSettings mover it reads report

-- ---- calls

-- what a call did that runs a program: it made these reads, whose answers are right, and a report that is right was put
pub record IsRunAnswer (call : Call) (answer : Status) : Type 0 where
  pub right : AreRight call.told call.before call.now call.reads
  pub it : Asked
  pub is_run : IsRun call.words it
  pub mover : Telling
  pub chosen : first_of it.mover call.movers ≡ Some mover
  pub report : RunReport
  pub is_report : IsRunVerdict mover it call.reads report
  pub is_put : IsPutAs (run_text report) (run_status report) call.old call.new answer

-- the text of the report of a run was put, or the line that memory ran out
abbrev pub IsPutRun : RunReport → Written → Written → Status → Type 0
IsPutRun report before now answer =
    IsPutAs (run_text report) (run_status report) before now answer ⊎ IsPutAs (text_of NoMemory) status.NoMemory before now answer

-- what a call did: it ran a program, or it did not
abbrev pub IsAnswered : Call → Status → Type 0
IsAnswered call answer = IsCheckAnswer call answer ⊎ IsRunAnswer call answer
