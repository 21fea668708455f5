-- What the report of a run says, step by step.
use Rattle.std.proofs.Common.{◌≡◌, ℕ, List, ◌++◌, Option, Some, None, Ok, Err, refl, sym, subst, inl, inr}
use Rattle.std.specs.Prelude.{Box, ◌≤◌, IfSome, length, slice_get}
use Rattle.std.specs.Box.{box_value}
use Rattle.std.specs.Global.{Global}
use Rattle.hs_base.specs.Files.{Read}
use Rattle.hs_base.specs.Reads.{MadeReads, Leads_append}
use Rattle.hs_code.specs.Codes.{view_program}
use Rattle.hs_directives.specs.Reads.{AreFirstReads}
use Rattle.hs_directives.specs.declared.source.Source.{Source}
use Rattle.hs_heap.specs.declared.decision.Decision.{Decision}
use Rattle.hs_machine.specs.Recording.{IsTold, size_of}
use Rattle.hs_machine.specs.declared.transcript.Transcript.{Transcript}
use Rattle.hs_meaning.specs.declared.input.Input.{Input}
use Rattle.hs_meaning.specs.declared.outcome.Outcome.{Outcome}
use Rattle.hs_meaning.specs.declared.outcome.Outcome.TheVariants.{Finished, Stopped, TurnsSpent}
use Rattle.hs_movers.specs.ScriptTexts.{IsPrintable}
use Rattle.hs_runner.specs.Runs.{HasFewOps, IsRunOf, RunsExactly}
use Rattle.hs_settings.specs.Settings.{IsSettings}
use Rattle.hs_settings.specs.declared.settings.Settings.{Settings}
use Rattle.hs_settings.specs.declared.settings.SettingsError.{SettingsError}
use Rattle.hs_source.specs.Source.{IsSource}
use Rattle.hs_source.specs.declared.source.SourceError.{SourceError}
use Rattle.hs_table.specs.declared.routine.Routine.{Routine}
use Rattle.hs_tree.specs.Trees.{TypedProgram}
use Rattle.hs_tree.specs.declared.program.Program.{Program}
use Rattle.hs_words.specs.Words.{Asked}
use Rattle.hs_command.specs.Movers.{Telling, told_with}
use Rattle.hs_command.specs.Names.{Names}
use Rattle.hs_command.specs.Report.{AreNoted, IsRefusedReport, names_of}
use Rattle.hs_command.specs.Runs.{IsFileIn, IsFileOf, IsReportOfRun, IsRunOfProgram, IsRunOfSources, IsRunVerdict, IsShownAs, report_of}
use Rattle.hs_report.specs.declared.report.Report.{Report}
use Rattle.hs_report.specs.declared.report.Report.TheVariants.{NoMemory}
use Rattle.hs_report.specs.declared.run_report.RunReport.{RunReport}
use Rattle.hs_report.specs.declared.run_report.RunReport.TheVariants.{NotToml, BadVersion, BadEntry, BadScript, BadInput, Plain, Shown}

-- the name of the file, by the names that were noted
file_of : (noted : Names) (names : List (List ℕ)) (outcome : Outcome) (file : List ℕ) → IfSome noted (λ its. its ≡ names) → IsFileIn noted outcome file
    → IsFileOf names outcome file
file_of noted names (Finished number) file same is = is
file_of noted names TurnsSpent file same is = is
file_of None names (Stopped why at) file same is = absurd is
file_of (Some noted) names (Stopped why at) file same is = subst (λ (its : List (List ℕ)). slice_get its at.file ≡ Some file) same is

module _ (program : TypedProgram) (input : Input) (turns : ℕ) (told : Option (List Decision)) where
  -- what is known of a transcript
  pub record IsKnown (its : Transcript) : Type 0 where
    pub is_run : IsRunOf program input turns its
    pub exactly : RunsExactly program input turns its
    pub is_told : IsTold told its.script.decisions
    pub no_seed : its.script.seed ≡ 0
    pub few_ops : HasFewOps program
    pub few_bytes : length its.output ≤ 16777216
    pub few_decisions : size_of its.script.decisions ≤ 4000000
    pub printable : IsPrintable its.script

  -- a transcript that is shown is that of the run
  pub shown_run : (noted : Names) (its : Transcript) (report : RunReport) → IsKnown its → IsShownAs noted its report
      → IsReportOfRun program input turns told noted report
  shown_run noted its (Shown ran) known (outcome, back, (file, is_file, text)) names same = record {
    its = its;
    file = file;
    is_run = known.is_run;
    exactly = known.exactly;
    is_told = known.is_told;
    no_seed = known.no_seed;
    few_ops = known.few_ops;
    few_bytes = known.few_bytes;
    few_decisions = known.few_decisions;
    printable = known.printable;
    reads_back = back;
    is_outcome = outcome;
    is_file = file_of noted names its.outcome file same is_file;
    is_text = text;
  }
  shown_run noted its NotToml known shown names same = absurd (differ shown) where
    differ : NotToml ≡ Plain NoMemory → ⊥
    differ same = absurd cc
  shown_run noted its BadVersion known shown names same = absurd (differ shown) where
    differ : BadVersion ≡ Plain NoMemory → ⊥
    differ same = absurd cc
  shown_run noted its (BadEntry name) known shown names same = absurd (differ name shown) where
    differ : (name : List ℕ) → BadEntry name ≡ Plain NoMemory → ⊥
    differ name same = absurd cc
  shown_run noted its (BadScript number) known shown names same = absurd (differ number shown) where
    differ : (number : ℕ) → BadScript number ≡ Plain NoMemory → ⊥
    differ number same = absurd cc
  shown_run noted its (BadInput number) known shown names same = absurd (differ number shown) where
    differ : (number : ℕ) → BadInput number ≡ Plain NoMemory → ⊥
    differ number same = absurd cc
  shown_run noted its (Plain report) known shown names same =
      subst (λ (it : RunReport). IsRunOfProgram program input turns told names it) (sym shown) tt

module _ (table : List Routine) (input : Input) (turns : ℕ) (told : Option (List Decision)) (names : List (List ℕ)) where
  -- sources that are a program were run
  pub sources_ran : (reads : List Read) (noted : Names) (it : Source × Box Program Global) (report : RunReport) → AreFirstReads names reads
      → AreNoted noted reads → IsSource table reads names (Ok it)
      → IsReportOfRun (view_program (box_value it.1)) input turns told noted report → IsRunOfSources table input turns told names reads report
  sources_ran reads noted it report first are_noted is reports =
      (first, inr (it.0, is.0, (view_program (box_value it.1), is.1, reports (names_of reads) are_noted)))

  -- sources that are not a program were refused
  pub sources_refused : (reads : List Read) (noted : Names) (error : SourceError) (report : Report) → AreFirstReads names reads → AreNoted noted reads
      → IsSource table reads names (Err error) → IsRefusedReport noted error report → IsRunOfSources table input turns told names reads (Plain report)
  sources_refused reads noted error report first are_noted is reports = (first, inl (reports table reads names are_noted is))

module _ {F : Type 0} (leads : F → Read → F → Type 0) (mover : Telling) (it : Asked) where
  -- the settings are there, and the sources were read
  pub settled : (one mid last : F) (settings : Settings) (report : RunReport) → MadeReads leads one mid (λ reads. IsSettings it reads (Ok settings))
      → MadeReads leads mid last
      (λ reads. IsRunOfSources settings.table settings.input it.turns (told_with settings.script mover) it.names reads report)
      → MadeReads leads one last (λ reads. IsRunVerdict mover it reads report)
  settled one mid last settings report made later = (
    made.0 ++ later.0,
    Leads_append leads one mid last made.0 later.0 made.1 later.1,
    inr (record {
      front = made.0;
      rest = later.0;
      settings = settings;
      all = refl;
      is_given = made.2;
      follows = later.2;
    }),
  )

  -- they are not
  pub unsettled : (one last : F) (error : SettingsError) (report : RunReport) → MadeReads leads one last (λ reads. IsSettings it reads (Err error))
      → report ≡ report_of error → MadeReads leads one last (λ reads. IsRunVerdict mover it reads report)
  unsettled one last error report made same = (made.0, made.1, inl (error, made.2, inl same))
