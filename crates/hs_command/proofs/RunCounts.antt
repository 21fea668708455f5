-- Where a run names a file that is missing or was not read, a miss or a fault was counted.
use Rattle.std.proofs.Common.{◌≡◌, ◌⊎◌, ℕ, List, Option, Some, None, Result, Ok, Err, refl, sym, subst, ap, ◌∙◌, inl, inr, arith}
use Rattle.hs_base.specs.Count.{HasRisen}
use Rattle.hs_base.specs.Files.{Counts, IsAnswer, Listing, NeverFall, Read}
use Rattle.hs_base.specs.Reads.{AreRight}
use Rattle.hs_base.specs.declared.errors.FileEnd.{FileEnd}
use Rattle.hs_base.specs.declared.errors.FileEnd.TheVariants as ends
use Rattle.hs_meaning.specs.declared.input.Input.{Input}
use Rattle.hs_movers.specs.declared.script.Script.{Script}
use Rattle.hs_settings.specs.Settings.{Gives, HasInput, HasScript, IsNamed, IsPart, IsSettings, IsWhole, as_input, as_script, as_table, input_in, no_input, onward, script_in, table_in, text_from}
use Rattle.hs_settings.specs.Stages.{Then}
use Rattle.hs_settings.specs.declared.settings.Settings.{Settings}
use Rattle.hs_settings.specs.declared.settings.SettingsError.{SettingsError}
use Rattle.hs_settings.specs.declared.settings.SettingsError.TheVariants as given
use Rattle.hs_meaning.specs.InputTexts as inputs
use Rattle.hs_movers.specs.ScriptTexts as scripts
use Rattle.hs_heap.specs.declared.decision.Decision.{Decision}
use Rattle.hs_table.specs.declared.routine.Routine.{Routine}
use Rattle.hs_table_text.specs.Texts as tables
use Rattle.hs_table_text.specs.declared.error.TableError.{TableError}
use Rattle.hs_table_text.specs.declared.error.TableError.TheVariants as table
use Rattle.hs_tree.specs.Trees.{TypedProgram}
use Rattle.hs_words.specs.Words.{Asked}
use Rattle.hs_command.specs.Movers.{Telling, told_with}
use Rattle.hs_command.specs.RunCauses.{IsEnd}
use Rattle.hs_report.specs.Texts.{status_of, run_status}
use Rattle.hs_command.specs.Report.{IsNoProgram, names_of}
use Rattle.hs_command.specs.Runs.{HaveNoProgram, HaveRun, IsRunOfProgram, IsRunVerdict, report_of}
use Rattle.hs_report.specs.declared.report.Report.{Report}
use Rattle.hs_report.specs.declared.report.Report.TheVariants.{Accepted, Hazards, Refused, NoMain, Unbuilt, Usage, Missing, Unread, Limited, NoMemory}
use Rattle.hs_report.specs.declared.run_report.RunReport.{RunReport}
use Rattle.hs_report.specs.declared.run_report.RunReport.TheVariants.{NotToml, BadVersion, BadEntry, BadScript, BadInput, Plain, Shown}
use Rattle.hs_report.specs.declared.status.Status.{Status}
use Rattle.hs_report.specs.declared.status.Status.TheVariants as status
use Rattle.hs_command.proofs.RightReads.{fault_rose, miss_rose, rose_on, up}
use Rattle.hs_command.proofs.RunCauses.{ran_status}
use Rattle.hs_command.proofs.RunOutcomes.{right_behind}

-- what an error says of the counts
abbrev IsCounted : Counts → Counts → SettingsError → Type 0
IsCounted before now (given.Missing name) = HasRisen before.misses now.misses
IsCounted before now (given.Unread name) = HasRisen before.faults now.faults
IsCounted before now (given.Limit limit) = Unit {0}
IsCounted before now given.NotToml = Unit {0}
IsCounted before now given.BadVersion = Unit {0}
IsCounted before now (given.BadEntry name) = Unit {0}
IsCounted before now (given.BadScript line) = Unit {0}
IsCounted before now (given.BadInput line) = Unit {0}
IsCounted before now given.NoMemory = Unit {0}

-- counts that rose at the end rose over all
counted_on : (before mid now : Counts) (error : SettingsError) → NeverFall before mid → NeverFall mid now → IsCounted mid now error
    → IsCounted before now error
counted_on before mid now (given.Missing name) low high is =
    rose_on before.misses mid.misses now.misses now.misses low.misses high.misses (omega arith) is
counted_on before mid now (given.Unread name) low high is =
    rose_on before.faults mid.faults now.faults now.faults low.faults high.faults (omega arith) is
counted_on before mid now (given.Limit limit) low high is = tt
counted_on before mid now given.NotToml low high is = tt
counted_on before mid now given.BadVersion low high is = tt
counted_on before mid now (given.BadEntry name) low high is = tt
counted_on before mid now (given.BadScript line) low high is = tt
counted_on before mid now (given.BadInput line) low high is = tt
counted_on before mid now given.NoMemory low high is = tt

-- a text is not missing, and was read
abbrev IsNoFile : {A : Type 0} → Result A SettingsError → Type 0
IsNoFile (Err (given.Missing name)) = ⊥
IsNoFile (Err (given.Unread name)) = ⊥
IsNoFile _ = Unit {0}

table_is_no_file : (text : List ℕ) → IsNoFile (table_in text)
table_is_no_file text = go (tables.reading text) where
  go : (read : Result (List Routine) TableError) → IsNoFile (as_table read)
  go (Ok it) = tt
  go (Err table.NotToml) = tt
  go (Err table.BadVersion) = tt
  go (Err (table.BadEntry name)) = tt
  go (Err table.NoMemory) = tt

script_is_no_file : (text : List ℕ) → IsNoFile (script_in text)
script_is_no_file text = go (scripts.reading text) where
  go : (read : Result Script ℕ) → IsNoFile (as_script read)
  go (Ok it) = tt
  go (Err line) = tt

input_is_no_file : (text : List ℕ) → IsNoFile (input_in text)
input_is_no_file text = go (inputs.reading text) where
  go : (read : Result Input ℕ) → IsNoFile (as_input read)
  go (Ok it) = tt
  go (Err line) = tt

module _ {A : Type 0} (what : List ℕ → Result A SettingsError) (no_file : (text : List ℕ) → IsNoFile (what text)) where
  -- one read
  one_counted : (told : Option Listing) (name : List ℕ) (max : ℕ) (before now : Counts) (answer : Result (List ℕ) FileEnd) (error : SettingsError)
      → IsAnswer told name max before now answer → Gives (onward (text_from name answer) what) (Err error) → IsCounted before now error
  one_counted told name max before now (Ok text) (given.Missing n) right is = absurd (subst IsNoFile is (no_file text))
  one_counted told name max before now (Ok text) (given.Unread n) right is = absurd (subst IsNoFile is (no_file text))
  one_counted told name max before now (Err ends.Missing) (given.Missing n) right is = right.0
  one_counted told name max before now (Err ends.Failed) (given.Missing n) right is = absurd cc
  one_counted told name max before now (Err ends.TooLong) (given.Missing n) right is = absurd cc
  one_counted told name max before now (Err ends.NoMemory) (given.Missing n) right is = absurd cc
  one_counted told name max before now (Err ends.Missing) (given.Unread n) right is = absurd cc
  one_counted told name max before now (Err ends.Failed) (given.Unread n) right is = right
  one_counted told name max before now (Err ends.TooLong) (given.Unread n) right is = absurd cc
  one_counted told name max before now (Err ends.NoMemory) (given.Unread n) right is = absurd cc
  one_counted told name max before now answer (given.Limit limit) right is = tt
  one_counted told name max before now answer given.NotToml right is = tt
  one_counted told name max before now answer given.BadVersion right is = tt
  one_counted told name max before now answer (given.BadEntry n) right is = tt
  one_counted told name max before now answer (given.BadScript line) right is = tt
  one_counted told name max before now answer (given.BadInput line) right is = tt
  one_counted told name max before now answer given.NoMemory right is = tt

  part_counted : (name : List ℕ) (told : Option Listing) (before now : Counts) (reads : List Read) (error : SettingsError)
      → AreRight told before now reads → IsPart name what reads (Err error) → IsCounted before now error
  part_counted name told before now reads error right (read, same, of, gives) =
      let right' = subst (AreRight told before now) same right in
      subst (λ (it : Counts). IsCounted it now error) right'.0
      (subst (λ (it : Counts). IsCounted read.before it error) (sym right'.3)
      (one_counted told read.name read.max read.before read.now read.answer error right'.2 gives))

  named_counted : (default : A) (name : Option (List ℕ)) (told : Option Listing) (before now : Counts) (reads : List Read) (error : SettingsError)
      → AreRight told before now reads → IsNamed default what name reads (Err error) → IsCounted before now error
  named_counted default None told before now reads error right is = absurd (differ is.1) where
    differ : ◌≡◌ {A = Result A SettingsError} (Err error) (Ok default) → ⊥
    differ same = absurd cc
  named_counted default (Some name) told before now reads error right is = part_counted name told before now reads error right is

-- one stage after another
then_counted : {A B : Type 0} (first : List Read → Result A SettingsError → Type 0) (next : A → List Read → Result B SettingsError → Type 0)
    → ((told : Option Listing) (before now : Counts) (reads : List Read) (error : SettingsError) → AreRight told before now reads
    → first reads (Err error) → IsCounted before now error)
    → ((it : A) (told : Option Listing) (before now : Counts) (reads : List Read) (error : SettingsError) → AreRight told before now reads
    → next it reads (Err error) → IsCounted before now error)
    → (told : Option Listing) (before now : Counts) (reads : List Read) (error : SettingsError) → AreRight told before now reads
    → Then first next reads (Err error) → IsCounted before now error
then_counted first next one other told before now reads error right (inl is) = one told before now reads error right is
then_counted first next one other told before now reads error right (inr (front, rest, it, same, is, is_next)) =
    let parts = right_behind told before now front rest (subst (AreRight told before now) same right) in
    counted_on before parts.0 now error (up told before parts.0 front parts.1) (up told parts.0 now rest parts.2)
    (other it told parts.0 now rest error parts.2 is_next)

-- nothing more
whole_counted : (table : List Routine) (script : Option Script) (input : Input) (told : Option Listing) (before now : Counts) (reads : List Read)
    (error : SettingsError) → AreRight told before now reads → IsWhole table script input reads (Err error) → IsCounted before now error
whole_counted table script input told before now reads error right is = absurd (differ is.1) where
  differ : ◌≡◌ {A = Result Settings SettingsError} (Err error) (Ok (record { table = table; script = script; input = input })) → ⊥
  differ same = absurd cc

-- all of them
settings_counted : (it : Asked) (told : Option Listing) (before now : Counts) (reads : List Read) (error : SettingsError)
    → AreRight told before now reads → IsSettings it reads (Err error) → IsCounted before now error
settings_counted it =
    then_counted (IsPart it.table table_in) (HasScript it) (part_counted table_in table_is_no_file it.table)
    (λ table. then_counted (IsNamed None script_in it.script) (HasInput it table) (named_counted script_in script_is_no_file None it.script)
    (λ script. then_counted (IsNamed no_input input_in it.input) (IsWhole table script)
    (named_counted input_in input_is_no_file no_input it.input) (λ input. whole_counted table script input)))

-- the report names a file that is missing, and a miss was counted; or one that was not read, and a fault was counted
abbrev pub Rose : Counts → Counts → RunReport → Type 0
Rose before now report =
    ((name : List ℕ) × (report ≡ Plain (Missing name)) × HasRisen before.misses now.misses)
    ⊎ ((name : List ℕ) × (report ≡ Plain (Unread name)) × HasRisen before.faults now.faults)

-- the status says that a file is missing or was not read
module _ (told : Option Listing) (before now : Counts) (reads : List Read) (right : AreRight told before now reads) (mover : Telling) (it : Asked) where
  -- other statuses
  differ : (report : RunReport) (one : Status) → one ≡ status.Unread → (one ≡ status.Unread → ⊥) → Rose before now report
  differ report one same apart = absurd (apart same)

  -- by the error of what is given
  rose_by : (error : SettingsError) → IsSettings it reads (Err error) → run_status (report_of error) ≡ status.Unread
      → Rose before now (report_of error)
  rose_by (given.Missing name) is unread = inl (name, refl, settings_counted it told before now reads (given.Missing name) right is)
  rose_by (given.Unread name) is unread = inr (name, refl, settings_counted it told before now reads (given.Unread name) right is)
  rose_by (given.Limit limit) is unread = differ (report_of (given.Limit limit)) status.Limited unread (λ same. absurd cc)
  rose_by given.NotToml is unread = differ (report_of given.NotToml) status.Refused unread (λ same. absurd cc)
  rose_by given.BadVersion is unread = differ (report_of given.BadVersion) status.Refused unread (λ same. absurd cc)
  rose_by (given.BadEntry name) is unread = differ (report_of (given.BadEntry name)) status.Refused unread (λ same. absurd cc)
  rose_by (given.BadScript line) is unread = differ (report_of (given.BadScript line)) status.Refused unread (λ same. absurd cc)
  rose_by (given.BadInput line) is unread = differ (report_of (given.BadInput line)) status.Refused unread (λ same. absurd cc)
  rose_by given.NoMemory is unread = differ (report_of given.NoMemory) status.NoMemory unread (λ same. absurd cc)

  -- by the reads of the sources
  module _ (mid : Counts) (rest : List Read) (low : NeverFall before mid) (behind : AreRight told mid now rest) (table : List Routine)
      (names : List (List ℕ)) where
    rose_in : (report : Report) → IsNoProgram table rest names report → status_of report ≡ status.Unread → Rose before now (Plain report)
    rose_in (Missing name) is unread =
        inl (
          name,
          refl,
          rose_on before.misses mid.misses now.misses now.misses low.misses (up told mid now rest behind).misses (omega arith)
              (miss_rose told mid now rest name behind is.ends),
        )
    rose_in (Unread name) is unread =
        inr (
          name,
          refl,
          rose_on before.faults mid.faults now.faults now.faults low.faults (up told mid now rest behind).faults (omega arith)
              (fault_rose told mid now rest name behind is.ends),
        )
    rose_in Accepted is unread = absurd is
    rose_in (Hazards count) is unread = absurd is
    rose_in (Refused refusal) is unread = differ (Plain (Refused refusal)) status.Refused unread (λ same. absurd cc)
    rose_in NoMain is unread = differ (Plain NoMain) status.Refused unread (λ same. absurd cc)
    rose_in Unbuilt is unread = absurd is
    rose_in Usage is unread = absurd is
    rose_in (Limited limit) is unread = differ (Plain (Limited limit)) status.Limited unread (λ same. absurd cc)
    rose_in NoMemory is unread = differ (Plain NoMemory) status.NoMemory unread (λ same. absurd cc)

    rose_none : (report : RunReport) → HaveNoProgram table names rest report → run_status report ≡ status.Unread → Rose before now report
    rose_none (Plain report) is unread = rose_in report is unread
    rose_none NotToml is unread = absurd is
    rose_none BadVersion is unread = absurd is
    rose_none (BadEntry name) is unread = absurd is
    rose_none (BadScript number) is unread = absurd is
    rose_none (BadInput number) is unread = absurd is
    rose_none (Shown shown) is unread = absurd is

  -- the run of a program
  ran_none : (program : TypedProgram) (input : Input) (turns : ℕ) (tells : Option (List Decision)) (names : List (List ℕ)) (report : RunReport)
      → IsRunOfProgram program input turns tells names report → run_status report ≡ status.Unread → Rose before now report
  ran_none program input turns tells names report is unread = go (ran_status program input turns tells names report is) where
    go : IsEnd (run_status report) ⊎ (run_status report ≡ status.Limited) ⊎ (run_status report ≡ status.NoMemory) → Rose before now report
    go (inl ends) = absurd (subst IsEnd unread ends)
    go (inr (inl limited)) = differ report status.Limited (sym limited ∙ unread) (λ same. absurd cc)
    go (inr (inr memory)) = differ report status.NoMemory (sym memory ∙ unread) (λ same. absurd cc)

  pub unread_rose : (report : RunReport) → IsRunVerdict mover it reads report → run_status report ≡ status.Unread → Rose before now report
  unread_rose report (inl (error, is, inl same)) unread =
      subst (λ (it : RunReport). Rose before now it) (sym same) (rose_by error is (sym (ap run_status same) ∙ unread))
  unread_rose report (inl (error, is, inr same)) unread = differ report status.NoMemory (sym (ap run_status same) ∙ unread) (λ same'. absurd cc)
  unread_rose report (inr has) unread = go has.follows.1 where
    parts : (mid : Counts) × AreRight told before mid has.front × AreRight told mid now has.rest
    parts = right_behind told before now has.front has.rest (subst (AreRight told before now) has.all right)

    go : HaveNoProgram has.settings.table it.names has.rest report
        ⊎ HaveRun has.settings.table has.settings.input it.turns (told_with has.settings.script mover) it.names has.rest report → Rose before now report
    go (inl none) =
        rose_none parts.0 has.rest (up told before parts.0 has.front parts.1) parts.2 has.settings.table it.names report none unread
    go (inr (source, read, (typed, are, is))) =
        ran_none typed has.settings.input it.turns (told_with has.settings.script mover) (names_of has.rest) report is unread
