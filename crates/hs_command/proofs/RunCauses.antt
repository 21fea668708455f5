-- The causes of each status of a run, from the report that was put: what is so where it came, and where it must come.
use Rattle.std.proofs.Common.{◌≡◌, ◌⊎◌, ℕ, List, sym, subst, ap, ◌∙◌, inl, inr, refl, Option, Some, Result, Ok, Err, arith}
use Rattle.hs_base.specs.Count.{HasRisen, IsSteady}
use Rattle.hs_base.specs.Files.{Counts, Listing, Read}
use Rattle.hs_base.specs.Reads.{AreRight, Fits}
use Rattle.hs_directives.specs.Preprocessing.{preprocessed}
use Rattle.hs_directives.specs.Reads.{EndsAs}
use Rattle.hs_directives.specs.declared.error.ReadError.{ReadError}
use Rattle.hs_directives.specs.declared.error.ReadError.TheVariants as reading
use Rattle.hs_directives.specs.declared.source.Source.{Source}
use Rattle.hs_heap.specs.declared.decision.Decision.{Decision}
use Rattle.hs_meaning.specs.declared.input.Input.{Input}
use Rattle.hs_meaning.specs.declared.outcome.Outcome.{Outcome}
use Rattle.hs_meaning.specs.declared.outcome.Outcome.TheVariants.{Finished, Stopped, TurnsSpent}
use Rattle.hs_meaning.specs.declared.outcome.Stop.{Stop}
use Rattle.hs_meaning.specs.declared.outcome.Stop.TheVariants as stop
use Rattle.hs_settings.specs.Listed.{AreAnsweredBy, settings_in, settings_are}
use Rattle.hs_settings.specs.Settings.{Gives}
use Rattle.hs_settings.specs.declared.settings.Settings.{Settings}
use Rattle.hs_settings.specs.declared.settings.SettingsError.{SettingsError}
use Rattle.hs_settings.specs.declared.settings.SettingsError.TheVariants as given
use Rattle.hs_source.specs.Source.{AreTyped}
use Rattle.hs_tree.specs.Trees.{TypedProgram}
use Rattle.hs_typing.specs.declared.program.ProgramError.{ProgramError}
use Rattle.hs_words.specs.Words.{Asked, IsRun}
use Rattle.hs_command.specs.Movers.{told_with}
use Rattle.hs_command.specs.Report.{Call, IsBut, names_of}
use Rattle.hs_command.specs.RunCauses.{AsksRun, AsksRunOf, IsEnd}
use Rattle.hs_report.specs.Texts.{run_status, status_of_outcome, status_of_stop}
use Rattle.hs_command.specs.Runs.{HasNoSettings, HasSettings, HaveNoProgram, HaveRun, IsRunAnswer, IsRunOfProgram, report_of}
use Rattle.hs_report.specs.declared.report.Report.TheVariants.{Accepted, Hazards, Refused, NoMain, Unbuilt, Usage, Missing, Unread, Limited, NoMemory}
use Rattle.hs_report.specs.declared.run_report.RunReport.{RunReport}
use Rattle.hs_report.specs.declared.run_report.RunReport.TheVariants.{NotToml, BadVersion, BadEntry, BadScript, BadInput, Plain, Shown}
use Rattle.hs_report.specs.declared.status.Status.{Status}
use Rattle.hs_report.specs.declared.status.Status.TheVariants as status
use Rattle.hs_command.proofs.Outcomes.{one_outcome}
use Rattle.hs_command.proofs.RightReads.{fault_rose, steady_first, steady_later, told_fits, up}
use Rattle.hs_command.proofs.RunOutcomes.{Agrees, IsNone, agrees, none_or_typed, one_status, read_as, right_behind, status_for, told_answered}
use Rattle.hs_command.proofs.Units.{AreUnique}

-- ---- what is given

-- of two errors the one that is wanted was answered, unless memory ran out
one_error : (wanted error : SettingsError) → Gives {A = Settings} (Err wanted) (Err error) → (error ≡ given.NoMemory) ⊎ (wanted ≡ error)
one_error wanted error is = go error is where
  same : (one other : SettingsError) → ◌≡◌ {A = Result Settings SettingsError} (Err one) (Err other) → one ≡ other
  same one other it = cc

  go : (error : SettingsError) → Gives {A = Settings} (Err wanted) (Err error) → (error ≡ given.NoMemory) ⊎ (wanted ≡ error)
  go (given.Missing name) is = inr (same wanted (given.Missing name) is)
  go (given.Unread name) is = inr (same wanted (given.Unread name) is)
  go (given.Limit limit) is = inr (same wanted (given.Limit limit) is)
  go given.NotToml is = inr (same wanted given.NotToml is)
  go given.BadVersion is = inr (same wanted given.BadVersion is)
  go (given.BadEntry name) is = inr (same wanted (given.BadEntry name) is)
  go (given.BadScript line) is = inr (same wanted (given.BadScript line) is)
  go (given.BadInput line) is = inr (same wanted (given.BadInput line) is)
  go given.NoMemory is = inl refl

-- where there are settings, an error is that memory ran out
no_error : (settings : Settings) (error : SettingsError) → Gives (Ok settings) (Err error) → error ≡ given.NoMemory
no_error settings error is = go error is where
  differ : (error : SettingsError) → ◌≡◌ {A = Result Settings SettingsError} (Ok settings) (Err error) → ⊥
  differ error it = absurd cc

  go : (error : SettingsError) → Gives (Ok settings) (Err error) → error ≡ given.NoMemory
  go (given.Missing name) is = absurd (differ (given.Missing name) is)
  go (given.Unread name) is = absurd (differ (given.Unread name) is)
  go (given.Limit limit) is = absurd (differ (given.Limit limit) is)
  go given.NotToml is = absurd (differ given.NotToml is)
  go given.BadVersion is = absurd (differ given.BadVersion is)
  go (given.BadEntry name) is = absurd (differ (given.BadEntry name) is)
  go (given.BadScript line) is = absurd (differ (given.BadScript line) is)
  go (given.BadInput line) is = absurd (differ (given.BadInput line) is)
  go given.NoMemory is = refl

-- where there is an error, there are no settings
no_settings : (error : SettingsError) (settings : Settings) → ◌≡◌ {A = Result Settings SettingsError} (Err error) (Ok settings) → ⊥
no_settings error settings same = absurd cc

one_settings : (one other : Settings) → ◌≡◌ {A = Result Settings SettingsError} (Ok one) (Ok other) → one ≡ other
one_settings one other same = cc

-- ---- the status of a run

-- a stop ends a run
stop_ends : (why : Stop) → IsEnd (status_of_stop why)
stop_ends stop.Stale = tt
stop_ends stop.Purged = tt
stop_ends stop.Nil = tt
stop_ends stop.Disposed = tt
stop_ends stop.Old = tt
stop_ends stop.Range = tt
stop_ends stop.Gone = tt
stop_ends stop.Undefined = tt
stop_ends stop.BadLoad = tt
stop_ends stop.BadPointer = tt
stop_ends stop.BadHandle = tt
stop_ends stop.BadByte = tt
stop_ends stop.Divide = tt
stop_ends stop.Frames = tt

-- so does each outcome
pub outcome_ends : (outcome : Outcome) → IsEnd (status_of_outcome outcome)
outcome_ends (Finished number) = tt
outcome_ends (Stopped why at) = stop_ends why
outcome_ends TurnsSpent = tt

-- the status of the report of a run of a program
pub ran_status : (program : TypedProgram) (input : Input) (turns : ℕ) (told : Option (List Decision)) (names : List (List ℕ)) (report : RunReport)
    → IsRunOfProgram program input turns told names report
    → IsEnd (run_status report) ⊎ (run_status report ≡ status.Limited) ⊎ (run_status report ≡ status.NoMemory)
ran_status program input turns told names (Shown ran) is = inl (outcome_ends ran.outcome)
ran_status program input turns told names (Plain (Limited limit)) is = inr (inl refl)
ran_status program input turns told names (Plain NoMemory) is = inr (inr refl)
ran_status program input turns told names (Plain Accepted) is = absurd is
ran_status program input turns told names (Plain (Hazards count)) is = absurd is
ran_status program input turns told names (Plain (Refused refusal)) is = absurd is
ran_status program input turns told names (Plain NoMain) is = absurd is
ran_status program input turns told names (Plain Unbuilt) is = absurd is
ran_status program input turns told names (Plain Usage) is = absurd is
ran_status program input turns told names (Plain (Missing name)) is = absurd is
ran_status program input turns told names (Plain (Unread name)) is = absurd is
ran_status program input turns told names NotToml is = absurd is
ran_status program input turns told names BadVersion is = absurd is
ran_status program input turns told names (BadEntry name) is = absurd is
ran_status program input turns told names (BadScript number) is = absurd is
ran_status program input turns told names (BadInput number) is = absurd is

-- What the report finds of sources that are known: memory ran out, or they are no program, or a typed program that was run.
pub data Finds (settings : Settings) (turns : ℕ) (told : Option (List Decision)) (outcome : Result Source ReadError) (report : RunReport) : Type 0 where
  memory : report ≡ Plain NoMemory → Finds settings turns told outcome report
  none : (it : IsNone settings.table outcome) → run_status report ≡ status_for it → Finds settings turns told outcome report
  ran : (source : Source) (typed : TypedProgram) (names : List (List ℕ)) → outcome ≡ Ok source → AreTyped settings.table source.units (Ok typed)
      → IsRunOfProgram typed settings.input turns told names report → Finds settings turns told outcome report

module _ (settings : Settings) (turns : ℕ) (told : Option (List Decision)) (files : Listing) (names : List (List ℕ)) (reads : List Read) (outcome : Result Source ReadError)
    (fits : Fits files reads) (is_read : preprocessed files names ≡ outcome)
    (no_fault : (name : List ℕ) → EndsAs reads (reading.ReadFault name) → ⊥) where
  -- they are no program
  finds_none : (report : RunReport) → HaveNoProgram settings.table names reads report → Finds settings turns told outcome report
  finds_none NotToml is = absurd is
  finds_none BadVersion is = absurd is
  finds_none (BadEntry name) is = absurd is
  finds_none (BadScript number) is = absurd is
  finds_none (BadInput number) is = absurd is
  finds_none (Shown shown) is = absurd is
  finds_none (Plain report) is = go (agrees settings.table files names reads outcome fits is_read report no_fault is) where
    go : Agrees settings.table report outcome → Finds settings turns told outcome (Plain report)
    go (inl same) = memory (ap Plain same)
    go (inr agreed) = none agreed.0 agreed.1

  -- they are one
  finds_run : (report : RunReport) → HaveRun settings.table settings.input turns told names reads report → Finds settings turns told outcome report
  finds_run report (source, read, (typed, are, is)) =
      ran source typed (names_of reads) (read_as settings.table files names reads outcome fits is_read source read) are is

-- ---- the answer

-- an answer is Unwritten, or it is the status of the report
module _ (call : Call) (answer : Status) (it : Asked) (answered : IsRunAnswer call answer) (is_run : IsRun call.words it)
    (cut_or_whole : (answer ≡ status.Unwritten) ⊎ (answer ≡ run_status answered.report)) where
  pub same_asked : (other : Asked) → IsRun call.words other → other ≡ answered.it
  same_asked other is = same other answered.it (sym is.read ∙ answered.is_run.read) where
    same : (one other : Asked) → ◌≡◌ {A = Option Asked} (Some one) (Some other) → one ≡ other
    same one other it = cc

  -- if the report has this status, it is the answer's
  but : (wanted : Status) → run_status answered.report ≡ wanted → IsBut wanted answer
  but wanted same = go cut_or_whole where
    go : (answer ≡ status.Unwritten) ⊎ (answer ≡ run_status answered.report) → IsBut wanted answer
    go (inl cut) = inr (inl cut)
    go (inr whole) = inl (whole ∙ same)

  -- memory ran out
  but_memory : (wanted : Status) → run_status answered.report ≡ status.NoMemory → IsBut wanted answer
  but_memory wanted same = go cut_or_whole where
    go : (answer ≡ status.Unwritten) ⊎ (answer ≡ run_status answered.report) → IsBut wanted answer
    go (inl cut) = inr (inl cut)
    go (inr whole) = inr (inr (whole ∙ same))

  -- the right answers of the reads are those of the files
  right_told : (outcome : Result Settings SettingsError) (asks : AsksRun call outcome) → AreRight (Some asks.files) call.before call.now call.reads
  right_told outcome asks =
      subst (λ (told : Option Listing). AreRight told call.before call.now call.reads) asks.is_told answered.right

  given_told : (outcome : Result Settings SettingsError) (asks : AsksRun call outcome) → settings_in asks.files answered.it ≡ outcome
  given_told outcome asks =
      subst (λ (it : Asked). settings_in asks.files it ≡ outcome) (same_asked asks.it asks.is_run) asks.are_given

  -- what is given is not there, or is wrong
  pub given_by : (error : SettingsError) → AsksRun call (Err error) → IsBut (run_status (report_of error)) answer
  given_by error asks = go answered.is_report where
    known : AreAnsweredBy asks.files call.reads
    known = told_answered asks.files call.before call.now call.reads (right_told (Err error) asks) asks.is_steady

    wanted : run_status (report_of given.NoMemory) ≡ status.NoMemory
    wanted = refl

    of_error : (other : SettingsError) → (answered.report ≡ report_of other) ⊎ (answered.report ≡ Plain NoMemory)
        → (other ≡ given.NoMemory) ⊎ (error ≡ other) → IsBut (run_status (report_of error)) answer
    of_error other (inr out) either = but_memory (run_status (report_of error)) (ap run_status out)
    of_error other (inl says) (inl out) =
        but_memory (run_status (report_of error)) (ap run_status says ∙ ap (λ (it : SettingsError). run_status (report_of it)) out)
    of_error other (inl says) (inr same) =
        but (run_status (report_of error)) (ap run_status says ∙ ap (λ (it : SettingsError). run_status (report_of it)) (sym same))

    go : HasNoSettings answered.it call.reads answered.report ⊎ HasSettings answered.mover answered.it call.reads answered.report
        → IsBut (run_status (report_of error)) answer
    go (inl (other, is, says)) =
        of_error other says
        (one_error error other
        (subst (λ (wanted : Result Settings SettingsError). Gives wanted (Err other)) (given_told (Err error) asks)
        (settings_are asks.files answered.it call.reads (Err other) known is)))
    go (inr has) =
        let parts = right_behind (Some asks.files) call.before call.now has.front has.rest
        (subst (λ (reads : List Read). AreRight (Some asks.files) call.before call.now reads) has.all (right_told (Err error) asks)) in
        let low = (up (Some asks.files) call.before parts.0 has.front parts.1).faults in
        let high = (up (Some asks.files) parts.0 call.now has.rest parts.2).faults in
        let front_known = told_answered asks.files call.before parts.0 has.front parts.1
        (steady_first call.before.faults parts.0.faults call.now.faults low high asks.is_steady) in
        absurd (no_settings error has.settings
        (sym (given_told (Err error) asks) ∙ settings_are asks.files answered.it has.front (Ok has.settings) front_known has.is_given))

  -- what the report finds of the sources
  pub finds : (settings : Settings) (outcome : Result Source ReadError) → AsksRunOf call settings outcome
      → Finds settings answered.it.turns (told_with settings.script answered.mover) outcome answered.report
  finds settings outcome of = go answered.is_report where
    asks : AsksRun call (Ok settings)
    asks = of.asks

    known : AreAnsweredBy asks.files call.reads
    known = told_answered asks.files call.before call.now call.reads (right_told (Ok settings) asks) asks.is_steady

    of_error : (other : SettingsError) → (answered.report ≡ report_of other) ⊎ (answered.report ≡ Plain NoMemory)
        → other ≡ given.NoMemory → Finds settings answered.it.turns (told_with settings.script answered.mover) outcome answered.report
    of_error other (inr out) is = memory out
    of_error other (inl says) is = memory (says ∙ ap report_of is)

    is_read : preprocessed asks.files answered.it.names ≡ outcome
    is_read = subst (λ (it : Asked). preprocessed asks.files it.names ≡ outcome) (same_asked asks.it asks.is_run) of.is_read

    go : HasNoSettings answered.it call.reads answered.report ⊎ HasSettings answered.mover answered.it call.reads answered.report
        → Finds settings answered.it.turns (told_with settings.script answered.mover) outcome answered.report
    go (inl (other, is, says)) =
        of_error other says
        (no_error settings other
        (subst (λ (wanted : Result Settings SettingsError). Gives wanted (Err other)) (given_told (Ok settings) asks)
        (settings_are asks.files answered.it call.reads (Err other) known is)))
    go (inr has) =
        let parts = right_behind (Some asks.files) call.before call.now has.front has.rest
        (subst (λ (reads : List Read). AreRight (Some asks.files) call.before call.now reads) has.all (right_told (Ok settings) asks)) in
        let low = (up (Some asks.files) call.before parts.0 has.front parts.1).faults in
        let high = (up (Some asks.files) parts.0 call.now has.rest parts.2).faults in
        let front_known = told_answered asks.files call.before parts.0 has.front parts.1
        (steady_first call.before.faults parts.0.faults call.now.faults low high asks.is_steady) in
        let behind = steady_later call.before.faults parts.0.faults call.now.faults low high asks.is_steady in
        let same = one_settings has.settings settings
        (sym (settings_are asks.files answered.it has.front (Ok has.settings) front_known has.is_given) ∙ given_told (Ok settings) asks) in
        let fits = told_fits asks.files parts.0 call.now has.rest parts.2 behind in
        subst (λ (its : Settings). Finds its answered.it.turns (told_with its.script answered.mover) outcome answered.report) same
        (found has.settings has.rest fits (λ name last. no_fault asks.files parts.0 call.now has.rest name parts.2 behind last) has.follows.1)
      where
        no_fault : (files : Listing) (before now : Counts) (reads : List Read) (name : List ℕ) → AreRight (Some files) before now reads
            → IsSteady before.faults now.faults → EndsAs reads (reading.ReadFault name) → ⊥
        no_fault files before now reads name right steady last = risen steady (fault_rose (Some files) before now reads name right last) where
          risen : IsSteady before.faults now.faults → HasRisen before.faults now.faults → ⊥
          risen still rose = absurd (omega (arith, rose still.0, still.1))

        found : (its : Settings) (rest : List Read) → Fits asks.files rest → ((name : List ℕ) → EndsAs rest (reading.ReadFault name) → ⊥)
            → HaveNoProgram its.table answered.it.names rest answered.report
            ⊎ HaveRun its.table its.input answered.it.turns (told_with its.script answered.mover) answered.it.names rest answered.report
            → Finds its answered.it.turns (told_with its.script answered.mover) outcome answered.report
        found its rest fits none_failed (inl none') =
            finds_none its answered.it.turns (told_with its.script answered.mover) asks.files answered.it.names rest outcome fits is_read none_failed
            answered.report none'
        found its rest fits none_failed (inr run') =
            finds_run its answered.it.turns (told_with its.script answered.mover) asks.files answered.it.names rest outcome fits is_read none_failed
            answered.report run'

  module _ (unique : AreUnique) (settings : Settings) (outcome : Result Source ReadError) (of : AsksRunOf call settings outcome) where
    -- sources that come to no program
    pub none_by : (it : IsNone settings.table outcome) → IsBut (status_for it) answer
    none_by it = go (finds settings outcome of) where
      go : Finds settings answered.it.turns (told_with settings.script answered.mover) outcome answered.report → IsBut (status_for it) answer
      go (memory same) = but_memory (status_for it) (ap run_status same)
      go (none other same) = but (status_for it) (same ∙ one_status unique settings.table outcome other it)
      go (ran source typed names same are is) = absurd (none_or_typed unique settings.table outcome it source typed same are)

    -- sources that are a typed program
    pub completes_by : (source : Source) (typed : TypedProgram) → outcome ≡ Ok source → AreTyped settings.table source.units (Ok typed)
        → IsEnd answer ⊎ IsBut status.Limited answer
    completes_by source typed same are = go (finds settings outcome of) where
      end : IsEnd (run_status answered.report) → (answer ≡ status.Unwritten) ⊎ (answer ≡ run_status answered.report)
          → IsEnd answer ⊎ IsBut status.Limited answer
      end ends (inl cut) = inr (inr (inl cut))
      end ends (inr whole) = inl (subst IsEnd (sym whole) ends)

      ended : IsEnd (run_status answered.report) ⊎ (run_status answered.report ≡ status.Limited) ⊎ (run_status answered.report ≡ status.NoMemory)
          → IsEnd answer ⊎ IsBut status.Limited answer
      ended (inl ends) = end ends cut_or_whole
      ended (inr (inl limited)) = inr (but status.Limited limited)
      ended (inr (inr memory')) = inr (but_memory status.Limited memory')

      go : Finds settings answered.it.turns (told_with settings.script answered.mover) outcome answered.report
          → IsEnd answer ⊎ IsBut status.Limited answer
      go (memory same') = inr (but_memory status.Limited (ap run_status same'))
      go (none other same') = absurd (none_or_typed unique settings.table outcome other source typed same are)
      go (ran source' typed' names same' are' is) =
          ended (ran_status typed' settings.input answered.it.turns (told_with settings.script answered.mover) names answered.report is)

    -- and what the report says of the run of that program, unless memory ran out
    pub run_found : (source : Source) (typed : TypedProgram) → outcome ≡ Ok source → AreTyped settings.table source.units (Ok typed)
        → (answered.report ≡ Plain NoMemory)
        ⊎ ((names : List (List ℕ))
        × IsRunOfProgram typed settings.input answered.it.turns (told_with settings.script answered.mover) names answered.report)
    run_found source typed same are = go (finds settings outcome of) where
      one_typed : (one other : TypedProgram) → ◌≡◌ {A = Result TypedProgram ProgramError} (Ok one) (Ok other) → one ≡ other
      one_typed one other it = cc

      go : Finds settings answered.it.turns (told_with settings.script answered.mover) outcome answered.report
          → (answered.report ≡ Plain NoMemory)
          ⊎ ((names : List (List ℕ))
          × IsRunOfProgram typed settings.input answered.it.turns (told_with settings.script answered.mover) names answered.report)
      go (memory out) = inl out
      go (none other same') = absurd (none_or_typed unique settings.table outcome other source typed same are)
      go (ran source' typed' names same' are' is) =
          inr (
            names,
            subst
                (λ (it : TypedProgram).
                IsRunOfProgram it settings.input answered.it.turns (told_with settings.script answered.mover) names answered.report)
                (one_typed typed' typed (one_outcome unique settings.table outcome source' source (Ok typed') (Ok typed) same' same are' are)) is,
          )
