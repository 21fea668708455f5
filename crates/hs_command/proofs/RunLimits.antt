-- Which limit the run of a program passes, or that it passes none, from the report that was put.
use Rattle.std.proofs.Common.{◌≡◌, ◌≤◌, ◌⊎◌, ℕ, List, length, Option, Some, Ok, sym, subst, ap, ◌∙◌, inl, inr, refl, arith}
use Rattle.hs_base.specs.Limit.{number_of}
use Rattle.hs_base.specs.declared.limit.Limit.{Limit}
use Rattle.hs_base.specs.declared.limit.LimitKind.{LimitKind}
use Rattle.hs_base.specs.declared.limit.LimitKind.TheVariants as kind
use Rattle.hs_directives.specs.declared.source.Source.{Source}
use Rattle.hs_heap.specs.declared.decision.Decision.{Decision}
use Rattle.hs_lowering.specs.Exact.{program_code}
use Rattle.hs_machine.specs.Laws.Limits.{output_or_script, within_or_output, within_or_script}
use Rattle.hs_machine.specs.Transcripts as runs
use Rattle.hs_machine.specs.Transcripts.{PassesOutput, PassesScript, comes_under, reaches_under}
use Rattle.hs_machine.specs.declared.transcript.MachineEnd.TheVariants as machine
use Rattle.hs_meaning.specs.declared.input.Input.{Input}
use Rattle.hs_runner.specs.Runs.{EndsInTime, HasFewOps, IsGivenUp, PassesOps}
use Rattle.hs_settings.specs.declared.settings.Settings.{Settings}
use Rattle.hs_source.specs.Source.{AreTyped}
use Rattle.hs_tree.specs.Trees.{TypedProgram}
use Rattle.hs_words.specs.Words.{Asked, IsRun}
use Rattle.hs_command.specs.Movers.{Telling, first_of, told_with}
use Rattle.hs_command.specs.Report.{Call, IsPutAs}
use Rattle.hs_command.specs.RunCauses.{AsksRunOf, IsEnd, IsLimitedTo, IsToldRun}
use Rattle.hs_command.specs.Runs.{IsRunAnswer, IsRunOfProgram, ShowsRun}
use Rattle.hs_command.proofs.RunCauses.{outcome_ends, run_found, same_asked}
use Rattle.hs_command.proofs.Units.{AreUnique}
use Rattle.hs_report.specs.Texts.{run_status, run_text}
use Rattle.hs_report.specs.declared.report.Report.TheVariants.{Accepted, Hazards, Refused, NoMain, Unbuilt, Usage, Missing, Unread, Limited, NoMemory}
use Rattle.hs_report.specs.declared.run_report.Ran.{Ran}
use Rattle.hs_report.specs.declared.run_report.RunReport.{RunReport}
use Rattle.hs_report.specs.declared.run_report.RunReport.TheVariants.{NotToml, BadVersion, BadEntry, BadScript, BadInput, Plain, Shown}
use Rattle.hs_report.specs.declared.status.Status.{Status}
use Rattle.hs_report.specs.declared.status.Status.TheVariants as status

-- ---- what a report says of the run of a program

module _ (typed : TypedProgram) (input : Input) (turns : ℕ) (told : Option (List Decision)) (names : List (List ℕ)) where
  -- one of four things
  data Comes (report : RunReport) : Type 0 where
    is_shown : (ran : Ran) → report ≡ Shown ran → ShowsRun typed input turns told names ran → Comes report
    is_too_long : (limit : Limit) → report ≡ Plain (Limited limit) → PassesOps typed limit → Comes report
    is_given_up : (limit : Limit) → report ≡ Plain (Limited limit) → HasFewOps typed → IsGivenUp typed input turns told (machine.Limit limit)
        → Comes report
    has_no_memory : report ≡ Plain NoMemory → Comes report

  comes : (report : RunReport) → IsRunOfProgram typed input turns told names report → Comes report
  comes (Shown ran) is = is_shown ran refl is
  comes (Plain (Limited limit)) (inl passes) = is_too_long limit refl passes
  comes (Plain (Limited limit)) (inr gives) = is_given_up limit refl gives.0 gives.1
  comes (Plain NoMemory) is = has_no_memory refl
  comes (Plain Accepted) is = absurd is
  comes (Plain (Hazards count)) is = absurd is
  comes (Plain (Refused refusal)) is = absurd is
  comes (Plain NoMain) is = absurd is
  comes (Plain Unbuilt) is = absurd is
  comes (Plain Usage) is = absurd is
  comes (Plain (Missing name)) is = absurd is
  comes (Plain (Unread name)) is = absurd is
  comes NotToml is = absurd is
  comes BadVersion is = absurd is
  comes (BadEntry name) is = absurd is
  comes (BadScript number) is = absurd is
  comes (BadInput number) is = absurd is

  -- a run that is shown ends within its limits
  shown_in_time : (ran : Ran) → ShowsRun typed input turns told names ran → EndsInTime typed input turns told
  shown_in_time ran shows =
      record {
        script = shows.its.script.decisions;
        is_told = shows.is_told;
        outcome = shows.its.outcome;
        after = shows.exactly.after;
        left = shows.exactly.left;
        run = shows.exactly.run;
        few_bytes = subst (λ (bytes : List ℕ). length bytes ≤ 16777216) (sym shows.exactly.output) shows.few_bytes;
        few_decisions = shows.few_decisions;
      }

-- ---- limits exclude each other

module _ (typed : TypedProgram) (input : Input) (turns : ℕ) (told : List Decision) where
  -- the limit of output, or that of the script
  abbrev Output : Type 0
  Output =
      PassesOutput (program_code typed) (reaches_under (program_code typed) input turns) (comes_under (program_code typed) input turns) (Some told)

  abbrev Script : Type 0
  Script =
      PassesScript (program_code typed) (reaches_under (program_code typed) input turns) (comes_under (program_code typed) input turns) (Some told)

  one_of_two : (its : LimitKind)
      → runs.Passes (program_code typed) (reaches_under (program_code typed) input turns) (comes_under (program_code typed) input turns) its (Some told)
      → ((its ≡ kind.Output) × Output) ⊎ ((its ≡ kind.Script) × Script)
  one_of_two kind.Output passes = inl (refl, passes)
  one_of_two kind.Script passes = inr (refl, passes)
  one_of_two kind.Files passes = absurd passes
  one_of_two kind.FileBytes passes = absurd passes
  one_of_two kind.Scanned passes = absurd passes
  one_of_two kind.Replacements passes = absurd passes
  one_of_two kind.Tokens passes = absurd passes
  one_of_two kind.Depth passes = absurd passes
  one_of_two kind.Objects passes = absurd passes
  one_of_two kind.Ops passes = absurd passes
  one_of_two kind.Names passes = absurd passes
  one_of_two kind.Pairs passes = absurd passes
  one_of_two kind.PathSteps passes = absurd passes
  one_of_two kind.Report passes = absurd passes

  -- a limit, by its kind
  limit_of : (its : Limit) (wanted : LimitKind) → its.kind ≡ wanted → its.reached ≡ number_of its.kind
      → its ≡ record { kind = wanted; reached = number_of wanted }
  limit_of its wanted is reached =
      ap (λ (n : ℕ). limit its.kind n) reached ∙ ap (λ (k : LimitKind). limit k (number_of k)) is
    where
      limit : LimitKind → ℕ → Limit
      limit k n = record { kind = k; reached = n }

  -- a run passes one limit first
  one_limit : (its other : Limit) → IsGivenUp typed input turns (Some told) (machine.Limit its)
      → IsGivenUp typed input turns (Some told) (machine.Limit other) → its ≡ other
  one_limit its other one also = go (one_of_two its.kind one.1) (one_of_two other.kind also.1)
    where
      go : ((its.kind ≡ kind.Output) × Output) ⊎ ((its.kind ≡ kind.Script) × Script)
          → ((other.kind ≡ kind.Output) × Output) ⊎ ((other.kind ≡ kind.Script) × Script) → its ≡ other
      go (inl a) (inl b) = limit_of its kind.Output a.0 one.0 ∙ sym (limit_of other kind.Output b.0 also.0)
      go (inl a) (inr b) = absurd (output_or_script (program_code typed) input turns told b.1 a.1)
      go (inr a) (inl b) = absurd (output_or_script (program_code typed) input turns told a.1 b.1)
      go (inr a) (inr b) = limit_of its kind.Script a.0 one.0 ∙ sym (limit_of other kind.Script b.0 also.0)

  -- or it ends within them
  in_time_or_not : (its : Limit) → EndsInTime typed input turns (Some told) → IsGivenUp typed input turns (Some told) (machine.Limit its) → ⊥
  in_time_or_not its ends gives = go (one_of_two its.kind gives.1)
    where
      go : ((its.kind ≡ kind.Output) × Output) ⊎ ((its.kind ≡ kind.Script) × Script) → ⊥
      go (inl floods) = within_or_output (program_code typed) input turns told ends floods.1
      go (inr overruns) = within_or_script (program_code typed) input turns told overruns.1 ends

-- ---- the answer

module _ (call : Call) (answer : Status) (it : Asked) (answered : IsRunAnswer call answer) (is_run : IsRun call.words it)
    (cut_or_whole : (answer ≡ status.Unwritten) ⊎ (answer ≡ run_status answered.report)) (unique : AreUnique) where
  -- the line of the report was put
  put_as : (report : RunReport) → answered.report ≡ report → IsPutAs (run_text report) (run_status report) call.old call.new answer
  put_as report same =
      subst (λ (r : RunReport). IsPutAs (run_text r) (run_status r) call.old call.new answer) same answered.is_put

  limited_to : (limit : Limit) → answered.report ≡ Plain (Limited limit) → IsLimitedTo call limit answer
  limited_to limit same = inl (put_as (Plain (Limited limit)) same)

  out_of_memory : (limit : Limit) → answered.report ≡ Plain NoMemory → IsLimitedTo call limit answer
  out_of_memory limit same = inr (put_as (Plain NoMemory) same)

  -- the code has too many operations
  pub ops_by : (settings : Settings) (source : Source) (typed : TypedProgram) (limit : Limit) → AsksRunOf call settings (Ok source)
      → AreTyped settings.table source.units (Ok typed) → PassesOps typed limit → IsLimitedTo call limit answer
  ops_by settings source typed limit of are passes =
      found (run_found call answer it answered is_run cut_or_whole unique settings (Ok source) of source typed refl are)
    where
      told : Option (List Decision)
      told = told_with settings.script answered.mover

      by : (names : List (List ℕ)) → Comes typed settings.input answered.it.turns told names answered.report → IsLimitedTo call limit answer
      by names (is_shown ran same shows) = absurd (omega (arith, shows.few_ops, passes.1))
      by names (is_too_long other same also) =
          limited_to limit (same ∙ ap (λ (its : Limit). Plain (Limited its)) (also.0 ∙ sym passes.0))
      by names (is_given_up other same few gives) = absurd (omega (arith, few, passes.1))
      by names (has_no_memory same) = out_of_memory limit same

      found : (answered.report ≡ Plain NoMemory)
          ⊎ ((names : List (List ℕ)) × IsRunOfProgram typed settings.input answered.it.turns told names answered.report) → IsLimitedTo call limit answer
      found (inl same) = out_of_memory limit same
      found (inr is) = by is.0 (comes typed settings.input answered.it.turns told is.0 answered.report is.1)

  -- what the report says of a run whose mover tells its decisions
  module _ (settings : Settings) (typed : TypedProgram) (told : List Decision) (of : IsToldRun call it settings typed told) where
    same_mover : of.mover ≡ answered.mover
    same_mover = one of.mover answered.mover (sym of.chosen ∙ ap (λ (asked : Asked). first_of asked.mover call.movers) asked ∙ answered.chosen)
      where
        asked : it ≡ answered.it
        asked = same_asked call answer it answered is_run cut_or_whole it is_run

        one : (a b : Telling) → ◌≡◌ {A = Option Telling} (Some a) (Some b) → a ≡ b
        one a b same = cc

    tells : told_with settings.script answered.mover ≡ Some told
    tells = sym (ap (λ (mover : Telling). told_with settings.script mover) same_mover) ∙ of.tells

    same_turns : answered.it.turns ≡ it.turns
    same_turns = ap (λ (asked : Asked). asked.turns) (sym (same_asked call answer it answered is_run cut_or_whole it is_run))

    found : (answered.report ≡ Plain NoMemory)
        ⊎ ((names : List (List ℕ)) × Comes typed settings.input it.turns (Some told) names answered.report)
    found = go (run_found call answer it answered is_run cut_or_whole unique settings (Ok of.source) of.asks of.source typed refl of.are)
      where
        go : (answered.report ≡ Plain NoMemory)
            ⊎ ((names : List (List ℕ))
            × IsRunOfProgram typed settings.input answered.it.turns (told_with settings.script answered.mover) names answered.report)
            → (answered.report ≡ Plain NoMemory) ⊎ ((names : List (List ℕ)) × Comes typed settings.input it.turns (Some told) names answered.report)
        go (inl same) = inl same
        go (inr is) =
            inr (
              is.0,
              comes typed settings.input it.turns (Some told) is.0 answered.report
                  (subst (λ (t : Option (List Decision)). IsRunOfProgram typed settings.input it.turns t is.0 answered.report) tells
                  (subst (λ (n : ℕ). IsRunOfProgram typed settings.input n (told_with settings.script answered.mover) is.0 answered.report) same_turns
                  is.1)),
            )

    -- it passes a limit
    pub gives_up_by : (limit : Limit) → IsGivenUp typed settings.input it.turns (Some told) (machine.Limit limit) → IsLimitedTo call limit answer
    gives_up_by limit gives = go found
      where
        by : (names : List (List ℕ)) → Comes typed settings.input it.turns (Some told) names answered.report → IsLimitedTo call limit answer
        by names (is_shown ran same shows) =
            absurd (in_time_or_not typed settings.input it.turns told limit (shown_in_time typed settings.input it.turns (Some told) names ran shows) gives)
        by names (is_too_long other same also) = absurd (omega (arith, of.few_ops, also.1))
        by names (is_given_up other same few also) =
            limited_to limit
            (same ∙ ap (λ (its : Limit). Plain (Limited its)) (one_limit typed settings.input it.turns told other limit also gives))
        by names (has_no_memory same) = out_of_memory limit same

        go : (answered.report ≡ Plain NoMemory) ⊎ ((names : List (List ℕ)) × Comes typed settings.input it.turns (Some told) names answered.report)
            → IsLimitedTo call limit answer
        go (inl same) = out_of_memory limit same
        go (inr is) = by is.0 is.1

    -- or none
    pub ends_by : EndsInTime typed settings.input it.turns (Some told) → IsEnd answer ⊎ (answer ≡ status.Unwritten) ⊎ (answer ≡ status.NoMemory)
    ends_by ends = go found
      where
        status_is : (wanted : Status) → run_status answered.report ≡ wanted → IsEnd wanted ⊎ (wanted ≡ status.NoMemory)
            → IsEnd answer ⊎ (answer ≡ status.Unwritten) ⊎ (answer ≡ status.NoMemory)
        status_is wanted same either = by_put cut_or_whole either
          where
            by_put : (answer ≡ status.Unwritten) ⊎ (answer ≡ run_status answered.report) → IsEnd wanted ⊎ (wanted ≡ status.NoMemory)
                → IsEnd answer ⊎ (answer ≡ status.Unwritten) ⊎ (answer ≡ status.NoMemory)
            by_put (inl cut) end = inr (inl cut)
            by_put (inr whole) (inl end) = inl (subst IsEnd (sym (whole ∙ same)) end)
            by_put (inr whole) (inr none) = inr (inr (whole ∙ same ∙ none))

        by : (names : List (List ℕ)) → Comes typed settings.input it.turns (Some told) names answered.report
            → IsEnd answer ⊎ (answer ≡ status.Unwritten) ⊎ (answer ≡ status.NoMemory)
        by names (is_shown ran same shows) = status_is (run_status (Shown ran)) (ap run_status same) (inl (outcome_ends ran.outcome))
        by names (is_too_long other same also) = absurd (omega (arith, of.few_ops, also.1))
        by names (is_given_up other same few also) = absurd (in_time_or_not typed settings.input it.turns told other ends also)
        by names (has_no_memory same) = status_is status.NoMemory (ap run_status same) (inr refl)

        go : (answered.report ≡ Plain NoMemory) ⊎ ((names : List (List ℕ)) × Comes typed settings.input it.turns (Some told) names answered.report)
            → IsEnd answer ⊎ (answer ≡ status.Unwritten) ⊎ (answer ≡ status.NoMemory)
        go (inl same) = status_is status.NoMemory (ap run_status same) (inr refl)
        go (inr is) = by is.0 is.1
