-- What a whole call did: the headline, and the causes of its status, whatever its words ask for.
use Rattle.std.proofs.Common.{◌≡◌, ◌⊎◌, ℕ, List, sym, subst, ap, ◌∙◌, inl, inr, refl, Option, Some, None, codes, Result, Ok, Err}
use Rattle.hs_base.specs.Count.{HasRisen}
use Rattle.hs_base.specs.Files.{Read}
use Rattle.hs_base.specs.Reads.{Leads}
use Rattle.hs_base.specs.Sink.{IsPut}
use Rattle.hs_base.specs.declared.errors.Failed.{Failed}
use Rattle.hs_base.specs.declared.limit.Limit.{Limit}
use Rattle.hs_tree.specs.declared.straight.tree.Straight.{Straight}
use Rattle.hs_meaning.specs.Straight.Run.{IsSafe}
use Rattle.hs_meaning.specs.Straight.StaleUses.{HasStaleUses}
use Rattle.hs_directives.specs.declared.error.ReadError.TheVariants as reading
use Rattle.hs_directives.specs.declared.source.Source.{Source}
use Rattle.hs_meaning.specs.declared.outcome.Outcome.{Outcome}
use Rattle.hs_meaning.specs.declared.outcome.Outcome.TheVariants.{Finished, Stopped, TurnsSpent}
use Rattle.hs_meaning.specs.declared.outcome.Stop.{Stop}
use Rattle.hs_meaning.specs.declared.outcome.Stop.TheVariants as stop
use Rattle.hs_settings.specs.declared.settings.SettingsError.{SettingsError}
use Rattle.hs_settings.specs.declared.settings.SettingsError.TheVariants as given
use Rattle.hs_words.specs.Words.{Asked, IsCheck, IsRun, first_word}
use Rattle.hs_typing.specs.declared.program.ProgramError.TheVariants as program
use Rattle.hs_source.specs.Source.{IsLimitOf}
use Rattle.hs_command.specs.Causes.{AreSafe, Checks, Headline, HasCauses, HasCheckCauses}
use Rattle.hs_report.specs.Texts.{text_of, status_of, run_status, run_text, status_of_outcome, status_of_stop}
use Rattle.hs_command.specs.Report.{IsBut, AreAsked, IsReport, Written, IsPutAs, Call, IsCheckAnswer, status_after}
use Rattle.hs_command.specs.Movers.{Telling, first_of, told_with}
use Rattle.hs_command.specs.Runs.{HaveNoProgram, HaveRun, IsAnswered, IsRunAnswer, IsRunVerdict, report_of}
use Rattle.hs_command.specs.RunCauses.{AsksRunOf, HasRunCauses, IsAnsweredSo, IsEnd, IsFaulted, IsMissed, IsRanSo}
use Rattle.hs_command.specs.Words.{HasNoRun, IsNoCommand}
use Rattle.hs_settings.specs.declared.settings.Settings.{Settings}
use Rattle.hs_command.proofs.RunCauses as runs
use Rattle.hs_command.proofs.RunCounts.{Rose, unread_rose}
use Rattle.hs_command.proofs.RunLimits.{ends_by, gives_up_by, ops_by}
use Rattle.hs_command.proofs.RunOutcomes as none
use Rattle.hs_report.specs.declared.report.Report.{Report}
use Rattle.hs_report.specs.declared.report.Report.TheVariants.{Accepted, Hazards, Refused, NoMain, Unbuilt, Usage, Missing, Unread, Limited, NoMemory}
use Rattle.hs_report.specs.declared.run_report.RunReport.{RunReport}
use Rattle.hs_report.specs.declared.run_report.RunReport.TheVariants.{NotToml, BadVersion, BadEntry, BadScript, BadInput, Plain, Shown}
use Rattle.hs_report.specs.declared.status.Status.{Status}
use Rattle.hs_report.specs.declared.status.Status.TheVariants as status
use Rattle.hs_command.proofs.Outcomes.{faulty_status, typed_status}
use Rattle.hs_command.proofs.Units.{AreUnique}
use Rattle.hs_command.proofs.Causes.{IsCause, cut, whole, cause, no_check, but, usage_only, usage, whole_put, unwritten_only, headline_by, causes_by}

-- ---- whole calls

-- words have one first word
no_both_commands : (words names : List (List ℕ)) (it : Asked) → IsCheck words names → IsRun words it → ⊥
no_both_commands words names it is_check is_run = other (is_check.command) is_run.command where
  other : first_word words ≡ Some (codes "check") → first_word words ≡ Some (codes "run") → ⊥
  other check run = absurd (differ (sym check ∙ run)) where
    differ : ◌≡◌ {A = Option (List ℕ)} (Some (codes "check")) (Some (codes "run")) → ⊥
    differ same = absurd cc

-- they ask for one run, with one mover
no_run : (words : List (List ℕ)) (movers : List Telling) (it : Asked) (mover : Telling) → IsRun words it → first_of it.mover movers ≡ Some mover
    → HasNoRun words movers → ⊥
no_run words movers it mover is_run there (inl (inl other)) = other is_run.command
no_run words movers it mover is_run there (inl (inr (inl refused))) = refused is_run.taken
no_run words movers it mover is_run there (inl (inr (inr none))) = absurd (no_value it (sym is_run.read ∙ none)) where
  no_value : (it : Asked) → Some it ≡ None → ⊥
  no_value it same = absurd cc
no_run words movers it mover is_run there (inr (it', is_run', none)) =
    absurd (no_mover mover (sym there ∙ ap (λ (wanted : Asked). first_of wanted.mover movers) (same_run it it' (sym is_run.read ∙ is_run'.read)) ∙ none)) where
      same_run : (one other : Asked) → ◌≡◌ {A = Option Asked} (Some one) (Some other) → one ≡ other
      same_run one other same = cc

      no_mover : (one : Telling) → Some one ≡ None → ⊥
      no_mover one same = absurd cc

-- an answer is Unwritten and a fault was counted, or it is the status of the report of the run
data IsRunCause (report : RunReport) (answer : Status) (old new : Written) : Type 0 where
  run_cut : answer ≡ status.Unwritten → HasRisen old.faults new.faults → IsRunCause report answer old new
  run_whole : answer ≡ run_status report → IsRunCause report answer old new

run_cause : (report : RunReport) (answer : Status) (old new : Written) → IsPutAs (run_text report) (run_status report) old new answer
    → IsRunCause report answer old new
run_cause report answer old new done = go done.put done.is_put done.is_status
  where
    go : (put : Result Unit Failed) → IsPut (run_text report) old.bytes new.bytes old.faults new.faults put
        → answer ≡ status_after (run_status report) put → IsRunCause report answer old new
    go (Ok unit) is_put is_status = run_whole is_status
    go (Err failed) is_put is_status = run_cut is_status is_put.2

-- a stop has a status of runs
stop_status : (why : Stop) (came : Status) → status_of_stop why ≡ came → (came ≡ status.RanStale) ⊎ (came ≡ status.RanStopped)
stop_status stop.Stale came is = inl (sym is)
stop_status stop.Purged came is = inl (sym is)
stop_status stop.Nil came is = inr (sym is)
stop_status stop.Disposed came is = inr (sym is)
stop_status stop.Old came is = inr (sym is)
stop_status stop.Range came is = inr (sym is)
stop_status stop.Gone came is = inr (sym is)
stop_status stop.Undefined came is = inr (sym is)
stop_status stop.BadLoad came is = inr (sym is)
stop_status stop.BadPointer came is = inr (sym is)
stop_status stop.BadHandle came is = inr (sym is)
stop_status stop.BadByte came is = inr (sym is)
stop_status stop.Divide came is = inr (sym is)
stop_status stop.Frames came is = inr (sym is)

-- what is no status of a run
apart_from_runs : (why : Stop) (came : Status) → status_of_stop why ≡ came → (came ≡ status.RanStale → ⊥) → (came ≡ status.RanStopped → ⊥) → ⊥
apart_from_runs why came is no_stale no_stopped = go (stop_status why came is) where
  go : (came ≡ status.RanStale) ⊎ (came ≡ status.RanStopped) → ⊥
  go (inl stale) = no_stale stale
  go (inr stopped) = no_stopped stopped

-- no report of a check has the status of a write that failed
plain_cut : (report : Report) → status_of report ≡ status.Unwritten → ⊥
plain_cut Accepted is = absurd cc
plain_cut (Hazards count) is = absurd cc
plain_cut (Refused refusal) is = absurd cc
plain_cut NoMain is = absurd cc
plain_cut Unbuilt is = absurd cc
plain_cut Usage is = absurd cc
plain_cut (Missing name) is = absurd cc
plain_cut (Unread name) is = absurd cc
plain_cut (Limited limit) is = absurd cc
plain_cut NoMemory is = absurd cc

-- nor has one of a run
no_run_cut : (report : RunReport) → run_status report ≡ status.Unwritten → ⊥
no_run_cut NotToml is = absurd cc
no_run_cut BadVersion is = absurd cc
no_run_cut (BadEntry name) is = absurd cc
no_run_cut (BadScript number) is = absurd cc
no_run_cut (BadInput number) is = absurd cc
no_run_cut (Plain report) is = plain_cut report is
no_run_cut (Shown ran) is = ended ran.outcome is where
  ended : (outcome : Outcome) → status_of_outcome outcome ≡ status.Unwritten → ⊥
  ended (Finished number) is = absurd cc
  ended (Stopped why at) is = apart_from_runs why status.Unwritten is (λ same. absurd cc) (λ same. absurd cc)
  ended TurnsSpent is = absurd cc

-- of the reports of a check only one has the status of words that are no command
plain_usage : (report : Report) → status_of report ≡ status.Usage → report ≡ Usage
plain_usage Usage is = refl
plain_usage Accepted is = absurd cc
plain_usage (Hazards count) is = absurd cc
plain_usage (Refused refusal) is = absurd cc
plain_usage NoMain is = absurd cc
plain_usage Unbuilt is = absurd cc
plain_usage (Missing name) is = absurd cc
plain_usage (Unread name) is = absurd cc
plain_usage (Limited limit) is = absurd cc
plain_usage NoMemory is = absurd cc

-- and so have those of runs
run_is_usage : (report : RunReport) → run_status report ≡ status.Usage → report ≡ Plain Usage
run_is_usage NotToml is = absurd cc
run_is_usage BadVersion is = absurd cc
run_is_usage (BadEntry name) is = absurd cc
run_is_usage (BadScript number) is = absurd cc
run_is_usage (BadInput number) is = absurd cc
run_is_usage (Plain report) is = ap (λ (it : Report). Plain it) (plain_usage report is)
run_is_usage (Shown ran) is = absurd (ended ran.outcome is) where
  ended : (outcome : Outcome) → status_of_outcome outcome ≡ status.Usage → ⊥
  ended (Finished number) is = absurd cc
  ended (Stopped why at) is = apart_from_runs why status.Usage is (λ same. absurd cc) (λ same. absurd cc)
  ended TurnsSpent is = absurd cc

-- which no run answers
no_usage_report : (error : SettingsError) → Plain Usage ≡ report_of error → ⊥
no_usage_report (given.Missing name) same = absurd cc
no_usage_report (given.Unread name) same = absurd cc
no_usage_report (given.Limit limit) same = absurd cc
no_usage_report given.NotToml same = absurd cc
no_usage_report given.BadVersion same = absurd cc
no_usage_report (given.BadEntry name) same = absurd cc
no_usage_report (given.BadScript number) same = absurd cc
no_usage_report (given.BadInput number) same = absurd cc
no_usage_report given.NoMemory same = absurd cc

no_usage_verdict : (mover : Telling) (it : Asked) (reads : List Read) → IsRunVerdict mover it reads (Plain Usage) → ⊥
no_usage_verdict mover it reads (inl (error, is, inl same)) = no_usage_report error same
no_usage_verdict mover it reads (inl (error, is, inr same)) = absurd (differ same) where
  differ : Plain Usage ≡ Plain NoMemory → ⊥
  differ same = absurd cc
no_usage_verdict mover it reads (inr has) = go has.follows.1 where
  go : HaveNoProgram has.settings.table it.names has.rest (Plain Usage)
      ⊎ HaveRun has.settings.table has.settings.input it.turns (told_with has.settings.script mover) it.names has.rest (Plain Usage) → ⊥
  go (inl none) = none
  go (inr some) = some.2.2

run_usage : (call : Call) (answer : Status) (ran : IsRunAnswer call answer) → IsRunCause ran.report answer call.old call.new
    → answer ≡ status.Usage → ⊥
run_usage call answer ran (run_cut unwritten fault) came = absurd (apart (sym came ∙ unwritten)) where
  apart : ◌≡◌ {A = Status} status.Usage status.Unwritten → ⊥
  apart same = absurd cc
run_usage call answer ran (run_whole is_status) came =
    no_usage_verdict ran.mover ran.it call.reads
    (subst (IsRunVerdict ran.mover ran.it call.reads) (run_is_usage ran.report (sym is_status ∙ came)) ran.is_report)

run_unwritten : (call : Call) (answer : Status) (ran : IsRunAnswer call answer) → IsRunCause ran.report answer call.old call.new
    → answer ≡ status.Unwritten → HasRisen call.old.faults call.new.faults
run_unwritten call answer ran (run_cut unwritten fault) came = fault
run_unwritten call answer ran (run_whole is_status) came = absurd (no_run_cut ran.report (sym is_status ∙ came))

-- a report of a check that a run answers has no status of a run that is shown
no_plain_end : (mover : Telling) (it : Asked) (reads : List Read) (report : Report) → IsRunVerdict mover it reads (Plain report)
    → IsEnd (status_of report) → ⊥
no_plain_end mover it reads Accepted (inl (error, is, inl same)) ends = none error same where
  none : (error : SettingsError) → Plain Accepted ≡ report_of error → ⊥
  none (given.Missing name) same = absurd cc
  none (given.Unread name) same = absurd cc
  none (given.Limit limit) same = absurd cc
  none given.NotToml same = absurd cc
  none given.BadVersion same = absurd cc
  none (given.BadEntry name) same = absurd cc
  none (given.BadScript number) same = absurd cc
  none (given.BadInput number) same = absurd cc
  none given.NoMemory same = absurd cc
no_plain_end mover it reads Accepted (inl (error, is, inr same)) ends = differ same where
  differ : Plain Accepted ≡ Plain NoMemory → ⊥
  differ same = absurd cc
no_plain_end mover it reads Accepted (inr has) ends = go has.follows.1 where
  go : HaveNoProgram has.settings.table it.names has.rest (Plain Accepted)
      ⊎ HaveRun has.settings.table has.settings.input it.turns (told_with has.settings.script mover) it.names has.rest (Plain Accepted) → ⊥
  go (inl none) = none
  go (inr some) = some.2.2
no_plain_end mover it reads (Hazards count) is ends = ends
no_plain_end mover it reads (Refused refusal) is ends = ends
no_plain_end mover it reads NoMain is ends = ends
no_plain_end mover it reads Unbuilt is ends = ends
no_plain_end mover it reads Usage is ends = ends
no_plain_end mover it reads (Missing name) is ends = ends
no_plain_end mover it reads (Unread name) is ends = ends
no_plain_end mover it reads (Limited limit) is ends = ends
no_plain_end mover it reads NoMemory is ends = ends

-- so where a run ended, it is shown
ran_so : (call : Call) (it : Asked) (mover : Telling) (report : RunReport) → first_of it.mover call.movers ≡ Some mover
    → IsRunVerdict mover it call.reads report → IsEnd (run_status report) → IsRanSo call it (run_status report)
ran_so call it mover NotToml chosen is ends = absurd ends
ran_so call it mover BadVersion chosen is ends = absurd ends
ran_so call it mover (BadEntry name) chosen is ends = absurd ends
ran_so call it mover (BadScript number) chosen is ends = absurd ends
ran_so call it mover (BadInput number) chosen is ends = absurd ends
ran_so call it mover (Plain report) chosen is ends = absurd (no_plain_end mover it call.reads report is ends)
ran_so call it mover (Shown ran) chosen (inr has) ends = (mover, chosen, (ran, has, refl))
ran_so call it mover (Shown ran) chosen (inl (error, is, inr same)) ends = absurd (differ same) where
  differ : Shown ran ≡ Plain NoMemory → ⊥
  differ same = absurd cc
ran_so call it mover (Shown ran) chosen (inl (error, is, inl same)) ends = absurd (none error same) where
  none : (error : SettingsError) → Shown ran ≡ report_of error → ⊥
  none (given.Missing name) same = absurd cc
  none (given.Unread name) same = absurd cc
  none (given.Limit limit) same = absurd cc
  none given.NotToml same = absurd cc
  none given.BadVersion same = absurd cc
  none (given.BadEntry name) same = absurd cc
  none (given.BadScript number) same = absurd cc
  none (given.BadInput number) same = absurd cc
  none given.NoMemory same = absurd cc

-- where the write failed or memory ran out, nothing else is owed
free_causes : (call : Call) (answer : Status) (it : Asked) → (answer ≡ status.Unwritten) ⊎ (answer ≡ status.NoMemory)
    → IsPutAs (text_of NoMemory) status.NoMemory call.old call.new answer → HasRunCauses call it answer
free_causes call answer it free none = record {
  ended_only = λ ends. absurd (no_end free ends);
  only = λ apart some. absurd (neither free apart some);
  unread_only = λ came. absurd (no_unread free came);
  given = λ error asks. any free (run_status (report_of error));
  refused = λ settings error place of placed. any free status.Refused;
  syntax = λ settings source pos of has. any free status.Refused;
  untyped = λ settings source why place of are placed. any free status.Refused;
  no_main = λ settings source of are. any free status.Refused;
  missing = λ settings name of. any free status.Unread;
  limited = λ settings limit of. any free status.Limited;
  past = λ settings source limit of is. any free status.Limited;
  completes = λ settings source typed of are. inr (any free status.Limited);
  ops = λ settings source typed limit of are passes. inr none;
  gives_up = λ settings typed told limit of gives. inr none;
  ends = λ settings typed told of within. inr free;
} where
  any : (answer ≡ status.Unwritten) ⊎ (answer ≡ status.NoMemory) → (wanted : Status) → IsBut wanted answer
  any (inl unwritten) wanted = inr (inl unwritten)
  any (inr memory) wanted = inr (inr memory)

  no_end : (answer ≡ status.Unwritten) ⊎ (answer ≡ status.NoMemory) → IsEnd answer → ⊥
  no_end (inl unwritten) ends = subst IsEnd unwritten ends
  no_end (inr memory) ends = subst IsEnd memory ends

  no_unread : (answer ≡ status.Unwritten) ⊎ (answer ≡ status.NoMemory) → answer ≡ status.Unread → ⊥
  no_unread (inl unwritten) came = absurd (apart (sym came ∙ unwritten)) where
    apart : ◌≡◌ {A = Status} status.Unread status.Unwritten → ⊥
    apart same = absurd cc
  no_unread (inr memory) came = absurd (apart (sym came ∙ memory)) where
    apart : ◌≡◌ {A = Status} status.Unread status.NoMemory → ⊥
    apart same = absurd cc

  neither : (answer ≡ status.Unwritten) ⊎ (answer ≡ status.NoMemory) → (answer ≡ status.Unwritten → ⊥) → (answer ≡ status.NoMemory → ⊥) → ⊥
  neither (inl unwritten) apart some = apart unwritten
  neither (inr memory) apart some = some memory

-- of words that ask for a run with a mover that was handed in, the report of a check says that memory ran out
only_memory : (call : Call) (it : Asked) (mover : Telling) → IsRun call.words it → first_of it.mover call.movers ≡ Some mover → (report : Report)
    → IsReport call.words call.movers call.reads report → report ≡ NoMemory
only_memory call it mover is_run chosen NoMemory is = refl
only_memory call it mover is_run chosen Usage is = absurd (no_run call.words call.movers it mover is_run chosen is.1)
only_memory call it mover is_run chosen Accepted is = absurd (no_both_commands call.words is.0 it is.1 is_run)
only_memory call it mover is_run chosen (Hazards count) is = absurd (no_both_commands call.words is.0 it is.1 is_run)
only_memory call it mover is_run chosen (Refused refusal) is = absurd (no_both_commands call.words is.0 it is.1 is_run)
only_memory call it mover is_run chosen NoMain is = absurd (no_both_commands call.words is.0 it is.1 is_run)
only_memory call it mover is_run chosen Unbuilt is = absurd (no_both_commands call.words is.0 it is.1 is_run)
only_memory call it mover is_run chosen (Missing name) is = absurd (no_both_commands call.words is.0 it is.1 is_run)
only_memory call it mover is_run chosen (Unread name) is = absurd (no_both_commands call.words is.0 it is.1 is_run)
only_memory call it mover is_run chosen (Limited limit) is = absurd (no_both_commands call.words is.0 it is.1 is_run)

-- so the line that memory ran out was put
memory_put : (call : Call) (answer : Status) (answered : IsCheckAnswer call answer) → answered.report ≡ NoMemory
    → IsPutAs (text_of NoMemory) status.NoMemory call.old call.new answer
memory_put call answer answered same =
    subst (λ (report : Report). IsPutAs (text_of report) (status_of report) call.old call.new answer) same answered.is_put

plain_run_causes : (call : Call) (answer : Status) (it : Asked) (mover : Telling) → IsRun call.words it
    → first_of it.mover call.movers ≡ Some mover → (answered : IsCheckAnswer call answer) → IsCause answered.report answer call.old call.new
    → HasRunCauses call it answer
plain_run_causes call answer it mover is_run chosen answered (cut unwritten fault) =
    free_causes call answer it (inl unwritten)
    (memory_put call answer answered (only_memory call it mover is_run chosen answered.report answered.is_report))
plain_run_causes call answer it mover is_run chosen answered (whole is_status) =
    free_causes call answer it
    (inr (is_status ∙ ap status_of (only_memory call it mover is_run chosen answered.report answered.is_report)))
    (memory_put call answer answered (only_memory call it mover is_run chosen answered.report answered.is_report))

-- the words ask for one run
same_asked : (one other : Asked) {words : List (List ℕ)} → IsRun words one → IsRun words other → other ≡ one
same_asked one other is also = same other one (sym also.read ∙ is.read) where
  same : (one other : Asked) → ◌≡◌ {A = Option Asked} (Some one) (Some other) → one ≡ other
  same one other it = cc

-- a run is answered for one thing that the words ask for
run_causes_of : (call : Call) (answer : Status) → AreUnique → (ran : IsRunAnswer call answer) → IsRunCause ran.report answer call.old call.new
    → HasRunCauses call ran.it answer
run_causes_of call answer unique ran caused = record {
  ended_only = λ ends. ended caused ends;
  only = λ apart some. told caused apart;
  unread_only = λ came. rose caused came;
  given = λ error asks. runs.given_by call answer ran.it ran ran.is_run either error asks;
  refused = λ settings error place of placed.
      subst (λ (it : Status). IsBut it answer) (faulty_status error place placed)
      (runs.none_by call answer ran.it ran ran.is_run either unique settings (Err error) of (none.unread error refl));
  syntax = λ settings source pos of has.
      runs.none_by call answer ran.it ran ran.is_run either unique settings (Ok source) of (none.syntax source pos refl has);
  untyped = λ settings source why place of are placed.
      subst (λ (it : Status). IsBut it answer) (sym (typed_status why place placed))
      (runs.none_by call answer ran.it ran ran.is_run either unique settings (Ok source) of (none.untyped source (program.Refused why) refl are));
  no_main = λ settings source of are.
      runs.none_by call answer ran.it ran ran.is_run either unique settings (Ok source) of (none.untyped source program.NoMain refl are);
  missing = λ settings name of.
      runs.none_by call answer ran.it ran ran.is_run either unique settings (Err (reading.Missing name)) of (none.unread (reading.Missing name) refl);
  limited = λ settings limit of.
      runs.none_by call answer ran.it ran ran.is_run either unique settings (Err (reading.Limit limit)) of (none.unread (reading.Limit limit) refl);
  past = λ settings source limit of is. past settings source limit of is;
  completes = λ settings source typed of are.
      runs.completes_by call answer ran.it ran ran.is_run either unique settings (Ok source) of source typed refl are;
  ops = λ settings source typed limit of are passes.
      ops_by call answer ran.it ran ran.is_run either unique settings source typed limit of are passes;
  gives_up = λ settings typed told limit of gives. gives_up_by call answer ran.it ran ran.is_run either unique settings typed told of limit gives;
  ends = λ settings typed told of within. ends_by call answer ran.it ran ran.is_run either unique settings typed told of within;
} where
  either : (answer ≡ status.Unwritten) ⊎ (answer ≡ run_status ran.report)
  either = go caused where
    go : IsRunCause ran.report answer call.old call.new → (answer ≡ status.Unwritten) ⊎ (answer ≡ run_status ran.report)
    go (run_cut unwritten fault) = inl unwritten
    go (run_whole is_status) = inr is_status

  put_as : (report : RunReport) → ran.report ≡ report → IsPutAs (run_text report) (run_status report) call.old call.new answer
  put_as report same = subst (λ (r : RunReport). IsPutAs (run_text r) (run_status r) call.old call.new answer) same ran.is_put

  ended : IsRunCause ran.report answer call.old call.new → IsEnd answer → IsRanSo call ran.it answer
  ended (run_cut unwritten fault) ends = absurd (subst IsEnd unwritten ends)
  ended (run_whole is_status) ends =
      subst (IsRanSo call ran.it) (sym is_status) (ran_so call ran.it ran.mover ran.report ran.chosen ran.is_report (subst IsEnd is_status ends))

  -- the line of the report that names the file was put
  named : Rose call.before call.now ran.report → IsMissed call answer ⊎ IsFaulted call answer
  named (inl (name, same, rises)) = inl (name, put_as (Plain (Missing name)) same, rises)
  named (inr (name, same, rises)) = inr (name, put_as (Plain (Unread name)) same, rises)

  rose : IsRunCause ran.report answer call.old call.new → answer ≡ status.Unread → IsMissed call answer ⊎ IsFaulted call answer
  rose (run_cut unwritten fault) came = absurd (apart (sym came ∙ unwritten)) where
    apart : ◌≡◌ {A = Status} status.Unread status.Unwritten → ⊥
    apart same = absurd cc
  rose (run_whole is_status) came =
      named (unread_rose call.told call.before call.now call.reads ran.right ran.mover ran.it ran.report ran.is_report (sym is_status ∙ came))

  told : IsRunCause ran.report answer call.old call.new → (answer ≡ status.Unwritten → ⊥) → IsAnsweredSo call ran.it answer
  told (run_cut unwritten fault) apart = absurd (apart unwritten)
  told (run_whole is_status) apart = (ran.mover, ran.chosen, (ran.report, ran.is_report, sym is_status))

  past : (settings : Settings) (source : Source) (limit : Limit) → AsksRunOf call settings (Ok source)
      → IsLimitOf settings.table source.units limit → IsBut status.Limited answer
  past settings source limit of (inl deeply) =
      runs.none_by call answer ran.it ran ran.is_run either unique settings (Ok source) of (none.deep source refl deeply.0)
  past settings source limit of (inr are) =
      runs.none_by call answer ran.it ran ran.is_run either unique settings (Ok source) of (none.untyped source (program.Limit limit) refl are)

-- the headline
pub headline_of : (call : Call) (answer : Status) → ((tree : Straight) → HasStaleUses tree 0 → IsSafe tree)
    → IsAnswered call answer → Headline call answer
headline_of call answer safe (inl answered) names is_check done =
    go (cause answered.report answer call.old call.new answered.is_put) where
      own : Checks call (AreSafe call.reads) → AreSafe call.reads names
      own (other, is, safe_so) = subst (AreSafe call.reads) (is.read ∙ sym is_check.read) safe_so

      go : IsCause answered.report answer call.old call.new → AreSafe call.reads names
      go (cut unwritten fault) = absurd (apart answer done unwritten) where
        apart : (answer : Status) → answer ≡ status.Done → answer ≡ status.Unwritten → ⊥
        apart answer one other = absurd cc
      go (whole is_status) = own (headline_by call answer answered.right answered.report safe answered.is_report is_status done)
headline_of call answer safe (inr ran) names is_check done = absurd (no_both_commands call.words names ran.it is_check ran.is_run)

-- the causes of a check
check_causes_of : (call : Call) (answer : Status) → AreUnique → IsCheckAnswer call answer → HasCheckCauses call answer
check_causes_of call answer unique answered =
    causes_by call answer answered.right unique answered.report answered.is_report answered.is_put
    (cause answered.report answer call.old call.new answered.is_put)

-- and all causes
pub causes_of : (call : Call) (answer : Status) → AreUnique → IsAnswered call answer → HasCauses call answer
causes_of call answer unique (inl answered) =
    let caused = cause answered.report answer call.old call.new answered.is_put in record {
      usage_only = λ came.
          usage_only call answer answered.right answered.report answered.is_report came
          (whole_put call answer answered.right answered.report status.Usage caused came (λ is. absurd cc));
      usage =
          λ none. but call answer answered.right answered.report status.Usage caused (usage call answer answered.right answered.report answered.is_report none);
      unwritten_only = unwritten_only call answer answered.right answered.report caused;
      check = λ names is_check. check_causes_of call answer unique answered;
      run = λ it mover is_run chosen. plain_run_causes call answer it mover is_run chosen answered caused;
    }
causes_of call answer unique (inr ran) =
    let caused = run_cause ran.report answer call.old call.new ran.is_put in record {
      usage_only = λ came. absurd (run_usage call answer ran caused came);
      usage = λ none. absurd (no_run call.words call.movers ran.it ran.mover ran.is_run ran.chosen none.1);
      unwritten_only = run_unwritten call answer ran caused;
      check = λ names is_check. absurd (no_both_commands call.words names ran.it is_check ran.is_run);
      run = λ it mover is_run chosen.
          subst (λ (it' : Asked). HasRunCauses call it' answer) (same_asked it ran.it is_run ran.is_run)
          (run_causes_of call answer unique ran caused);
    }

-- if the words are no command, nothing is read
pub nothing_read : {F : Type 0} (leads : F → Read → F → Type 0) (first last : F) (call : Call) (answer : Status)
    → Leads leads first call.reads last → IsAnswered call answer → IsNoCommand call.words call.movers → last ≡ first
nothing_read leads first last call answer led (inl answered) none = go answered.asked where
  go : AreAsked call.words call.reads → last ≡ first
  go (inl nothing) = subst (λ (reads : List Read). Leads leads first reads last) nothing led
  go (inr asked) = absurd (no_check call.words asked.0 none.0 asked.1)
nothing_read leads first last call answer led (inr ran) none =
    absurd (no_run call.words call.movers ran.it ran.mover ran.is_run ran.chosen none.1)
