-- A report that is right, and what was put of it.
use Rattle.std.proofs.Common.{◌≡◌, ℕ, List, [], Option, Some, None, Err, refl, sym, ◌∙◌, inl, inr}
use Rattle.std.specs.Prelude.{codes}
use Rattle.hs_base.specs.Files.{Listing, Counts, Read}
use Rattle.hs_base.specs.Reads.{Makes, MadeReads, AreRight}
use Rattle.hs_directives.specs.Reads.{AreFirstReads}
use Rattle.hs_words.specs.Words.{Asked, IsCheck, IsCommand, IsNoCheck, IsRun}
use Rattle.hs_words.specs.declared.command.WordsError.{WordsError}
use Rattle.hs_words.specs.declared.command.WordsError.TheVariants as ends
use Rattle.hs_command.specs.Movers.{Telling, first_of}
use Rattle.hs_report.specs.Texts.{text_of}
use Rattle.hs_command.specs.Report.{Call, Written, IsCheckAnswer, IsVerdict, IsReport, IsPutAs, IsPutReport}
use Rattle.hs_command.specs.Runs.{IsAnswered, IsPutRun, IsRunAnswer, IsRunVerdict}
use Rattle.hs_report.specs.declared.report.Report.{Report}
use Rattle.hs_report.specs.declared.report.Report.TheVariants.{Accepted, Hazards, Refused, NoMain, Unbuilt, Usage, Missing, Unread, Limited, NoMemory}
use Rattle.hs_report.specs.declared.run_report.RunReport.{RunReport}
use Rattle.hs_report.specs.declared.run_report.RunReport.TheVariants.{Plain}
use Rattle.hs_report.specs.declared.status.Status.{Status}
use Rattle.hs_report.specs.declared.status.Status.TheVariants as status
use Rattle.hs_command.proofs.RightReads.{right_of}

-- what is right of the named files is right of the words
report_of : (words names : List (List ℕ)) (movers : List Telling) (reads : List Read) (report : Report)
    → IsCheck words names → IsVerdict reads names report → IsReport words movers reads report
report_of words names movers reads Accepted is_check is = (names, is_check, is)
report_of words names movers reads (Hazards count) is_check is = (names, is_check, is)
report_of words names movers reads (Refused refusal) is_check is = (names, is_check, is)
report_of words names movers reads NoMain is_check is = (names, is_check, is)
report_of words names movers reads Unbuilt is_check is = (names, is_check, is)
report_of words names movers reads Usage is_check is = absurd is
report_of words names movers reads (Missing name) is_check is = (names, is_check, is)
report_of words names movers reads (Unread name) is_check is = (names, is_check, is)
report_of words names movers reads (Limited limit) is_check is = (names, is_check, is)
report_of words names movers reads NoMemory is_check is = tt

-- the files were judged, and the line was put, or the line that memory ran out
answered_by : (call : Call) (answer : Status) (names : List (List ℕ)) (report : Report) → AreRight call.told call.before call.now call.reads
    → IsCheck call.words names → AreFirstReads names call.reads → IsVerdict call.reads names report
    → IsPutReport report call.old call.new answer → IsCheckAnswer call answer
answered_by call answer names report right is_check first judged (inl put) = record {
  right = right;
  asked = inr (names, is_check, first);
  report = report;
  is_report = report_of call.words names call.movers call.reads report is_check judged;
  is_put = put;
}
answered_by call answer names report right is_check first judged (inr put) = record {
  right = right;
  asked = inr (names, is_check, first);
  report = NoMemory;
  is_report = tt;
  is_put = put;
}

-- that memory ran out is right of every run
no_memory : (mover : Telling) (it : Asked) (reads : List Read) (report : RunReport) → IsRunVerdict mover it reads report
    → IsRunVerdict mover it reads (Plain NoMemory)
no_memory mover it reads report (inl (error, is, says)) = inl (error, is, inr refl)
no_memory mover it reads report (inr has) = inr (record {
  front = has.front;
  rest = has.rest;
  settings = has.settings;
  all = has.all;
  is_given = has.is_given;
  follows = (has.follows.0, inl tt);
})

-- a program was run, and the text was put, or the line that memory ran out
ran_by : (call : Call) (answer : Status) (it : Asked) (mover : Telling) (report : RunReport)
    → AreRight call.told call.before call.now call.reads → IsRun call.words it → first_of it.mover call.movers ≡ Some mover
    → IsRunVerdict mover it call.reads report → IsPutRun report call.old call.new answer → IsRunAnswer call answer
ran_by call answer it mover report right is_run chosen is (inl put) = record {
  right = right;
  it = it;
  is_run = is_run;
  mover = mover;
  chosen = chosen;
  report = report;
  is_report = is;
  is_put = put;
}
ran_by call answer it mover report right is_run chosen is (inr put) = record {
  right = right;
  it = it;
  is_run = is_run;
  mover = mover;
  chosen = chosen;
  report = Plain NoMemory;
  is_report = no_memory mover it call.reads report is;
  is_put = put;
}

-- the words of a run are not those of a check
no_check_of_run : (words : List (List ℕ)) (it : Asked) → IsRun words it → IsNoCheck words
no_check_of_run words it is_run = inl (λ check. differ (sym check ∙ is_run.command)) where
  differ : ◌≡◌ {A = Option (List ℕ)} (Some (codes "check")) (Some (codes "run")) → ⊥
  differ same = absurd cc

-- what a call is about that is not known yet: its reads
abbrev pub call_of : {F : Type 0} → (F → Option Listing) → (F → Counts) → F → F → List (List ℕ) → List Telling → Written → Written → List Read → Call
call_of listing counts first last words movers old new reads = record {
  told = listing first;
  words = words;
  movers = movers;
  reads = reads;
  before = counts first;
  now = counts last;
  old = old;
  new = new;
}

module _ {F : Type 0} (leads : F → Read → F → Type 0) (listing : F → Option Listing) (counts : F → Counts) (first : F)
    (words : List (List ℕ)) (movers : List Telling) (old new : Written) (answer : Status) where
  -- the words ask for nothing, and the line that says so was put
  pub nothing_asked : (error : WordsError)
      → IsCommand words (Err error) → (error ≡ ends.Usage → IsPutAs (text_of Usage) status.Usage old new answer)
      → (error ≡ ends.NoMemory → IsPutAs (text_of NoMemory) status.NoMemory old new answer)
      → MadeReads (Makes leads listing counts) first first (λ reads. IsAnswered (call_of listing counts first first words movers old new reads) answer)
  nothing_asked ends.Usage is_none usage memory = (
    [],
    refl,
    inl (record { right = refl; asked = inl refl; report = Usage; is_report = (is_none.0, inl is_none.1); is_put = usage refl }),
  )
  nothing_asked ends.NoMemory is_none usage memory =
      ([], refl, inl (record { right = refl; asked = inl refl; report = NoMemory; is_report = tt; is_put = memory refl }))

  -- they ask for a run with a mover that was not handed in
  pub no_mover : (it : Asked) → IsRun words it → first_of it.mover movers ≡ None → IsPutAs (text_of Usage) status.Usage old new answer
      → MadeReads (Makes leads listing counts) first first (λ reads. IsAnswered (call_of listing counts first first words movers old new reads) answer)
  no_mover it is_run none put = (
    [],
    refl,
    inl (record {
      right = refl;
      asked = inl refl;
      report = Usage;
      is_report = (no_check_of_run words it is_run, inr (it, is_run, none));
      is_put = put;
    }),
  )

  -- a check that was asked for and judged
  pub checked : (last : F) (names : List (List ℕ)) (report : Report) → IsCheck words names
      → MadeReads (Makes leads listing counts) first last (λ reads. AreFirstReads names reads × IsVerdict reads names report)
      → IsPutReport report old new answer
      → MadeReads (Makes leads listing counts) first last (λ reads. IsAnswered (call_of listing counts first last words movers old new reads) answer)
  checked last names report is_check judged put = (
    judged.0,
    judged.1,
    inl (answered_by (call_of listing counts first last words movers old new judged.0) answer names report
        (right_of leads listing counts first last judged.0 judged.1) is_check judged.2.0 judged.2.1 put),
  )

  -- a run that was asked for and made
  pub ran : (last : F) (it : Asked) (mover : Telling) (report : RunReport) → IsRun words it → first_of it.mover movers ≡ Some mover
      → MadeReads (Makes leads listing counts) first last (λ reads. IsRunVerdict mover it reads report) → IsPutRun report old new answer
      → MadeReads (Makes leads listing counts) first last (λ reads. IsAnswered (call_of listing counts first last words movers old new reads) answer)
  ran last it mover report is_run chosen made put = (
    made.0,
    made.1,
    inr (ran_by (call_of listing counts first last words movers old new made.0) answer it mover report
        (right_of leads listing counts first last made.0 made.1) is_run chosen made.2 put),
  )
