-- The causes of each status, from the report that was put: what is so where it came, and where it must come.
use Rattle.std.proofs.Common.{◌≡◌, ◌⊎◌, ℕ, List, sym, subst, ap, ◌∙◌, inl, inr, refl, Result, Ok, Err}
use Rattle.hs_base.specs.Count.{HasRisen}
use Rattle.hs_base.specs.Reads.{AreRight}
use Rattle.hs_base.specs.Sink.{IsPut}
use Rattle.hs_base.specs.declared.errors.Failed.{Failed}
use Rattle.hs_base.specs.declared.limit.Limit.{Limit}
use Rattle.hs_tree.specs.declared.straight.tree.Straight.{Straight}
use Rattle.hs_meaning.specs.Straight.Run.{IsSafe}
use Rattle.hs_meaning.specs.Straight.StaleUses.{HasStaleUses}
use Rattle.hs_directives.specs.declared.error.ReadError.{ReadError}
use Rattle.hs_directives.specs.declared.error.ReadError.TheVariants as reading
use Rattle.hs_directives.specs.declared.source.Source.{Source}
use Rattle.hs_words.specs.Words.{IsCheck, IsNoCheck}
use Rattle.hs_typing.specs.declared.program.ProgramError.TheVariants as program
use Rattle.hs_source.specs.Laws.{are_parsed}
use Rattle.hs_source.specs.Source.{IsLimitOf}
use Rattle.hs_table.specs.Tables.{built_in_table}
use Rattle.hs_command.specs.Causes.{AreSafe, Spells, Checks, AreFaulty, HaveSyntax, AreUntyped, HaveNoMain, AreLimited, AreUnread, HasCheckCauses, IsRejected}
use Rattle.hs_report.specs.Texts.{text_of, status_of}
use Rattle.hs_command.specs.Report.{IsBut, AreUnbuilt, IsReport, Written, IsPutAs, Call, status_after}
use Rattle.hs_command.specs.Words.{IsNoCommand}
use Rattle.hs_report.specs.declared.report.Report.{Report}
use Rattle.hs_report.specs.declared.report.Report.TheVariants.{Accepted, Hazards, Refused, NoMain, Unbuilt, Usage, Missing, Unread, Limited, NoMemory}
use Rattle.hs_report.specs.declared.status.Status.{Status}
use Rattle.hs_report.specs.declared.status.Status.TheVariants as status
use Rattle.hs_command.proofs.Outcomes.{Comes, unread, syntax, deep, untyped, unbuilt, counted, status_by, Agrees, agrees, one_status, hazards_status, faulty_status, typed_status}
use Rattle.hs_command.proofs.RightReads.{miss_rose, fault_rose, fault_rose_last}
use Rattle.hs_command.proofs.Units.{AreUnique}

-- an answer is Unwritten and a fault was counted, or it is the report's status
pub data IsCause (report : Report) (answer : Status) (old new : Written) : Type 0 where
  cut : answer ≡ status.Unwritten → HasRisen old.faults new.faults → IsCause report answer old new
  whole : answer ≡ status_of report → IsCause report answer old new

pub cause : (report : Report) (answer : Status) (old new : Written) → IsPutAs (text_of report) (status_of report) old new answer → IsCause report answer old new
cause report answer old new done = go done.put done.is_put done.is_status
  where
    go : (put : Result Unit Failed) → IsPut (text_of report) old.bytes new.bytes old.faults new.faults put
        → answer ≡ status_after (status_of report) put → IsCause report answer old new
    go (Ok unit) is_put is_status = whole is_status
    go (Err failed) is_put is_status = cut is_status is_put.2

-- words that are no command ask for nothing
pub no_check : (words names : List (List ℕ)) → IsNoCheck words → IsCheck words names → ⊥
no_check words names (inl other) is_check = other is_check.command
no_check words names (inr refused) is_check = refused is_check.taken

module _ (call : Call) (answer : Status) (right : AreRight call.told call.before call.now call.reads) where
  -- ---- what is so where a status came

  -- the status is that of the report, or the put was cut
  pub but : (report : Report) (wanted : Status) → IsCause report answer call.old call.new → (answer ≡ status_of report → IsBut wanted answer)
      → IsBut wanted answer
  but report wanted (cut unwritten fault) follows = inr (inl unwritten)
  but report wanted (whole is_status) follows = follows is_status

  -- accepted files are a safe program
  pub headline_by : (report : Report) → ((tree : Straight) → HasStaleUses tree 0 → IsSafe tree)
      → IsReport call.words call.movers call.reads report → answer ≡ status_of report → answer ≡ status.Done → Checks call (AreSafe call.reads)
  headline_by Accepted safe (names, is_check, (source, read, have, (tree, program, holds))) is_status done =
      (names, is_check, (source, read, are_parsed source.units have.1.0 have.1.1, (tree, program, safe tree holds)))
  headline_by (Hazards count) safe is_report is_status done = absurd (cc)
  headline_by (Refused refusal) safe is_report is_status done = absurd (cc)
  headline_by NoMain safe is_report is_status done = absurd (cc)
  headline_by Unbuilt safe is_report is_status done = absurd (cc)
  headline_by Usage safe is_report is_status done = absurd (cc)
  headline_by (Missing name) safe is_report is_status done = absurd (cc)
  headline_by (Unread name) safe is_report is_status done = absurd (cc)
  headline_by (Limited limit) safe is_report is_status done = absurd (cc)
  headline_by NoMemory safe is_report is_status done = absurd (cc)

  -- ---- where a status must come

  -- if the outcome comes to this, the answer is its status
  must : (unique : AreUnique) (outcome : Result Source ReadError) (report : Report) (it : Comes built_in_table Spells outcome) → Agrees report outcome
      → IsCause report answer call.old call.new → IsBut (status_by it) answer
  must unique outcome report it (inl none) caused = but report (status_by it) caused (λ is_status. inr (inr (is_status ∙ ap status_of none)))
  must unique outcome report it (inr said) caused =
      but report (status_by it) caused (λ is_status. inl (is_status ∙ said.1 ∙ one_status unique built_in_table outcome said.0 it))

  -- ---- what is so where a status came

  hazards_only : (report : Report) → IsReport call.words call.movers call.reads report
      → IsPutAs (text_of report) (status_of report) call.old call.new answer
      → answer ≡ status.Hazards → answer ≡ status_of report → Checks call (IsRejected call)
  hazards_only (Hazards count) (names, is_check, (some, program)) put came is_status =
      (names, is_check, (count, some, program, subst (IsPutAs (text_of (Hazards count)) status.Hazards call.old call.new) came put))
  hazards_only Accepted is_report put came is_status = absurd (cc)
  hazards_only (Refused refusal) is_report put came is_status = absurd (cc)
  hazards_only NoMain is_report put came is_status = absurd (cc)
  hazards_only Unbuilt is_report put came is_status = absurd (cc)
  hazards_only Usage is_report put came is_status = absurd (cc)
  hazards_only (Missing name) is_report put came is_status = absurd (cc)
  hazards_only (Unread name) is_report put came is_status = absurd (cc)
  hazards_only (Limited limit) is_report put came is_status = absurd (cc)
  hazards_only NoMemory is_report put came is_status = absurd (cc)

  refused_only : (report : Report) → IsReport call.words call.movers call.reads report
      → answer ≡ status.Refused → answer ≡ status_of report
      → Checks call (λ names. AreFaulty call names ⊎ HaveSyntax call names ⊎ AreUntyped call names ⊎ HaveNoMain call names ⊎ AreUnbuilt call.reads names)
  refused_only (Refused refusal) (names, is_check, inl (error, placed, name, refused, named)) came is_status =
      (names, is_check, inl (error, ((refusal.fault, refusal.pos), placed), refused))
  refused_only (Refused refusal) (names, is_check, inr (inl (fault, name, have, named))) came is_status =
      (names, is_check, inr (inl (refusal.pos, have)))
  refused_only (Refused refusal) (names, is_check, inr (inr (why, placed, come, named))) came is_status =
      (names, is_check, inr (inr (inl (why, ((refusal.fault, refusal.pos, refusal.name), placed), come))))
  refused_only NoMain (names, is_check, come) came is_status = (names, is_check, inr (inr (inr (inl come))))
  refused_only Unbuilt (names, is_check, none) came is_status = (names, is_check, inr (inr (inr (inr none))))
  refused_only Accepted is_report came is_status = absurd (cc)
  refused_only (Hazards count) is_report came is_status = absurd (cc)
  refused_only Usage is_report came is_status = absurd (cc)
  refused_only (Missing name) is_report came is_status = absurd (cc)
  refused_only (Unread name) is_report came is_status = absurd (cc)
  refused_only (Limited limit) is_report came is_status = absurd (cc)
  refused_only NoMemory is_report came is_status = absurd (cc)

  pub usage_only : (report : Report) → IsReport call.words call.movers call.reads report → answer ≡ status.Usage
      → answer ≡ status_of report → IsNoCommand call.words call.movers
  usage_only Usage is_report came is_status = is_report
  usage_only Accepted is_report came is_status = absurd (cc)
  usage_only (Hazards count) is_report came is_status = absurd (cc)
  usage_only (Refused refusal) is_report came is_status = absurd (cc)
  usage_only NoMain is_report came is_status = absurd (cc)
  usage_only Unbuilt is_report came is_status = absurd (cc)
  usage_only (Missing name) is_report came is_status = absurd (cc)
  usage_only (Unread name) is_report came is_status = absurd (cc)
  usage_only (Limited limit) is_report came is_status = absurd (cc)
  usage_only NoMemory is_report came is_status = absurd (cc)

  -- words that are no command get the usage line
  pub usage : (report : Report) → IsReport call.words call.movers call.reads report → IsNoCommand call.words call.movers
      → answer ≡ status_of report → IsBut status.Usage answer
  usage Usage is_report none is_status = inl is_status
  usage NoMemory is_report none is_status = inr (inr is_status)
  usage Accepted (names, is_check, is) none is_status = absurd (no_check call.words names none.0 is_check)
  usage (Hazards count) (names, is_check, is) none is_status = absurd (no_check call.words names none.0 is_check)
  usage (Refused refusal) (names, is_check, is) none is_status = absurd (no_check call.words names none.0 is_check)
  usage NoMain (names, is_check, is) none is_status = absurd (no_check call.words names none.0 is_check)
  usage Unbuilt (names, is_check, is) none is_status = absurd (no_check call.words names none.0 is_check)
  usage (Missing name) (names, is_check, is) none is_status = absurd (no_check call.words names none.0 is_check)
  usage (Unread name) (names, is_check, is) none is_status = absurd (no_check call.words names none.0 is_check)
  usage (Limited limit) (names, is_check, is) none is_status = absurd (no_check call.words names none.0 is_check)

  unread_only : (report : Report) → IsReport call.words call.movers call.reads report → answer ≡ status.Unread
      → answer ≡ status_of report → Checks call (AreUnread call)
  unread_only (Missing name) (names, is_check, is) came is_status =
      (names, is_check, (name, inl (is, miss_rose call.told call.before call.now call.reads name right is.ends)))
  unread_only (Unread name) (names, is_check, is) came is_status = (
    names,
    is_check,
    (
      name,
      inr (
        is,
        fault_rose_last call.told call.before call.now call.reads name right is.ends,
        fault_rose call.told call.before call.now call.reads name right is.ends,
      ),
    ),
  )
  unread_only Accepted is_report came is_status = absurd (cc)
  unread_only (Hazards count) is_report came is_status = absurd (cc)
  unread_only (Refused refusal) is_report came is_status = absurd (cc)
  unread_only NoMain is_report came is_status = absurd (cc)
  unread_only Unbuilt is_report came is_status = absurd (cc)
  unread_only Usage is_report came is_status = absurd (cc)
  unread_only (Limited limit) is_report came is_status = absurd (cc)
  unread_only NoMemory is_report came is_status = absurd (cc)

  limited_only : (report : Report) → IsReport call.words call.movers call.reads report → answer ≡ status.Limited → answer ≡ status_of report
      → Checks call (AreLimited call)
  limited_only (Limited limit) (names, is_check, is) came is_status = (names, is_check, (limit, is))
  limited_only Accepted is_report came is_status = absurd (cc)
  limited_only (Hazards count) is_report came is_status = absurd (cc)
  limited_only (Refused refusal) is_report came is_status = absurd (cc)
  limited_only NoMain is_report came is_status = absurd (cc)
  limited_only Unbuilt is_report came is_status = absurd (cc)
  limited_only Usage is_report came is_status = absurd (cc)
  limited_only (Missing name) is_report came is_status = absurd (cc)
  limited_only (Unread name) is_report came is_status = absurd (cc)
  limited_only NoMemory is_report came is_status = absurd (cc)

  -- no report has the status of a write that failed
  no_cut : (report : Report) → answer ≡ status.Unwritten → answer ≡ status_of report → ⊥
  no_cut Accepted came is_status = absurd (cc)
  no_cut (Hazards count) came is_status = absurd (cc)
  no_cut (Refused refusal) came is_status = absurd (cc)
  no_cut NoMain came is_status = absurd (cc)
  no_cut Unbuilt came is_status = absurd (cc)
  no_cut Usage came is_status = absurd (cc)
  no_cut (Missing name) came is_status = absurd (cc)
  no_cut (Unread name) came is_status = absurd (cc)
  no_cut (Limited limit) came is_status = absurd (cc)
  no_cut NoMemory came is_status = absurd (cc)

  -- if a status came that is not that of a write that failed, it is the report's
  pub whole_put : (report : Report) (came : Status) → IsCause report answer call.old call.new → answer ≡ came
      → (came ≡ status.Unwritten → ⊥) → answer ≡ status_of report
  whole_put report came (cut unwritten fault) is apart = absurd (apart (sym is ∙ unwritten))
  whole_put report came (whole is_status) is apart = is_status

  pub unwritten_only : (report : Report) → IsCause report answer call.old call.new → answer ≡ status.Unwritten → HasRisen call.old.faults call.new.faults
  unwritten_only report (cut unwritten fault) came = fault
  unwritten_only report (whole is_status) came = absurd (no_cut report came is_status)

  -- a limit of the units
  pub past_by : (unique : AreUnique) (report : Report) (source : Source) (limit : Limit) → Agrees report (Ok source)
      → IsCause report answer call.old call.new → IsLimitOf built_in_table source.units limit → IsBut status.Limited answer
  past_by unique report source limit agreed caused (inl deeply) = must unique (Ok source) report (deep source refl deeply.0) agreed caused
  past_by unique report source limit agreed caused (inr are) =
      must unique (Ok source) report (untyped source (program.Limit limit) refl are) agreed caused

  -- each status has its cause
  pub causes_by : (unique : AreUnique) (report : Report) → IsReport call.words call.movers call.reads report
      → IsPutAs (text_of report) (status_of report) call.old call.new answer
      → IsCause report answer call.old call.new → HasCheckCauses call answer
  causes_by unique report is_report put caused = record {
    accepted = λ source tree asks have spells has.
        must unique (Ok source) report (counted source tree 0 refl have spells has) (agrees call (Ok source) asks right report is_report) caused;
    hazards_only = λ came. hazards_only report is_report put came (whole_put report status.Hazards caused came (λ is. absurd cc));
    hazards = λ source tree count asks have spells has some.
        subst (λ (it : Status). IsBut it answer) (sym (hazards_status count some))
        (must unique (Ok source) report (counted source tree count refl have spells has) (agrees call (Ok source) asks right report is_report) caused);
    refused_only = λ came. refused_only report is_report came (whole_put report status.Refused caused came (λ is. absurd cc));
    refused = λ error place asks placed.
        subst (λ (it : Status). IsBut it answer) (faulty_status error place placed)
        (must unique (Err error) report (unread error refl) (agrees call (Err error) asks right report is_report) caused);
    syntax = λ source pos asks has.
        must unique (Ok source) report (syntax source pos refl has) (agrees call (Ok source) asks right report is_report) caused;
    untyped = λ source why place asks are placed.
        subst (λ (it : Status). IsBut it answer) (sym (typed_status why place placed))
        (must unique (Ok source) report (untyped source (program.Refused why) refl are) (agrees call (Ok source) asks right report is_report) caused);
    no_main = λ source asks are.
        must unique (Ok source) report (untyped source program.NoMain refl are) (agrees call (Ok source) asks right report is_report) caused;
    unbuilt = λ source asks have none.
        must unique (Ok source) report (unbuilt source refl have none) (agrees call (Ok source) asks right report is_report) caused;
    unread_only = λ came. unread_only report is_report came (whole_put report status.Unread caused came (λ is. absurd cc));
    missing = λ name asks.
        must unique (Err (reading.Missing name)) report (unread (reading.Missing name) refl)
        (agrees call (Err (reading.Missing name)) asks right report is_report) caused;
    limited_only = λ came. limited_only report is_report came (whole_put report status.Limited caused came (λ is. absurd cc));
    limited = λ limit asks.
        must unique (Err (reading.Limit limit)) report (unread (reading.Limit limit) refl)
        (agrees call (Err (reading.Limit limit)) asks right report is_report) caused;
    past = λ source limit asks is. past_by unique report source limit (agrees call (Ok source) asks right report is_report) caused is;
  }
