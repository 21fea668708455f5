-- The text that is put for each report, and its status. Own to this project.
--     text_of report, status_of report        those of a check, and of words that ask for nothing
--     run_text report, run_status report      those of a run
-- What a report says of the files is in `hs_command/specs/Report.antt`, and in `Runs.antt` there.
use Rattle.std.specs.Prelude.{ℕ, List, [], ◌∷◌, ◌++◌, codes, Option, Some, None}
use Rattle.std.specs.Fmt.{decimal}
use Rattle.hs_base.specs.Limit as limits
use Rattle.hs_meaning.specs.declared.outcome.Outcome.{Outcome}
use Rattle.hs_meaning.specs.declared.outcome.Outcome.TheVariants.{Finished, Stopped, TurnsSpent}
use Rattle.hs_meaning.specs.declared.outcome.Stop.{Stop}
use Rattle.hs_meaning.specs.declared.outcome.Stop.TheVariants as stop
use Rattle.hs_report.specs.Faults.{number_of, word_of}
use Rattle.hs_report.specs.declared.report.Refusal.{Refusal}
use Rattle.hs_report.specs.declared.report.Report.{Report}
use Rattle.hs_report.specs.declared.report.Report.TheVariants.{Accepted, Hazards, Refused, NoMain, Unbuilt, Usage, Missing, Unread, Limited, NoMemory}
use Rattle.hs_report.specs.declared.run_report.RunReport.{RunReport}
use Rattle.hs_report.specs.declared.run_report.RunReport.TheVariants.{NotToml, BadVersion, BadEntry, BadScript, BadInput, Plain, Shown}
use Rattle.hs_report.specs.declared.status.Status.{Status}
use Rattle.hs_report.specs.declared.status.Status.TheVariants as status

-- a text and its LF
abbrev pub line : List ℕ → List ℕ
line text = text ++ 10 ∷ []

-- a place, by the name of its file: `FILE:LINE:COLUMN`
abbrev pub place_of : Refusal → List ℕ
place_of refusal = refusal.file ++ 58 ∷ (decimal refusal.pos.line ++ 58 ∷ decimal refusal.pos.col)

-- the fault of a refusal and its place
abbrev pub fault_of : Refusal → List ℕ
fault_of refusal = codes "error " ++ decimal (number_of refusal.fault) ++ 32 ∷ (word_of refusal.fault ++ codes " at " ++ place_of refusal)

-- a space and the name, if a name is reported
abbrev pub name_told : Option (List ℕ) → List ℕ
name_told None = []
name_told (Some name) = 32 ∷ name

-- the line that is put for a report
abbrev pub text_of : Report → List ℕ
text_of Accepted = line (codes "accepted")
text_of (Hazards count) = line (codes "hazards " ++ decimal count)
text_of (Refused refusal) = line (fault_of refusal ++ name_told refusal.name)
text_of NoMain = line (codes "error 14 NoMain")
text_of Unbuilt = line (codes "error 24 Unbuilt")
text_of Usage = line (codes "usage: handlecheck check|repair|run|gen [options] FILE...")
text_of (Missing name) = line (codes "missing " ++ name)
text_of (Unread name) = line (codes "unread " ++ name)
text_of (Limited limit) = line (codes "limit " ++ limits.word_of limit.kind ++ 32 ∷ decimal limit.reached)
text_of NoMemory = line (codes "no memory")

-- the status of a report that was put whole
abbrev pub status_of : Report → Status
status_of Accepted = status.Done
status_of (Hazards count) = status.Hazards
status_of (Refused refusal) = status.Refused
status_of NoMain = status.Refused
status_of Unbuilt = status.Refused
status_of Usage = status.Usage
status_of (Missing name) = status.Unread
status_of (Unread name) = status.Unread
status_of (Limited limit) = status.Limited
status_of NoMemory = status.NoMemory

-- the text that is put for a report
abbrev pub run_text : RunReport → List ℕ
run_text NotToml = line (codes "error 16 NotToml")
run_text BadVersion = line (codes "error 17 BadVersion")
run_text (BadEntry name) = line (codes "error 18 BadEntry " ++ name)
run_text (BadScript number) = line (codes "error 19 BadScript line " ++ decimal number)
run_text (BadInput number) = line (codes "error 23 BadInput line " ++ decimal number)
run_text (Plain report) = text_of report
run_text (Shown ran) = ran.text

-- the status of a stop: a stale pointer and a purged handle have one of their own
abbrev pub status_of_stop : Stop → Status
status_of_stop stop.Stale = status.RanStale
status_of_stop stop.Purged = status.RanStale
status_of_stop _ = status.RanStopped

-- the status of a run by how it ended
abbrev pub status_of_outcome : Outcome → Status
status_of_outcome (Finished number) = status.Done
status_of_outcome (Stopped why at) = status_of_stop why
status_of_outcome TurnsSpent = status.RanOut

-- the status of a report that was put whole
abbrev pub run_status : RunReport → Status
run_status NotToml = status.Refused
run_status BadVersion = status.Refused
run_status (BadEntry name) = status.Refused
run_status (BadScript number) = status.Refused
run_status (BadInput number) = status.Refused
run_status (Plain report) = status_of report
run_status (Shown ran) = status_of_outcome ran.outcome
