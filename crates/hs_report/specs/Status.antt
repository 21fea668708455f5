-- The status that the process ends with. Own to this project.
use Rattle.std.specs.Prelude.{ℕ}
use Rattle.hs_report.specs.declared.status.Status.{Status}
use Rattle.hs_report.specs.declared.status.Status.TheVariants.{Done, Hazards, Refused, Usage, Unread, Unwritten, NoMemory, Limited, Unrepairable, Disagree, RanStale, RanStopped, RanOut}

-- the place of the status, from 0
abbrev pub code_of : Status → ℕ
code_of Done = 0
code_of Hazards = 1
code_of Refused = 2
code_of Usage = 3
code_of Unread = 4
code_of Unwritten = 5
code_of NoMemory = 6
code_of Limited = 7
code_of Unrepairable = 8
code_of Disagree = 9
code_of RanStale = 10
code_of RanStopped = 11
code_of RanOut = 12
