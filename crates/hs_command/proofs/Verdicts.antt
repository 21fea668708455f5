-- What the report of files that come to no program says, that of a check says.
use Rattle.std.proofs.Common.{ℕ, List}
use Rattle.hs_base.specs.Files.{Read}
use Rattle.hs_table.specs.Tables.{built_in_table}
use Rattle.hs_command.specs.Report.{IsNoProgram, IsVerdict}
use Rattle.hs_report.specs.declared.report.Report.{Report}
use Rattle.hs_report.specs.declared.report.Report.TheVariants.{Accepted, Hazards, Refused, NoMain, Unbuilt, Usage, Missing, Unread, Limited, NoMemory}

pub no_program_verdict : (reads : List Read) (names : List (List ℕ)) (report : Report) → IsNoProgram built_in_table reads names report
    → IsVerdict reads names report
no_program_verdict reads names Accepted is = absurd is
no_program_verdict reads names (Hazards count) is = absurd is
no_program_verdict reads names (Refused refusal) is = is
no_program_verdict reads names NoMain is = is
no_program_verdict reads names Unbuilt is = absurd is
no_program_verdict reads names Usage is = absurd is
no_program_verdict reads names (Missing name) is = is
no_program_verdict reads names (Unread name) is = is
no_program_verdict reads names (Limited limit) is = is
no_program_verdict reads names NoMemory is = tt
