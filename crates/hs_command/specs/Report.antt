-- What a call of the program may answer, and what each answer means. Own to this project.
-- The text of each report and its status are in `hs_report/specs/Texts.antt`.
--     IsNoProgram ..              what the report of files that come to no program says of them
--     IsReport ..                 what the report of a check, or of words that ask for nothing, says is so, of what the reads gave
--     IsRefusedReport ..          the report of files that come to no program
--     Call                        what a call is about, with the reads that it made
--     IsCheckAnswer call answer   what a call did: the files that it read, and a report that is right, put whole or cut by a
--                                 write fault
-- What the report of a run says is in `Runs.antt`, with the answers of all calls.
-- The causes of each status, and the headline, are in `Causes.antt`.
use Rattle.std.specs.Prelude.{◌≡◌, ◌⊎◌, ℕ, ◌<◌, List, [], map, Option, Some, None, Result, Ok, Err, IfSome, IsSomeAnd, slice_get}
use Rattle.hs_base.specs.Files.{Listing, Counts, Read}
use Rattle.hs_base.specs.Reads.{AreRight}
use Rattle.hs_base.specs.Sink.{IsPut}
use Rattle.hs_base.specs.declared.errors.Failed.{Failed}
use Rattle.hs_base.specs.declared.limit.Limit.{Limit}
use Rattle.hs_base.specs.declared.pos.Pos.{Pos}
use Rattle.hs_tree.specs.declared.straight.tree.Straight.{Straight}
use Rattle.hs_meaning.specs.Straight.StaleUses.{HasStaleUses}
use Rattle.hs_directives.specs.Reads.{AreFirstReads, IsReadAs, IsRefusedAs}
use Rattle.hs_directives.specs.declared.error.ReadError.{ReadError}
use Rattle.hs_directives.specs.declared.error.ReadError.TheVariants as reading
use Rattle.hs_directives.specs.declared.source.Source.{Source}
use Rattle.hs_words.specs.Words.{IsCheck}
use Rattle.hs_table.specs.Tables.{built_in_table}
use Rattle.hs_table.specs.declared.routine.Routine.{Routine}
use Rattle.hs_tree.specs.Trees.{TypedProgram}
use Rattle.hs_typer.specs.declared.type_error.TypeError.{TypeError}
use Rattle.hs_typing.specs.declared.program.ProgramError.{ProgramError}
use Rattle.hs_typing.specs.declared.program.ProgramError.TheVariants as program
use Rattle.hs_source.specs.Source.{AreTyped, HaveProgram, HasSyntaxAt, IsLimitOf, IsSource}
use Rattle.hs_source.specs.declared.source.SourceError.{SourceError}
use Rattle.hs_checker.specs.Source.{IsTheProgram, SpellsNone}
use Rattle.hs_command.specs.Movers.{Telling}
use Rattle.hs_command.specs.Words.{IsNoCommand}
use Rattle.hs_command.specs.Names.{Names}
use Rattle.hs_report.specs.Faults.{placed_by, typed_by}
use Rattle.hs_report.specs.Texts.{text_of, status_of}
use Rattle.hs_report.specs.declared.fault.Fault.{Fault}
use Rattle.hs_report.specs.declared.fault.Fault.TheVariants.{Syntax}
use Rattle.hs_report.specs.declared.report.Refusal.{Refusal}
use Rattle.hs_report.specs.declared.report.Report.{Report}
use Rattle.hs_report.specs.declared.report.Report.TheVariants.{Accepted, Hazards, Refused, NoMain, Unbuilt, Usage, Missing, Unread, Limited, NoMemory}
use Rattle.hs_report.specs.declared.status.Status.{Status}
use Rattle.hs_report.specs.declared.status.Status.TheVariants as status

-- What follows speaks of the bytes that the reads of a call gave: `IsReadAs` and `IsRefusedAs` say what these come to.

-- the named files are a typed program and one straight program, which has n stale uses
abbrev pub HasProgramOf : ℕ → List Read → List (List ℕ) → Type 0
HasProgramOf n reads names =
    (source : Source) × IsReadAs reads names source × HaveProgram built_in_table source.units
    × ((tree : Straight) × IsTheProgram source tree × HasStaleUses tree n)

-- the named files are a typed program, and no straight one
abbrev pub AreUnbuilt : List Read → List (List ℕ) → Type 0
AreUnbuilt reads names = (source : Source) × IsReadAs reads names source × HaveProgram built_in_table source.units × SpellsNone source

-- the named files are read, and of the first unit that is not in the grammar this is the place
abbrev pub HaveSyntaxAt : List Read → List (List ℕ) → Pos → Type 0
HaveSyntaxAt reads names pos = (source : Source) × IsReadAs reads names source × HasSyntaxAt source.units pos

-- the named files are read, their units are of the grammar, and typing them with that table comes to this
abbrev pub ComeTo : List Routine → Result TypedProgram ProgramError → List Read → List (List ℕ) → Type 0
ComeTo table outcome reads names = (source : Source) × IsReadAs reads names source × AreTyped table source.units outcome

-- the named files are read, and their units pass this limit
abbrev pub ArePast : List Routine → Limit → List Read → List (List ℕ) → Type 0
ArePast table limit reads names = (source : Source) × IsReadAs reads names source × IsLimitOf table source.units limit

-- the names of the files that were read, in their order
abbrev pub names_of : List Read → List (List ℕ)
names_of reads = map (λ read. read.name) reads

-- The files are read, and a unit is not in the grammar. The name is that of the file whose number the place has: its place, from
-- 0, among the reads of the call.
abbrev pub IsSyntaxOf : List Read → List (List ℕ) → Refusal → Type 0
IsSyntaxOf reads names refusal =
    (refusal.fault ≡ Syntax) × (refusal.name ≡ None) × HaveSyntaxAt reads names refusal.pos
    × (slice_get (names_of reads) refusal.pos.file ≡ Some refusal.file)

-- reading refuses with this fault at this place, in the file that has the place's number
abbrev pub IsRefusalOf : List Read → List (List ℕ) → Refusal → Type 0
IsRefusalOf reads names refusal =
    (error : ReadError) × (placed_by error ≡ Some (refusal.fault, refusal.pos)) × (refusal.name ≡ None) × IsRefusedAs reads names error
    × (slice_get (names_of reads) refusal.pos.file ≡ Some refusal.file)

-- typing refuses the units with this fault at this place, in the file that has the place's number, and tells this name
abbrev pub IsTypingOf : List Routine → List Read → List (List ℕ) → Refusal → Type 0
IsTypingOf table reads names refusal =
    (why : TypeError) × (typed_by why ≡ Some (refusal.fault, refusal.pos, refusal.name)) × ComeTo table (Err (program.Refused why)) reads names
    × (slice_get (names_of reads) refusal.pos.file ≡ Some refusal.file)

-- what a report says of named files that come to no program with that table
abbrev pub IsNoProgram : List Routine → List Read → List (List ℕ) → Report → Type 0
-- reading refuses them, at a place; or a unit is not in the grammar; or typing refuses the units
IsNoProgram table reads names (Refused refusal) =
    IsRefusalOf reads names refusal ⊎ IsSyntaxOf reads names refusal ⊎ IsTypingOf table reads names refusal
-- they are typed, and no unit defines a usable `main`
IsNoProgram table reads names NoMain = ComeTo table (Err program.NoMain) reads names
-- the file that is asked for last is missing
IsNoProgram table reads names (Missing name) = IsRefusedAs reads names (reading.Missing name)
-- the read of the file that is asked for last failed
IsNoProgram table reads names (Unread name) = IsRefusedAs reads names (reading.ReadFault name)
-- a quantity passed its limit: in reading, or the nesting of a unit, or the bytes of objects
IsNoProgram table reads names (Limited limit) = IsRefusedAs reads names (reading.Limit limit) ⊎ ArePast table limit reads names
-- memory ran out: the one answer that may always come
IsNoProgram table reads names NoMemory = Unit {0}
-- no answers on files that come to no program
IsNoProgram table reads names Accepted = ⊥
IsNoProgram table reads names (Hazards count) = ⊥
IsNoProgram table reads names Unbuilt = ⊥
IsNoProgram table reads names Usage = ⊥

-- what the report of a check says of the named files
abbrev pub IsVerdict : List Read → List (List ℕ) → Report → Type 0
-- they are one straight program, which has no stale use
IsVerdict reads names Accepted = HasProgramOf 0 reads names
-- they are one, which has so many stale uses
IsVerdict reads names (Hazards count) = (0 < count) × HasProgramOf count reads names
-- they are a typed program, and no straight one
IsVerdict reads names Unbuilt = AreUnbuilt reads names
-- they come to no program with the built-in table
IsVerdict reads names (Refused refusal) = IsNoProgram built_in_table reads names (Refused refusal)
IsVerdict reads names NoMain = IsNoProgram built_in_table reads names NoMain
IsVerdict reads names (Missing name) = IsNoProgram built_in_table reads names (Missing name)
IsVerdict reads names (Unread name) = IsNoProgram built_in_table reads names (Unread name)
IsVerdict reads names (Limited limit) = IsNoProgram built_in_table reads names (Limited limit)
IsVerdict reads names NoMemory = Unit {0}
-- no answer on files
IsVerdict reads names Usage = ⊥

-- the report is right: of the words, or of the files that they name
abbrev pub IsReport : List (List ℕ) → List Telling → List Read → Report → Type 0
IsReport words movers reads Usage = IsNoCommand words movers
IsReport words movers reads NoMemory = Unit {0}
IsReport words movers reads report = (names : List (List ℕ)) × IsCheck words names × IsVerdict reads names report

-- the names that were noted are these, if there was memory for them
abbrev pub AreNoted : Names → List Read → Type 0
AreNoted noted reads = IfSome noted (λ names. names ≡ names_of reads)

-- a refusal with this fault at this place, in the file that has the place's number, which tells this name; or that memory ran out
abbrev pub IsFaultAt : Names → Fault → Pos → Option (List ℕ) → Report → Type 0
IsFaultAt noted fault pos name (Refused refusal) =
    (refusal.fault ≡ fault) × (refusal.pos ≡ pos) × (refusal.name ≡ name)
    × IsSomeAnd noted (λ names. slice_get names pos.file ≡ Some refusal.file)
IsFaultAt noted fault pos name report = report ≡ NoMemory

-- the report of a refusal that has no place
abbrev pub unplaced : ReadError → Report
unplaced (reading.Missing name) = Missing name
unplaced (reading.ReadFault name) = Unread name
unplaced (reading.Limit limit) = Limited limit
unplaced _ = NoMemory

-- a refusal of the reader of programs, as a report: what the one says of the files, the other says
abbrev pub IsRefusedReport : Names → SourceError → Report → Type 0
IsRefusedReport noted error report =
    (table : List Routine) (reads : List Read) (names : List (List ℕ)) → AreNoted noted reads → IsSource table reads names (Err error)
    → IsNoProgram table reads names report

-- the report of sources that are a typed program
abbrev pub IsReportOf : Source → Report → Type 0
IsReportOf source report =
    (reads : List Read) (names : List (List ℕ)) → IsReadAs reads names source → HaveProgram built_in_table source.units → IsVerdict reads names report

-- the report of a straight program
abbrev pub IsReportOfTree : Straight → Report → Type 0
IsReportOfTree tree report = (source : Source) → IsTheProgram source tree → IsReportOf source report

-- nothing was read, or the files that the words name and their headers, each once, in the order of its number
abbrev pub AreAsked : List (List ℕ) → List Read → Type 0
AreAsked words reads = (reads ≡ []) ⊎ ((names : List (List ℕ)) × IsCheck words names × AreFirstReads names reads)

-- what is known of a sink, and its count of faults
pub record Written : Type 0 where
  pub bytes : Option (List ℕ)
  pub faults : ℕ

-- the status after a put: one that fails makes it Unwritten
abbrev pub status_after : Status → Result Unit Failed → Status
status_after wanted (Ok _) = wanted
status_after wanted (Err _) = status.Unwritten

-- the answer is this status, unless the write failed or memory ran out
abbrev pub IsBut : Status → Status → Type 0
IsBut wanted answer = (answer ≡ wanted) ⊎ (answer ≡ status.Unwritten) ⊎ (answer ≡ status.NoMemory)

-- a text was put, and its status is the answer; or the put failed, with a front of the text written
pub record IsPutAs (text : List ℕ) (wanted : Status) (before now : Written) (answer : Status) : Type 0 where
  pub put : Result Unit Failed
  pub is_put : IsPut text before.bytes now.bytes before.faults now.faults put
  pub is_status : answer ≡ status_after wanted put

-- the line of the report was put, or the line that memory ran out
abbrev pub IsPutReport : Report → Written → Written → Status → Type 0
IsPutReport report before now answer =
    IsPutAs (text_of report) (status_of report) before now answer ⊎ IsPutAs (text_of NoMemory) status.NoMemory before now answer

-- What a call is about: what the files tell, the words, the movers that were handed in, the reads that were made, the files' counts before the
-- call and after it, and the sink before it and after it.
pub record Call : Type 0 where
  pub told : Option Listing
  pub words : List (List ℕ)
  pub movers : List Telling
  pub reads : List Read
  pub before : Counts
  pub now : Counts
  pub old : Written
  pub new : Written

-- what a call did that runs nothing: it made these reads, whose answers are right, and a report that is right was put
pub record IsCheckAnswer (call : Call) (answer : Status) : Type 0 where
  pub right : AreRight call.told call.before call.now call.reads
  pub asked : AreAsked call.words call.reads
  pub report : Report
  pub is_report : IsReport call.words call.movers call.reads report
  pub is_put : IsPutAs (text_of report) (status_of report) call.old call.new answer
