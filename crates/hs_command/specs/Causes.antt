-- The causes of each status of the program, and the headline. Own to this project.
-- What is said of files is said of the bytes that the reads of the call gave, and `Asks` of those of a listing that is known.
--     Asks call outcome           the words ask for files that are known, and reading gives this outcome
--     Headline call answer        an accepted program is safe
--     HasCheckCauses call answer  when each status of a check comes, and when it must come
--     HasCauses call answer       the same of all words
use Rattle.std.specs.Prelude.{◌≡◌, ◌⊎◌, ℕ, ◌<◌, List, [], ◌∷◌, Option, Some, Result, Ok, Err}
use Rattle.hs_base.specs.Count.{HasRisen, IsSteady}
use Rattle.hs_base.specs.Files.{Listing, Read}
use Rattle.hs_base.specs.Reads.{OnLast}
use Rattle.hs_base.specs.declared.limit.Limit.{Limit}
use Rattle.hs_base.specs.declared.pos.Pos.{Pos}
use Rattle.hs_tokens.specs.declared.token.SourceToken.{SourceToken}
use Rattle.hs_tree.specs.declared.straight.tree.Straight.{Straight}
use Rattle.hs_meaning.specs.Straight.Run.{IsSafe}
use Rattle.hs_meaning.specs.Straight.StaleUses.{HasStaleUses}
use Rattle.hs_directives.specs.Preprocessing.{preprocessed}
use Rattle.hs_directives.specs.Reads.{IsReadAs, IsRefusedAs}
use Rattle.hs_directives.specs.declared.error.ReadError.{ReadError}
use Rattle.hs_directives.specs.declared.error.ReadError.TheVariants as reading
use Rattle.hs_directives.specs.declared.source.Source.{Source}
use Rattle.hs_words.specs.Words.{Asked, IsCheck, IsRun}
use Rattle.hs_table.specs.Tables.{built_in_table}
use Rattle.hs_checker.specs.Straight.Grammar.{IsStraight}
use Rattle.hs_typer.specs.declared.type_error.TypeError.{TypeError}
use Rattle.hs_typing.specs.declared.program.ProgramError.TheVariants as program
use Rattle.hs_source.specs.Source.{AreParsed, AreTyped, HaveProgram, HasSyntaxAt, IsLimitOf}
use Rattle.hs_checker.specs.Source.{IsTheProgram, SpellsNone}
use Rattle.hs_report.specs.Faults.{placed_by, typed_by}
use Rattle.hs_report.specs.Texts.{text_of}
use Rattle.hs_command.specs.Report.{Call, IsBut, IsPutAs, HasProgramOf, AreUnbuilt, HaveSyntaxAt, ComeTo, ArePast}
use Rattle.hs_command.specs.Movers.{Telling, first_of}
use Rattle.hs_command.specs.RunCauses.{HasRunCauses}
use Rattle.hs_command.specs.Words.{IsNoCommand}
use Rattle.hs_report.specs.declared.fault.Fault.{Fault}
use Rattle.hs_report.specs.declared.report.Report.TheVariants.{Hazards}
use Rattle.hs_report.specs.declared.status.Status.{Status}
use Rattle.hs_report.specs.declared.status.Status.TheVariants as status

-- The words ask for the check of files, the listing is known, reading these files gives this outcome, and no fault rose in the call.
pub record Asks (call : Call) (outcome : Result Source ReadError) : Type 0 where
  pub files : Listing
  pub names : List (List ℕ)
  pub is_told : call.told ≡ Some files
  pub is_check : IsCheck call.words names
  pub is_read : preprocessed files names ≡ outcome
  pub is_steady : IsSteady call.before.faults call.now.faults

-- the sources are one unit whose tokens spell the tree
abbrev pub Spells : Source → Straight → Type 0
Spells source tree = (tokens : List SourceToken) × (source.units ≡ tokens ∷ []) × IsStraight tokens tree

-- the words ask for the check of files, of whose names this holds
abbrev pub Checks : Call → (List (List ℕ) → Type 0) → Type 0
Checks call P = (names : List (List ℕ)) × IsCheck call.words names × P names

-- The named files are one straight program, whose unit is one of the grammar, and it is safe, for every input, number of turns
-- and schedule of moves.
abbrev pub AreSafe : List Read → List (List ℕ) → Type 0
AreSafe reads names =
    (source : Source) × IsReadAs reads names source × AreParsed source.units × ((tree : Straight) × IsTheProgram source tree × IsSafe tree)

-- the headline: if the words ask for a check, accepted files, as the reads of the call gave them, are a straight program and safe
abbrev pub Headline : Call → Status → Type 0
Headline call answer = (names : List (List ℕ)) → IsCheck call.words names → answer ≡ status.Done → AreSafe call.reads names

-- the program has stale uses, and their number was put
abbrev pub IsRejected : Call → List (List ℕ) → Type 0
IsRejected call names =
    (count : ℕ) × (0 < count) × HasProgramOf count call.reads names × IsPutAs (text_of (Hazards count)) status.Hazards call.old call.new status.Hazards

-- reading refuses, at a place
abbrev pub AreFaulty : Call → List (List ℕ) → Type 0
AreFaulty call names =
    (error : ReadError) × ((place : Fault × Pos) × (placed_by error ≡ Some place)) × IsRefusedAs call.reads names error

-- a unit is not in the grammar, at a place
abbrev pub HaveSyntax : Call → List (List ℕ) → Type 0
HaveSyntax call names = (pos : Pos) × HaveSyntaxAt call.reads names pos

-- typing refuses the units, at a place
abbrev pub AreUntyped : Call → List (List ℕ) → Type 0
AreUntyped call names =
    (why : TypeError) × ((place : Fault × Pos × Option (List ℕ)) × (typed_by why ≡ Some place))
    × ComeTo built_in_table (Err (program.Refused why)) call.reads names

-- no unit defines a usable `main`
abbrev pub HaveNoMain : Call → List (List ℕ) → Type 0
HaveNoMain call names = ComeTo built_in_table (Err program.NoMain) call.reads names

-- the file that is asked for last is missing: a miss was counted
abbrev pub IsMissing : Call → List (List ℕ) → List ℕ → Type 0
IsMissing call names name = IsRefusedAs call.reads names (reading.Missing name) × HasRisen call.before.misses call.now.misses

-- the read of the file that is asked for last failed: a fault was counted, by this very read
abbrev pub IsUnread : Call → List (List ℕ) → List ℕ → Type 0
IsUnread call names name =
    IsRefusedAs call.reads names (reading.ReadFault name)
    × OnLast call.reads (λ read. (read.name ≡ name) × HasRisen read.before.faults read.now.faults)
    × HasRisen call.before.faults call.now.faults

-- a file that is asked for is missing, or its read failed
abbrev pub AreUnread : Call → List (List ℕ) → Type 0
AreUnread call names = (name : List ℕ) × (IsMissing call names name ⊎ IsUnread call names name)

-- a quantity passed its limit, in reading or in the units
abbrev pub AreLimited : Call → List (List ℕ) → Type 0
AreLimited call names = (limit : Limit) × (IsRefusedAs call.reads names (reading.Limit limit) ⊎ ArePast built_in_table limit call.reads names)

-- The causes of each status of a check. A field with `only` in its name says what is so where the status came; its fellow says where
-- it must come, unless the write failed or memory ran out.
pub record HasCheckCauses (call : Call) (answer : Status) : Type 0 where
  -- Done
  pub accepted : (source : Source) (tree : Straight) → Asks call (Ok source) → HaveProgram built_in_table source.units → Spells source tree
      → HasStaleUses tree 0
      → IsBut status.Done answer
  -- Hazards: a stale use exists, and the number that was put is their count
  pub hazards_only : answer ≡ status.Hazards → Checks call (IsRejected call)
  pub hazards : (source : Source) (tree : Straight) (count : ℕ) → Asks call (Ok source) → HaveProgram built_in_table source.units → Spells source tree
      → HasStaleUses tree count → 0 < count → IsBut status.Hazards answer
  -- Refused: reading refuses at a place, or a unit is not in the grammar, or typing refuses the units, or they have no `main`, or they
  -- are no straight program
  pub refused_only : answer ≡ status.Refused
      → Checks call (λ names. AreFaulty call names ⊎ HaveSyntax call names ⊎ AreUntyped call names ⊎ HaveNoMain call names ⊎ AreUnbuilt call.reads names)
  pub refused : (error : ReadError) (place : Fault × Pos) → Asks call (Err error) → placed_by error ≡ Some place → IsBut status.Refused answer
  pub syntax : (source : Source) (pos : Pos) → Asks call (Ok source) → HasSyntaxAt source.units pos → IsBut status.Refused answer
  pub untyped : (source : Source) (why : TypeError) (place : Fault × Pos × Option (List ℕ)) → Asks call (Ok source)
      → AreTyped built_in_table source.units (Err (program.Refused why)) → typed_by why ≡ Some place → IsBut status.Refused answer
  pub no_main : (source : Source) → Asks call (Ok source) → AreTyped built_in_table source.units (Err program.NoMain) → IsBut status.Refused answer
  pub unbuilt : (source : Source) → Asks call (Ok source) → HaveProgram built_in_table source.units → SpellsNone source → IsBut status.Refused answer
  -- Unread: a file is missing, or its read failed
  pub unread_only : answer ≡ status.Unread → Checks call (AreUnread call)
  pub missing : (name : List ℕ) → Asks call (Err (reading.Missing name)) → IsBut status.Unread answer
  -- Limited: a quantity passed its limit in reading, or a unit nests too deeply, or the objects have too many bytes
  pub limited_only : answer ≡ status.Limited → Checks call (AreLimited call)
  pub limited : (limit : Limit) → Asks call (Err (reading.Limit limit)) → IsBut status.Limited answer
  pub past : (source : Source) (limit : Limit) → Asks call (Ok source) → IsLimitOf built_in_table source.units limit → IsBut status.Limited answer

-- The causes of each status, of all words.
pub record HasCauses (call : Call) (answer : Status) : Type 0 where
  -- Usage: the first word is not a command, or `clap` refuses the words, or a word for a number is not a number, or there is no such mover
  pub usage_only : answer ≡ status.Usage → IsNoCommand call.words call.movers
  pub usage : IsNoCommand call.words call.movers → IsBut status.Usage answer
  -- Unwritten: the sink failed
  pub unwritten_only : answer ≡ status.Unwritten → HasRisen call.old.faults call.new.faults
  -- the other statuses of a check, and those of a run with a mover that was handed in
  pub check : (names : List (List ℕ)) → IsCheck call.words names → HasCheckCauses call answer
  pub run : (it : Asked) (mover : Telling) → IsRun call.words it → first_of it.mover call.movers ≡ Some mover → HasRunCauses call it answer
