-- What a source is refused for: the number and the word of each fault, and where reading found it. Own to this project.
--     number_of fault, word_of fault      how a line names it
--     placed_by error                     the fault of a refusal of reading, and its place, if the refusal has one
--     typed_by error                      the fault of a refusal of typing, its place, and the name that is reported
use Rattle.std.specs.Prelude.{ℕ, List, codes, Option, Some, None}
use Rattle.hs_base.specs.declared.pos.Pos.{Pos}
use Rattle.hs_directives.specs.declared.error.ReadError.{ReadError}
use Rattle.hs_directives.specs.declared.error.ReadError.TheVariants as reading
use Rattle.hs_directives.specs.declared.error.ScanKind.TheVariants as scanning
use Rattle.hs_directives.specs.declared.error.MacroKind.TheVariants as macro
use Rattle.hs_typer.specs.declared.type_error.TypeError.{TypeError}
use Rattle.hs_typer.specs.declared.type_error.TypeError.TheVariants as typing
use Rattle.hs_report.specs.declared.fault.Fault.{Fault}
use Rattle.hs_report.specs.declared.fault.Fault.TheVariants.{BadByte, OpenComment, OpenString, BadMacro, ArgCount, BadDirective, OpenIf, IncludeDepth, BadCondition, Syntax, Untyped, Undeclared, UnknownRoutine, Clash}

-- its number
abbrev pub number_of : Fault → ℕ
number_of BadByte = 1
number_of OpenComment = 2
number_of OpenString = 3
number_of BadMacro = 4
number_of ArgCount = 5
number_of BadDirective = 6
number_of OpenIf = 7
number_of IncludeDepth = 8
number_of BadCondition = 9
number_of Syntax = 10
number_of Untyped = 11
number_of Undeclared = 12
number_of UnknownRoutine = 13
number_of Clash = 15

-- its word
abbrev pub word_of : Fault → List ℕ
word_of BadByte = codes "BadByte"
word_of OpenComment = codes "OpenComment"
word_of OpenString = codes "OpenString"
word_of BadMacro = codes "BadMacro"
word_of ArgCount = codes "ArgCount"
word_of BadDirective = codes "BadDirective"
word_of OpenIf = codes "OpenIf"
word_of IncludeDepth = codes "IncludeDepth"
word_of BadCondition = codes "BadCondition"
word_of Syntax = codes "Syntax"
word_of Untyped = codes "Untyped"
word_of Undeclared = codes "Undeclared"
word_of UnknownRoutine = codes "UnknownRoutine"
word_of Clash = codes "Clash"

-- the fault that a refusal of reading is, and its place
abbrev pub placed_by : ReadError → Option (Fault × Pos)
placed_by (reading.Scan scanning.BadByte pos) = Some (BadByte, pos)
placed_by (reading.Scan scanning.OpenComment pos) = Some (OpenComment, pos)
placed_by (reading.Scan scanning.OpenString pos) = Some (OpenString, pos)
placed_by (reading.Macro macro.BadMacro pos) = Some (BadMacro, pos)
placed_by (reading.Macro macro.ArgCount pos) = Some (ArgCount, pos)
placed_by (reading.BadDirective pos) = Some (BadDirective, pos)
placed_by (reading.OpenIf pos) = Some (OpenIf, pos)
placed_by (reading.IncludeDepth pos) = Some (IncludeDepth, pos)
placed_by (reading.BadCondition pos) = Some (BadCondition, pos)
placed_by (reading.Missing name) = None
placed_by (reading.ReadFault name) = None
placed_by (reading.Limit limit) = None
placed_by reading.NoMemory = None

-- the fault that a refusal of typing is, its place, and the name that its line tells, if it tells one
abbrev pub typed_by : TypeError → Option (Fault × Pos × Option (List ℕ))
typed_by (typing.Untyped at) = Some (Untyped, at.pos, None)
typed_by (typing.Undeclared at name) = Some (Undeclared, at.pos, Some name)
typed_by (typing.UnknownRoutine at name) = Some (UnknownRoutine, at.pos, Some name)
typed_by (typing.Clash at name) = Some (Clash, at.pos, Some name)
typed_by typing.NoMemory = None
