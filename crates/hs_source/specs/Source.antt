-- What each answer of `read_program` means. Own to this project.
--     AreParsed units            each unit is one of the grammar, and nests no more deeply than it may
--     AreTrees units trees       the grammar relates each tree to its unit
--     AreTyped table units outcome     with that table the units come to this typed program, or to none for this cause
--     HaveProgram table units    they come to one
--     IsFirst units Is           the first wrong unit is so
--     HasSyntaxAt, IsTooDeep     it is no unit of the grammar; it nests too deeply
--     IsLimitOf table units limit      a limit that is passed after reading
--     IsSource ..                the meaning of each answer, of what the reads gave
--     RefusesAs error answer     the answer to a refusal of reading
--     IsProgramOf ..             the program of units that were read, or why they give none
--     IsParsedAs, IsTypedAs      its steps: each unit is parsed; their trees are typed
--     IsBoxed made result        what was made, in a box
use Rattle.std.specs.Prelude.{◌≡◌, ◌⊎◌, ℕ, List, [], ◌∷◌, ◌++◌, map, Result, Ok, Err, Vec, Box}
use Rattle.std.specs.Box.{box_value}
use Rattle.std.specs.Global.{Global}
use Rattle.hs_base.specs.Files.{Read as FileRead}
use Rattle.hs_base.specs.declared.limit.Limit.{Limit as Limits}
use Rattle.hs_base.specs.declared.pos.Pos.{Pos}
use Rattle.hs_tokens.specs.declared.token.SourceToken.{SourceToken}
use Rattle.hs_syntax.specs.Grammar.{IsUnit}
use Rattle.hs_syntax.specs.Nesting.{IsShallow}
use Rattle.hs_syntax.specs.Trees.{TranslationUnit}
use Rattle.hs_syntax.specs.Views.{view_unit}
use Rattle.hs_syntax.specs.declared.unit.Unit.{Unit as Tree}
use Rattle.hs_table.specs.declared.routine.Routine.{Routine}
use Rattle.hs_decl_parser.specs.Units.{depth, IsParsed, IsRefusedAt}
use Rattle.hs_decl_parser.specs.declared.parse_error.ParseError.{ParseError}
use Rattle.hs_decl_parser.specs.declared.parse_error.ParseError.TheVariants as parsing
use Rattle.hs_tree.specs.Trees.{TypedProgram}
use Rattle.hs_tree.specs.declared.program.Program.{Program}
use Rattle.hs_typing.specs.Programs.{typed, view_program}
use Rattle.hs_typing.specs.declared.program.ProgramError.{ProgramError}
use Rattle.hs_typing.specs.declared.program.ProgramError.TheVariants as typing
use Rattle.hs_directives.specs.Reads.{IsReadAs, IsRefusedAs}
use Rattle.hs_directives.specs.declared.error.ReadError.{ReadError}
use Rattle.hs_directives.specs.declared.error.ReadError.TheVariants as reading
use Rattle.hs_directives.specs.declared.source.Source.{Source as Sources}
use Rattle.hs_source.specs.declared.source.SourceError.{SourceError}
use Rattle.hs_source.specs.declared.source.SourceError.TheVariants.{Read, Parse, Typing, NoMain, Limit, NoMemory}

-- each unit is one of the grammar, and nests no more deeply than it may
abbrev pub AreParsed : List (List SourceToken) → Type 0
AreParsed [] = Unit {0}
AreParsed (tokens ∷ rest) = IsParsed tokens × AreParsed rest

-- of each unit its tree: the grammar relates it to the tokens, which nest no more deeply than they may. It relates no other
-- (`units_are_unambiguous` of hs_decl_parser).
abbrev pub AreTrees : List (List SourceToken) → List TranslationUnit → Type 0
AreTrees [] [] = Unit {0}
AreTrees [] (tree ∷ trees) = ⊥
AreTrees (tokens ∷ rest) [] = ⊥
AreTrees (tokens ∷ rest) (tree ∷ trees) = IsShallow tokens × IsUnit tokens tree × AreTrees rest trees

-- with that table the trees of the units come to this: the typed program, or why there is no program
abbrev pub AreTyped : List Routine → List (List SourceToken) → Result TypedProgram ProgramError → Type 0
AreTyped table units outcome = (trees : List TranslationUnit) × AreTrees units trees × (typed table trees ≡ outcome)

-- they come to a typed program
abbrev pub HaveProgram : List Routine → List (List SourceToken) → Type 0
HaveProgram table units = (program : TypedProgram) × AreTyped table units (Ok program)

-- the first unit that is not in the grammar is so
pub record IsFirst (units : List (List SourceToken)) (Is : List SourceToken → Type 0) : Type 0 where
  pub before : List (List SourceToken)
  pub tokens : List SourceToken
  pub behind : List (List SourceToken)
  pub whole : units ≡ before ++ tokens ∷ behind
  pub parsed : AreParsed before
  pub is : Is tokens

-- it is no unit, and its first wrong external declaration begins at that place
abbrev pub HasSyntaxAt : List (List SourceToken) → Pos → Type 0
HasSyntaxAt units pos = IsFirst units (λ tokens. IsRefusedAt tokens pos)

-- it nests too deeply
abbrev pub IsTooDeep : List (List SourceToken) → Type 0
IsTooDeep units = IsFirst units (λ tokens. IsShallow tokens → ⊥)

-- the error is a limit or that memory ran out, which have answers of their own
abbrev pub HasOwnAnswer : ReadError → Type 0
HasOwnAnswer (reading.Limit limit) = Unit {0}
HasOwnAnswer reading.NoMemory = Unit {0}
HasOwnAnswer _ = ⊥

-- a unit is not in the grammar, in the way that the parser says; its limit and memory have answers of their own
abbrev pub IsUnparsedAs : List (List SourceToken) → ParseError → Type 0
IsUnparsedAs units (parsing.Syntax pos) = HasSyntaxAt units pos
IsUnparsedAs units _ = ⊥

-- the limit of nesting, or that of the bytes of objects, which is tried when all units are typed
abbrev pub IsLimitOf : List Routine → List (List SourceToken) → Limits → Type 0
IsLimitOf table units limit = (IsTooDeep units × (limit ≡ depth)) ⊎ AreTyped table units (Err (typing.Limit limit))

-- The reads are those of the call, and `IsReadAs` and `IsRefusedAs` say what the bytes that they gave come to.
abbrev pub IsSource : List Routine → List FileRead → List (List ℕ) → Result (Sources × Box Program Global) SourceError → Type 0
IsSource table reads names (Ok it) = IsReadAs reads names it.0 × AreTyped table it.0.units (Ok (view_program (box_value it.1)))
IsSource table reads names (Err (Read error)) = (HasOwnAnswer error → ⊥) × IsRefusedAs reads names error
IsSource table reads names (Err (Parse error)) = (source : Sources) × IsReadAs reads names source × IsUnparsedAs source.units error
IsSource table reads names (Err (Typing why)) =
    (source : Sources) × IsReadAs reads names source × AreTyped table source.units (Err (typing.Refused why))
IsSource table reads names (Err NoMain) = (source : Sources) × IsReadAs reads names source × AreTyped table source.units (Err typing.NoMain)
-- a limit of reading, the limit of nesting, or that of the bytes of objects
IsSource table reads names (Err (Limit limit)) =
    IsRefusedAs reads names (reading.Limit limit)
    ⊎ ((source : Sources) × IsReadAs reads names source × IsLimitOf table source.units limit)
IsSource table reads names (Err NoMemory) = Unit {0}

-- an answer to a refusal of reading
abbrev pub RefusesAs : ReadError → SourceError → Type 0
RefusesAs error (Read read) = (read ≡ error) × (HasOwnAnswer read → ⊥)
RefusesAs error (Limit limit) = error ≡ reading.Limit limit
RefusesAs error (Parse wrong) = ⊥
RefusesAs error (Typing why) = ⊥
RefusesAs error NoMain = ⊥
RefusesAs error NoMemory = error ≡ reading.NoMemory

-- the program of units that were read, or why they give none
abbrev pub IsProgramOf : List Routine → List (List SourceToken) → Result (Box Program Global) SourceError → Type 0
IsProgramOf table units (Ok program) = AreTyped table units (Ok (view_program (box_value program)))
IsProgramOf table units (Err (Read error)) = ⊥
IsProgramOf table units (Err (Limit limit)) = IsLimitOf table units limit
IsProgramOf table units (Err (Parse error)) = IsUnparsedAs units error
IsProgramOf table units (Err (Typing why)) = AreTyped table units (Err (typing.Refused why))
IsProgramOf table units (Err NoMain) = AreTyped table units (Err typing.NoMain)
IsProgramOf table units (Err NoMemory) = Unit {0}

-- the trees of the units, or how the first that is not in the grammar is refused
abbrev pub IsParsedAs : List (List SourceToken) → Result (Vec Tree Global) SourceError → Type 0
IsParsedAs units (Ok trees) = AreTrees units (map view_unit trees.items)
IsParsedAs units (Err (Limit limit)) = IsTooDeep units × (limit ≡ depth)
IsParsedAs units (Err (Parse error)) = IsUnparsedAs units error
IsParsedAs units (Err NoMemory) = Unit {0}
IsParsedAs units (Err _) = ⊥

-- trees come to a typed program, or why they come to none
abbrev pub IsTypedAs : List Routine → List TranslationUnit → Result (Box Program Global) SourceError → Type 0
IsTypedAs table trees (Ok program) = typed table trees ≡ Ok (view_program (box_value program))
IsTypedAs table trees (Err (Typing why)) = typed table trees ≡ Err (typing.Refused why)
IsTypedAs table trees (Err NoMain) = typed table trees ≡ Err typing.NoMain
IsTypedAs table trees (Err (Limit limit)) = typed table trees ≡ Err (typing.Limit limit)
IsTypedAs table trees (Err NoMemory) = Unit {0}
IsTypedAs table trees (Err _) = ⊥

-- a refusal of typing, as that of a source
abbrev pub source_error : ProgramError → SourceError
source_error (typing.Refused why) = Typing why
source_error typing.NoMain = NoMain
source_error (typing.Limit limit) = Limit limit
source_error typing.NoMemory = NoMemory

-- what was made, in a box, or why it was not made, or that there is no memory for the box
abbrev pub IsBoxed : {T : Type 0} → Result T ProgramError → Result (Box T Global) SourceError → Type 0
IsBoxed (Ok it) (Ok box) = box_value box ≡ it
IsBoxed (Ok it) (Err error) = error ≡ NoMemory
IsBoxed (Err why) (Ok box) = ⊥
IsBoxed (Err why) (Err error) = error ≡ source_error why

-- memory was refused
abbrev pub no_memory : SourceError
no_memory = NoMemory
