-- What the units are, the named files are.
use Rattle.std.proofs.Common.{◌≡◌, ℕ, List, Result, Ok, Err, inl, inr, sym, ap, ◌∙◌}
use Rattle.std.specs.Prelude.{Box, IfOk, IfErr}
use Rattle.std.specs.Global.{Global}
use Rattle.hs_base.specs.Files.{Read as FileRead}
use Rattle.hs_tokens.specs.declared.token.SourceToken.{SourceToken}
use Rattle.hs_syntax.specs.Trees.{TranslationUnit}
use Rattle.hs_table.specs.declared.routine.Routine.{Routine}
use Rattle.hs_tree.specs.declared.program.Program.{Program}
use Rattle.hs_directives.specs.declared.source.Source.{Source as Sources}
use Rattle.hs_directives.specs.Reads.{IsReadAs, IsRefusedAs}
use Rattle.hs_directives.specs.declared.error.ReadError.{ReadError}
use Rattle.hs_typing.specs.Programs.{IsProgram, typed, view_program}
use Rattle.hs_typing.specs.declared.program.ProgramError.{ProgramError}
use Rattle.hs_typing.specs.declared.program.ProgramError.TheVariants as typing
use Rattle.hs_source.specs.Source.{AreTrees, IsBoxed, IsParsedAs, IsTypedAs, IsProgramOf, IsSource, RefusesAs}
use Rattle.hs_source.specs.declared.source.SourceError.{SourceError}
use Rattle.hs_source.specs.declared.source.SourceError.TheVariants.{Read, Parse, Typing, NoMain, Limit, NoMemory}

-- a unit that is not in the grammar
pub IsProgramOf-of_refused : (table : List Routine) (units : List (List SourceToken)) (error : SourceError) → IsParsedAs units (Err error)
    → IsProgramOf table units (Err error)
IsProgramOf-of_refused table units (Read error) is = absurd is
IsProgramOf-of_refused table units (Limit limit) is = inl is
IsProgramOf-of_refused table units (Parse error) is = is
IsProgramOf-of_refused table units (Typing why) is = absurd is
IsProgramOf-of_refused table units NoMain is = absurd is
IsProgramOf-of_refused table units NoMemory is = tt

-- what the trees come to, the units come to
pub IsProgramOf-of_typed : (table : List Routine) (units : List (List SourceToken)) (trees : List TranslationUnit)
    (result : Result (Box Program Global) SourceError) → AreTrees units trees → IsTypedAs table trees result → IsProgramOf table units result
IsProgramOf-of_typed table units trees (Ok program) are is = (trees, are, is)
IsProgramOf-of_typed table units trees (Err (Read error)) are is = absurd is
IsProgramOf-of_typed table units trees (Err (Limit limit)) are is = inr (trees, are, is)
IsProgramOf-of_typed table units trees (Err (Parse error)) are is = absurd is
IsProgramOf-of_typed table units trees (Err (Typing why)) are is = (trees, are, is)
IsProgramOf-of_typed table units trees (Err NoMain) are is = (trees, are, is)
IsProgramOf-of_typed table units trees (Err NoMemory) are is = tt

-- what typing gave, in a box
pub IsTypedAs-of_boxed : (table : List Routine) (trees : List TranslationUnit) (made : Result Program ProgramError)
    (result : Result (Box Program Global) SourceError) → IsProgram (typed table trees) made → IsBoxed made result → IsTypedAs table trees result
IsTypedAs-of_boxed table trees (Ok it) (Ok box) is boxed = is ∙ ap (λ (program : Program). Ok (view_program program)) (sym boxed)
IsTypedAs-of_boxed table trees (Ok it) (Err error) is boxed = rw boxed tt
IsTypedAs-of_boxed table trees (Err why) (Ok box) is boxed = absurd boxed
IsTypedAs-of_boxed table trees (Err (typing.Refused why)) (Err error) is boxed = rw boxed is
IsTypedAs-of_boxed table trees (Err typing.NoMain) (Err error) is boxed = rw boxed is
IsTypedAs-of_boxed table trees (Err (typing.Limit limit)) (Err error) is boxed = rw boxed is
IsTypedAs-of_boxed table trees (Err typing.NoMemory) (Err error) is boxed = rw boxed tt

-- by the answer: the files are read as the sources, so the program of their units is theirs
pub IsSource-of_refused : (table : List Routine) (reads : List FileRead) (names : List (List ℕ)) (source : Sources) (error : SourceError)
    → IsReadAs reads names source → IsProgramOf table source.units (Err error) → IsSource table reads names (Err error)
IsSource-of_refused table reads names source (Read error) read is = absurd is
IsSource-of_refused table reads names source (Parse error) read is = (source, read, is)
IsSource-of_refused table reads names source (Typing why) read is = (source, read, is)
IsSource-of_refused table reads names source NoMain read is = (source, read, is)
IsSource-of_refused table reads names source (Limit limit) read is = inr (source, read, is)
IsSource-of_refused table reads names source NoMemory read is = tt

-- the sources, with the program
pub IsSource-of_program : (table : List Routine) (reads : List FileRead) (names : List (List ℕ)) (source : Sources)
    (made : Result (Box Program Global) SourceError) (result : Result (Sources × Box Program Global) SourceError)
    → IfOk made (λ it. result ≡ Ok (source, it)) → IfErr made (λ e. result ≡ Err e)
    → IsReadAs reads names source → IsProgramOf table source.units made → IsSource table reads names result
IsSource-of_program table reads names source (Ok it) result both fails read is = rw both (read, is)
IsSource-of_program table reads names source (Err error) result both fails read is =
    rw fails (IsSource-of_refused table reads names source error read is)

-- and a refusal of reading is that of the files
pub IsSource-of_refusal : (table : List Routine) (reads : List FileRead) (names : List (List ℕ)) (error : ReadError) (answer : SourceError)
    → IsRefusedAs reads names error → RefusesAs error answer → IsSource table reads names (Err answer)
IsSource-of_refusal table reads names error (Read read) refused is = (is.1, rw is.0 refused)
IsSource-of_refusal table reads names error (Parse wrong) refused is = absurd is
IsSource-of_refusal table reads names error (Typing why) refused is = absurd is
IsSource-of_refusal table reads names error NoMain refused is = absurd is
IsSource-of_refusal table reads names error (Limit limit) refused is = inl (rw is at refused)
IsSource-of_refusal table reads names error NoMemory refused is = tt
