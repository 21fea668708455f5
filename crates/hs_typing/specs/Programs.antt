-- Typed programs (X3.159-1989 3.7; own where docs/DECISIONS.md says so): what units come to with a table of routines.
--     typed table units             the program, or why there is no program
--     translated table units        the functions of all units, and what is known then
--     usable_main types functions main      the number of `main`, if that function can be one
--     parts_of m                    what the units leave at their end; assembled, the program of these parts
--     within program                the program, unless it has more bytes than it may have
--     IsTyped, IsProgram given result      what an answer of the code says of the definition's, as parts and as a program
use Rattle.std.specs.Prelude.{◌≡◌, ℕ, ◌==◌, Bool, false, ◌||◌, ◌&&◌, codes, List, [], Option, Some, None, slice_get, Result, Ok, Err, if◌then◌else◌}
use Rattle.hs_base.specs.Limit.{number_of}
use Rattle.hs_base.specs.declared.limit.LimitKind.TheVariants.{Objects}
use Rattle.hs_functions.specs.Units.{units_of}
use Rattle.hs_linkage.specs.Definitions.{all_definitions, first_place, is_definition_of}
use Rattle.hs_linkage.specs.Works.{before_units}
use Rattle.hs_linkage.specs.declared.definitions.Definition.{Definition}
use Rattle.hs_linkage.specs.declared.translator.Translator.{Translator}
use Rattle.hs_same_types.specs.Representatives.{representatives}
use Rattle.hs_syntax.specs.Trees.{ExternalDeclaration}
use Rattle.hs_table.specs.declared.routine.Routine.{Routine}
use Rattle.hs_tree.specs.Kinds.{is_number, is_void}
use Rattle.hs_tree.specs.Trees.{TypedFunction, TypedProgram}
use Rattle.hs_tree.specs.Views.{program_of}
use Rattle.hs_tree.specs.declared.function.BoundRoutine.{BoundRoutine}
use Rattle.hs_tree.specs.declared.globals.Global.{Global}
use Rattle.hs_tree.specs.declared.program.Program.{Program}
use Rattle.hs_tree.specs.declared.representatives.Representatives.{Representatives}
use Rattle.hs_typer.specs.declared.type_error.TypeError.{TypeError}
use Rattle.hs_typer.specs.declared.type_error.TypeError.TheVariants as typing
use Rattle.hs_types.specs.TypeTables.{TypeTable}
use Rattle.hs_types.specs.declared.row.FieldId.{FieldId}
use Rattle.hs_ends.specs.Ends.{globals_of, sized_globals, taken_globals, taken_fields, no_types, first_types, bound_routines, passes}
use Rattle.hs_typing.specs.declared.program.ProgramError.{ProgramError}
use Rattle.hs_typing.specs.declared.program.ProgramError.TheVariants.{Refused, NoMain, Limit, NoMemory}
use Rattle.hs_typing.specs.declared.program.Typed.{Typed}

-- after all units
abbrev pub translated : List Routine → List (List ExternalDeclaration) → Result (List TypedFunction × Translator) TypeError
translated table units = units_of [] units (before_units table (all_definitions 0 units))

-- 2.1.2.2: the function `main`, which has external linkage
abbrev pub main_number : List Definition → Option ℕ
main_number its = first_place (is_definition_of false 0 (codes "main")) its

-- it has no parameters, and gives a number or nothing (own)
abbrev pub may_be_main : TypeTable → Option TypedFunction → Bool
may_be_main types None = false
may_be_main types (Some it) = (it.parameters == 0) && (is_number types it.result || is_void types it.result)

-- types, objects, strings, routines, which types are one, and the fields whose addresses are taken
abbrev pub Parts : Type 0
Parts = TypeTable × List Global × List (List ℕ) × List BoundRoutine × Representatives × List FieldId

-- with the objects, and the types that they have, which say how large they are
abbrev pub parts_with : Translator → List Global × TypeTable → Parts
parts_with m p = (
  p.1,
  sized_globals p.1 p.0,
  m.typer.literals,
  bound_routines p.1 [] m.typer.table (first_types (no_types m.typer.table) m.typer.calls),
  representatives p.1 m.typer.origins,
  taken_fields (representatives p.1 m.typer.origins) [] m.typer.taken,
)

-- what the units leave at their end
abbrev pub parts_of : Translator → Parts
parts_of m = parts_with m (globals_of (taken_globals [] m.typer.taken) 0 [] m.objects m.typer.types)

-- the program of these parts
abbrev pub assembled : Parts → List TypedFunction → ℕ → TypedProgram
assembled (types, globals, literals, routines, same, taken) functions main =
    record {
      types = types;
      globals = globals;
      literals = literals;
      functions = functions;
      routines = routines;
      same = same;
      taken = taken;
      main = main;
    }

-- its objects and strings have no more bytes than a program may have
abbrev pub within : TypedProgram → Result TypedProgram ProgramError
within program =
    if passes program.globals program.literals then Err (Limit (record { kind = Objects; reached = number_of Objects })) else Ok program

-- the function of that number, if it may be `main`
abbrev pub usable_main : TypeTable → List TypedFunction → Option ℕ → Option ℕ
usable_main types functions None = None
usable_main types functions (Some number) = if may_be_main types (slice_get functions number) then Some number else None

-- with that `main`
abbrev pub with_main : List TypedFunction → Translator → Option ℕ → Result TypedProgram ProgramError
with_main functions m None = Err NoMain
with_main functions m (Some number) = within (assembled (parts_of m) functions number)

-- `main` is looked for after all units, and the bytes are counted last
abbrev pub ended : Result (List TypedFunction × Translator) TypeError → Result TypedProgram ProgramError
ended (Err why) = Err (Refused why)
ended (Ok p) = with_main p.0 p.1 (usable_main p.1.typer.types p.0 (main_number p.1.definitions))

-- what the units are with that table
abbrev pub typed : List Routine → List (List ExternalDeclaration) → Result TypedProgram ProgramError
typed table units = ended (translated table units)

-- the parts of a program, and a program of the code
abbrev pub view_typed : Typed → TypedProgram
view_typed it = program_of it.types it.globals it.literals it.functions.items it.routines it.same it.taken it.main

abbrev pub view_program : Program → TypedProgram
view_program it = program_of it.types it.globals it.literals it.functions.items it.routines it.same it.taken it.main

-- the program, or the refusal, is that of the definition, unless memory ran out
abbrev pub IsGivenAs : {A : Type 0} → (A → TypedProgram) → Result TypedProgram ProgramError → Result A ProgramError → Type 0
IsGivenAs view given (Ok it) = given ≡ Ok (view it)
IsGivenAs view given (Err (Refused why)) = given ≡ Err (Refused why)
IsGivenAs view given (Err NoMain) = given ≡ Err NoMain
IsGivenAs view given (Err (Limit limit)) = given ≡ Err (Limit limit)
IsGivenAs view given (Err NoMemory) = Unit {0}

-- its parts, and the program
abbrev pub IsTyped : Result TypedProgram ProgramError → Result Typed ProgramError → Type 0
IsTyped given result = IsGivenAs view_typed given result

abbrev pub IsProgram : Result TypedProgram ProgramError → Result Program ProgramError → Type 0
IsProgram given result = IsGivenAs view_program given result

-- a refusal of typing
abbrev pub refusal_of : TypeError → ProgramError
refusal_of typing.NoMemory = NoMemory
refusal_of (typing.Untyped at) = Refused (typing.Untyped at)
refusal_of (typing.Undeclared at name) = Refused (typing.Undeclared at name)
refusal_of (typing.UnknownRoutine at name) = Refused (typing.UnknownRoutine at name)
refusal_of (typing.Clash at name) = Refused (typing.Clash at name)

-- memory ran out
abbrev pub no_memory : ProgramError
no_memory = NoMemory
