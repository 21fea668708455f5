-- Words for the typed programs of the worked rows: each is a tree as typing gives it.
--     at line col, head line col id       a place, and a place with a type
--     local, global                       variables
--     get, put, num, long_num             the value of a local, an assignment to one, and numbers
--     program types ..                    a program with one function
use Rattle.std.specs.Prelude.{ℕ, ℤ, Bool, true, false, List, [], ◌∷◌, Some, codes}
use Rattle.hs_base.specs.declared.pos.Pos.{Pos}
use Rattle.hs_heap.specs.declared.decision.Decision.{Decision}
use Rattle.hs_heap.specs.declared.decision.Which.TheVariants.{All, These}
use Rattle.hs_meaning.specs.Runs.{Ending}
use Rattle.hs_meaning.specs.declared.input.Input.{Input}
use Rattle.hs_meaning.specs.declared.outcome.Outcome.TheVariants.{Finished, Stopped}
use Rattle.hs_meaning.specs.declared.outcome.Stop.{Stop}
use Rattle.hs_table.specs.declared.role.Role.{Role}
use Rattle.hs_table.specs.declared.role.Role.TheVariants as role
use Rattle.hs_tokens.specs.declared.place.Place.{Place}
use Rattle.hs_tokens.specs.declared.token.Origin.TheVariants as origin
use Rattle.hs_tree.specs.Trees.{RightValue, LeftValue, RightValues, TypedStatement, TypedStatements, TypedBlock, TypedFunction, TypedProgram}
use Rattle.hs_tree.specs.Trees as tree
use Rattle.hs_tree.specs.declared.function.BoundRoutine.{BoundRoutine}
use Rattle.hs_tree.specs.declared.globals.Global.{Global}
use Rattle.hs_tree.specs.declared.head.Head.{Head}
use Rattle.hs_tree.specs.declared.head.Variable.TheVariants as name
use Rattle.hs_tree.specs.declared.head.VariableDecl.{VariableDecl}
use Rattle.hs_types.specs.Rows.{void_id, integer_id, char_pointer_id, char_handle_id}
use Rattle.hs_types.specs.TypeTables.{TypeTable, basic_types}
use Rattle.hs_types.specs.declared.integer.Integer.TheVariants as kind
use Rattle.hs_types.specs.declared.row.TypeId.{TypeId}

-- ---- types

abbrev pub char : TypeId
char = integer_id kind.Char

abbrev pub int : TypeId
int = integer_id kind.Int

abbrev pub long : TypeId
long = integer_id kind.Long

-- ---- places

abbrev pub spot_at : ℕ → ℕ → Pos
spot_at line col = record { file = 0; line = line; col = col }

abbrev pub at : ℕ → ℕ → Place
at line col = record { pos = spot_at line col; origin = origin.Plain }

abbrev pub head : ℕ → ℕ → TypeId → Head
head line col id = record { at = at line col; type_id = id }

-- ---- expressions

abbrev pub local : ℕ → ℕ → TypeId → ℕ → LeftValue
local line col id place = tree.variable (head line col id) (name.Local place)

abbrev pub global : ℕ → ℕ → TypeId → ℕ → LeftValue
global line col id place = tree.variable (head line col id) (name.Global place)

abbrev pub get : ℕ → ℕ → TypeId → ℕ → RightValue
get line col id place = tree.load (head line col id) (local line col id place)

-- an assignment at that column
abbrev pub put : ℕ → ℕ → TypeId → ℕ → RightValue → RightValue
put line col id place e = tree.assign (head line col id) (local line 1 id place) e

abbrev pub num : ℕ → ℕ → ℕ → RightValue
num line col bits = tree.number (head line col int) bits

abbrev pub long_num : ℕ → ℕ → ℕ → RightValue
long_num line col bits = tree.convert_number (head line col long) kind.Long (num line col bits)

-- what a pointer reaches
abbrev pub at_pointer : ℕ → ℕ → TypeId → RightValue → RightValue
at_pointer line col id e = tree.load (head line col id) (tree.target (head line col id) e)

abbrev pub one : RightValue → RightValues
one e = tree.more_values e tree.no_values

-- ---- statements

abbrev pub statements : List TypedStatement → TypedStatements
statements [] = tree.no_statements
statements (it ∷ rest) = tree.more_statements [] it (statements rest)

abbrev pub body : List TypedStatement → TypedBlock
body its = tree.compound (at 3 1) [] (statements its) (at 99 1)

-- an expression as a statement
abbrev pub done_by : ℕ → RightValue → TypedStatement
done_by line e = tree.expression (at line 5) e

abbrev pub return : ℕ → RightValue → TypedStatement
return line e = tree.return_ (at line 5) (Some e)

-- ---- routines, by their numbers here

abbrev pub routine : List ℕ → Role → Bool → TypeId → List TypeId → BoundRoutine
routine text its moves result parameters =
    record {
      routine = record { name = text; role = its; moves = moves; purges = moves; fills = 0; size = 0 };
      prototype = Some (record { result = result; parameters = parameters });
    }

abbrev pub routines : List BoundRoutine
routines =
    routine (codes "NewHandle") role.NewHandle true char_handle_id (long ∷ [])
    ∷ routine (codes "HLock") role.Lock false void_id (char_handle_id ∷ [])
    ∷ routine (codes "HUnlock") role.Unlock false void_id (char_handle_id ∷ [])
    ∷ routine (codes "putchar") role.Putchar false int (int ∷ [])
    ∷ routine (codes "getchar") role.Getchar false int []
    ∷ routine (codes "HPurge") role.Purge false void_id (char_handle_id ∷ [])
    ∷ routine (codes "HGetState") role.GetState false char (char_handle_id ∷ [])
    ∷ routine (codes "HSetState") role.SetState false void_id (char_handle_id ∷ char ∷ [])
    ∷ routine (codes "DisposeHandle") role.DisposeHandle false void_id (char_handle_id ∷ [])
    ∷ routine (codes "GetHandleSize") role.GetSize false long (char_handle_id ∷ [])
    ∷ routine (codes "SetHandleSize") role.SetSize true void_id (char_handle_id ∷ long ∷ [])
    ∷ routine (codes "EmptyHandle") role.Empty false void_id (char_handle_id ∷ [])
    ∷ routine (codes "ReallocateHandle") role.Realloc true void_id (char_handle_id ∷ long ∷ [])
    ∷ routine (codes "NewPtr") role.NewPtr true char_pointer_id (long ∷ [])
    ∷ routine (codes "DisposPtr") role.DisposePtr false void_id (char_pointer_id ∷ [])
    ∷ routine (codes "BlockMove") role.BlockMove false void_id (char_pointer_id ∷ char_pointer_id ∷ long ∷ [])
    ∷ []

abbrev pub new_handle : ℕ → ℕ → ℕ → RightValue
new_handle line col size = tree.call_routine (head line col char_handle_id) 0 (one (long_num line col size))

abbrev pub lock : ℕ → RightValue → RightValue
lock line e = tree.call_routine (head line 5 void_id) 1 (one e)

abbrev pub unlock : ℕ → RightValue → RightValue
unlock line e = tree.call_routine (head line 5 void_id) 2 (one e)

abbrev pub putchar : ℕ → ℕ → RightValue → RightValue
putchar line col e = tree.call_routine (head line col int) 3 (one e)

-- ---- programs

abbrev pub variable : List ℕ → TypeId → VariableDecl
variable text id = record { name = text; at = at 1 1; type_id = id; taken = false }

abbrev pub function : List VariableDecl → List TypedStatement → TypedFunction
function variables its =
    record { name = codes "main"; at = at 2 5; result = int; parameters = 0; variables = variables; body = body its }

abbrev pub program_with : TypeTable → List Global → List TypedFunction → TypedProgram
program_with types globals functions =
    record {
      types = types;
      globals = globals;
      literals = [];
      functions = functions;
      routines = routines;
      same = record { structs = []; types = [] };
      taken = [];
      main = 0;
    }

-- one function
abbrev pub program : List VariableDecl → List TypedStatement → TypedProgram
program variables its = program_with basic_types [] (function variables its ∷ [])

-- ---- what a run is given, and how it ends

abbrev pub no_input : Input
no_input = record { bytes = []; words = []; refused = [] }

abbrev pub nothing : Decision
nothing = record { moves = These []; purges = These [] }

abbrev pub everything : Decision
everything = record { moves = All; purges = All }

abbrev pub finished : List ℕ → ℤ → Ending
finished output value = record { output = output; outcome = Finished value }

abbrev pub stopped : List ℕ → Stop → ℕ → ℕ → Ending
stopped output why line col = record { output = output; outcome = Stopped why (spot_at line col) }
