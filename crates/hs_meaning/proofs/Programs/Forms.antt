-- More words for the typed programs of the worked rows: operators, statements, functions and types.
--     as_kind, as_pointer                        conversions
--     calls line col id place arguments          a call of a routine, by its number in `routines`
--     function_with                              functions
--     more_types rows bodies                     the basic types, and types with the numbers from 12 on
use Rattle.std.specs.Prelude.{ℕ, true, false, List, [], ◌∷◌, ◌++◌, map, Some, None, Bool}
use Rattle.hs_heap.specs.declared.decision.Decision.{Decision}
use Rattle.hs_heap.specs.declared.decision.Which.TheVariants.{These}
use Rattle.hs_meaning.proofs.Programs.Terms.{at, head, int, one, statements, variable, routines}
use Rattle.hs_meaning.specs.Runs.{Ending}
use Rattle.hs_meaning.specs.declared.outcome.Outcome.TheVariants.{TurnsSpent}
use Rattle.hs_table.specs.declared.role.Role.TheVariants.{Plain}
use Rattle.hs_tree.specs.Trees.{TypedProgram, RightValue, LeftValue, RightValues, Starting, TypedDeclaration, TypedStatement, TypedStatements, TypedBlock}
use Rattle.hs_tree.specs.Trees.{TypedFunction}
use Rattle.hs_tree.specs.Trees as tree
use Rattle.hs_tree.specs.declared.function.BoundRoutine.{BoundRoutine}
use Rattle.hs_tree.specs.declared.head.VariableDecl.{VariableDecl}
use Rattle.hs_tree.specs.declared.operators.Arithmetic.{Arithmetic}
use Rattle.hs_tree.specs.declared.operators.Comparison.{Comparison}
use Rattle.hs_tree.specs.declared.operators.Stride.{Stride}
use Rattle.hs_tree.specs.declared.operators.Unary.TheVariants.{Minus}
use Rattle.hs_tree.specs.declared.statement.Label.{Label}
use Rattle.hs_tree.specs.declared.statement.Label.TheVariants as label
use Rattle.hs_types.specs.Layouts.{struct_layout}
use Rattle.hs_types.specs.Rows.{basic_rows, integer_id}
use Rattle.hs_types.specs.TypeTables.{TypeTable}
use Rattle.hs_types.specs.declared.body.Body.{Body}
use Rattle.hs_types.specs.declared.body.Field.{Field}
use Rattle.hs_types.specs.declared.integer.Integer.{Integer}
use Rattle.hs_types.specs.declared.integer.Integer.TheVariants as kind
use Rattle.hs_types.specs.declared.layout.Layout.{Layout}
use Rattle.hs_types.specs.declared.row.Row.{Row}
use Rattle.hs_types.specs.declared.row.TypeId.{TypeId}

-- ---- conversions

-- a number as one of that type
abbrev pub as_kind : ℕ → ℕ → Integer → RightValue → RightValue
as_kind line col its e = tree.convert_number (head line col (integer_id its)) its e

-- a pointer as one of that type
abbrev pub as_pointer : ℕ → ℕ → TypeId → RightValue → RightValue
as_pointer line col id e = tree.convert_pointer (head line col id) e

abbrev pub nil : ℕ → ℕ → TypeId → RightValue
nil line col id = tree.nil (head line col id)

-- ---- operators

-- of ints
abbrev pub of_ints : ℕ → ℕ → Arithmetic → RightValue → RightValue → RightValue
of_ints line col operator a b = tree.arithmetic (head line col int) operator kind.Int a b

abbrev pub compared : ℕ → ℕ → Comparison → RightValue → RightValue → RightValue
compared line col operator a b = tree.comparison (head line col int) operator kind.Int a b

-- `i++` and `i--` of an int
abbrev pub counted : ℕ → ℕ → Arithmetic → LeftValue → RightValue
counted line col operator object = tree.post_update (head line col int) operator kind.Int kind.Int object

-- `-n` of an int
abbrev pub minus : ℕ → ℕ → RightValue → RightValue
minus line col n = tree.unary (head line col int) Minus kind.Int n

abbrev pub forward : ℕ → Stride
forward size = record { size = size; backward = false }

-- `p + n`, of a pointer to objects of that size
abbrev pub plus : ℕ → ℕ → TypeId → ℕ → RightValue → RightValue → RightValue
plus line col id size its n = tree.step (head line col id) (forward size) true its n

-- `p[n]`
abbrev pub element : ℕ → ℕ → TypeId → ℕ → RightValue → RightValue → LeftValue
element line col id size its n = tree.element (head line col id) size true its n

abbrev pub loaded : ℕ → ℕ → TypeId → LeftValue → RightValue
loaded line col id object = tree.load (head line col id) object

abbrev pub assigned : ℕ → ℕ → TypeId → LeftValue → RightValue → RightValue
assigned line col id object e = tree.assign (head line col id) object e

-- what a pointer reaches, as an object
abbrev pub through : ℕ → ℕ → TypeId → RightValue → LeftValue
through line col id e = tree.target (head line col id) e

-- the address of an object, and an array as one
abbrev pub address : ℕ → ℕ → TypeId → LeftValue → RightValue
address line col id object = tree.address (head line col id) object

abbrev pub decay : ℕ → ℕ → TypeId → LeftValue → RightValue
decay line col id object = tree.decay (head line col id) object

-- ---- calls

abbrev pub two : RightValue → RightValue → RightValues
two a b = tree.more_values a (one b)

abbrev pub three : RightValue → RightValue → RightValue → RightValues
three a b c = tree.more_values a (two b c)

-- of a routine, and of a function, by its number
abbrev pub calls : ℕ → ℕ → TypeId → ℕ → RightValues → RightValue
calls line col id place arguments = tree.call_routine (head line col id) place arguments

abbrev pub invoked : ℕ → ℕ → TypeId → ℕ → RightValues → RightValue
invoked line col id place arguments = tree.call (head line col id) place None arguments

-- a plain routine of the table, with what it fills, the size of what it makes, and how it is declared
abbrev pub plain_routine : List ℕ → Bool → ℕ → ℕ → TypeId → List TypeId → BoundRoutine
plain_routine text moves fills size result parameters =
    record {
      routine = record { name = text; role = Plain; moves = moves; purges = moves; fills = fills; size = size };
      prototype = Some (record { result = result; parameters = parameters });
    }

-- the program with a routine more, which has the number 16
abbrev pub with_routine : BoundRoutine → TypedProgram → TypedProgram
with_routine it program = record program { routines = routines ++ it ∷ [] }

-- ---- statements

abbrev pub block_of : ℕ → List TypedStatement → TypedStatement
block_of line its = tree.block (tree.compound (at line 1) [] (statements its) (at line 80))

-- a statement with the labels in front of it, and those after it
abbrev pub labelled : List Label → TypedStatement → TypedStatements → TypedStatements
labelled labels it rest = tree.more_statements labels it rest

abbrev pub case : ℕ → ℕ → Label
case line bits = label.Case (at line 3) bits

abbrev pub default : ℕ → Label
default line = label.Default (at line 3)

abbrev pub switch : ℕ → RightValue → TypedStatements → TypedStatement
switch line e list = tree.switch_ (at line 5) e (tree.compound (at line 20) [] list (at line 80))

-- variables that are given their first values, at the line
abbrev pub starts : ℕ → ℕ → Starting → TypedDeclaration
starts line place first = record { at = at line 5; items = record { variable = place; at = at line 10; start = first } ∷ [] }

-- ---- functions and programs

abbrev pub body_with : List TypedDeclaration → List TypedStatement → TypedBlock
body_with declarations its = tree.compound (at 3 1) declarations (statements its) (at 99 1)

abbrev pub function_with : List ℕ → TypeId → ℕ → List VariableDecl → TypedBlock → TypedFunction
function_with name result parameters variables body =
    record { name = name; at = at 2 5; result = result; parameters = parameters; variables = variables; body = body }

-- a variable whose address is taken
abbrev pub taken_variable : List ℕ → TypeId → VariableDecl
taken_variable text id = record (variable text id) { taken = true }

-- ---- types

abbrev pub id : ℕ → TypeId
id number = record { number = number }

abbrev pub more_types : List Row → List Body → TypeTable
more_types rows bodies = record { rows = basic_rows ++ rows; lists = []; structs = map Some bodies; enumerations = [] }

abbrev pub field : List ℕ → TypeId → Layout → ℕ → Field
field name its layout offset = record { name = name; type_id = its; layout = layout; offset = offset }

abbrev pub struct_of : List Field → Body
struct_of fields = record { fields = fields; layout = struct_layout (map (λ field. field.layout) fields) }

-- ---- schedules

-- a decision that moves these blocks
abbrev pub moves : List ℕ → Decision
moves numbers = record { moves = These numbers; purges = These [] }

-- ---- how a run ends that has no more turns

abbrev pub spent : List ℕ → Ending
spent output = record { output = output; outcome = TurnsSpent }
