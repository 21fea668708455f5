-- The code of one small program, as it is written by hand, runs to the ending that the program has:
--     h = NewHandle(4); **h = 65; p = *h; g = NewHandle(4); putchar(*p); return 0;
use Rattle.std.proofs.Common.{◌≡◌, ℕ, pos, ◌==◌, true, false, List, [], ◌∷◌, length, Option, Some, None, if◌then◌else◌, refl}
use Rattle.std.specs.Prelude.{codes}
use Rattle.hs_base.specs.declared.pos.Pos.{Pos}
use Rattle.hs_code.specs.Stacks.{Kind, number, pointer, structure, kinds_after}
use Rattle.hs_code.specs.declared.function_code.Placed.{Placed}
use Rattle.hs_code.specs.declared.op.Access.TheVariants as access
use Rattle.hs_code.specs.declared.op.Op.{Op}
use Rattle.hs_code.specs.declared.op.Op.TheVariants as op
use Rattle.hs_code_run.specs.Codes.{CodeFunction, CodeProgram, Point, scope_of}
use Rattle.hs_code_run.specs.Runs.{begun, steps}
use Rattle.hs_heap.specs.declared.decision.Decision.{Decision}
use Rattle.hs_heap.specs.declared.decision.Which.TheVariants.{All, These}
use Rattle.hs_meaning.specs.Runs.{Ending, run, starting}
use Rattle.hs_meaning.specs.Settings.{setting_of}
use Rattle.hs_meaning.specs.Steps.{Ran, went, over, then_with}
use Rattle.hs_meaning.specs.declared.input.Input.{Input}
use Rattle.hs_meaning.specs.declared.outcome.Outcome.TheVariants.{Finished, Stopped, TurnsSpent}
use Rattle.hs_meaning.specs.declared.outcome.Stop.TheVariants as stop
use Rattle.hs_table.specs.declared.role.Role.{Role}
use Rattle.hs_table.specs.declared.role.Role.TheVariants as role
use Rattle.hs_tokens.specs.declared.place.Place.{Place}
use Rattle.hs_tokens.specs.declared.token.Origin.TheVariants as origin
use Rattle.hs_tree.specs.Trees as tree
use Rattle.hs_tree.specs.Trees.{RightValue, LeftValue, TypedStatement, TypedStatements, TypedProgram}
use Rattle.hs_tree.specs.declared.function.BoundRoutine.{BoundRoutine}
use Rattle.hs_tree.specs.declared.head.Head.{Head}
use Rattle.hs_tree.specs.declared.head.Variable.TheVariants as name
use Rattle.hs_tree.specs.declared.head.VariableDecl.{VariableDecl}
use Rattle.hs_types.specs.Rows.{integer_id, char_pointer_id, char_handle_id}
use Rattle.hs_types.specs.TypeTables.{basic_types}
use Rattle.hs_types.specs.declared.integer.Integer.TheVariants as kind
use Rattle.hs_types.specs.declared.row.TypeId.{TypeId}

-- ---- the program

abbrev char : TypeId
char = integer_id kind.Char

abbrev int : TypeId
int = integer_id kind.Int

abbrev long : TypeId
long = integer_id kind.Long

abbrev spot : ℕ → ℕ → Pos
spot line col = record { file = 0; line = line; col = col }

abbrev at : ℕ → ℕ → Place
at line col = record { pos = spot line col; origin = origin.Plain }

abbrev head : ℕ → ℕ → TypeId → Head
head line col id = record { at = at line col; type_id = id }

abbrev local : ℕ → ℕ → TypeId → ℕ → LeftValue
local line col id place = tree.variable (head line col id) (name.Local place)

abbrev get : ℕ → ℕ → TypeId → ℕ → RightValue
get line col id place = tree.load (head line col id) (local line col id place)

abbrev through : ℕ → ℕ → TypeId → RightValue → RightValue
through line col id e = tree.load (head line col id) (tree.target (head line col id) e)

abbrev done_by : ℕ → RightValue → TypedStatement
done_by line e = tree.expression (at line 5) e

abbrev new_handle : ℕ → RightValue
new_handle line =
    tree.call_routine (head line 9 char_handle_id) 0
    (tree.more_values (tree.convert_number (head line 19 long) kind.Long (tree.number (head line 19 int) 4)) tree.no_values)

abbrev statements : List TypedStatement → TypedStatements
statements [] = tree.no_statements
statements (it ∷ rest) = tree.more_statements [] it (statements rest)

abbrev variable : List ℕ → TypeId → VariableDecl
variable text id = record { name = text; at = at 4 5; type_id = id; taken = false }

abbrev variables : List VariableDecl
variables = variable (codes "h") char_handle_id ∷ variable (codes "g") char_handle_id ∷ variable (codes "p") char_pointer_id ∷ []

abbrev routine : List ℕ → Role → TypeId → TypeId → BoundRoutine
routine text its result parameter =
    record {
      routine = record { name = text; role = its; moves = true; purges = true; fills = 0; size = 0 };
      prototype = Some (record { result = result; parameters = parameter ∷ [] });
    }

abbrev program : TypedProgram
program =
    record {
      types = basic_types;
      globals = [];
      literals = [];
      functions =
          record {
            name = codes "main";
            at = at 2 5;
            result = int;
            parameters = 0;
            variables = variables;
            body =
                tree.compound (at 3 1) []
                (statements
                (done_by 6 (tree.assign (head 6 7 char_handle_id) (local 6 5 char_handle_id 0) (new_handle 6))
                ∷ done_by 7
                (tree.assign (head 7 9 char) (tree.target (head 7 5 char) (through 7 6 char_pointer_id (get 7 7 char_handle_id 0)))
                (tree.convert_number (head 7 11 char) kind.Char (tree.number (head 7 11 int) 65)))
                ∷ done_by 8 (tree.assign (head 8 7 char_pointer_id) (local 8 5 char_pointer_id 2) (through 8 9 char_pointer_id (get 8 10 char_handle_id 0)))
                ∷ done_by 9 (tree.assign (head 9 7 char_handle_id) (local 9 5 char_handle_id 1) (new_handle 9))
                ∷ done_by 10
                (tree.call_routine (head 10 5 int) 1
                (tree.more_values (tree.convert_number (head 10 13 int) kind.Int (through 10 13 char (get 10 14 char_pointer_id 2))) tree.no_values))
                ∷ tree.return_ (at 11 5) (Some (tree.number (head 11 12 int) 0))
                ∷ []))
                (at 12 1);
          }
          ∷ [];
      routines = routine (codes "NewHandle") role.NewHandle char_handle_id long ∷ record (routine (codes "putchar") role.Putchar int int) {
        routine = record { name = codes "putchar"; role = role.Putchar; moves = false; purges = false; fills = 0; size = 0 };
      } ∷ [];
      same = record { structs = []; types = [] };
      taken = [];
      main = 0;
    }

-- ---- its code

-- an operation at that place, with so many values on the stack before it
abbrev placed : ℕ → ℕ → ℕ → Op → Placed
placed line col places its = record { op = its; at = spot line col; piece = 0; places = places }

abbrev handle : ℕ → Op
handle place = op.Get (name.Local place)

-- Num(4), Conv, Shift(NewHandle), Routine(NewHandle), Set, Drop
abbrev makes : ℕ → ℕ → List Placed → List Placed
makes line variable rest =
    placed line 19 0 (op.Num 4)
    ∷ placed line 19 1 (op.Conv kind.Long)
    ∷ placed line 9 1 (op.Shift 0)
    ∷ placed line 9 1 (op.Routine 0)
    ∷ placed line 7 1 (op.Set (name.Local variable))
    ∷ placed line 5 1 op.Drop
    ∷ rest

abbrev operations : List Placed
operations =
    placed 3 1 0 op.Mark
    ∷ makes 6 0
    (placed 7 7 0 (handle 0)
    ∷ placed 7 6 1 (op.Load (access.Pointer 0))
    ∷ placed 7 11 1 (op.Num 65)
    ∷ placed 7 11 2 (op.Conv kind.Char)
    ∷ placed 7 9 2 (op.Store (access.Number kind.Char))
    ∷ placed 7 5 1 op.Drop
    ∷ placed 8 10 0 (handle 0)
    ∷ placed 8 9 1 (op.Load (access.Pointer 0))
    ∷ placed 8 7 1 (op.Set (name.Local 2))
    ∷ placed 8 5 1 op.Drop
    ∷ makes 9 1
    (placed 10 14 0 (handle 2)
    ∷ placed 10 13 1 (op.Load (access.Number kind.Char))
    ∷ placed 10 13 1 (op.Conv kind.Int)
    ∷ placed 10 5 1 (op.Routine 1)
    ∷ placed 10 5 1 op.Drop
    ∷ placed 11 12 0 (op.Num 0)
    ∷ placed 11 5 1 op.Return
    ∷ placed 12 1 0 op.Mark
    ∷ placed 12 1 0 (op.Num 0)
    ∷ placed 12 1 1 op.Return
    ∷ []))

abbrev main_code : CodeFunction
main_code = record { opening = spot 3 1; result = int; parameters = 0; variables = variables; code = record { ops = operations; cases = [] } }

abbrev code : CodeProgram
code = record { setting = setting_of program; functions = main_code ∷ []; main = 0 }

-- ---- runs

abbrev no_input : Input
no_input = record { bytes = []; words = []; refused = [] }

abbrev nothing : Decision
nothing = record { moves = These []; purges = These [] }

abbrev everything : Decision
everything = record { moves = All; purges = All }

-- what forty operations at most put out, and how they ended the run
abbrev ending_of : Ran Point → Ending
ending_of (went point s) = record { output = s.machine.output; outcome = TurnsSpent }
ending_of (over outcome s) = record { output = s.machine.output; outcome = outcome }

abbrev code_run : List Decision → Ending
code_run schedule = ending_of (then_with (steps 40 code) (begun code [] main_code (starting code.setting no_input schedule 0)))

it_prints : code_run [] ≡ record { output = 65 ∷ []; outcome = Finished (pos 0) }
it_prints = refl

it_prints_as_the_program : code_run [] ≡ run program no_input [] 0
it_prints_as_the_program = refl

it_is_stale : code_run (nothing ∷ everything ∷ []) ≡ record { output = []; outcome = Stopped stop.Stale (spot 10 13) }
it_is_stale = refl

it_is_stale_as_the_program : code_run (nothing ∷ everything ∷ []) ≡ run program no_input (nothing ∷ everything ∷ []) 0
it_is_stale_as_the_program = refl

-- ---- the kinds on its stack

abbrev kinds_of_one : Op → List Kind → Option (List Kind)
kinds_of_one its kinds = kinds_after (scope_of code main_code) its kinds

-- the kinds after an operation, if it notes how many values there are, and has its operands
abbrev next_kinds : Placed → Option (List Kind) → Option (List Kind)
next_kinds its None = None
next_kinds its (Some kinds) = if its.places == length kinds then kinds_of_one its.op kinds else None

-- after those operations, one after the other
abbrev kinds_along : List Placed → Option (List Kind) → Option (List Kind)
kinds_along [] kinds = kinds
kinds_along (its ∷ rest) kinds = kinds_along rest (next_kinds its kinds)

it_has_its_operands : kinds_along operations (Some []) ≡ Some []
it_has_its_operands = refl

a_count_is_wrong : kinds_along (placed 3 1 1 op.Mark ∷ []) (Some []) ≡ None
a_count_is_wrong = refl

nothing_is_popped_from_an_empty_stack : kinds_of_one op.Drop [] ≡ None
nothing_is_popped_from_an_empty_stack = refl

a_number_is_no_address : kinds_of_one (op.Load (access.Pointer 0)) (number ∷ []) ≡ None
a_number_is_no_address = refl

a_routine_takes_its_arguments : kinds_of_one (op.Routine 0) (number ∷ structure ∷ []) ≡ Some (pointer ∷ structure ∷ [])
a_routine_takes_its_arguments = refl

a_pointer_is_no_number : kinds_of_one (op.Routine 0) (pointer ∷ []) ≡ None
a_pointer_is_no_number = refl

a_slot_is_given_its_kind : kinds_of_one (op.Set (name.Local 0)) (number ∷ []) ≡ None
a_slot_is_given_its_kind = refl

the_second_is_brought : kinds_of_one (op.Bring 2) (number ∷ pointer ∷ structure ∷ []) ≡ Some (pointer ∷ number ∷ structure ∷ [])
the_second_is_brought = refl
