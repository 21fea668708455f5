-- Runs of a few operations each, written by hand: what each leaves on the stack, where control goes on, and how a run ends.
use Rattle.std.proofs.Common.{◌≡◌, ℕ, pos, negsuc, true, false, Bool, List, [], ◌∷◌, refl}
use Rattle.hs_base.specs.declared.pos.Pos.{Pos}
use Rattle.hs_code.specs.declared.function_code.Case.{Case}
use Rattle.hs_code.specs.declared.function_code.Placed.{Placed}
use Rattle.hs_code.specs.declared.op.Access.TheVariants as access
use Rattle.hs_code.specs.declared.op.Binary.TheVariants as binary
use Rattle.hs_code.specs.declared.op.Object.TheVariants as object
use Rattle.hs_code.specs.declared.op.Op.{Op}
use Rattle.hs_code.specs.declared.op.Op.TheVariants as op
use Rattle.hs_code.specs.declared.op.Unary.TheVariants as unary
use Rattle.hs_code_run.specs.Codes.{CodeFunction, CodeProgram, Point}
use Rattle.hs_code_run.specs.Runs.{begun, steps}
use Rattle.hs_meaning.specs.Runs.{starting}
use Rattle.hs_meaning.specs.Settings.{Setting}
use Rattle.hs_meaning.specs.Steps.{Ran, went, over, then_with}
use Rattle.hs_meaning.specs.declared.outcome.Outcome.{Outcome}
use Rattle.hs_meaning.specs.declared.outcome.Outcome.TheVariants.{Finished, Stopped, TurnsSpent}
use Rattle.hs_meaning.specs.declared.outcome.Stop.TheVariants as stop
use Rattle.hs_tokens.specs.declared.token.Origin.TheVariants as origin
use Rattle.hs_tree.specs.declared.head.Variable.TheVariants as name
use Rattle.hs_tree.specs.declared.head.VariableDecl.{VariableDecl}
use Rattle.hs_tree.specs.declared.operators.Arithmetic.TheVariants as arithmetic
use Rattle.hs_tree.specs.declared.operators.Comparison.TheVariants as comparison
use Rattle.hs_types.specs.Rows.{integer_id}
use Rattle.hs_types.specs.TypeTables.{basic_types}
use Rattle.hs_types.specs.declared.integer.Integer.TheVariants as kind
use Rattle.hs_types.specs.declared.row.TypeId.{TypeId}

abbrev spot : Pos
spot = record { file = 0; line = 1; col = 1 }

abbrev long : TypeId
long = integer_id kind.Long

-- a variable of 4 bytes, which is an object if its address is taken
abbrev variable : Bool → VariableDecl
variable taken = record { name = []; at = record { pos = spot; origin = origin.Plain }; type_id = long; taken = taken }

abbrev setting : Setting
setting = record { types = basic_types; globals = []; literals = []; routines = []; same = record { structs = []; types = [] }; taken = []; classes = [] }

abbrev placed : List Op → List Placed
placed [] = []
placed (its ∷ rest) = record { op = its; at = spot; piece = 0; places = 0 } ∷ placed rest

abbrev function : ℕ → List VariableDecl → List Op → List Case → CodeFunction
function parameters variables ops cases =
    record { opening = spot; result = long; parameters = parameters; variables = variables; code = record { ops = placed ops; cases = cases } }

-- `main` with an object and a slot, and a function that takes its second parameter from its first
abbrev main_with : List Op → List Case → CodeFunction
main_with ops cases = function 0 (variable true ∷ variable false ∷ []) ops cases

abbrev minus : Op
minus = op.Binary (binary.Arithmetic arithmetic.Subtract) kind.Long

abbrev first_less_second : CodeFunction
first_less_second =
    function 2 (variable false ∷ variable false ∷ []) (op.Get (name.Local 0) ∷ op.Get (name.Local 1) ∷ minus ∷ op.Return ∷ []) []

abbrev program : List Op → List Case → CodeProgram
program ops cases = record { setting = setting; functions = main_with ops cases ∷ first_less_second ∷ []; main = 0 }

abbrev outcome_of : Ran Point → Outcome
outcome_of (went point s) = TurnsSpent
outcome_of (over outcome s) = outcome

-- how twenty operations at most end the run
abbrev ends_with : List Op → List Case → List Bool → ℕ → Outcome
ends_with ops cases choices turns =
    outcome_of
    (then_with (steps 20 (program ops cases))
    (begun (program ops cases) choices (main_with ops cases)
    (starting setting (record { bytes = []; words = []; refused = [] }) [] turns)))

-- without choices, cases and turns
abbrev gives : List Op → Outcome
gives ops = ends_with ops [] [] 0

-- ---- the stack

the_lower_operand_is_the_left_one : gives (op.Num 7 ∷ op.Num 3 ∷ minus ∷ op.Return ∷ []) ≡ Finished (pos 4)
the_lower_operand_is_the_left_one = refl

a_copy_is_on_top : gives (op.Num 7 ∷ op.Dup ∷ minus ∷ op.Return ∷ []) ≡ Finished (pos 0)
a_copy_is_on_top = refl

drop_takes_the_top : gives (op.Num 7 ∷ op.Num 3 ∷ op.Drop ∷ op.Return ∷ []) ≡ Finished (pos 7)
drop_takes_the_top = refl

-- 1 and 2 on top of it: 1 - 2 is taken from the copy of 2 below
a_copy_is_below : gives (op.Num 1 ∷ op.Num 2 ∷ op.Tuck ∷ minus ∷ minus ∷ op.Return ∷ []) ≡ Finished (pos 3)
a_copy_is_below = refl

-- 5, 2, 1 from the bottom: 5 comes to the top, then 1 - 5, and 2 - that
the_third_is_brought : gives (op.Num 5 ∷ op.Num 2 ∷ op.Num 1 ∷ op.Bring 3 ∷ minus ∷ minus ∷ op.Return ∷ []) ≡ Finished (pos 6)
the_third_is_brought = refl

the_first_is_brought : gives (op.Num 7 ∷ op.Num 3 ∷ op.Bring 1 ∷ minus ∷ op.Return ∷ []) ≡ Finished (pos 4)
the_first_is_brought = refl

-- ---- operations of the machine

a_slot_keeps_what_it_is_given : gives
    (op.Num 7 ∷ op.Set (name.Local 1) ∷ op.Drop ∷ op.Get (name.Local 1) ∷ op.Return ∷ []) ≡ Finished (pos 7)
a_slot_keeps_what_it_is_given = refl

set_leaves_the_value : gives (op.Num 7 ∷ op.Set (name.Local 1) ∷ op.Return ∷ []) ≡ Finished (pos 7)
set_leaves_the_value = refl

an_object_keeps_what_is_stored : gives
    (op.Address (object.Variable (name.Local 0))
    ∷ op.Num 7
    ∷ op.Store (access.Number kind.Long)
    ∷ op.Drop
    ∷ op.Address (object.Variable (name.Local 0))
    ∷ op.Load (access.Number kind.Long)
    ∷ op.Return
    ∷ []) ≡ Finished (pos 7)
an_object_keeps_what_is_stored = refl

the_last_byte_is_the_low_one : gives
    (op.Address (object.Variable (name.Local 0))
    ∷ op.Num 7
    ∷ op.Store (access.Number kind.Long)
    ∷ op.Drop
    ∷ op.Address (object.Variable (name.Local 0))
    ∷ op.Offset 3
    ∷ op.Load (access.Number kind.Char)
    ∷ op.Return
    ∷ []) ≡ Finished (pos 7)
the_last_byte_is_the_low_one = refl

a_byte_is_a_number_of_its_type : gives (op.Num 255 ∷ op.Conv kind.Char ∷ op.Return ∷ []) ≡ Finished (negsuc 0)
a_byte_is_a_number_of_its_type = refl

not_of_a_number : gives (op.Num 7 ∷ op.Unary unary.Not ∷ op.Return ∷ []) ≡ Finished (pos 0)
not_of_a_number = refl

a_comparison_leaves_one : gives
    (op.Num 3 ∷ op.Num 7 ∷ op.Binary (binary.Comparison comparison.Less) kind.Long ∷ op.Return ∷ []) ≡ Finished (pos 1)
a_comparison_leaves_one = refl

nil_is_nil : gives (op.Nil ∷ op.IsNil ∷ op.Return ∷ []) ≡ Finished (pos 1)
nil_is_nil = refl

an_object_is_not_nil : gives (op.Address (object.Variable (name.Local 0)) ∷ op.IsNil ∷ op.Return ∷ []) ≡ Finished (pos 0)
an_object_is_not_nil = refl

bytes_are_between : gives
    (op.Address (object.Variable (name.Local 0))
    ∷ op.Offset 4
    ∷ op.Address (object.Variable (name.Local 0))
    ∷ op.Difference 1
    ∷ op.Return
    ∷ []) ≡ Finished (pos 4)
bytes_are_between = refl

addresses_are_compared : gives
    (op.Address (object.Variable (name.Local 0))
    ∷ op.Address (object.Variable (name.Local 0))
    ∷ op.Offset 1
    ∷ op.Compare comparison.Less
    ∷ op.Return
    ∷ []) ≡ Finished (pos 1)
addresses_are_compared = refl

nil_is_not_loaded : gives (op.Nil ∷ op.Load (access.Number kind.Long) ∷ op.Return ∷ []) ≡ Stopped stop.Nil spot
nil_is_not_loaded = refl

-- ---- control

zero_jumps : gives (op.Num 0 ∷ op.Zero 4 ∷ op.Num 1 ∷ op.Return ∷ op.Num 2 ∷ op.Return ∷ []) ≡ Finished (pos 2)
zero_jumps = refl

one_goes_on : gives (op.Num 1 ∷ op.Zero 4 ∷ op.Num 1 ∷ op.Return ∷ op.Num 2 ∷ op.Return ∷ []) ≡ Finished (pos 1)
one_goes_on = refl

a_jump_goes_there : gives (op.Jump 3 ∷ op.Num 1 ∷ op.Return ∷ op.Num 2 ∷ op.Return ∷ []) ≡ Finished (pos 2)
a_jump_goes_there = refl

-- the cases 7 and 9; the first two of the list belong to another switch
abbrev cases : List Case
cases =
    record { bits = 9; target = 2 }
    ∷ record { bits = 7; target = 2 }
    ∷ record { bits = 7; target = 4 }
    ∷ record { bits = 9; target = 6 }
    ∷ record { bits = 8; target = 2 }
    ∷ []

abbrev chooses : ℕ → Outcome
chooses bits =
    ends_with
    (op.Num bits
    ∷ op.Choose (record { first = 2; end = 4; default = 8 })
    ∷ op.Num 1
    ∷ op.Return
    ∷ op.Num 2
    ∷ op.Return
    ∷ op.Num 3
    ∷ op.Return
    ∷ op.Num 4
    ∷ op.Return
    ∷ [])
    cases [] 0

the_first_case_fits : chooses 7 ≡ Finished (pos 2)
the_first_case_fits = refl

the_last_case_fits : chooses 9 ≡ Finished (pos 3)
the_last_case_fits = refl

a_case_of_another_switch_does_not : chooses 8 ≡ Finished (pos 4)
a_case_of_another_switch_does_not = refl

abbrev picks : List Bool → Outcome
picks choices = ends_with (op.Pick 3 ∷ op.Num 1 ∷ op.Return ∷ op.Pick 6 ∷ op.Num 2 ∷ op.Return ∷ op.Num 3 ∷ op.Return ∷ []) [] choices 0

past_the_end_a_choice_is_zero : picks [] ≡ Finished (pos 1)
past_the_end_a_choice_is_zero = refl

the_first_choice_is_taken : picks (true ∷ []) ≡ Finished (pos 2)
the_first_choice_is_taken = refl

each_choice_is_taken_once : picks (true ∷ true ∷ []) ≡ Finished (pos 3)
each_choice_is_taken_once = refl

-- ---- calls and turns

the_last_argument_is_the_top : ends_with (op.Num 7 ∷ op.Num 3 ∷ op.Call 1 ∷ op.Return ∷ []) [] [] 1 ≡ Finished (pos 4)
the_last_argument_is_the_top = refl

what_is_below_the_arguments_stays : ends_with (op.Num 9 ∷ op.Num 7 ∷ op.Num 3 ∷ op.Call 1 ∷ minus ∷ op.Return ∷ []) [] [] 1 ≡ Finished (pos 5)
what_is_below_the_arguments_stays = refl

the_variables_of_the_caller_come_back : ends_with
    (op.Num 9
    ∷ op.Set (name.Local 1)
    ∷ op.Drop
    ∷ op.Num 7
    ∷ op.Num 3
    ∷ op.Call 1
    ∷ op.Drop
    ∷ op.Get (name.Local 1)
    ∷ op.Return
    ∷ [])
    [] [] 1 ≡ Finished (pos 9)
the_variables_of_the_caller_come_back = refl

a_call_costs_a_turn : gives (op.Num 7 ∷ op.Num 3 ∷ op.Call 1 ∷ op.Return ∷ []) ≡ TurnsSpent
a_call_costs_a_turn = refl

a_turn_is_taken : ends_with (op.Turn ∷ op.Turn ∷ op.Num 1 ∷ op.Return ∷ []) [] [] 2 ≡ Finished (pos 1)
a_turn_is_taken = refl

no_turn_is_left : ends_with (op.Turn ∷ op.Turn ∷ op.Num 1 ∷ op.Return ∷ []) [] [] 1 ≡ TurnsSpent
no_turn_is_left = refl

-- ---- what no code of a program does

nothing_to_return : gives (op.Return ∷ []) ≡ Stopped stop.BadPointer spot
nothing_to_return = refl

no_such_function : ends_with (op.Call 7 ∷ op.Return ∷ []) [] [] 1 ≡ Stopped stop.BadPointer spot
no_such_function = refl

past_the_end_of_the_code : gives (op.Num 1 ∷ []) ≡ Stopped stop.BadPointer (record { file = 0; line = 0; col = 0 })
past_the_end_of_the_code = refl
