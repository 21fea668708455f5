-- The most values and variables are so of each function.
--     values_at, variables_at       of an operation, and of a function
--     room_enough                   a step gives no more facts than these and classes and globals
use Rattle.hs_chains.specs.Knowledge.{places_of}
use Rattle.hs_code.specs.declared.function_code.FunctionCode.{FunctionCode}
use Rattle.hs_code.specs.declared.function_code.Placed.{Placed}
use Rattle.hs_facts.specs.Effects.{WholeCode, ops_in, placed_in}
use Rattle.hs_flow.specs.Given.{Given}
use Rattle.hs_flow.specs.Programs.{global_slots, local_slots, one_if, scope_at, slots_at, variables_in}
use Rattle.hs_restores.specs.Laws.Jobs.{greatest_at}
use Rattle.hs_restores.specs.Stepping.{greatest}
use Rattle.hs_taint.specs.Sizes.{most_values, most_variables}
use Rattle.hs_tree.specs.Classes.{is_slot}
use Rattle.hs_tree.specs.Views.{view_function}
use Rattle.hs_tree.specs.declared.function.Function.{Function}
use Rattle.hs_tree.specs.declared.globals.Global.{Global}
use Rattle.hs_tree.specs.declared.head.VariableDecl.{VariableDecl}
use Rattle.hs_types.specs.TypeTables.{TypeTable}
use Rattle.std.proofs.Common.{◌≡◌, ◌≤◌, ℕ, zero, suc, ◌+◌, max, Bool, true, false, List, [], ◌∷◌, length, map, slice_get, Option, Some, None, subst, sym, refl, arith}

-- ---- values

greatest_least : (least : ℕ) (ops : List Placed) → least ≤ greatest least ops
greatest_least least [] = omega (arith)
greatest_least least (its ∷ rest) = let next = greatest_least (max least its.places) rest in omega (arith)

values_least : (least : ℕ) (functions : List FunctionCode) → least ≤ most_values least functions
values_least least [] = omega (arith)
values_least least (code ∷ rest) =
    let here = greatest_least least code.ops in
    let next = values_least (greatest least code.ops) rest in
    omega (arith)

-- no operation notes more
pub values_at : (least : ℕ) (functions : List FunctionCode) (f at : ℕ) (its : Placed) → slice_get (ops_in (slice_get functions f)) at ≡ Some its
    → its.places ≤ most_values least functions
values_at least [] f at its there = absurd cc
values_at least (code ∷ rest) zero at its there =
    let here = greatest_at least code.ops at its there in
    let next = values_least (greatest least code.ops) rest in
    omega (arith)
values_at least (code ∷ rest) (suc f) at its there = values_at (greatest least code.ops) rest f at its there

-- ---- variables

variables_least : (least : ℕ) (functions : List Function) → least ≤ most_variables least functions
variables_least least [] = omega (arith)
variables_least least (function ∷ rest) = let next = variables_least (max least (length function.variables)) rest in omega (arith)

-- no function has more
pub variables_at : (least : ℕ) (functions : List Function) (f : ℕ)
    → length (variables_in (slice_get (map view_function functions) f)) ≤ most_variables least functions
variables_at least [] f = omega (arith)
variables_at least (function ∷ rest) zero = let next = variables_least (max least (length function.variables)) rest in omega (arith)
variables_at least (function ∷ rest) (suc f) = variables_at (max least (length function.variables)) rest f

-- ---- slots

one_small : (b : Bool) → one_if b ≤ 1
one_small true = omega (arith)
one_small false = omega (arith)

globals_few : (types : TypeTable) (globals : List Global) → global_slots types globals ≤ length globals
globals_few types [] = omega (arith)
globals_few types (it ∷ rest) =
    let one = one_small (is_slot types it.variable) in
    let next = globals_few types rest in
    omega (arith)

locals_few : (types : TypeTable) (variables : List VariableDecl) → local_slots types variables ≤ length variables
locals_few types [] = omega (arith)
locals_few types (it ∷ rest) =
    let one = one_small (is_slot types it) in
    let next = locals_few types rest in
    omega (arith)

-- the values before an operation, if it is there
places_few : (most : ℕ) (o : Option Placed) → ((its : Placed) → o ≡ Some its → its.places ≤ most) → places_of o ≤ most
places_few most None deep = omega (arith)
places_few most (Some its) deep = deep its refl

-- a step gives no more facts
pub room_enough : (whole : WholeCode) (functions : List Function) (room : ℕ) → whole.program.functions ≡ map view_function functions
    → 6 + (length whole.program.globals + (most_variables 0 functions + (most_values 0 whole.functions + length whole.classes))) ≤ room
    → (f at : ℕ) (given : Given) → given.places ≡ places_of (placed_in whole f at) → 4 + slots_at whole f given ≤ room
room_enough whole functions room viewed fits f at given places =
    let globals = globals_few whole.program.types whole.program.globals in
    let locals = locals_few whole.program.types (scope_at whole f).variables in
    let few : length (scope_at whole f).variables ≤ most_variables 0 functions =
    subst (λ all. length (variables_in (slice_get all f)) ≤ most_variables 0 functions) (sym viewed) (variables_at 0 functions f) in
    let deep : places_of (placed_in whole f at) ≤ most_values 0 whole.functions =
    places_few (most_values 0 whole.functions) (placed_in whole f at) (values_at 0 whole.functions f at) in
    omega (arith)
