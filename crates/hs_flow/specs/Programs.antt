-- The steps of facts in a program (own).
--     scope_at whole f                        the scope of the function of that number
--     next_in whole f given op fact           the facts after an operation of the function
--     parameters_of whole f                   where the arguments of a call of the function go
--     callee_of whole answers f               what is known of the function that is called
--     slots_at whole f given                  how many slots there are at an operation of the function
--     IsTableFor whole answers f              the table has answers of the function
--     IsNumbered whole f                      variables and classes have numbers of 32 bits
use Rattle.std.specs.List.{position}
use Rattle.std.specs.Prelude.{◌<◌, ◌≤◌, ℕ, suc, ◌+◌, nat_lt, Bool, true, false, ◌&&◌, List, [], ◌∷◌, length, map, take, slice_get, Option, Some, None, if◌then◌else◌}
use Rattle.hs_code.specs.Codes.{signature_of}
use Rattle.hs_code.specs.Stacks.{Scope}
use Rattle.hs_code.specs.declared.op.Op.{Op}
use Rattle.hs_effects.specs.Answers.{Answers}
use Rattle.hs_effects.specs.Effecting.{number_of}
use Rattle.hs_facts.specs.Effects.{WholeCode, Effect, moves, purges, unlocks, marks}
use Rattle.hs_flow.specs.Calls.{Callee}
use Rattle.hs_flow.specs.Given.{Given}
use Rattle.hs_flow.specs.Next.{next_of}
use Rattle.hs_flow.specs.declared.fact.Fact.{Fact}
use Rattle.hs_flow.specs.declared.fact.Slot.{Slot}
use Rattle.hs_flow.specs.declared.fact.Slot.TheVariants as slot
use Rattle.hs_rows.specs.Sets.{has, width}
use Rattle.hs_tree.specs.Classes.{is_slot}
use Rattle.hs_tree.specs.Kinds.{is_pointer}
use Rattle.hs_tree.specs.Representatives.{type_for}
use Rattle.hs_tree.specs.Trees.{TypedFunction}
use Rattle.hs_tree.specs.contracts.class.ClassPartialEq.TheImpl as class_eq
use Rattle.hs_tree.specs.declared.class.Class.{Class}
use Rattle.hs_tree.specs.declared.class.Class.TheVariants as class
use Rattle.hs_tree.specs.declared.globals.Global.{Global}
use Rattle.hs_tree.specs.declared.head.Variable.TheVariants as name
use Rattle.hs_tree.specs.declared.head.VariableDecl.{VariableDecl}
use Rattle.hs_tree.specs.declared.representatives.Representatives.{Representatives}
use Rattle.hs_types.specs.TypeTables.{TypeTable}
use Rattle.hs_types.specs.declared.row.TypeId.{TypeId}

-- ---- operations

-- the variables of a function that is there
abbrev pub variables_in : Option TypedFunction → List VariableDecl
variables_in None = []
variables_in (Some its) = its.variables

-- its result
abbrev pub result_in : Option TypedFunction → TypeId
result_in None = record { number = 0 }
result_in (Some its) = its.result

-- what the kinds of the operations of the function depend on
abbrev pub scope_at : WholeCode → ℕ → Scope
scope_at whole f =
    record {
      types = whole.program.types;
      globals = whole.program.globals;
      variables = variables_in (slice_get whole.program.functions f);
      result = result_in (slice_get whole.program.functions f);
      functions = map signature_of whole.program.functions;
      routines = whole.program.routines;
    }

-- the facts after an operation of the function that is no call
abbrev pub next_in : WholeCode → ℕ → Given → Op → Fact → List Fact
next_in whole f given its fact = next_of (scope_at whole f) (length whole.classes) given its fact

-- ---- parameters

-- one and the same class
abbrev pub same_class : Class → Class → Bool
same_class = (class_eq.ghosts).eq

-- the class of a number, if there is one
abbrev pub class_slot : Option ℕ → Option Slot
class_slot None = None
class_slot (Some number) = Some (slot.Class number)

-- the class of the pointer in an object of that type, if the code names it: it is the class of an lvalue that is the object
abbrev pub object_slot : TypeTable → Representatives → List Class → TypeId → Option Slot
object_slot types same classes id =
    if is_pointer types id then class_slot (position (same_class (class.Pointer (type_for same id))) classes) else None

-- A parameter that is a slot gets the argument itself. One that is an object keeps it in memory, where its class has it.
abbrev pub parameter_slot : TypeTable → Representatives → List Class → ℕ → VariableDecl → Option Slot
parameter_slot types same classes place its =
    if is_slot types its then Some (slot.Variable (name.Local place)) else object_slot types same classes its.type_id

-- each parameter from that place on
abbrev pub parameter_slots : TypeTable → Representatives → List Class → ℕ → List VariableDecl → List (Option Slot)
parameter_slots types same classes place [] = []
parameter_slots types same classes place (its ∷ rest) =
    parameter_slot types same classes place its ∷ parameter_slots types same classes (suc place) rest

-- the parameters of a function that is there
abbrev pub parameters_in : Option TypedFunction → List VariableDecl
parameters_in None = []
parameters_in (Some its) = take its.parameters its.variables

-- where the arguments of a call of the function go, in their order
abbrev pub parameters_of : WholeCode → ℕ → List (Option Slot)
parameters_of whole f =
    parameter_slots whole.program.types whole.program.same whole.classes 0 (parameters_in (slice_get whole.program.functions f))

-- ---- effects

-- the function may assign a global that is there
abbrev pub assigns_in : WholeCode → Answers → ℕ → ℕ → Bool
assigns_in whole answers f g = nat_lt g (length whole.program.globals) && has answers.assigned f g

-- the function has the effect
abbrev pub does : Answers → ℕ → Effect → Bool
does answers f effect = has answers.effects f (number_of effect)

-- what a table of effects answers of the function
abbrev pub callee_of : WholeCode → Answers → ℕ → Callee
callee_of whole answers f =
    record {
      moves = does answers f moves;
      purges = does answers f purges;
      unlocks = does answers f unlocks;
      marks = does answers f marks;
      assigns = assigns_in whole answers f;
      parameters = parameters_of whole f;
    }

-- the table has rows for the function and for each global
pub record IsTableFor (whole : WholeCode) (answers : Answers) (f : ℕ) : Type 0 where
  pub effects : f < answers.effects.count
  pub assigned : f < answers.assigned.count
  pub globals : length whole.program.globals ≤ width answers.assigned

-- ---- slots

-- one or none
abbrev pub one_if : Bool → ℕ
one_if true = 1
one_if false = 0

-- how many variables of the program are slots
abbrev pub global_slots : TypeTable → List Global → ℕ
global_slots types [] = 0
global_slots types (it ∷ rest) = one_if (is_slot types it.variable) + global_slots types rest

-- how many variables of a function are slots
abbrev pub local_slots : TypeTable → List VariableDecl → ℕ
local_slots types [] = 0
local_slots types (it ∷ rest) = one_if (is_slot types it) + local_slots types rest

-- the variables that are slots, so many places of the stack, and the classes
abbrev pub valued_slots : Scope → ℕ → ℕ → ℕ
valued_slots scope classes places = global_slots scope.types scope.globals + (local_slots scope.types scope.variables + (places + classes))

-- and nothing, and the result
abbrev pub slots_in : Scope → ℕ → ℕ → ℕ
slots_in scope classes places = 2 + valued_slots scope classes places

-- how many slots there are at an operation of the function
abbrev pub slots_at : WholeCode → ℕ → Given → ℕ
slots_at whole f given = slots_in (scope_at whole f) (length whole.classes) given.places

-- at most so many of them may have a handle whose state is put back, if the arguments are the places from that one on
abbrev pub restorable_slots : WholeCode → ℕ → ℕ → ℕ
restorable_slots whole f base = valued_slots (scope_at whole f) (length whole.classes) base

-- variables and classes have numbers of 32 bits
pub record IsNumbered (whole : WholeCode) (f : ℕ) : Type 0 where
  pub globals : length whole.program.globals ≤ 4294967295
  pub locals : length (variables_in (slice_get whole.program.functions f)) ≤ 4294967295
  pub classes : length whole.classes ≤ 4294967295
