-- The restores of a function, as they are found (own).
--     sets_state routines op         the operation is a set_state
--     sets_any routines ops          one of the operations is
--     Shows scope plan sets at its   the row before the operation shows that it is a restore
--     Noted whole f names bound row  restores are noted: those whose handle is among so many of the names
--     AddsShown ..                   those that the rows show are noted too
--     IsAssigned whole sets          which globals functions may assign
--     IsReady ..                     what is known of a function and its lists
use Rattle.std.specs.Bool.{Decides}
use Rattle.std.specs.Prelude.{◌≡◌, ◌<◌, ◌≤◌, ◌⊎◌, ℕ, suc, set, nat_lt, Bool, true, false, ◌&&◌, ◌||◌, List, [], ◌∷◌, length, slice_get, Option, Some}
use Rattle.hs_code.specs.Codes.{is_slot_in, scope_of}
use Rattle.hs_code.specs.Stacks.{Scope, variable_in}
use Rattle.hs_code.specs.declared.function_code.FunctionCode.{FunctionCode}
use Rattle.hs_code.specs.declared.function_code.Placed.{Placed}
use Rattle.hs_code.specs.declared.op.Op.{Op}
use Rattle.hs_code.specs.declared.op.Op.TheVariants as op
use Rattle.hs_effects.specs.Effecting.{noted}
use Rattle.hs_fact_rows.specs.Cells.{index_of}
use Rattle.hs_fact_rows.specs.Given.{facts_in, saved_of, with_of}
use Rattle.hs_fact_rows.specs.declared.plan.Plan.{Plan}
use Rattle.hs_facts.specs.Effects.{WholeCode, Assigns, IsRestoreAt, first_argument, ops_in}
use Rattle.hs_facts.specs.Names.{role_in}
use Rattle.hs_restores.specs.Laws.Numbering.{is_in}
use Rattle.hs_restores.specs.declared.assigning.Assigning.{Assigning}
use Rattle.hs_rows.specs.Sets.{Sets, has, width}
use Rattle.hs_table.specs.declared.role.Role.{Role}
use Rattle.hs_table.specs.declared.role.Role.TheVariants as role
use Rattle.hs_tree.specs.Trees.{TypedFunction}
use Rattle.hs_tree.specs.declared.function.BoundRoutine.{BoundRoutine}
use Rattle.hs_tree.specs.declared.head.Variable.{Variable}
use Rattle.hs_tree.specs.declared.head.Variable.TheVariants as name

-- the role of set_state
abbrev pub is_set_state : Option Role → Bool
is_set_state (Some role.SetState) = true
is_set_state _ = false

-- an operation that is a call of such a routine
abbrev pub sets_state : List BoundRoutine → Op → Bool
sets_state routines (op.Routine place) = is_set_state (role_in (slice_get routines place))
sets_state routines _ = false

-- one of these operations is
abbrev pub sets_any : List BoundRoutine → List Placed → Bool
sets_any routines [] = false
sets_any routines (its ∷ rest) = sets_state routines its.op || sets_any routines rest

-- a name has With of its first argument, and Saved of its second one
pub record IsSharedIn (scope : Scope) (plan : Plan) (sets : Sets) (at : ℕ) (its : Placed) : Type 0 where
  pub number : ℕ
  pub below : number < plan.names
  pub held : with_of (facts_in plan sets at) its.places (first_argument scope its) number ≡ true
  pub read : saved_of (facts_in plan sets at) its.places (suc (first_argument scope its)) number ≡ true

-- it is a set_state, and the row has both facts
abbrev pub Shows : Scope → Plan → Sets → ℕ → Placed → Type 0
Shows scope plan sets at its = (sets_state scope.routines its.op ≡ true) × IsSharedIn scope plan sets at its

-- what is noted is a restore; those whose handle has a number below that one are noted
pub record Noted (whole : WholeCode) (f : ℕ) (names : List Variable) (bound : ℕ) (row : List Bool) : Type 0 where
  pub long : length row ≡ length (ops_in (slice_get whole.functions f))
  pub back : (at : ℕ) → noted (slice_get row at) ≡ true → IsRestoreAt whole f at
  pub first : (at : ℕ) (its : IsRestoreAt whole f at) → index_of names its.handle < bound → noted (slice_get row at) ≡ true

-- what the rows show up to that operation is noted too
pub record AddsShown (scope : Scope) (plan : Plan) (sets : Sets) (ops : List Placed) (done : ℕ) (old new : List Bool) : Type 0 where
  pub long : length new ≡ length old
  pub kept : (at : ℕ) → noted (slice_get old at) ≡ true → noted (slice_get new at) ≡ true
  pub comes : (at : ℕ) (its : Placed) → at < done → slice_get ops at ≡ Some its → Shows scope plan sets at its → noted (slice_get new at) ≡ true
  pub back : (at : ℕ) → noted (slice_get new at) ≡ true
      → (noted (slice_get old at) ≡ true) ⊎ ((its : Placed) × (slice_get ops at ≡ Some its) × Shows scope plan sets at its)

-- an operation is noted
abbrev pub note : Bool → ℕ → List Bool → List Bool
note true at row = set row at true
note false at row = row

-- ---- a function

-- a call of the function may assign the global, if both are there
abbrev pub assigned_of : Assigning → ℕ → ℕ → Bool
assigned_of its f g = nat_lt f its.functions && (nat_lt g its.globals && has its.assigned.now f g)

-- rows of sets say which globals each function may assign
pub record IsAssigned (whole : WholeCode) (sets : Sets) : Type 0 where
  pub count : sets.count ≡ length whole.functions
  pub wide : length whole.program.globals ≤ width sets
  pub exact : (f g : ℕ) → f < sets.count → g < length whole.program.globals → Decides (has sets f g) (Assigns whole f g)

-- a function of the program with its code; what calls may assign, and which slots are listed
pub record IsReady (whole : WholeCode) (f : ℕ) (function : TypedFunction) (code : FunctionCode) (slots : List Variable) (assigned : ℕ → ℕ → Bool)
    : Type 0 where
  pub of_function : slice_get whole.program.functions f ≡ Some function
  pub of_code : slice_get whole.functions f ≡ Some code
  pub assigned_true : (g h : ℕ) → assigned g h ≡ true → Assigns whole g h
  pub assigns_true : (g h : ℕ) → Assigns whole g h → assigned g h ≡ true
  pub gets : (at : ℕ) (its : Placed) (v : Variable) → slice_get code.ops at ≡ Some its → its.op ≡ op.Get v
      → is_slot_in whole.program.types (variable_in (scope_of whole.program function) v) ≡ true
  pub sets : (at : ℕ) (its : Placed) (v : Variable) → slice_get code.ops at ≡ Some its → its.op ≡ op.Set v → is_in slots v ≡ true
  pub calls : (at : ℕ) (its : Placed) (called g : ℕ) → slice_get code.ops at ≡ Some its → its.op ≡ op.Call called
      → is_slot_in whole.program.types (variable_in (scope_of whole.program function) (name.Global g)) ≡ true → assigned called g ≡ true
      → is_in slots (name.Global g) ≡ true
