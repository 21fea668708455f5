-- What a function may do, itself or in the functions that it calls (own).
--     WholeCode                      a program with the code of its functions
--     Leads                          a chain of calls, each in the body of the one before
--     Does whole f P                 an operation of a function to which f leads is so
--     Assigns whole f g              f may assign the global g
--     IsRestoreAt whole f at         the operation puts back a state byte that was read from its handle
--     HasEffect whole f effect       f has the effect
--     impact_of whole                what calls do to must facts
--     HoldsAt whole f at fact        the must fact holds before that operation of f
-- Effects depend on restores, and restores on the must facts With and Saved. Of what calls do, these depend on assigned globals alone.
use Rattle.std.specs.Prelude.{◌≡◌, ◌⊎◌, ℕ, suc, ◌-◌, Bool, true, false, ◌||◌, List, [], slice_get, Option, Some, None}
use Rattle.hs_code.specs.Codes.{scope_of}
use Rattle.hs_code.specs.Stacks.{Scope}
use Rattle.hs_code.specs.declared.function_code.FunctionCode.{FunctionCode}
use Rattle.hs_code.specs.declared.function_code.Placed.{Placed}
use Rattle.hs_code.specs.declared.op.Op.{Op}
use Rattle.hs_code.specs.declared.op.Op.TheVariants as op
use Rattle.hs_facts.specs.Changes.{Impact}
use Rattle.hs_facts.specs.MustFacts.{MustFact, With, Saved, on_stack}
use Rattle.hs_facts.specs.Names.{role_in, taken}
use Rattle.hs_facts.specs.Rounds.{Holds}
use Rattle.hs_table.specs.declared.role.Role.{Role}
use Rattle.hs_table.specs.declared.role.Role.TheVariants as role
use Rattle.hs_tree.specs.Trees.{TypedFunction, TypedProgram}
use Rattle.hs_tree.specs.declared.class.Class.{Class}
use Rattle.hs_tree.specs.declared.function.BoundRoutine.{BoundRoutine}
use Rattle.hs_tree.specs.declared.head.Variable.{Variable}
use Rattle.hs_tree.specs.declared.head.Variable.TheVariants as name

-- ---- calls

-- a program, the classes of its pointers, and the code of each function, in their order
pub record WholeCode : Type 0 where
  pub program : TypedProgram
  pub classes : List Class
  pub functions : List FunctionCode

-- the operations of a function that is there
abbrev pub ops_in : Option FunctionCode → List Placed
ops_in None = []
ops_in (Some code) = code.ops

-- the operation of that number of that function
abbrev pub placed_in : WholeCode → ℕ → ℕ → Option Placed
placed_in whole f at = slice_get (ops_in (slice_get whole.functions f)) at

-- an operation of f is a call of g, whether control reaches it or not
pub record Calls (whole : WholeCode) (f g : ℕ) : Type 0 where
  pub at : ℕ
  pub its : Placed
  pub there : placed_in whole f at ≡ Some its
  pub calls : its.op ≡ op.Call g

-- a chain of calls, of any length
pub data Leads (whole : WholeCode) : ℕ → ℕ → Type 0 where
  itself : (f : ℕ) → Leads whole f f
  through : (f g h : ℕ) → Calls whole f g → Leads whole g h → Leads whole f h

-- an operation of a function to which f leads is so, by that function, its number and itself
pub record Does (whole : WholeCode) (f : ℕ) (IsSo : ℕ → ℕ → Op → Type 0) : Type 0 where
  pub last : ℕ
  pub leads : Leads whole f last
  pub at : ℕ
  pub its : Placed
  pub there : placed_in whole last at ≡ Some its
  pub so : IsSo last at its.op

-- ---- globals

-- f may assign the global of that place
abbrev pub Assigns : WholeCode → ℕ → ℕ → Type 0
Assigns whole f g = Does whole f (λ last at its. its ≡ op.Set (name.Global g))

-- ---- restores

-- of what calls do, With and Saved depend on assigned globals alone
abbrev pub only_assigns : WholeCode → Impact
only_assigns whole = record { assigns = Assigns whole; unlocks = λ f. ⊥; disposes = λ f. ⊥ }

-- the place of the first argument of a routine
abbrev pub first_argument : Scope → Placed → ℕ
first_argument scope its = its.places - taken scope its.op

-- a set_state whose byte was read from the handle on which it is put: one name has both facts
pub record IsRestoreAt (whole : WholeCode) (f at : ℕ) : Type 0 where
  pub function : TypedFunction
  pub of_function : slice_get whole.program.functions f ≡ Some function
  pub code : FunctionCode
  pub its_code : slice_get whole.functions f ≡ Some code
  pub its : Placed
  pub there : slice_get code.ops at ≡ Some its
  pub place : ℕ
  pub routine : its.op ≡ op.Routine place
  pub sets_state : role_in (slice_get whole.program.routines place) ≡ Some role.SetState
  pub handle : Variable
  pub held : Holds (scope_of whole.program function) code (only_assigns whole) at (With (first_argument (scope_of whole.program function) its) handle)
  pub read :
      Holds (scope_of whole.program function) code (only_assigns whole) at
      (Saved (on_stack (suc (first_argument (scope_of whole.program function) its))) handle)

-- ---- effects

pub data Effect : Type 0 where
  moves : Effect
  purges : Effect
  unlocks : Effect
  marks : Effect
  bits : Effect
  disposes : Effect

-- A routine that may purge counts as one that may move.
abbrev pub shift_has : Option BoundRoutine → Effect → Bool
shift_has None effect = false
shift_has (Some it) moves = it.routine.moves || it.routine.purges
shift_has (Some it) purges = it.routine.purges
shift_has (Some it) _ = false

-- a routine of that role, whatever it is called on
abbrev pub role_has : Option Role → Effect → Bool
role_has (Some role.Unlock) unlocks = true
role_has (Some role.Realloc) unlocks = true
role_has (Some role.Purge) marks = true
role_has (Some role.Lock) bits = true
role_has (Some role.Unlock) bits = true
role_has (Some role.Purge) bits = true
role_has (Some role.NoPurge) bits = true
role_has (Some role.GetState) bits = true
role_has (Some role.SetState) bits = true
role_has (Some role.Empty) bits = true
role_has (Some role.Realloc) bits = true
role_has (Some role.DisposeHandle) bits = true
role_has (Some role.DisposeHandle) disposes = true
role_has _ _ = false

-- a set_state that is no restore
abbrev pub change_has : Option Role → Effect → Bool
change_has (Some role.SetState) unlocks = true
change_has (Some role.SetState) marks = true
change_has _ _ = false

-- an operation, over the routines of its program, by whether it is a restore
abbrev pub OpHas : List BoundRoutine → Type 0 → Op → Effect → Type 0
OpHas routines Restores (op.Shift place) effect = shift_has (slice_get routines place) effect ≡ true
OpHas routines Restores (op.Routine place) effect =
    (role_has (role_in (slice_get routines place)) effect ≡ true)
    ⊎ ((change_has (role_in (slice_get routines place)) effect ≡ true) × ¬ Restores)
OpHas routines Restores _ effect = ⊥

-- the function has the effect
abbrev pub HasEffect : WholeCode → ℕ → Effect → Type 0
HasEffect whole f effect = Does whole f (λ last at its. OpHas whole.program.routines (IsRestoreAt whole last at) its effect)

-- what calls do to must facts
abbrev pub impact_of : WholeCode → Impact
impact_of whole = record { assigns = Assigns whole; unlocks = λ f. HasEffect whole f unlocks; disposes = λ f. HasEffect whole f disposes }

-- ---- the facts of a program

-- the must fact holds before the operation
pub record HoldsAt (whole : WholeCode) (f at : ℕ) (fact : MustFact) : Type 0 where
  pub function : TypedFunction
  pub of_function : slice_get whole.program.functions f ≡ Some function
  pub code : FunctionCode
  pub its_code : slice_get whole.functions f ≡ Some code
  pub holds : Holds (scope_of whole.program function) code (impact_of whole) at fact
