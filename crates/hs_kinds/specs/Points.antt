-- What holds of a point of a run: each value on a stack, in a variable and of a waiting call is of its kind.
--     IsTypedCode program              what the code of a typed program keeps
--     IsKindCall program frame locals  the call that goes on
--     AreKindWaiting program id its    calls that wait, the first of them for a value of that type
--     IsKindPoint program point s      all of it
use Rattle.std.proofs.Common.{◌≡◌, ℕ, zero, suc, List, [], ◌∷◌, map, slice_get, option_map, Some, refl}
use Rattle.std.specs.List.{AllByRecursion}
use Rattle.hs_code.specs.Stacks.{Kind, Reaches, kind_of}
use Rattle.hs_code.specs.Stacks as kind
use Rattle.hs_code_run.specs.Codes.{CodeFunction, CodeProgram, Frame, Waiting, Point, scope_of, signature_of}
use Rattle.hs_code_run.specs.Depths.{AreStacked}
use Rattle.hs_kinds.specs.Kinds.{AreOfKinds, FitBindings}
use Rattle.hs_meaning.specs.Machine.{Binding}
use Rattle.hs_meaning.specs.Objects.{variables_of}
use Rattle.hs_meaning.specs.Steps.{State}
use Rattle.hs_tree.specs.Fitting.{HasRole}
use Rattle.hs_types.specs.declared.row.TypeId.{TypeId}

-- what the code of a typed program keeps
pub record IsTypedCode (program : CodeProgram) : Type 0 where
  pub stacked : AreStacked program
  pub roles : AllByRecursion (HasRole program.setting.types) program.setting.routines
  pub main : (function : CodeFunction) → slice_get program.functions program.main ≡ Some function
      → kind_of program.setting.types function.result ≡ kind.number

-- a call of one of the functions
pub record IsKindCall (program : CodeProgram) (frame : Frame) (locals : List Binding) : Type 0 where
  pub place : ℕ
  pub function : CodeFunction
  pub there : slice_get program.functions place ≡ Some function
  pub code : function.code ≡ frame.code
  pub kinds : List Kind
  pub reached : Reaches (scope_of program function) frame.code frame.at kinds
  pub values : AreOfKinds kinds frame.stack
  pub fits : FitBindings program.setting.types function.variables locals

-- it waits for a value of that type
pub record IsKindWaiting (program : CodeProgram) (id : TypeId) (caller : Waiting) : Type 0 where
  pub place : ℕ
  pub function : CodeFunction
  pub there : slice_get program.functions place ≡ Some function
  pub code : function.code ≡ caller.frame.code
  pub kinds : List Kind
  pub reached : Reaches (scope_of program function) caller.frame.code caller.frame.at (kind_of program.setting.types id ∷ kinds)
  pub values : AreOfKinds kinds caller.frame.stack
  pub fits : FitBindings program.setting.types function.variables caller.locals

-- the result of `main` is a number
abbrev pub AreKindWaiting : CodeProgram → TypeId → List Waiting → Type 0
AreKindWaiting program id [] = kind_of program.setting.types id ≡ kind.number
AreKindWaiting program id (caller ∷ rest) = (its : IsKindWaiting program id caller) × AreKindWaiting program its.function.result rest

-- all calls, and the variables of the program
pub record IsKindPoint (program : CodeProgram) (point : Point) (s : State) : Type 0 where
  pub call : IsKindCall program point.frame s.machine.locals
  pub waiting : AreKindWaiting program call.function.result point.waiting
  pub globals : FitBindings program.setting.types (variables_of program.setting.globals) s.machine.globals

-- the signatures that the code is checked against are those of its functions
pub signature_there : (place : ℕ) (functions : List CodeFunction)
    → slice_get (map signature_of functions) place ≡ option_map signature_of (slice_get functions place)
signature_there place [] = refl
signature_there zero (it ∷ functions) = refl
signature_there (suc place) (it ∷ functions) = signature_there place functions
