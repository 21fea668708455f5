-- How many values are on the stacks of a run (own).
--     AreStacked program              the code of each function has its operands and notes how many values there are
--     IsDeep program count frame      a call is at an operation that is reached with so many values on its stack
--     IsDeepPoint program point       so is the call that goes on, and each one that waits for a value
use Rattle.std.specs.Prelude.{◌≡◌, ◌≤◌, ℕ, suc, List, [], ◌∷◌, length, slice_get, Some}
use Rattle.hs_code.specs.Stacks.{Kind, Reaches, IsStacked}
use Rattle.hs_code_run.specs.Codes.{CodeFunction, CodeProgram, Frame, Waiting, Point, scope_of}

-- its parameters are among its variables
pub record IsStackedFunction (program : CodeProgram) (function : CodeFunction) : Type 0 where
  pub parameters : function.parameters ≤ length function.variables
  pub code : IsStacked (scope_of program function) function.code

-- each function
abbrev pub AreStacked : CodeProgram → Type 0
AreStacked program =
    (place : ℕ) (function : CodeFunction) → slice_get program.functions place ≡ Some function → IsStackedFunction program function

-- a call of one of the functions
pub record IsDeep (program : CodeProgram) (count : ℕ) (frame : Frame) : Type 0 where
  pub place : ℕ
  pub function : CodeFunction
  pub there : slice_get program.functions place ≡ Some function
  pub code : function.code ≡ frame.code
  pub kinds : List Kind
  pub reached : Reaches (scope_of program function) frame.code frame.at kinds
  pub deep : count ≡ length kinds

-- a call that waits is given one value
abbrev pub AreDeep : CodeProgram → List Waiting → Type 0
AreDeep program [] = Unit {0}
AreDeep program (caller ∷ rest) = IsDeep program (suc (length caller.frame.stack)) caller.frame × AreDeep program rest

-- all calls
pub record IsDeepPoint (program : CodeProgram) (point : Point) : Type 0 where
  pub frame : IsDeep program (length point.frame.stack) point.frame
  pub waiting : AreDeep program point.waiting
