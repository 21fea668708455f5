-- Two code runs side by side: what holds of each operation of the machine holds of each step.
--     Waitings R, Points R           calls that wait and points that correspond: the same code, with values that correspond
--     with_values point stack waiting      a point with other values
use Rattle.std.specs.Prelude.{◌≡◌, ℕ, Bool, List, [], ◌∷◌}
use Rattle.hs_code.specs.declared.function_code.FunctionCode.{FunctionCode}
use Rattle.hs_code_run.specs.Codes.{CodeProgram, Frame, Waiting, Point}
use Rattle.hs_meaning.specs.Beside.{Relation, Lists}
use Rattle.hs_meaning.specs.Values.{Value}
pub mod Stacks
pub mod Steps

module _ (R : Relation) where
  -- one call that waits
  pub record IsWaitingAlike (a b : Waiting) : Type 0 where
    pub code : a.frame.code ≡ b.frame.code
    pub at : a.frame.at ≡ b.frame.at
    pub stack : Lists R a.frame.stack b.frame.stack
    pub locals : R.bindings a.locals b.locals
    pub arguments : Lists R a.arguments b.arguments

  -- all of them
  abbrev pub Waitings : List Waiting → List Waiting → Type 0
  Waitings [] [] = Unit {0}
  Waitings [] (b ∷ others) = ⊥
  Waitings (a ∷ rest) [] = ⊥
  Waitings (a ∷ rest) (b ∷ others) = IsWaitingAlike a b × Waitings rest others

  -- one point
  pub record Points (a b : Point) : Type 0 where
    pub code : a.frame.code ≡ b.frame.code
    pub at : a.frame.at ≡ b.frame.at
    pub stack : Lists R a.frame.stack b.frame.stack
    pub waiting : Waitings a.waiting b.waiting
    pub choices : a.choices ≡ b.choices

-- the same place of the code, with other values
abbrev pub with_values : Point → List Value → List Waiting → Point
with_values point stack waiting =
    record { frame = record { code = point.frame.code; at = point.frame.at; stack = stack }; waiting = waiting; choices = point.choices }
