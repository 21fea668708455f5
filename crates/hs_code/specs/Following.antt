-- Which operations follow one another, and what an answer says of them.
--     IsNext op cases at next           the operation of the number `next` can follow that one, which has the number `at`
--     Follows code at next              the same in the code of a function: control goes by it
--     IsAmong its cases next            an answer names it
--     successors_of op at               the answer
use Rattle.std.specs.Prelude.{◌≡◌, ◌<◌, ◌≤◌, ℕ, suc, ◌⊎◌, List, slice_get, Option, Some, None}
use Rattle.hs_code.specs.declared.function_code.Case.{Case}
use Rattle.hs_code.specs.declared.function_code.FunctionCode.{FunctionCode}
use Rattle.hs_code.specs.declared.function_code.Placed.{Placed}
use Rattle.hs_code.specs.declared.op.Op.{Op}
use Rattle.hs_code.specs.declared.op.Op.TheVariants as op
use Rattle.hs_code.specs.declared.successors.Successors.{Successors}

-- one of the cases from that place on, up to the other place
pub record IsCase (cases : List Case) (first end target : ℕ) : Type 0 where
  pub place : ℕ
  pub its : Case
  pub from : first ≤ place
  pub before : place < end
  pub there : slice_get cases place ≡ Some its
  pub goes : its.target ≡ target

-- control goes on after an operation, unless it says otherwise
abbrev pub IsNext : Op → List Case → ℕ → ℕ → Type 0
IsNext (op.Jump target) cases at next = next ≡ target
IsNext (op.Zero target) cases at next = (next ≡ suc at) ⊎ (next ≡ target)
IsNext (op.Pick target) cases at next = (next ≡ suc at) ⊎ (next ≡ target)
IsNext (op.Choose goal) cases at next = (next ≡ goal.default) ⊎ IsCase cases goal.first goal.end next
IsNext op.Return cases at next = ⊥
IsNext _ cases at next = next ≡ suc at

-- of an operation that is there
abbrev pub IsNextOf : Option Placed → List Case → ℕ → ℕ → Type 0
IsNextOf None cases at next = ⊥
IsNextOf (Some its) cases at next = IsNext its.op cases at next

-- a step of control
abbrev pub Follows : FunctionCode → ℕ → ℕ → Type 0
Follows code at next = IsNextOf (slice_get code.ops at) code.cases at next

-- the answer names it: as the next one, as the target of a jump, or as that of a case
abbrev pub IsAmong : Successors → List Case → ℕ → Type 0
IsAmong its cases next = (its.next ≡ Some next) ⊎ (its.jump ≡ Some next) ⊎ IsCase cases its.cases.0 its.cases.1 next

-- the next one alone
abbrev pub only_next : ℕ → Successors
only_next at = record { next = Some (suc at); jump = None; cases = (0, 0) }

-- by the operation
abbrev pub successors_of : Op → ℕ → Successors
successors_of (op.Jump target) at = record { next = None; jump = Some target; cases = (0, 0) }
successors_of (op.Zero target) at = record { next = Some (suc at); jump = Some target; cases = (0, 0) }
successors_of (op.Pick target) at = record { next = Some (suc at); jump = Some target; cases = (0, 0) }
successors_of (op.Choose goal) at = record { next = None; jump = Some goal.default; cases = (goal.first, goal.end) }
successors_of op.Return at = record { next = None; jump = None; cases = (0, 0) }
successors_of _ at = only_next at
