-- How many values are on the stack along code, and of which kinds (own).
--     Stacked scope code count at kinds     control that comes there with those kinds on the stack finds the operands of the next operations, that
--                                           many at most, and each notes how many values there are
--     stacked_throughout                    so `IsStacked`, if that holds of each number from the first operation on
--     step, step_down                       one operation, and then all that can follow it; `step_down` asks for one operation less there
use Rattle.std.proofs.Common.{◌≡◌, ℕ, zero, suc, List, [], length, slice_get, Option, Some, None, sym, ap, ◌∙◌, subst}
use Rattle.hs_code.specs.Following.{Follows, IsNext, IsNextOf}
use Rattle.hs_code.specs.Stacks.{Scope, Kind, kinds_after, kinds_after_at, HasOperands, Reaches, begins, goes, IsStacked}
use Rattle.hs_code.specs.declared.function_code.FunctionCode.{FunctionCode}
use Rattle.hs_code.specs.declared.function_code.Placed.{Placed}

-- whichever way control goes
abbrev pub Stacked : Scope → FunctionCode → ℕ → ℕ → List Kind → Type 0
Stacked scope code zero at kinds = Unit {0}
Stacked scope code (suc count) at kinds =
    HasOperands scope code at kinds
    × ((next : ℕ) (after : List Kind) → kinds_after_at scope (slice_get code.ops at) kinds ≡ Some after → Follows code at next
    → Stacked scope code count next after)

-- the kinds are those, if both are there
pub same_kinds : (a b : List Kind) → Some a ≡ Some b → a ≡ b
same_kinds a b is = ap (λ found. those found a) is
  where
    those : Option (List Kind) → List Kind → List Kind
    those None other = other
    those (Some its) other = its

module _ (scope : Scope) (code : FunctionCode) where
  -- fewer operations
  pub fewer : (count at : ℕ) (kinds : List Kind) → Stacked scope code (suc count) at kinds → Stacked scope code count at kinds
  fewer zero at kinds is = tt
  fewer (suc count) at kinds is = (is.0, λ next after operands follows. fewer count next after (is.1 next after operands follows))

  -- it has its operands, and so have those that can follow: after it, one operation less is asked for
  pub step_down : (count at : ℕ) (its : Placed) (kinds after : List Kind) → slice_get code.ops at ≡ Some its → its.places ≡ length kinds
      → kinds_after scope its.op kinds ≡ Some after → ((next : ℕ) → IsNext its.op code.cases at next → Stacked scope code count next after)
      → Stacked scope code (suc count) at kinds
  step_down count at its kinds after there noted operands rest = (
    record { its = its; there = there; noted = noted; after = after; operands = operands },
    λ next left comes follows.
        subst (Stacked scope code count next) (same left comes)
        (rest next (subst (λ found. IsNextOf found code.cases at next) there follows)),
  )
    where
      same : (left : List Kind) → kinds_after_at scope (slice_get code.ops at) kinds ≡ Some left → after ≡ left
      same left comes = same_kinds after left (sym operands ∙ sym (ap (λ found. kinds_after_at scope found kinds) there) ∙ comes)

  -- the same, where as many are right after it
  pub step : (count at : ℕ) (its : Placed) (kinds after : List Kind) → slice_get code.ops at ≡ Some its → its.places ≡ length kinds
      → kinds_after scope its.op kinds ≡ Some after → ((next : ℕ) → IsNext its.op code.cases at next → Stacked scope code count next after)
      → Stacked scope code count at kinds
  step zero at its kinds after there noted operands rest = tt
  step (suc count) at its kinds after there noted operands rest =
      step_down count at its kinds after there noted operands (λ next follows. fewer count next after (rest next follows))

  along : ((count : ℕ) → Stacked scope code count 0 []) → (at : ℕ) (kinds : List Kind) → Reaches scope code at kinds → (count : ℕ)
      → Stacked scope code count at kinds
  along is _ _ begins count = is count
  along is _ _ (goes at next kinds after before operands follows) count = (along is at kinds before (suc count)).1 next after operands follows

  pub stacked_throughout : ((count : ℕ) → Stacked scope code count 0 []) → IsStacked scope code
  stacked_throughout is at kinds reaches = (along is at kinds reaches 1).0
