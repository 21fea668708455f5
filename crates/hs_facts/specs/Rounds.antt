-- Which must facts hold before an operation, on every control path from the start of its function (own).
--     ExistsAt            a fact of the function before that operation
--     HoldsIn             it holds in a round
--     Holds               it holds in every round
-- There are rounds, as loops lead back. In round 0 every fact holds before every operation but the first one, where none holds. In the next round
-- a fact holds if each operation that the operation can follow gives it. An operation that control never reaches counts for those that follow it.
use Rattle.std.specs.Prelude.{◌≡◌, ◌≢◌, ℕ, zero, suc, slice_get, Some}
use Rattle.hs_code.specs.Following.{IsNext}
use Rattle.hs_code.specs.Stacks.{Scope}
use Rattle.hs_code.specs.declared.function_code.FunctionCode.{FunctionCode}
use Rattle.hs_code.specs.declared.function_code.Placed.{Placed}
use Rattle.hs_facts.specs.Changes.{Impact, Gives}
use Rattle.hs_facts.specs.MustFacts.{MustFact, Exists}

-- the operation is there, and its noted number of values bounds the places of the fact
abbrev pub ExistsAt : Scope → FunctionCode → ℕ → MustFact → Type 0
ExistsAt scope code at fact = (its : Placed) × (slice_get code.ops at ≡ Some its) × Exists scope code its.places fact

module _ (scope : Scope) (code : FunctionCode) (impact : Impact) where
  -- in a round
  abbrev pub HoldsIn : ℕ → ℕ → MustFact → Type 0
  HoldsIn zero at fact = ExistsAt scope code at fact × (at ≢ 0)
  HoldsIn (suc round) at fact =
      ExistsAt scope code at fact × (at ≢ 0)
      × ((from : ℕ) (its : Placed) → slice_get code.ops from ≡ Some its → IsNext its.op code.cases from at
      → Gives scope code impact (HoldsIn round from) its.op its.places fact)

  -- in every round
  abbrev pub Holds : ℕ → MustFact → Type 0
  Holds at fact = (round : ℕ) → HoldsIn round at fact
