-- The hazards of a program as a list, and the limit on chains to them (own).
--     is_bad scope its kind fact     the fact makes the operation a hazard
--     IsLeastBad .. pairs least      the least length of the pairs that make the operation a hazard
--     AreHazards whole its           the list has each hazard once, in order
--     IsLong whole f at kind         each chain to the hazard is too long
--     HasShort whole                 each hazard has a chain that is not
use Rattle.std.specs.Prelude.{◌≡◌, ◌<◌, ◌≤◌, ◌⊎◌, ℕ, Bool, true, false, ◌&&◌, List, [], ◌∷◌, Option, Some, None}
use Rattle.hs_chains.specs.Hazards.{Kind, Moved, Purged, ReachesBad, is_used}
use Rattle.hs_chains.specs.Hazards as chains
use Rattle.hs_chains.specs.Knowledge.{IsKnowledge, Knowledge}
use Rattle.hs_code.specs.Stacks.{Scope}
use Rattle.hs_code.specs.declared.function_code.Placed.{Placed}
use Rattle.hs_code.specs.declared.op.Op.{Op}
use Rattle.hs_code.specs.declared.op.Op.TheVariants as op
use Rattle.hs_facts.specs.Effects.{WholeCode, placed_in}
use Rattle.hs_flow.specs.Among.{Among}
use Rattle.hs_flow.specs.declared.fact.Fact.{Fact}
use Rattle.hs_flow.specs.declared.fact.FactStatus.{FactStatus}
use Rattle.hs_flow.specs.declared.fact.FactStatus.TheVariants as status
use Rattle.hs_flow.specs.declared.fact.Slot.{Slot}
use Rattle.hs_flow.specs.declared.fact.Slot.TheVariants as slot
use Rattle.hs_taint.specs.Reaching.{most_steps}
use Rattle.hs_taint.specs.Using.{kind_of}
use Rattle.hs_taint.specs.declared.hazard.Hazard.{Hazard}
use Rattle.hs_taint.specs.declared.reached.Pair.{Pair}

-- ---- one operation

-- the operation may use a value for something
abbrev pub uses : Op → Bool
uses (op.Load its) = true
uses (op.Store its) = true
uses (op.Compare its) = true
uses (op.Difference size) = true
uses (op.Routine number) = true
uses _ = false

-- the status is the bad one of the kind
abbrev pub is_bad_status : FactStatus → Kind → Bool
is_bad_status status.Stale Moved = true
is_bad_status status.Hollow Purged = true
is_bad_status _ kind = false

-- the slot is a place that the operation uses
abbrev pub is_used_slot : Scope → Placed → Kind → Slot → Bool
is_used_slot scope its kind (slot.Place place) = is_used scope its.op its.places kind place
is_used_slot scope its kind _ = false

-- the fact makes the operation a hazard
abbrev pub is_bad : Scope → Placed → Kind → Fact → Bool
is_bad scope its kind fact = is_bad_status fact.status kind && is_used_slot scope its kind fact.slot

-- a pair that makes the operation a hazard, of that length
pub record IsBadPair (scope : Scope) (its : Placed) (kind : Kind) (pairs : List Pair) (length : ℕ) : Type 0 where
  pub pair : Pair
  pub among : Among pairs pair
  pub bad : is_bad scope its kind pair.fact ≡ true
  pub long : pair.length ≡ length

-- none of the pairs makes it one, or the least length of those that do is that
abbrev pub IsLeastBad : Scope → Placed → Kind → List Pair → Option ℕ → Type 0
IsLeastBad scope its kind pairs None = (p : Pair) → Among pairs p → is_bad scope its kind p.fact ≡ false
IsLeastBad scope its kind pairs (Some least) =
    IsBadPair scope its kind pairs least × ((p : Pair) → Among pairs p → is_bad scope its kind p.fact ≡ true → least ≤ p.length)

-- ---- the list

-- the first one is before the second one, by function, operation and kind
abbrev pub IsBefore : Hazard → Hazard → Type 0
IsBefore a b =
    (a.function < b.function)
    ⊎ ((a.function ≡ b.function) × ((a.at < b.at) ⊎ ((a.at ≡ b.at) × (kind_of a.kind ≡ Moved) × (kind_of b.kind ≡ Purged))))

-- each is before those after it
abbrev pub IsAscending : List Hazard → Type 0
IsAscending [] = Unit {0}
IsAscending (a ∷ rest) = ((b : Hazard) → Among rest b → IsBefore a b) × IsAscending rest

-- a hazard of the list at that operation
pub record IsListed (its : List Hazard) (f at : ℕ) (kind : Kind) : Type 0 where
  pub hazard : Hazard
  pub among : Among its hazard
  pub function : hazard.function ≡ f
  pub at_is : hazard.at ≡ at
  pub kind_is : kind_of hazard.kind ≡ kind

-- a hazard, with the position of its operation
pub record IsHazard (whole : WholeCode) (it : Hazard) : Type 0 where
  pub is : chains.Hazard whole it.function it.at (kind_of it.kind)
  pub position : (its : Placed) → placed_in whole it.function it.at ≡ Some its → it.pos ≡ its.at

-- the hazards of a program, each once, in order
pub record AreHazards (whole : WholeCode) (its : List Hazard) : Type 0 where
  pub each : (it : Hazard) → Among its it → IsHazard whole it
  pub all : (f at : ℕ) (kind : Kind) → chains.Hazard whole f at kind → IsListed its f at kind
  pub order : IsAscending its

-- ---- the limit

-- a hazard, and each chain to it is too long
pub record IsLong (whole : WholeCode) (f at : ℕ) (kind : Kind) : Type 0 where
  pub known : Knowledge
  pub is_known : IsKnowledge whole known
  pub reaches : ReachesBad whole known f at kind
  pub long : (r : ReachesBad whole known f at kind) → most_steps < r.length

-- a chain to it that is not too long
pub record IsShort (whole : WholeCode) (f at : ℕ) (kind : Kind) : Type 0 where
  pub known : Knowledge
  pub is_known : IsKnowledge whole known
  pub reaches : ReachesBad whole known f at kind
  pub short : reaches.length ≤ most_steps

-- each hazard has one
abbrev pub HasShort : WholeCode → Type 0
HasShort whole = (f at : ℕ) (kind : Kind) → chains.Hazard whole f at kind → IsShort whole f at kind

-- some hazard has none
pub record HasLong (whole : WholeCode) : Type 0 where
  pub function : ℕ
  pub at : ℕ
  pub kind : Kind
  pub long : IsLong whole function at kind
