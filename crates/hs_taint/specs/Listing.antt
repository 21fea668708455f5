-- The list of hazards while it is made (own).
--     lesser, is_past               of lengths
--     IsEarlier g bt f at           an operation is before another one
--     AreHazardsTo whole f at its   the hazards before that operation
--     AreShortTo whole f at         each of them has a chain that is not too long
use Rattle.std.specs.Prelude.{◌≡◌, ◌<◌, ◌⊎◌, ℕ, nat_lt, min, Bool, true, false, List, [], ◌∷◌, Option, Some, None}
use Rattle.hs_chains.specs.Hazards.{Kind}
use Rattle.hs_chains.specs.Hazards as chains
use Rattle.hs_facts.specs.Effects.{WholeCode}
use Rattle.hs_flow.specs.Among.{Among}
use Rattle.hs_taint.specs.Hazarding.{IsAscending, IsHazard, IsListed, IsShort}
use Rattle.hs_taint.specs.Reaching.{most_steps}
use Rattle.hs_taint.specs.declared.hazard.Hazard.{Hazard}

-- the lesser of a length and one that may be there
abbrev pub lesser : ℕ → Option ℕ → ℕ
lesser length None = length
lesser length (Some least) = min length least

-- a length that is there, and too long
abbrev pub is_past : Option ℕ → Bool
is_past None = false
is_past (Some least) = nat_lt most_steps least

-- one or none
abbrev pub listed_if : Bool → Hazard → List Hazard
listed_if true it = it ∷ []
listed_if false it = []

-- the operation bt of g is before the operation at of f
abbrev pub IsEarlier : ℕ → ℕ → ℕ → ℕ → Type 0
IsEarlier g bt f at = (g < f) ⊎ ((g ≡ f) × (bt < at))

-- the hazards before that operation, each once, in order
pub record AreHazardsTo (whole : WholeCode) (f at : ℕ) (its : List Hazard) : Type 0 where
  pub each : (it : Hazard) → Among its it → IsHazard whole it
  pub before : (it : Hazard) → Among its it → IsEarlier it.function it.at f at
  pub all : (g bt : ℕ) (kind : Kind) → IsEarlier g bt f at → chains.Hazard whole g bt kind → IsListed its g bt kind
  pub order : IsAscending its

-- each hazard before that operation has a chain that is not too long
pub record AreShortTo (whole : WholeCode) (f at : ℕ) : Type 0 where
  pub each : (g bt : ℕ) (kind : Kind) → IsEarlier g bt f at → chains.Hazard whole g bt kind → IsShort whole g bt kind
