-- The hazards of the code are those of the definition.
--     kind_of kind                  a kind as the definition has it
use Rattle.hs_chains.specs.Hazards.{Kind}
use Rattle.hs_chains.specs.Hazards as hazard
use Rattle.hs_taint.specs.declared.hazard.HazardKind.{HazardKind}
use Rattle.hs_taint.specs.declared.hazard.HazardKind.TheVariants.{Moved, Purged}

-- a kind as the definition has it
abbrev pub kind_of : HazardKind → Kind
kind_of Moved = hazard.Moved
kind_of Purged = hazard.Purged
