use Rattle.std.proofs.Common.{◌≡◌, drop}
use Rattle.hs_taint.specs.Sizes.{most_variables}
use Rattle.hs_taint.proofs.building.most_variables.Given as goal

-- what is left comes to the whole
abbrev pub invariant-functions : goal.invariant-functions
invariant-functions l = most_variables l.most (drop l.function-index l.functions) ≡ most_variables 0 l.functions
