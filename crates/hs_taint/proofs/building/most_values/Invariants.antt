use Rattle.std.proofs.Common.{◌≡◌, drop}
use Rattle.hs_taint.specs.Sizes.{most_values}
use Rattle.hs_taint.proofs.building.most_values.Given as goal

-- what is left comes to the whole
abbrev pub invariant-functions : goal.invariant-functions
invariant-functions l = most_values l.most (drop l.code-index l.functions) ≡ most_values 0 l.functions
