-- Members that are measured one after the other.
use Rattle.std.proofs.Common.{List, ◌++◌, Option, Some, None}
use Rattle.hs_types.specs.declared.body.Measured.{Measured}

-- these, and the others, if they are known
abbrev pub with_others : List Measured → Option (List Measured) → Option (List Measured)
with_others its None = None
with_others its (Some others) = Some (its ++ others)
