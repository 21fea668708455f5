use Rattle.std.proofs.Common.{◌≡◌, drop}
use Rattle.std.specs.HashSet.{contains}
use Rattle.hs_macros.specs.Definitions.{is_distinct}
use Rattle.hs_macros.specs.Lines.{names_of}
use Rattle.hs_macros.proofs.ParameterNames.{are_new, are_alike}
use Rattle.hs_macros.proofs.line.is_distinct.Given as goal

-- the names to come are new and distinct exactly if all names are distinct
abbrev pub invariant-names : goal.invariant-names
invariant-names l = are_new (contains are_alike l.seen) (drop l.name-index l.names) ≡ is_distinct (names_of l.names)
