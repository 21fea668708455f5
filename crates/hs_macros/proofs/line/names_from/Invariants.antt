use Rattle.std.proofs.Common.{◌≡◌, length}
use Rattle.hs_macros.specs.Definitions.{names_from}
use Rattle.hs_macros.specs.Lines.{names_of}
use Rattle.hs_macros.proofs.ParameterNames.{with_names}
use Rattle.hs_macros.proofs.line.names_from.Given as goal

-- the names so far, and those that the rest still has, are the names of the line
abbrev pub invariant-names : goal.invariant-names
invariant-names l = with_names (names_of l.names.items) (names_from l.rest) ≡ names_from l.line

-- each turn takes a name and what follows it
abbrev pub decreases-names : goal.decreases-names
decreases-names l = length l.rest
