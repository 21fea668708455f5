use Rattle.std.proofs.Common.{◌≡◌, ◌++◌, drop}
use Rattle.hs_meaning.specs.Objects.{bindings, variables_of}
use Rattle.hs_start.proofs.variables.places.Given as goal

-- Those that are done, and those of the variables that are left, are all.
abbrev pub invariant-variables : goal.invariant-variables
invariant-variables l =
    l.made.items ++ bindings l.types l.next (variables_of (drop l.it-index l.its)) ≡ bindings l.types 0 (variables_of l.its)
