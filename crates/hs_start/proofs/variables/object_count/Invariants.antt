use Rattle.std.proofs.Common.{◌≡◌, ◌+◌, drop, length}
use Rattle.hs_meaning.specs.Objects.{objects_for, variables_of}
use Rattle.hs_start.proofs.variables.object_count.Given as goal

-- What is counted, and the objects of the variables that are left, are all.
abbrev pub invariant-variables : goal.invariant-variables
invariant-variables l =
    l.count + length (objects_for l.types (variables_of (drop l.it-index l.its))) ≡ length (objects_for l.types (variables_of l.its))
