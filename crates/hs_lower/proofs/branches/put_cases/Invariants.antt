use Rattle.std.proofs.Common.{◌≡◌, ◌++◌, drop}
use Rattle.hs_lowering.specs.Statements.{cases_in}
use Rattle.hs_lower.proofs.branches.put_cases.Given as goal

-- The cases that are put, and those of the labels that are left, are all of them.
abbrev pub invariant-loop-label : goal.invariant-loop-label
invariant-loop-label l = l.cases ++ cases_in (drop l.label-index l.labels) ≡ l.fn.cases ++ cases_in l.labels
