-- What is left of the cases answers for all of them.
use Rattle.std.proofs.Common.{◌≡◌, drop}
use Rattle.hs_code_run.specs.Steps.{found}
use Rattle.hs_machine.proofs.switches.found.Given as goal

abbrev pub invariant-cases : goal.invariant-cases
invariant-cases l = found l.bits (drop l.its-index l.cases) ≡ found l.bits l.cases
