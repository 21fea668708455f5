-- Without memory for the script nothing is read.
use Rattle.std.proofs.Common.{[], refl, inl}
use Rattle.hs_directives.specs.Reads.{AreBegun}
use Rattle.hs_command.proofs.running.run_with.Goals as goal

pub returns-in-Err-clause-means : goal.returns-in-Err-clause-means
returns-in-Err-clause-means g c = ([], refl, (AreBegun.none [], inl tt))
