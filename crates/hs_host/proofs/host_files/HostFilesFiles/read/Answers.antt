-- The file is the one that was opened.
use Rattle.std.proofs.Common.{Result, Ok, Err}
use Rattle.std.specs.Result.{IsOkAnd}
use Rattle.hs_host.proofs.host_files.HostFilesFiles.read.Goals as goal

some_value : {F E : Type 0} (opened : Result F E) (P : F → Type 0) → IsOkAnd opened P → (file : F) × P file
some_value (Ok file) P holds = (file, holds)
some_value (Err error) P holds = absurd holds

pub returns-clause-long : goal.returns-clause-long
returns-clause-long g c too_long = some_value c.open.result _ (c.taken-answer.ensures.long too_long)
