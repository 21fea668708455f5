use Rattle.std.proofs.Common.{◌≡◌, ◌+◌, length}
use Rattle.hs_directives.specs.States.{known_from}
use Rattle.hs_directives.proofs.files_read.FilesRead.known.Given as goal

abbrev pub decreases-files : goal.decreases-files
decreases-files l = length l.rest

-- what the files ahead answer is the answer
abbrev pub invariant-files : goal.invariant-files
invariant-files l =
    (known_from l.number l.fn.name l.rest ≡ known_from 0 l.fn.name l.fn.self) × (l.number + length l.rest ≡ length l.fn.self)
