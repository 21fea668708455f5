use Rattle.std.proofs.Common.{◌≡◌, [], length}
use Rattle.hs_base.specs.Files.{NeverFall}
use Rattle.hs_base.specs.Reads.{Makes}
use Rattle.hs_directives.specs.Pieces.{pieces}
use Rattle.hs_directives.specs.Preprocessing.{walked, entered}
use Rattle.hs_directives.specs.Reads.{WasRead}
use Rattle.hs_directives.proofs.Walking.{Reached}
use Rattle.hs_directives.proofs.walk.+walk.Given as goal

abbrev pub decreases-walk : goal.decreases-walk
decreases-walk g l = l.levels

-- what is left to do is the walk of the tokens ahead, and what was read so far was read in turn
abbrev pub invariant-pieces : goal.invariant-pieces
invariant-pieces g l = record {
  listing_stays : g.F.Files.listing l.files ≡ g.F.Files.listing l.fn.files;
  never_fall : NeverFall (g.F.Files.counts l.fn.files) (g.F.Files.counts l.files);
  reached : Reached l.fn.state.progress.files l.state.progress.files
      (λ listing. walked (entered l.fn.levels listing) l.fn.outer (pieces l.fn.file) [] l.fn.state)
      (λ listing. walked (entered l.fn.levels listing) l.fn.outer (pieces l.rest) l.sections l.state);
  so_far : WasRead (Makes g.F.Files.leads_to g.F.Files.listing g.F.Files.counts) l.fn.files l.files l.fn.state.progress.files l.state.progress.files
      (λ listing. walked (entered l.fn.levels listing) l.fn.outer (pieces l.fn.file) [] l.fn.state);
}

abbrev pub decreases-pieces : goal.decreases-pieces
decreases-pieces g l = length l.rest
