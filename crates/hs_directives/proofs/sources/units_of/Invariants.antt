use Rattle.std.proofs.Common.{◌≡◌, Ok, map, length}
use Rattle.std.specs.String.{string_bytes}
use Rattle.hs_base.specs.Files.{NeverFall}
use Rattle.hs_base.specs.Reads.{Makes}
use Rattle.hs_directives.specs.Preprocessing.{fresh, units_of}
use Rattle.hs_directives.specs.Reads.{WasRead}
use Rattle.hs_directives.specs.States.{and_then}
use Rattle.hs_directives.proofs.Units.{units_after}
use Rattle.hs_directives.proofs.Walking.{Reached}
use Rattle.hs_directives.proofs.sources.units_of.Given as goal

-- what is left to do is the units of the names ahead, after those so far, and what was read so far was read in turn
abbrev pub invariant-roots : goal.invariant-roots
invariant-roots g l = record {
  listing_stays : g.F.Files.listing l.files ≡ g.F.Files.listing l.fn.files;
  never_fall : NeverFall (g.F.Files.counts l.fn.files) (g.F.Files.counts l.files);
  is_fresh : l.state.unit ≡ fresh;
  reached : Reached l.fn.state.progress.files l.state.progress.files
      (λ listing. units_of listing (map string_bytes l.fn.roots) l.fn.state.progress)
      (λ listing. and_then (units_of listing (map string_bytes l.rest) l.state.progress) (λ later. Ok (units_after l.units.items later)));
  so_far : WasRead (Makes g.F.Files.leads_to g.F.Files.listing g.F.Files.counts) l.fn.files l.files l.fn.state.progress.files l.state.progress.files
      (λ listing. units_of listing (map string_bytes l.fn.roots) l.fn.state.progress);
}

abbrev pub decreases-roots : goal.decreases-roots
decreases-roots g l = length l.rest
