use Rattle.std.proofs.Common.{refl, map, ap, ◌∙◌}
use Rattle.std.specs.String.{string_bytes}
use Rattle.hs_directives.specs.Preprocessing.{units_of}
use Rattle.hs_directives.proofs.InTurn.{read_none, read_without_memory, read_on, read_refused_on, passed_on, unit_step}
use Rattle.hs_directives.proofs.Units.{units_first, units_step}
use Rattle.hs_directives.proofs.Walking.{never_falls, never_falls_on}
use Rattle.hs_directives.proofs.sources.units_of.Goals as goal

-- none so far
pub roots-init : goal.roots-init
roots-init g c = record {
  listing_stays = refl;
  never_fall = never_falls (g.F.Files.counts c.args.files.now);
  is_fresh = c.requires;
  reached = rw c.new-units.ensures.items
      (units_first c.args.state.now.progress.files (map string_bytes c.args.roots.now) c.args.state.now.progress);
  so_far = read_none _ c.args.files.now c.args.state.now.progress.files
      (λ listing. units_of listing (map string_bytes c.args.roots.now) c.args.state.now.progress);
}

-- one more unit
pub roots-preserved : goal.roots-preserved
roots-preserved g c = record {
  listing_stays = c.in_ok-unit_of.ensures.listing_stays ∙ c.roots.invariant.listing_stays;
  never_fall = never_falls_on (g.F.Files.counts c.args.files.now) (g.F.Files.counts c.roots.files) (g.F.Files.counts c.unit_of.new.files)
      c.roots.invariant.never_fall c.in_ok-unit_of.ensures.counts_stay_up;
  is_fresh = c.in_ok-unit_of.ensures.again;
  reached = units_step c.args.state.now.progress.files
      (λ listing. units_of listing (map string_bytes c.args.roots.now) c.args.state.now.progress) (string_bytes c.in-Some.root.now)
      c.as_str.result.now (map string_bytes c.roots.rest.now) (map string_bytes c.in-Some.behind.now) c.roots.state.progress
      c.unit_of.new.state.progress c.in_ok-unit_of.field-0 c.roots.units.items c.push.new.self.items c.roots.invariant.reached
      (ap (map string_bytes) c.in-Some.ensures.cases.0) c.as_str.ensures.value c.in_ok-push.ensures.items
      c.in_ok-unit_of.ensures.means;
  so_far = read_on
      (unit_step (string_bytes c.in-Some.root.now) c.as_str.result.now (map string_bytes c.roots.rest.now)
      (map string_bytes c.in-Some.behind.now) c.roots.state.progress c.roots.units.items c.roots.invariant.so_far c.roots.invariant.reached
      (ap (map string_bytes) c.in-Some.ensures.cases.0) c.as_str.ensures.value)
      c.unit_of.new.files c.unit_of.new.state.progress.files c.in_ok-unit_of.ensures.reads;
}

-- the reads of a unit that is refused
pub returns-in_err-unit_of-clause-reads : goal.returns-in_err-unit_of-clause-reads
returns-in_err-unit_of-clause-reads g c =
    passed_on c.unit_of.new.state.progress.files c.from_residual.result c.in_err-unit_of.field-0.0 c.from_residual.ensures
    (read_refused_on
    (unit_step (string_bytes c.in-Some.root.now) c.as_str.result.now (map string_bytes c.roots.rest.now)
    (map string_bytes c.in-Some.behind.now) c.roots.state.progress c.roots.units.items c.roots.invariant.so_far c.roots.invariant.reached
    (ap (map string_bytes) c.in-Some.ensures.cases.0) c.as_str.ensures.value)
    c.unit_of.new.files c.in_err-unit_of.field-0.0 c.in_err-unit_of.ensures.reads)

-- of one that has no room
pub returns-in_err-push-clause-reads : goal.returns-in_err-push-clause-reads
returns-in_err-push-clause-reads g c =
    read_without_memory
    (read_on
    (unit_step (string_bytes c.in-Some.root.now) c.as_str.result.now (map string_bytes c.roots.rest.now)
    (map string_bytes c.in-Some.behind.now) c.roots.state.progress c.roots.units.items c.roots.invariant.so_far
    c.roots.invariant.reached (ap (map string_bytes) c.in-Some.ensures.cases.0) c.as_str.ensures.value)
    c.unit_of.new.files c.unit_of.new.state.progress.files c.in_ok-unit_of.ensures.reads)
    c.unit_of.new.state.progress.files c.from_residual-in_err-push.result c.from_residual-in_err-push.ensures

-- and of all
pub returns-clause-reads : goal.returns-clause-reads
returns-clause-reads g c = c.roots.invariant.so_far
