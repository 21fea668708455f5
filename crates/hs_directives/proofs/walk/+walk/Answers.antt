use Rattle.std.proofs.Common.{◌-◌, [], Some, refl, sym, ◌∙◌}
use Rattle.hs_directives.proofs.InTurn.{read_none, read_stays, read_on, read_refused_on, passed_on, walk_entry_step, walk_inner_step, walk_piece_refused, walk_open}
use Rattle.hs_directives.proofs.Walking.{walk_of, never_falls, never_falls_on, reached_none, walk_piece, walk_entry, walk_inner}
use Rattle.hs_directives.proofs.walk.+walk.Goals as goal

-- nothing was read
pub pieces-init : goal.pieces-init
pieces-init g t c = record {
  listing_stays = refl;
  never_fall = never_falls (g.F.Files.counts c.args.files.now);
  reached = rw (c.items-rest.ensures, c.new-sections.ensures) (reached_none c.args.state.now.progress.files
      (walk_of c.args.levels c.args.outer c.args.file.now [] c.args.state.now));
  so_far = read_none _ c.args.files.now c.args.state.now.progress.files
      (walk_of c.args.levels c.args.outer c.args.file.now [] c.args.state.now);
}

-- a file was walked
pub pieces-preserved-in_ok-walk : goal.pieces-preserved-in_ok-walk
pieces-preserved-in_ok-walk g t c = record {
  listing_stays = c.in_ok-walk.ensures.listing_stays ∙ c.in_ok-tokens.ensures.listing_stays ∙ c.pieces.invariant.listing_stays;
  never_fall = never_falls_on (g.F.Files.counts c.args.files.now) (g.F.Files.counts c.pieces.files) (g.F.Files.counts c.walk.new.files)
      c.pieces.invariant.never_fall
      (never_falls_on (g.F.Files.counts c.pieces.files) (g.F.Files.counts c.entry.new.files) (g.F.Files.counts c.walk.new.files)
      c.in_ok-tokens.ensures.counts_stay_up c.in_ok-walk.ensures.counts_stay_up);
  reached = walk_inner c.args.state.now.progress.files c.entry.new.state.progress.files c.walk.new.state.progress.files
      (walk_of c.args.levels c.args.outer c.args.file.now [] c.args.state.now) c.walk.new.state
      (walk_of (c.args.levels - 1) (Some c.place_of.result) c.in_ok-tokens.tokens [] c.entry.new.state) c.args.levels c.args.outer
      c.in-Some.behind.now c.pieces.sections
      (walk_entry c.args.state.now.progress.files c.pieces.state.progress.files
      (walk_of c.args.levels c.args.outer c.args.file.now [] c.args.state.now) c.args.levels c.args.outer c.in-Some.part
      c.pieces.rest.now c.in-Some.behind.now c.pieces.sections c.pieces.state c.pieces.invariant.reached c.in-Some.ensures.0
      (c.in-Some-inclusion.hash, c.in-Some-inclusion.line) c.in-Some-inclusion.ensures c.entry.new.state.progress.files
      c.entry.new.state c.in_ok-tokens.tokens c.place_of.result c.place_of.ensures c.in_ok-tokens.ensures.means)
      c.in_ok-walk.ensures.means;
  so_far = read_on
      (walk_inner_step {outcome = (walk_of c.args.levels c.args.outer c.args.file.now [] c.args.state.now)} c.args.levels c.args.outer c.in-Some.part
      (c.in-Some-inclusion.hash, c.in-Some-inclusion.line) c.pieces.rest.now c.in-Some.behind.now c.pieces.sections c.pieces.state
      c.pieces.invariant.so_far c.pieces.invariant.reached c.in-Some.ensures.0 c.in-Some-inclusion.ensures c.entry.new.files
      c.entry.new.state.progress.files c.entry.new.state c.in_ok-tokens.tokens c.place_of.result c.place_of.ensures
      c.in_ok-tokens.ensures.means c.in_ok-tokens.ensures.reads)
      c.walk.new.files c.walk.new.state.progress.files c.in_ok-walk.ensures.reads;
}

-- another piece was done
pub pieces-preserved : goal.pieces-preserved
pieces-preserved g t c = record {
  listing_stays = c.pieces.invariant.listing_stays;
  never_fall = c.pieces.invariant.never_fall;
  reached = walk_piece c.args.state.now.progress.files c.pieces.state.progress.files
      (walk_of c.args.levels c.args.outer c.args.file.now [] c.args.state.now) c.args.levels c.args.outer c.in-Some.part
      c.pieces.rest.now c.in-Some.behind.now c.pieces.sections c.pieces.state c.pieces.invariant.reached c.in-Some.ensures.0
      c.piece_done.new.state.progress.files c.piece_done.new.sections c.piece_done.new.state c.piece_done.ensures.files_stay
      c.in_ok-piece_done.ensures.gives;
  so_far = read_stays c.pieces.invariant.so_far c.piece_done.new.state.progress.files c.piece_done.ensures.files_stay;
}

-- the included file is refused
pub returns-in_err-tokens-clause-reads : goal.returns-in_err-tokens-clause-reads
returns-in_err-tokens-clause-reads g t c =
    passed_on c.entry.new.state.progress.files c.from_residual.result c.in_err-tokens.field-0.0 c.from_residual.ensures
    (read_refused_on
    (walk_entry_step {outcome = (walk_of c.args.levels c.args.outer c.args.file.now [] c.args.state.now)} c.args.levels c.args.outer
    c.in-Some.part (c.in-Some-inclusion.hash, c.in-Some-inclusion.line) c.pieces.rest.now c.in-Some.behind.now c.pieces.sections
    c.pieces.state c.pieces.invariant.so_far c.pieces.invariant.reached c.in-Some.ensures.0 c.in-Some-inclusion.ensures)
    c.entry.new.files c.in_err-tokens.field-0.0 c.in_err-tokens.ensures.reads)

-- its walk is
pub returns-in_err-walk-clause-reads : goal.returns-in_err-walk-clause-reads
returns-in_err-walk-clause-reads g t c =
    passed_on c.walk.new.state.progress.files c.from_residual-in_err-walk.result c.in_err-walk.field-0.0 c.from_residual-in_err-walk.ensures
    (read_refused_on
    (walk_inner_step {outcome = (walk_of c.args.levels c.args.outer c.args.file.now [] c.args.state.now)} c.args.levels c.args.outer c.in-Some.part
    (c.in-Some-inclusion.hash, c.in-Some-inclusion.line) c.pieces.rest.now c.in-Some.behind.now c.pieces.sections c.pieces.state
    c.pieces.invariant.so_far c.pieces.invariant.reached c.in-Some.ensures.0 c.in-Some-inclusion.ensures c.entry.new.files
    c.entry.new.state.progress.files c.entry.new.state c.in_ok-tokens.tokens c.place_of.result c.place_of.ensures
    c.in_ok-tokens.ensures.means c.in_ok-tokens.ensures.reads)
    c.walk.new.files c.in_err-walk.field-0.0 c.in_err-walk.ensures.reads)

-- another piece is
pub returns-in_err-piece_done-clause-reads : goal.returns-in_err-piece_done-clause-reads
returns-in_err-piece_done-clause-reads g t c =
    passed_on c.piece_done.new.state.progress.files c.from_residual-in_err-piece_done.result c.in_err-piece_done.field-0.0
    c.from_residual-in_err-piece_done.ensures
    (walk_piece_refused {outcome = (walk_of c.args.levels c.args.outer c.args.file.now [] c.args.state.now)} c.args.levels c.args.outer
    c.pieces.rest.now c.pieces.sections c.pieces.state c.pieces.invariant.so_far c.pieces.invariant.reached c.in-Some.part c.in-Some.behind.now
    c.in-Some.ensures.0 c.in_err-piece_done.field-0.0 c.in_err-piece_done.ensures.gives)

-- a section is open at the end
pub returns-in-Some-open_at-clause-reads : goal.returns-in-Some-open_at-clause-reads
returns-in-Some-open_at-clause-reads g t c =
    walk_open {outcome = (walk_of c.args.levels c.args.outer c.args.file.now [] c.args.state.now)} c.args.levels c.args.outer
    c.pieces.rest.now c.pieces.sections c.pieces.state c.pieces.invariant.so_far c.pieces.invariant.reached c.in-Some-open_at.pos
    c.in_default.ensures (sym c.open_at.ensures ∙ c.in-Some-open_at.is)

pub returns-clause-reads : goal.returns-clause-reads
returns-clause-reads g t c = c.pieces.invariant.so_far
