use Rattle.std.proofs.Common.{◌≡◌, ◌≤◌, length}
use Rattle.hs_tokens.specs.Lines.{placed_from}
use Rattle.hs_tokens.specs.Cursor.{HasRoom}
use Rattle.hs_tokens.specs.Ahead.{lines_ahead}
use Rattle.hs_tokens.proofs.cursor.Cursor.line_byte.Given as goal

abbrev pub invariant-bytes : goal.invariant-bytes
invariant-bytes l = record {
  same : placed_from l.pos l.rest ≡ lines_ahead l.fn.self;
  within : length l.rest ≤ length l.fn.self.rest.now;
  has_room : HasRoom l.pos l.rest l.fn.self.left;
}

abbrev pub decreases-bytes : goal.decreases-bytes
decreases-bytes l = length l.rest
