use Rattle.std.proofs.Common.{arith}
use Rattle.hs_tokens.proofs.Cursors.{itself_here}
use Rattle.hs_tokens.proofs.cursor.Cursor.past.Goals as goal

pub returns : goal.returns
returns c = (
  itself_here c.args.self.pos c.args.self.rest.now c.args.others.now c.args.byte c.args.self.left c.requires.first (omega (arith, c.requires.some)) c.requires.is_itself,
  omega (arith, c.requires.some),
)
