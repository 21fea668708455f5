use Rattle.hs_tokens.proofs.Cursors.{front_of}
use Rattle.hs_tokens.proofs.cursor.Cursor.front.Goals as goal

pub returns : goal.returns
returns c = rw c.min.ensures (front_of c.args.self.pos c.args.self.rest.now c.args.self.left c.args.len)
