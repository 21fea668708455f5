use Rattle.hs_tokens.proofs.Cursors.{whole_text}
use Rattle.hs_tokens.proofs.cursor.Cursor.start.Goals as goal

pub returns : goal.returns
returns c = whole_text c.args.file c.args.text.now
