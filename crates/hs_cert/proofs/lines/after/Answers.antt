-- What `strip_prefix` tells.
use Rattle.hs_cert.proofs.Fronts.{gives_after}
use Rattle.hs_cert.proofs.lines.after.Goals as goal

pub returns : goal.returns
returns c = gives_after c.args.word.now c.args.text.now c.strip_prefix.result c.strip_prefix.ensures.cases
