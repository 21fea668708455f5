-- What is cut after the place where the list on top begins is cut from that list.
use Rattle.std.proofs.Common.{arith}
use Rattle.std.proofs.lemmas.Grind.{common_steps}
use Rattle.std.proofs.lemmas.List.{drop-take}
use Rattle.hs_layers.proofs.layers.Layers.truncate.Goals as goal

pub returns-then-count-len-clause-top : goal.returns-then-count-len-clause-top
returns-then-count-len-clause-top g c = grind (arith, common_steps, drop-take c.self.inside.base c.args.count c.self.inside.items.items)
