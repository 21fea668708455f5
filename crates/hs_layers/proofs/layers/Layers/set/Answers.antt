-- A write after the place where the list on top begins is a write in that list.
use Rattle.std.proofs.lemmas.Grind.{common_steps}
use Rattle.std.proofs.Common.{arith}
use Rattle.std.proofs.lemmas.List.{drop-set-add}
use Rattle.hs_layers.proofs.layers.Layers.set.Goals as goal

pub returns-clause-top : goal.returns-clause-top
returns-clause-top g c = grind (arith, common_steps, drop-set-add c.self.inside.base c.self.inside.items.items c.args.place c.args.item)
