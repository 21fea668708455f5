-- A class that is not there has the number after those that are.
use Rattle.std.proofs.Common.{sym, ◌∙◌}
use Rattle.hs_meaning.specs.Classes.{same_class}
use Rattle.hs_state.proofs.Classes.{missing}
use Rattle.hs_state.proofs.setting.Setting.class_number.Goals as goal

pub returns-in-None : goal.returns-in-None
returns-in-None c = missing (same_class c.args.class.now) c.args.self.now.classes.now (sym c.in-None.is ∙ c.place_of.ensures.place)
