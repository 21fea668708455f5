use Rattle.std.proofs.Common.{rules, sym}
use Rattle.hs_meaning.specs.Classes.{same_class}
use Rattle.hs_lower_expressions.proofs.Places.{none_there}
use Rattle.hs_lower_expressions.proofs.classes.Classes.number.Goals as goal

-- its place would be after all of them
pub returns-in-None : goal.returns-in-None
returns-in-None c =
    let past = none_there (same_class c.args.class.now) c.self.inside.set.keys (sym c.in-None.ensures.index) in
    search (rules, past)
