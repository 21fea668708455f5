use Rattle.std.proofs.Common.{ap, ◌∙◌, subst}
use Rattle.hs_names.specs.Lists.{IsLast}
use Rattle.hs_names.specs.Scopes.{is_newest_here}
use Rattle.hs_names.proofs.Newest.{level-last}
use Rattle.hs_names.proofs.scopes.Scopes.is_newest_here.Goals as goal

-- the last entry is the newest declaration
pub returns-in-Some : goal.returns-in-Some
returns-in-Some g c =
    level-last c.self.inside.level c.self.inside.entries.items c.in-Some.last.now
    (subst (λ its. IsLast its c.in-Some.last.now) c.deref.ensures.value c.in-Some.ensures.some)
    ∙ ap is_newest_here c.self.view_is
