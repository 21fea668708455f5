use Rattle.std.proofs.Common.{rules, nat_eq, if◌then◌else◌, ap, sym, ◌∙◌, subst}
use Rattle.std.specs.Cmp.Lexicographic.{pointwise}
use Rattle.hs_names.specs.Entries.{IsKept}
use Rattle.hs_index.specs.Index.{at}
use Rattle.hs_names.specs.Scopes.{is_newest_here, without_newest}
use Rattle.hs_names.proofs.Kept.{kept-forgotten, kept-placed}
use Rattle.hs_names.proofs.Newest.{older-last}
use Rattle.hs_names.proofs.scopes.Scopes.drop_newest.Goals as goal

-- the name of an entry has a place
pub unreachable-requires : goal.unreachable-requires
unreachable-requires g c =
    kept-placed c.self.inside.index c.popped.new.entries.items c.in-Some.field-0
    (subst (IsKept c.self.inside.index) c.in-Some.ensures.some c.self.invariant) c.in-Err.ensures.absent

-- what the entry hid is found again
pub invariant_of-self-in-Ok : goal.invariant_of-self-in-Ok
invariant_of-self-in-Ok g c =
    kept-forgotten c.self.inside.index c.put.new.self c.popped.new.entries.items c.in-Some.field-0
    (subst (IsKept c.self.inside.index) c.in-Some.ensures.some c.self.invariant)
    (λ text. c.in-Ok.ensures.put text
    ∙ ap (λ hidden. if pointwise nat_eq c.in-Some.field-0.name.items text then hidden else at text c.self.inside.index) (sym c.in-Some-hidden.is))

-- an entry that hid nothing leaves nothing
pub invariant_of-self-in-None-hidden : goal.invariant_of-self-in-None-hidden
invariant_of-self-in-None-hidden g c =
    kept-forgotten c.self.inside.index c.remove.new.self c.popped.new.entries.items c.in-Some.field-0
    (subst (IsKept c.self.inside.index) c.in-Some.ensures.some c.self.invariant)
    (λ text. search (rules, c.remove.ensures, c.in-None.is))

-- the newest declaration is gone
pub returns-in-Ok : goal.returns-in-Ok
returns-in-Ok g c =
    sym (ap (λ its. record { declarations = its; level = c.self.inside.level })
    (older-last c.self.inside.level c.self.inside.entries.items c.popped.new.entries.items c.in-Some.field-0 c.in-Some.ensures.some
    (ap is_newest_here c.self.view_is ∙ c.requires)))
    ∙ ap without_newest c.self.view_is

pub returns-in-None : goal.returns-in-None
returns-in-None g c =
    sym (ap (λ its. record { declarations = its; level = c.self.inside.level })
    (older-last c.self.inside.level c.self.inside.entries.items c.popped.new.entries.items c.in-Some.field-0 c.in-Some.ensures.some
    (ap is_newest_here c.self.view_is ∙ c.requires)))
    ∙ ap without_newest c.self.view_is
