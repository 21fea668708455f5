use Rattle.std.proofs.Common.{◌≡◌, ◌++◌, map, length}
use Rattle.hs_names.specs.Entries.{named_at}
use Rattle.hs_names.proofs.scopes.Scopes.with_all.Given as goal

-- the names that are left, in front of those that are declared
abbrev pub invariant-rest : goal.invariant-rest
invariant-rest g l =
    (map (named_at l.fn.self.level) l.rest.items ++ l.all.declarations ≡ map (named_at l.fn.self.level) l.fn.its.items ++ l.fn.self.declarations)
    × (l.all.level ≡ l.fn.self.level)

abbrev pub decreases-rest : goal.decreases-rest
decreases-rest g l = length l.rest.items
