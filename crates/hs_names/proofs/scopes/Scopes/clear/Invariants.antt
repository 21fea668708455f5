use Rattle.std.proofs.Common.{◌≡◌, length}
use Rattle.hs_names.specs.Scopes.{outside}
use Rattle.hs_names.proofs.scopes.Scopes.clear.Given as goal

-- what is outside the innermost scope is still there
abbrev pub invariant-entries : goal.invariant-entries
invariant-entries g l =
    (outside l.self.level l.self.declarations ≡ outside l.initial.self.level l.initial.self.declarations)
    × (l.self.level ≡ l.initial.self.level)

-- each turn takes one declaration away
abbrev pub decreases-entries : goal.decreases-entries
decreases-entries g l = length l.self.declarations
