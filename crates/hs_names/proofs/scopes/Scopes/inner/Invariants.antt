use Rattle.std.proofs.Common.{◌≡◌, ◌++◌, map, length}
use Rattle.hs_names.specs.Entries.{named_at, declarations_of}
use Rattle.hs_names.specs.Scopes.{inside}
use Rattle.hs_names.proofs.scopes.Scopes.inner.Given as goal

-- the copies, and what the entries that are left declare in the innermost scope
abbrev pub invariant-rest : goal.invariant-rest
invariant-rest g l =
    map (named_at l.self.level) l.done.items ++ inside l.self.level (declarations_of l.rest) ≡ inside l.self.level l.self.declarations

abbrev pub decreases-rest : goal.decreases-rest
decreases-rest g l = length l.rest
