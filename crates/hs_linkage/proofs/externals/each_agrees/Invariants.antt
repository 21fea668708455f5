use Rattle.std.proofs.Common.{◌≡◌}
use Rattle.hs_linkage.specs.Chains.{newest_first, externals_of, place}
use Rattle.hs_linkage.specs.Externals.{all_agree}
use Rattle.hs_linkage.proofs.Chained.{left, height}
use Rattle.hs_linkage.proofs.externals.each_agrees.Given as goal

-- the entries that are left, from the next one of the name on, decide
abbrev pub invariant-entries : goal.invariant-entries
invariant-entries l =
    (l.next ≡ place l.name (left l.next l.entries))
    × (all_agree l.types l.origins l.name l.id (externals_of (left l.next l.entries))
    ≡ all_agree l.types l.origins l.name l.id (externals_of (newest_first l.entries)))

-- each is older than the one before
abbrev pub decreases-entries : goal.decreases-entries
decreases-entries l = height l.next
