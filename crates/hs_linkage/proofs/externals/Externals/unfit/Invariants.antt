use Rattle.std.proofs.Common.{◌≡◌, drop}
use Rattle.hs_linkage.proofs.Unfit.{first_unfit}
use Rattle.hs_linkage.proofs.externals.Externals.unfit.Given as goal

-- the first one is among those that are left
abbrev pub invariant-entries : goal.invariant-entries
invariant-entries l =
    first_unfit l.types l.origins l.self (drop l.entry-index l.entry-items)
    ≡ first_unfit l.types l.origins l.self l.entry-items
