use Rattle.std.proofs.Common.{◌≡◌, length}
use Rattle.hs_linkage.specs.Definitions.{same_name, first_place}
use Rattle.hs_linkage.specs.Indexes.{onward}
use Rattle.hs_linkage.proofs.linkage.routine_of.Given as goal

-- the place among all routines is the place among those that are left, plus the number of those before them
abbrev pub invariant-routines : goal.invariant-routines
invariant-routines l =
    onward l.place (first_place (λ it. same_name it.name l.fn.name) l.rest) ≡ first_place (λ it. same_name it.name l.fn.name) l.fn.routines

abbrev pub decreases-routines : goal.decreases-routines
decreases-routines l = length l.rest
