use Rattle.std.proofs.Common.{◌≡◌, [], length}
use Rattle.hs_same_types.specs.Representatives.{structs_of}
use Rattle.hs_same_types.proofs.structs.structs_of.Given as goal

-- those that are left come after those so far
abbrev pub invariant-rest : goal.invariant-rest
invariant-rest l =
    (l.number ≡ length l.done.items) × (structs_of l.o l.done.items l.rest ≡ structs_of l.o [] l.o.structs)

abbrev pub decreases-rest : goal.decreases-rest
decreases-rest l = length l.rest
