use Rattle.std.proofs.Common.{◌≡◌, ◌-◌, [], drop, length}
use Rattle.hs_same_types.specs.Representatives.{types_of}
use Rattle.hs_same_types.proofs.types.types_of.Given as goal

-- those that are left come after those so far
abbrev pub invariant-rows : goal.invariant-rows
invariant-rows l =
    (l.number ≡ length l.done.items)
    × (types_of l.structs l.done.items l.known.entries (drop l.number l.types.rows) ≡ types_of l.structs [] [] l.types.rows)

abbrev pub decreases-rows : goal.decreases-rows
decreases-rows l = length l.types.rows - l.number
