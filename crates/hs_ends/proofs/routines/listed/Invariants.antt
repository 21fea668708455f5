use Rattle.std.proofs.Common.{◌≡◌, ◌-◌, [], length}
use Rattle.hs_ends.specs.Ends.{listed_in}
use Rattle.hs_ends.proofs.routines.listed.Given as goal

-- the types that are left come after those so far, in the turns that are left
abbrev pub invariant-turn : goal.invariant-turn
invariant-turn l = listed_in (length l.types.lists - l.turn) l.types l.done.items l.left ≡ listed_in (length l.types.lists) l.types [] l.fn.list

abbrev pub decreases-turn : goal.decreases-turn
decreases-turn l = length l.types.lists - l.turn
