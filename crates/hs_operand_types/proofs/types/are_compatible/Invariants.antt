use Rattle.std.proofs.Common.{◌≡◌}
use Rattle.hs_operand_types.specs.Types.{compatible_within, are_compatible}
use Rattle.hs_operand_types.proofs.types.are_compatible.Given as goal

-- the types inside are compatible exactly if all are
abbrev pub invariant-inside : goal.invariant-inside
invariant-inside l = compatible_within l.more l.fn.types l.inside.left l.inside.right ≡ are_compatible l.fn.types l.fn.left l.fn.right

abbrev pub decreases-inside : goal.decreases-inside
decreases-inside l = l.more
