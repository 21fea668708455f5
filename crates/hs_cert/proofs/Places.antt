-- Writes into the places of vertices, one after the other.
use Rattle.std.proofs.Common.{◌≡◌, ℕ, ◌<◌, ℤ, pos, not, Bool, true, false, cond, List, length, get_or, set, nat_eq, refl, arith, get_or-set_same, get_or-set_other}
use Rattle.std.proofs.lemmas.Bool.Decides.{nat_tests}
use mathlib.Core.Bool.{beq, xor}

-- unequal is exactly one
pub unequal_is_xor : (one other : Bool) → not (beq one other) ≡ xor one other
unfolding xor
unequal_is_xor true true = refl
unequal_is_xor true false = refl
unequal_is_xor false true = refl
unequal_is_xor false false = refl

-- the place of a vertex after a write
pub written : (sums : List ℤ) (vertex at : ℕ) (value : ℤ) → at < length sums
    → get_or (set sums at value) vertex (pos 0) ≡ cond (nat_eq vertex at) value (get_or sums vertex (pos 0))
written sums vertex at value below = grind (arith, nat_tests, get_or-set_same, get_or-set_other)
