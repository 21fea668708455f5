-- The number of a class that is not there.
use Rattle.std.proofs.Common.{◌≡◌, ◌≤◌, ℕ, Bool, true, false, List, length, Some, None, refl, arith, cond}
use Rattle.std.specs.Prelude.{nat_lt}
use Rattle.std.specs.List.{position, position_or_len}
use Rattle.std.proofs.lemmas.Bool.Decides.{nat_tests}
use Rattle.std.proofs.lemmas.List.Sums.{prefix_len-le-length}

none_past : (n m : ℕ) (b : Bool) → n ≤ m → nat_lt n m ≡ b → cond b (Some n) None ≡ None → m ≡ n
none_past n m true within is absent = absurd (cc)
none_past n m false within is absent = grind (arith, nat_tests)

pub none_there : {X : Type 0} (test : X → Bool) (its : List X) → position test its ≡ None → length its ≡ position_or_len test its
none_there test its absent =
    none_past (position_or_len test its) (length its) (nat_lt (position_or_len test its) (length its)) (prefix_len-le-length _ its) refl absent
