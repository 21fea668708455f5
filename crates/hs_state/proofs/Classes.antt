-- The number of a class is its place, or how many there are.
use Rattle.std.proofs.Common.{◌≡◌, ℕ, Bool, true, false, not, List, length, Some, None, refl, arith, cond}
use Rattle.std.specs.List.{position, position_or_len}
use Rattle.std.specs.Prelude.{nat_lt}
use Rattle.std.proofs.lemmas.Bool.Decides.{nat_tests}
use Rattle.std.proofs.lemmas.List.Sums.{prefix_len-le-length}

module _ {A : Type 0} (test : A → Bool) (items : List A) where
  -- it was found
  pub found : (place : ℕ) → Some place ≡ position test items → place ≡ position_or_len test items
  found place is = by_test (nat_lt (position_or_len test items) (length items)) is
    where
      by_test : (b : Bool) → Some place ≡ cond b (Some (position_or_len test items)) None → place ≡ position_or_len test items
      by_test true is = cc
      by_test false is = absurd (cc)

  -- it was not
  pub missing : None ≡ position test items → length items ≡ position_or_len test items
  missing is = by_test (nat_lt (position_or_len test items) (length items)) refl is
    where
      by_test : (b : Bool) → nat_lt (position_or_len test items) (length items) ≡ b → None ≡ cond b (Some (position_or_len test items)) None
          → length items ≡ position_or_len test items
      by_test true test_is is = absurd (cc)
      by_test false test_is is = grind (arith, nat_tests, prefix_len-le-length (λ x. not (test x)) items)
