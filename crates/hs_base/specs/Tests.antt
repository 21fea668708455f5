-- Tests: laws on the library's words.
--     true_false, not_false                                    a test has one answer
--     or_true, or_false, or_again, either_test, second_of_three, not_first     one of several tests is met, or none
--     both_true, both_tests, second_test, and_again, not_both                  both of two tests are met
--     whichever                                                both ways of a test
--     same_number                                              numbers that compare as equal
use Rattle.std.proofs.Common.{◌≡◌, ◌==◌, ℕ, Bool, true, false, not, ◌&&◌, ◌||◌, ◌⊎◌, inl, inr, refl, if◌then◌else◌, arith}
use Rattle.std.proofs.lemmas.Bool.Decides.{nat_tests}

-- a test has one answer
pub true_false : (b : Bool) → b ≡ true → b ≡ false → ⊥
true_false b is is' = cc

-- what does not fail is met
pub not_false : (b : Bool) → not b ≡ false → b ≡ true
not_false true is = refl
not_false false is = absurd cc

-- one of two tests, or of three
pub or_true : (b : Bool) → (b || true) ≡ true
or_true true = refl
or_true false = refl

pub or_false : (b : Bool) → (b || false) ≡ true → b ≡ true
or_false true is = refl
or_false false is = is

-- three in a row
pub or_again : (first second third : Bool) → (first || (second || third)) ≡ ((first || second) || third)
or_again true second third = refl
or_again false second third = refl

-- neither is met
pub not_first : (a b : Bool) → (a || b) ≡ false → a ≡ false
not_first true b is = is
not_first false b is = refl

-- one of two tests is met
pub either_test : (a b : Bool) → (a || b) ≡ true → (a ≡ true) ⊎ (b ≡ true)
either_test true b is = inl refl
either_test false b is = inr is

pub second_of_three : (a b c : Bool) → b ≡ true → ((a || b) || c) ≡ true
second_of_three true b c is = refl
second_of_three false b c is = rw is refl

-- both of two tests
pub both_true : (a b : Bool) → a ≡ true → b ≡ true → (a && b) ≡ true
both_true a b is is' = rw (is, is') refl

pub both_tests : (a b : Bool) → (a && b) ≡ true → (a ≡ true) × (b ≡ true)
both_tests true b is = (refl, is)
both_tests false b is = absurd cc

pub second_test : (a b : Bool) → (a && b) ≡ true → b ≡ true
second_test true b is = is
second_test false b is = absurd cc

-- three in a row
pub and_again : (first second third : Bool) → (first && (second && third)) ≡ ((first && second) && third)
and_again true second third = refl
and_again false second third = refl

-- the first is not met without the second
pub not_both : (a b : Bool) → (a && not b) ≡ false → a ≡ true → b ≡ true
not_both true true is met = refl
not_both true false is met = absurd cc
not_both false b is met = absurd cc

-- both ways of a test
pub whichever : {A : Type 0} → (holds : A → Type 0) (test : Bool) {here there : A} → holds here → holds there
    → holds (if test then here else there)
whichever holds true is is' = is
whichever holds false is is' = is'

-- ---- numbers

-- numbers that compare as equal are one
pub same_number : (m n : ℕ) → (m == n) ≡ true → m ≡ n
same_number m n is = grind (arith, nat_tests, is)
