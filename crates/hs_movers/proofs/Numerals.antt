-- The digits of a decimal number are read as that number.
use Rattle.std.proofs.Common.{◌≡◌, ℕ, ◌+◌, ◌*◌, ◌/◌, ◌%◌, ◌^◌, ◌<◌, ◌≤◌, true, List, [], ◌∷◌, ◌++◌, Option, Some, None, inl, inr, refl, ap, ◌∙◌, arith}
use Rattle.std.specs.Char.{digit_value}
use Rattle.std.specs.Fmt.{decimal}
use Rattle.std.specs.List.{All}
use Rattle.std.proofs.lemmas.Bool.{cases_lt}
use Rattle.std.proofs.lemmas.Bool.Decides.{nat_tests}
use Rattle.std.proofs.lemmas.Fmt.{decimal_by_steps}
use Rattle.std.proofs.lemmas.List.Elements.{All-nil, All-cons, All-head, All-push}
use Rattle.hs_base.specs.Options.{◌>>=◌}
use Rattle.hs_meaning.specs.InputTexts.{begins_number, digit, number_in, value_after}

-- the byte of a digit
pub record IsDigit (byte : ℕ) : Type 0 where
  pub low : 48 ≤ byte
  pub high : byte < 58

-- what the digits of a number are
pub record Spells (number : ℕ) (digits : List ℕ) : Type 0 where
  pub first : ℕ
  pub others : List ℕ
  pub is : digits ≡ first ∷ others
  pub all : All IsDigit digits
  pub value : value_after 0 digits ≡ Some number
  pub begins : 0 < number → 48 < first
  pub short : number < 10 → others ≡ []

-- a digit has its value
digit_read : (k : ℕ) → k < 10 → digit 10 (48 + k) ≡ Some k
digit_read k low = let is : digit_value (48 + k) ≡ k = grind (arith, nat_tests) in rw is (grind (arith, nat_tests))

-- one digit more
value_after-push : (value : ℕ) (digits : List ℕ) (byte : ℕ)
    → value_after value (digits ++ byte ∷ []) ≡ (value_after value digits >>= (λ before. value_after before (byte ∷ [])))
value_after-push value [] byte = refl
value_after-push value (next ∷ digits) byte = by_case (digit 10 next) (λ ones. value_after-push (value * 10 + ones) digits byte)
  where
    by_case : (read : Option ℕ)
        → ((ones : ℕ) → value_after (value * 10 + ones) (digits ++ byte ∷ [])
        ≡ (value_after (value * 10 + ones) digits >>= (λ before. value_after before (byte ∷ []))))
        → (read >>= (λ ones. value_after (value * 10 + ones) (digits ++ byte ∷ [])))
        ≡ ((read >>= (λ ones. value_after (value * 10 + ones) digits)) >>= (λ before. value_after before (byte ∷ [])))
    by_case None later = refl
    by_case (Some ones) later = later ones

-- a number of one digit
one_digit : (number : ℕ) → number < 10 → Spells number ((48 + number) ∷ [])
one_digit number low = record {
  first = 48 + number;
  others = [];
  is = refl;
  all = All-cons IsDigit (48 + number) [] (record { low = omega arith; high = omega arith }) (All-nil IsDigit);
  value = rw (digit_read number low) (ap Some (omega arith));
  begins = λ some. omega arith;
  short = λ small. refl;
}

-- a number with one digit after others
last_digit : (number : ℕ) (digits : List ℕ) → 10 ≤ number → Spells (number / 10) digits → Spells number (digits ++ (48 + number % 10) ∷ [])
last_digit number digits large front =
    let low : number % 10 < 10 = omega arith in
    record {
      first = front.first;
      others = front.others ++ (48 + number % 10) ∷ [];
      is = ap (λ (before : List ℕ). before ++ (48 + number % 10) ∷ []) front.is;
      all = All-push IsDigit digits (48 + number % 10) front.all (record { low = omega arith; high = omega arith });
      value = value_after-push 0 digits (48 + number % 10) ∙ rw (front.value, digit_read (number % 10) low) (ap Some (omega arith));
      begins = λ some. front.begins (omega arith);
      short = λ small. absurd (omega arith);
    }

-- what is printed of a number
pub decimal_spells : (number : ℕ) → number < 2 ^ 64 → Spells number (decimal number)
decimal_spells number low = decimal_by_steps Spells one_digit last_digit number low

-- it begins with a digit
pub first_digit : (number : ℕ) (digits : List ℕ) (spelled : Spells number digits) → IsDigit spelled.first
first_digit number digits spelled = let all = rw spelled.is at spelled.all in All-head IsDigit spelled.first spelled.others all

-- it has no leading zero
begins : (number first : ℕ) (others : List ℕ) → (0 < number → 48 < first) → (number < 10 → others ≡ []) → begins_number (first ∷ others) ≡ true
begins number first [] some short = refl
begins number first (second ∷ others) some short = elim (cases_lt number 10) [
  | inl small ↦ let none = short small in absurd (cc)
  | inr large ↦ let high : 48 < first = some (omega arith) in grind (arith, nat_tests)
]

-- a number in the range is read
pub number_read : (least most number : ℕ) → number < 2 ^ 64 → least ≤ number → number ≤ most → number_in least most (decimal number) ≡ Some number
number_read least most number low above below =
    let spelled = decimal_spells number low in
    let starts : begins_number (decimal number) ≡ true =
    ap begins_number spelled.is ∙ begins number spelled.first spelled.others spelled.begins spelled.short in
    rw (starts, spelled.value) (grind (arith, nat_tests))
