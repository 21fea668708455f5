-- Numbers and their one text.
use Rattle.std.proofs.Common.{◌≡◌, ℕ, zero, suc, ◌+◌, ◌-◌, ◌*◌, ◌<◌, ◌≤◌, true, false, not, ◌&&◌, ◌||◌, eqb, leb, List, [], ◌∷◌, length, get_or, take, Some, None, refl, sym, ap, subst, ◌∙◌, arith}
use Rattle.std.specs.Char.{digit_value}
use Rattle.std.specs.List.{list_all}
use Rattle.std.specs.Int.{IsInRange}
use Rattle.std.specs.Str.Parse.{digits_value}
use Rattle.std.specs.Fmt.{decimal}
use Rattle.std.proofs.lemmas.Bool.{and_parts, and_from, and_right, lt-leb, le-leb, leb-true, cond-true, cond-false, not-true, not_from_false, both_ways, eq-eqb, ne_eqb, false_from_ne_true}
use Rattle.std.proofs.lemmas.Bool.Decides.{nat_tests}
use Rattle.std.proofs.lemmas.Int.Digits.{digits_value_more}
use Rattle.std.proofs.lemmas.Str.Parse.{IsNumeralModel, IsDigitsTest, numerals_by_value, digits_value-take-le, digit_at}
use Rattle.std.proofs.lemmas.Fmt.{decimal-digits_value, digits_decimal, digits_value-decimal, decimal_nonempty, first_decimal, decimal_digit}
use Rattle.std.specs.Str.{bytes_eq}
use Rattle.std.proofs.lemmas.Option.{cond_some}
use Rattle.std.proofs.lemmas.Slice.Eq.{bytes_eq-Decides}
use Rattle.hs_tokens.specs.declared.token.SourceToken.{SourceToken}
use Rattle.hs_base.specs.Text.{is_digit, is_letter}
use Rattle.hs_base.specs.Options.{◌>>=◌, bind_some}
use Rattle.hs_tree.specs.Straight.Names.{begins_with_letter}
use Rattle.hs_checker.specs.Straight.Grammar.{Piece, word, Spells}
use Rattle.hs_checker.specs.Straight.Reading.{first_at, numeral, is_numeral, has_one, begins_with_zero, number_at}
use Rattle.hs_checker.proofs.Marks.{some_is, first_takes, first_again}

-- all bytes are digits
abbrev AreDigits : List ℕ → Type 0
AreDigits text = list_all is_digit text ≡ true

-- `is_digit` tells the digits, so the library reads the numbers
tells_digits : IsDigitsTest AreDigits
tells_digits = record {
  empty = refl;
  parts = λ c cs h. let p = and_parts (is_digit c) (list_all is_digit cs) h in (grind (arith, nat_tests, p.0), p.1);
  more = λ c cs lies h. and_from (is_digit c) (list_all is_digit cs) (grind (arith, nat_tests)) h;
}

model : IsNumeralModel AreDigits (digits_value 10)
model = numerals_by_value AreDigits tells_digits

-- a number in its one form has digits alone
are_digits : (text : List ℕ) → is_numeral text ≡ true → AreDigits text
are_digits [] h = refl
are_digits (byte ∷ rest) h = (and_parts (list_all is_digit (byte ∷ rest)) (has_one (byte ∷ rest) || not (begins_with_zero (byte ∷ rest))) h).0

-- what a digit stands for
value_of_digit : (byte : ℕ) → IsInRange 48 57 byte → digit_value byte ≡ byte - 48
value_of_digit byte lies = grind (arith, nat_tests)

-- the digits up to one more
pub one_digit_more : (text : List ℕ) (i : ℕ) → is_numeral text ≡ true → i < length text
    → digits_value 10 (take (i + 1) text) ≡ digits_value 10 (take i text) * 10 + (get_or text i 0 - 48)
one_digit_more text i form within =
    digits_value_more 10 text i within
    ∙ ap (λ (d : ℕ). digits_value 10 (take i text) * 10 + d) (value_of_digit (get_or text i 0) (digit_at text i (model.to text (are_digits text form)) within))

-- digits of a number that is too large already
pub too_large : (most : ℕ) (text : List ℕ) (i : ℕ) → most < digits_value 10 (take i text) → numeral most text ≡ None
unfolding numeral
too_large most text i large =
    let no : leb (digits_value 10 text) most ≡ false = lt-leb (digits_value 10 text) most (omega (arith, digits_value-take-le 10 text i (omega arith))) in
    cond-false _ _ _ (and_right (is_numeral text) (leb (digits_value 10 text) most) no)

-- ---- numbers and their text

-- a number has a digit
is_some_text : (text : List ℕ) → is_numeral text ≡ true → 0 < length text
is_some_text [] h = absurd cc
is_some_text (byte ∷ rest) h = omega arith

-- a zero in front is alone
lone_zero : (text : List ℕ) → is_numeral text ≡ true → get_or text 0 0 ≡ 48 → length text ≡ 1
lone_zero [] h zero_first = absurd cc
lone_zero (byte ∷ []) h zero_first = refl
lone_zero (byte ∷ next ∷ rest) h zero_first =
    let other = (and_parts (list_all is_digit (byte ∷ next ∷ rest)) (not (eqb byte 48)) h).1 in
    absurd (both_ways (eqb byte 48) (not-true (eqb byte 48) other) (eq-eqb byte 48 zero_first))

-- what a number in its one form has
numeral_from : (text : List ℕ) → AreDigits text → 0 < length text → (get_or text 0 0 ≡ 48 → length text ≡ 1) → is_numeral text ≡ true
numeral_from [] digits some lone = absurd (omega arith)
numeral_from (byte ∷ []) digits some lone = and_from (list_all is_digit (byte ∷ [])) true digits refl
numeral_from (byte ∷ next ∷ rest) digits some lone =
    and_from (list_all is_digit (byte ∷ next ∷ rest)) (not (eqb byte 48)) digits
    (not_from_false (eqb byte 48) (ne_eqb byte 48 (λ e. absurd (omega (arith, lone e)))))

-- what is read is the decimal text of the number
pub numeral_is : (most : ℕ) (text : List ℕ) (number : ℕ) → most ≤ 32767 → numeral most text ≡ Some number → (text ≡ decimal number) × (number ≤ most)
unfolding numeral
numeral_is most text number bound found =
    let test = cond_some (is_numeral text && leb (digits_value 10 text) most) (digits_value 10 text) number found in
    let parts = and_parts (is_numeral text) (leb (digits_value 10 text) most) test.0 in
    let low : digits_value 10 text ≤ most = leb-true _ _ parts.1 in
    let same : decimal (digits_value 10 text) ≡ text =
    decimal-digits_value model text (are_digits text parts.0) (is_some_text text parts.0) (lone_zero text parts.0) (omega arith) in
    (sym same ∙ ap decimal test.1, omega (arith, test.1))

-- a decimal text with a zero in front is `0`
decimal_lone : (number : ℕ) → number ≤ 32767 → get_or (decimal number) 0 0 ≡ 48 → length (decimal number) ≡ 1
decimal_lone zero low first = ap length (decimal_digit 0 (omega arith))
decimal_lone (suc number) low first = absurd (omega (arith, first_decimal (suc number) (omega arith) (omega arith)))

-- a decimal text has digits alone
pub digits_of_decimal : (number : ℕ) → number ≤ 32767 → list_all is_digit (decimal number) ≡ true
digits_of_decimal number low = digits_decimal model number (omega arith)

-- a decimal text is read, and gives its number
pub numeral_again : (most number : ℕ) → most ≤ 32767 → number ≤ most → numeral most (decimal number) ≡ Some number
unfolding numeral
numeral_again most number bound low =
    let form = numeral_from (decimal number) (digits_of_decimal number (omega arith)) (decimal_nonempty number (omega arith))
    (decimal_lone number (omega arith)) in
    let value : digits_value 10 (decimal number) ≡ number = digits_value-decimal model number (omega arith) in
    let fits : leb (digits_value 10 (decimal number)) most ≡ true = le-leb _ _ (omega (arith, value)) in
    cond-true _ _ _ (and_from (is_numeral (decimal number)) (leb (digits_value 10 (decimal number)) most) form fits) ∙ ap (λ (n : ℕ). Some n) value

-- a digit is no letter
no_letter : (byte : ℕ) → is_digit byte ≡ true → is_letter byte ≡ false
no_letter byte digit = grind (arith, nat_tests)

no_letter_first : (text : List ℕ) → list_all is_digit text ≡ true → begins_with_letter text ≡ false
no_letter_first [] digits = refl
no_letter_first (byte ∷ rest) digits = no_letter byte (and_parts (is_digit byte) (list_all is_digit rest) digits).0

-- a number begins with no letter
pub decimal_begins : (number : ℕ) → number ≤ 32767 → begins_with_letter (decimal number) ≡ false
decimal_begins number low = no_letter_first (decimal number) (digits_of_decimal number low)

-- a number is no text that has another byte than digits
pub decimal_not : (number : ℕ) (text : List ℕ) → number ≤ 32767 → list_all is_digit text ≡ false → bytes_eq (decimal number) text ≡ false
decimal_not number text low other = false_from_ne_true (bytes_eq (decimal number) text)
    (λ e. both_ways (list_all is_digit text) other
    (subst (λ (t : List ℕ). list_all is_digit t ≡ true) ((bytes_eq-Decides (decimal number) text).0 e) (digits_of_decimal number low)))

-- ---- reading a number

-- a number that is read is spelled so
pub number_takes : (most : ℕ) (tokens : List SourceToken) (x : ℕ × List SourceToken) (pieces : List Piece) → most ≤ 32767 → number_at most tokens ≡ Some x
    → Spells pieces x.1 → Spells (word (decimal x.0) ∷ pieces) tokens
unfolding number_at
number_takes most tokens x pieces bound e after =
    let a = bind_some (first_at tokens) (λ first. numeral most first.0.text >>= λ number. Some (number, first.1)) x e in
    let b = bind_some (numeral most a.0.0.text) (λ number. Some (number, a.0.1)) x a.2 in
    let made : ℕ × List SourceToken = (b.0, a.0.1) in
    let text = (numeral_is most a.0.0.text b.0 bound b.1).0 in
    let taken : Spells pieces a.0.1 → Spells (word (decimal b.0) ∷ pieces) tokens =
    λ s. first_takes tokens a.0 (word (decimal b.0)) pieces a.1 text tt s in
    let P : (ℕ × List SourceToken) → Type 0 = λ y. Spells pieces y.1 → Spells (word (decimal y.0) ∷ pieces) tokens in
    subst P (some_is made x b.2) taken after

-- a spelled number is read again
pub read_number_again : (most number : ℕ) (pieces : List Piece) (tokens : List SourceToken) → most ≤ 32767 → number ≤ most
    → Spells (word (decimal number) ∷ pieces) tokens → (rest : List SourceToken) × (number_at most tokens ≡ Some (number, rest)) × Spells pieces rest
unfolding number_at
read_number_again most number pieces tokens bound low spelled =
    let first = first_again (word (decimal number)) pieces tokens spelled in
    let found : numeral most first.0.0.text ≡ Some number = rw first.2 (numeral_again most number bound low) in
    (first.0.1, rw (first.1, found) refl, first.4)
