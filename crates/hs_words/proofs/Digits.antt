-- One to ten decimal digits are read as their number.
use Rattle.std.proofs.Common.{◌≡◌, ℕ, ◌+◌, ◌*◌, ◌<◌, ◌≤◌, ◌==◌, Bool, true, false, ◌&&◌, List, [], ◌∷◌, length, Some, Result, Ok, Err, refl, ap, subst, arith}
use Rattle.std.specs.Prelude.{nat_le}
use Rattle.std.specs.Char.{digit_value, is_digit}
use Rattle.std.specs.List.{list_all}
use Rattle.std.specs.Result.{OkIff, result_ok}
use Rattle.std.specs.Str.Parse.{AllDigits, IsNumeral, ParsesUnsigned, digits_value, digits_value_after, without_leading_plus}
use Rattle.std.proofs.Common.{leb-true, ltb-true, eqb-true, ◌^◌}
use Rattle.std.proofs.lemmas.Bool.{and_parts}
use Rattle.hs_words.specs.Words.{is_number}

-- each of them is a digit
all_digits : (text : List ℕ) → list_all (λ byte. is_digit byte 10) text ≡ true → AllDigits 10 text
all_digits [] are = tt
all_digits (byte ∷ text) are =
    let parts = and_parts (is_digit byte 10) (list_all (λ byte. is_digit byte 10) text) are in
    (ltb-true (digit_value byte) 10 parts.0, all_digits text parts.1)

-- a bound on what digits write after a number below that bound
abbrev grown : ℕ → List ℕ → ℕ
grown bound [] = bound
grown bound (byte ∷ text) = grown (bound * 10) text

below : (text : List ℕ) (number bound : ℕ) → number < bound → AllDigits 10 text → digits_value_after 10 number text < grown bound text
below [] number bound small are = small
below (byte ∷ text) number bound small (is, are) = below text (number * 10 + digit_value byte) (bound * 10) (omega (arith, small, is)) are

-- ten digits at most
few : (text : List ℕ) → length text ≤ 10 → grown 1 text ≤ 10000000000
few [] at_most = omega arith
few (a ∷ []) at_most = omega arith
few (a ∷ b ∷ []) at_most = omega arith
few (a ∷ b ∷ c ∷ []) at_most = omega arith
few (a ∷ b ∷ c ∷ d ∷ []) at_most = omega arith
few (a ∷ b ∷ c ∷ d ∷ e ∷ []) at_most = omega arith
few (a ∷ b ∷ c ∷ d ∷ e ∷ f ∷ []) at_most = omega arith
few (a ∷ b ∷ c ∷ d ∷ e ∷ f ∷ g ∷ []) at_most = omega arith
few (a ∷ b ∷ c ∷ d ∷ e ∷ f ∷ g ∷ h ∷ []) at_most = omega arith
few (a ∷ b ∷ c ∷ d ∷ e ∷ f ∷ g ∷ h ∷ i ∷ []) at_most = omega arith
few (a ∷ b ∷ c ∷ d ∷ e ∷ f ∷ g ∷ h ∷ i ∷ j ∷ []) at_most = omega arith
few (a ∷ b ∷ c ∷ d ∷ e ∷ f ∷ g ∷ h ∷ i ∷ j ∷ k ∷ rest) at_most = absurd (omega (arith, at_most))

-- a digit is no plus
no_plus : (byte : ℕ) (test : Bool) → (byte == 43) ≡ test → is_digit byte 10 ≡ true → test ≡ false
no_plus byte false same is = refl
no_plus byte true same is =
    let wrong : is_digit 43 10 ≡ true = subst (λ (it : ℕ). is_digit it 10 ≡ true) (eqb-true byte 43 same) is in absurd cc

no_sign : (text : List ℕ) → 1 ≤ length text → list_all (λ byte. is_digit byte 10) text ≡ true → without_leading_plus text ≡ text
no_sign [] some are = absurd (omega (arith, some))
no_sign (byte ∷ text) some are =
    let first = (and_parts (is_digit byte 10) (list_all (λ byte. is_digit byte 10) text) are).0 in
    rw (no_plus byte (byte == 43) refl first) refl

-- what the library reads of a text, if it reads those that are numerals
read : {E : Type 0} (text : List ℕ) (result : Result ℕ E) → IsNumeral 10 text × (digits_value 10 text < 2 ^ 64)
    → OkIff result (IsNumeral 10 text × (digits_value 10 text < 2 ^ 64)) (digits_value 10 text) → result_ok result ≡ Some (digits_value 10 text)
read text (Ok number) is reads = ap (λ (it : ℕ). Some it) reads.1
read text (Err error) is reads = absurd (reads is)

-- of one to ten digits it reads their number
pub reads_number : {E : Type 0} (text : List ℕ) (result : Result ℕ E) → is_number text ≡ true → ParsesUnsigned 64 10 text result
    → result_ok result ≡ Some (digits_value 10 text)
reads_number {E} text result is reads =
    let parts = and_parts (nat_le 1 (length text) && nat_le (length text) 10) (list_all (λ byte. is_digit byte 10) text) is in
    let counts = and_parts (nat_le 1 (length text)) (nat_le (length text) 10) parts.0 in
    let some = leb-true 1 (length text) counts.0 in
    let are = all_digits text parts.1 in
    let bound = below text 0 1 (omega arith) are in
    let most = few text (leb-true (length text) 10 counts.1) in
    read text result ((some, are), omega (arith, bound, most))
    (subst (λ (it : List ℕ). OkIff result (IsNumeral 10 it × (digits_value 10 it < 2 ^ 64)) (digits_value 10 it)) (no_sign text some parts.1) reads)
