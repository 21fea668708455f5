-- Reading gives back the numbers and the lines that were written.
use Rattle.std.proofs.Common.{◌≡◌, ℕ, suc, ◌+◌, ◌*◌, ◌-◌, ◌/◌, ◌%◌, ◌^◌, ◌<◌, ◌≤◌, ◌==◌, min, ℤ, pos, negsuc, neg_ℤ, Bool, true, false, List, [], ◌∷◌, ◌++◌, length, Some, None, if◌then◌else◌, codes, nat_eq, refl, ap, ◌∙◌, append_assoc, arith}
use Rattle.std.specs.Prelude.{nat_abs}
use Rattle.std.specs.Fmt.{decimal, signed_decimal}
use Rattle.std.proofs.lemmas.Bool.Decides.{nat_tests}
use Rattle.std.proofs.lemmas.Fmt.{decimal_by_steps}
use Rattle.hs_base.specs.Text.{is_digit}
use Rattle.hs_base.specs.Options.{bind_some}
use Rattle.hs_cert.specs.Reading.{after, number_at, signed_at, line_at, most_size, most_edge}
use Rattle.hs_cert.specs.Texts.{flow_line}

-- the digits are digits
digit_tells : (k : ℕ) → k < 10 → is_digit (48 + k) ≡ true
digit_tells k low = grind (arith, nat_tests)

-- one digit more
one_digit : (most value k n : ℕ) (rest : List ℕ) → k < 10 → n ≡ value * 10 + k → n ≤ most
    → number_at most value ((48 + k) ∷ rest) ≡ number_at most n rest
one_digit most value k n rest low is fits =
    let now : min (value * 10 + (48 + k - 48)) most ≡ n = omega arith in
    rw (digit_tells k low, now) refl

-- these digits come to the number, whatever follows
abbrev ReadsDigits : ℕ → List ℕ → Type 0
ReadsDigits n digits = (most : ℕ) (rest : List ℕ) → n ≤ most → number_at most 0 (digits ++ rest) ≡ number_at most n rest

-- one digit after others
last_digit : (n : ℕ) (digits : List ℕ) → 10 ≤ n → ReadsDigits (n / 10) digits → ReadsDigits n (digits ++ (48 + n % 10) ∷ [])
last_digit n digits large before most rest fits =
    let front : n / 10 ≤ most = omega arith in
    let low : n % 10 < 10 = omega arith in
    let is : n ≡ n / 10 * 10 + n % 10 = omega arith in
    rw append_assoc (before most ((48 + n % 10) ∷ rest) front ∙ one_digit most (n / 10) (n % 10) n rest low is fits)

-- the digits of a number come to it
pub decimal_read : (n : ℕ) → n < 2 ^ 64 → (most : ℕ) (rest : List ℕ) → n ≤ most
    → number_at most 0 (decimal n ++ rest) ≡ number_at most n rest
decimal_read n low = decimal_by_steps ReadsDigits (λ n small most rest fits. one_digit most 0 n n rest small (omega arith) fits) last_digit n low

-- these digits are read as a number without a sign
abbrev ReadsUnsigned : ℕ → List ℕ → Type 0
ReadsUnsigned n digits =
    (rest : List ℕ)
    → signed_at (digits ++ rest) ≡ (pos (number_at most_size 0 (digits ++ rest)).0, (number_at most_size 0 (digits ++ rest)).1)

-- a digit is no sign
no_sign : (k : ℕ) (rest : List ℕ)
    → signed_at ((48 + k) ∷ rest) ≡ (pos (number_at most_size 0 ((48 + k) ∷ rest)).0, (number_at most_size 0 ((48 + k) ∷ rest)).1)
no_sign k rest = let other : ((48 + k) == 45) ≡ false = grind (arith, nat_tests) in rw other refl

-- a number without a sign
unsigned_read : (n : ℕ) → n < 2 ^ 64 → ReadsUnsigned n (decimal n)
unsigned_read n low =
    decimal_by_steps ReadsUnsigned (λ n small rest. no_sign n rest)
    (λ n digits large before rest. rw append_assoc (before ((48 + n % 10) ∷ rest))) n low

-- the amounts that are written
pub signed_read : (amount : ℤ) (byte : ℕ) (rest : List ℕ) → nat_abs amount ≤ 2147483647 → is_digit byte ≡ false
    → signed_at (signed_decimal amount ++ byte ∷ rest) ≡ (amount, byte ∷ rest)
signed_read (pos n) byte rest small ends =
    let number : number_at most_size 0 (decimal n ++ byte ∷ rest) ≡ (n, byte ∷ rest) =
    decimal_read n (omega arith) most_size (byte ∷ rest) (omega arith) ∙ rw ends refl in
    unsigned_read n (omega arith) (byte ∷ rest) ∙ rw number refl
signed_read (negsuc n) byte rest small ends =
    let number : number_at most_size 0 (decimal (suc n) ++ byte ∷ rest) ≡ (suc n, byte ∷ rest) =
    decimal_read (suc n) (omega arith) most_size (byte ∷ rest) (omega arith) ∙ rw ends refl in
    rw number refl

-- a line that is written
pub line_read : (edge : ℕ) (amount : ℤ) (rest : List ℕ) → edge < 2 ^ 64 → nat_abs amount ≤ 2147483647
    → line_at (codes "flow " ++ (decimal edge ++ 32 ∷ (signed_decimal amount ++ 10 ∷ rest))) ≡ Some (edge, amount, rest)
unfolding line_at
line_read edge amount rest low small =
    let number : number_at most_edge 0 (decimal edge ++ 32 ∷ (signed_decimal amount ++ 10 ∷ rest)) ≡ (edge, 32 ∷ (signed_decimal amount ++ 10 ∷ rest)) =
    decimal_read edge low most_edge (32 ∷ (signed_decimal amount ++ 10 ∷ rest)) (omega arith) in
    rw number (rw (signed_read amount 10 rest small refl) refl)

-- no edge's line begins the line of the crossings
pub no_line : (tail : List ℕ) → line_at (codes "crossings " ++ tail) ≡ None
unfolding line_at
no_line tail = refl

-- the line of an edge over which something flows
pub flow_line_read : (edge : ℕ) (amount : ℤ) (rest : List ℕ) → edge < 2 ^ 64 → nat_abs amount ≤ 2147483647
    → nat_eq (nat_abs amount) 0 ≡ false
    → line_at (flow_line edge amount ++ rest) ≡ Some (edge, amount, rest)
flow_line_read edge amount rest low small flows =
    let same : flow_line edge amount ++ rest ≡ codes "flow " ++ (decimal edge ++ 32 ∷ (signed_decimal amount ++ 10 ∷ rest)) =
    rw flows (simp append_assoc) in
    rw same (line_read edge amount rest low small)

-- what is left is no longer
pub number_shorter : (most value : ℕ) (text : List ℕ) → length (number_at most value text).1 ≤ length text
number_shorter most value [] = omega arith
number_shorter most value (byte ∷ text) =
    by_test (is_digit byte) value byte text (number_at most (min (value * 10 + (byte - 48)) most) text)
    (number_shorter most (min (value * 10 + (byte - 48)) most) text)
  where
    by_test : (test : Bool) (value byte : ℕ) (text : List ℕ) (read : ℕ × List ℕ) → length read.1 ≤ length text
        → (let now : ℕ × List ℕ = if test then read else (value, byte ∷ text) in length now.1) ≤ suc (length text)
    by_test true value byte text read shorter = omega arith
    by_test false value byte text read shorter = omega arith

-- the same with a sign
pub signed_shorter : (text : List ℕ) → length (signed_at text).1 ≤ length text
signed_shorter [] = omega arith
signed_shorter (byte ∷ text) =
    by_test (byte == 45) (number_at most_size 0 text) (number_at most_size 0 (byte ∷ text)) (number_shorter most_size 0 text)
    (number_shorter most_size 0 (byte ∷ text))
  where
    by_test : (test : Bool) (signed plain : ℕ × List ℕ) → length signed.1 ≤ length text → length plain.1 ≤ suc (length text)
        → (let read : ℤ × List ℕ = if test then (neg_ℤ (pos signed.0), signed.1) else (pos plain.0, plain.1) in length read.1) ≤ suc (length text)
    by_test true signed plain short long = omega arith
    by_test false signed plain short long = omega arith

-- what follows a word is shorter by it
pub after_shorter : (word text rest : List ℕ) → after word text ≡ Some rest → length word + length rest ≡ length text
after_shorter [] text rest is = let same : text ≡ rest = cc in let long = ap length same in omega arith
after_shorter (byte ∷ word) [] rest is = absurd (cc)
after_shorter (byte ∷ word) (other ∷ text) rest is = by_test (other == byte) is (after_shorter word text rest)
  where
    by_test : (test : Bool) → (if test then after word text else None) ≡ Some rest → (after word text ≡ Some rest → length word + length rest ≡ length text)
        → suc (length word) + length rest ≡ suc (length text)
    by_test true is shorter = let here = shorter is in omega arith
    by_test false is shorter = absurd (cc)

-- what follows a line is shorter
pub line_shorter : (text : List ℕ) (line : ℕ × ℤ × List ℕ) → line_at text ≡ Some line → length line.2 < length text
unfolding line_at
line_shorter text line is =
    let edge = bind_some (after (codes "flow ") text) _ line is in
    let amount = bind_some (after (32 ∷ []) (number_at most_edge 0 edge.0).1) _ line edge.2 in
    let rest = bind_some (after (10 ∷ []) (signed_at amount.0).1) _ line amount.2 in
    let same : (((number_at most_edge 0 edge.0).0, (signed_at amount.0).0, rest.0)) ≡ line = cc in
    let last : rest.0 ≡ line.2 = ap (λ (line : ℕ × ℤ × List ℕ). line.2) same in
    omega (
      arith,
      ap length last,
      after_shorter (codes "flow ") text edge.0 edge.1,
      number_shorter most_edge 0 edge.0,
      after_shorter (32 ∷ []) (number_at most_edge 0 edge.0).1 amount.0 amount.1,
      signed_shorter amount.0,
      after_shorter (10 ∷ []) (signed_at amount.0).1 rest.0 rest.1,
    )
