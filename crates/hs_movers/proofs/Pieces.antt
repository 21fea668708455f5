-- Pieces of a text up to a byte.
use Rattle.std.proofs.Common.{◌≡◌, ℕ, ◌+◌, ◌<◌, ◌==◌, true, false, List, [], ◌∷◌, ◌++◌, length, refl, ap, ◌∙◌, arith}
use Rattle.std.specs.List.{All, position_or_len}
use Rattle.std.proofs.lemmas.Bool.Decides.{nat_tests}
use Rattle.std.proofs.lemmas.List.Elements.{All-head, All-tail, All-weaker}
use Rattle.hs_movers.proofs.Numerals.{IsDigit}

-- no byte of the text has that value
abbrev pub Lacks : ℕ → List ℕ → Type 0
Lacks stop text = All (λ byte. (byte == stop) ≡ false) text

-- digits lack what is below them
pub digits_lack : (stop : ℕ) (digits : List ℕ) → stop < 48 → All IsDigit digits → Lacks stop digits
digits_lack stop digits below all =
    All-weaker IsDigit (λ byte. (byte == stop) ≡ false) (λ byte is. let low = is.low in grind (arith, nat_tests)) digits all

-- they lack a colon
pub digits_lack_colon : (digits : List ℕ) → All IsDigit digits → Lacks 58 digits
digits_lack_colon digits all =
    All-weaker IsDigit (λ byte. (byte == 58) ≡ false) (λ byte is. let high = is.high in grind (arith, nat_tests)) digits all

-- the place of the byte
pub place_of : (stop : ℕ) (front rest : List ℕ) → Lacks stop front → position_or_len (λ byte. byte == stop) (front ++ stop ∷ rest) ≡ length front
place_of stop [] rest lacks = let same : (stop == stop) ≡ true = grind (arith, nat_tests) in rw same refl
place_of stop (byte ∷ front) rest lacks =
    rw (All-head (λ byte. (byte == stop) ≡ false) byte front lacks)
    (ap (λ n. 1 + n) (place_of stop front rest (All-tail (λ byte. (byte == stop) ≡ false) byte front lacks)) ∙ omega arith)

-- without it, the end
pub place_at_end : (stop : ℕ) (text : List ℕ) → Lacks stop text → position_or_len (λ byte. byte == stop) text ≡ length text
place_at_end stop [] lacks = refl
place_at_end stop (byte ∷ text) lacks =
    rw (All-head (λ byte. (byte == stop) ≡ false) byte text lacks)
    (ap (λ n. 1 + n) (place_at_end stop text (All-tail (λ byte. (byte == stop) ≡ false) byte text lacks)) ∙ omega arith)
