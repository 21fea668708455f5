-- The bytes that the tokens of a text share: where a part begins among them, and which of them are its text.
use Rattle.std.proofs.Common.{◌≡◌, ℕ, suc, ◌+◌, ◌≤◌, min, List, ◌∷◌, length, take, drop, sym, ap, ◌∙◌, inl, inr, arith}
use Rattle.std.proofs.lemmas.Bool.{cases_lt}
use Rattle.std.proofs.lemmas.List.{take-map, drop-map, drop-drop, drop_all}
use Rattle.hs_tokens.specs.Lines.{Placed}
use Rattle.hs_tokens.specs.Forms.{bytes_of}

-- a count that stops at the length or above it leaves out as many
drop_most : (bytes : List ℕ) (count most : ℕ) → length bytes ≤ most → drop (min count most) bytes ≡ drop count bytes
drop_most bytes count most short =
    elim (cases_lt most count) [
      | inl above ↦
          drop_all (min count most) bytes (omega (arith, short, above)) ∙ sym (drop_all count bytes (omega (arith, short, above)))
      | inr within ↦ let same : min count most ≡ count = omega (arith, within) in ap (λ (n : ℕ). drop n bytes) same
    ]

-- after a part, its first byte and the others are in front too
pub part_behind : (whole : List ℕ) (start others most : ℕ) (placed : Placed) (bytes after behind : List Placed)
    → bytes_of bytes ≡ drop start whole → bytes ≡ placed ∷ after → behind ≡ drop others after → length whole ≤ most
    → bytes_of behind ≡ drop (min (start + (1 + others)) most) whole
part_behind whole start others most placed bytes after behind place ahead is_behind short =
    let byte_of : Placed → ℕ = λ it. it.byte in
    let one : 1 + others ≡ suc others = omega arith in
    ap bytes_of is_behind ∙ sym (drop-map byte_of others after) ∙ sym (ap (λ (it : List Placed). drop (suc others) (bytes_of it)) ahead)
    ∙ ap (drop (suc others)) place ∙ drop-drop (suc others) start whole ∙ sym (ap (λ (n : ℕ). drop (start + n) whole) one)
    ∙ sym (drop_most whole (start + (1 + others)) most short)

-- the bytes of a token at a place
pub part_at : (whole : List ℕ) (start len : ℕ) (bytes : List Placed) → bytes_of bytes ≡ drop start whole
    → take len (drop start whole) ≡ bytes_of (take len bytes)
part_at whole start len bytes place = sym (ap (take len) place) ∙ take-map (λ (it : Placed). it.byte) len bytes
