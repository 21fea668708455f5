-- Escapes, digit by digit, and the characters of a content, one by one.
use Rattle.std.proofs.Common.{◌≡◌, ℕ, zero, suc, ◌+◌, ◌-◌, ◌*◌, ◌<◌, ◌≤◌, min, true, false, ◌==◌, nat_le, List, [], ◌∷◌, length, take, drop, Option, Some, None, refl, sym, ap, ◌∙◌, inl, inr, arith}
use Rattle.std.specs.Prelude.{find, if◌then◌else◌}
use Rattle.std.proofs.Math.Numerals.{one-add}
use Rattle.std.specs.List.{prefix_len}
use Rattle.std.proofs.lemmas.Bool.{cases_Bool}
use Rattle.std.proofs.lemmas.Bool.Decides.{nat_tests}
use Rattle.std.proofs.lemmas.List.{take-map, length-take}
use Rattle.std.proofs.lemmas.List.Sums.{prefix_len-le-length}
use Rattle.hs_base.specs.declared.pos.Pos.{Pos}
use Rattle.hs_tokens.specs.Characters.{is_octal, is_hex}
use Rattle.hs_tokens.specs.Lines.{Placed}
use Rattle.hs_tokens.specs.Literals.{one_more, octal_value, hex_value, hex_digit_value, byte_escape, octal_escape, character_len, is_bad_character}
use Rattle.hs_tokens.specs.Forms.{bytes_of, cuts, characters, place_of_bad, first_bad}
use Rattle.hs_tokens.proofs.Cursors.{take_both}

value_or_none : (len value : ℕ) → 255 < value → byte_escape len value ≡ None
value_or_none len value over = let more : nat_le value 255 ≡ false = grind (arith, nat_tests) in rw more refl

value_or_len : (len value : ℕ) → value ≤ 255 → byte_escape len value ≡ Some len
value_or_len len value within = let less : nat_le value 255 ≡ true = grind (arith, nat_tests) in rw less refl

-- octal digits of that number and value, and those that follow
abbrev pub octal_from : ℕ → ℕ → List ℕ → Option ℕ
octal_from len value bytes =
    let count = prefix_len is_octal bytes in byte_escape (len + count) (octal_value value (take count bytes))

-- a further digit makes the value no less
octal_grows : (value : ℕ) (digits : List ℕ) → value ≤ octal_value value digits
octal_grows value [] = omega arith
octal_grows value (digit ∷ digits) = omega (arith, octal_grows (8 * value + (digit - 48)) digits)

-- so a value above a byte stays so
pub octal_over : (len value : ℕ) (bytes : List ℕ) → 255 < value → octal_from len value bytes ≡ None
octal_over len value bytes over =
    let digits : List ℕ = take (prefix_len is_octal bytes) bytes in
    value_or_none (len + prefix_len is_octal bytes) (octal_value value digits) (omega (arith, octal_grows value digits))

-- a further digit
pub octal_next : (len value byte : ℕ) (bytes rest : List ℕ) → bytes ≡ byte ∷ rest → is_octal byte ≡ true
    → octal_from (len + 1) (8 * value + (byte - 48)) rest ≡ octal_from len value bytes
octal_next len value byte bytes rest ahead digit =
    let one : len + suc (prefix_len is_octal rest) ≡ len + 1 + prefix_len is_octal rest = omega arith in
    rw (ahead, digit, one-add (prefix_len is_octal rest), one) refl

-- no digit any more
pub octal_stop : (len value byte : ℕ) (bytes rest : List ℕ) → bytes ≡ byte ∷ rest → is_octal byte ≡ false → value ≤ 255
    → octal_from len value bytes ≡ Some len
octal_stop len value byte bytes rest ahead other within =
    let none : len + 0 ≡ len = omega arith in
    rw (ahead, other, none) (value_or_len len value within)

-- no byte any more
pub octal_end : (len value : ℕ) (bytes : List ℕ) → bytes ≡ [] → value ≤ 255 → octal_from len value bytes ≡ Some len
octal_end len value bytes ahead within =
    let none : len + 0 ≡ len = omega arith in
    rw (ahead, none) (value_or_len len value within)

-- three digits at most
octal_front : (bytes : List ℕ) (count : ℕ) → count ≡ prefix_len is_octal (take 3 bytes)
    → byte_escape (0 + count) (octal_value 0 (take count (take 3 bytes))) ≡ byte_escape count (octal_value 0 (take count bytes))
octal_front bytes count is =
    let few : min 3 count ≡ count = omega (arith, prefix_len-le-length is_octal (take 3 bytes), length-take 3 bytes) in
    let none : 0 + count ≡ count = omega arith in
    rw (none, take_both count 3 bytes, few) refl

-- no digit yet
pub octal_start : (bytes front : List Placed) → front ≡ take 3 bytes → octal_from 0 0 (bytes_of front) ≡ octal_escape (bytes_of bytes)
octal_start bytes front ahead =
    let same : bytes_of front ≡ take 3 (bytes_of bytes) = ap bytes_of ahead ∙ sym (take-map (λ (placed : Placed). placed.byte) 3 bytes) in
    ap (octal_from 0 0) same ∙ octal_front (bytes_of bytes) (prefix_len is_octal (take 3 (bytes_of bytes))) refl

-- hexadecimal digits of that number and value, if there are some
abbrev pub hex_some : ℕ → ℕ → Option ℕ
hex_some len value = if len == 0 then None else one_more (byte_escape len value)

-- those and the digits that follow
abbrev pub hex_from : ℕ → ℕ → List ℕ → Option ℕ
hex_from len value bytes =
    let count = prefix_len is_hex bytes in hex_some (len + count) (hex_value value (take count bytes))

hex_grows : (value : ℕ) (digits : List ℕ) → value ≤ hex_value value digits
hex_grows value [] = omega arith
hex_grows value (digit ∷ digits) = omega (arith, hex_grows (16 * value + hex_digit_value digit) digits)

hex_none : (len value : ℕ) → 255 < value → hex_some len value ≡ None
hex_none len value over =
    elim (cases_Bool (len == 0)) [ inl empty ↦ rw empty refl | inr full ↦ rw (full, value_or_none len value over) refl ]

-- a value above a byte stays so
pub hex_over : (len value : ℕ) (bytes : List ℕ) → 255 < value → hex_from len value bytes ≡ None
hex_over len value bytes over =
    let digits : List ℕ = take (prefix_len is_hex bytes) bytes in
    hex_none (len + prefix_len is_hex bytes) (hex_value value digits) (omega (arith, hex_grows value digits))

-- a further digit
pub hex_next : (len value byte : ℕ) (bytes rest : List ℕ) → bytes ≡ byte ∷ rest → is_hex byte ≡ true
    → hex_from (len + 1) (16 * value + hex_digit_value byte) rest ≡ hex_from len value bytes
hex_next len value byte bytes rest ahead digit =
    let one : len + suc (prefix_len is_hex rest) ≡ len + 1 + prefix_len is_hex rest = omega arith in
    rw (ahead, digit, one-add (prefix_len is_hex rest), one) refl

-- what is left of the part before is dropped
pub cuts-skip : (len : List Placed → ℕ) (skip : ℕ) (bytes : List Placed) → cuts len skip bytes ≡ cuts len 0 (drop skip bytes)
cuts-skip len zero bytes = refl
cuts-skip len (suc skip) [] = refl
cuts-skip len (suc skip) (placed ∷ rest) = cuts-skip len skip rest

-- one character on: `here` are the bytes from its first on
module _ (placed : Placed) (bytes after behind : List Placed) (here : List ℕ) (is_here : here ≡ placed.byte ∷ bytes_of after)
    (ahead : bytes ≡ placed ∷ after) (is_behind : behind ≡ drop (character_len here - 1) after) where
  characters_next : characters bytes ≡ (placed ∷ after) ∷ characters behind
  characters_next =
      let skip : ℕ = character_len (placed.byte ∷ bytes_of after) - 1 in
      let same : behind ≡ drop skip after = is_behind ∙ ap (λ (bs : List ℕ). drop (character_len bs - 1) after) is_here in
      rw (ahead, same) (ap (λ parts. (placed ∷ after) ∷ parts) (cuts-skip (λ rest. character_len (bytes_of rest)) skip after))

  -- the count is one on
  pub count_next : (count : ℕ) → count + 1 + length (characters behind) ≡ count + length (characters bytes)
  count_next count =
      let one : length (characters bytes) ≡ suc (length (characters behind)) = ap length characters_next in
      omega arith

  -- a good character is not the first bad one
  pub bad_later : (other : Pos) → is_bad_character here ≡ false → first_bad other behind ≡ first_bad other bytes
  bad_later other good =
      let fine : is_bad_character (placed.byte ∷ bytes_of after) ≡ false = sym (ap is_bad_character is_here) ∙ good in
      sym (ap (λ parts. place_of_bad other (find (λ rest. is_bad_character (bytes_of rest)) parts)) characters_next ∙ rw fine refl)
