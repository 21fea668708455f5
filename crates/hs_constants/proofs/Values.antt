-- The characters of a constant one by one, and the number that they make.
--     bits_from count number values     so many characters of that number, and those ahead
--     escaped                           an escape at the front
use Rattle.std.proofs.Common.{◌≡◌, ℕ, zero, suc, ◌+◌, ◌-◌, List, [], ◌∷◌, length, drop, Option, Some, None, refl, sym, ap, ◌∙◌, arith}
use Rattle.std.specs.Prelude.{nat_le, nat_lt, if◌then◌else◌}
use Rattle.hs_tokens.specs.Literals.{escape_len, backslash_len, character_len}
use Rattle.hs_constants.specs.Characters.{escape_value, values_after, characters_of, big_endian}
use Rattle.hs_constants.specs.Escapes.{len_of}

-- so many characters of that number
abbrev pub bits_in : ℕ → ℕ → Option ℕ
bits_in zero number = None
bits_in (suc zero) number = Some (if nat_lt number 128 then number else number + 4294967040)
bits_in (suc (suc more)) number = if nat_le more 2 then Some number else None

-- those, and the values ahead
abbrev pub bits_from : ℕ → ℕ → List ℕ → Option ℕ
bits_from count number values = bits_in (count + length values) (big_endian number values)

-- what is left of the character before is dropped
values-skip : (skip : ℕ) (content : List ℕ) → values_after skip content ≡ characters_of (drop skip content)
values-skip zero content = refl
values-skip (suc skip) [] = refl
values-skip (suc skip) (byte ∷ rest) = values-skip skip rest

-- what an escape leaves of the length
len_behind : (len : Option ℕ) → backslash_len len - 1 ≡ len_of len
len_behind None = omega arith
len_behind (Some len) = omega arith

-- an escape at the front, with what follows it
pub escaped : (byte : ℕ) (content after : List ℕ) (len value : ℕ) → content ≡ byte ∷ after → byte ≡ 92 → len ≡ len_of (escape_len after)
    → value ≡ escape_value len after → characters_of content ≡ value ∷ characters_of (drop len after)
escaped byte content after len value is slash is_len is_value =
    let same : character_len (92 ∷ after) - 1 ≡ len = len_behind (escape_len after) ∙ sym is_len in
    ap characters_of (is ∙ ap (λ (first : ℕ). first ∷ after) slash)
    ∙ ap (λ (skip : ℕ). escape_value skip after ∷ values_after skip after) same
    ∙ ap (λ (first : ℕ). first ∷ values_after len after) (sym is_value)
    ∙ ap (λ (later : List ℕ). value ∷ later) (values-skip len after)
