-- The bytes of a source text: words, lines and places (X3.159-1989 2.2.1 and 3.1.2; what ends a line is own).
-- A line ends at LF, CR or CR LF. Lines and byte columns count from 1.
--     is_digit, is_letter, is_word_byte     what words are made of
--     ends_line byte rest                   the byte, with that after it, is the last of its line
--     next_place at byte rest               the place of what follows a byte at that place
use Rattle.std.specs.Prelude.{ℕ, ◌+◌, ◌==◌, nat_le, Bool, false, not, ◌&&◌, ◌||◌, List, [], ◌∷◌, if◌then◌else◌}
use Rattle.hs_base.specs.declared.pos.Pos.{Pos}

-- 0 to 9
abbrev pub is_digit : ℕ → Bool
is_digit byte = nat_le 48 byte && nat_le byte 57

-- a letter of the alphabet, or the underscore, which counts as one (3.1.2)
abbrev pub is_letter : ℕ → Bool
is_letter byte = (nat_le 65 byte && nat_le byte 90) || (nat_le 97 byte && nat_le byte 122) || (byte == 95)

-- a byte of identifiers and numbers
abbrev pub is_word_byte : ℕ → Bool
is_word_byte byte = is_letter byte || is_digit byte

-- that byte stands first
abbrev pub begins_with : ℕ → List ℕ → Bool
begins_with wanted [] = false
begins_with wanted (byte ∷ rest) = byte == wanted

-- the byte is the last of its line: LF, or a CR that no LF follows
abbrev pub ends_line : ℕ → List ℕ → Bool
ends_line byte rest = (byte == 10) || ((byte == 13) && not (begins_with 10 rest))

-- the place of what follows the byte, with the rest after it
abbrev pub next_place : Pos → ℕ → List ℕ → Pos
next_place at byte rest =
    if ends_line byte rest
    then record { file = at.file; line = at.line + 1; col = 1 }
    else record { file = at.file; line = at.line; col = at.col + 1 }
