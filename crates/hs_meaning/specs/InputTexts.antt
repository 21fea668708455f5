-- The text of an input (the form is own): lines, each ended by LF; the last LF may be absent. An empty line is ignored. Lines
-- of one kind add up in order.
--     bytes 4142                   bytes of the input: hexadecimal digits in either case, two for each byte
--     word -1                      an answer word: the low 32 bits of a number from -2147483648 to 4294967295
--     refuse 1                     the number, from 1 to 4294967295, of an allocation that is refused
--     hex_bytes text               the bytes that hexadecimal digits are
--     number_in least most text    the decimal number that the text is, if it is in the range
--     too_large                    a value that is past the range only grows with more digits
--     word_of text                 the low 32 bits of the number that the text is
--     item_of line                 what the line says, if it has one of the forms
--     reading text                 the input, or the number of the first line that has no form
--     IsInputOf text result        what `read_input` may return for the text
use Rattle.std.specs.Prelude.{◌≡◌, ℕ, ◌+◌, ◌*◌, ◌==◌, nat_eq, nat_lt, nat_le, ℤ, pos, neg_ℤ, Bool, true, false, not, ◌&&◌, ⊤, List, [], ◌∷◌, ◌++◌, length, drop, codes, Option, Some, None, option_map, Result, Ok, Err, if◌then◌else◌}
use Rattle.std.specs.Char.{digit_value}
use Rattle.std.specs.Int.{w32, cast_unsigned}
use Rattle.std.specs.List.{slice_split, starts_with}
use Rattle.hs_base.specs.Options.{◌>>=◌}
use Rattle.hs_meaning.specs.declared.input.Input.{Input}
use Rattle.hs_meaning.specs.declared.input_text.InputError.{InputError}
use Rattle.hs_meaning.specs.declared.input_text.InputError.TheVariants.{BadInput, NoMemory}
use Rattle.hs_meaning.specs.declared.input_text.line.Item.{Item}
use Rattle.hs_meaning.specs.declared.input_text.line.Item.TheVariants.{Nothing, Bytes, Word, Refused}
use Rattle.std.proofs.lemmas.Bool.Decides.{nat_tests}
use Rattle.std.proofs.Common.{◌<◌, refl, arith}

-- the value of a digit of that base: 0 to 9, then the letters in either case
abbrev pub digit : ℕ → ℕ → Option ℕ
digit base byte = if nat_lt (digit_value byte) base then Some (digit_value byte) else None

-- the byte that two hexadecimal digits are
abbrev pub hex_byte : ℕ → ℕ → Option ℕ
hex_byte high low = do
  sixteens ← digit 16 high
  ones ← digit 16 low
  Some (16 * sixteens + ones)

-- the bytes that hexadecimal digits are, two digits for each
abbrev pub hex_bytes : List ℕ → Option (List ℕ)
hex_bytes [] = Some []
hex_bytes (odd ∷ []) = None
hex_bytes (high ∷ low ∷ rest) = do
  byte ← hex_byte high low
  bytes ← hex_bytes rest
  Some (byte ∷ bytes)

-- the value of decimal digits that follow digits of that value
abbrev pub value_after : ℕ → List ℕ → Option ℕ
value_after value [] = Some value
value_after value (byte ∷ rest) = do
  ones ← digit 10 byte
  value_after (value * 10 + ones) rest

-- the text is not empty, and has no leading zero
abbrev pub begins_number : List ℕ → Bool
begins_number [] = false
begins_number (byte ∷ []) = true
begins_number (first ∷ second ∷ rest) = not (first == 48)

-- the number, if it is in the range
abbrev pub within : ℕ → ℕ → Option ℕ → Option ℕ
within least most None = None
within least most (Some n) = if nat_le least n && nat_le n most then Some n else None

-- a value only grows with more digits: if it is too large, the number is
pub too_large : (least most value : ℕ) (rest : List ℕ) → most < value → within least most (value_after value rest) ≡ None
too_large least most value [] large = grind (arith, nat_tests)
too_large least most value (byte ∷ rest) large =
    by_test (nat_lt (digit_value byte) 10) (too_large least most (value * 10 + digit_value byte) rest (omega arith))
  where
    by_test : (test : Bool) → within least most (value_after (value * 10 + digit_value byte) rest) ≡ None
        → within least most ((if test then Some (digit_value byte) else None) >>= (λ ones. value_after (value * 10 + ones) rest)) ≡ None
    by_test true later = later
    by_test false later = refl

-- the decimal number that the text is
abbrev pub number_in : ℕ → ℕ → List ℕ → Option ℕ
number_in least most text = if begins_number text then within least most (value_after 0 text) else None

-- what follows the word at the front of the text
abbrev pub after : List ℕ → List ℕ → Option (List ℕ)
after word text = if starts_with nat_eq text word then Some (drop (length word) text) else None

-- the number that the text is, with what follows its minus sign
abbrev pub signed : Option (List ℕ) → List ℕ → Option ℤ
signed (Some size) text = option_map (λ n. neg_ℤ (pos n)) (number_in 1 2147483648 size)
signed None text = option_map pos (number_in 0 4294967295 text)

-- its low 32 bits
abbrev pub word_of : List ℕ → Option ℕ
word_of text = option_map (cast_unsigned w32) (signed (after (codes "-") text) text)

-- what a line that is not empty says, by what follows each of the three words at its front; no line begins with two of them
abbrev pub said : Option (List ℕ) → Option (List ℕ) → Option (List ℕ) → Option Item
said (Some digits) word refuse = option_map Bytes (hex_bytes digits)
said None (Some number) refuse = option_map Word (word_of number)
said None None (Some number) = option_map Refused (number_in 1 4294967295 number)
said None None None = None

-- what the line says, if it has one of the forms
abbrev pub item_of : List ℕ → Option Item
item_of [] = Some Nothing
item_of (byte ∷ rest) =
    let line = byte ∷ rest in said (after (codes "bytes ") line) (after (codes "word ") line) (after (codes "refuse ") line)

-- the input, with what one line more says
abbrev pub added : Input → Item → Input
added input Nothing = input
added input (Bytes bytes) = record input { bytes = input.bytes ++ bytes }
added input (Word word) = record input { words = input.words ++ word ∷ [] }
added input (Refused number) = record input { refused = input.refused ++ number ∷ [] }

-- the input of no lines
abbrev pub nothing : Input
nothing = record { bytes = []; words = []; refused = [] }

-- what the text is after a line; the first line that has no form refuses it
abbrev pub then_line : ℕ → Input → Option Item → (Input → Result Input ℕ) → Result Input ℕ
then_line number input None next = Err number
then_line number input (Some item) next = next (added input item)

-- what the text is that has these lines from that number on, after lines that came to that input
abbrev pub read_from : ℕ → Input → List (List ℕ) → Result Input ℕ
read_from number input [] = Ok input
read_from number input (line ∷ rest) = then_line number input (item_of line) (λ more. read_from (number + 1) more rest)

-- the pieces between line feeds; after a last LF there is an empty one, which says nothing
abbrev pub lines : List ℕ → List (List ℕ)
lines text = slice_split (λ byte. byte == 10) text

-- the input that the text is, or the number of its first line that has no form; lines count from 1
abbrev pub reading : List ℕ → Result Input ℕ
reading text = read_from 1 nothing (lines text)

-- what may be returned for the text; without memory, nothing is known of it
abbrev pub IsInputOf : List ℕ → Result Input InputError → Type 0
IsInputOf text (Ok input) = reading text ≡ Ok input
IsInputOf text (Err (BadInput line)) = reading text ≡ Err line
IsInputOf text (Err NoMemory) = ⊤
