-- An identifier is a text.
use Rattle.std.proofs.Common.{◌≡◌, ℕ, zero, suc, ◌<◌, true, List, [], ◌∷◌, Result, Ok, Err, refl, arith}
use Rattle.std.specs.Prelude.{MatchResult}
use Rattle.std.specs.List.{list_all}
use Rattle.std.specs.Result.{IsOk}
use Rattle.std.specs.Str.{IsAscii, IsUtf8}
use Rattle.std.proofs.lemmas.Bool.{and_parts}
use Rattle.std.proofs.lemmas.Bool.Decides.{nat_tests}
use Rattle.std.proofs.lemmas.Str.{IsUtf8-from_ascii}
use Rattle.hs_base.specs.Text.{is_word_byte}
use Rattle.hs_table.specs.declared.routine.Routine.{Routine}
use Rattle.hs_table.specs.Tables.{begins_with_letter, is_identifier, is_right}

-- a byte of words is a character of ASCII
word_byte_small : (byte : ℕ) → is_word_byte byte ≡ true → byte < 128
word_byte_small byte is = grind (arith, nat_tests)

-- so are all of them
words_are_ascii : (name : List ℕ) → list_all is_word_byte name ≡ true → IsAscii name
words_are_ascii [] all at = omega arith
words_are_ascii (byte ∷ name) all zero = word_byte_small byte (and_parts (is_word_byte byte) _ all).0
words_are_ascii (byte ∷ name) all (suc at) = words_are_ascii name (and_parts (is_word_byte byte) _ all).1 at

-- the name of a routine that is right is a text
pub right_name : (routine : Routine) → is_right routine ≡ true → IsUtf8 routine.name
right_name routine right =
    let front = and_parts _ _ right in
    let named = and_parts (is_identifier routine.name) _ front.0 in
    let bytes = and_parts (begins_with_letter routine.name) (list_all is_word_byte routine.name) named.0 in
    IsUtf8-from_ascii routine.name (words_are_ascii routine.name bytes.1)

-- what cannot fail succeeds
pub must_be_ok : {X E : Type 0} (result : Result X E) (P : X → Type 0) (Q : E → Type 0) → MatchResult result P Q → ((e : E) → Q e → ⊥)
    → IsOk result
must_be_ok (Ok x) P Q is no_error = refl
must_be_ok (Err e) P Q is no_error = absurd (no_error e is)
