-- The text of an input on worked examples: each line computes.
use Rattle.std.proofs.Common.{◌≡◌, ℕ, List, [], ◌∷◌, ◌++◌, map, replicate, refl}
use Rattle.std.specs.Prelude.{codes, Result, Ok, Err}
use Rattle.hs_meaning.specs.declared.input.Input.{Input}
use Rattle.hs_meaning.specs.InputTexts.{reading}

abbrev input : List ℕ → List ℕ → List ℕ → Result Input ℕ
input bytes words refused = Ok (record { bytes = bytes; words = words; refused = refused })

-- the text with a last LF
abbrev ended : List ℕ → List ℕ
ended text = text ++ 10 ∷ []

empty_text : reading [] ≡ input [] [] []
empty_text = refl

empty_lines : reading (10 ∷ 10 ∷ []) ≡ input [] [] []
empty_lines = refl

bytes_without_end : reading (codes "bytes 4142") ≡ input (65 ∷ 66 ∷ []) [] []
bytes_without_end = refl

bytes_with_end : reading (ended (codes "bytes 4142")) ≡ input (65 ∷ 66 ∷ []) [] []
bytes_with_end = refl

no_bytes : reading (codes "bytes ") ≡ input [] [] []
no_bytes = refl

either_case : reading (codes "bytes fFFf") ≡ input (255 ∷ 255 ∷ []) [] []
either_case = refl

bytes_add_up : reading (ended (codes "bytes 4142") ++ codes "bytes 43") ≡ input (65 ∷ 66 ∷ 67 ∷ []) [] []
bytes_add_up = refl

first_refused : reading (codes "refuse 1") ≡ input [] [] (1 ∷ [])
first_refused = refl

last_refused : reading (codes "refuse 4294967295") ≡ input [] [] (4294967295 ∷ [])
last_refused = refl

-- words of the ends of the range, and of 0
words_of_the_range :
    reading (ended (codes "word -2147483648") ++ ended (codes "word -1") ++ ended (codes "word 0") ++ codes "word 4294967295")
    ≡ input [] (2147483648 ∷ 4294967295 ∷ 0 ∷ 4294967295 ∷ []) []
words_of_the_range = refl

words_refused :
    map reading (
    codes "word 4294967296"
    ∷ codes "word -2147483649"
    ∷ codes "word 01"
    ∷ codes "word -0"
    ∷ codes "word +1"
    ∷ codes "word -"
    ∷ codes "word "
    ∷ codes "word  1"
    ∷ codes "word 1 "
    ∷ []
    ) ≡ replicate 9 (Err 1)
words_refused = refl

lines_refused :
    map reading (
    codes "bytes 414"
    ∷ codes "bytes 4g"
    ∷ codes "bytes"
    ∷ codes "refuse 0"
    ∷ codes "refuse 4294967296"
    ∷ codes "refuse -1"
    ∷ codes " "
    ∷ (codes "word 1" ++ 13 ∷ [])
    ∷ []
    ) ≡ replicate 8 (Err 1)
lines_refused = refl

-- the empty line has a number too
fourth_line_refused : reading (ended (codes "word 1") ++ ended (ended (codes "bytes 41")) ++ ended (codes "Word 1") ++ codes "word") ≡ Err 4
fourth_line_refused = refl
