-- The bytes of answer words, word by word.
use Rattle.std.proofs.Common.{◌≡◌, ◌≤◌, refl, ap, sym, ◌∙◌, ℕ, zero, suc, ◌+◌, ◌-◌, ◌*◌, List, [], ◌∷◌, get_or, ◌++◌, length, take, drop, map, min, arith, rules, append_assoc, add-one, length-append}
use Rattle.std.proofs.lemmas.List.{take-map, take_rest, drop_min, map-append, length-map, length-take-le}
use Rattle.hs_heap.specs.declared.cell.Cell.{Cell}
use Rattle.hs_heap.specs.declared.cell.Cell.TheVariants.{Byte}
use Rattle.hs_meaning.specs.Plain.{answers, bytes_of_words, later_words, words_for}
use Rattle.hs_meaning.specs.Values.{bytes_of}

-- one word more
pub answers_suc : (count : ℕ) (words : List ℕ) → answers (suc count) words ≡ answers count words ++ get_or words count 0 ∷ []
answers_suc zero [] = refl
answers_suc zero (word ∷ words) = refl
answers_suc (suc count) [] = ap (λ its. 0 ∷ its) (answers_suc count [])
answers_suc (suc count) (word ∷ words) = ap (λ its. word ∷ its) (answers_suc count words)

-- of both lists
pub bytes_of_words-append : (first second : List ℕ) → bytes_of_words (first ++ second) ≡ bytes_of_words first ++ bytes_of_words second
bytes_of_words-append [] second = refl
bytes_of_words-append (word ∷ first) second =
    ap (λ its. bytes_of 4 word ++ its) (bytes_of_words-append first second)
    ∙ sym (append_assoc (bytes_of 4 word) (bytes_of_words first) (bytes_of_words second))

-- the bytes of one word more
pub bytes_more : (count : ℕ) (words : List ℕ)
    → bytes_of_words (answers (count + 1) words) ≡ bytes_of_words (answers count words) ++ bytes_of 4 (get_or words count 0)
bytes_more count words =
    rw (add-one, answers_suc count words, bytes_of_words-append) (ap (λ its. bytes_of_words (answers count words) ++ its) (search rules))

-- each word has four
pub length_bytes : (words : List ℕ) → length (bytes_of_words words) ≡ 4 * length words
length_bytes [] = refl
length_bytes (word ∷ words) = let rest = length_bytes words in omega (arith, length-append (bytes_of 4 word) (bytes_of_words words))

-- as many as are asked for
pub length_answers : (count : ℕ) (words : List ℕ) → length (answers count words) ≡ count
length_answers zero words = refl
length_answers (suc count) [] = ap suc (length_answers count [])
length_answers (suc count) (word ∷ words) = ap suc (length_answers count words)

-- those words are enough
pub enough : (size : ℕ) (words : List ℕ) → size ≤ length (bytes_of_words (answers (words_for size) words))
enough size words = rw (length_bytes, length_answers) (omega arith)

-- past the end there are no words
pub later_words_drop : (count : ℕ) (words : List ℕ) → later_words count words ≡ drop count words
later_words_drop zero words = refl
later_words_drop (suc count) [] = refl
later_words_drop (suc count) (word ∷ words) = later_words_drop count words

-- from there on, or from the end
pub later_words_slice : (count : ℕ) (words : List ℕ)
    → take (length words - min count (length words)) (drop (min count (length words)) words) ≡ later_words count words
later_words_slice count words =
    take_rest words (min count (length words)) ∙ drop_min count words ∙ sym (later_words_drop count words)

-- one word more
pub put_more : (before after : List Cell) (count word : ℕ) (words : List ℕ) → before ≡ map Byte (bytes_of_words (answers count words))
    → word ≡ get_or words count 0 → after ≡ before ++ map Byte (bytes_of 4 word) → after ≡ map Byte (bytes_of_words (answers (count + 1) words))
put_more before after count word words here is put =
    let more : map Byte (bytes_of_words (answers count words) ++ bytes_of 4 word) ≡ map Byte (bytes_of_words (answers (count + 1) words)) =
    ap (map Byte) (ap (λ it. bytes_of_words (answers count words) ++ bytes_of 4 it) is ∙ sym (bytes_more count words))
    in put ∙ ap (λ its. its ++ map Byte (bytes_of 4 word)) here ∙ sym (map-append Byte (bytes_of_words (answers count words)) (bytes_of 4 word)) ∙ more

-- cut to the size
pub cut : (cells : List Cell) (count size : ℕ) (words : List ℕ) → cells ≡ map Byte (bytes_of_words (answers count words)) → count ≡ words_for size
    → take size cells ≡ map Byte (take size (bytes_of_words (answers (words_for size) words)))
cut cells count size words here all =
    ap (take size) (here ∙ ap (λ it. map Byte (bytes_of_words (answers it words))) all)
    ∙ take-map Byte size (bytes_of_words (answers (words_for size) words))

-- to no less
pub length_cut : (cells : List Cell) (count size : ℕ) (words : List ℕ) → cells ≡ map Byte (bytes_of_words (answers count words))
    → count ≡ words_for size → length (take size cells) ≡ size
length_cut cells count size words here all =
    let long : length cells ≡ length (bytes_of_words (answers (words_for size) words)) =
    ap length here ∙ length-map (bytes_of_words (answers count words)) Byte ∙ ap (λ it. length (bytes_of_words (answers it words))) all
    in length-take-le size cells (omega (arith, enough size words))
