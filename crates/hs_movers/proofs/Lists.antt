-- A printed list of blocks is read as those blocks, and has no blank and no line feed in it.
use Rattle.std.proofs.Common.{◌≡◌, ℕ, ◌<◌, ◌≤◌, ◌==◌, false, List, [], ◌∷◌, ◌++◌, length, take, Some, codes, nat_eq, refl, ap, sym, ◌∙◌, append_assoc, append-nil, take_all, arith, rules}
use Rattle.std.specs.Fmt.{decimal}
use Rattle.std.specs.List.{All as Each, flat_map, slice_split}
use Rattle.std.specs.Str.{bytes_eq}
use Rattle.std.proofs.lemmas.Bool.Decides.{nat_tests}
use Rattle.std.proofs.lemmas.List.Elements.{All-nil, All-cons, All-append, All-head, All-tail}
use Rattle.std.proofs.lemmas.List.Splits.{slice_split_none, slice_split_at}
use Rattle.hs_heap.specs.declared.decision.Which.{Which}
use Rattle.hs_heap.specs.declared.decision.Which.TheVariants.{All, These}
use Rattle.hs_meaning.specs.InputTexts.{number_in}
use Rattle.hs_movers.specs.ScriptTexts.{joined, numbers_in, which_in}
use Rattle.hs_movers.proofs.Numerals.{IsDigit, decimal_spells, first_digit, number_read}
use Rattle.hs_movers.proofs.Pieces.{Lacks, digits_lack}

-- a number after a comma
abbrev pub after_comma : ℕ → List ℕ
after_comma number = 44 ∷ decimal number

-- the first number, and the others each after a comma
pub joined_from_first : (first : ℕ) (rest : List ℕ) → joined (first ∷ rest) ≡ decimal first ++ flat_map after_comma rest
joined_from_first first [] = sym (append-nil (decimal first))
joined_from_first first (next ∷ rest) = ap (λ (later : List ℕ). decimal first ++ 44 ∷ later) (joined_from_first next rest)

-- all of them are printed then
pub joined_whole : (text before : List ℕ) (numbers rest : List ℕ) (first count : ℕ) → numbers ≡ first ∷ rest → length rest ≤ count
    → text ≡ (before ++ decimal first) ++ flat_map after_comma (take count rest) → text ≡ before ++ joined numbers
joined_whole text before numbers rest first count is all printed =
    printed
    ∙ ap (λ (others : List ℕ). (before ++ decimal first) ++ flat_map after_comma others) (take_all count rest all)
    ∙ append_assoc before (decimal first) (flat_map after_comma rest)
    ∙ ap (λ (list : List ℕ). before ++ list) (sym (ap joined is ∙ joined_from_first first rest))

-- the numbers of blocks
abbrev pub IsBlock : ℕ → Type 0
IsBlock number = (1 ≤ number) × (number < 4294967296)

-- the digits of a number lack what is below them
decimal_lacks : (stop number : ℕ) → stop < 48 → number < 4294967296 → Lacks stop (decimal number)
decimal_lacks stop number below low =
    let all = (decimal_spells number (omega arith)).all in digits_lack stop (decimal number) below all

-- a printed list lacks what is below the digits, but for the comma
joined_lacks : (stop : ℕ) → stop < 44 → (numbers : List ℕ) → Each IsBlock numbers → Lacks stop (joined numbers)
joined_lacks stop below [] each = All-nil (λ byte. (byte == stop) ≡ false)
joined_lacks stop below (number ∷ []) each =
    let is = All-head IsBlock number [] each in decimal_lacks stop number (omega arith) is.1
joined_lacks stop below (number ∷ next ∷ rest) each =
    let is = All-head IsBlock number (next ∷ rest) each in
    let other : (44 == stop) ≡ false = grind (arith, nat_tests) in
    All-append (λ byte. (byte == stop) ≡ false) (decimal number) (44 ∷ joined (next ∷ rest)) (decimal_lacks stop number (omega arith) is.1)
    (All-cons (λ byte. (byte == stop) ≡ false) 44 (joined (next ∷ rest)) other
    (joined_lacks stop below (next ∷ rest) (All-tail IsBlock number (next ∷ rest) each)))

-- the number of a block is read
block_read : (number : ℕ) → IsBlock number → number_in 1 4294967295 (decimal number) ≡ Some number
block_read number is = let least = is.0 in let most = is.1 in number_read 1 4294967295 number (omega arith) (omega arith) (omega arith)

-- the numbers are read
joined_read : (first : ℕ) (rest : List ℕ) → Each IsBlock (first ∷ rest)
    → numbers_in (slice_split (λ byte. byte == 44) (joined (first ∷ rest))) ≡ Some (first ∷ rest)
joined_read first [] each =
    let is = All-head IsBlock first [] each in
    rw (slice_split_none (λ byte. byte == 44) (decimal first) (decimal_lacks 44 first (omega arith) is.1), block_read first is) refl
joined_read first (next ∷ rest) each =
    let is = All-head IsBlock first (next ∷ rest) each in
    rw (
      slice_split_at (λ byte. byte == 44) (decimal first) 44 (joined (next ∷ rest)) (decimal_lacks 44 first (omega arith) is.1) refl,
      block_read first is,
      joined_read next rest (All-tail IsBlock first (next ∷ rest) each),
    ) refl

-- the text after a digit is not `all`
no_word : (digit : ℕ) (rest : List ℕ) → IsDigit digit → bytes_eq (digit ∷ rest) (codes "all") ≡ false
no_word digit rest is =
    let high = is.high in
    let other : nat_eq digit 97 ≡ false = grind (arith, nat_tests) in
    rw other refl

-- a printed list begins with a digit
joined_begins : (number : ℕ) (rest : List ℕ) → number < 4294967296 → bytes_eq (joined (number ∷ rest)) (codes "all") ≡ false
joined_begins number [] low =
    let spelled = decimal_spells number (omega arith) in
    rw spelled.is (no_word spelled.first spelled.others (first_digit number (decimal number) spelled))
joined_begins number (next ∷ rest) low =
    let spelled = decimal_spells number (omega arith) in
    rw spelled.is (no_word spelled.first (spelled.others ++ 44 ∷ joined (next ∷ rest)) (first_digit number (decimal number) spelled))

-- what is printed of blocks that are named
pub record Says (text : List ℕ) (which : Which) : Type 0 where
  pub read : which_in text ≡ Some which
  pub no_blank : Lacks 32 text
  pub no_feed : Lacks 10 text

-- `all` names every block
pub all_says : Says (codes "all") All
all_says = record { read = refl; no_blank = search rules; no_feed = search rules }

-- a list of numbers names those blocks
pub list_says : (number : ℕ) (rest : List ℕ) → Each IsBlock (number ∷ rest) → Says (joined (number ∷ rest)) (These (number ∷ rest))
list_says number rest each =
    let is = All-head IsBlock number rest each in
    record {
      read = rw (joined_begins number rest is.1, joined_read number rest each) refl;
      no_blank = joined_lacks 32 (omega arith) (number ∷ rest) each;
      no_feed = joined_lacks 10 (omega arith) (number ∷ rest) each;
    }
