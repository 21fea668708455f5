-- A printed decision is read as that decision, and its line has one line feed, at its end.
use Rattle.std.proofs.Common.{◌≡◌, ℕ, ◌^◌, ◌<◌, ◌≤◌, ◌==◌, false, List, [], ◌∷◌, ◌++◌, length, take, drop, Some, codes, nat_eq, refl, ◌∙◌, append-nil, arith, rules}
use Rattle.std.specs.Fmt.{decimal}
use Rattle.std.specs.List.{All as Each}
use Rattle.std.proofs.lemmas.Bool.Decides.{nat_tests}
use Rattle.std.proofs.lemmas.List.{take_at, drop_at}
use Rattle.std.proofs.lemmas.List.Elements.{All-cons, All-append}
use Rattle.hs_heap.specs.declared.decision.Decision.{Decision}
use Rattle.hs_heap.specs.declared.decision.Which.{Which}
use Rattle.hs_heap.specs.declared.decision.Which.TheVariants.{All, These}
use Rattle.hs_meaning.specs.InputTexts.{number_in}
use Rattle.hs_movers.specs.ScriptTexts.{decision_in, item_of, joined, number_length, numbered_in, or_none, part_text, word_length}
use Rattle.hs_movers.specs.declared.script_text.line.Item.TheVariants.{Numbered, Seed}
use Rattle.hs_movers.proofs.Lists.{IsBlock, Says, all_says, list_says}
use Rattle.hs_movers.proofs.Numerals.{IsDigit, decimal_spells, first_digit, number_read}
use Rattle.hs_movers.proofs.Pieces.{Lacks, digits_lack, digits_lack_colon, place_of, place_at_end}

-- what names blocks by numbers that can be printed
abbrev pub IsWritable : Which → Type 0
IsWritable All = Unit {0}
IsWritable (These numbers) = Each IsBlock numbers

-- what is printed after the colon, and how it is read
pub record Tells (text : List ℕ) (decision : Decision) : Type 0 where
  pub read : decision_in text ≡ Some decision
  pub no_feed : Lacks 10 text

-- what is in front of the first blank of a list
list_end : (list rest : List ℕ) → Lacks 32 list
    → (take (word_length (list ++ 32 ∷ rest)) (list ++ 32 ∷ rest) ≡ list) × (drop (word_length (list ++ 32 ∷ rest)) (list ++ 32 ∷ rest) ≡ 32 ∷ rest)
list_end list rest lacks =
    let at = place_of 32 list rest lacks in
    (rw at (take_at list (32 ∷ rest) (length list) refl), rw at (drop_at list (32 ∷ rest) (length list) refl))

-- the same of a list that ends the line
list_only : (list : List ℕ) → Lacks 32 list
    → (take (word_length (list ++ [])) (list ++ []) ≡ list) × (drop (word_length (list ++ [])) (list ++ []) ≡ [])
list_only list lacks =
    let at : word_length (list ++ []) ≡ length list = rw append-nil (place_at_end 32 list lacks) in
    (rw at (take_at list [] (length list) refl), rw at (drop_at list [] (length list) refl))

-- blocks are moved, and none is purged
moved_tells : (list : List ℕ) (moves : Which) → Says list moves
    → Tells ((32 ∷ codes "move" ++ 32 ∷ list) ++ []) (record { moves = moves; purges = These [] })
moved_tells list moves says =
    let ends = list_only list says.no_blank in
    record {
      read = rw (ends.0, ends.1, says.read) refl;
      no_feed =
          All-append (λ byte. (byte == 10) ≡ false) (codes " move ") (list ++ []) (search rules)
          (rw append-nil says.no_feed);
    }

-- blocks are purged, and none is moved
purged_tells : (list : List ℕ) (purges : Which) → Says list purges
    → Tells ([] ++ (32 ∷ codes "purge" ++ 32 ∷ list)) (record { moves = These []; purges = purges })
purged_tells list purges says = record {
  read = rw says.read refl;
  no_feed = All-append (λ byte. (byte == 10) ≡ false) (codes " purge ") list (search rules) says.no_feed;
}

-- both
both_tell : (list others : List ℕ) (moves purges : Which) → Says list moves → Says others purges
    → Tells ((32 ∷ codes "move" ++ 32 ∷ list) ++ (32 ∷ codes "purge" ++ 32 ∷ others)) (record { moves = moves; purges = purges })
both_tell list others moves purges moved purged =
    let ends = list_end list (codes "purge " ++ others) moved.no_blank in
    record {
      read = rw (ends.0, ends.1, moved.read, purged.read) refl;
      no_feed =
          All-append (λ byte. (byte == 10) ≡ false) (codes " move ") (list ++ (codes " purge " ++ others)) (search rules)
          (All-append (λ byte. (byte == 10) ≡ false) list (codes " purge " ++ others) moved.no_feed
          (All-append (λ byte. (byte == 10) ≡ false) (codes " purge ") others (search rules) purged.no_feed));
    }

-- the decision that is printed
pub decision_tells : (moves purges : Which) → IsWritable moves → IsWritable purges
    → Tells (or_none (part_text (codes "move") moves ++ part_text (codes "purge") purges)) (record { moves = moves; purges = purges })
decision_tells All All moved purged = both_tell (codes "all") (codes "all") All All all_says all_says
decision_tells All (These []) moved purged = moved_tells (codes "all") All all_says
decision_tells All (These (number ∷ rest)) moved purged =
    both_tell (codes "all") (joined (number ∷ rest)) All (These (number ∷ rest)) all_says (list_says number rest purged)
decision_tells (These []) All moved purged = purged_tells (codes "all") All all_says
decision_tells (These []) (These []) moved purged = record { read = refl; no_feed = search rules }
decision_tells (These []) (These (number ∷ rest)) moved purged =
    purged_tells (joined (number ∷ rest)) (These (number ∷ rest)) (list_says number rest purged)
decision_tells (These (number ∷ rest)) All moved purged =
    both_tell (joined (number ∷ rest)) (codes "all") (These (number ∷ rest)) All (list_says number rest moved) all_says
decision_tells (These (number ∷ rest)) (These []) moved purged = moved_tells (joined (number ∷ rest)) (These (number ∷ rest)) (list_says number rest moved)
decision_tells (These (number ∷ rest)) (These (other ∷ others)) moved purged =
    both_tell (joined (number ∷ rest)) (joined (other ∷ others)) (These (number ∷ rest)) (These (other ∷ others)) (list_says number rest moved)
    (list_says other others purged)

-- no number of a decision begins with the word of the seed
no_seed : (digit : ℕ) (rest : List ℕ) → IsDigit digit → item_of (digit ∷ rest) ≡ numbered_in (digit ∷ rest)
no_seed digit rest is =
    let high = is.high in
    let other : nat_eq 115 digit ≡ false = grind (arith, nat_tests) in
    rw other refl

-- the number in front of the colon is read, and what follows it
numbered_read : (digits text : List ℕ) (number : ℕ) (decision : Decision) → Lacks 58 digits → number_in 1 4000000 digits ≡ Some number
    → decision_in text ≡ Some decision → numbered_in (digits ++ 58 ∷ text) ≡ Some (Numbered number decision)
numbered_read digits text number decision lacks is read =
    let at = place_of 58 digits text lacks in
    let front : take (number_length (digits ++ 58 ∷ text)) (digits ++ 58 ∷ text) ≡ digits = rw at (take_at digits (58 ∷ text) (length digits) refl) in
    let back : drop (number_length (digits ++ 58 ∷ text)) (digits ++ 58 ∷ text) ≡ 58 ∷ text = rw at (drop_at digits (58 ∷ text) (length digits) refl) in
    rw (front, back, is, read) refl

-- a line of a decision
pub line_read : (number : ℕ) (text : List ℕ) (decision : Decision) → 1 ≤ number → number ≤ 4000000 → Tells text decision
    → item_of (decimal number ++ 58 ∷ text) ≡ Some (Numbered number decision)
line_read number text decision least most tells =
    let spelled = decimal_spells number (omega arith) in
    let starts : item_of (decimal number ++ 58 ∷ text) ≡ numbered_in (decimal number ++ 58 ∷ text) =
    rw spelled.is (no_seed spelled.first (spelled.others ++ 58 ∷ text) (first_digit number (decimal number) spelled)) in
    starts
    ∙ numbered_read (decimal number) text number decision (digits_lack_colon (decimal number) spelled.all)
    (number_read 1 4000000 number (omega arith) least most) tells.read

-- it has no line feed in it
pub line_lacks : (number : ℕ) (text : List ℕ) → number ≤ 4000000 → Lacks 10 text → Lacks 10 (decimal number ++ 58 ∷ text)
line_lacks number text most lacks =
    let spelled = decimal_spells number (omega arith) in
    All-append (λ byte. (byte == 10) ≡ false) (decimal number) (58 ∷ text) (digits_lack 10 (decimal number) (omega arith) spelled.all)
    (All-cons (λ byte. (byte == 10) ≡ false) 58 text refl lacks)

-- the line of a seed
pub seed_read : (seed : ℕ) → seed < 2 ^ 64 → item_of (codes "seed " ++ decimal seed) ≡ Some (Seed seed)
seed_read seed low = rw (number_read 0 18446744073709551615 seed low (omega arith) (omega arith)) refl

-- it has no line feed in it
pub seed_lacks : (seed : ℕ) → seed < 2 ^ 64 → Lacks 10 (codes "seed " ++ decimal seed)
seed_lacks seed low =
    let spelled = decimal_spells seed low in
    All-append (λ byte. (byte == 10) ≡ false) (codes "seed ") (decimal seed) (search rules)
    (digits_lack 10 (decimal seed) (omega arith) spelled.all)
