-- What the rules do to deepeners they do to their numbers.
--     stays_turns, going_turns, over_turns     at a `,`;  at the end of a statement that goes on, and of one that does not
--     list_any_dos                             a `do` is open if the number of them is not 0
--     all_deepeners_counts                         the numbers together are the nesting
--     length_all_deepeners                         levels with deepeners are no more than the deepeners
use Rattle.std.proofs.Common.{◌≡◌, ◌≤◌, ltb, true, false, List, [], ◌∷◌, map, length, sym, refl, ap, ◌∙◌, arith}
use Rattle.std.specs.List.{filter, list_any}
use Rattle.hs_tokens.specs.declared.token.SourceToken.{SourceToken}
use Rattle.hs_syntax.specs.declared.level.Level.{Level}
use Rattle.hs_syntax.specs.Counts.{counts, with_deepener, deepeners_on, all_deepeners, AllDeepened, Turns}
use Rattle.hs_syntax.specs.Nesting.{Levels, Deepener, count, goes_on, ended, is_do, is_keyword, stays_at_comma}
use Rattle.hs_syntax.specs.Nesting.Deepener.{do_, keyword, query, other}

-- without the other punctuators
counts_stays : (deepeners : List Deepener) → counts (filter stays_at_comma deepeners) ≡ record (counts deepeners) { others = 0 }
counts_stays [] = refl
counts_stays (do_ ∷ deepeners) = ap (with_deepener do_) (counts_stays deepeners)
counts_stays (keyword ∷ deepeners) = ap (with_deepener keyword) (counts_stays deepeners)
counts_stays (query ∷ deepeners) = ap (with_deepener query) (counts_stays deepeners)
counts_stays (other ∷ deepeners) = counts_stays deepeners

-- the keywords alone
counts_keywords : (deepeners : List Deepener) → counts (filter is_keyword deepeners) ≡ record (counts deepeners) { queries = 0; others = 0 }
counts_keywords [] = refl
counts_keywords (do_ ∷ deepeners) = ap (with_deepener do_) (counts_keywords deepeners)
counts_keywords (keyword ∷ deepeners) = ap (with_deepener keyword) (counts_keywords deepeners)
counts_keywords (query ∷ deepeners) = counts_keywords deepeners
counts_keywords (other ∷ deepeners) = counts_keywords deepeners

-- At a `,` the other punctuators end.
pub stays_turns : (level : Level) → Turns level (record level { others = 0 }) (filter stays_at_comma)
stays_turns level deepeners same = ap (λ (now : Level). record now { others = 0 }) same ∙ sym (counts_stays deepeners)

-- At the end of a statement that goes on, the keywords stay.
pub going_turns : (level : Level) (rest : List SourceToken) → ((deepeners : List Deepener) → level ≡ counts deepeners → goes_on deepeners rest ≡ true)
    → Turns level (record level { queries = 0; others = 0 }) (λ deepeners. ended deepeners rest)
going_turns level rest going deepeners same =
    rw (going deepeners same) (ap (λ (now : Level). record now { queries = 0; others = 0 }) same ∙ sym (counts_keywords deepeners))

-- At the end of another, nothing stays.
pub over_turns : (level : Level) (rest : List SourceToken) → ((deepeners : List Deepener) → level ≡ counts deepeners → goes_on deepeners rest ≡ false)
    → Turns level (counts []) (λ deepeners. ended deepeners rest)
over_turns level rest over deepeners same = rw (over deepeners same) refl

-- A `do` is open where the number of them is not 0.
pub list_any_dos : (deepeners : List Deepener) → list_any is_do deepeners ≡ ltb 0 (counts deepeners).dos
list_any_dos [] = refl
list_any_dos (do_ ∷ deepeners) = grind arith
list_any_dos (keyword ∷ deepeners) = list_any_dos deepeners
list_any_dos (query ∷ deepeners) = list_any_dos deepeners
list_any_dos (other ∷ deepeners) = list_any_dos deepeners

-- the numbers of a level together
deepeners_on_counts : (deepeners : List Deepener) → deepeners_on (counts deepeners) ≡ length deepeners
deepeners_on_counts [] = refl
deepeners_on_counts (do_ ∷ deepeners) = omega (arith, deepeners_on_counts deepeners)
deepeners_on_counts (keyword ∷ deepeners) = omega (arith, deepeners_on_counts deepeners)
deepeners_on_counts (query ∷ deepeners) = omega (arith, deepeners_on_counts deepeners)
deepeners_on_counts (other ∷ deepeners) = omega (arith, deepeners_on_counts deepeners)

-- The numbers of all levels together are the nesting.
pub all_deepeners_counts : (levels : Levels) → all_deepeners (map counts levels) ≡ count levels
all_deepeners_counts [] = refl
all_deepeners_counts (deepeners ∷ levels) = omega (arith, deepeners_on_counts deepeners, all_deepeners_counts levels)

-- Levels with deepeners are no more than the deepeners.
pub length_all_deepeners : (levels : List Level) → AllDeepened levels → length levels ≤ all_deepeners levels
length_all_deepeners [] deepened = omega arith
length_all_deepeners (level ∷ levels) deepened = omega (arith, deepened.0, length_all_deepeners levels deepened.1)
