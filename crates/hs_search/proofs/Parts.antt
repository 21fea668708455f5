-- Rows are sorted by operation.
use Rattle.std.proofs.Common.{◌≡◌, ◌<◌, ◌≤◌, ◌-◌, ◌+◌, ◌==◌, ℕ, zero, suc, Bool, true, false, List, [], ◌∷◌, ◌++◌, inl, inr, ◌⊎◌, refl, ap, sym, ◌∙◌, Some, subst, arith, length, slice_get, slice_index_or, take, cond, append_assoc, append-nil}
use Rattle.std.proofs.lemmas.Bool.{cases_order}
use Rattle.hs_search.proofs.Listing.{some_is, get_either, get_there, get_within, get_left, last_within}
use Rattle.hs_search.specs.Finding.{pair_of, pairs_in}
use Rattle.hs_search.specs.Chains.{pairs_at}
use Rattle.hs_search.specs.Listing.{IsIndex, IsWalk, last_in, or_first}
use Rattle.hs_search.specs.Sorting.{AreKeyed, AreParts, IsPart, newest, newest_from, only_if}
use Rattle.hs_search.specs.declared.found.Pair.{Pair}
use Rattle.hs_search.specs.declared.lists.Item.{Item}
use Rattle.hs_search.specs.declared.reach.Reach.{Reach}

module _ {T : Type 0} where
  -- what a walk has left that is at this item
  abbrev pub rest : ℕ → List (Item T) → ℕ → List ℕ
  rest key items zero = []
  rest key items (suc n) = n ∷ newest key (take n items)

  -- the same from a number on
  abbrev rest_from : ℕ → ℕ → List (Item T) → ℕ → List ℕ
  rest_from key from items zero = []
  rest_from key from items (suc n) = (from + n) ∷ newest_from key from (take n items)

  newest_rest : (key from : ℕ) (items : List (Item T)) → newest_from key from items ≡ rest_from key from items (last_in key items)
  newest_rest key from [] = refl
  newest_rest key from (it ∷ items) = step (last_in key items) (it.key == key) refl (newest_rest key (suc from) items)
    where
      step : (later : ℕ) (own : Bool) → (it.key == key) ≡ own → newest_from key (suc from) items ≡ rest_from key (suc from) items later
          → newest_from key (suc from) items ++ only_if own from ≡ rest_from key from (it ∷ items) (or_first later own)
      step zero true same is =
          ap (λ xs. xs ++ from ∷ []) is ∙ ap (λ n. n ∷ []) (let at : from ≡ from + 0 = omega arith in at)
      step zero false same is = ap (λ xs. xs ++ []) is
      step (suc later) own same is =
          ap (λ xs. xs ++ only_if own from) is
          ∙ ap (λ n. n ∷ (newest_from key (suc from) (take later items) ++ only_if own from)) (let at : suc from + later ≡ from + suc later = omega arith in at)
          ∙ ap (λ b. (from + suc later) ∷ (newest_from key (suc from) (take later items) ++ only_if b from)) (sym same)

  rest_zero : (key : ℕ) (items : List (Item T)) (n : ℕ) → rest_from key 0 items n ≡ rest key items n
  rest_zero key items zero = refl
  rest_zero key items (suc n) = ap (λ m. m ∷ newest key (take n items)) (let at : 0 + n ≡ n = omega arith in at)

  take_take : (n m : ℕ) (items : List (Item T)) → n ≤ m → take n (take m items) ≡ take n items
  take_take zero m items less = refl
  take_take (suc n) zero items less = absurd (omega arith)
  take_take (suc n) (suc m) [] less = refl
  take_take (suc n) (suc m) (it ∷ items) less = ap (λ xs. it ∷ xs) (take_take n m items (omega arith))

  take_short : (m : ℕ) (items : List (Item T)) → length (take m items) ≤ m
  take_short zero items = omega arith
  take_short (suc m) [] = omega arith
  take_short (suc m) (it ∷ items) = let less = take_short m items in omega arith

  -- what a walk has left at the last item of the first ones
  newest_take : (key m : ℕ) (items : List (Item T)) → newest key (take m items) ≡ rest key items (last_in key (take m items))
  newest_take key m items = newest_rest key 0 (take m items) ∙ rest_zero key (take m items) (last_in key (take m items)) ∙ step (last_in key
      (take m items)) refl
    where
      step : (l : ℕ) → last_in key (take m items) ≡ l → rest key (take m items) l ≡ rest key items l
      step zero is = refl
      step (suc n) is =
          ap (λ xs. n ∷ newest key xs) (take_take n m items (let short = take_short m items in let bound = last_within key (take m items) in omega arith))

  pub gather_first : (key number : ℕ) (items : List (Item T)) (old : List ℕ) → number ≡ last_in key items
      → old ++ rest key items number ≡ old ++ newest key items
  gather_first key number items old is =
      ap (λ n. old ++ rest key items n) is ∙ ap (λ xs. old ++ xs) (sym (newest_rest key 0 items ∙ rest_zero key items (last_in key items)))

  -- one number more
  pub gather_more : (heads : List ℕ) (key at : ℕ) (items : List (Item T)) (it : Item T) (order new whole : List ℕ) → IsIndex heads items → IsWalk items key at
      → 0 < at → slice_get items (at - 1) ≡ Some it → new ≡ order ++ (at - 1) ∷ [] → order ++ rest key items at ≡ whole → new ++ rest key items it.link ≡ whole
  gather_more heads key zero items it order new whole right walk some there is all = absurd (omega arith)
  gather_more heads key (suc n) items it order new whole right walk some there is all =
      let same : suc n - 1 ≡ n = omega arith in
      let at_n : slice_get items n ≡ Some it = subst (λ k. slice_get items k ≡ Some it) same there in
      let own : it.key ≡ key = walk.own n it refl at_n in
      let left : rest key items it.link ≡ newest key (take n items) =
      ap (rest key items) (right.link n it at_n ∙ ap (λ k. last_in k (take n items)) own) ∙ sym (newest_take key n items) in
      ap (λ xs. xs ++ rest key items it.link) (is ∙ ap (λ k. order ++ k ∷ []) same) ∙ append_assoc order (n ∷ []) (rest key items it.link)
      ∙ ap (λ xs. order ++ n ∷ xs) left ∙ all

-- ---- all operations

get_right : (xs ys : List ℕ) (j : ℕ) → slice_get (xs ++ ys) (length xs + j) ≡ slice_get ys j
get_right [] ys j = ap (slice_get ys) (let at : 0 + j ≡ j = omega arith in at)
get_right (x ∷ xs) ys j = ap (slice_get (x ∷ (xs ++ ys))) (let at : suc (length xs) + j ≡ suc (length xs + j) = omega arith in at) ∙ get_right xs ys j

long_two : (xs ys : List ℕ) → length (xs ++ ys) ≡ length xs + length ys
long_two [] ys = let at : length ys ≡ 0 + length ys = omega arith in at
long_two (x ∷ xs) ys = ap (λ n. suc n) (long_two xs ys) ∙ (let at : suc (length xs + length ys) ≡ suc (length xs) + length ys = omega arith in at)

before_end : (xs : List ℕ) (y n : ℕ) → n < length xs → slice_index_or (xs ++ y ∷ []) n 0 ≡ slice_index_or xs n 0
before_end [] y n within = absurd (omega arith)
before_end (x ∷ xs) y zero within = refl
before_end (x ∷ xs) y (suc n) within = before_end xs y n (omega arith)

at_end : (xs : List ℕ) (y : ℕ) → slice_index_or (xs ++ y ∷ []) (length xs) 0 ≡ y
at_end [] y = refl
at_end (x ∷ xs) y = at_end xs y

pub parts_none : (rows : List (Item Reach)) (order starts : List ℕ) → AreParts 0 rows order starts
parts_none rows order starts at below = absurd (omega arith)

pub parts_more : (rows : List (Item Reach)) (count start : ℕ) (order order' starts starts' : List ℕ) → AreParts count rows order starts
    → length starts ≡ suc count
    → slice_index_or starts count 0 ≡ length order → order' ≡ order ++ newest count rows → start ≡ length order' → starts' ≡ starts ++ start ∷ []
    → AreParts (suc count) rows order' starts' × (length starts' ≡ suc (suc count)) × (slice_index_or starts' (suc count) 0 ≡ length order')
parts_more rows count start order order' starts starts' parts long next is_order is_start is_starts = (
  (λ at below. part at (cases_order at count) below),
  ap length is_starts ∙ long_two starts (start ∷ []) ∙ (let at : length starts + 1 ≡ suc (suc count) = omega arith in at),
  last,
)
  where
    last : slice_index_or starts' (suc count) 0 ≡ length order'
    last = ap (λ xs. slice_index_or xs (suc count) 0) is_starts ∙ ap (λ n. slice_index_or (starts ++ start ∷ []) n 0)
        (sym long) ∙ at_end starts start ∙ is_start

    start_kept : (at : ℕ) → at < suc count → slice_index_or starts' at 0 ≡ slice_index_or starts at 0
    start_kept at below = ap (λ xs. slice_index_or xs at 0) is_starts ∙ before_end starts start at (omega arith)

    here : IsPart rows order' starts' count
    here = (
      (let s = start_kept count (omega arith) in let size = long_two order (newest count rows) in
          let whole = ap (λ xs. length xs) is_order in
          ap (λ n. n + length (newest count rows)) (s ∙ next) ∙ sym (last ∙ whole ∙ size)),
      (λ j n there. ap (λ k. slice_get order' (k + j)) (start_kept count (omega arith) ∙ next) ∙ ap (λ xs. slice_get xs (length order + j)) is_order
          ∙ get_right order (newest count rows) j ∙ there),
    )

    part : (at : ℕ) → (at ≡ count) ⊎ (at < count) ⊎ (count < at) → at < suc count → IsPart rows order' starts' at
    part at (inl same) below = subst (IsPart rows order' starts') (sym same) here
    part at (inr (inr more)) below = absurd (omega arith)
    part at (inr (inl less)) below = (
      ap (λ n. n + length (newest at rows)) (start_kept at (omega arith)) ∙ (parts at less).0 ∙ sym (start_kept (suc at) (omega arith)),
      (λ j n there. subst (λ k. slice_get order' (k + j) ≡ Some n) (sym (start_kept at (omega arith)))
          (subst (λ xs. slice_get xs (slice_index_or starts at 0 + j) ≡ Some n) (sym is_order)
          (get_left order (newest count rows) (slice_index_or starts at 0 + j) n ((parts at less).1 j n there)))),
    )

-- ---- the pairs of an operation

module _ (entries : List (Item ℕ)) (at : ℕ) where
  count_step : (test : Bool) (xs : List ℕ) (from : ℕ) (p : Pair) (ps : List Pair) → length xs ≡ length ps
      → length (xs ++ only_if test from) ≡ length (cond test (p ∷ ps) ps)
  count_step true xs from p ps is = long_two xs (from ∷ []) ∙ (let more : length xs + 1 ≡ suc (length ps) = omega arith in more)
  count_step false xs from p ps is = ap length (append-nil xs) ∙ is

  -- as many as there are numbers
  pub count_right : (from : ℕ) (items : List (Item Reach)) → AreKeyed items
      → length (newest_from at from items) ≡ length (pairs_at at (pairs_in entries items))
  count_right from [] keyed = refl
  count_right from (it ∷ items) keyed =
      ap (λ k. length (newest_from at (suc from) items ++ only_if (k == at) from)) (keyed 0 it refl)
      ∙ count_step (it.value.at == at) (newest_from at (suc from) items) from (pair_of entries it) (pairs_at at (pairs_in entries items))
      (count_right (suc from) items (λ n its there. keyed (suc n) its there))

  -- the row of a number from `from` on, and its pair at the place k
  abbrev IsAt : ℕ → List (Item Reach) → List Pair → ℕ → ℕ → Type 0
  IsAt from items ps k n = (m : ℕ) × (it : Item Reach) × (n ≡ from + m) × (slice_get items m ≡ Some it) × (slice_get ps k ≡ Some (pair_of entries it))

  at_step : (from : ℕ) (it : Item Reach) (items : List (Item Reach)) (test : Bool) (ps : List Pair) (k j n : ℕ)
      → k + suc j ≡ length (newest_from at (suc from) items ++ only_if test from)
      → slice_get (newest_from at (suc from) items ++ only_if test from) j ≡ Some n
      → ((k' : ℕ) → k' + suc j ≡ length (newest_from at (suc from) items) → slice_get (newest_from at (suc from) items) j ≡ Some n
      → IsAt (suc from) items ps k' n)
      → IsAt from (it ∷ items) (cond test (pair_of entries it ∷ ps) ps) k n
  at_step from it items false ps k j n place there below =
      let its = below k (place ∙ ap length (append-nil (newest_from at (suc from) items)))
      (subst (λ xs. slice_get xs j ≡ Some n) (append-nil (newest_from at (suc from) items)) there) in
      (suc its.0, its.1, (let is = its.2 in omega arith), its.3, its.4)
  at_step from it items true ps k j n place there below =
      step k (place ∙ long_two (newest_from at (suc from) items) (from ∷ [])) (get_either (newest_from at (suc from) items) from j n there)
    where
      step : (k : ℕ) → k + suc j ≡ length (newest_from at (suc from) items) + 1
          → (slice_get (newest_from at (suc from) items) j ≡ Some n) ⊎ ((j ≡ length (newest_from at (suc from) items)) × (from ≡ n))
          → IsAt from (it ∷ items) (pair_of entries it ∷ ps) k n
      step zero size (inr last) = (0, it, (let is = last.1 in omega arith), refl, refl)
      step (suc k) size (inr last) = absurd (let is = last.0 in omega arith)
      step zero size (inl before) = absurd (let inside = get_within (newest_from at (suc from) items) j n before in omega arith)
      step (suc k) size (inl before) =
          let its = below k (omega arith) before in
          (suc its.0, its.1, (let is = its.2 in omega arith), its.3, its.4)

  -- the numbers are the newest first, and the pairs the oldest
  pub pair_right : (from : ℕ) (items : List (Item Reach)) → AreKeyed items → (k j n : ℕ) → k + suc j ≡ length (newest_from at from items)
      → slice_get (newest_from at from items) j ≡ Some n
      → (m : ℕ) × (it : Item Reach) × (n ≡ from + m) × (slice_get items m ≡ Some it)
      × (slice_get (pairs_at at (pairs_in entries items)) k ≡ Some (pair_of entries it))
  pair_right from [] keyed k j n place there = absurd cc
  pair_right from (it ∷ items) keyed k j n place there =
      at_step from it items (it.value.at == at) (pairs_at at (pairs_in entries items)) k j n
      (place ∙ ap (λ key. length (newest_from at (suc from) items ++ only_if (key == at) from)) (keyed 0 it refl))
      (subst (λ key. slice_get (newest_from at (suc from) items ++ only_if (key == at) from) j ≡ Some n) (keyed 0 it refl) there)
      (λ k' place' there'. pair_right (suc from) items (λ m its at_its. keyed (suc m) its at_its) k' j n place' there')

-- ---- as the code has it

get_or_of : (xs : List ℕ) (n x : ℕ) → slice_get xs n ≡ Some x → (d : ℕ) → slice_index_or xs n d ≡ x
get_or_of [] n x there d = absurd cc
get_or_of (y ∷ xs) zero x there d = some_is there
get_or_of (y ∷ xs) (suc n) x there d = get_or_of xs n x there d

pairs_get : (entries : List (Item ℕ)) (rows : List (Item Reach)) (n : ℕ) (it : Item Reach) → slice_get rows n ≡ Some it
    → slice_get (pairs_in entries rows) n ≡ Some (pair_of entries it)
pairs_get entries [] n it there = absurd cc
pairs_get entries (r ∷ rows) zero it there = ap (λ (i : Item Reach). Some (pair_of entries i)) (some_is there)
pairs_get entries (r ∷ rows) (suc n) it there = pairs_get entries rows n it there

-- how many pairs an operation has
pub part_count : (entries : List (Item ℕ)) (rows : List (Item Reach)) (order starts : List ℕ) (at : ℕ) → AreKeyed rows → IsPart rows order starts at
    → slice_index_or starts at 0 + length (pairs_at at (pairs_in entries rows)) ≡ slice_index_or starts (suc at) 0
part_count entries rows order starts at keyed part = ap (λ n. slice_index_or starts at 0 + n) (sym (count_right entries at 0 rows keyed)) ∙ part.0

-- and which row has the pair at a place
pub part_pair : (entries : List (Item ℕ)) (rows : List (Item Reach)) (order starts : List ℕ) (at k : ℕ) → AreKeyed rows → IsPart rows order starts at
    → k < length (pairs_at at (pairs_in entries rows))
    → (slice_index_or starts (suc at) 0 - 1 - k < length order)
    × (slice_index_or order (slice_index_or starts (suc at) 0 - 1 - k) 0 < length rows)
    × (slice_get (pairs_at at (pairs_in entries rows)) k ≡ slice_get (pairs_in entries rows) (slice_index_or order (slice_index_or starts
    (suc at) 0 - 1 - k) 0))
part_pair entries rows order starts at k keyed part below =
    from (length (newest at rows) - 1 - k) (let count = count_right entries at 0 rows keyed in omega arith)
    (let count = count_right entries at 0 rows keyed in let whole = part.0 in omega arith)
  where
    from : (j : ℕ) → k + suc j ≡ length (newest at rows) → slice_index_or starts (suc at) 0 - 1 - k ≡ slice_index_or starts at 0 + j
        → (slice_index_or starts (suc at) 0 - 1 - k < length order)
        × (slice_index_or order (slice_index_or starts (suc at) 0 - 1 - k) 0 < length rows)
        × (slice_get (pairs_at at (pairs_in entries rows)) k ≡ slice_get (pairs_in entries rows) (slice_index_or order (slice_index_or starts
        (suc at) 0 - 1 - k) 0))
    from j place index =
        let its = get_there (newest at rows) j (omega arith) in
        let in_order = part.1 j its.0 its.1 in
        let value : slice_index_or order (slice_index_or starts (suc at) 0 - 1 - k) 0 ≡ its.0 =
        ap (λ i. slice_index_or order i 0) index ∙ get_or_of order (slice_index_or starts at 0 + j) its.0 in_order 0 in
        let row = pair_right entries at 0 rows keyed k j its.0 place its.1 in
        let number : its.0 ≡ row.0 = (let is = row.2 in omega arith) in
        let inside = get_within order (slice_index_or starts at 0 + j) its.0 in_order in
        let there = get_within rows row.0 row.1 row.3 in (
          omega arith,
          omega arith,
          row.4 ∙ sym (pairs_get entries rows row.0 row.1 row.3) ∙ ap (slice_get (pairs_in entries rows)) (sym (value ∙ number)),
        )

pub pairs_long : (entries : List (Item ℕ)) (rows : List (Item Reach)) → length (pairs_in entries rows) ≡ length rows
pairs_long entries [] = refl
pairs_long entries (r ∷ rows) = ap (λ n. suc n) (pairs_long entries rows)

-- an index in range is read whatever stands for one that is not
pub index_is : (xs : List ℕ) (n x : ℕ) → n < length xs → x ≡ slice_index_or xs n x → x ≡ slice_index_or xs n 0
index_is xs n x within is = is ∙ same xs n within
  where
    same : (xs : List ℕ) (n : ℕ) → n < length xs → slice_index_or xs n x ≡ slice_index_or xs n 0
    same [] n within = absurd (omega arith)
    same (y ∷ xs) zero within = refl
    same (y ∷ xs) (suc n) within = same xs n (omega arith)

pub number_is : (order : List ℕ) (next end_ place x : ℕ) → next ≡ end_ → end_ - 1 - place < length order
    → x ≡ slice_index_or order (next - 1 - place) x → x ≡ slice_index_or order (end_ - 1 - place) 0
number_is order next end_ place x same within is =
    index_is order (end_ - 1 - place) x within (is ∙ ap (λ n. slice_index_or order (n - 1 - place) x) same)
