-- The hash of long lists: it stays right, and the rows that it lacks are looked through.
use Rattle.std.proofs.Common.{◌≡◌, ◌<◌, ◌≤◌, ◌+◌, ◌-◌, ℕ, zero, suc, ◌==◌, Bool, true, false, List, [], ◌∷◌, ◌++◌, length, take, drop, slice_get, Option, Some, None, inl, inr, ◌⊎◌, refl, ap, sym, ◌∙◌, subst, arith, if◌then◌else◌, Result, Ok, Err, OnOk, OnErr}
use Rattle.std.proofs.lemmas.Bool.Decides.{nat_tests}
use Rattle.std.proofs.lemmas.Bool.{cases_order}
use Rattle.std.specs.Map.{lookup}
use Rattle.indexmap.specs.IndexMap.{insert_entry}
use Rattle.hs_base.specs.declared.errors.NoMemory.{NoMemory}
use Rattle.hs_search.proofs.Listing.{get_left, get_either, get_there, get_within, last_within, some_is}
use Rattle.hs_search.specs.Hashing.{IsHashed, IsHashedRow, IsOldest, IsReady, IsSpotAt, Leaves, count_if, count_in, hashed, later_in, same_spot, spot_of}
use Rattle.hs_search.specs.Listing.{IsIndex, IsWalk, Seen, last_in, or_first}
use Rattle.hs_search.specs.Storing.{HasRow, IsOther, IsRowOf}
use Rattle.hs_search.specs.declared.hashing.Spot.{Spot}
use Rattle.hs_search.specs.declared.lists.Item.{Item}
use Rattle.hs_search.specs.declared.reach.Reach.{Reach}

-- ---- lists from a place on

module _ {A : Type 0} where
  drop_left : (n : ℕ) (xs ys : List A) → n ≤ length xs → drop n (xs ++ ys) ≡ drop n xs ++ ys
  drop_left zero xs ys within = refl
  drop_left (suc n) [] ys within = absurd (omega arith)
  drop_left (suc n) (x ∷ xs) ys within = drop_left n xs ys (omega arith)

  take_drop : (n : ℕ) (xs : List A) → take n xs ++ drop n xs ≡ xs
  take_drop zero xs = refl
  take_drop (suc n) [] = refl
  take_drop (suc n) (x ∷ xs) = ap (λ ys. x ∷ ys) (take_drop n xs)

-- ---- how many items have a key

is_own : (key own : ℕ) → own ≡ key → (own == key) ≡ true
is_own key own is = grind (arith, nat_tests)

module _ {T : Type 0} where
  -- in two lists
  count_more : (key : ℕ) (xs ys : List (Item T)) → count_in key (xs ++ ys) ≡ count_in key xs + count_in key ys
  count_more key [] ys = omega arith
  count_more key (x ∷ xs) ys = step (x.key == key) (count_more key xs ys)
    where
      step : (own : Bool) → count_in key (xs ++ ys) ≡ count_in key xs + count_in key ys
          → count_if own (count_in key (xs ++ ys)) ≡ count_if own (count_in key xs) + count_in key ys
      step true rest = omega arith
      step false rest = rest

  -- with one item more
  count_push : (key n : ℕ) (items : List (Item T)) (it : Item T) → n ≤ length items
      → count_in key (drop n (items ++ it ∷ [])) ≡ count_if (it.key == key) (count_in key (drop n items))
  count_push key n items it within =
      ap (count_in key) (drop_left n items (it ∷ []) within) ∙ count_more key (drop n items) (it ∷ []) ∙ step (it.key == key) (count_in key (drop n items))
    where
      step : (own : Bool) (count : ℕ) → count + count_if own 0 ≡ count_if own count
      step true count = omega arith
      step false count = omega arith

  -- from an item on
  count_at : (key n : ℕ) (items : List (Item T)) (it : Item T) → slice_get items n ≡ Some it
      → count_in key (drop n items) ≡ count_if (it.key == key) (later_in key n items)
  count_at key n [] it there = absurd cc
  count_at key zero (first ∷ items) it there = ap (λ (i : Item T). count_if (i.key == key) (count_in key items)) (some_is there)
  count_at key (suc n) (first ∷ items) it there = count_at key n items it there

  -- if it has the key
  count_own : (key n : ℕ) (items : List (Item T)) (it : Item T) → slice_get items n ≡ Some it → it.key ≡ key
      → count_in key (drop n items) ≡ suc (later_in key n items)
  count_own key n items it there own = count_at key n items it there ∙ ap (λ b. count_if b (later_in key n items)) (is_own key it.key own)

  -- from a later place on there are fewer
  count_fewer : (key m n : ℕ) (items : List (Item T)) → m ≤ n → count_in key (drop n items) ≤ count_in key (drop m items)
  count_fewer key zero zero items before = omega arith
  count_fewer key zero (suc n) [] before = omega arith
  count_fewer key zero (suc n) (first ∷ items) before = step (first.key == key) (count_fewer key zero n items (omega arith))
    where
      step : (own : Bool) → count_in key (drop n items) ≤ count_in key items → count_in key (drop n items) ≤ count_if own (count_in key items)
      step true rest = omega arith
      step false rest = rest
  count_fewer key (suc m) zero items before = absurd (omega arith)
  count_fewer key (suc m) (suc n) [] before = omega arith
  count_fewer key (suc m) (suc n) (first ∷ items) before = count_fewer key m n items (omega arith)

  -- none comes after the last one
  pub count_last : (key : ℕ) (items : List (Item T)) → count_in key (drop (last_in key items) items) ≡ 0
  count_last key [] = refl
  count_last key (first ∷ items) = step (last_in key items) (first.key == key) refl refl (count_last key items)
    where
      step : (later : ℕ) (own : Bool) → last_in key items ≡ later → (first.key == key) ≡ own → count_in key (drop (last_in key items) items) ≡ 0
          → count_in key (drop (or_first later own) (first ∷ items)) ≡ 0
      step zero true is own rest = subst (λ n. count_in key (drop n items) ≡ 0) is rest
      step zero false is own rest =
          ap (λ b. count_if b (count_in key items)) own ∙ subst (λ n. count_in key (drop n items) ≡ 0) is rest
      step (suc later) own is is_own rest = subst (λ n. count_in key (drop n items) ≡ 0) is rest

  -- and none between an item and the one before it
  pub count_link : (key n : ℕ) (items : List (Item T)) (it : Item T) → slice_get items n ≡ Some it → it.key ≡ key
      → it.link ≡ last_in it.key (take n items) → count_in key (drop it.link items) ≡ suc (later_in key n items)
  count_link key n items it there own link =
      subst (λ m. count_in key (drop m items) ≡ suc (later_in key n items)) (sym (link ∙ ap (λ k. last_in k (take n items)) own))
      (subst (λ its. count_in key (drop last its) ≡ suc (later_in key n items)) (take_drop n items)
      (ap (count_in key) (drop_left last (take n items) (drop n items) (last_within key (take n items)))
      ∙ count_more key (drop last (take n items)) (drop n items)
      ∙ ap (λ m. m + count_in key (drop n items)) (count_last key (take n items)) ∙ none_more
      ∙ count_own key n items it there own))
    where
      last : ℕ
      last = last_in key (take n items)

      none_more : 0 + count_in key (drop n items) ≡ count_in key (drop n items)
      none_more = omega arith

  -- two items of the key with as many after them are one
  same_later : (key m n : ℕ) (items : List (Item T)) (it its : Item T) → slice_get items m ≡ Some it → it.key ≡ key → slice_get items n ≡ Some its
      → its.key ≡ key → later_in key m items ≡ later_in key n items → m ≡ n
  same_later key m n items it its at_m own_m at_n own_n same = step (cases_order m n)
    where
      step : (m ≡ n) ⊎ (m < n) ⊎ (n < m) → m ≡ n
      step (inl is) = is
      step (inr (inl before)) = absurd (
          let fewer = count_fewer key (suc m) n items (omega arith) in
          let its_count = count_own key n items its at_n own_n in
          omega arith)
      step (inr (inr after)) = absurd (
          let fewer = count_fewer key (suc n) m items (omega arith) in
          let its_count = count_own key m items it at_m own_m in
          omega arith)

-- ---- what the hash has

same_spots : (a b : Spot) → same_spot a b ≡ true → a ≡ b
same_spots a b same =
    let facts : a.fact ≡ b.fact = grind (arith, nat_tests, same) in
    let operations : a.at ≡ b.at = grind (arith, nat_tests, same) in
    let calls : a.call ≡ b.call = grind (arith, nat_tests, same) in
    λ i. record { fact = facts i; at = operations i; call = calls i }

spot_self : (a : Spot) → same_spot a a ≡ true
spot_self a = grind (arith, nat_tests)

look_if : (b : Bool) (v : ℕ) (o : Option ℕ) → b ≡ true → (if b then Some v else o) ≡ Some v
look_if true v o is = refl
look_if false v o is = absurd cc

-- the number that is put
put_here : (spot : Spot) (entries : List (Spot × ℕ)) (v : ℕ) → lookup (same_spot spot) (insert_entry same_spot entries spot v) ≡ Some v
put_here spot [] v = look_if (same_spot spot spot) v None (spot_self spot)
put_here spot (first ∷ rest) v = step (same_spot spot first.0) refl (put_here spot rest v)
  where
    step : (b : Bool) → same_spot spot first.0 ≡ b → lookup (same_spot spot) (insert_entry same_spot rest spot v) ≡ Some v
        → lookup (same_spot spot) (if b then (first.0, v) ∷ rest else first ∷ insert_entry same_spot rest spot v) ≡ Some v
    step true is behind = look_if (same_spot spot first.0) v (lookup (same_spot spot) rest) is
    step false is behind =
        ap (λ b. if b then Some first.1 else lookup (same_spot spot) (insert_entry same_spot rest spot v)) is ∙ behind

-- is the one that is found, or another spot is looked for
put_either : (spot other : Spot) (entries : List (Spot × ℕ)) (v n : ℕ) → lookup (same_spot other) (insert_entry same_spot entries spot v) ≡ Some n
    → ((other ≡ spot) × (v ≡ n)) ⊎ (lookup (same_spot other) entries ≡ Some n)
put_either spot other [] v n found = step (same_spot other spot) refl found
  where
    step : (b : Bool) → same_spot other spot ≡ b → (if b then Some v else None) ≡ Some n → ((other ≡ spot) × (v ≡ n)) ⊎ (None ≡ Some n)
    step true is found = inl (same_spots other spot is, some_is found)
    step false is found = absurd cc
put_either spot other (first ∷ rest) v n found = step (same_spot spot first.0) (same_spot other first.0) refl refl found (put_either spot other rest v n)
  where
    step : (b c : Bool) → same_spot spot first.0 ≡ b → same_spot other first.0 ≡ c
        → lookup (same_spot other) (if b then (first.0, v) ∷ rest else first ∷ insert_entry same_spot rest spot v) ≡ Some n
        → (lookup (same_spot other) (insert_entry same_spot rest spot v) ≡ Some n
        → ((other ≡ spot) × (v ≡ n)) ⊎ (lookup (same_spot other) rest ≡ Some n))
        → ((other ≡ spot) × (v ≡ n)) ⊎ ((if c then Some first.1 else lookup (same_spot other) rest) ≡ Some n)
    step true true is its found behind =
        inl (
          same_spots other first.0 its ∙ sym (same_spots spot first.0 is),
          some_is (sym (look_if (same_spot other first.0) v (lookup (same_spot other) rest) its) ∙ found),
        )
    step true false is its found behind =
        inr (sym (ap (λ c. if c then Some v else lookup (same_spot other) rest) its) ∙ found)
    step false true is its found behind =
        inr (sym (look_if (same_spot other first.0) first.1 (lookup (same_spot other) (insert_entry same_spot rest spot v)) its) ∙ found)
    step false false is its found behind =
        behind (sym (ap (λ c. if c then Some first.1 else lookup (same_spot other) (insert_entry same_spot rest spot v)) its) ∙ found)

-- what was found still is
put_still : (spot other : Spot) (entries : List (Spot × ℕ)) (v : ℕ) → ¬ (lookup (same_spot other) entries ≡ None)
    → ¬ (lookup (same_spot other) (insert_entry same_spot entries spot v) ≡ None)
put_still spot other [] v has = absurd (has refl)
put_still spot other (first ∷ rest) v has = step (same_spot spot first.0) (same_spot other first.0) refl has (put_still spot other rest v)
  where
    step : (b c : Bool) → same_spot other first.0 ≡ c → ¬ ((if c then Some first.1 else lookup (same_spot other) rest) ≡ None)
        → (¬ (lookup (same_spot other) rest ≡ None) → ¬ (lookup (same_spot other) (insert_entry same_spot rest spot v) ≡ None))
        → ¬ (lookup (same_spot other) (if b then (first.0, v) ∷ rest else first ∷ insert_entry same_spot rest spot v) ≡ None)
    step true true its has behind = λ none. absurd (
        let is : Some v ≡ None = sym (look_if (same_spot other first.0) v (lookup (same_spot other) rest) its) ∙ none in cc)
    step true false its has behind = λ none. has (sym (ap (λ c. if c then Some v else lookup (same_spot other) rest) its) ∙ none)
    step false true its has behind = λ none. absurd (
        let is : Some first.1 ≡ None
        = sym (look_if (same_spot other first.0) first.1 (lookup (same_spot other) (insert_entry same_spot rest spot v)) its) ∙ none in cc)
    step false false its has behind = λ none. behind has
        (sym (ap (λ c. if c then Some first.1 else lookup (same_spot other) (insert_entry same_spot rest spot v)) its) ∙ none)

-- ---- rows that are kept and added

-- the row of a node is said in two ways
pub spot_row : (items : List (Item Reach)) (reach : Reach) (n : ℕ) → IsRowOf items reach n → IsSpotAt items reach n
spot_row items reach n row = record {
  within = get_within items n row.it row.there;
  at = λ it there. subst (λ (i : Item Reach). i.key ≡ reach.at) (some_is (sym row.there ∙ there)) row.at;
  fact = λ it there. subst (λ (i : Item Reach). i.value.fact ≡ reach.fact) (some_is (sym row.there ∙ there)) row.fact;
  call = λ it there. subst (λ (i : Item Reach). i.value.call ≡ reach.call) (some_is (sym row.there ∙ there)) row.call;
}

pub row_spot : (items : List (Item Reach)) (reach : Reach) (n : ℕ) → IsSpotAt items reach n → IsRowOf items reach n
row_spot items reach n spot =
    let its = get_there items n spot.within in
    record { it = its.0; there = its.1; at = spot.at its.0 its.1; fact = spot.fact its.0 its.1; call = spot.call its.0 its.1 }

-- nothing at first
pub hashed_first : (near : ℕ) → IsHashed near [] []
hashed_first near = record { right = λ reach n found. absurd cc; all = λ reach n row far. absurd (none n row.it row.there) }
  where
    none : (n : ℕ) (it : Item Reach) → slice_get [] n ≡ Some it → ⊥
    none n it there = absurd cc

module _ (near : ℕ) (items : List (Item Reach)) (entries : List (Spot × ℕ)) (is : IsHashed near items entries) where
  -- with the row of that number
  module _ (n : ℕ) (it : Item Reach) (there : slice_get items n ≡ Some it) where
    abbrev pub kept : List (Spot × ℕ)
    kept = insert_entry same_spot entries (spot_of it.key it.value) n

    -- it is right
    pub kept_hashed : IsHashed near items kept
    kept_hashed = record {
      right = λ reach m found. right reach m (put_either (spot_of it.key it.value) (spot_of reach.at reach) entries n m found);
      all = λ reach m row far. put_still (spot_of it.key it.value) (spot_of reach.at reach) entries n (is.all reach m row far);
    }
      where
        right : (reach : Reach) (m : ℕ) → ((spot_of reach.at reach ≡ spot_of it.key it.value) × (n ≡ m)) ⊎ (hashed reach entries ≡ Some m)
            → IsSpotAt items reach m
        right reach m (inl same) = spot_row items reach m (record {
          it = it;
          there = subst (λ k. slice_get items k ≡ Some it) same.1 there;
          at = sym (ap (λ (s : Spot). s.at) same.0);
          fact = sym (ap (λ (s : Spot). s.fact) same.0);
          call = sym (ap (λ (s : Spot). s.call) same.0);
        })
        right reach m (inr found) = is.right reach m found

    -- and if it is the oldest of the newest rows, no other row need be put
    pub kept_ready : (key : ℕ) → IsOldest near items key n → IsReady near items key kept
    kept_ready key oldest reach m at row far = step (cases_order near (suc (later_in key m items)))
      where
        still : near ≤ later_in key m items → IsHashedRow reach kept
        still far =
            put_still (spot_of it.key it.value) (spot_of reach.at reach) entries n
            (is.all reach m row (subst (λ k. near ≤ later_in k m items) (sym at) far))

        one : near ≡ suc (later_in key m items) → IsHashedRow reach kept
        one last =
            let number : m ≡ n = same_later key m n items row.it oldest.it row.there (row.at ∙ at) oldest.there oldest.own
            (let its = oldest.later in omega arith) in
            let item : row.it ≡ it = some_is (sym row.there ∙ subst (λ k. slice_get items k ≡ Some it) (sym number) there) in
            let spot : spot_of it.key it.value ≡ spot_of reach.at reach
            = λ i. record {
              fact = (ap (λ (x : Item Reach). x.value.fact) (sym item) ∙ row.fact) i;
              at = (ap (λ (x : Item Reach). x.key) (sym item) ∙ row.at) i;
              call = (ap (λ (x : Item Reach). x.value.call) (sym item) ∙ row.call) i;
            } in
            let found : hashed reach kept ≡ Some n
            = subst (λ s. lookup (same_spot s) kept ≡ Some n) spot (put_here (spot_of it.key it.value) entries n) in
            λ none. absurd (let wrong : Some n ≡ None = sym found ∙ none in cc)

        step : (near ≡ suc (later_in key m items)) ⊎ (near < suc (later_in key m items)) ⊎ (suc (later_in key m items) < near) → IsHashedRow reach kept
        step (inl last) = one last
        step (inr (inl more)) = still (omega arith)
        step (inr (inr fewer)) = absurd (omega arith)

  -- a list with fewer rows needs none
  pub short_ready : (key : ℕ) → count_in key items < near → IsReady near items key entries
  short_ready key short reach n at row far = absurd (
      let count = count_own key n items row.it row.there (row.at ∙ at) in
      let fewer = count_fewer key 0 n items (omega arith) in
      omega arith)

  -- with a row more
  pub hashed_push : (it : Item Reach) (items' : List (Item Reach)) → 0 < near → IsReady near items it.key entries → items' ≡ items ++ it ∷ []
      → IsHashed near items' entries
  hashed_push it items' some ready more = subst (λ its. IsHashed near its entries) (sym more) (record {
    right = λ reach n found. let row = row_spot items reach n (is.right reach n found) in
        spot_row (items ++ it ∷ []) reach n
        (record { it = row.it; there = get_left items (it ∷ []) n row.it row.there; at = row.at; fact = row.fact; call = row.call });
    all = λ reach n row far. all reach n row far (get_either items it n row.it row.there);
  })
    where
      all : (reach : Reach) (n : ℕ) (row : IsRowOf (items ++ it ∷ []) reach n) → near ≤ later_in reach.at n (items ++ it ∷ [])
          → (slice_get items n ≡ Some row.it) ⊎ ((n ≡ length items) × (it ≡ row.it)) → IsHashedRow reach entries
      all reach n row far (inr last) = absurd (
          let none : later_in reach.at n (items ++ it ∷ []) ≡ 0
          = ap (λ k. later_in reach.at k (items ++ it ∷ [])) last.0 ∙ ap (count_in reach.at) (drop_end items it) in
          omega arith)
        where
          drop_end : (xs : List (Item Reach)) (x : Item Reach) → drop (suc (length xs)) (xs ++ x ∷ []) ≡ []
          drop_end [] x = refl
          drop_end (y ∷ xs) x = drop_end xs x
      all reach n row far (inl there) = step (it.key == reach.at) refl
          (subst (λ c. near ≤ c) (count_push reach.at (suc n) items it (let within = get_within items n row.it there in omega arith)) far)
        where
          before : IsRowOf items reach n
          before = record { it = row.it; there = there; at = row.at; fact = row.fact; call = row.call }

          step : (own : Bool) → (it.key == reach.at) ≡ own → near ≤ count_if own (later_in reach.at n items) → IsHashedRow reach entries
          step true own far =
              let key : reach.at ≡ it.key = grind (arith, nat_tests, own) in
              ready reach n key before (subst (λ k. near ≤ suc (later_in k n items)) key far)
          step false own far = is.all reach n before far

  -- ---- what is found

  -- a row that the hash does not have is one of the newest
  pub hashed_none : (reach : Reach) (oldest : ℕ) → IsOldest near items reach.at oldest → Seen items reach.at oldest (IsOther reach)
      → hashed reach entries ≡ None → ¬ (HasRow items reach)
  hashed_none reach oldest its seen none has = step (cases_order oldest has.0)
    where
      row : IsRowOf items reach has.0
      row = has.1

      new : oldest ≤ has.0 → ⊥
      new low = seen has.0 row.it low row.there row.at row.fact row.call

      step : (oldest ≡ has.0) ⊎ (oldest < has.0) ⊎ (has.0 < oldest) → ⊥
      step (inl same) = new (omega arith)
      step (inr (inl less)) = new (omega arith)
      step (inr (inr more)) = is.all reach has.0 row (
          let fewer = count_fewer reach.at (suc has.0) oldest items (omega arith) in
          let count = count_own reach.at oldest items its.it its.there its.own in
          let later = its.later in
          omega arith) none

-- the list has the row, or there was no memory for it
pub hashed_pushed : (near : ℕ) (items items' : List (Item Reach)) (it : Item Reach) (entries : List (Spot × ℕ)) (result : Result (Unit {0}) NoMemory)
    → 0 < near → IsHashed near items entries → IsReady near items it.key entries → OnOk result (items' ≡ items ++ it ∷ []) → OnErr result (items' ≡ items)
    → IsHashed near items' entries
hashed_pushed near items items' it entries (Ok _) some is ready more same = hashed_push near items entries is it items' some ready more
hashed_pushed near items items' it entries (Err _) some is ready more same = subst (λ its. IsHashed near its entries) (sym same) is

-- the hash has the row that leaves, or none does
pub kept_none : (near : ℕ) (items : List (Item Reach)) (entries : List (Spot × ℕ)) → IsHashed near items entries → (leaving : Option ℕ) → leaving ≡ None
    → (key : ℕ) → Leaves near items key leaving → IsReady near items key entries
kept_none near items entries is leaving none key leaves = short_ready near items entries is key (subst (Leaves near items key) none leaves)

pub kept_some : (near : ℕ) (items : List (Item Reach)) (entries entries' : List (Spot × ℕ)) → IsHashed near items entries → (leaving : Option ℕ) (n : ℕ)
    → leaving ≡ Some n → (it : Item Reach) → slice_get items n ≡ Some it → entries' ≡ insert_entry same_spot entries (spot_of it.key it.value) n
    → (key : ℕ) → Leaves near items key leaving → IsReady near items key entries'
kept_some near items entries entries' is leaving n some it there put key leaves =
    subst (IsReady near items key) (sym put) (kept_ready near items entries is n it there key (subst (Leaves near items key) some leaves))

pub kept_right : (near : ℕ) (items : List (Item Reach)) (entries entries' : List (Spot × ℕ)) → IsHashed near items entries → (n : ℕ) (it : Item Reach)
    → slice_get items n ≡ Some it → entries' ≡ insert_entry same_spot entries (spot_of it.key it.value) n → IsHashed near items entries'
kept_right near items entries entries' is n it there put = subst (IsHashed near items) (sym put) (kept_hashed near items entries is n it there)

-- ---- the walk over the newest rows

-- counts one row more at each step
pub counted_back : (heads : List ℕ) (items : List (Item Reach)) (key at : ℕ) (it : Item Reach) (passed : ℕ) → IsIndex heads items → IsWalk items key at
    → 0 < at → slice_get items (at - 1) ≡ Some it → count_in key (drop at items) ≡ passed → count_in key (drop it.link items) ≡ passed + 1
counted_back heads items key zero it passed right walk some there counted = absurd (omega arith)
counted_back heads items key (suc n) it passed right walk some there counted =
    let same : suc n - 1 ≡ n = omega arith in
    let at_n : slice_get items n ≡ Some it = subst (λ k. slice_get items k ≡ Some it) same there in
    let link = count_link key n items it at_n (walk.own n it refl at_n) (right.link n it at_n) in
    omega arith
