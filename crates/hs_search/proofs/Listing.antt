-- The index with one item more, and a walk over the items of a key.
use Rattle.std.proofs.Common.{◌≡◌, ◌<◌, ◌≤◌, ◌-◌, ℕ, zero, suc, ◌==◌, List, [], ◌∷◌, ◌++◌, length, take, slice_index_or, slice_get, Some, slice_set, inl, inr, ◌⊎◌, refl, ap, sym, ◌∙◌, subst, arith, Bool, true, false, if◌then◌else◌}
use Rattle.std.proofs.lemmas.Bool.Decides.{nat_tests}
use Rattle.std.proofs.lemmas.Bool.{cases_order}
use Rattle.hs_search.specs.Listing.{IsIndex, IsWalk, Seen, last_in, or_first}
use Rattle.hs_search.specs.declared.lists.Item.{Item}

pub some_is : {A : Type 0} {a b : A} → Some a ≡ Some b → a ≡ b
some_is h = cc

module _ {A : Type 0} where
  -- ---- lists by place

  pub get_within : (xs : List A) (n : ℕ) (x : A) → slice_get xs n ≡ Some x → n < length xs
  get_within [] n x is = absurd cc
  get_within (y ∷ xs) zero x is = omega arith
  get_within (y ∷ xs) (suc n) x is = let rest = get_within xs n x is in omega arith

  pub get_there : (xs : List A) (n : ℕ) → n < length xs → (x : A) × (slice_get xs n ≡ Some x)
  get_there [] n within = absurd (omega arith)
  get_there (y ∷ xs) zero within = (y, refl)
  get_there (y ∷ xs) (suc n) within = get_there xs n (omega arith)

  pub get_left : (xs ys : List A) (n : ℕ) (x : A) → slice_get xs n ≡ Some x → slice_get (xs ++ ys) n ≡ Some x
  get_left [] ys n x is = absurd cc
  get_left (y ∷ xs) ys zero x is = is
  get_left (y ∷ xs) ys (suc n) x is = get_left xs ys n x is

  -- the last one, or one of the others
  pub get_end : (xs : List A) (y : A) → slice_get (xs ++ y ∷ []) (length xs) ≡ Some y
  get_end [] y = refl
  get_end (x ∷ xs) y = get_end xs y

  pub get_either : (xs : List A) (y : A) (n : ℕ) (x : A) → slice_get (xs ++ y ∷ []) n ≡ Some x
      → (slice_get xs n ≡ Some x) ⊎ ((n ≡ length xs) × (y ≡ x))
  get_either [] y zero x is = inr (refl, some_is is)
  get_either [] y (suc n) x is = absurd cc
  get_either (z ∷ xs) y zero x is = inl is
  get_either (z ∷ xs) y (suc n) x is = step (get_either xs y n x is)
    where
      step : (slice_get xs n ≡ Some x) ⊎ ((n ≡ length xs) × (y ≡ x)) → (slice_get xs n ≡ Some x) ⊎ ((suc n ≡ suc (length xs)) × (y ≡ x))
      step (inl before) = inl before
      step (inr last) = inr (ap (λ n. suc n) last.0, last.1)

  pub take_get : (xs : List A) (m n : ℕ) (x : A) → slice_get xs n ≡ Some x → n < m → slice_get (take m xs) n ≡ Some x
  take_get [] m n x is below = absurd cc
  take_get (y ∷ xs) zero n x is below = absurd (omega arith)
  take_get (y ∷ xs) (suc m) zero x is below = is
  take_get (y ∷ xs) (suc m) (suc n) x is below = take_get xs m n x is (omega arith)

  pub get_take : (xs : List A) (m n : ℕ) (x : A) → slice_get (take m xs) n ≡ Some x → slice_get xs n ≡ Some x
  get_take xs zero n x is = absurd cc
  get_take [] (suc m) n x is = absurd cc
  get_take (y ∷ xs) (suc m) zero x is = is
  get_take (y ∷ xs) (suc m) (suc n) x is = get_take xs m n x is

  pub take_left : (n : ℕ) (xs ys : List A) → n ≤ length xs → take n (xs ++ ys) ≡ take n xs
  take_left zero xs ys within = refl
  take_left (suc n) [] ys within = absurd (omega arith)
  take_left (suc n) (x ∷ xs) ys within = ap (λ zs. x ∷ zs) (take_left n xs ys (omega arith))

  pub take_whole : (xs ys : List A) → take (length xs) (xs ++ ys) ≡ xs
  take_whole [] ys = refl
  take_whole (x ∷ xs) ys = ap (λ zs. x ∷ zs) (take_whole xs ys)

  pub take_long : (xs : List A) (n : ℕ) → length (take n xs) ≤ n
  take_long xs zero = omega arith
  take_long [] (suc n) = omega arith
  take_long (x ∷ xs) (suc n) = let rest = take_long xs n in omega arith

set_same : (xs : List ℕ) (i v d : ℕ) → i < length xs → slice_index_or (slice_set xs i v) i d ≡ v
set_same [] i v d within = absurd (omega arith)
set_same (x ∷ xs) zero v d within = refl
set_same (x ∷ xs) (suc i) v d within = set_same xs i v d (omega arith)

set_other : (xs : List ℕ) (i j v d : ℕ) → (i == j) ≡ false → slice_index_or (slice_set xs i v) j d ≡ slice_index_or xs j d
set_other [] i j v d apart = refl
set_other (x ∷ xs) zero zero v d apart = absurd (let same : (0 == 0) ≡ false = apart in cc)
set_other (x ∷ xs) zero (suc j) v d apart = refl
set_other (x ∷ xs) (suc i) zero v d apart = refl
set_other (x ∷ xs) (suc i) (suc j) v d apart = set_other xs i j v d (next apart)
  where
    next : (suc i == suc j) ≡ false → (i == j) ≡ false
    next h = grind (arith, nat_tests)

set_long : (xs : List ℕ) (i v : ℕ) → length (slice_set xs i v) ≡ length xs
set_long [] i v = refl
set_long (x ∷ xs) zero v = refl
set_long (x ∷ xs) (suc i) v = ap (λ n. suc n) (set_long xs i v)

-- one number more
more_long : (xs : List ℕ) (y : ℕ) → length (xs ++ y ∷ []) ≡ suc (length xs)
more_long [] y = refl
more_long (x ∷ xs) y = ap (λ n. suc n) (more_long xs y)

more_before : (xs : List ℕ) (y n d : ℕ) → n < length xs → slice_index_or (xs ++ y ∷ []) n d ≡ slice_index_or xs n d
more_before [] y n d within = absurd (omega arith)
more_before (x ∷ xs) y zero d within = refl
more_before (x ∷ xs) y (suc n) d within = more_before xs y n d (omega arith)

more_last : (xs : List ℕ) (y d : ℕ) → slice_index_or (xs ++ y ∷ []) (length xs) d ≡ y
more_last [] y d = refl
more_last (x ∷ xs) y d = more_last xs y d

same_number : (a b : ℕ) → (a == b) ≡ true → a ≡ b
same_number a b h = grind (arith, nat_tests)

number_itself : (n : ℕ) → (n == n) ≡ true
number_itself n = grind (arith, nat_tests)

module _ {T : Type 0} where
  -- ---- the last item of a key

  -- is one of the items
  pub last_within : (key : ℕ) (items : List (Item T)) → last_in key items ≤ length items
  last_within key [] = omega arith
  last_within key (first ∷ items) = step (last_in key items) (first.key == key) (last_within key items)
    where
      step : (later : ℕ) (is : Bool) → later ≤ length items → or_first later is ≤ suc (length items)
      step zero true h = omega arith
      step zero false h = omega arith
      step (suc later) is h = omega arith

  -- is the new one, if it has the key
  last_push_same : (it : Item T) (items : List (Item T)) → last_in it.key (items ++ it ∷ []) ≡ suc (length items)
  last_push_same it [] = ap (or_first 0) (number_itself it.key)
  last_push_same it (first ∷ items) = ap (λ later. or_first later (first.key == it.key)) (last_push_same it items)

  last_push_other : (key : ℕ) (it : Item T) (items : List (Item T)) → (it.key == key) ≡ false → last_in key (items ++ it ∷ []) ≡ last_in key items
  last_push_other key it [] is = ap (or_first 0) is
  last_push_other key it (first ∷ items) is = ap (λ later. or_first later (first.key == key)) (last_push_other key it items is)

  -- has the key, and no later one does
  last_is : (key n : ℕ) (items : List (Item T)) (it : Item T) → last_in key items ≡ suc n → slice_get items n ≡ Some it → it.key ≡ key
  last_is key n [] it is there = absurd cc
  last_is key n (first ∷ items) it is there =
      step (last_in key items) (first.key == key) refl refl is (λ later is_later there. last_is key later items it is_later there) n refl there
    where
      step : (later : ℕ) (own : Bool) → last_in key items ≡ later → (first.key == key) ≡ own → or_first later own ≡ suc n
          → ((later : ℕ) → last_in key items ≡ suc later → slice_get items later ≡ Some it → it.key ≡ key)
          → (m : ℕ) → n ≡ m → slice_get (first ∷ items) m ≡ Some it → it.key ≡ key
      step zero true none own it_is rest zero at it_there = subst (λ (i : Item T). i.key ≡ key) (some_is it_there) (same_number first.key key own)
      step zero true none own it_is rest (suc m) at it_there = absurd (omega arith)
      step zero false none own it_is rest m at it_there = absurd (omega arith)
      step (suc later) own is_later own_is it_is rest zero at it_there = absurd (omega arith)
      step (suc later) own is_later own_is it_is rest (suc m) at it_there =
          rest later is_later (subst (λ k. slice_get items k ≡ Some it) (let same : m ≡ later = omega arith in same) it_there)

  pub none_later : (n : ℕ) (items : List (Item T)) (it : Item T) → slice_get items n ≡ Some it → n < last_in it.key items
  none_later n [] it there = absurd cc
  none_later zero (first ∷ items) it there =
      subst (λ (i : Item T). 0 < last_in i.key (first ∷ items)) (some_is there) (step (last_in first.key items) (first.key == first.key)
      (number_itself first.key))
    where
      step : (later : ℕ) (own : Bool) → own ≡ true → 0 < or_first later own
      step zero true is = omega arith
      step zero false is = absurd cc
      step (suc later) own is = omega arith
  none_later (suc n) (first ∷ items) it there = step (last_in it.key items) (first.key == it.key) (none_later n items it there)
    where
      step : (later : ℕ) (own : Bool) → n < later → suc n < or_first later own
      step zero own h = absurd (omega arith)
      step (suc later) own h = omega arith

  -- a key that no item has
  pub none_in : (key : ℕ) (items : List (Item T)) → ((n : ℕ) (it : Item T) → slice_get items n ≡ Some it → it.key < key) → last_in key items ≡ 0
  none_in key [] below = refl
  none_in key (first ∷ items) below =
      ap (λ later. or_first later (first.key == key)) (none_in key items (λ n it there. below (suc n) it there))
      ∙ ap (or_first 0) (apart first.key (below 0 first refl))
    where
      apart : (n : ℕ) → n < key → (n == key) ≡ false
      apart n less = grind (arith, nat_tests)

  -- ---- the index

  -- with one item more
  pub IsIndex-push : (heads : List ℕ) (items : List (Item T)) (it : Item T) (heads' : List ℕ) (items' : List (Item T)) → IsIndex heads items
      → it.key < length heads → it.link ≡ last_in it.key items → items' ≡ items ++ it ∷ [] → heads' ≡ slice_set heads it.key (suc (length items))
      → IsIndex heads' items'
  IsIndex-push heads items it heads' items' old known top is_items is_heads =
      subst (λ its. IsIndex heads' its) (sym is_items) (
      subst (λ hs. IsIndex hs (items ++ it ∷ [])) (sym is_heads) (record {
        head = λ key below. head key (subst (λ n. key < n) (set_long heads it.key (suc (length items))) below) (it.key == key) refl;
        link = λ n its there. link n its (get_either items it n its there);
        below = λ n its there. subst (λ m. its.key < m) (sym (set_long heads it.key (suc (length items)))) (below n its (get_either items it n its there));
      }))
    where
      head : (key : ℕ) → key < length heads → (same : Bool) → (it.key == key) ≡ same
          → slice_index_or (slice_set heads it.key (suc (length items))) key 0 ≡ last_in key (items ++ it ∷ [])
      head key below true is =
          subst (λ k. slice_index_or (slice_set heads it.key (suc (length items))) k 0 ≡ last_in k (items ++ it ∷ [])) (same_number it.key key is)
          (set_same heads it.key (suc (length items)) 0 known ∙ sym (last_push_same it items))
      head key below false is =
          set_other heads it.key key (suc (length items)) 0 is ∙ old.head key below ∙ sym (last_push_other key it items is)

      link : (n : ℕ) (its : Item T) → (slice_get items n ≡ Some its) ⊎ ((n ≡ length items) × (it ≡ its))
          → its.link ≡ last_in its.key (take n (items ++ it ∷ []))
      link n its (inl there) =
          old.link n its there ∙ ap (last_in its.key) (sym (take_left n items (it ∷ []) (let within = get_within items n its there in omega arith)))
      link n its (inr last) =
          subst (λ m. its.link ≡ last_in its.key (take m (items ++ it ∷ []))) (sym last.0)
          (subst (λ (i : Item T). i.link ≡ last_in i.key (take (length items) (items ++ it ∷ []))) last.1
          (top ∙ ap (last_in it.key) (sym (take_whole items (it ∷ [])))))

      below : (n : ℕ) (its : Item T) → (slice_get items n ≡ Some its) ⊎ ((n ≡ length items) × (it ≡ its)) → its.key < length heads
      below n its (inl there) = old.below n its there
      below n its (inr last) = subst (λ (i : Item T). i.key < length heads) last.1 known

  -- with one key more
  pub IsIndex-widen : (heads heads' : List ℕ) (items items' : List (Item T)) → IsIndex heads items → heads' ≡ heads ++ 0 ∷ [] → items' ≡ items
      → IsIndex heads' items'
  IsIndex-widen heads heads' items items' old is_heads is_items =
      subst (λ its. IsIndex heads' its) (sym is_items) (
      subst (λ hs. IsIndex hs items) (sym is_heads) (record {
        head = λ key below. head key (cases_order key (length heads)) (subst (λ n. key < n) (more_long heads 0) below);
        link = old.link;
        below = λ n it there. subst (λ m. it.key < m) (sym (more_long heads 0)) (let less = old.below n it there in omega arith);
      }))
    where
      head : (key : ℕ) → (key ≡ length heads) ⊎ (key < length heads) ⊎ (length heads < key) → key < suc (length heads)
          → slice_index_or (heads ++ 0 ∷ []) key 0 ≡ last_in key items
      head key (inl is) below =
          subst (λ k. slice_index_or (heads ++ 0 ∷ []) k 0 ≡ last_in k items) (sym is)
          (more_last heads 0 0 ∙ sym (none_in (length heads) items old.below))
      head key (inr (inl less)) below = more_before heads 0 key 0 less ∙ old.head key less
      head key (inr (inr more)) below = absurd (omega arith)

  -- or not, if there is no memory
  pub IsIndex-widen_if : (ok : Bool) (heads heads' : List ℕ) (items : List (Item T)) → IsIndex heads items
      → heads' ≡ (if ok then heads ++ 0 ∷ [] else heads) → IsIndex heads' items
  IsIndex-widen_if true heads heads' items old is = IsIndex-widen heads heads' items items old is refl
  IsIndex-widen_if false heads heads' items old is = subst (λ hs. IsIndex hs items) (sym is) old

  -- ---- a walk over the items of a key

  pub walk_first : (items : List (Item T)) (key at : ℕ) (P : ℕ → Item T → Type 0) → at ≡ last_in key items → IsWalk items key at × Seen items key at P
  walk_first items key at P is = (
    record {
      within = (let bound = last_within key items in omega arith);
      own = λ n it top there. last_is key n items it (sym is ∙ top) there;
    },
    λ n it from there own. absurd (let later = subst (λ k. n < last_in k items) own (none_later n items it there) in omega arith),
  )

  pub walk_next : (items : List (Item T)) (key n : ℕ) (it : Item T) (P : ℕ → Item T → Type 0) → IsWalk items key (suc n) → Seen items key (suc n) P
      → slice_get items n ≡ Some it → it.link ≡ last_in it.key (take n items) → P n it → IsWalk items key it.link × Seen items key it.link P × (it.link ≤ n)
  walk_next items key n it P walk seen there is new =
      let short : it.link ≤ n = (let bound = last_within it.key (take n items) in let long = take_long items n in omega arith) in
      let within = walk.within in (
        record {
          within = omega arith;
          own = λ m its top at_its. own m its top at_its;
        },
        λ m its from at_its own. step m its from at_its own (cases_order m n),
        short,
      )
    where
      key_is : it.key ≡ key
      key_is = walk.own n it refl there

      own : (m : ℕ) (its : Item T) → it.link ≡ suc m → slice_get items m ≡ Some its → its.key ≡ key
      own m its top at_its =
          last_is it.key m (take n items) its (sym is ∙ top)
          (take_get items n m its at_its (let bound = last_within it.key (take n items) in let long = take_long items n in omega arith)) ∙ key_is

      step : (m : ℕ) (its : Item T) → it.link ≤ m → slice_get items m ≡ Some its → its.key ≡ key → (m ≡ n) ⊎ (m < n) ⊎ (n < m) → P m its
      step m its from at_its own (inl same) =
          let there' : slice_get items n ≡ Some its = subst (λ k. slice_get items k ≡ Some its) same at_its in
          subst (λ k. P k its) (sym same) (subst (P n) (some_is (sym there ∙ there')) new)
      step m its from at_its own (inr (inl before)) = absurd (
          let later : m < last_in its.key (take n items) = none_later m (take n items) its (take_get items n m its at_its before) in
          let later' : m < last_in it.key (take n items) = subst (λ k. m < last_in k (take n items)) (own ∙ sym key_is) later in
          omega arith)
      step m its from at_its own (inr (inr later)) = seen m its (omega arith) at_its own

  -- as the walk does it
  pub walk_back : (heads : List ℕ) (items : List (Item T)) (key at : ℕ) (it : Item T) (P : ℕ → Item T → Type 0) → IsIndex heads items → IsWalk items key at
      → Seen items key at P → 0 < at → slice_get items (at - 1) ≡ Some it → P (at - 1) it
      → IsWalk items key it.link × Seen items key it.link P × (it.link < at)
  walk_back heads items key zero it P right walk seen some there new = absurd (omega arith)
  walk_back heads items key (suc n) it P right walk seen some there new =
      let same : suc n - 1 ≡ n = omega arith in
      let at_n : slice_get items n ≡ Some it = subst (λ k. slice_get items k ≡ Some it) same there in
      let all = walk_next items key n it P walk seen at_n (right.link n it at_n) (subst (λ k. P k it) same new) in
      (all.0, all.1, (let short = all.2 in omega arith))

  -- the item that the walk is at has the key
  pub walk_own : (items : List (Item T)) (key at : ℕ) (it : Item T) → IsWalk items key at → 0 < at → slice_get items (at - 1) ≡ Some it → it.key ≡ key
  walk_own items key zero it walk some there = absurd (omega arith)
  walk_own items key (suc n) it walk some there =
      walk.own n it refl (subst (λ k. slice_get items k ≡ Some it) (let same : suc n - 1 ≡ n = omega arith in same) there)

  -- and it is there
  pub walk_within : (items : List (Item T)) (key at : ℕ) → IsWalk items key at → 0 < at → at - 1 < length items
  walk_within items key at walk some = let within = walk.within in omega arith
