-- An item of a list is replaced by another one, of the same key.
use Rattle.std.proofs.Common.{◌≡◌, ◌≢◌, ◌<◌, ◌≤◌, ℕ, zero, suc, ◌-◌, ◌==◌, List, [], ◌∷◌, ◌++◌, length, take, drop, slice_get, slice_set, Some, inl, inr, ◌⊎◌, refl, ap, sym, ◌∙◌, subst, arith}
use Rattle.hs_search.proofs.Hashed.{row_spot, spot_row}
use Rattle.hs_search.proofs.Listing.{some_is}
use Rattle.hs_search.specs.Graphs.{Has}
use Rattle.hs_search.specs.Hashing.{IsHashed, count_if, count_in}
use Rattle.hs_search.specs.Listing.{IsIndex, last_in, or_first}
use Rattle.hs_search.specs.Storing.{IsRowOf}
use Rattle.hs_search.specs.declared.hashing.Spot.{Spot}
use Rattle.hs_search.specs.declared.lists.Item.{Item}
use Rattle.hs_search.specs.declared.reach.Reach.{Reach}

module _ {A : Type 0} where
  -- what is there then
  pub set_get : (xs : List A) (n k : ℕ) (x y : A) → slice_get (slice_set xs n x) k ≡ Some y → ((k ≡ n) × (x ≡ y)) ⊎ ((k ≢ n) × (slice_get xs k ≡ Some y))
  set_get [] n k x y at = absurd cc
  set_get (z ∷ xs) zero zero x y at = inl (refl, some_is at)
  set_get (z ∷ xs) zero (suc k) x y at = inr ((λ is. absurd (omega arith)), at)
  set_get (z ∷ xs) (suc n) zero x y at = inr ((λ is. absurd (omega arith)), at)
  set_get (z ∷ xs) (suc n) (suc k) x y at = step (set_get xs n k x y at)
    where
      step : ((k ≡ n) × (x ≡ y)) ⊎ ((k ≢ n) × (slice_get xs k ≡ Some y)) → ((suc k ≡ suc n) × (x ≡ y)) ⊎ ((suc k ≢ suc n) × (slice_get xs k ≡ Some y))
      step (inl here) = inl (ap (λ n. suc n) here.0, here.1)
      step (inr other) = inr ((λ is. other.0 (omega arith)), other.1)

  pub set_still : (xs : List A) (n k : ℕ) (x y : A) → k ≢ n → slice_get xs k ≡ Some y → slice_get (slice_set xs n x) k ≡ Some y
  set_still [] n k x y other at = absurd cc
  set_still (z ∷ xs) zero zero x y other at = absurd (other refl)
  set_still (z ∷ xs) zero (suc k) x y other at = at
  set_still (z ∷ xs) (suc n) zero x y other at = at
  set_still (z ∷ xs) (suc n) (suc k) x y other at = set_still xs n k x y (λ is. other (ap (λ m. suc m) is)) at

  pub set_here : (xs : List A) (n : ℕ) (x y : A) → slice_get xs n ≡ Some y → slice_get (slice_set xs n x) n ≡ Some x
  set_here [] n x y at = absurd cc
  set_here (z ∷ xs) zero x y at = refl
  set_here (z ∷ xs) (suc n) x y at = set_here xs n x y at

  pub set_length : (xs : List A) (n : ℕ) (x : A) → length (slice_set xs n x) ≡ length xs
  set_length [] n x = refl
  set_length (z ∷ xs) zero x = refl
  set_length (z ∷ xs) (suc n) x = ap (λ k. suc k) (set_length xs n x)

  pub set_right : (xs ys : List A) (n : ℕ) (x : A) → length xs ≤ n → slice_set (xs ++ ys) n x ≡ xs ++ slice_set ys (n - length xs) x
  set_right [] ys n x low = ap (λ k. slice_set ys k x) (let same : n ≡ n - 0 = omega arith in same)
  set_right (z ∷ xs) ys zero x low = absurd (omega arith)
  set_right (z ∷ xs) ys (suc n) x low =
      ap (λ zs. z ∷ zs) (set_right xs ys n x (omega arith)
      ∙ ap (λ k. xs ++ slice_set ys k x) (let same : n - length xs ≡ suc n - suc (length xs) = omega arith in same))

  pub set_has : (xs : List A) (n : ℕ) (x y : A) → Has (slice_set xs n x) y → (x ≡ y) ⊎ Has xs y
  set_has [] n x y has = absurd has
  set_has (z ∷ xs) zero x y (inl is) = inl is
  set_has (z ∷ xs) zero x y (inr has) = inr (inr has)
  set_has (z ∷ xs) (suc n) x y (inl is) = inr (inl is)
  set_has (z ∷ xs) (suc n) x y (inr has) = step (set_has xs n x y has)
    where
      step : (x ≡ y) ⊎ Has xs y → (x ≡ y) ⊎ Has (z ∷ xs) y
      step (inl is) = inl is
      step (inr has) = inr (inr has)

  -- what is seen of items stays, if it is the same of both
  pub set_map : {B : Type 0} (f : A → B) (xs ys : List A) (n : ℕ) (x y : A) → slice_get xs n ≡ Some y → f x ≡ f y → ys ≡ slice_set xs n x
      → (g : List A → List B) → ((z : A) (zs : List A) → g (z ∷ zs) ≡ f z ∷ g zs) → g ys ≡ g xs
  set_map {B} f xs ys n x y at same is g next = ap g is ∙ go xs n at
    where
      go : (xs : List A) (n : ℕ) → slice_get xs n ≡ Some y → g (slice_set xs n x) ≡ g xs
      go [] n at = absurd cc
      go (z ∷ xs) zero at = next x xs ∙ ap (λ b. b ∷ g xs) (same ∙ ap f (sym (some_is at))) ∙ sym (next z xs)
      go (z ∷ xs) (suc n) at = next z (slice_set xs n x) ∙ ap (λ bs. f z ∷ bs) (go xs n at) ∙ sym (next z xs)

-- ---- the key stays

module _ {T : Type 0} where
  last_set : (key : ℕ) (items : List (Item T)) (n : ℕ) (it its : Item T) → slice_get items n ≡ Some it → its.key ≡ it.key
      → last_in key (slice_set items n its) ≡ last_in key items
  last_set key [] n it its at same = absurd cc
  last_set key (first ∷ items) zero it its at same =
      ap (λ k. or_first (last_in key items) (k == key)) (same ∙ ap (λ (i : Item T). i.key) (sym (some_is at)))
  last_set key (first ∷ items) (suc n) it its at same = ap (λ later. or_first later (first.key == key)) (last_set key items n it its at same)

  count_set : (key k : ℕ) (items : List (Item T)) (n : ℕ) (it its : Item T) → slice_get items n ≡ Some it → its.key ≡ it.key
      → count_in key (drop k (slice_set items n its)) ≡ count_in key (drop k items)
  count_set key k [] n it its at same = absurd cc
  count_set key zero (first ∷ items) zero it its at same =
      ap (λ j. count_if (j == key) (count_in key items)) (same ∙ ap (λ (i : Item T). i.key) (sym (some_is at)))
  count_set key zero (first ∷ items) (suc n) it its at same = ap (count_if (first.key == key)) (count_set key zero items n it its at same)
  count_set key (suc k) (first ∷ items) zero it its at same = refl
  count_set key (suc k) (first ∷ items) (suc n) it its at same = count_set key k items n it its at same

  take_set : (items : List (Item T)) (m n : ℕ) (its : Item T) → m ≤ n → take m (slice_set items n its) ≡ take m items
  take_set items zero n its low = refl
  take_set [] (suc m) n its low = refl
  take_set (first ∷ items) (suc m) zero its low = absurd (omega arith)
  take_set (first ∷ items) (suc m) (suc n) its low = ap (λ zs. first ∷ zs) (take_set items m n its (omega arith))

  last_take : (key : ℕ) (items : List (Item T)) (m n : ℕ) (it its : Item T) → slice_get items n ≡ Some it → its.key ≡ it.key
      → last_in key (take m (slice_set items n its)) ≡ last_in key (take m items)
  last_take key items zero n it its at same = refl
  last_take key [] (suc m) n it its at same = refl
  last_take key (first ∷ items) (suc m) zero it its at same =
      ap (λ k. or_first (last_in key (take m items)) (k == key)) (same ∙ ap (λ (i : Item T). i.key) (sym (some_is at)))
  last_take key (first ∷ items) (suc m) (suc n) it its at same =
      ap (λ later. or_first later (first.key == key)) (last_take key items m n it its at same)

  -- so the index stays
  pub IsIndex-set : (heads : List ℕ) (items items' : List (Item T)) (n : ℕ) (it its : Item T) → IsIndex heads items → slice_get items n ≡ Some it
      → its.key ≡ it.key → its.link ≡ it.link → items' ≡ slice_set items n its → IsIndex heads items'
  IsIndex-set heads items items' n it its old at key link is = subst (IsIndex heads) (sym is) (record {
    head = λ k below. old.head k below ∙ sym (last_set k items n it its at key);
    link = λ m one there. step m one (set_get items n m its one there);
    below = λ m one there. low m one (set_get items n m its one there);
  })
    where
      step : (m : ℕ) (one : Item T) → ((m ≡ n) × (its ≡ one)) ⊎ ((m ≢ n) × (slice_get items m ≡ Some one))
          → one.link ≡ last_in one.key (take m (slice_set items n its))
      step m one (inl here) =
          subst (λ (i : Item T). i.link ≡ last_in i.key (take m (slice_set items n its))) here.1
          (link ∙ old.link n it at ∙ ap (λ k. last_in k (take n items)) (sym key) ∙ sym (last_take its.key items n n it its at key)
          ∙ ap (λ k. last_in its.key (take k (slice_set items n its))) (sym here.0))
      step m one (inr other) = old.link m one other.1 ∙ sym (last_take one.key items m n it its at key)

      low : (m : ℕ) (one : Item T) → ((m ≡ n) × (its ≡ one)) ⊎ ((m ≢ n) × (slice_get items m ≡ Some one)) → one.key < length heads
      low m one (inl here) = subst (λ (i : Item T). i.key < length heads) here.1 (subst (λ k. k < length heads) (sym key) (old.below n it at))
      low m one (inr other) = old.below m one other.1

-- and the hash, if the node stays
pub hashed_set : (near : ℕ) (items items' : List (Item Reach)) (entries : List (Spot × ℕ)) (n : ℕ) (it its : Item Reach) → IsHashed near items entries
    → slice_get items n ≡ Some it → its.key ≡ it.key → it.value.fact ≡ its.value.fact → it.value.call ≡ its.value.call → items' ≡ slice_set items n its
    → IsHashed near items' entries
hashed_set near items items' entries n it its old at key fact call is = subst (λ xs. IsHashed near xs entries) (sym is) (record {
  right = λ reach m found. spot_row (slice_set items n its) reach m (ahead reach m (row_spot items reach m (old.right reach m found)));
  all = λ reach m row far. old.all reach m (back reach m row (set_get items n m its row.it row.there))
      (subst (λ k. near ≤ k) (count_set reach.at (suc m) items n it its at key) far);
})
  where
    ahead : (reach : Reach) (m : ℕ) → IsRowOf items reach m → IsRowOf (slice_set items n its) reach m
    ahead reach m row = by (order m n)
      where
        order : (a b : ℕ) → (a ≡ b) ⊎ (a ≢ b)
        order zero zero = inl refl
        order zero (suc b) = inr (λ is. absurd (omega arith))
        order (suc a) zero = inr (λ is. absurd (omega arith))
        order (suc a) (suc b) = more (order a b)
          where
            more : (a ≡ b) ⊎ (a ≢ b) → (suc a ≡ suc b) ⊎ (suc a ≢ suc b)
            more (inl is) = inl (ap (λ k. suc k) is)
            more (inr other) = inr (λ is. other (omega arith))

        by : (m ≡ n) ⊎ (m ≢ n) → IsRowOf (slice_set items n its) reach m
        by (inl is) =
            let same : row.it ≡ it = some_is (sym row.there ∙ ap (slice_get items) is ∙ at) in
            record {
              it = its;
              there = subst (λ k. slice_get (slice_set items n its) k ≡ Some its) (sym is) (set_here items n its it at);
              at = key ∙ ap (λ (i : Item Reach). i.key) (sym same) ∙ row.at;
              fact = sym fact ∙ ap (λ (i : Item Reach). i.value.fact) (sym same) ∙ row.fact;
              call = sym call ∙ ap (λ (i : Item Reach). i.value.call) (sym same) ∙ row.call;
            }
        by (inr other) =
            record { it = row.it; there = set_still items n m its row.it other row.there; at = row.at; fact = row.fact; call = row.call }

    back : (reach : Reach) (m : ℕ) → (row : IsRowOf (slice_set items n its) reach m)
        → ((m ≡ n) × (its ≡ row.it)) ⊎ ((m ≢ n) × (slice_get items m ≡ Some row.it)) → IsRowOf items reach m
    back reach m row (inl here) = record {
      it = it;
      there = subst (λ k. slice_get items k ≡ Some it) (sym here.0) at;
      at = sym key ∙ ap (λ (i : Item Reach). i.key) here.1 ∙ row.at;
      fact = fact ∙ ap (λ (i : Item Reach). i.value.fact) here.1 ∙ row.fact;
      call = call ∙ ap (λ (i : Item Reach). i.value.call) here.1 ∙ row.call;
    }
    back reach m row (inr other) = record { it = row.it; there = other.1; at = row.at; fact = row.fact; call = row.call }
