-- The entries of lists: with more at the end, with another one at a place, and what holds of each. Laws on the library's words.
--     entry_stays, last_either, last_there, same_below       more at the end
--     set_either, replaced_either, set_there, set_other, set_length, replaced_stays       another one at a place
--     drop_item                                              what is left, as an entry and the rest
--     all_at, all_appended, all_so, all_by_both                    what holds of each
use Rattle.std.proofs.Common.{◌≡◌, ◌<◌, ◌+◌, ◌⊎◌, inl, inr, ℕ, zero, suc, List, [], ◌∷◌, ◌++◌, length, drop, get_or, Some, refl, sym, ap, subst, ◌∙◌, arith}
use Rattle.std.proofs.lemmas.List.{drop_more}
use Rattle.std.specs.List.{AllByRecursion}
use Rattle.std.specs.Prelude.{slice_get, slice_set}

-- ---- more at the end

-- an entry stays if the list goes on after it
pub entry_stays : {A : Type 0} → (xs ys : List A) (k : ℕ) (x : A) → slice_get xs k ≡ Some x → slice_get (xs ++ ys) k ≡ Some x
entry_stays [] ys k x found = absurd cc
entry_stays (y ∷ xs) ys zero x found = found
entry_stays (y ∷ xs) ys (suc k) x found = entry_stays xs ys k x found

-- an entry of a list with one more is an old one, or the new one
pub last_either : {A : Type 0} → (xs : List A) (y : A) (k : ℕ) (x : A) → slice_get (xs ++ y ∷ []) k ≡ Some x
    → (slice_get xs k ≡ Some x) ⊎ (y ≡ x)
last_either [] y zero x found = inr cc
last_either [] y (suc k) x found = absurd cc
last_either (z ∷ xs) y zero x found = inl found
last_either (z ∷ xs) y (suc k) x found = last_either xs y k x found

-- the new one is at the end
pub last_there : {A : Type 0} → (xs : List A) (x : A) → slice_get (xs ++ x ∷ []) (length xs) ≡ Some x
last_there [] x = refl
last_there (y ∷ xs) x = last_there xs x

-- one less
one_less : (a b : ℕ) → suc a < suc b → a < b
one_less a b is = omega (arith, is)

-- no number is below 0
none_less : (a : ℕ) → a < 0 → ⊥
none_less a is = omega (arith, is)

-- the entries before the end are the old ones
pub same_below : {A : Type 0} → (xs ys : List A) (k : ℕ) → k < length xs → slice_get (xs ++ ys) k ≡ slice_get xs k
same_below [] ys k less = absurd (none_less k less)
same_below (x ∷ xs) ys zero less = refl
same_below (x ∷ xs) ys (suc k) less = same_below xs ys k (one_less k (length xs) less)

-- ---- another one at a place

-- an entry is an old one, or the new one at its place
pub set_either : {A : Type 0} → (xs : List A) (n : ℕ) (y : A) (k : ℕ) (x : A) → slice_get (slice_set xs n y) k ≡ Some x
    → (slice_get xs k ≡ Some x) ⊎ ((k ≡ n) × (y ≡ x))
set_either [] n y k x found = inl found
set_either (z ∷ xs) zero y zero x found = inr (refl, cc)
set_either (z ∷ xs) zero y (suc k) x found = inl found
set_either (z ∷ xs) (suc n) y zero x found = inl found
set_either (z ∷ xs) (suc n) y (suc k) x found = next (set_either xs n y k x found)
  where
    next : (slice_get xs k ≡ Some x) ⊎ ((k ≡ n) × (y ≡ x)) → (slice_get xs k ≡ Some x) ⊎ ((suc k ≡ suc n) × (y ≡ x))
    next (inl is) = inl is
    next (inr is) = inr (ap suc is.0, is.1)

-- an entry is an old one, or the new one
pub replaced_either : {A : Type 0} → (xs : List A) (n : ℕ) (y : A) (k : ℕ) (x : A) → slice_get (slice_set xs n y) k ≡ Some x
    → (slice_get xs k ≡ Some x) ⊎ (y ≡ x)
replaced_either [] n y k x found = inl found
replaced_either (z ∷ xs) zero y zero x found = inr cc
replaced_either (z ∷ xs) zero y (suc k) x found = inl found
replaced_either (z ∷ xs) (suc n) y zero x found = inl found
replaced_either (z ∷ xs) (suc n) y (suc k) x found = replaced_either xs n y k x found

-- the new one is there
pub set_there : {A : Type 0} → (xs : List A) (n : ℕ) (old y : A) → slice_get xs n ≡ Some old → slice_get (slice_set xs n y) n ≡ Some y
set_there [] n old y found = absurd cc
set_there (z ∷ xs) zero old y found = refl
set_there (z ∷ xs) (suc n) old y found = set_there xs n old y found

-- the others stay
pub set_other : {A : Type 0} → (xs : List A) (n : ℕ) (y : A) (k : ℕ) → (k ≡ n → ⊥) → slice_get (slice_set xs n y) k ≡ slice_get xs k
set_other [] n y k other = refl
set_other (z ∷ xs) zero y zero other = absurd (other refl)
set_other (z ∷ xs) zero y (suc k) other = refl
set_other (z ∷ xs) (suc n) y zero other = refl
set_other (z ∷ xs) (suc n) y (suc k) other = set_other xs n y k (λ same. other (ap suc same))

-- and so does their number
pub set_length : {A : Type 0} → (xs : List A) (n : ℕ) (y : A) → length (slice_set xs n y) ≡ length xs
set_length [] n y = refl
set_length (z ∷ xs) zero y = refl
set_length (z ∷ xs) (suc n) y = ap suc (set_length xs n y)

-- an entry that differs from the one that is replaced stays
pub replaced_stays : {A : Type 0} → (xs : List A) (n : ℕ) (old y : A) (k : ℕ) (x : A) → slice_get xs n ≡ Some old → ¬ (old ≡ x)
    → slice_get xs k ≡ Some x → slice_get (slice_set xs n y) k ≡ Some x
replaced_stays [] n old y k x at other found = absurd cc
replaced_stays (z ∷ xs) zero old y zero x at other found = absurd (other cc)
replaced_stays (z ∷ xs) zero old y (suc k) x at other found = found
replaced_stays (z ∷ xs) (suc n) old y zero x at other found = found
replaced_stays (z ∷ xs) (suc n) old y (suc k) x at other found = replaced_stays xs n old y k x at other found

-- ---- what is left

-- from a place on: the entry there, and what is left after it
pub drop_item : {A : Type 0} → (xs : List A) (place : ℕ) (it : A) → place < length xs → it ≡ get_or xs place it
    → drop place xs ≡ it ∷ drop (place + 1) xs
drop_item xs place it within is = drop_more xs place it within ∙ ap (λ first. first ∷ drop (place + 1) xs) (sym is)

-- ---- what holds of each entry

-- it holds of the one at a place
pub all_at : {A : Type 0} → (holds : A → Type 0) (xs : List A) (place : ℕ) (x : A) → AllByRecursion holds xs → slice_get xs place ≡ Some x → holds x
all_at holds [] place x are at = absurd cc
all_at {A = A} holds (y ∷ xs) zero x are at = subst holds (same y x at) are.0
  where
    same : (a b : A) → Some a ≡ Some b → a ≡ b
    same a b so = cc
all_at holds (y ∷ xs) (suc place) x are at = all_at holds xs place x are.1 at

-- it holds of two lists, one after the other
pub all_appended : {A : Type 0} → (holds : A → Type 0) (xs ys : List A) → AllByRecursion holds xs → AllByRecursion holds ys
    → AllByRecursion holds (xs ++ ys)
all_appended holds [] ys is is' = is'
all_appended holds (x ∷ xs) ys is is' = (is.0, all_appended holds xs ys is.1 is')

-- what follows from it
pub all_so : {A : Type 0} → (holds holds' : A → Type 0) → ((x : A) → holds x → holds' x) → (xs : List A) → AllByRecursion holds xs
    → AllByRecursion holds' xs
all_so holds holds' so [] is = tt
all_so holds holds' so (x ∷ xs) is = (so x is.0, all_so holds holds' so xs is.1)

-- what follows from two facts, if both hold of each entry
pub all_by_both : {A : Type 0} → (one other holds : A → Type 0) → ((x : A) → one x → other x → holds x) → (xs : List A) → AllByRecursion one xs
    → AllByRecursion other xs → AllByRecursion holds xs
all_by_both one other holds so [] are are' = tt
all_by_both one other holds so (x ∷ xs) are are' = (so x are.0 are'.0, all_by_both one other holds so xs are.1 are'.1)
