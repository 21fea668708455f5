-- What holds of each entry of a list holds of each entry of the lists that are made of it.
--     IfThere P it              P holds of it, if it is there
use Rattle.std.proofs.Common.{ℕ, zero, suc, Bool, true, false, List, [], ◌∷◌, ◌++◌, map, take, drop, replicate, slice_get, slice_set, Option, Some, None, if◌then◌else◌}
use Rattle.std.specs.List.{AllByRecursion}

-- of what is there
abbrev pub IfThere : {A : Type 0} → (A → Type 0) → Option A → Type 0
IfThere P None = Unit {0}
IfThere P (Some it) = P it

module _ {A : Type 0} (P : A → Type 0) where
  -- one list after the other
  pub all_append : (xs ys : List A) → AllByRecursion P xs → AllByRecursion P ys → AllByRecursion P (xs ++ ys)
  all_append [] ys first second = second
  all_append (x ∷ xs) ys first second = (first.0, all_append xs ys first.1 second)

  -- the first entries
  pub all_take : (n : ℕ) (xs : List A) → AllByRecursion P xs → AllByRecursion P (take n xs)
  all_take zero xs all = tt
  all_take (suc n) [] all = tt
  all_take (suc n) (x ∷ xs) all = (all.0, all_take n xs all.1)

  -- the entries after them
  pub all_drop : (n : ℕ) (xs : List A) → AllByRecursion P xs → AllByRecursion P (drop n xs)
  all_drop zero xs all = all
  all_drop (suc n) [] all = tt
  all_drop (suc n) (x ∷ xs) all = all_drop n xs all.1

  -- one entry, so many times
  pub all_replicate : (n : ℕ) (x : A) → P x → AllByRecursion P (replicate n x)
  all_replicate zero x is = tt
  all_replicate (suc n) x is = (is, all_replicate n x is)

  -- another entry at one place
  pub all_set : (xs : List A) (place : ℕ) (x : A) → AllByRecursion P xs → P x → AllByRecursion P (slice_set xs place x)
  all_set [] place x all is = tt
  all_set (y ∷ xs) zero x all is = (is, all.1)
  all_set (y ∷ xs) (suc place) x all is = (all.0, all_set xs place x all.1 is)

  -- the entry at a place
  pub there : (xs : List A) (place : ℕ) → AllByRecursion P xs → IfThere P (slice_get xs place)
  there [] place all = tt
  there (x ∷ xs) zero all = all.0
  there (x ∷ xs) (suc place) all = there xs place all.1

  -- one of two lists
  pub all_either : (b : Bool) (xs ys : List A) → AllByRecursion P xs → AllByRecursion P ys → AllByRecursion P (if b then xs else ys)
  all_either true xs ys first second = first
  all_either false xs ys first second = second

  -- one of two entries, or none
  pub there_either : (b : Bool) (x y : Option A) → IfThere P x → IfThere P y → IfThere P (if b then x else y)
  there_either true x y first second = first
  there_either false x y first second = second

-- what a function gives
pub all_map : {A B : Type 0} → (P : B → Type 0) (f : A → B) → ((x : A) → P (f x)) → (xs : List A) → AllByRecursion P (map f xs)
all_map P f each [] = tt
all_map P f each (x ∷ xs) = (each x, all_map P f each xs)
