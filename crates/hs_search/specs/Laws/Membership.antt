-- What is in a list.
use Rattle.std.proofs.Common.{◌≡◌, List, [], ◌∷◌, ◌++◌, inl, inr, ◌⊎◌, refl, ap, map, ℕ, zero, suc, ◌<◌, length, arith}
use Rattle.std.specs.List.{slice_index_or}
use Rattle.hs_search.specs.Graphs.{Has}

-- in front, or behind
pub Has-left : {A : Type 0} (xs ys : List A) (x : A) → Has xs x → Has (xs ++ ys) x
Has-left [] ys x has = absurd has
Has-left (z ∷ xs) ys x (inl is) = inl is
Has-left (z ∷ xs) ys x (inr has) = inr (Has-left xs ys x has)

pub Has-right : {A : Type 0} (xs ys : List A) (x : A) → Has ys x → Has (xs ++ ys) x
Has-right [] ys x has = has
Has-right (z ∷ xs) ys x has = inr (Has-right xs ys x has)

pub Has-either : {A : Type 0} (xs ys : List A) (x : A) → Has (xs ++ ys) x → Has xs x ⊎ Has ys x
Has-either [] ys x has = inr has
Has-either (z ∷ xs) ys x (inl is) = inl (inl is)
Has-either (z ∷ xs) ys x (inr has) = step (Has-either xs ys x has)
  where
    step : Has xs x ⊎ Has ys x → Has (z ∷ xs) x ⊎ Has ys x
    step (inl front) = inl (inr front)
    step (inr behind) = inr behind

-- one more
pub Has-last : {A : Type 0} (xs : List A) (x : A) → Has (xs ++ x ∷ []) x
Has-last xs x = Has-right xs (x ∷ []) x (inl refl)

-- a map
pub Has-map : {A B : Type 0} (f : A → B) (xs : List A) (x : A) → Has xs x → Has (map f xs) (f x)
Has-map f [] x has = absurd has
Has-map f (y ∷ xs) x (inl is) = inl (ap f is)
Has-map f (y ∷ xs) x (inr has) = inr (Has-map f xs x has)

-- by index
pub Has-index : {A : Type 0} (xs : List A) (i : ℕ) (d : A) → i < length xs → Has xs (slice_index_or xs i d)
Has-index [] i d within = absurd (omega arith)
Has-index (x ∷ xs) zero d within = inl refl
Has-index (x ∷ xs) (suc i) d within = inr (Has-index xs i d (omega arith))

pub index-Has : {A : Type 0} (xs : List A) (x : A) → Has xs x → (i : ℕ) × (i < length xs) × ((d : A) → slice_index_or xs i d ≡ x)
index-Has [] x has = absurd has
index-Has (y ∷ xs) x (inl is) = (zero, omega arith, λ d. is)
index-Has (y ∷ xs) x (inr has) = let found = index-Has xs x has in (suc found.0, (let within = found.1 in omega arith), found.2)

-- what a map has comes from an item
pub map-Has : {A B : Type 0} (f : A → B) (xs : List A) (y : B) → Has (map f xs) y → (x : A) × Has xs x × (f x ≡ y)
map-Has f [] y has = absurd has
map-Has f (x ∷ xs) y (inl is) = (x, inl refl, is)
map-Has f (x ∷ xs) y (inr has) = let found = map-Has f xs y has in (found.0, inr found.1, found.2)
