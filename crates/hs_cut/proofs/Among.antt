-- The set of some numbers, and the list of them.
use Rattle.std.proofs.Common.{◌≡◌, ℕ, ◌<◌, List, [], ◌∷◌, length, get_or, ap, sym, ◌∙◌, true, ◌||◌, All, Contains, Any, flat_map, refl, inl, inr, nat_eq}
use Rattle.std.proofs.lemmas.Bool.{eqb-true, eq-eqb, or_cases}
use Rattle.std.proofs.Math.Bool.{or-true}
use Rattle.std.proofs.Common.{arith}
use Rattle.std.proofs.lemmas.List.Folds.{list_any-append, Any-from_list_any, list_any_at}
use Rattle.std.proofs.lemmas.List.Concat.{flat_map-cons}
use Rattle.hs_cut.specs.Networks.{among}

-- the set of a number and others
pub among-cons : (number : ℕ) (numbers : List ℕ) (vertex : ℕ) → among (number ∷ numbers) vertex ≡ (nat_eq vertex number || among numbers vertex)
among-cons number numbers vertex = refl

-- a number of the list is in the set
pub among-get_or : (numbers : List ℕ) (index default : ℕ) → index < length numbers → among numbers (get_or numbers index default) ≡ true
among-get_or numbers index default below =
    list_any_at (nat_eq (get_or numbers index default)) numbers index default below (eq-eqb (get_or numbers index default) (get_or numbers index default) refl)

-- what is in the set is of the list
Contains-among : (numbers : List ℕ) (vertex : ℕ) → among numbers vertex ≡ true → Contains numbers vertex
Contains-among numbers vertex is =
    let found : Any (λ number. nat_eq vertex number ≡ true) numbers = Any-from_list_any (nat_eq vertex) numbers is in
    let same : vertex ≡ found.1 = eqb-true vertex found.1 found.4 in
    rw same (found.0, found.2, found.3)

-- what holds of the set holds of the list
pub All-among : (P : ℕ → Type 0) (numbers : List ℕ) → ((vertex : ℕ) → among numbers vertex ≡ true → P vertex) → All P numbers
All-among P numbers each index default below = each (get_or numbers index default) (among-get_or numbers index default below)

-- what holds of the list holds of the set
pub among-All : (P : ℕ → Type 0) (numbers : List ℕ) (vertex : ℕ) → All P numbers → among numbers vertex ≡ true → P vertex
among-All P numbers vertex each is =
    let has : Contains numbers vertex = Contains-among numbers vertex is in
    rw (← has.2) (each has.0 vertex has.1)

-- one of the lists that are joined has it
pub among-flat_map : (f : ℕ → List ℕ) (numbers : List ℕ) (vertex : ℕ) → among (flat_map f numbers) vertex ≡ true
    → (number : ℕ) × (among numbers number ≡ true) × (among (f number) vertex ≡ true)
among-flat_map f [] vertex is = absurd cc
among-flat_map f (number ∷ numbers) vertex is =
    elim (or_cases (among (f number) vertex) (among (flat_map f numbers) vertex)
    (sym (list_any-append (nat_eq vertex) (f number) (flat_map f numbers))
    ∙ ap (λ (xs : List ℕ). among xs vertex) (sym (flat_map-cons f number numbers)) ∙ is)) [
      | inl here ↦ (number, among-get_or (number ∷ numbers) 0 0 (omega arith), here)
      | inr there ↦
          let rest = among-flat_map f numbers vertex there in
          (rest.0, among-cons number numbers rest.0 ∙ ap (λ b. nat_eq rest.0 number || b) rest.1 ∙ or-true (nat_eq rest.0 number), rest.2)
    ]

-- what one of them has, all of them have
pub flat_map-among : (f : ℕ → List ℕ) (numbers : List ℕ) (number vertex : ℕ) → among numbers number ≡ true → among (f number) vertex ≡ true
    → among (flat_map f numbers) vertex ≡ true
flat_map-among f [] number vertex is has = absurd cc
flat_map-among f (one ∷ numbers) number vertex is has =
    ap (λ (xs : List ℕ). among xs vertex) (flat_map-cons f one numbers)
    ∙ list_any-append (nat_eq vertex) (f one) (flat_map f numbers)
    ∙ elim (or_cases (nat_eq number one) (among numbers number) (sym (among-cons one numbers number) ∙ is))
    as (λ _. (among (f one) vertex || among (flat_map f numbers) vertex) ≡ true) [
      | inl same ↦ ap (λ b. b || among (flat_map f numbers) vertex) (ap (λ n. among (f n) vertex) (sym (eqb-true number one same)) ∙ has)
      | inr there ↦ ap (λ b. among (f one) vertex || b) (flat_map-among f numbers number vertex there has) ∙ or-true (among (f one) vertex)
    ]
