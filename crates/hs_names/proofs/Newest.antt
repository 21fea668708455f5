-- The newest declaration of a name, and its place among the entries.
use Rattle.std.proofs.Common.{◌≡◌, ◌<◌, ◌+◌, ◌==◌, ◌⊎◌, inl, inr, ℕ, zero, suc, Bool, true, false, List, [], ◌∷◌, ◌++◌, length, Option, None, Some, nat_eq, refl, sym, ap, ◌∙◌, if◌then◌else◌, arith}
use Rattle.std.specs.Prelude.{slice_get, option_map}
use Rattle.std.specs.Cmp.Lexicographic.{pointwise}
use Rattle.hs_names.specs.Entries.{declaration, onto, declarations_of, place}
use Rattle.hs_names.specs.Lists.{IsLast}
use Rattle.hs_names.specs.Scopes.{Declared, newest, inside, is_of_level, older_than}
use Rattle.hs_names.specs.declared.scopes.Entry.{Entry}

module _ {E : Type 0} where
  -- a name without a place has no declaration
  none-if : (b : Bool) (name : List ℕ) (it : Declared E) (older : List (Declared E)) → (place name older ≡ None → newest name older ≡ None)
      → (if b then Some (length older) else place name older) ≡ None → (if b then Some it else newest name older) ≡ None
  none-if true name it older rest none = absurd cc
  none-if false name it older rest none = rest none

  pub newest-none : (name : List ℕ) (its : List (Declared E)) → place name its ≡ None → newest name its ≡ None
  newest-none name [] none = refl
  newest-none name (it ∷ older) none = none-if (pointwise nat_eq it.name name) name it older (newest-none name older) none

  -- a place is below the number of declarations
  below-if : (b : Bool) (name : List ℕ) (older : List (Declared E)) (k : ℕ) → ((n : ℕ) → place name older ≡ Some n → n < length older)
      → (if b then Some (length older) else place name older) ≡ Some k → k < suc (length older)
  below-if true name older k rest is = let same : length older ≡ k = cc in rw (← same) (omega arith)
  below-if false name older k rest is = omega (arith, rest k is)

  pub place-below : (name : List ℕ) (its : List (Declared E)) (k : ℕ) → place name its ≡ Some k → k < length its
  place-below name [] k is = absurd cc
  place-below name (it ∷ older) k is = below-if (pointwise nat_eq it.name name) name older k (λ n. place-below name older n) is

  -- The declaration at that place, among older ones or among the entries after them.
  Found : List ℕ → List (Declared E) → List (Entry E) → ℕ → Type 0
  Found name older entries k =
      ((place name older ≡ Some k) × (newest name (onto older entries) ≡ newest name older))
      ⊎ ((i : ℕ) × (it : Entry E) × (k ≡ length older + i) × (slice_get entries i ≡ Some it)
      × (newest name (onto older entries) ≡ Some (declaration it)))

  found-if : (b : Bool) (name : List ℕ) (it : Entry E) (older : List (Declared E)) (entries : List (Entry E)) (k : ℕ)
      → (if b then Some (length older) else place name older) ≡ Some k
      → newest name (onto (declaration it ∷ older) entries) ≡ (if b then Some (declaration it) else newest name older)
      → Found name older (it ∷ entries) k
  unfolding Found
  found-if true name it older entries k is same = let here : length older ≡ k = cc in inr (0, it, omega (arith, here), refl, same)
  found-if false name it older entries k is same = inl (is, same)

  found-step : (name : List ℕ) (it : Entry E) (older : List (Declared E)) (entries : List (Entry E)) (k : ℕ)
      → Found name (declaration it ∷ older) entries k → Found name older (it ∷ entries) k
  unfolding Found
  found-step name it older entries k (inl (is, same)) = found-if (pointwise nat_eq it.name.items name) name it older entries k is same
  found-step name it older entries k (inr (i, entry, k_is, at, same)) = inr (suc i, entry, omega (arith, k_is), at, same)

  found : (name : List ℕ) (older : List (Declared E)) (entries : List (Entry E)) (k : ℕ) → place name (onto older entries) ≡ Some k
      → Found name older entries k
  unfolding Found
  found name older [] k is = inl (is, refl)
  found name older (it ∷ entries) k is = found-step name it older entries k (found name (declaration it ∷ older) entries k is)

  at-place : (name : List ℕ) (entries : List (Entry E)) (k : ℕ) (it : Entry E) → Found name [] entries k → slice_get entries k ≡ Some it
      → newest name (declarations_of entries) ≡ Some (declaration it)
  unfolding Found
  at-place name entries k it (inl (is, same)) at = absurd cc
  at-place name entries k it (inr (i, entry, k_is, there, same)) at =
      let here : k ≡ i = omega (arith, k_is) in
      let one : Some entry ≡ Some it = sym there ∙ ap (slice_get entries) (sym here) ∙ at in
      same ∙ ap (λ o. declaration_in o) one
    where
      declaration_in : Option (Entry E) → Option (Declared E)
      declaration_in None = None
      declaration_in (Some x) = Some (declaration x)

  -- the entry at the place of a name is its newest declaration
  pub newest-at : (name : List ℕ) (entries : List (Entry E)) (k : ℕ) (it : Entry E) → place name (declarations_of entries) ≡ Some k
      → slice_get entries k ≡ Some it → newest name (declarations_of entries) ≡ Some (declaration it)
  newest-at name entries k it is at = at-place name entries k it (found name [] entries k is) at

  -- the newest entry is the last one
  pub onto-push : (older : List (Declared E)) (entries : List (Entry E)) (it : Entry E) → onto older (entries ++ it ∷ []) ≡ declaration it ∷ onto older entries
  onto-push older [] it = refl
  onto-push older (entry ∷ entries) it = onto-push (declaration entry ∷ older) entries it

  pub onto-length : (older : List (Declared E)) (entries : List (Entry E)) → length (onto older entries) ≡ length older + length entries
  onto-length older [] = omega arith
  onto-length older (entry ∷ entries) = omega (arith, onto-length (declaration entry ∷ older) entries)

  past-none : (entries : List (Entry E)) (k : ℕ) → slice_get entries k ≡ None → k < length entries → ⊥
  past-none [] k none below = omega (arith, below)
  past-none (it ∷ entries) zero none below = cc
  past-none (it ∷ entries) (suc k) none below = past-none entries k none (omega (arith, below))

  seen-if : (name : List ℕ) (entries : List (Entry E)) (k : ℕ) (there : Option (Entry E)) → place name (declarations_of entries) ≡ Some k
      → slice_get entries k ≡ there → option_map declaration there ≡ newest name (declarations_of entries)
  seen-if name entries k None is at =
      absurd (past-none entries k at (omega (arith, place-below name (declarations_of entries) k is, onto-length [] entries)))
  seen-if name entries k (Some it) is at = sym (newest-at name entries k it is at)

  -- the entry at the place of a name, as a declaration
  pub newest-seen : (name : List ℕ) (entries : List (Entry E)) (k : ℕ) → place name (declarations_of entries) ≡ Some k
      → option_map declaration (slice_get entries k) ≡ newest name (declarations_of entries)
  newest-seen name entries k is = seen-if name entries k (slice_get entries k) is refl

  -- the last entry is the newest declaration
  pub level-last : (level : ℕ) (entries : List (Entry E)) (it : Entry E) → IsLast entries it → (it.level == level) ≡ is_of_level level (declarations_of entries)
  level-last level entries it (front, is) = sym (ap (λ its. is_of_level level (declarations_of its)) is ∙ ap (is_of_level level) (onto-push [] front it))

  older-if : (level : ℕ) (it : Declared E) (older : List (Declared E)) (b : Bool) → b ≡ true → (if b then older else it ∷ older) ≡ older
  older-if level it older true same = refl
  older-if level it older false same = absurd cc

  -- without the last entry, the newest declaration is gone
  pub older-last : (level : ℕ) (entries rest : List (Entry E)) (it : Entry E) → entries ≡ rest ++ it ∷ [] → is_of_level level (declarations_of entries) ≡ true
      → older_than level (declarations_of entries) ≡ declarations_of rest
  older-last level entries rest it is here =
      ap (λ its. older_than level (declarations_of its)) is ∙ ap (older_than level) (onto-push [] rest it)
      ∙ older-if level (declaration it) (declarations_of rest) (it.level == level) (level-last level entries it (rest, is) ∙ here)

  here-if : (level : ℕ) (it : Declared E) (older : List (Declared E)) (b : Bool) → b ≡ true
      → (if b then it ∷ inside level older else []) ≡ it ∷ inside level older
  here-if level it older true same = refl
  here-if level it older false same = absurd cc

  -- the last entry is the newest declaration of the innermost scope
  pub inside_here : (level : ℕ) (entries front : List (Entry E)) (it : Entry E) → entries ≡ front ++ it ∷ [] → (it.level == level) ≡ true
      → inside level (declarations_of entries) ≡ declaration it ∷ inside level (declarations_of front)
  inside_here level entries front it is here =
      ap (λ its. inside level (declarations_of its)) is ∙ ap (inside level) (onto-push [] front it)
      ∙ here-if level (declaration it) (declarations_of front) (it.level == level) here

  gone-if : (level : ℕ) (it : Declared E) (older : List (Declared E)) (b : Bool) → b ≡ false
      → (if b then it ∷ inside level older else []) ≡ []
  gone-if level it older true same = absurd cc
  gone-if level it older false same = refl

  -- or the innermost scope declares no more
  pub inside_gone : (level : ℕ) (entries front : List (Entry E)) (it : Entry E) → entries ≡ front ++ it ∷ [] → (it.level == level) ≡ false
      → inside level (declarations_of entries) ≡ []
  inside_gone level entries front it is other =
      ap (λ its. inside level (declarations_of its)) is ∙ ap (inside level) (onto-push [] front it)
      ∙ gone-if level (declaration it) (declarations_of front) (it.level == level) other
