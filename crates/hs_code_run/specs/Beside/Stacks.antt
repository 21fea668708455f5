-- Parts of stacks that correspond do.
use Rattle.std.proofs.Common.{◌≡◌, ℕ, zero, suc, List, [], ◌∷◌, Option, Some, None, refl}
use Rattle.hs_code_run.specs.Steps.{taken_onto, taken, below, holds, under, picked, on_top, brought}
use Rattle.hs_meaning.specs.Beside.{Relation, Lists}
use Rattle.hs_meaning.specs.Values.{Value}

module _ (R : Relation) where
  taken_onto_alike : (count : ℕ) (a b c d : List Value) → Lists R a b → Lists R c d → Lists R (taken_onto count a c) (taken_onto count b d)
  taken_onto_alike zero a b c d is so = so
  taken_onto_alike (suc more) [] [] c d is so = so
  taken_onto_alike (suc more) [] (v ∷ b) c d is so = absurd is
  taken_onto_alike (suc more) (v ∷ a) [] c d is so = absurd is
  taken_onto_alike (suc more) (v ∷ a) (w ∷ b) c d is so = taken_onto_alike more a b (v ∷ c) (w ∷ d) is.1 (is.0, so)

  -- so many values from the top
  pub taken_alike : (count : ℕ) (a b : List Value) → Lists R a b → Lists R (taken count a) (taken count b)
  taken_alike count a b is = taken_onto_alike count a b [] [] is tt

  -- what is below them
  pub below_alike : (count : ℕ) (a b : List Value) → Lists R a b → Lists R (below count a) (below count b)
  below_alike zero a b is = is
  below_alike (suc more) [] [] is = tt
  below_alike (suc more) [] (v ∷ b) is = absurd is
  below_alike (suc more) (v ∷ a) [] is = absurd is
  below_alike (suc more) (v ∷ a) (w ∷ b) is = below_alike more a b is.1

  -- both hold as many
  pub holds_alike : (count : ℕ) (a b : List Value) → Lists R a b → holds count a ≡ holds count b
  holds_alike zero a b is = refl
  holds_alike (suc more) [] [] is = refl
  holds_alike (suc more) [] (v ∷ b) is = absurd is
  holds_alike (suc more) (v ∷ a) [] is = absurd is
  holds_alike (suc more) (v ∷ a) (w ∷ b) is = holds_alike more a b is.1

  -- what was picked, and the others
  abbrev Picks : Option (Value × List Value) → Option (Value × List Value) → Type 0
  Picks None None = Unit {0}
  Picks None (Some b) = ⊥
  Picks (Some a) None = ⊥
  Picks (Some a) (Some b) = R.values a.0 b.0 × Lists R a.1 b.1

  under_alike : (v w : Value) (a b : Option (Value × List Value)) → R.values v w → Picks a b → Picks (under v a) (under w b)
  under_alike v w None None is so = tt
  under_alike v w None (Some b) is so = absurd so
  under_alike v w (Some a) None is so = absurd so
  under_alike v w (Some a) (Some b) is so = (so.0, (is, so.1))

  picked_alike : (place : ℕ) (a b : List Value) → Lists R a b → Picks (picked place a) (picked place b)
  picked_alike zero [] [] is = tt
  picked_alike (suc place) [] [] is = tt
  picked_alike place [] (w ∷ b) is = absurd is
  picked_alike zero (v ∷ a) [] is = absurd is
  picked_alike (suc place) (v ∷ a) [] is = absurd is
  picked_alike zero (v ∷ a) (w ∷ b) is = is
  picked_alike (suc place) (v ∷ a) (w ∷ b) is = under_alike v w (picked place a) (picked place b) is.0 (picked_alike place a b is.1)

  on_top_alike : (a b : List Value) (p q : Option (Value × List Value)) → Lists R a b → Picks p q → Lists R (on_top a p) (on_top b q)
  on_top_alike a b None None is so = is
  on_top_alike a b None (Some q) is so = absurd so
  on_top_alike a b (Some p) None is so = absurd so
  on_top_alike a b (Some p) (Some q) is so = so

  -- with the value of one place on top
  pub brought_alike : (place : ℕ) (a b : List Value) → Lists R a b → Lists R (brought place a) (brought place b)
  brought_alike zero a b is = is
  brought_alike (suc place) a b is = on_top_alike a b (picked place a) (picked place b) is (picked_alike place a b is)
