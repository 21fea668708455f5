-- Each chain has a fact with which its innermost call was entered.
--     entry_there                   of a chain
use Rattle.hs_chains.specs.Chains.{Chain, EndsIn, Spot, begins, enters, first_fact, goes, goes_over, leaves}
use Rattle.hs_chains.specs.Knowledge.{Knowledge}
use Rattle.hs_facts.specs.Effects.{WholeCode}
use Rattle.hs_flow.specs.Calls.{enter_of}
use Rattle.hs_flow.specs.Programs.{parameters_of}
use Rattle.hs_flow.specs.declared.fact.Fact.{Fact}
use Rattle.std.proofs.Common.{◌≡◌, ℕ, List, [], ◌∷◌, Some, sym, subst, refl}

module _ (whole : WholeCode) (known : Knowledge) where
  -- each call of the stack was entered with a fact, the innermost one is of f
  abbrev AreEntered : List Spot → ℕ → Type 0
  AreEntered [] f = Unit {0}
  AreEntered (c ∷ stack) f =
      ((entry : Fact) × (enter_of (parameters_of whole f) (known.at c.function c.at) c.fact ≡ Some entry)) × AreEntered stack c.function

  -- so it is in each chain
  entered : (n : ℕ) (x : Spot) (stack : List Spot) → Chain whole known n x stack → AreEntered stack x.function
  entered _ _ _ begins = tt
  entered _ _ _ (goes n x y stack chain step) = subst (AreEntered stack) (sym step.same) (entered n x stack chain)
  entered _ _ _ (goes_over n x y stack chain step) = subst (AreEntered stack) (sym step.same) (entered n x stack chain)
  entered _ _ _ (enters n x y stack chain step) = ((y.fact, step.has), entered n x stack chain)
  entered _ _ _ (leaves n c x y stack chain step) =
      let before = entered n x (c ∷ stack) chain in
      subst (AreEntered stack) (sym step.same) before.1

  -- the innermost one is entered with some fact
  pub entry_there : (n f at : ℕ) (fact : Fact) (stack : List Spot) → Chain whole known n (record { function = f; at = at; fact = fact }) stack
      → (entry : Fact) × EndsIn whole known n f at entry fact
  entry_there n f at fact [] chain = (first_fact, record { stack = []; chain = chain; entered = refl })
  entry_there n f at fact (c ∷ stack) chain =
      let before = entered n (record { function = f; at = at; fact = fact }) (c ∷ stack) chain in
      (before.0.0, record { stack = c ∷ stack; chain = chain; entered = before.0.1 })
