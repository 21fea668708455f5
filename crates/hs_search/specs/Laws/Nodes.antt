-- Nodes are told apart.
use Rattle.std.proofs.Common.{◌≡◌, ℕ, ◌==◌, Bool, true, false, ◌&&◌, ap, ◌∙◌, arith, inl, inr, ◌⊎◌, refl, sym, subst}
use Rattle.std.proofs.lemmas.Bool.Decides.{nat_tests}
use Rattle.hs_search.specs.declared.graph.Node.{Node}

abbrev pub same_node : Node → Node → Bool
same_node a b = (a.at == b.at) && ((a.fact == b.fact) && (a.entered == b.entered))

-- nodes of the same numbers are one
pub node_is : (a b : Node) → a.at ≡ b.at → a.fact ≡ b.fact → a.entered ≡ b.entered → a ≡ b
node_is a b at fact entered =
    let first : a ≡ (record { at = b.at; fact = a.fact; entered = a.entered }) = ap (λ (n : ℕ). the n a.fact a.entered) at in
    let second : (record { at = b.at; fact = a.fact; entered = a.entered }) ≡ (record { at = b.at; fact = b.fact; entered = a.entered }) =
    ap (λ (n : ℕ). the b.at n a.entered) fact in
    let third : (record { at = b.at; fact = b.fact; entered = a.entered }) ≡ b = ap (λ (n : ℕ). the b.at b.fact n) entered in
    first ∙ second ∙ third
  where
    the : ℕ → ℕ → ℕ → Node
    the at fact entered = record { at = at; fact = fact; entered = entered }

pub same_is : (a b : Node) → same_node a b ≡ true → a ≡ b
same_is a b same = node_is a b (grind (arith, nat_tests)) (grind (arith, nat_tests)) (grind (arith, nat_tests))

pub itself : (a : Node) → same_node a a ≡ true
itself a = grind (arith, nat_tests)

-- two nodes are one or not
pub node_or : (a b : Node) → (a ≡ b) ⊎ (¬ (a ≡ b))
node_or a b = step (same_node a b) refl
  where
    step : (test : Bool) → same_node a b ≡ test → (a ≡ b) ⊎ (¬ (a ≡ b))
    step true is = inl (same_is a b is)
    step false is = inr (λ same. apart (subst (λ n. same_node a n ≡ false) (sym same) is))
      where
        apart : same_node a a ≡ false → ⊥
        apart wrong = let it = itself a in cc
