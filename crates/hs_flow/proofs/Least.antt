-- The least name, one name after the other.
--     least_here       the name of that number passes the test
--     least_on         it does not
use Rattle.std.proofs.Common.{◌≡◌, ◌<◌, ℕ, suc, ◌+◌, Bool, true, false, List, length, drop, if◌then◌else◌, Some, ap, sym, ◌∙◌, arith}
use Rattle.std.proofs.lemmas.List.{drop_more}
use Rattle.hs_flow.specs.Given.{least_from}
use Rattle.hs_tree.specs.declared.head.Variable.{Variable}
use Rattle.hs_tree.specs.declared.head.Variable.TheVariants as name

module _ (names : List Variable) (test : ℕ → Bool) (h : ℕ) (there : h < length names) where
  first : least_from h (drop h names) test ≡ (if test h then Some h else least_from (suc h) (drop (h + 1) names) test)
  first = ap (λ its. least_from h its test) (drop_more names h (name.Global 0) there)

  -- the name of that number is the least, if it passes
  pub least_here : test h ≡ true → Some h ≡ least_from h (drop h names) test
  least_here is = sym (first ∙ ap (λ b. if b then Some h else least_from (suc h) (drop (h + 1) names) test) is)

  -- and else the least is among those after it
  pub least_on : test h ≡ false → least_from (h + 1) (drop (h + 1) names) test ≡ least_from h (drop h names) test
  least_on is =
      let number : suc h ≡ h + 1 = omega (arith) in
      sym
      (first ∙ ap (λ b. if b then Some h else least_from (suc h) (drop (h + 1) names) test) is
      ∙ ap (λ n. least_from n (drop (h + 1) names) test) number)
