use Rattle.std.proofs.Common.{◌≡◌, ℕ, ◌+◌, ◌<◌, Bool, true, false, List, get_or, nat_lt, refl, arith, rules}
use Rattle.std.specs.Prelude.{IsTrue}
use Rattle.std.specs.List.{IsAllAdjacentAnswer}
use Rattle.std.specs.List.Sorted.{IsStrictlyIncreasing}
use Rattle.std.proofs.lemmas.Bool.Decides.{nat_tests}
use Rattle.std.proofs.lemmas.List.Sorted.{answers_always}
use Rattle.hs_cert.proofs.reader.ascend.Goals as goal

-- what the test of each number and the next says
told : (numbers : List ℕ) (is : Bool) → IsAllAdjacentAnswer (λ one next b. b ≡ nat_lt one next) numbers is
    → (IsTrue is → IsStrictlyIncreasing numbers) × (IsStrictlyIncreasing numbers → IsTrue is)
told numbers true answer = (
  λ _ k below. let here : true ≡ nat_lt (get_or numbers k 0) (get_or numbers (k + 1) 0) = answer k 0 below in grind (arith, nat_tests),
  λ _. refl,
)
told numbers false answer = (
  λ passed. absurd cc,
  λ rises.
      let here : false ≡ nat_lt (get_or numbers answer.0 0) (get_or numbers (answer.0 + 1) 0) = answer.2 0 in
      let less : get_or numbers answer.0 0 < get_or numbers (answer.0 + 1) 0 = rises answer.0 answer.1 in
      absurd (grind (arith, nat_tests)),
)

pub returns : goal.returns
returns c = told c.args.numbers.now c.is_sorted_by.result
    (c.is_sorted_by.ensures.cases nat_lt (answers_always _ _ _ (λ f a r f' called. search (rules, called))))
