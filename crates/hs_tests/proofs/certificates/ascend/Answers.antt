use Rattle.std.proofs.Common.{◌≡◌, ℕ, ◌+◌, ◌<◌, Bool, true, false, List, get_or, nat_lt, arith, rules}
use Rattle.std.specs.Prelude.{IsTrue}
use Rattle.std.specs.List.{IsAllAdjacentAnswer}
use Rattle.std.specs.List.Sorted.{IsStrictlyIncreasing}
use Rattle.std.proofs.lemmas.Bool.Decides.{nat_tests}
use Rattle.std.proofs.lemmas.List.Sorted.{answers_always}
use Rattle.hs_tests.proofs.certificates.ascend.Goals as goal

-- if each number is below the next, they ascend
rises : (numbers : List ℕ) (is : Bool) → IsAllAdjacentAnswer (λ one next b. b ≡ nat_lt one next) numbers is → IsTrue is → IsStrictlyIncreasing numbers
rises numbers true answer passed k below =
    let here : true ≡ nat_lt (get_or numbers k 0) (get_or numbers (k + 1) 0) = answer k 0 below in grind (arith, nat_tests)
rises numbers false answer passed k below = absurd cc

pub returns : goal.returns
returns c = rises c.args.numbers.now c.is_sorted_by.result
    (c.is_sorted_by.ensures.cases nat_lt (answers_always _ _ _ (λ f a r f' called. search (rules, called))))
