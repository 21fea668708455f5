use Rattle.std.proofs.Common.{◌≡◌, ◌+◌, ℕ, take, Contains, List, subst, get_or}
use Rattle.hs_effects.proofs.Members.{take_all}
use Rattle.std.proofs.lemmas.List.{take_more}
use Rattle.std.proofs.lemmas.List.Elements.{Contains-get_or}
use Rattle.hs_effects.proofs.Growing.{Grows-more}
use Rattle.hs_effects.specs.Working.{Grows}
use Rattle.hs_effects.proofs.work.put_all.Goals as goal

-- it is one of the functions
pub put-requires-clause-function_in_range : goal.put-requires-clause-function_in_range
put-requires-clause-function_in_range c =
    rw c.functions.invariant.size.count
    (c.requires.functions_in_range (get_or c.args.functions.now c.functions.function-index 0)
    (Contains-get_or c.args.functions.now c.functions.function-index 0 c.functions-test.true))

-- one function more has the number
pub functions-preserved : goal.functions-preserved
functions-preserved c =
    Grows-more (take c.functions.function-index c.args.functions.now) (take (c.functions.function-index + 1) c.args.functions.now)
    (get_or c.args.functions.now c.functions.function-index 0) c.args.number
    (take_more c.args.functions.now c.functions.function-index 0 c.functions-test.true)
    c.args.work.now c.functions.work c.put.new.work c.functions.invariant c.in_ok-put.ensures.grows

-- all have it
pub returns : goal.returns
returns c =
    let all : take c.functions.function-index c.args.functions.now ≡ c.args.functions.now =
    take_all c.args.functions.now c.functions.function-index c.functions-test.false in
    record {
      grows =
          subst (λ (xs : List ℕ). Grows (λ f b. Contains xs f × (b ≡ c.args.number)) c.args.work.now c.functions.work) all c.functions.invariant;
    }
