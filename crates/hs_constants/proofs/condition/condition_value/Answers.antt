use Rattle.std.proofs.Common.{◌≡◌, reverse, None, arith, ap, sym, ◌∙◌}
use Rattle.std.proofs.lemmas.Grind.{common_steps}
use Rattle.hs_constants.specs.Reading.{seen, ended_at, tokens_of, condition_value}
use Rattle.hs_constants.proofs.Agree.{found_of, only_of, none_of, wrong_token, at_end}
use Rattle.hs_constants.proofs.condition.condition_value.Goals as goal

-- the next token is wrong
pub returns-in_default : goal.returns-in_default
returns-in_default c =
    let read : None ≡ condition_value (tokens_of c.args.tokens.now) =
    wrong_token c.args.tokens.now c.tokens.source-index c.tokens.place (reverse c.tokens.waiting.items) c.tokens.invariant
    c.source-item.result c.tokens-test.true c.source-item.is (sym c.in_ok-next.ensures ∙ ap (seen (reverse c.step.new.waiting.items)) c.in_default.is) in
    record { read = read; found = tt; only = tt; none = none_of (tokens_of c.args.tokens.now) None read }

-- the end stands where an operand is expected
pub returns-in_default-place-clause-none : goal.returns-in_default-place-clause-none
returns-in_default-place-clause-none c =
    none_of (tokens_of c.args.tokens.now) None (ap (λ place. ended_at place (reverse c.tokens.waiting.items)) (sym c.in_default-place.is)
    ∙ at_end c.args.tokens.now c.tokens.source-index c.tokens.place (reverse c.tokens.waiting.items) c.tokens.invariant c.tokens-test.false)

-- the end follows an operand
pub returns : goal.returns
returns c =
    let read : c.then_some.result ≡ condition_value (tokens_of c.args.tokens.now) = grind (arith, common_steps) in
    record {
      read = read;
      found = found_of (tokens_of c.args.tokens.now) c.then_some.result read;
      only = only_of (tokens_of c.args.tokens.now) c.then_some.result read;
      none = none_of (tokens_of c.args.tokens.now) c.then_some.result read;
    }
