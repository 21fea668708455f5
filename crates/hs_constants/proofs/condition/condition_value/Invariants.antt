use Rattle.std.proofs.Common.{◌≡◌, [], reverse, drop, Some}
use Rattle.hs_constants.specs.Reading.{before, seen, steps, tokens_of}
use Rattle.hs_constants.proofs.condition.condition_value.Given as goal

-- the tokens that are left lead to where all lead
abbrev pub invariant-tokens : goal.invariant-tokens
invariant-tokens l =
    steps (seen (reverse l.waiting.items) (Some l.place)) (tokens_of (drop l.source-index l.tokens))
    ≡ steps (Some (before [])) (tokens_of l.tokens)
