use Rattle.std.proofs.Common.{◌≡◌, ◌+◌, length}
use Rattle.std.specs.List.{prefix_len}
use Rattle.hs_directives.specs.Ahead.{is_text}
use Rattle.hs_directives.proofs.pieces.run_len.Given as goal

-- the tokens so far, and those that follow
abbrev pub invariant-tokens : goal.invariant-tokens
invariant-tokens l = record {
  same : l.len + prefix_len is_text l.rest ≡ prefix_len is_text l.tokens;
  within : l.len + length l.rest ≡ length l.tokens;
}

abbrev pub decreases-tokens : goal.decreases-tokens
decreases-tokens l = length l.rest
