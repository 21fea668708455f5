use Rattle.std.proofs.Common.{◌≡◌, take}
use Rattle.hs_directives.specs.Conditions.{tokens_of}
use Rattle.hs_directives.proofs.include.tokens_of.Given as goal

-- the tokens so far
abbrev pub invariant-sources : goal.invariant-sources
invariant-sources l = l.tokens.items ≡ tokens_of (take l.source-index l.source-items)
