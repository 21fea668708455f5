use Rattle.std.proofs.Common.{◌≡◌, ◌+◌}
use Rattle.hs_tokens.specs.Literals.{content_len, content_len_after}
use Rattle.hs_tokens.specs.Ahead.{bytes_ahead}
use Rattle.hs_tokens.proofs.Measures.{further}
use Rattle.hs_tokens.proofs.literals.content_len.Given as goal

abbrev pub invariant-bytes : goal.invariant-bytes
invariant-bytes l = record {
  len : further l.len (content_len_after l.escaped l.quote (bytes_ahead l.rest)) ≡ content_len l.quote (bytes_ahead l.initial.rest);
  left : l.len + l.rest.left ≡ l.initial.rest.left;
}

abbrev pub decreases-bytes : goal.decreases-bytes
decreases-bytes l = l.rest.left
