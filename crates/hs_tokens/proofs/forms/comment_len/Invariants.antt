use Rattle.std.proofs.Common.{◌≡◌, ◌+◌, false}
use Rattle.hs_tokens.specs.Forms.{comment_len_after}
use Rattle.hs_tokens.specs.Ahead.{bytes_ahead}
use Rattle.hs_tokens.proofs.Measures.{further}
use Rattle.hs_tokens.proofs.forms.comment_len.Given as goal

abbrev pub invariant-bytes : goal.invariant-bytes
invariant-bytes l = record {
  len : further l.len (comment_len_after l.star (bytes_ahead l.rest)) ≡ comment_len_after false (bytes_ahead l.initial.rest);
  left : l.len + l.rest.left ≡ l.initial.rest.left;
}

abbrev pub decreases-bytes : goal.decreases-bytes
decreases-bytes l = l.rest.left
