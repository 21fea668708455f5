use Rattle.std.proofs.Common.{◌≡◌, ◌+◌}
use Rattle.hs_tokens.specs.Forms.{number_len, number_len_after}
use Rattle.hs_tokens.specs.Ahead.{bytes_ahead}
use Rattle.hs_tokens.proofs.forms.number_len.Given as goal

abbrev pub invariant-bytes : goal.invariant-bytes
invariant-bytes l = record {
  len : l.len + number_len_after l.exponent (bytes_ahead l.rest) ≡ number_len (bytes_ahead l.initial.rest);
  left : l.len + l.rest.left ≡ l.initial.rest.left;
}

abbrev pub decreases-bytes : goal.decreases-bytes
decreases-bytes l = l.rest.left
