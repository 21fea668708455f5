use Rattle.std.proofs.Common.{◌≡◌, ◌+◌}
use Rattle.std.specs.List.{prefix_len}
use Rattle.hs_base.specs.Text.{is_word_byte}
use Rattle.hs_tokens.specs.Ahead.{bytes_ahead}
use Rattle.hs_tokens.proofs.forms.word_len.Given as goal

abbrev pub invariant-bytes : goal.invariant-bytes
invariant-bytes l = record {
  len : l.len + prefix_len is_word_byte (bytes_ahead l.rest) ≡ prefix_len is_word_byte (bytes_ahead l.initial.rest);
  left : l.len + l.rest.left ≡ l.initial.rest.left;
}

abbrev pub decreases-bytes : goal.decreases-bytes
decreases-bytes l = l.rest.left
