use Rattle.std.proofs.Common.{◌≡◌, ◌≤◌, ◌+◌}
use Rattle.hs_tokens.specs.Literals.{hex_escape}
use Rattle.hs_tokens.specs.Ahead.{bytes_ahead}
use Rattle.hs_tokens.proofs.Escapes.{hex_from}
use Rattle.hs_tokens.proofs.literals.hex_escape.Given as goal

abbrev pub invariant-digits : goal.invariant-digits
invariant-digits l = record {
  len : hex_from l.len l.value (bytes_ahead l.rest) ≡ hex_escape (bytes_ahead l.initial.rest);
  value : l.value ≤ 255;
  left : l.len + l.rest.left ≡ l.initial.rest.left;
}

abbrev pub decreases-digits : goal.decreases-digits
decreases-digits l = l.rest.left
