use Rattle.std.proofs.Common.{◌≡◌, ◌++◌}
use Rattle.hs_tokens.specs.Ahead.{bytes_ahead}
use Rattle.hs_tokens.proofs.cursor.Cursor.text.Given as goal

abbrev pub invariant-bytes : goal.invariant-bytes
invariant-bytes l = l.text.items ++ bytes_ahead l.rest ≡ bytes_ahead l.initial.rest

abbrev pub decreases-bytes : goal.decreases-bytes
decreases-bytes l = l.rest.left
