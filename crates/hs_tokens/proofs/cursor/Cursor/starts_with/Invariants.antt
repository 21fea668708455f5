use Rattle.std.proofs.Common.{◌≡◌, length, nat_eq}
use Rattle.std.specs.List.{starts_with}
use Rattle.hs_tokens.specs.Ahead.{bytes_ahead}
use Rattle.hs_tokens.proofs.cursor.Cursor.starts_with.Given as goal

abbrev pub invariant-bytes : goal.invariant-bytes
invariant-bytes l = starts_with nat_eq (bytes_ahead l.rest) l.wanted ≡ starts_with nat_eq (bytes_ahead l.initial.rest) l.initial.wanted

abbrev pub decreases-bytes : goal.decreases-bytes
decreases-bytes l = length l.wanted
