use Rattle.std.proofs.Common.{◌≡◌, ◌≤◌, drop}
use Rattle.hs_tokens.specs.Ahead.{ahead}
use Rattle.hs_tokens.proofs.cursor.Cursor.behind.Given as goal

abbrev pub invariant-bytes : goal.invariant-bytes
invariant-bytes l = record {
  same : drop l.skip (ahead l.rest) ≡ drop l.initial.skip (ahead l.initial.rest);
  left : l.rest.left ≤ l.initial.rest.left;
}

abbrev pub decreases-bytes : goal.decreases-bytes
decreases-bytes l = l.skip
