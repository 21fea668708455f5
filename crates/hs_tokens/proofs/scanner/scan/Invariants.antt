use Rattle.std.proofs.Common.{◌≡◌, ◌≤◌, ◌<◌, ◌^◌, vec_len, length, drop}
use Rattle.hs_tokens.specs.Scan.{scanned}
use Rattle.hs_tokens.specs.Ahead.{ahead, bytes_ahead}
use Rattle.hs_tokens.proofs.Parts.{to_come, joined}
use Rattle.hs_tokens.proofs.scanner.scan.Given as goal

abbrev pub invariant-parts : goal.invariant-parts
invariant-parts l = record {
  same : joined l.tokens.items (to_come (ahead l.rest) l.first l.spaced) ≡ scanned l.file l.text;
  count : vec_len l.tokens ≤ l.room;
  place : bytes_ahead l.rest ≡ drop l.start l.bytes.value;
  short : length l.bytes.value < 2 ^ 63;
}

abbrev pub decreases-parts : goal.decreases-parts
decreases-parts l = l.rest.left
