use Rattle.std.proofs.Common.{◌≡◌, ◌+◌, ◌*◌, get_or}
use Rattle.hs_rows.proofs.Lines.{Written}
use Rattle.hs_rows.proofs.rows.Rows.copy_row.Given as goal

-- so many words are copied
abbrev pub invariant-words : goal.invariant-words
invariant-words l = record {
  written : Written l.initial.self-inside.words.items l.self-inside.words.items l.self-inside.per l.to l.place
      (λ j. get_or l.initial.self-inside.words.items (l.from * l.self-inside.per + j) 0);
  per : l.self-inside.per ≡ l.initial.self-inside.per;
  rows : l.self-inside.rows ≡ l.initial.self-inside.rows;
}
