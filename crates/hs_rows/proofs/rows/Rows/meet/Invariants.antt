use Rattle.std.proofs.Common.{◌≡◌}
use Rattle.hs_rows.proofs.Lines.{Written, met, Tells, SameWords}
use Rattle.hs_rows.proofs.rows.Rows.meet.Given as goal

-- so many words are met
abbrev pub invariant-words : goal.invariant-words
invariant-words l = record {
  written : Written l.initial.self-inside.words.items l.self-inside.words.items l.self-inside.per l.to l.place
      (met l.initial.self-inside.words.items l.self-inside.per l.to l.from);
  tells : Tells l.changed (SameWords l.initial.self-inside.words.items l.self-inside.per l.to l.from l.place);
  per : l.self-inside.per ≡ l.initial.self-inside.per;
  rows : l.self-inside.rows ≡ l.initial.self-inside.rows;
}
