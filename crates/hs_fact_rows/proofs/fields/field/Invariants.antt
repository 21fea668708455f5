use Rattle.std.proofs.Common.{◌≡◌, ◌<◌, ◌≤◌, ◌+◌, ℕ, false}
use Rattle.hs_rows.specs.Sets.{has, bit_in}
use Rattle.hs_fact_rows.proofs.fields.field.Given as goal

-- so many names are read
abbrev pub invariant-bits : goal.invariant-bits
invariant-bits l = record {
  read : (j : ℕ) → j < l.i → bit_in l.word j ≡ has l.rows l.row (l.first + j);
  few : (j : ℕ) → l.i ≤ j → bit_in l.word j ≡ false;
}
