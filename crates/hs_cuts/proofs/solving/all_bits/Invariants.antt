use Rattle.std.proofs.Common.{◌≡◌, ◌≤◌, ◌<◌, ℕ, suc, true, false}
use Rattle.hs_rows.specs.Sets.{has, width}
use Rattle.hs_cuts.proofs.solving.all_bits.Given as goal

-- so many numbers of the last row are there
abbrev pub invariant-bits : goal.invariant-bits
invariant-bits l = record {
  done : (b : ℕ) → b < l.bit → has l.rows l.ops b ≡ true;
  none : (r b : ℕ) → r < l.ops → b < l.count → has l.rows r b ≡ false;
  count : l.rows.count ≡ suc l.ops;
  room : l.count ≤ width l.rows;
}

-- so many rows are equal to it
abbrev pub invariant-rows : goal.invariant-rows
invariant-rows l = record {
  full : (b : ℕ) → b < l.count → has l.rows l.ops b ≡ true;
  done : (r b : ℕ) → 0 < r → r < l.row → b < l.count → has l.rows r b ≡ true;
  none : (b : ℕ) → 0 < l.ops → b < l.count → has l.rows 0 b ≡ false;
  count : l.rows.count ≡ suc l.ops;
  room : l.count ≤ width l.rows;
}
