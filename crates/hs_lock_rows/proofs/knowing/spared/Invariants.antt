use Rattle.std.proofs.Common.{◌≡◌, ◌<◌, ◌≤◌, ℕ, true, not}
use Rattle.hs_fact_rows.specs.Given.{gone}
use Rattle.hs_rows.specs.Sets.{bit_in}
use Rattle.hs_lock_rows.proofs.knowing.spared.Given as goal

-- the names so far
abbrev pub invariant-names : goal.invariant-names
invariant-names g l = record {
  done : (i : ℕ) → i < l.name → bit_in l.word i ≡ not (gone (g.C.Callees.assigned l.callees l.function) l.list i);
  left : (i : ℕ) → l.name ≤ i → i < 64 → bit_in l.word i ≡ true;
}
