use Rattle.std.proofs.Common.{false}
use Rattle.hs_fact_rows.specs.Fields.{Writes}
use Rattle.hs_fact_rows.proofs.fields.clear.Given as goal

-- so many numbers are written
abbrev pub invariant-bits : goal.invariant-bits
invariant-bits l = Writes l.row l.first l.i (λ j. false) l.initial.rows l.rows
