use Rattle.hs_fact_rows.specs.Fields.{Writes}
use Rattle.hs_rows.specs.Sets.{bit_in}
use Rattle.hs_fact_rows.proofs.fields.write.Given as goal

-- so many numbers are written
abbrev pub invariant-bits : goal.invariant-bits
invariant-bits l = Writes l.row l.first l.i (bit_in l.word) l.initial.rows l.rows
