-- The reading is a table that reads by the rules.
use Rattle.std.proofs.Common.{◌≡◌}
use Rattle.hs_expr_parser.specs.Reading.{Known, rule, reading}
use Rattle.hs_expr_parser.specs.Laws.Along.{Whole}
use Rattle.hs_expr_parser.specs.Laws.Plain.{reads_by_rules}
use Rattle.hs_expr_parser.specs.Laws.Recursions as recursions

pub whole : (known : Known) → Whole known (reading known)
whole known = record { plain = (reads_by_rules known).plain; short = (reads_by_rules known).short }

-- one round of it
pub round : (known : Known) → reading known ≡ rule known (reading known)
round known = recursions.round (reads_by_rules known)
