use Rattle.hs_table_text.specs.Texts.{reading}
use Rattle.hs_settings.proofs.Texts.{no_table}
use Rattle.hs_settings.proofs.parts.table_in.Goals as goal

pub returns-in-Err : goal.returns-in-Err
returns-in-Err c = rw c.refused.ensures (no_table (reading c.args.text.now) c.in-Err.error c.in-Err.ensures)
