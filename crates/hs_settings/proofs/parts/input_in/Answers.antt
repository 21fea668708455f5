use Rattle.hs_settings.proofs.Texts.{few_lines}
use Rattle.hs_settings.proofs.parts.input_in.Goals as goal

pub read_input-requires : goal.read_input-requires
read_input-requires c = record { lines = few_lines c.args.text.now c.requires.few }
