use Rattle.hs_settings.proofs.Texts.{few_lines}
use Rattle.hs_settings.proofs.parts.script_in.Goals as goal

pub read_script-requires : goal.read_script-requires
read_script-requires c = record { lines = few_lines c.args.text.now c.requires.few }
