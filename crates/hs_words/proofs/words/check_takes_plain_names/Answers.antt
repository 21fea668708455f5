use Rattle.hs_words.proofs.Plain.{takes_plain}
use Rattle.hs_words.proofs.words.check_takes_plain_names.Goals as goal

pub returns : goal.returns
returns c = takes_plain
