use Rattle.hs_plain.proofs.Filling.{later_words_slice}
use Rattle.hs_plain.proofs.words.later.Goals as goal

-- from there on, or from the end
pub returns : goal.returns
returns c = rw c.min.ensures (later_words_slice c.args.count c.args.words.now)
