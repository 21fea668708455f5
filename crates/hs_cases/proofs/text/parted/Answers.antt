use Rattle.std.proofs.Common.{refl, inr, None}
use Rattle.std.proofs.lemmas.Str.Pattern.{split_text_parts}
use Rattle.hs_cases.proofs.text.parted.Goals as goal

pub returns-in-None : goal.returns-in-None
returns-in-None c = inr (split_text_parts c.args.mark.now c.args.text.now None c.in-None.ensures.cases, refl, refl)
