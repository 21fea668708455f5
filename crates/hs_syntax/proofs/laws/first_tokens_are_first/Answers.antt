use Rattle.hs_syntax.proofs.Firsts.{first_tokens}
use Rattle.hs_syntax.proofs.laws.first_tokens_are_first.Goals as goal

pub returns : goal.returns
returns c = first_tokens
