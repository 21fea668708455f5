use Rattle.std.proofs.Common.{refl}
use Rattle.hs_aggregates.specs.Aggregates.{most_types}
use Rattle.hs_aggregates.proofs.walking.most_types.Goals as goal

-- the number itself
pub returns : goal.returns
unfolding most_types
returns c = refl
