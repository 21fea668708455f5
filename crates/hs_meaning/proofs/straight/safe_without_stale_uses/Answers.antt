use Rattle.hs_meaning.proofs.Runs.Sound.{IsSafe-from_no_stale_uses}
use Rattle.hs_meaning.proofs.straight.safe_without_stale_uses.Goals as goal

-- both runs go on alike, step by step
pub returns : goal.returns
returns c = IsSafe-from_no_stale_uses
