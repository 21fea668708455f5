-- The count is that of the rule.
use Rattle.hs_meaning.specs.Straight.StaleUses.{uses}
use Rattle.hs_checker.proofs.Count.{IsCountOf-stale_uses}
use Rattle.hs_checker.proofs.straight.stale_uses.check.Goals as goal

pub returns : goal.returns
returns c = rw (c.count_stale_uses.ensures, c.items.ensures) (IsCountOf-stale_uses (uses c.args.straight.now.steps))
