use Rattle.std.proofs.Common.{◌+◌, ◌++◌, ◌∙◌, ap, drop, map}
use Rattle.hs_taint.specs.Points.{owned_by}
use Rattle.hs_taint.proofs.Owners.{owner_put}
use Rattle.hs_taint.proofs.operations.with_owners.Goals as goal

-- one operation is done
pub ops-preserved : goal.ops-preserved
ops-preserved c =
    ap (λ items. items ++ map (owned_by c.args.function) (drop (c.ops._its-index + 1) c.args.ops.now)) c.in_ok-push.ensures.items
    ∙ (owner_put c.ops.owners.items c.args.function c.args.ops.now c.ops._its-index c.ops-test.true ∙ c.ops.invariant)
