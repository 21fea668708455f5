use Rattle.std.proofs.Common.{add-one}
use Rattle.hs_lock_rows.specs.Knowing.{new_at}
use Rattle.hs_lock_rows.proofs.coming.new_comes.Goals as goal

-- the value of the base, or the one above
pub returns-in-Bring : goal.returns-in-Bring
returns-in-Bring c names slots assigned facts shows i l =
    rw c.in-Bring.is
    (c.brought.ensures (λ from. new_at c.args.point.plan names slots assigned c.args.point.low.now c.args.point.at facts c.in-Bring.depth from i) i
    (c.new-below.ensures facts shows i l) (rw add-one at (c.new-above.ensures facts shows i l)))
