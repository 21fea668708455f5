use Rattle.std.proofs.Common.{rules}
use Rattle.std.proofs.lemmas.Int.{to_z-of_z}
use Rattle.hs_objects.proofs.Counting.{counted_same}
use Rattle.hs_objects.proofs.Storing.{stores}
use Rattle.hs_objects.proofs.objects.Objects.store.Goals as goal

-- the object is as large as before
pub invariant_of-self-2 : goal.invariant_of-self-2
invariant_of-self-2 c =
    counted_same _ _ _ _ _ _ _ c.self.invariant (search rules) c.in-Some.ensures.value c.store.ensures.as_large c.store.ensures.as_long

-- and stores the cells, or stops
pub returns : goal.returns
returns c =
    let stored = stores c.self.inside.items.items c.args.place _ _ _ _ _ (search rules) c.in-Some.ensures.value c.store.ensures.stops
    c.store.ensures.stored c.store.ensures.kept
    in rw (← c.self.view_is) (simp (to_z-of_z, c.ranges.at) at stored)
