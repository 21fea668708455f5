use Rattle.hs_types.specs.TableLaws.{IsRight-with_enumeration, grows_enumeration}
use Rattle.hs_types.proofs.types.Types.declare_enumeration.Goals as goal

-- an enumeration without constants changes nothing
pub invariant_of-self-2 : goal.invariant_of-self-2
invariant_of-self-2 c = rw c.in_ok-push.ensures.items (IsRight-with_enumeration _ c.self.invariant)

-- nothing that was there changes
pub returns-clause-grows : goal.returns-clause-grows
returns-clause-grows c = rw (← c.self.view_is, c.in_ok-push.ensures.items) (grows_enumeration _)
