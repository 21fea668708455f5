use Rattle.hs_types.specs.TableLaws.{IsRight-with_struct, grows_struct}
use Rattle.hs_types.proofs.types.Types.declare_struct.Goals as goal

-- a struct without a body changes nothing
pub invariant_of-self-2 : goal.invariant_of-self-2
invariant_of-self-2 c = rw c.in_ok-push.ensures.items (IsRight-with_struct _ c.self.invariant)

-- nothing that was there changes
pub returns-clause-grows : goal.returns-clause-grows
returns-clause-grows c = rw (← c.self.view_is, c.in_ok-push.ensures.items) (grows_struct _)
