use Rattle.hs_types.specs.TableLaws.{IsRight-with_list, grows_list}
use Rattle.hs_types.proofs.types.Types.add_parameters.Goals as goal

-- the table with the list in it is right if the one before was
pub invariant_of-self-2 : goal.invariant_of-self-2
invariant_of-self-2 c = rw c.in_ok-number.ensures.list (IsRight-with_list _ c.args.list c.self.invariant)

-- nothing that was there changes
pub returns-clause-grows : goal.returns-clause-grows
returns-clause-grows c = rw (← c.self.view_is, c.in_ok-number.ensures.list) (grows_list c.args.list _)
