use Rattle.hs_types.specs.TableLaws.{IsRight-with_row, grows_row}
use Rattle.hs_types.proofs.types.Types.add.Goals as goal

-- the table with the type in it is right if the one before was
pub invariant_of-self-2 : goal.invariant_of-self-2
invariant_of-self-2 c = rw c.in_ok-number.ensures.list (IsRight-with_row _ c.args.row (rw c.self.view_is c.requires) c.self.invariant)

-- nothing that was there changes
pub returns-clause-grows : goal.returns-clause-grows
returns-clause-grows c = rw (← c.self.view_is, c.in_ok-number.ensures.list) (grows_row c.args.row _)
