use Rattle.hs_command.proofs.reading.refused.Goals as goal

-- a unit that is not in the grammar
pub returns-in-Parse : goal.returns-in-Parse
returns-in-Parse c = rw c.in-Parse.is c.unparsed.ensures

-- units that typing refuses
pub returns-in-Typing : goal.returns-in-Typing
returns-in-Typing c = rw c.in-Typing.is c.untyped.ensures
