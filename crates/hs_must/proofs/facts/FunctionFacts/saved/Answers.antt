use Rattle.std.proofs.Common.{arith}
use Rattle.hs_fact_rows.specs.Laws.Numbers.{index_least}
use Rattle.hs_must.proofs.facts.FunctionFacts.saved.Goals as goal

-- a slot that is not listed has the number after them
pub saved_in-requires-clause-there : goal.saved_in-requires-clause-there
saved_in-requires-clause-there c =
    let found = c.find.ensures in
    let least = index_least c.self.inside.slots c.args.slot in
    let listed = c.self.invariant.3 in
    omega (arith, found, least, listed)
