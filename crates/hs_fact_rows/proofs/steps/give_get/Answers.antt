use Rattle.hs_fact_rows.proofs.Making.{then_placed}
use Rattle.hs_fact_rows.specs.Cells.{saved_in}
use Rattle.hs_fact_rows.specs.Given.{popped, one_name}
use Rattle.hs_rows.specs.Sets.{bit_in}
use Rattle.std.proofs.Common.{arith}
use Rattle.hs_fact_rows.proofs.steps.give_get.Goals as goal

pub returns : goal.returns
returns c names slots =
    then_placed c.args.way.plan c.args.way.to c.args.way.from c.args.to (λ facts cell. popped c.args.to cell (facts cell)) (λ facts. one_name c.args.name)
    (λ facts i. facts (saved_in c.args.slot i)) (bit_in c.one.result) (bit_in c.saved_in-saved.result) c.args.rows.now c.start.new.rows c.put_place.new.rows
    c.start.ensures c.put_place.ensures (λ i h. c.one.ensures i (omega (arith, c.requires.fit.names, h))) c.saved_in-saved.ensures.names
