-- The last byte is LF, and what is before it is compared.
use Rattle.hs_cert.proofs.Fronts.{front_is}
use Rattle.hs_cert.proofs.reader.is_front.Goals as goal

pub returns-then-last-eq10 : goal.returns-then-last-eq10
returns-then-last-eq10 c =
    front_is c.args.text.now c.in-Some.front.now c.args.printed.now c.in-Some.last.now c.eq.result c.in-Some.ensures.cases.0
    c.if-last-eq10.true c.eq.ensures
