use Rattle.hs_restores.specs.Laws.Numbering.{number_listed}
use Rattle.hs_restores.proofs.numbers.number_marked.Goals as goal

-- the numbers are those of the list
pub invariant_of-result : goal.invariant_of-result
invariant_of-result c v =
    rw (c.in_ok-list.ensures.numbers, c.in_ok-list-2.ensures.numbers, c.in_ok-list-2.ensures.list, c.in_ok-list.ensures.list, c.new.ensures.items)
    (number_listed c.args.locals.now c.args.globals.now v)
