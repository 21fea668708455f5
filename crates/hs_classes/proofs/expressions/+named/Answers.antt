use Rattle.std.proofs.Common.{rules}
use Rattle.hs_tree.specs.RowLaws.{rights_seen}
use Rattle.hs_classes.proofs.Equations.{value_comma, value_call, value_call_routine}
use Rattle.hs_classes.proofs.expressions.+named.Goals as goal

-- the left operands of a comma are the list
pub value-returns-in_ok-values-in-Comma : goal.value-returns-in_ok-values-in-Comma
value-returns-in_ok-values-in-Comma t c =
    rw (c.in-Comma.is, rights_seen c.in-Comma.lefts, ← c.deref-in-Comma.ensures.value) (search (rules, value_comma))

-- the arguments of a call are
pub value-returns-in-Call : goal.value-returns-in-Call
value-returns-in-Call t c =
    rw (c.in-Call.is, rights_seen c.in-Call.arguments, ← c.deref-in-Call.ensures.value) (search (rules, value_call))

pub value-returns-in-CallRoutine : goal.value-returns-in-CallRoutine
value-returns-in-CallRoutine t c =
    rw (c.in-CallRoutine.is, rights_seen c.in-CallRoutine.arguments, ← c.deref-in-CallRoutine.ensures.value) (search (rules, value_call_routine))
