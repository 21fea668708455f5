use Rattle.std.proofs.Common.{rules}
use Rattle.hs_syntax.specs.StatementLaws.{initialisers_seen}
use Rattle.hs_initialisers.proofs.objects.initialised.Goals as goal

-- the initialisers of a list in braces are the list
pub returns-in-List : goal.returns-in-List
returns-in-List c = rw (c.in-List.is, initialisers_seen c.in-List.values, ← c.deref.ensures.value) (search rules)
