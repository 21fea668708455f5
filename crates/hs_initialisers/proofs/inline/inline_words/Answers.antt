use Rattle.std.proofs.Common.{rules}
use Rattle.hs_syntax.specs.StatementLaws.{initialisers_seen}
use Rattle.hs_initialisers.proofs.inline.inline_words.Goals as goal

-- the words of a list are the list
pub returns-in-List : goal.returns-in-List
returns-in-List c = rw (c.in-List.is, initialisers_seen c.in-List.values, ← c.deref.ensures.value) (search rules)
