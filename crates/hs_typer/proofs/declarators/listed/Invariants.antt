use Rattle.std.proofs.Common.{◌≡◌}
use Rattle.hs_typer.specs.Declarators.{listed_onto, listed}
use Rattle.hs_typer.proofs.declarators.listed.Given as goal

-- the ids that are left come onto the list so far
abbrev pub invariant-ids : goal.invariant-ids
invariant-ids l = listed_onto l.id-iterator.iter.rest.now (l.list, l.types) ≡ listed l.ids l.fn.types
