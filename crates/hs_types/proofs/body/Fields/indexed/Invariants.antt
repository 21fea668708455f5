use Rattle.std.proofs.Common.{drop}
use Rattle.hs_types.specs.Members.{Completes}
use Rattle.hs_types.proofs.body.Fields.indexed.Given as goal

-- the index of the fields so far becomes that of all
abbrev pub invariant-fields : goal.invariant-fields
invariant-fields l = Completes l.index l.place (drop l.field-index l.field-items) l.field-items
