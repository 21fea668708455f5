use Rattle.std.proofs.Common.{◌≡◌, drop}
use Rattle.hs_typer.specs.Origins.{fields_agree}
use Rattle.hs_typer.proofs.agreement.fields_agree.Given as goal

-- the members that are left decide
abbrev pub invariant-fields : goal.invariant-fields
invariant-fields l = fields_agree l.types l.origins (drop l.field-index l.a) l.rest ≡ fields_agree l.types l.origins l.a l.fn.b
