use Rattle.std.proofs.Common.{◌≡◌, drop}
use Rattle.hs_typer.specs.Origins.{enumerators_agree}
use Rattle.hs_typer.proofs.agreement.enumerators_agree.Given as goal

-- the constants that are left decide
abbrev pub invariant-constants : goal.invariant-constants
invariant-constants l = enumerators_agree (drop l.it-index l.a) l.rest ≡ enumerators_agree l.a l.fn.b
