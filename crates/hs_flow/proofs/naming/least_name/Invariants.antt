use Rattle.std.proofs.Common.{◌≡◌, drop}
use Rattle.hs_flow.specs.Given.{least_from}
use Rattle.hs_flow.proofs.naming.least_name.Given as goal

-- the names that are left decide the same
abbrev pub invariant-names : goal.invariant-names
invariant-names g l =
    least_from l.h (drop l.h l.names) ((g.A.Around.given l.around).with l.place)
    ≡ least_from 0 (g.A.Around.given l.around).names ((g.A.Around.given l.around).with l.place)
