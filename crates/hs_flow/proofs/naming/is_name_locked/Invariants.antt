use Rattle.std.proofs.Common.{◌≡◌, ◌&&◌, drop}
use Rattle.hs_flow.specs.Given.{any_from, names_slot}
use Rattle.hs_flow.proofs.naming.is_name_locked.Given as goal

-- the names that are left decide the same
abbrev pub invariant-names : goal.invariant-names
invariant-names g l =
    any_from l.h (drop l.h l.names) (λ h x. names_slot (g.A.Around.given l.around) l.slot h x && (g.A.Around.given l.around).locked h)
    ≡ any_from 0 (g.A.Around.given l.around).names (λ h x. names_slot (g.A.Around.given l.around) l.slot h x && (g.A.Around.given l.around).locked h)
